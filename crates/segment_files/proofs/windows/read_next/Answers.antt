use Rattle.std.proofs.Common.{ℕ, ap, length, Err, sym, subst, ◌∙◌, arith}
use Rattle.entry_codec.specs.Answered.{IsRead, LiesWithin}
use Rattle.entry_codec.specs.Reading.{spelling}
use Rattle.entry_codec.specs.declared.fault.ReadFault.{ReadFault}
use Rattle.segment_files.specs.Parse.{follows, is_misplaced}
use Rattle.segment_files.specs.Contents.{last_read}
use Rattle.segment_files.proofs.Bodies.{fit_next, misplaced_next, next_follows, some_bytes, spoils_next}
use Rattle.segment_files.proofs.PuttingDown.{few_indexes, follows_above, last_low, may_follow, put_more}
use Rattle.segment_files.proofs.windows.read_next.Goals as goal

pub last_of-before-requires-clause-room : goal.last_of-before-requires-clause-room
last_of-before-requires-clause-room c = let few = few_indexes c.args.rule c.args.base c.args.offsets.now.items c.requires.base_last c.requires.rule c.requires.put_down.counts in omega (arith, few)

pub begins_elsewhere-requires : goal.begins_elsewhere-requires
begins_elsewhere-requires c = let few = few_indexes c.args.rule c.args.base c.args.offsets.now.items c.requires.base_last c.requires.rule c.requires.put_down.counts in omega (arith, few, c.last_of-before.ensures)

pub returns-then-begins_elsewhere-clause-reads : goal.returns-then-begins_elsewhere-clause-reads
returns-then-begins_elsewhere-clause-reads c =
    misplaced_next c.args.rule c.args.base c.args.bytes.now c.args.place c.args.offsets.now.items
    (ap (λ (k : ℕ). is_misplaced (follows c.args.rule) k c.args.bytes.now) (sym c.last_of-before.ensures) ∙ sym c.begins_elsewhere.ensures ∙ c.if-begins_elsewhere.true)

pub returns-in-Err-Bad-clause-reads : goal.returns-in-Err-Bad-clause-reads
returns-in-Err-Bad-clause-reads c =
    spoils_next c.args.rule c.args.base c.args.bytes.now c.args.place c.args.offsets.now.items
    (ap (λ (k : ℕ). is_misplaced (follows c.args.rule) k c.args.bytes.now) (sym c.last_of-before.ensures) ∙ sym c.begins_elsewhere.ensures ∙ c.if-begins_elsewhere.false)
    c.in-Err-Bad.at
    (subst (λ (f : ReadFault). IsRead (spelling c.args.bytes.now) (Err f)) c.in-Err-Bad.field-0-is c.in-Err-Bad.ensures.exact)
    (subst (LiesWithin (length c.args.bytes.now)) c.in-Err-Bad.field-0-is c.in-Err-Bad.ensures.within)

pub returns-in-Ok-push-clause-reads : goal.returns-in-Ok-push-clause-reads
returns-in-Ok-push-clause-reads c =
    let found = c.in-Ok.found in
    fit_next c.args.rule c.args.base c.args.bytes.now c.args.place c.args.offsets.now.items
    (ap (λ (k : ℕ). is_misplaced (follows c.args.rule) k c.args.bytes.now) (sym c.last_of-before.ensures) ∙ sym c.begins_elsewhere.ensures ∙ c.if-begins_elsewhere.false)
    c.push.new.self.items found.0 found.1 found.2 c.in-Ok.ensures.exact
    c.in-Ok-push.ensures.ok
    (some_bytes c.args.bytes.now found.0 found.1 found.2 c.in-Ok.ensures.found.spelled)
    c.in-Ok.ensures.found.within
    c.in-Ok.ensures.found.spelled

pub returns-in-Ok-push-clause-put_down : goal.returns-in-Ok-push-clause-put_down
returns-in-Ok-push-clause-put_down c =
    let found = c.in-Ok.found in
    let old = c.args.offsets.now.items in
    let placed = ap (λ (k : ℕ). is_misplaced (follows c.args.rule) k c.args.bytes.now) (sym c.last_of-before.ensures) ∙ sym c.begins_elsewhere.ensures ∙ c.if-begins_elsewhere.false in
    put_more c.args.rule c.args.base c.args.place old found.0 (next_follows (follows c.args.rule) c.args.bytes.now (last_read c.args.base old) placed found.0 found.1 found.2 c.in-Ok.ensures.exact) c.requires.put_down
    c.push.new.self.items found.2 c.in-Ok-push.ensures.ok (some_bytes c.args.bytes.now found.0 found.1 found.2 c.in-Ok.ensures.found.spelled)

pub push-requires : goal.push-requires
push-requires c =
    let found = c.in-Ok.found in
    let old = c.args.offsets.now.items in
    let placed = ap (λ (k : ℕ). is_misplaced (follows c.args.rule) k c.args.bytes.now) (sym c.last_of-before.ensures) ∙ sym c.begins_elsewhere.ensures ∙ c.if-begins_elsewhere.false in
    may_follow c.args.rule c.args.base c.args.place old found.0 (next_follows (follows c.args.rule) c.args.bytes.now (last_read c.args.base old) placed found.0 found.1 found.2 c.in-Ok.ensures.exact) c.requires.put_down

pub overflow_sub-index : goal.overflow_sub-index
overflow_sub-index c =
    let found = c.in-Ok.found in
    let old = c.args.offsets.now.items in
    let placed = ap (λ (k : ℕ). is_misplaced (follows c.args.rule) k c.args.bytes.now) (sym c.last_of-before.ensures) ∙ sym c.begins_elsewhere.ensures ∙ c.if-begins_elsewhere.false in
    let t = next_follows (follows c.args.rule) c.args.bytes.now (last_read c.args.base old) placed found.0 found.1 found.2 c.in-Ok.ensures.exact in
    omega (arith, follows_above c.args.rule (last_read c.args.base old) found.0 t, last_low c.args.base old)
