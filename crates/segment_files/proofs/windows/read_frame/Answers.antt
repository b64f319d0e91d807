use Rattle.std.proofs.Common.{◌≡◌, inl, inr, ℕ, ◌+◌, ◌-◌, Bool, true, false, not, ◌&&◌, nat_lt, if◌then◌else◌, List, length, take, drop, Option, Some, None, refl, sym, ap, subst, ◌∙◌, arith}
use Rattle.std.proofs.lemmas.Bool.{lt-ltb}
use Rattle.segment_files.specs.declared.rule.Rule.{Rule}
use Rattle.segment_files.specs.Contents.{Offset_list, ReadsBody, ReadsFrame}
use Rattle.segment_files.specs.declared.windows.FrameRead.TheVariants.{Damaged, Whole}
use Rattle.segment_files.proofs.Framing.{cut_length, cut_body, no_frame_size, frame_broken, frame_right}
use Rattle.segment_files.proofs.windows.read_frame.Goals as goal
use Rattle.segment_files.proofs.windows.read_frame.Goals.{then-size-lt-BODY_LEAST-via-then-size-lt-BODY_LEAST, then-size-lt-BODY_LEAST-via-else-size-lt-BODY_LEAST+then-size-gt-BODY_LIMIT}

pub returns-then-behind-lt4-clause-reads : goal.returns-then-behind-lt4-clause-reads
returns-then-behind-lt4-clause-reads c =
    subst (ReadsFrame c.args.rule c.args.base c.args.behind.now c.args.is_end c.args.place c.args.offsets.now.items c.args.offsets.now.items) (sym c.cut_frame.ensures) (cut_length c.args.rule c.args.base c.args.place c.args.behind.now c.args.offsets.now.items c.args.is_end (omega arith))

pub returns-then-size-lt-BODY_LEAST-clause-reads : goal.returns-then-size-lt-BODY_LEAST-clause-reads
returns-then-size-lt-BODY_LEAST-clause-reads c =
    no_frame_size c.args.rule c.args.base c.args.place c.args.behind.now c.args.offsets.now.items c.if-behind-lt4.false c.args.is_end
    (elim c.then-size-lt-BODY_LEAST.branch [
      | then-size-lt-BODY_LEAST-via-then-size-lt-BODY_LEAST w ↦ inl (omega (arith, w.if-size-lt-BODY_LEAST.true, c.u32_at-size.ensures))
      | then-size-lt-BODY_LEAST-via-else-size-lt-BODY_LEAST+then-size-gt-BODY_LIMIT w ↦ inr (omega (arith, w.if-size-gt-BODY_LIMIT.true, c.u32_at-size.ensures))
    ])

is_open : (t is_end : Bool) → t ≡ true → (t && not is_end) ≡ false → is_end ≡ true
is_open true true t_is is = refl
is_open true false t_is is = absurd (cc)
is_open false is_end t_is is = absurd (cc)

is_cut : (t is_end : Bool) → (t && not is_end) ≡ true → is_end ≡ false
is_cut true true is = absurd (cc)
is_cut true false is = refl
is_cut false is_end is = absurd (cc)

pub returns-then-wants_more-clause-reads : goal.returns-then-wants_more-clause-reads
returns-then-wants_more-clause-reads c = cut_body c.args.rule c.args.base c.args.place c.args.behind.now c.args.offsets.now.items c.args.is_end (is_cut _ c.args.is_end (sym c.wants_more.ensures ∙ c.if-wants_more.true))

body_as : (rule : Rule) (base : ℕ) (behind : List ℕ) (place n there : ℕ) (old new : Offset_list) (a b : Option ℕ) → n ≡ there → a ≡ b → ReadsBody rule base (take n (drop 4 behind)) place old new a → ReadsBody rule base (take there (drop 4 behind)) place old new b
body_as rule base behind place n there old new a b n_is is read =
    subst (λ (k : ℕ). ReadsBody rule base (take k (drop 4 behind)) place old new b) n_is (subst (λ (x : Option ℕ). ReadsBody rule base (take n (drop 4 behind)) place old new x) is read)

pub returns-in-Some-clause-reads : goal.returns-in-Some-clause-reads
returns-in-Some-clause-reads c =
    let there = c.min-there.result in
    let read = c.u32_at-size.result in
    frame_broken c.args.rule c.args.base c.args.place c.args.behind.now c.args.offsets.now.items c.if-behind-lt4.false c.args.is_end there (omega (arith, c.u32_at-size.ensures, c.if-size-lt-BODY_LEAST.false)) (omega (arith, c.u32_at-size.ensures, c.if-size-gt-BODY_LIMIT.false))
    (omega (arith, c.u32_at-size.ensures, c.min-there.ensures))
    (λ less. is_open (nat_lt there read) c.args.is_end (lt-ltb there read (omega (arith, less, c.u32_at-size.ensures))) (sym c.wants_more.ensures ∙ c.if-wants_more.false))
    c.read_body.new.offsets.items c.in-Some.at
    (body_as c.args.rule c.args.base c.args.behind.now (c.args.place + 4) (4 + there - 4) there c.args.offsets.now.items c.read_body.new.offsets.items c.in_ok-at.field-0 (Some c.in-Some.at) (omega arith) c.in-Some.is c.in_ok-at.ensures.reads)

pub returns-in-None-clause-reads : goal.returns-in-None-clause-reads
returns-in-None-clause-reads c =
    let there = c.min-there.result in
    let read = c.u32_at-size.result in
    let behind = c.args.behind.now in
    subst (ReadsFrame c.args.rule c.args.base behind c.args.is_end c.args.place c.args.offsets.now.items c.read_body.new.offsets.items)
    (sym (c.right_frame.ensures ∙ ap (λ (k : ℕ). if nat_lt (length behind) (4 + k) then Damaged (length behind) else Whole (4 + k)) c.u32_at-size.ensures))
    (frame_right c.args.rule c.args.base c.args.place behind c.args.offsets.now.items c.if-behind-lt4.false c.args.is_end there (omega (arith, c.u32_at-size.ensures, c.if-size-lt-BODY_LEAST.false)) (omega (arith, c.u32_at-size.ensures, c.if-size-gt-BODY_LIMIT.false))
    (omega (arith, c.u32_at-size.ensures, c.min-there.ensures))
    (λ less. is_open (nat_lt there read) c.args.is_end (lt-ltb there read (omega (arith, less, c.u32_at-size.ensures))) (sym c.wants_more.ensures ∙ c.if-wants_more.false))
    c.read_body.new.offsets.items
    (body_as c.args.rule c.args.base behind (c.args.place + 4) (4 + there - 4) there c.args.offsets.now.items c.read_body.new.offsets.items c.in_ok-at.field-0 None (omega arith) c.in-None.is c.in_ok-at.ensures.reads))
