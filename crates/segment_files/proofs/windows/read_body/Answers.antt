use Rattle.std.proofs.Common.{◌+◌, ◌∙◌, length, sym, subst, arith}
use Rattle.segment_files.specs.declared.windows.EntryRead.TheVariants.{Whole, Damaged}
use Rattle.segment_files.specs.Contents.{AfterEntry}
use Rattle.segment_files.proofs.Bodies.{body_start, breaks_full, breaks_next, one_more, holds_all, next_at}
use Rattle.segment_files.proofs.PuttingDown.{put_up}
use Rattle.segment_files.proofs.windows.read_body.Goals as goal

pub loop-at-init : goal.loop-at-init
loop-at-init c = record {
  put_down = put_up c.args.rule c.args.base c.args.offsets.now.items c.args.place (c.args.place + 0) (omega arith) c.requires.put_down;
  passed = body_start c.args.rule c.args.base c.args.body.now c.args.place c.args.offsets.now.items;
}

pub returns-then-count-room-clause-reads : goal.returns-then-count-room-clause-reads
returns-then-count-room-clause-reads c =
    breaks_full c.args.rule c.args.base c.args.body.now c.args.place c.loop-at.count c.loop-at.at c.args.offsets.now.items c.loop-at.offsets.items c.loop-at.invariant.passed c.loop-at-test.true (c.if-count-room.true ∙ c.room-room.ensures)

pub returns-in-Damaged-clause-reads : goal.returns-in-Damaged-clause-reads
returns-in-Damaged-clause-reads c =
    let old = c.loop-at.offsets.items in
    let new = c.read_next.new.offsets.items in
    let none = next_at c.args.rule c.args.base c.args.body.now c.loop-at.at (c.args.place + c.loop-at.at) old new c.in_ok-size.field-0 (Damaged c.in-Damaged.behind) c.in-Damaged.is c.in_ok-size.ensures.reads in
    breaks_next c.args.rule c.args.base c.args.body.now c.args.place c.loop-at.count c.loop-at.at c.args.offsets.now.items old c.loop-at.invariant.passed c.loop-at-test.true (λ is. c.if-count-room.false (is ∙ sym c.room-room.ensures)) new c.in-Damaged.behind none

pub loop-at-preserved : goal.loop-at-preserved
loop-at-preserved c =
    let old = c.loop-at.offsets.items in
    let new = c.read_next.new.offsets.items in
    let next = next_at c.args.rule c.args.base c.args.body.now c.loop-at.at (c.args.place + c.loop-at.at) old new c.in_ok-size.field-0 (Whole c.in-Whole.size) c.in-Whole.is c.in_ok-size.ensures.reads in
    record {
      put_down = put_up c.args.rule c.args.base new (c.args.place + c.loop-at.at + c.in-Whole.size) (c.args.place + (c.loop-at.at + c.in-Whole.size)) (omega arith)
          (subst (AfterEntry c.args.rule c.args.base new (c.args.place + c.loop-at.at)) c.in-Whole.is c.in_ok-size.ensures.put_down);
      passed = one_more c.args.rule c.args.base c.args.body.now c.args.place c.loop-at.count c.loop-at.at c.args.offsets.now.items old c.loop-at.invariant.passed c.loop-at-test.true (λ is. c.if-count-room.false (is ∙ sym c.room-room.ensures)) new c.in-Whole.size next;
    }

pub loop-at-smaller : goal.loop-at-smaller
loop-at-smaller c =
    let (index, entry, reads, t, items, some, short, by) =
    next_at c.args.rule c.args.base c.args.body.now c.loop-at.at (c.args.place + c.loop-at.at) c.loop-at.offsets.items c.read_next.new.offsets.items c.in_ok-size.field-0 (Whole c.in-Whole.size) c.in-Whole.is c.in_ok-size.ensures.reads in
    omega (arith, some, c.loop-at-test.true)

pub returns-clause-reads : goal.returns-clause-reads
returns-clause-reads c =
    holds_all c.args.rule c.args.base c.args.body.now c.args.place c.loop-at.count c.loop-at.at c.args.offsets.now.items c.loop-at.offsets.items c.loop-at.invariant.passed c.loop-at-test.false

pub returns-clause-put_down : goal.returns-clause-put_down
returns-clause-put_down c = put_up c.args.rule c.args.base c.loop-at.offsets.items (c.args.place + c.loop-at.at) (c.args.place + length c.args.body.now) (omega (arith, c.loop-at.invariant.passed.within)) c.loop-at.invariant.put_down
