use Rattle.std.proofs.Common.{◌≡◌, ℕ, ◌+◌, Bool, true, false, List, length, sym, ap, subst, ◌∙◌, arith}
use Rattle.segment_files.specs.declared.rule.Rule.{Rule}
use Rattle.segment_files.specs.declared.windows.FrameRead.{FrameRead}
use Rattle.segment_files.specs.declared.windows.FrameRead.TheVariants.{Whole, Cut, Damaged}
use Rattle.segment_files.specs.Parse.{behind, is_full}
use Rattle.segment_files.specs.Contents.{AfterFrame, IsPutDown, IsRule, Offset_list, ReadsFrame, ReadsWindow, walked_shut}
use Rattle.segment_files.proofs.PuttingDown.{put_ahead, put_behind, put_up, rule_behind}
use Rattle.segment_files.proofs.Walks.{passed_none, passed_frame, passed_measured, room_frame, ends_full, ends_shut, ends_all, rests, rests_measured, rests_put, rests_room, breaks, frame_at}
use Rattle.segment_files.proofs.windows.read_window.Goals as goal

-- what is left of the rule
left_is : (rule result : Rule) (count : ℕ) (os : Offset_list) → result ≡ behind rule count → count ≡ length os → result ≡ behind rule (length os)
left_is rule result count os is many = is ∙ ap (behind rule) many

-- whether it is full
full_is : (rule left : Rule) (n : ℕ) (result t : Bool) → left ≡ behind rule n → result ≡ is_full left → result ≡ t → is_full (behind rule n) ≡ t
full_is rule left n result t left_is is by = ap is_full (sym left_is) ∙ sym is ∙ by

frame_is : (rule left : Rule) (n base : ℕ) (bytes : List ℕ) (is_end : Bool) (place : ℕ) (old new : Offset_list) (read : FrameRead) → left ≡ behind rule n → ReadsFrame left base bytes is_end place old new read → ReadsFrame (behind rule n) base bytes is_end place old new read
frame_is rule left n base bytes is_end place old new read is frame = subst (λ (r : Rule). ReadsFrame r base bytes is_end place old new read) is frame

put_is : (rule left : Rule) (n base place : ℕ) (os : Offset_list) → left ≡ behind rule n → IsPutDown left base os place → IsPutDown rule base os place
put_is rule left n base place os is put = put_ahead rule n base place os (subst (λ (r : Rule). IsPutDown r base os place) is put)

pub loop-at-init : goal.loop-at-init
loop-at-init c = record {
  measured = omega arith;
  room = c.requires.room;
  put_down = put_up c.args.rule c.args.base c.args.offsets.now.items c.args.place (c.args.place + 0) (omega arith) c.requires.put_down;
  passed = passed_none c.args.rule c.args.base c.args.window.now c.args.place c.args.offsets.now.items;
}

pub read_frame-requires-clause-rule : goal.read_frame-requires-clause-rule
read_frame-requires-clause-rule c = subst (IsRule c.args.base) (sym c.behind-rule.ensures) (rule_behind c.args.rule c.count.result c.args.base c.requires.rule)

pub read_frame-requires-clause-put_down : goal.read_frame-requires-clause-put_down
read_frame-requires-clause-put_down c =
    subst (λ (r : Rule). IsPutDown r c.args.base c.loop-at.offsets.items (c.args.place + c.loop-at.at + 1)) (sym c.behind-rule.ensures)
    (put_behind c.args.rule c.count.result c.args.base (c.args.place + c.loop-at.at + 1) c.loop-at.offsets.items (put_up c.args.rule c.args.base c.loop-at.offsets.items (c.args.place + c.loop-at.at) (c.args.place + c.loop-at.at + 1) (omega arith) c.loop-at.invariant.put_down))

pub returns-then-is_full-clause-reads : goal.returns-then-is_full-clause-reads
returns-then-is_full-clause-reads c =
    let old = c.loop-at.offsets.items in
    let left = left_is c.args.rule c.behind-rule.result c.count.result old c.behind-rule.ensures c.count.ensures in
    ends_full c.args.rule c.args.base c.args.window.now c.args.is_end c.args.place c.args.offsets.now.items old c.loop-at.at c.loop-at.invariant.passed c.loop-at.invariant.room
    (full_is c.args.rule c.behind-rule.result (length old) c.is_full.result true left c.is_full.ensures c.if-is_full.true)

pub returns-then-window-at-ne1-clause-reads : goal.returns-then-window-at-ne1-clause-reads
returns-then-window-at-ne1-clause-reads c =
    let old = c.loop-at.offsets.items in
    let left = left_is c.args.rule c.behind-rule.result c.count.result old c.behind-rule.ensures c.count.ensures in
    subst (ReadsWindow c.args.rule c.args.base c.args.window.now c.args.is_end c.args.place c.args.offsets.now.items old) (sym (c.shut_gate.ensures ∙ ap (λ (r : Rule). walked_shut r c.loop-at.at) left))
    (ends_shut c.args.rule c.args.base c.args.window.now c.args.is_end c.args.place c.args.offsets.now.items old c.loop-at.at c.loop-at.invariant.passed
    (full_is c.args.rule c.behind-rule.result (length old) c.is_full.result false left c.is_full.ensures c.if-is_full.false) c.loop-at-test.true c.if-window-at-ne1.true)

pub returns-clause-reads : goal.returns-clause-reads
returns-clause-reads c = ends_all c.args.rule c.args.base c.args.window.now c.args.is_end c.args.place c.args.offsets.now.items c.loop-at.offsets.items c.loop-at.at c.loop-at.invariant.passed c.loop-at-test.false

pub returns-in-Cut-clause-reads : goal.returns-in-Cut-clause-reads
returns-in-Cut-clause-reads c =
    let old = c.loop-at.offsets.items in
    let new = c.read_frame.new.offsets.items in
    let left = left_is c.args.rule c.behind-rule.result c.count.result old c.behind-rule.ensures c.count.ensures in
    rests c.args.rule c.args.base c.args.window.now c.args.is_end c.args.place c.args.offsets.now.items old c.loop-at.at c.loop-at.invariant.passed
    (full_is c.args.rule c.behind-rule.result (length old) c.is_full.result false left c.is_full.ensures c.if-is_full.false) c.loop-at-test.true c.if-window-at-ne1.false new
    (frame_is c.args.rule c.behind-rule.result (length old) c.args.base _ c.args.is_end (c.args.place + c.loop-at.at + 1) old new Cut left
    (frame_at c.behind-rule.result c.args.base c.args.window.now c.args.is_end c.loop-at.at (c.args.place + c.loop-at.at + 1) old new c.in_ok-size.field-0 Cut c.loop-at-test.true c.in-Cut.is c.in_ok-size.ensures.reads))

pub returns-in-Cut-clause-room : goal.returns-in-Cut-clause-room
returns-in-Cut-clause-room c =
    let old = c.loop-at.offsets.items in
    let new = c.read_frame.new.offsets.items in
    let left = left_is c.args.rule c.behind-rule.result c.count.result old c.behind-rule.ensures c.count.ensures in
    rests_room c.args.rule c.args.base c.args.window.now c.args.is_end c.args.place c.args.offsets.now.items old c.loop-at.at c.loop-at.invariant.passed
    (full_is c.args.rule c.behind-rule.result (length old) c.is_full.result false left c.is_full.ensures c.if-is_full.false) c.loop-at-test.true c.if-window-at-ne1.false new
    (frame_is c.args.rule c.behind-rule.result (length old) c.args.base _ c.args.is_end (c.args.place + c.loop-at.at + 1) old new Cut left
    (frame_at c.behind-rule.result c.args.base c.args.window.now c.args.is_end c.loop-at.at (c.args.place + c.loop-at.at + 1) old new c.in_ok-size.field-0 Cut c.loop-at-test.true c.in-Cut.is c.in_ok-size.ensures.reads))
    c.loop-at.invariant.room

pub returns-in-Cut-clause-measured : goal.returns-in-Cut-clause-measured
returns-in-Cut-clause-measured c =
    let old = c.loop-at.offsets.items in
    let new = c.read_frame.new.offsets.items in
    let left = left_is c.args.rule c.behind-rule.result c.count.result old c.behind-rule.ensures c.count.ensures in
    rests_measured c.args.rule c.args.base c.args.window.now c.args.is_end c.args.place c.args.offsets.now.items old c.loop-at.at c.loop-at.invariant.passed
    (full_is c.args.rule c.behind-rule.result (length old) c.is_full.result false left c.is_full.ensures c.if-is_full.false) c.loop-at-test.true c.if-window-at-ne1.false new
    (frame_is c.args.rule c.behind-rule.result (length old) c.args.base _ c.args.is_end (c.args.place + c.loop-at.at + 1) old new Cut left
    (frame_at c.behind-rule.result c.args.base c.args.window.now c.args.is_end c.loop-at.at (c.args.place + c.loop-at.at + 1) old new c.in_ok-size.field-0 Cut c.loop-at-test.true c.in-Cut.is c.in_ok-size.ensures.reads))
    c.loop-at.invariant.measured

pub returns-in-Cut-clause-put_down : goal.returns-in-Cut-clause-put_down
returns-in-Cut-clause-put_down c =
    let old = c.loop-at.offsets.items in
    let new = c.read_frame.new.offsets.items in
    let left = left_is c.args.rule c.behind-rule.result c.count.result old c.behind-rule.ensures c.count.ensures in
    rests_put c.args.rule c.args.base c.args.window.now c.args.is_end c.args.place c.args.offsets.now.items old c.loop-at.at c.loop-at.invariant.passed
    (full_is c.args.rule c.behind-rule.result (length old) c.is_full.result false left c.is_full.ensures c.if-is_full.false) c.loop-at-test.true c.if-window-at-ne1.false new
    (frame_is c.args.rule c.behind-rule.result (length old) c.args.base _ c.args.is_end (c.args.place + c.loop-at.at + 1) old new Cut left
    (frame_at c.behind-rule.result c.args.base c.args.window.now c.args.is_end c.loop-at.at (c.args.place + c.loop-at.at + 1) old new c.in_ok-size.field-0 Cut c.loop-at-test.true c.in-Cut.is c.in_ok-size.ensures.reads))
    c.loop-at.invariant.put_down

pub returns-in-Damaged-clause-reads : goal.returns-in-Damaged-clause-reads
returns-in-Damaged-clause-reads c =
    let old = c.loop-at.offsets.items in
    let new = c.read_frame.new.offsets.items in
    let left = left_is c.args.rule c.behind-rule.result c.count.result old c.behind-rule.ensures c.count.ensures in
    breaks c.args.rule c.args.base c.args.window.now c.args.is_end c.args.place c.args.offsets.now.items old c.loop-at.at c.loop-at.invariant.passed
    (full_is c.args.rule c.behind-rule.result (length old) c.is_full.result false left c.is_full.ensures c.if-is_full.false) c.loop-at-test.true c.if-window-at-ne1.false new c.in-Damaged.behind
    (frame_is c.args.rule c.behind-rule.result (length old) c.args.base _ c.args.is_end (c.args.place + c.loop-at.at + 1) old new (Damaged c.in-Damaged.behind) left
    (frame_at c.behind-rule.result c.args.base c.args.window.now c.args.is_end c.loop-at.at (c.args.place + c.loop-at.at + 1) old new c.in_ok-size.field-0 (Damaged c.in-Damaged.behind) c.loop-at-test.true c.in-Damaged.is c.in_ok-size.ensures.reads))

pub loop-at-preserved : goal.loop-at-preserved
loop-at-preserved c =
    let start = c.args.offsets.now.items in
    let old = c.loop-at.offsets.items in
    let new = c.read_frame.new.offsets.items in
    let size = c.in-Whole.size in
    let left = left_is c.args.rule c.behind-rule.result c.count.result old c.behind-rule.ensures c.count.ensures in
    let more = full_is c.args.rule c.behind-rule.result (length old) c.is_full.result false left c.is_full.ensures c.if-is_full.false in
    let frame = frame_is c.args.rule c.behind-rule.result (length old) c.args.base _ c.args.is_end (c.args.place + c.loop-at.at + 1) old new (Whole size) left
    (frame_at c.behind-rule.result c.args.base c.args.window.now c.args.is_end c.loop-at.at (c.args.place + c.loop-at.at + 1) old new c.in_ok-size.field-0 (Whole size) c.loop-at-test.true c.in-Whole.is c.in_ok-size.ensures.reads) in
    let put = put_is c.args.rule c.behind-rule.result (length old) c.args.base (c.args.place + c.loop-at.at + 1 + size) new left
    (subst (AfterFrame c.behind-rule.result c.args.base new (c.args.place + c.loop-at.at + 1)) c.in-Whole.is c.in_ok-size.ensures.put_down) in
    record {
      measured = passed_measured c.args.rule c.args.base c.args.window.now c.args.is_end c.args.place start old c.loop-at.at c.loop-at.invariant.passed more c.loop-at-test.true c.if-window-at-ne1.false new size frame c.loop-at.invariant.measured;
      room = room_frame c.args.rule c.args.base c.args.window.now c.args.is_end c.args.place start old c.loop-at.at c.loop-at.invariant.passed more c.loop-at-test.true c.if-window-at-ne1.false new size c.loop-at.invariant.room frame;
      put_down = put_up c.args.rule c.args.base new (c.args.place + c.loop-at.at + 1 + size) (c.args.place + (c.loop-at.at + (1 + size))) (omega arith) put;
      passed = passed_frame c.args.rule c.args.base c.args.window.now c.args.is_end c.args.place start old c.loop-at.at c.loop-at.invariant.passed more c.loop-at-test.true c.if-window-at-ne1.false new size frame;
    }
