use Rattle.std.proofs.Common.{◌≡◌, ◌+◌, ℕ, Bool, true, false, ◌∙◌, length, drop, sym, ap, subst, ◌++◌, arith, length-take, length-append}
use Rattle.disk_model.specs.Image.{place}
use Rattle.segment_files.specs.declared.windows.Walked.{Walked}
use Rattle.segment_files.specs.declared.rule.Rule.{Rule}
use Rattle.segment_files.specs.Parse.{behind, is_full}
use Rattle.segment_files.specs.Contents.{HasRoom, IfRight, IsMeasured, IsPutDown, Offset_list, ReadsPiece}
use Rattle.segment_files.proofs.PuttingDown.{put_none, room_none}
use Rattle.segment_files.proofs.Looking.{looks_not, looks_then, reads_still}
use Rattle.segment_files.proofs.Scanning.{ScannedTo, scanned_none, scanned_end, scanned_full, scanned_bad, scanned_gate, scanned_more}
use Rattle.segment_files.proofs.reading.read_frames.Goals as goal

pub loop-at-init : goal.loop-at-init
loop-at-init g c = record {
  looks = λ t. looks_not (g.D.Disk.view c.args.disk.now) (g.met.D.Disk.sound c.args.disk.now t);
  faults = omega arith;
  some = c.requires.buffer;
  room = subst (λ (l : Offset_list). HasRoom c.args.rule (length l)) (sym c.requires.none) (room_none c.args.rule);
  put_down = subst (λ (l : Offset_list). IsPutDown c.args.rule c.args.id.base l 64) (sym c.requires.none) (put_none c.args.rule c.args.id.base 64 c.requires.id.base_first c.requires.id.base_last c.requires.rule);
  measured = omega (arith, ap length c.requires.none);
  scanned = λ t bytes reads. scanned_none c.args.rule bytes c.args.id.base c.args.offsets.now.items c.requires.none;
}

pub returns-in-Gate-clause-frames : goal.returns-in-Gate-clause-frames
returns-in-Gate-clause-frames g c = λ t bytes reads.
    let view = g.D.Disk.view in
    let base = c.args.id.base in
    let old = c.loop-at.offsets.items in
    let new = c.read_piece.new.offsets.items in
    let now = reads_still (view c.args.disk.now) (view c.loop-at.disk) (place c.args.name.now c.args.id) bytes (c.loop-at.invariant.looks t) reads in
    scanned_gate c.args.rule bytes base old new c.loop-at.at (c.loop-at.invariant.scanned t bytes reads) c.in-Gate.behind
    (subst (λ (w : Walked). ReadsPiece c.args.rule base bytes c.loop-at.at old new w) c.in-Gate.is (c.in_ok-behind.ensures.reads t bytes now))

pub returns-in-Damaged-clause-frames : goal.returns-in-Damaged-clause-frames
returns-in-Damaged-clause-frames g c = λ t bytes reads.
    let view = g.D.Disk.view in
    let base = c.args.id.base in
    let old = c.loop-at.offsets.items in
    let new = c.read_piece.new.offsets.items in
    let now = reads_still (view c.args.disk.now) (view c.loop-at.disk) (place c.args.name.now c.args.id) bytes (c.loop-at.invariant.looks t) reads in
    scanned_bad c.args.rule bytes base old new c.loop-at.at (c.loop-at.invariant.scanned t bytes reads) c.in-Damaged.behind
    (subst (λ (w : Walked). ReadsPiece c.args.rule base bytes c.loop-at.at old new w) c.in-Damaged.is (c.in_ok-behind.ensures.reads t bytes now))

pub loop-at-preserved-then-behind-gt0 : goal.loop-at-preserved-then-behind-gt0
loop-at-preserved-then-behind-gt0 g c =
    let view = g.D.Disk.view in
    let base = c.args.id.base in
    let old = c.loop-at.offsets.items in
    let new = c.read_piece.new.offsets.items in
    record {
      looks = λ t. looks_then (view c.args.disk.now) (view c.loop-at.disk) (view c.read_piece.new.disk) (g.met.D.Disk.sound c.args.disk.now t) (c.loop-at.invariant.looks t) (c.read_piece.ensures.told t);
      faults = omega (arith, c.loop-at.invariant.faults, c.read_piece.ensures.cause.later);
      some = omega (
        arith,
        c.read_piece.auto.buffer,
        c.deref_mut.ensures.len,
        c.loop-at.buffer.ok.0,
        c.loop-at.invariant.some,
        length-take c.loop-at.buffer.len (c.read_piece.new.buffer ++ drop (length c.read_piece.new.buffer) c.loop-at.buffer.items),
        length-append c.read_piece.new.buffer (drop (length c.read_piece.new.buffer) c.loop-at.buffer.items),
      );
      room = subst (IfRight (λ k. HasRoom c.args.rule (length new))) c.in-Rest.is c.in_ok-behind.ensures.room;
      put_down = subst (IfRight (λ k. IsPutDown c.args.rule base new (c.loop-at.at + k))) c.in-Rest.is c.in_ok-behind.ensures.put_down;
      measured = omega (arith, c.loop-at.invariant.measured, subst (IsMeasured (length old) (length new)) c.in-Rest.is c.in_ok-behind.ensures.measured);
      scanned = λ t bytes reads.
          let now = reads_still (view c.args.disk.now) (view c.loop-at.disk) (place c.args.name.now c.args.id) bytes (c.loop-at.invariant.looks t) reads in
          scanned_more c.args.rule bytes base old new c.loop-at.at (c.loop-at.invariant.scanned t bytes reads) c.in-Rest.behind
          (subst (λ (w : Walked). ReadsPiece c.args.rule base bytes c.loop-at.at old new w) c.in-Rest.is (c.in_ok-behind.ensures.reads t bytes now));
    }

pub loop-at-preserved : goal.loop-at-preserved
loop-at-preserved g c =
    let view = g.D.Disk.view in
    let base = c.args.id.base in
    let old = c.loop-at.offsets.items in
    let new = c.read_piece.new.offsets.items in
    let none : c.in-Rest.behind ≡ 0 = omega (arith, c.if-behind-gt0.false) in
    record {
      looks = λ t. looks_then (view c.args.disk.now) (view c.loop-at.disk) (view c.read_piece.new.disk) (g.met.D.Disk.sound c.args.disk.now t) (c.loop-at.invariant.looks t) (c.read_piece.ensures.told t);
      faults = omega (arith, c.loop-at.invariant.faults, c.read_piece.ensures.cause.later);
      some = omega (arith, c.in_ok-lengthen-in-Rest.ensures.longer);
      room = subst (IfRight (λ k. HasRoom c.args.rule (length new))) c.in-Rest.is c.in_ok-behind.ensures.room;
      put_down = subst (λ (k : ℕ). IsPutDown c.args.rule base new k) (omega (arith, none)) (subst (IfRight (λ k. IsPutDown c.args.rule base new (c.loop-at.at + k))) c.in-Rest.is c.in_ok-behind.ensures.put_down);
      measured = omega (arith, c.loop-at.invariant.measured, subst (IsMeasured (length old) (length new)) c.in-Rest.is c.in_ok-behind.ensures.measured);
      scanned = λ t bytes reads.
          let now = reads_still (view c.args.disk.now) (view c.loop-at.disk) (place c.args.name.now c.args.id) bytes (c.loop-at.invariant.looks t) reads in
          subst (λ (k : ℕ). ScannedTo c.args.rule bytes base new k) (omega (arith, none))
          (scanned_more c.args.rule bytes base old new c.loop-at.at (c.loop-at.invariant.scanned t bytes reads) c.in-Rest.behind
          (subst (λ (w : Walked). ReadsPiece c.args.rule base bytes c.loop-at.at old new w) c.in-Rest.is (c.in_ok-behind.ensures.reads t bytes now)));
    }

-- what is left of the rule at the end of the file
left_is : (rule left : Rule) (n : ℕ) (os : Offset_list) (result t : Bool) → left ≡ behind rule n → n ≡ length os → result ≡ is_full left → result ≡ t → is_full (behind rule (length os)) ≡ t
left_is rule left n os result t is many full by = ap (λ (k : ℕ). is_full (behind rule k)) (sym many) ∙ ap is_full (sym is) ∙ sym full ∙ by

pub returns-then-is_full-clause-frames : goal.returns-then-is_full-clause-frames
returns-then-is_full-clause-frames g c = λ t bytes reads.
    scanned_full c.args.rule bytes c.args.id.base c.loop-at.offsets.items c.loop-at.offsets.items c.loop-at.at (c.loop-at.invariant.scanned t bytes reads) c.loop-at.invariant.room
    (left_is c.args.rule c.behind.result c.count.result c.loop-at.offsets.items c.is_full.result true c.behind.ensures c.count.ensures c.is_full.ensures c.if-is_full.true)

pub returns-else-is_full-clause-frames : goal.returns-else-is_full-clause-frames
returns-else-is_full-clause-frames g c = λ t bytes reads.
    scanned_end c.args.rule bytes c.args.id.base c.loop-at.offsets.items c.loop-at.offsets.items c.loop-at.at (c.loop-at.invariant.scanned t bytes reads)
    (omega (arith, c.loop-at-test.false, c.requires.end t bytes reads))
    (left_is c.args.rule c.behind.result c.count.result c.loop-at.offsets.items c.is_full.result false c.behind.ensures c.count.ensures c.is_full.ensures c.if-is_full.false)
