use Rattle.std.proofs.Common.{take, sym, subst, ◌∙◌, arith}
use Rattle.std.proofs.lemmas.Result.{err_from_is_err_and}
use Rattle.disk_model.specs.Image.{place}
use Rattle.segment_files.specs.declared.reading.Contents.{Contents}
use Rattle.segment_files.specs.declared.reading.Contents.TheVariants.{Open}
use Rattle.segment_files.specs.declared.reading.Frames.{Frames}
use Rattle.segment_files.specs.Parse.{Found, parse}
use Rattle.segment_files.specs.Contents.{HasFrames, IsContents}
use Rattle.segment_files.proofs.Looking.{looks_then, reads_still, read_before, listed_still}
use Rattle.segment_files.proofs.Wholes.{bad_frames, is_part, rule_read, other_fault, cause_passed, no_cause}
use Rattle.segment_files.proofs.reading.read_part.Goals as goal

pub read_frames-requires-clause-listed : goal.read_frames-requires-clause-listed
read_frames-requires-clause-listed g c = λ t.
    let view = g.D.Disk.view in
    listed_still (view c.args.disk.now) (view c.length.new.self) (place c.args.name.now c.args.id) (c.in_ok-end.ensures.told t) (c.requires.listed t)

pub read_frames-requires-clause-end : goal.read_frames-requires-clause-end
read_frames-requires-clause-end g c = λ t bytes reads.
    let view = g.D.Disk.view in
    c.in_ok-end.ensures.length t bytes (read_before (view c.args.disk.now) (view c.length.new.self) (place c.args.name.now c.args.id) bytes (c.in_ok-end.ensures.told t) reads)

pub returns-in_err-at-clause-found : goal.returns-in_err-at-clause-found
returns-in_err-at-clause-found g c =
    let p = err_from_is_err_and c.from_residual-in_err-at.result c.from_residual-in_err-at.ensures.1 in
    rw (p.1, p.2) (λ t bytes reads head. other_fault (parse c.args.id bytes) c.in_err-at.field-0.0 c.in_err-at.ensures.no_damage)

pub returns-in_err-at-clause-told : goal.returns-in_err-at-clause-told
returns-in_err-at-clause-told g c = λ t.
    let view = g.D.Disk.view in
    looks_then (view c.args.disk.now) (view c.length.new.self) (view c.read_frames.new.disk) (g.met.D.Disk.sound c.args.disk.now t) (c.in_ok-end.ensures.told t) (c.read_frames.ensures.told t)

pub returns-in_err-at-clause-cause : goal.returns-in_err-at-clause-cause
returns-in_err-at-clause-cause g c =
    let p = err_from_is_err_and c.from_residual-in_err-at.result c.from_residual-in_err-at.ensures.1 in
    let faults = g.D.Disk.faults in
    rw (p.1, p.2) (cause_passed {T = Frames} {U = Contents} (faults c.args.disk.now) (faults c.length.new.self) (faults c.read_frames.new.disk) c.in_err-at.field-0.0 c.in_ok-end.ensures.cause.later c.in_err-at.ensures.cause)

pub returns-in-Damaged-clause-found : goal.returns-in-Damaged-clause-found
returns-in-Damaged-clause-found g c = λ t bytes reads head.
    let view = g.D.Disk.view in
    let now = reads_still (view c.args.disk.now) (view c.length.new.self) (place c.args.name.now c.args.id) bytes (c.in_ok-end.ensures.told t) reads in
    bad_frames c.args.id bytes head.0 head.2 c.rule-rule.result c.read_frames.new.offsets.items c.in-Damaged.at (c.rule-rule.ensures ∙ rule_read c.args.id (take 64 bytes) c.args.descriptor head.1)
    (subst (λ (f : Frames). HasFrames c.rule-rule.result bytes c.args.id.base c.read_frames.new.offsets.items f) c.in-Damaged.is (c.in_ok-at.ensures.frames t bytes now))

pub returns-in-Damaged-clause-told : goal.returns-in-Damaged-clause-told
returns-in-Damaged-clause-told g c = λ t.
    let view = g.D.Disk.view in
    looks_then (view c.args.disk.now) (view c.length.new.self) (view c.read_frames.new.disk) (g.met.D.Disk.sound c.args.disk.now t) (c.in_ok-end.ensures.told t) (c.read_frames.ensures.told t)

pub returns-in-Damaged-clause-cause : goal.returns-in-Damaged-clause-cause
returns-in-Damaged-clause-cause g c =
    let faults = g.D.Disk.faults in
    no_cause (faults c.args.disk.now) (faults c.read_frames.new.disk) _ (omega (arith, c.in_ok-end.ensures.cause.later, c.read_frames.ensures.cause.later)) (λ is. absurd (cc))

pub returns-clause-found : goal.returns-clause-found
returns-clause-found g c = λ t bytes reads head.
    let view = g.D.Disk.view in
    let offsets = c.read_frames.new.offsets in
    let now = reads_still (view c.args.disk.now) (view c.length.new.self) (place c.args.name.now c.args.id) bytes (c.in_ok-end.ensures.told t) reads in
    let frames = subst (λ (f : Frames). HasFrames c.rule-rule.result bytes c.args.id.base offsets.items f) c.in-End.is (c.in_ok-at.ensures.frames t bytes now) in
    let part = is_part c.args.id bytes head.0 head.2 offsets.items c.in-End.gate c.rule-rule.result (c.rule-rule.ensures ∙ rule_read c.args.id (take 64 bytes) c.args.descriptor head.1) frames c.args.descriptor head.1 in
    subst (λ (f : Found). IsContents c.args.id bytes f (Open c.args.descriptor offsets c.in-End.gate)) (sym part.1) (part.2, part.3)

pub returns-clause-told : goal.returns-clause-told
returns-clause-told g c = λ t.
    let view = g.D.Disk.view in
    looks_then (view c.args.disk.now) (view c.length.new.self) (view c.read_frames.new.disk) (g.met.D.Disk.sound c.args.disk.now t) (c.in_ok-end.ensures.told t) (c.read_frames.ensures.told t)

pub returns-clause-cause : goal.returns-clause-cause
returns-clause-cause g c =
    let faults = g.D.Disk.faults in
    no_cause (faults c.args.disk.now) (faults c.read_frames.new.disk) _ (omega (arith, c.in_ok-end.ensures.cause.later, c.read_frames.ensures.cause.later)) (λ is. absurd (cc))
