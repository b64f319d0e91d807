use Rattle.segment_files.proofs.Looking.{looks_then}
use Rattle.segment_files.proofs.reading.read_file.Goals as goal

pub returns-in-Some-clause-told : goal.returns-in-Some-clause-told
returns-in-Some-clause-told g c = λ t.
    let view = g.D.Disk.view in
    looks_then (view c.args.disk.now) (view c.read_head.new.disk) (view c.read_part.new.disk) (g.met.D.Disk.sound c.args.disk.now t) (c.read_head.ensures.told t) (c.read_part.ensures.told t)
