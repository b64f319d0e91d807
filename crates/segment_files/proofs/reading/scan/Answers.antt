use Rattle.std.proofs.Common.{subst}
use Rattle.segment_files.specs.Parse.{parse}
use Rattle.segment_files.specs.Contents.{IsContents}
use Rattle.segment_files.proofs.Looking.{only_looked}
use Rattle.segment_files.proofs.Wholes.{part_found}
use Rattle.segment_files.proofs.reading.scan.Goals as goal

pub returns-in_err-read_file-clause-any_moment : goal.returns-in_err-read_file-clause-any_moment
returns-in_err-read_file-clause-any_moment g c = λ t.
    only_looked (g.D.Disk.view c.args.disk.now) (g.D.Disk.view c.read_file.new.disk) (g.met.D.Disk.sound c.args.disk.now t) (c.read_file.ensures.told t)

pub returns-in-Closed-clause-any_moment : goal.returns-in-Closed-clause-any_moment
returns-in-Closed-clause-any_moment g c = λ t.
    only_looked (g.D.Disk.view c.args.disk.now) (g.D.Disk.view c.read_file.new.disk) (g.met.D.Disk.sound c.args.disk.now t) (c.read_file.ensures.told t)

pub returns-in-Open-clause-any_moment : goal.returns-in-Open-clause-any_moment
returns-in-Open-clause-any_moment g c = λ t.
    only_looked (g.D.Disk.view c.args.disk.now) (g.D.Disk.view c.read_file.new.disk) (g.met.D.Disk.sound c.args.disk.now t) (c.read_file.ensures.told t)

pub returns-in-Open-clause-found : goal.returns-in-Open-clause-found
returns-in-Open-clause-found g c = λ t bytes reads.
    part_found c.args.id bytes (parse c.args.id bytes) c.in-Open.descriptor c.in-Open.offsets c.in-Open.gate c.last_by-last.result c.count.result
    (subst (IsContents c.args.id bytes (parse c.args.id bytes)) c.in-Open.is (c.in_ok-read_file.ensures.found t bytes reads)) c.count.ensures c.last_by-last.ensures
