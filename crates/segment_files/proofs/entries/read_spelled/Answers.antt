use Rattle.std.proofs.Common.{◌+◌, length, arith}
use Rattle.segment_files.proofs.Copying.{only_size}
use Rattle.segment_files.proofs.Standing.{whole, spelled_first, spelled_here}
use Rattle.segment_files.proofs.entries.read_spelled.Goals as goal

pub returns-in-Ok-clause-spelled : goal.returns-in-Ok-clause-spelled
returns-in-Ok-clause-spelled g c = λ t bytes reads size index entry at fits.
    let into = c.in_ok-count.ensures.bytes t bytes reads in
    let n = c.in_ok-count.count in
    let old = c.args.buffer.now in
    let new = c.read.new.buffer in
    let to = c.args.from + length old in
    let here = c.in-Ok.ensures.only size index entry
    (whole bytes old new c.args.from to n size index entry (omega arith) c.read.auto.buffer into at (omega (arith, fits)))
    (spelled_here bytes old new c.args.from to n size index entry (omega arith) c.read.auto.buffer into at (omega (arith, fits))) in
    (only_size index c.in-Ok.size c.in-Ok.entry c.in-Ok.field-0-0 size entry here, spelled_first bytes old new c.args.from to n size index entry (omega arith) c.read.auto.buffer into at (omega (arith, fits)))
