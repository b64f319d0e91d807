use Rattle.std.proofs.Common.{◌≡◌, ◌-◌, length, take, sym, arith, length-take}
use Rattle.std.proofs.lemmas.Bool.{eqb-true}
use Rattle.segment_files.proofs.Scanning.{piece}
use Rattle.segment_files.proofs.reading.read_piece.Goals as goal

pub returns-clause-reads : goal.returns-clause-reads
returns-clause-reads g c = λ t bytes reads.
    let into = c.in_ok-count.ensures.bytes t bytes reads in
    let window = take c.min-want.result c.args.buffer.now in
    let size : length c.read.new.buffer ≡ length window = c.read.auto.buffer in
    let want : length window ≡ c.min-want.result = grind (arith, c.min-want.ensures, length-take c.min-want.result c.args.buffer.now) in
    piece c.args.rule c.args.id.base bytes _ c.read.new.buffer _ c.args.at c.args.end c.in_ok-count.count c.args.offsets.now.items c.read_window.new.offsets.items c.in_ok-walked.walked
    (c.requires.end t bytes reads) c.requires.within (sym size) (omega (arith, c.if-count-want.false, want))
    (λ is. let all : c.min-want.result ≡ c.args.end - c.args.at = eqb-true c.min-want.result (c.args.end - c.args.at) is in omega (arith, all, size, want)) into c.in_ok-walked.ensures.reads

pub returns-then-count-want-clause-reads : goal.returns-then-count-want-clause-reads
returns-then-count-want-clause-reads g c = λ t bytes reads.
    let into = c.in_ok-count.ensures.bytes t bytes reads in
    absurd (omega (arith, into.count, c.if-count-want.true, c.min-want.ensures, c.requires.end t bytes reads, length-take c.min-want.result c.args.buffer.now))
