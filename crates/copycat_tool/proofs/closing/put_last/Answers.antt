use Rattle.std.proofs.Common.{inl, inr, refl, take}
use Rattle.copycat_tool.proofs.Writing.{wrote_part}
use Rattle.copycat_tool.proofs.closing.put_last.Goals as goal

pub returns-in-Ok-clause-closes : goal.returns-in-Ok-clause-closes
returns-in-Ok-clause-closes g c = (c.args.line.now, c.in-Ok.ensures.whole, record { how = inl (refl, refl) })

pub returns-in-Err-clause-closes : goal.returns-in-Err-clause-closes
returns-in-Err-clause-closes g c =
    let p = wrote_part (g.O.Sink.written c.args.out.now) (g.O.Sink.written c.put_all.new.out) c.args.line.now c.requires.some c.in-Err.ensures.part in
    (take p.0 c.args.line.now, p.2, record { how = inr (p.0, refl, p.1, refl) })
