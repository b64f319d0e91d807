use Rattle.std.proofs.Common.{arith}
use Rattle.host_types.specs.Cells.{places_of}
use Rattle.session_table.specs.Places.{table_cells}
use Rattle.session_table.proofs.Holding.{places_in, retired_none, retired_all, nothing_left}
use Rattle.session_table.proofs.sessions.Sessions.end.Goals as goal

pub loop-register-init : goal.loop-register-init
loop-register-init c = retired_none (places_of (table_cells c.args.self)) c.self.inside.order.items c.args.lender.now (λ j. places_in c.self.inside c.args.self j c.self.invariant.seated c.self.view_is) c.requires

pub returns : goal.returns
returns c =
    retired_all (places_of (table_cells c.args.self)) c.self.inside.order.items c.loop-register.order.items c.args.lender.now c.loop-register.lender
    (λ j. places_in c.self.inside c.args.self j c.self.invariant.seated c.self.view_is)
    (nothing_left c.loop-register.order.items (omega (arith, c.in_default.ensures.cases.0, c.loop-register.order.ok.0)))
    c.loop-register.invariant
