use Rattle.std.proofs.Common.{◌∙◌, ap, arith}
use Rattle.session_table.specs.Table.{Table, ids}
use Rattle.session_table.proofs.Walks.{ids_listed}
use Rattle.session_table.proofs.sessions.Sessions.ids.Goals as goal

pub returns : goal.returns
returns c =
    ids_listed c.self.inside.order.items c.self.inside.slots c.loop-place.place c.loop-place.ids.items c.self.invariant.seated (omega (arith, c.loop-place-test.false, c.len-place-end.ensures, c.self.inside.order.ok.0)) c.loop-place.invariant
    ∙ ap (λ (t : Table). ids t) c.self.view_is
