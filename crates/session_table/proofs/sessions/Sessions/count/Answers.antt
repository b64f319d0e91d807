use Rattle.std.proofs.Common.{◌∙◌, length, ap, sym}
use Rattle.session_table.specs.Table.{Table}
use Rattle.session_table.proofs.Tables.{count_seats}
use Rattle.session_table.proofs.sessions.Sessions.count.Goals as goal

pub returns : goal.returns
returns c =
    c.len.ensures ∙ c.self.inside.order.ok.0 ∙ sym (count_seats c.self.inside.order.items c.self.inside.slots c.self.invariant.seated)
    ∙ ap (λ (t : Table). length t.sessions) c.self.view_is
