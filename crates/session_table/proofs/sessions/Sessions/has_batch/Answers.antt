use Rattle.std.proofs.Common.{◌∙◌, ap, sym, Some, None}
use Rattle.std.specs.Option.{option_copied}
use Rattle.session_table.specs.Asked.{keeps_batch}
use Rattle.session_table.proofs.Tables.{read_in}
use Rattle.session_table.proofs.sessions.Sessions.has_batch.Goals as goal

pub returns-in-Some : goal.returns-in-Some
returns-in-Some c =
    let r = read_in c.self.inside c.args.self.now c.args.id (Some c.in-Some.session.now) c.self.invariant c.self.view_is (sym (ap option_copied c.in-Some.is) ∙ c.session_in.ensures) in c.has_batch.ensures ∙ ap (keeps_batch c.args.event) (sym r.0)

pub returns-in-None : goal.returns-in-None
returns-in-None c =
    let r = read_in c.self.inside c.args.self.now c.args.id (None) c.self.invariant c.self.view_is (sym (ap option_copied c.in-None.is) ∙ c.session_in.ensures) in ap (keeps_batch c.args.event) (sym r.0)
