use Rattle.std.proofs.Common.{sym, ap, subst, ◌∙◌, is_some}
use Rattle.session_table.specs.Places.{table_cells}
use Rattle.commit_lending.specs.Lent.{Lent}
use Rattle.host_types.specs.Cells.{places_of}
use Rattle.machine.specs.Release.{Releases}
use Rattle.machine.proofs.ReleaseLaws.{releases_none}
use Rattle.session_table.specs.Table.{Table}
use Rattle.host_core.proofs.Standing.{by_both}
use Rattle.host_core.proofs.Meeting.{shut, without_none, end_stays, end_stays_beside}
use Rattle.host_core.proofs.entering.enter_close.Goals.{then-is_some, else-is_some}
use Rattle.host_core.proofs.entering.enter_close.Goals as goal

pub returns-clause-sessions : goal.returns-clause-sessions
returns-clause-sessions κs c = elim c.if-is_some.branch [
  | then-is_some w ↦ ap (λ (t : Rattle.session_table.specs.Table.Table). t.sessions) w.sessions-is ∙ w.close.ensures.sessions
  | else-is_some w ↦
      ap (λ (t : Rattle.session_table.specs.Table.Table). t.sessions) w.sessions-is
      ∙ sym (without_none c.args.session c.args.sessions.now.sessions (shut c.args.session c.args.sessions.now (ap is_some (sym c.find.ensures) ∙ sym c.is_some.ensures ∙ w.if-is_some.false)))
]

pub returns-clause-beside : goal.returns-clause-beside
returns-clause-beside κs c = elim c.if-is_some.branch [
  | then-is_some w ↦ ap (λ (t : Rattle.session_table.specs.Table.Table). t.beside) w.sessions-is ∙ w.close.ensures.beside
  | else-is_some w ↦
      ap (λ (t : Rattle.session_table.specs.Table.Table). t.beside) w.sessions-is
      ∙ end_stays_beside c.args.commit (κs.M.Machine.cells c.args.machine.now) c.args.sessions.now c.args.lender.now c.requires.meets c.args.session
      (shut c.args.session c.args.sessions.now (ap is_some (sym c.find.ensures) ∙ sym c.is_some.ensures ∙ w.if-is_some.false))
]

pub returns-clause-table : goal.returns-clause-table
returns-clause-table κs c time expired = elim c.if-is_some.branch [
  | then-is_some w ↦ ap table_cells w.sessions-is ∙ w.close.ensures.cells time expired
  | else-is_some w ↦
      ap table_cells w.sessions-is
      ∙ end_stays c.args.commit (κs.M.Machine.cells c.args.machine.now) c.args.sessions.now c.args.lender.now c.requires.meets c.args.session time expired
      (shut c.args.session c.args.sessions.now (ap is_some (sym c.find.ensures) ∙ sym c.is_some.ensures ∙ w.if-is_some.false))
]

pub returns-clause-released : goal.returns-clause-released
returns-clause-released κs c =
    let machine = κs.M.Machine.cells c.args.machine.now in
    let table = c.args.sessions.now in
    let mid = c.forget_owner.new.lender in
    let same = c.index-index.ensures in
    let own = places_of (table_cells table) in
    by_both c.args.commit machine table c.args.lender.now c.requires.meets (κs.M.Machine.cells c.forget_owner.new.self) c.if-is_some.sessions mid c.if-is_some.lender c.close_own.new.lender
    (subst (λ i. Releases (places_of machine) (places_of (κs.M.Machine.cells c.forget_owner.new.self)) i c.args.lender.now mid) same c.forget_owner.ensures.released)
    (elim c.if-is_some.branch [
      | then-is_some w ↦
          subst (λ (t : Table). Releases own (places_of (table_cells t)) c.args.commit mid c.if-is_some.lender) (sym w.sessions-is)
          (subst (λ (l : Lent). Releases own (places_of (table_cells w.close.new.self)) c.args.commit mid l) (sym w.lender-is)
          (subst (λ i. Releases own (places_of (table_cells w.close.new.self)) i mid w.close.new.lender) same w.close.ensures.released))
      | else-is_some w ↦
          subst (λ (t : Table). Releases own (places_of (table_cells t)) c.args.commit mid c.if-is_some.lender) (sym w.sessions-is)
          (subst (λ (l : Lent). Releases own own c.args.commit mid l) (sym w.lender-is) (releases_none own c.args.commit mid))
    ])
    c.close_own.ensures
