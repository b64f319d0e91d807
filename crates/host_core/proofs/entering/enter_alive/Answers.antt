use Rattle.std.proofs.Common.{sym, ap, subst, ◌∙◌, ◌+◌, is_some}
use Rattle.host_types.specs.Cells.{places_of}
use Rattle.commit_lending.specs.Lent.{one_of}
use Rattle.machine.specs.Release.{Releases}
use Rattle.session_table.specs.Places.{cells_of, table_cells}
use Rattle.log_model.specs.plain.Step.{changed}
use Rattle.log_model.specs.replay.Replay.{after_alive, noted}
use Rattle.log_model.proofs.hosted.OneByOne.{changes_compose}
use Rattle.log_model.proofs.replay.Rising.{alive_id}
use Rattle.host_core.proofs.Meeting.{none_of_table, is_lent, changed_none, shut, open_changed, alive_stays, alive_stays_beside, is_open}
use Rattle.host_core.proofs.entering.enter_alive.Goals as goal

pub returns-then-is_none-clause-sessions : goal.returns-then-is_none-clause-sessions
returns-then-is_none-clause-sessions c = sym (changed_none c.args.session _ c.args.sessions.now.sessions (shut c.args.session c.args.sessions.now (ap is_some (sym c.find.ensures) ∙ c.if-is_none.ensures)))

pub returns-then-is_none-clause-table : goal.returns-then-is_none-clause-table
returns-then-is_none-clause-table c =
    alive_stays c.args.commit c.requires.meets.0 c.args.sessions.now c.args.lender.now c.requires.meets.1 c.args.session c.args.time c.args.seq c.args.event
    (shut c.args.session c.args.sessions.now (ap is_some (sym c.find.ensures) ∙ c.if-is_none.ensures))

pub returns-then-is_none-clause-beside : goal.returns-then-is_none-clause-beside
returns-then-is_none-clause-beside c =
    alive_stays_beside c.args.commit c.requires.meets.0 c.args.sessions.now c.args.lender.now c.requires.meets.1 c.args.session _
    (shut c.args.session c.args.sessions.now (ap is_some (sym c.find.ensures) ∙ c.if-is_none.ensures))

pub alive-requires-clause-new : goal.alive-requires-clause-new
alive-requires-clause-new c = none_of_table c.args.commit c.requires.meets.0 c.args.sessions.now c.args.lender.now c.requires.meets.1

pub note-requires : goal.note-requires
note-requires c =
    ap (λ ss. is_some (Rattle.log_model.specs.plain.Plain.session_in c.args.session ss)) c.alive.ensures.sessions
    ∙ open_changed c.args.session (after_alive c.args.time c.args.seq c.args.event) (alive_id c.args.time c.args.seq c.args.event) c.args.sessions.now.sessions
    ∙ sym (is_open c.args.session c.args.sessions.now) ∙ ap is_some (sym c.find.ensures) ∙ c.if-is_none.ensures

pub returns-clause-sessions : goal.returns-clause-sessions
returns-clause-sessions c =
    c.note.ensures.sessions ∙ ap (changed c.args.session (noted c.args.seq)) c.alive.ensures.sessions
    ∙ changes_compose c.args.session (after_alive c.args.time c.args.seq c.args.event) (noted c.args.seq) c.args.sessions.now.sessions (alive_id c.args.time c.args.seq c.args.event)

pub returns-clause-table : goal.returns-clause-table
returns-clause-table c = ap cells_of c.note.ensures.beside ∙ c.alive.ensures.cells

pub close_own-requires : goal.close_own-requires
close_own-requires c = is_lent c.args.commit c.requires.meets.0 c.args.sessions.now c.args.lender.now c.requires.meets.1

pub returns-then-is_none-clause-released : goal.returns-then-is_none-clause-released
returns-then-is_none-clause-released c = c.close_own.ensures (places_of (table_cells c.args.sessions.now)) (none_of_table c.args.commit c.requires.meets.0 c.args.sessions.now c.args.lender.now c.requires.meets.1)

pub returns-clause-released : goal.returns-clause-released
returns-clause-released c =
    subst (λ bs. Releases (λ j. places_of (table_cells c.args.sessions.now) j + one_of c.args.commit j) (places_of (cells_of bs)) c.args.commit c.args.lender.now c.alive.new.lender)
    (sym c.note.ensures.beside) c.alive.ensures.released
