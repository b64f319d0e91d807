use Rattle.std.proofs.Common.{◌≡◌, ◌++◌, sym, ap, subst, ◌∙◌}
use Rattle.host_core.specs.Batching.{AreBatchesOf, ended_by, told_above, told_by}
use Rattle.host_core.specs.Entering.{Entered, HasRoomFor, Meets, beside_after}
use Rattle.session_table.specs.Table.{confirmed_positions}
use Rattle.session_table.specs.Places.{table_cells}
use Rattle.host_core.specs.Marking.{AreMarked, HasMarks}
use Rattle.host_core.proofs.Confirming.{confirmed_entered}
use Rattle.host_core.proofs.Keeping.{absent, meets, state_is, is_kept}
use Rattle.host_core.proofs.Marking.{are_marked, can_mark_closed, has_marks}
use Rattle.host_core.proofs.taking.take.Goals as goal

pub lend-commit-requires-clause-absent : goal.lend-commit-requires-clause-absent
lend-commit-requires-clause-absent κs c = absent κs.M.Machine.cells κs.M.Machine.decides _ c.requires.awaits.kept c.args.index c.requires.awaits.behind

pub enter-requires-clause-meets : goal.enter-requires-clause-meets
enter-requires-clause-meets κs c =
    subst (λ i. Meets i (κs.M.Machine.cells c.args.machine.now) c.args.sessions.now c.lend-commit.new.self) (sym c.lend-commit.ensures.index)
    (meets κs.M.Machine.cells κs.M.Machine.decides _ c.requires.awaits.kept c.args.index c.lend-commit.new.self c.requires.awaits.behind c.lend-commit.ensures.tokens)

pub enter-requires-clause-room : goal.enter-requires-clause-room
enter-requires-clause-room κs c =
    subst (λ i. HasRoomFor (κs.M.Machine.is_ready c.args.machine.now) c.args.sessions.now i c.args.entry.body) (sym c.lend-commit.ensures.index) c.requires.room

pub enter-requires-clause-batches : goal.enter-requires-clause-batches
enter-requires-clause-batches κs c =
    subst (λ i. AreBatchesOf (told_above c.args.cut i (told_by κs.M.Machine.decides (κs.M.Machine.cells c.args.machine.now) i c.args.entry.body)) (ended_by c.args.entry.body) c.args.sessions.now.sessions c.args.batches.entries) (sym c.lend-commit.ensures.index) c.requires.batches

pub mark_closed-requires : goal.mark_closed-requires
mark_closed-requires κs c =
    let entered = subst (λ i. Entered i c.args.entry c.args.cut (told_by κs.M.Machine.decides (κs.M.Machine.cells c.args.machine.now) i c.args.entry.body) (κs.M.Machine.cells c.args.machine.now) (κs.M.Machine.cells c.enter.new.machine) c.args.sessions.now c.enter.new.sessions c.lend-commit.new.self c.enter.new.lender) c.lend-commit.ensures.index c.enter.ensures in
    can_mark_closed c.args.index (κs.M.Machine.cells c.args.machine.now) (κs.M.Machine.cells c.enter.new.machine) c.args.sessions.now c.enter.new.sessions c.lend-commit.new.self c.enter.new.lender c.args.marks.now
    c.requires.awaits.added entered.released (c.lend-commit.ensures.closed ∙ c.requires.awaits.kept.closed)

pub returns-clause-marks : goal.returns-clause-marks
returns-clause-marks κs c =
    let entered = subst (λ i. Entered i c.args.entry c.args.cut (told_by κs.M.Machine.decides (κs.M.Machine.cells c.args.machine.now) i c.args.entry.body) (κs.M.Machine.cells c.args.machine.now) (κs.M.Machine.cells c.enter.new.machine) c.args.sessions.now c.enter.new.sessions c.lend-commit.new.self c.enter.new.lender) c.lend-commit.ensures.index c.enter.ensures in
    subst (AreMarked c.args.index (κs.M.Machine.cells c.args.machine.now ++ table_cells c.args.sessions.now) (κs.M.Machine.cells c.enter.new.machine ++ table_cells c.enter.new.sessions) c.args.marks.now) (sym c.mark_closed.ensures.marks)
    (are_marked c.args.index (κs.M.Machine.cells c.args.machine.now) (κs.M.Machine.cells c.enter.new.machine) c.args.sessions.now c.enter.new.sessions c.lend-commit.new.self c.enter.new.lender c.args.marks.now
    c.requires.awaits.added entered.released (c.lend-commit.ensures.closed ∙ c.requires.awaits.kept.closed))

pub returns-clause-kept : goal.returns-clause-kept
returns-clause-kept κs c =
    let entered = subst (λ i. Entered i c.args.entry c.args.cut (told_by κs.M.Machine.decides (κs.M.Machine.cells c.args.machine.now) i c.args.entry.body) (κs.M.Machine.cells c.args.machine.now) (κs.M.Machine.cells c.enter.new.machine) c.args.sessions.now c.enter.new.sessions c.lend-commit.new.self c.enter.new.lender) c.lend-commit.ensures.index c.enter.ensures in
    is_kept κs.M.Machine.cells κs.M.Machine.decides _ c.requires.awaits.kept c.args.index c.args.cut c.args.entry c.requires.awaits.behind c.requires.fits c.requires.range
    c.enter.new.machine c.enter.new.sessions c.lend-commit.new.self c.enter.new.lender c.mark_closed.new.lender c.mark_closed.new.marks c.lend-commit.ensures.tokens entered c.mark_closed.ensures.out c.mark_closed.ensures.closed
    (subst (HasMarks c.args.index (κs.M.Machine.cells c.enter.new.machine ++ table_cells c.enter.new.sessions)) (sym c.mark_closed.ensures.marks)
    (has_marks c.args.index (κs.M.Machine.cells c.args.machine.now) (κs.M.Machine.cells c.enter.new.machine) c.args.sessions.now c.enter.new.sessions c.lend-commit.new.self c.enter.new.lender c.args.marks.now
    c.requires.awaits.added entered.released (c.lend-commit.ensures.closed ∙ c.requires.awaits.kept.closed)))

pub returns-clause-state : goal.returns-clause-state
returns-clause-state κs c =
    let entered = subst (λ i. Entered i c.args.entry c.args.cut (told_by κs.M.Machine.decides (κs.M.Machine.cells c.args.machine.now) i c.args.entry.body) (κs.M.Machine.cells c.args.machine.now) (κs.M.Machine.cells c.enter.new.machine) c.args.sessions.now c.enter.new.sessions c.lend-commit.new.self c.enter.new.lender) c.lend-commit.ensures.index c.enter.ensures in
    state_is κs.M.Machine.cells κs.M.Machine.decides _ c.requires.awaits.kept c.args.index c.args.cut c.args.entry c.requires.awaits.behind c.requires.fits c.requires.range
    c.enter.new.machine c.enter.new.sessions c.lend-commit.new.self c.enter.new.lender c.mark_closed.new.lender c.mark_closed.new.marks c.lend-commit.ensures.tokens entered c.mark_closed.ensures.out c.mark_closed.ensures.closed
    (subst (HasMarks c.args.index (κs.M.Machine.cells c.enter.new.machine ++ table_cells c.enter.new.sessions)) (sym c.mark_closed.ensures.marks)
    (has_marks c.args.index (κs.M.Machine.cells c.args.machine.now) (κs.M.Machine.cells c.enter.new.machine) c.args.sessions.now c.enter.new.sessions c.lend-commit.new.self c.enter.new.lender c.args.marks.now
    c.requires.awaits.added entered.released (c.lend-commit.ensures.closed ∙ c.requires.awaits.kept.closed)))

pub returns-clause-positions : goal.returns-clause-positions
returns-clause-positions κs c =
    ap confirmed_positions (subst (λ i. c.enter.new.sessions.beside ≡ beside_after i c.args.entry.body c.args.sessions.now.beside) c.lend-commit.ensures.index c.enter.ensures.beside_is)
    ∙ confirmed_entered c.args.index c.args.entry.body c.args.sessions.now.beside
