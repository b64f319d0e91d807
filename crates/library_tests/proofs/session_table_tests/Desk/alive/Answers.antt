use Rattle.std.proofs.Common.{◌+◌, refl, subst}
use Rattle.session_table.specs.Places.{table_cells}
use Rattle.commit_lending.specs.Lent.{one_of}
use Rattle.host_types.specs.Cells.{places_of}
use Rattle.machine.specs.Release.{Releases}
use Rattle.library_tests.proofs.session_table_tests.DeskLaws.{stays_sound, alive_sound}
use Rattle.library_tests.proofs.session_table_tests.Desk.alive.Goals as goal

pub invariant_of-self : goal.invariant_of-self
invariant_of-self g c =
    alive_sound c.self.inside.table c.alive.new.self c.reserve.new.self c.lend-commit.new.self c.alive.new.lender c.self.inside.next c.args.id c.args.time c.args.seq c.args.event c.lend-commit.ensures.tokens c.alive.ensures.sessions
    (subst (λ n. Releases (λ j. places_of (table_cells c.self.inside.table) j + one_of n j) (places_of (table_cells c.alive.new.self)) n c.lend-commit.new.self c.alive.new.lender) c.lend-commit.ensures.index c.alive.ensures.released)
    (stays_sound c.self.inside.table c.self.inside.table c.self.inside.lender c.reserve.new.self c.self.inside.next refl refl c.reserve.ensures.out c.self.invariant)
