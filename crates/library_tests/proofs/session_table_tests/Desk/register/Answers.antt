use Rattle.std.proofs.Common.{◌+◌, ◌∙◌, ◌++◌, ◌∷◌, [], ap}
use Rattle.session_table.specs.Places.{cells_of, table_cells}
use Rattle.commit_lending.specs.Lent.{one_of}
use Rattle.host_types.specs.Cells.{places_of}
use Rattle.log_model.specs.plain.Step.{new_session}
use Rattle.library_tests.proofs.session_table_tests.DeskLaws.{stays_sound, register_sound}
use Rattle.library_tests.proofs.session_table_tests.Desk.register.Goals as goal

pub invariant_of-self : goal.invariant_of-self
invariant_of-self g c =
    register_sound c.prepare_register.new.self c.register.new.self c.reserve.new.self c.lend-commit.new.self c.self.inside.next c.args.time c.args.timeout c.lend-commit.ensures.tokens
    (c.register.ensures.sessions ∙ ap (λ n. c.prepare_register.new.self.sessions ++ new_session n c.args.time c.args.timeout ∷ []) c.lend-commit.ensures.index)
    (λ j. c.register.ensures.places j ∙ ap (λ n. places_of (table_cells c.prepare_register.new.self) j + one_of n j) c.lend-commit.ensures.index)
    (stays_sound c.self.inside.table c.prepare_register.new.self c.self.inside.lender c.reserve.new.self c.self.inside.next c.prepare_register.ensures.same.sessions (ap cells_of c.prepare_register.ensures.same.beside) c.reserve.ensures.out c.self.invariant)
