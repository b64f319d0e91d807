use Rattle.library_tests.proofs.machines.Earlier.{anew_as, earlier_as}
use Rattle.library_tests.proofs.machines.store.Goals as goal

pub apply-requires-clause-anew : goal.apply-requires-clause-anew
apply-requires-clause-anew g c = anew_as c.args.index _ _ _ c.args.effect.now c.prepare.ensures.cells c.lend-commit.ensures.index c.requires.earlier c.requires.first

pub returns-clause-earlier : goal.returns-clause-earlier
returns-clause-earlier g c = earlier_as c.args.index _ _ _ _ c.args.effect.now c.prepare.ensures.cells c.lend-commit.ensures.index c.apply.ensures.cells c.requires.earlier
