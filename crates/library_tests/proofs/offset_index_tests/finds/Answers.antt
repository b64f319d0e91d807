use Rattle.library_tests.proofs.offset_index_tests.Looks.{eleven}
use Rattle.library_tests.proofs.offset_index_tests.finds.Goals as goal

pub returns : goal.returns
returns g c = eleven _ _ _ c.check_few.ensures c.find.ensures.cost
