use Rattle.machine.proofs.ReleaseLaws.{releases_both}
use Rattle.library_tests.proofs.machine_tests.forget_both.Goals as goal

pub returns : goal.returns
returns g c = releases_both _ _ _ _ c.args.by _ _ _ c.requires.apart c.forget_owner.ensures.released c.forget_owner-2.ensures.released
