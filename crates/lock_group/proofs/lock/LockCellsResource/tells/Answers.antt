use Rattle.std.proofs.Common.{◌≡◌, subst}
use Rattle.std.specs.Prelude.{IfOk}
use Rattle.cell_table.specs.Seen.{Table}
use Rattle.log_model.specs.plain.Plain.{Lock_is}
use Rattle.log_model.specs.kinds.Deciding.{effect_tells}
use Rattle.lock_group.specs.Waiters.{waiters_in}
use Rattle.lock_group.proofs.lock.LockCellsResource.tells.Goals as goal

pub returns : goal.returns
returns c =
    subst (λ (x : Table). IfOk c.tells.result (λ told. told ≡ effect_tells c.args._index c.args.name.now (Lock_is (waiters_in x.instance x.cells)) c.args.effect.now)) c.self.view_is (c.tells.ensures c.args._index)
