use Rattle.std.proofs.Common.{◌≡◌, [], sym, subst}
use Rattle.host_types.specs.Decision.{Decides}
use Rattle.host_types.specs.declared.entry.Kind.TheVariants.{Lock}
use Rattle.log_model.specs.plain.Rows.{lock_row}
use Rattle.log_model.specs.kinds.Deciding.{chosen, call_of}
use Rattle.lock_group.specs.Waiters.{waiters_in}
use Rattle.lock_group.proofs.lock.decide.Goals as goal

pub returns-in-Lock : goal.returns-in-Lock
returns-in-Lock c = λ index. subst (λ o. chosen Lock (lock_row (call_of [] c.args.table.now.instance c.args.session index) (waiters_in c.args.table.now.instance c.args.table.now.cells) o) ≡ Decides c.lock.result.effect c.lock.result.reply) (sym c.in-Lock.is) (c.lock.ensures index)

pub returns-in-Try : goal.returns-in-Try
returns-in-Try c = λ index. subst (λ o. chosen Lock (lock_row (call_of [] c.args.table.now.instance c.args.session index) (waiters_in c.args.table.now.instance c.args.table.now.cells) o) ≡ Decides c.try_lock.result.effect c.try_lock.result.reply) (sym c.in-Try.is) (c.try_lock.ensures index)
