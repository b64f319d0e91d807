use Rattle.std.proofs.Common.{arith}
use Rattle.session_table.proofs.Holding.{covered_is_lent, both_released, one_itself}
use Rattle.session_table.proofs.order.close_row.Goals as goal

pub close-requires : goal.close-requires
close-requires c = let a = c.requires c.args.row.register in omega (arith, a, one_itself c.args.row.register)

pub close_held-requires : goal.close_held-requires
close_held-requires c = covered_is_lent c.args.row.alive c.close.new.self (λ j. let a = c.requires j in let b = c.close.ensures.tokens j in omega (arith, a, b))

pub returns-clause-released : goal.returns-clause-released
returns-clause-released c = both_released c.args.row.register c.args.row.alive c.args.by c.args.lender.now c.close.new.self c.close_held.new.lender c.close.ensures.tokens c.close.ensures.closed c.close.ensures.spare c.close_held.ensures
