use Rattle.std.proofs.Common.{ℕ, nat_lt, nat_le, sym, arith, rules}
use Rattle.std.proofs.lemmas.List.Sorted.{IsPartitionPoint-from_clause, IsPartitionedBy-ltb}
use Rattle.event_batches.proofs.Searching.{first_failing, never_falls, from_not_below}
use Rattle.session_table.specs.declared.order.Row.{Row}
use Rattle.session_table.proofs.order.place_from.Goals as goal

abbrev id_of : Row → ℕ
id_of row = row.register

pub returns : goal.returns
returns c =
    let items = c.args.order.now.items in
    let parted = IsPartitionedBy-ltb id_of items c.args.id (never_falls id_of 0 items c.requires) in
    let point = IsPartitionPoint-from_clause (λ row. nat_lt row.register c.args.id) items c.partition_point.result c.partition_point.ensures.partitioned parted (λ a r q k. search rules) in
    sym (first_failing (λ (row : Row). nat_lt row.register c.args.id) (λ row. nat_le c.args.id row.register) (λ row. from_not_below c.args.id row.register) items c.partition_point.result (omega (arith, c.partition_point.ensures.bound)) point)
