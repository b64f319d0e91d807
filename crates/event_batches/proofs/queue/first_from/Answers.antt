use Rattle.std.proofs.Common.{◌∙◌, sym, nat_lt, nat_le, arith, rules}
use Rattle.std.proofs.lemmas.List.Sorted.{IsPartitionPoint-from_clause, IsPartitionedBy-ltb}
use Rattle.event_batches.proofs.Searching.{lent_at, first_failing, never_falls, from_not_below}
use Rattle.event_batches.proofs.queue.first_from.Goals as goal

pub returns : goal.returns
returns c =
    let items = c.args.kept.now.items in
    let parted = IsPartitionedBy-ltb (λ b. b.index) items c.args.index (never_falls (λ b. b.index) 0 items c.requires) in
    let point = IsPartitionPoint-from_clause (λ b. nat_lt b.index c.args.index) items c.partition_point-place.result c.partition_point-place.ensures.partitioned parted (λ a r q k. search rules) in
    lent_at items c.partition_point-place.result c.get.result c.get.ensures.item
    ∙ sym (first_failing (λ b. nat_lt b.index c.args.index) (λ b. nat_le c.args.index b.index) (λ b. from_not_below c.args.index b.index) items c.partition_point-place.result (omega (arith, c.partition_point-place.ensures.bound)) point)
