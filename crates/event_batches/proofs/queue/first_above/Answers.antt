use Rattle.std.proofs.Common.{◌∙◌, sym, nat_lt, nat_le, arith, rules}
use Rattle.std.proofs.lemmas.List.Sorted.{IsPartitionPoint-from_clause, IsPartitionedBy-leb}
use Rattle.event_batches.proofs.Searching.{lent_at, first_failing, never_falls, above_not_below}
use Rattle.event_batches.proofs.queue.first_above.Goals as goal

pub returns : goal.returns
returns c =
    let items = c.args.kept.now.items in
    let parted = IsPartitionedBy-leb (λ b. b.index) items c.args.index (never_falls (λ b. b.index) 0 items c.requires) in
    let point = IsPartitionPoint-from_clause (λ b. nat_le b.index c.args.index) items c.partition_point-place.result c.partition_point-place.ensures.partitioned parted (λ a r q k. search rules) in
    lent_at items c.partition_point-place.result c.get.result c.get.ensures.item
    ∙ sym (first_failing (λ b. nat_le b.index c.args.index) (λ b. nat_lt c.args.index b.index) (λ b. above_not_below c.args.index b.index) items c.partition_point-place.result (omega (arith, c.partition_point-place.ensures.bound)) point)
