use Rattle.std.proofs.Common.{◌∙◌, sym, nat_lt, nat_le, arith, rules}
use Rattle.std.proofs.lemmas.List.Sorted.{IsPartitionPoint-from_clause, IsPartitionedBy-ltb}
use Rattle.event_batches.proofs.Searching.{lent_at, first_failing, never_falls, from_not_below}
use Rattle.session_table.proofs.replies.first_from.Goals as goal

pub returns : goal.returns
returns c =
    let items = c.args.kept.now.items in
    let parted = IsPartitionedBy-ltb (λ b. b.seq) items c.args.seq (never_falls (λ b. b.seq) 0 items c.requires) in
    let point = IsPartitionPoint-from_clause (λ b. nat_lt b.seq c.args.seq) items c.partition_point-place.result c.partition_point-place.ensures.partitioned parted (λ a r q k. search rules) in
    lent_at items c.partition_point-place.result c.get.result c.get.ensures.item
    ∙ sym (first_failing (λ b. nat_lt b.seq c.args.seq) (λ b. nat_le c.args.seq b.seq) (λ b. from_not_below c.args.seq b.seq) items c.partition_point-place.result (omega (arith, c.partition_point-place.ensures.bound)) point)
