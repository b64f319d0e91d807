use Rattle.std.proofs.Common.{◌≡◌, ◌≤◌, ◌⊎◌, ◌↔◌, List, length, get_or, Contains, All, sym, subst, rules, arith}
use Rattle.std.specs.List.{AllPairs}
use Rattle.std.specs.List.Sorted.{IsNonDecreasingBy, IsPartitionPoint}
use Rattle.std.specs.declared.cmp.Ordering.TheVariants.{Less, Greater}
use Rattle.std.specs.Ordering.{ordering_index}
use Rattle.disk_model.specs.declared.file_id.FileId.{FileId}
use Rattle.disk_model.specs.Image.{IsBelow, IsFileId}
use Rattle.disk_memory.proofs.Rising.{id_cmp, ranks_of, searchable, pairs_insert, all_insert, has_insert}
use Rattle.disk_memory.proofs.ids.put_in.Goals as goal

pub returns-in_ok-insert-in-Err-clause-rising : goal.returns-in_ok-insert-in-Err-clause-rising
returns-in_ok-insert-in-Err-clause-rising c =
    let xs = c.args.ids.now.items in
    let same : c.deref.result.now ≡ xs = c.deref.ensures.value in
    let within : c.in-Err.at ≤ length xs = search rules in
    let parts : IsPartitionPoint (λ y. id_cmp y c.args.id ≡ Less) (λ y. id_cmp y c.args.id ≡ Greater) xs c.in-Err.at = subst
    (λ (l : List FileId). IsNonDecreasingBy (λ y. ordering_index (id_cmp y c.args.id)) l → IsPartitionPoint (λ y. id_cmp y c.args.id ≡ Less) (λ y. id_cmp y c.args.id ≡ Greater) l c.in-Err.at)
    same
    c.in-Err.ensures.position
    (searchable xs c.args.id c.requires.rising) in
    subst
    (AllPairs IsBelow)
    (sym c.in_ok-insert-in-Err.ensures.items)
    (pairs_insert xs c.in-Err.at c.args.id within IsBelow c.requires.rising
    (λ k d lt. ranks_of (get_or xs k d) c.args.id Less (parts.0 k d (omega arith) lt))
    (λ k d le lt. ranks_of (get_or xs k d) c.args.id Greater (parts.1 k d le lt)))

pub returns-in_ok-insert-in-Err-clause-named : goal.returns-in_ok-insert-in-Err-clause-named
returns-in_ok-insert-in-Err-clause-named c =
    let xs = c.args.ids.now.items in
    let within : c.in-Err.at ≤ length xs = search rules in
    subst (All IsFileId) (sym c.in_ok-insert-in-Err.ensures.items) (all_insert xs c.in-Err.at c.args.id within IsFileId c.requires.named c.requires.id)

pub returns-in_ok-insert-in-Err-clause-has : goal.returns-in_ok-insert-in-Err-clause-has
returns-in_ok-insert-in-Err-clause-has c =
    let xs = c.args.ids.now.items in
    let within : c.in-Err.at ≤ length xs = search rules in
    λ one. subst (λ (l : List FileId). Contains l one ↔ (Contains xs one ⊎ (one ≡ c.args.id))) (sym c.in_ok-insert-in-Err.ensures.items) (has_insert xs c.in-Err.at c.args.id within one)
