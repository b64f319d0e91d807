use Rattle.std.proofs.Common.{rules, ◌≡◌, ◌&&◌, true, [], ◌∷◌, ap, sym, subst, ◌∙◌}
use Rattle.std.specs.Option.{option_copied}
use Rattle.std.specs.Ordering.{is_le}
use Rattle.std.specs.List.Sorted.{IsStrictlySortedBy}
use Rattle.std.proofs.lemmas.List.Kept.{IsStrictlySortedBy-filter}
use Rattle.std.proofs.lemmas.Map.Keys.{sorted_tail}
use Rattle.host_types.specs.Cells.{cell_cmp}
use Rattle.cell_table.proofs.Owning.{OwnsAmong, AllUp, keys_from, all_up, owns_first, passed_over, first_of_owner, owns_none}
use Rattle.cell_table.proofs.owners.first_among.Goals as goal

pub loop-cell-init : goal.loop-cell-init
loop-cell-init c =
    let es = c.args.slots.now.map.entries in
    let from = c.args.from.now in
    let ks = c.args.cells.now.keys in
    let same : c.into_iter-cell-iterator.result ≡ keys_from from ks = c.into_iter-cell-iterator.ensures.into_iter_gives ∙ c.range-cell-items.ensures.between tt in (
      tt,
      tt,
      subst (IsStrictlySortedBy cell_cmp) (sym same) (IsStrictlySortedBy-filter cell_cmp (λ k. is_le (cell_cmp from k) && true) ks c.range-cell-items.ensures.ordered),
      subst (OwnsAmong es c.args.owner from) (sym same) (owns_first es c.args.owner from ks c.requires),
      subst (AllUp from) (sym same) (all_up from ks),
    )

pub loop-cell-preserved : goal.loop-cell-preserved
loop-cell-preserved c =
    let step : c.loop-cell.cell-iterator ≡ c.in-Some.cell.now ∷ c.next.new.self = search rules in (
      tt,
      tt,
      sorted_tail cell_cmp c.in-Some.cell.now c.next.new.self (subst (IsStrictlySortedBy cell_cmp) step c.loop-cell.invariant.2),
      passed_over c.args.slots.now.map.entries c.args.owner c.args.from.now c.in-Some.cell.now c.next.new.self (subst (OwnsAmong c.args.slots.now.map.entries c.args.owner c.args.from.now) step c.loop-cell.invariant.3) (sym c.owned_at.ensures ∙ ap option_copied c.in_default.is),
      (subst (AllUp c.args.from.now) step c.loop-cell.invariant.4).1,
    )

pub returns-in-Some-owned_at-clause-some : goal.returns-in-Some-owned_at-clause-some
returns-in-Some-owned_at-clause-some c =
    let step : c.loop-cell.cell-iterator ≡ c.in-Some.cell.now ∷ c.next.new.self = search rules in
    first_of_owner c.args.slots.now.map.entries c.args.owner c.args.from.now c.in-Some.cell.now c.in-Some-owned_at.filled.now c.next.new.self (subst (OwnsAmong c.args.slots.now.map.entries c.args.owner c.args.from.now) step c.loop-cell.invariant.3) (subst (IsStrictlySortedBy cell_cmp) step c.loop-cell.invariant.2)
    (subst (AllUp c.args.from.now) step c.loop-cell.invariant.4).0
    (sym c.owned_at.ensures ∙ ap option_copied c.in-Some-owned_at.is)

pub returns-clause-none : goal.returns-clause-none
returns-clause-none c =
    let step : c.loop-cell.cell-iterator ≡ [] = search rules in
    owns_none c.args.slots.now.map.entries c.args.owner c.args.from.now (subst (OwnsAmong c.args.slots.now.map.entries c.args.owner c.args.from.now) step c.loop-cell.invariant.3)
