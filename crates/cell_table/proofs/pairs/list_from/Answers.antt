use Rattle.std.proofs.Common.{rules, ◌≡◌, true, false, ◌∷◌, Option, sym, subst, ◌∙◌}
use Rattle.std.specs.List.{filter}
use Rattle.std.specs.Ordering.{is_le}
use Rattle.host_types.specs.declared.entry.Cell.{Cell}
use Rattle.host_types.specs.Cells.{cell_cmp}
use Rattle.cell_table.specs.declared.filled.Filled.{Filled}
use Rattle.cell_table.specs.Pairs.{is_pair_of}
use Rattle.cell_table.proofs.Walks.{and_true}
use Rattle.cell_table.proofs.Paired.{IsLookedAt, look_first, look_on, look_done}
use Rattle.cell_table.proofs.pairs.list_from.Goals as goal

pub loop-cell-init : goal.loop-cell-init
loop-cell-init c =
    look_first c.args.key.now c.args.slots.now.map.entries _ c.args.from.now _ c.range-cell-items.ensures.ordered c.requires.spelled c.requires.least c.requires.empty
    (c.into_iter-cell-iterator.ensures.into_iter_gives ∙ c.range-cell-items.ensures.between tt
    ∙ (λ i. filter (λ (e : Cell × Option Filled). and_true (is_le (cell_cmp c.args.from.now e.0)) i) c.args.slots.now.map.entries))

pub loop-cell-preserved : goal.loop-cell-preserved
loop-cell-preserved c =
    let step : c.loop-cell.cell-iterator ≡ (c.in-Some.cell.now, c.in-Some.field-0-1.now) ∷ c.next.new.self = search rules in
    let pair : is_pair_of c.args.key.now c.in-Some.cell.now ≡ true = search rules in
    subst (λ xs. IsLookedAt c.args.key.now c.args.slots.now.map.entries xs c.next.new.self) (sym c.in_ok-push.ensures.items)
    (look_on c.args.key.now c.args.slots.now.map.entries c.loop-cell.listed.items c.in-Some.cell.now c.in_ok-copy.field-0 c.in-Some.field-0-1.now c.next.new.self
    (subst (IsLookedAt c.args.key.now c.args.slots.now.map.entries c.loop-cell.listed.items) step c.loop-cell.invariant) c.in_ok-copy.ensures pair)

pub returns-then-not-is_pair_of : goal.returns-then-not-is_pair_of
returns-then-not-is_pair_of c =
    let step : c.loop-cell.cell-iterator ≡ (c.in-Some.cell.now, c.in-Some.field-0-1.now) ∷ c.next.new.self = search rules in
    let out : is_pair_of c.args.key.now c.in-Some.cell.now ≡ false = search rules in
    look_done c.args.key.now c.args.slots.now.map.entries c.loop-cell.listed.items c.in-Some.cell.now c.in-Some.field-0-1.now c.next.new.self
    (subst (IsLookedAt c.args.key.now c.args.slots.now.map.entries c.loop-cell.listed.items) step c.loop-cell.invariant) out
