use Rattle.std.proofs.Common.{rules, ◌≡◌, [], ◌∷◌, ap, sym, subst, ◌∙◌}
use Rattle.std.specs.Option.{option_copied}
use Rattle.std.specs.Ordering.{nat_cmp}
use Rattle.std.specs.Map.{keys_of}
use Rattle.std.specs.List.Sorted.{IsStrictlySortedBy}
use Rattle.std.proofs.lemmas.Map.Keys.{sorted_tail}
use Rattle.cell_table.specs.Arrivals.{Arrivals}
use Rattle.cell_table.proofs.Coming.{AreAmong, AllFrom, arrivals_from, rise_from, among_first, all_from, passed_by, first_is, nobody}
use Rattle.cell_table.proofs.arrivals.first_arrived.Goals as goal

abbrev Rise : Arrivals → Type 0
Rise rest = IsStrictlySortedBy nat_cmp (keys_of rest)

pub loop-index-init : goal.loop-index-init
loop-index-init c =
    let es = c.args.arrivals.now.entries in
    let from = c.args.from in
    let same : c.into_iter-index-iterator.result ≡ arrivals_from from es = c.into_iter-index-iterator.ensures.into_iter_gives ∙ c.range-index-items.ensures.between tt in (
      tt,
      tt,
      subst Rise (sym same) (rise_from from es c.range-index-items.ensures.ordered),
      subst (AreAmong c.args.slots.now.map.entries from) (sym same) (among_first c.args.slots.now.map.entries from es c.requires),
      subst (AllFrom from) (sym same) (all_from from es),
    )

pub loop-index-preserved : goal.loop-index-preserved
loop-index-preserved c =
    let step : c.loop-index.index-iterator ≡ (c.in-Some.index.now, c.in-Some.cell.now) ∷ c.next.new.self = search rules in (
      tt,
      tt,
      sorted_tail nat_cmp c.in-Some.index.now (keys_of c.next.new.self) (subst Rise step c.loop-index.invariant.2),
      passed_by c.args.slots.now.map.entries c.args.from c.in-Some.index.now c.in-Some.cell.now c.next.new.self (subst (AreAmong c.args.slots.now.map.entries c.args.from) step c.loop-index.invariant.3) (sym c.waiter_at.ensures ∙ ap option_copied c.in_default.is),
      (subst (AllFrom c.args.from) step c.loop-index.invariant.4).1,
    )

pub returns-in-Some-waiter_at-clause-some : goal.returns-in-Some-waiter_at-clause-some
returns-in-Some-waiter_at-clause-some c =
    let step : c.loop-index.index-iterator ≡ (c.in-Some.index.now, c.in-Some.cell.now) ∷ c.next.new.self = search rules in
    first_is c.args.slots.now.map.entries c.args.from c.in-Some.index.now c.in-Some.cell.now c.in-Some-waiter_at.filled.now c.next.new.self (subst (AreAmong c.args.slots.now.map.entries c.args.from) step c.loop-index.invariant.3) (subst Rise step c.loop-index.invariant.2)
    (subst (AllFrom c.args.from) step c.loop-index.invariant.4).0
    (sym c.waiter_at.ensures ∙ ap option_copied c.in-Some-waiter_at.is)

pub returns-clause-none : goal.returns-clause-none
returns-clause-none c =
    let step : c.loop-index.index-iterator ≡ [] = search rules in
    nobody c.args.slots.now.map.entries c.args.from (subst (AreAmong c.args.slots.now.map.entries c.args.from) step c.loop-index.invariant.3)
