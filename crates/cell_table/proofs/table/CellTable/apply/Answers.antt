use Rattle.std.proofs.Common.{rules, ◌≡◌, ◌++◌, ◌∷◌, [], refl, ap, sym, subst, ◌∙◌}
use Rattle.host_types.specs.Cells.{cell_cmp, places_of, instance_after}
use Rattle.std.specs.BTreeMap.{is_at}
use Rattle.machine.specs.Release.{Releases}
use Rattle.machine.proofs.ReleaseLaws.{releases_as, releases_none}
use Rattle.cell_table.specs.declared.change.Change.TheVariants as change
use Rattle.cell_table.specs.Changes.{change_of}
use Rattle.std.specs.Option.{option_copied}
use Rattle.std.proofs.lemmas.Option.{none-some}
use Rattle.cell_table.specs.Slots.{Slots, slot_at, slot_places, is_among}
use Rattle.cell_table.specs.Seen.{IsReady, seen}
use Rattle.cell_table.proofs.Shown.{exact}
use Rattle.cell_table.proofs.Places.{held_seen, seen_places, applied_seen, still_out}
use Rattle.cell_table.proofs.Stepping.{owned_put, arrived_put, arrived_none, right_put, right_none, right_left}
use Rattle.cell_table.proofs.Effects.{ready_is, Put_is, put_is, after_put, after_drop, after_empty, after_wipe, after_keep}
use Rattle.cell_table.proofs.table.CellTable.apply.Goals as goal

pub put_one-requires-clause-held : goal.put_one-requires-clause-held
put_one-requires-clause-held c = held_seen c.self.inside.instance _ _ c.args.lender.now (ap (λ x. x.cells) c.self.view_is) c.requires.held

pub drop_one-requires-clause-held : goal.drop_one-requires-clause-held
drop_one-requires-clause-held c = held_seen c.self.inside.instance _ _ c.args.lender.now (ap (λ x. x.cells) c.self.view_is) c.requires.held

pub drop_all-requires : goal.drop_all-requires
drop_all-requires c = record { held = held_seen c.self.inside.instance _ _ c.args.lender.now (ap (λ x. x.cells) c.self.view_is) c.requires.held }

pub drop_each-requires-clause-held : goal.drop_each-requires-clause-held
drop_each-requires-clause-held c = held_seen c.self.inside.instance _ _ c.args.lender.now (ap (λ x. x.cells) c.self.view_is) c.requires.held

pub put_one-requires-clause-new : goal.put_one-requires-clause-new
put_one-requires-clause-new c = sym (seen_places c.self.inside.instance _ _ (ap (λ x. x.cells) c.self.view_is) c.args.commit) ∙ c.requires.new

-- ---- puts

pub invariant_of-self : goal.invariant_of-self
invariant_of-self c =
    let changes : change_of c.self.inside.kind c.self.inside.instance c.args.effect.now ≡ change.Puts = sym c.change_of.ensures ∙ c.in-Puts.is in
    let ready : IsReady (seen c.self.inside) c.args.effect.now c.args.commit = subst (λ x. IsReady x c.args.effect.now c.args.commit) (sym c.self.view_is) c.requires.ready in
    let cut : c.self.inside.ready.items ≡ c.pop.new.self.items ++ c.unwrap-cell.result ∷ [] = search rules in
    let p : Put_is c.self.inside.kind c.self.inside.slots.map.entries c.self.inside.owners.entries c.self.inside.arrivals.entries c.unwrap-cell.result c.args.commit c.args.effect.now =
    put_is c.self.inside.kind c.self.inside.instance _ _ _ c.self.inside.ready.items c.pop.new.self.items c.unwrap-cell.result c.args.commit c.args.effect.now cut (ready_is (seen c.self.inside) c.args.commit c.args.effect.now changes ready) changes in
    record {
      owned = owned_put _ _ _ c.unwrap-cell.result.cell _ exact c.self.invariant.owned p.told c.put_one.ensures.slots;
      arrived = arrived_put _ _ _ c.unwrap-cell.result.cell _ exact c.self.invariant.arrived p.arrives c.put_one.ensures.slots;
      right = right_put c.self.inside.kind _ _ c.unwrap-cell.result.cell _ exact c.self.invariant.right p.of_kind c.spelled.ensures c.put_one.ensures.slots;
    }

pub returns-in-Puts-clause-cells : goal.returns-in-Puts-clause-cells
returns-in-Puts-clause-cells c =
    let changes : change_of c.self.inside.kind c.self.inside.instance c.args.effect.now ≡ change.Puts = sym c.change_of.ensures ∙ c.in-Puts.is in
    let ready : IsReady (seen c.self.inside) c.args.effect.now c.args.commit = subst (λ x. IsReady x c.args.effect.now c.args.commit) (sym c.self.view_is) c.requires.ready in
    let cut : c.self.inside.ready.items ≡ c.pop.new.self.items ++ c.unwrap-cell.result ∷ [] = search rules in
    let p : Put_is c.self.inside.kind c.self.inside.slots.map.entries c.self.inside.owners.entries c.self.inside.arrivals.entries c.unwrap-cell.result c.args.commit c.args.effect.now =
    put_is c.self.inside.kind c.self.inside.instance _ _ _ c.self.inside.ready.items c.pop.new.self.items c.unwrap-cell.result c.args.commit c.args.effect.now cut (ready_is (seen c.self.inside) c.args.commit c.args.effect.now changes ready) changes in
    after_put c.self.inside.kind c.self.inside.instance c.args.commit c.args.effect.now c.unwrap-cell.result _ _ c.self.inside.slots.ordered c.put_one.new.slots.ordered changes p.put c.put_one.ensures.slots
    ∙ ap (λ x. instance_after x.kind x.instance x.cells c.args.commit c.args.effect.now) c.self.view_is

pub returns-in-Puts-clause-released : goal.returns-in-Puts-clause-released
returns-in-Puts-clause-released c = applied_seen c.self.inside.instance _ _ _ c.args.commit c.args.commit _ _ (ap (λ x. x.cells) c.self.view_is) c.put_one.ensures.released

-- ---- drops

pub close_own-requires : goal.close_own-requires
close_own-requires c =
    still_out (slot_places c.self.inside.slots.map.entries) (slot_places c.drop_one.new.slots.map.entries) c.args.commit c.index-index.result c.args.lender.now c.drop_one.new.lender
    (sym (seen_places c.self.inside.instance _ _ (ap (λ x. x.cells) c.self.view_is) c.args.commit) ∙ c.requires.new) c.requires.lent c.drop_one.ensures.released

pub returns-in-Drops-clause-cells : goal.returns-in-Drops-clause-cells
returns-in-Drops-clause-cells c =
    after_drop c.self.inside.kind c.self.inside.instance c.args.commit c.args.effect.now c.unwrap-cell-in-Drops.result.now _ _ c.self.inside.slots.ordered c.drop_one.new.slots.ordered (sym c.change_of.ensures ∙ c.in-Drops.is) (sym c.cell_in.ensures ∙ ap option_copied c.unwrap-cell-in-Drops.ensures) c.drop_one.ensures.slots
    ∙ ap (λ x. instance_after x.kind x.instance x.cells c.args.commit c.args.effect.now) c.self.view_is

pub returns-in-Drops-clause-released : goal.returns-in-Drops-clause-released
returns-in-Drops-clause-released c =
    let a = slot_places c.self.inside.slots.map.entries in
    let b = slot_places c.drop_one.new.slots.map.entries in
    let none : a c.args.commit ≡ 0 = sym (seen_places c.self.inside.instance _ _ (ap (λ x. x.cells) c.self.view_is) c.args.commit) ∙ c.requires.new in
    let step : Releases a b c.args.commit c.args.lender.now c.drop_one.new.lender = subst (λ i. Releases a b i c.args.lender.now c.drop_one.new.lender) c.index-index.ensures c.drop_one.ensures.released in
    applied_seen c.self.inside.instance _ _ _ c.args.commit c.args.commit _ _ (ap (λ x. x.cells) c.self.view_is) (c.close_own.ensures a b c.args.lender.now none c.requires.lent step)

-- ---- all is taken out

pub close_own-requires-in-Empties : goal.close_own-requires-in-Empties
close_own-requires-in-Empties c =
    still_out (slot_places c.self.inside.slots.map.entries) (λ j. 0) c.args.commit c.index-index.result c.args.lender.now c.drop_all.new.lender
    (sym (seen_places c.self.inside.instance _ _ (ap (λ x. x.cells) c.self.view_is) c.args.commit) ∙ c.requires.new) c.requires.lent c.drop_all.ensures.released

pub invariant_of-self-in-Empties : goal.invariant_of-self-in-Empties
invariant_of-self-in-Empties c = record { owned = λ cell f owner there is. absurd (none-some f (sym (ap (λ (xs : Slots). slot_at xs cell) c.drop_all.ensures.slots) ∙ there)); arrived = arrived_none _ _ c.drop_all.ensures.slots; right = right_none c.self.inside.kind _ c.drop_all.ensures.slots }

pub returns-in-Empties-clause-cells : goal.returns-in-Empties-clause-cells
returns-in-Empties-clause-cells c =
    after_empty c.self.inside.kind c.self.inside.instance c.args.commit c.args.effect.now _ _ c.self.inside.slots.ordered c.drop_all.new.slots.ordered (sym c.change_of.ensures ∙ c.in-Empties.is) c.drop_all.ensures.slots
    ∙ ap (λ x. instance_after x.kind x.instance x.cells c.args.commit c.args.effect.now) c.self.view_is

pub returns-in-Empties-clause-released : goal.returns-in-Empties-clause-released
returns-in-Empties-clause-released c =
    let a = slot_places c.self.inside.slots.map.entries in
    let b = slot_places c.drop_all.new.slots.map.entries in
    let none : a c.args.commit ≡ 0 = sym (seen_places c.self.inside.instance _ _ (ap (λ x. x.cells) c.self.view_is) c.args.commit) ∙ c.requires.new in
    let step : Releases a b c.args.commit c.args.lender.now c.drop_all.new.lender =
    releases_as a (λ j. 0) a b c.args.commit _ _ (λ j. refl) (λ j. ap (λ (xs : Slots). slot_places xs j) c.drop_all.ensures.slots)
    (subst (λ i. Releases a (λ j. 0) i c.args.lender.now c.drop_all.new.lender) c.index-index.ensures c.drop_all.ensures.released) in
    applied_seen c.self.inside.instance _ _ _ c.args.commit c.args.commit _ _ (ap (λ x. x.cells) c.self.view_is) (c.close_own-in-Empties.ensures a b c.args.lender.now none c.requires.lent step)

-- ---- the pairs of a key are taken out

pub close_own-requires-in-Wipes : goal.close_own-requires-in-Wipes
close_own-requires-in-Wipes c =
    still_out (slot_places c.self.inside.slots.map.entries) (slot_places c.drop_each.new.slots.map.entries) c.args.commit c.index-index.result c.args.lender.now c.drop_each.new.lender
    (sym (seen_places c.self.inside.instance _ _ (ap (λ x. x.cells) c.self.view_is) c.args.commit) ∙ c.requires.new) c.requires.lent c.drop_each.ensures.released

pub returns-in-Wipes-clause-cells : goal.returns-in-Wipes-clause-cells
returns-in-Wipes-clause-cells c =
    let ready : IsReady (seen c.self.inside) c.args.effect.now c.args.commit = subst (λ x. IsReady x c.args.effect.now c.args.commit) (sym c.self.view_is) c.requires.ready in
    after_wipe (seen c.self.inside) c.args.commit c.args.effect.now _ _ refl c.self.inside.slots.ordered c.drop_each.new.slots.ordered (sym c.change_of.ensures ∙ c.in-Wipes.is) ready c.drop_each.ensures.slots
    ∙ ap (λ x. instance_after x.kind x.instance x.cells c.args.commit c.args.effect.now) c.self.view_is

pub returns-in-Wipes-clause-released : goal.returns-in-Wipes-clause-released
returns-in-Wipes-clause-released c =
    let a = slot_places c.self.inside.slots.map.entries in
    let b = slot_places c.drop_each.new.slots.map.entries in
    let none : a c.args.commit ≡ 0 = sym (seen_places c.self.inside.instance _ _ (ap (λ x. x.cells) c.self.view_is) c.args.commit) ∙ c.requires.new in
    let step : Releases a b c.args.commit c.args.lender.now c.drop_each.new.lender = subst (λ i. Releases a b i c.args.lender.now c.drop_each.new.lender) c.index-index.ensures c.drop_each.ensures.released in
    applied_seen c.self.inside.instance _ _ _ c.args.commit c.args.commit _ _ (ap (λ x. x.cells) c.self.view_is) (c.close_own-in-Wipes.ensures a b c.args.lender.now none c.requires.lent step)

-- ---- all stays

pub returns-in-Keeps-clause-cells : goal.returns-in-Keeps-clause-cells
returns-in-Keeps-clause-cells c =
    sym (ap (λ x. x.cells) c.self.view_is)
    ∙ after_keep c.self.inside.kind c.self.inside.instance c.args.commit c.args.effect.now _ c.self.inside.slots.ordered (sym c.change_of.ensures ∙ c.in-Keeps.is)
    ∙ ap (λ x. instance_after x.kind x.instance x.cells c.args.commit c.args.effect.now) c.self.view_is

pub returns-in-Keeps-clause-released : goal.returns-in-Keeps-clause-released
returns-in-Keeps-clause-released c = c.close_own-in-Keeps.ensures (places_of c.args.self.now.cells) (places_of c.args.self.now.cells) c.args.lender.now c.requires.new c.requires.lent (releases_none (places_of c.args.self.now.cells) c.args.commit c.args.lender.now)

-- ---- the fields stay sound

pub invariant_of-self-in-Drops : goal.invariant_of-self-in-Drops
invariant_of-self-in-Drops c = record { owned = c.drop_one.ensures.owned; arrived = c.drop_one.ensures.arrived c.self.invariant.arrived; right = right_left c.self.inside.kind _ _ (is_at (cell_cmp c.unwrap-cell-in-Drops.result.now)) c.drop_one.ensures.slots c.self.invariant.right }

pub invariant_of-self-in-Wipes : goal.invariant_of-self-in-Wipes
invariant_of-self-in-Wipes c = record { owned = c.drop_each.ensures.owned; arrived = c.drop_each.ensures.arrived c.self.invariant.arrived; right = right_left c.self.inside.kind _ _ (λ k. is_among k c.self.inside.wiped.items) c.drop_each.ensures.slots c.self.invariant.right }
