use Rattle.std.proofs.Common.{◌≡◌, ℕ, ◌+◌, List, Some, is_some, sym, ap, subst, ◌∙◌, refl, arith}
use Rattle.std.specs.FinMap.Entries.{put, find}
use Rattle.std.specs.Ordering.{nat_cmp}
use Rattle.host_types.specs.declared.entry.Effect.TheVariants.{Create}
use Rattle.host_types.specs.Cells.{Cells, text_cmp, places_of}
use Rattle.commit_lending.specs.Lent.{one_of}
use Rattle.machine.proofs.ReleaseLaws.{releases_none, releases_as}
use Rattle.resource_catalog.specs.declared.names.Named.{Named}
use Rattle.resource_catalog.specs.Parts.{Names, Slots, slot_cells, whole_cells}
use Rattle.resource_catalog.specs.Steps.{IsApplied, without_slot, HasAdded}
use Rattle.resource_catalog.proofs.Entries.{to_T}
use Rattle.resource_catalog.proofs.Ordered.{InOrder, in_order, is_whole}
use Rattle.resource_catalog.proofs.Keeps.{whole_more}
use Rattle.resource_catalog.proofs.Created.{more_names, more_slots, empty_there, whole_cleared, free_now, cells_created, create_unfit}
use Rattle.resource_catalog.proofs.Deleted.{cleared_cells}
use Rattle.resource_catalog.proofs.Released.{whole_places, apart_created, releases_quiet}
use Rattle.resource_catalog.proofs.Asked.{is_copied, not_there, empty_own}
use Rattle.resource_catalog.proofs.catalog.create.Goals as goal

pub returns-then-is_some : goal.returns-then-is_some
returns-then-is_some c =
    let names = c.args.names.now.entries.items in
    let slots = c.args.slots.now.entries.items in
    let x = c.args.name.now in
    let there = ap is_some (sym c.get.ensures) ∙ is_copied c.get.result ∙ sym c.if-is_some.ensures in
    record {
      whole = c.requires.whole;
      cells = create_unfit names slots (in_order c.args.names.now c.args.slots.now c.requires.whole) c.args.commit x c.args.kind there;
      released = c.close_own.ensures (places_of (whole_cells names slots)) c.requires.new;
    }

pub take_empty-requires : goal.take_empty-requires
take_empty-requires c =
    λ s found. empty_there c.args.names.now.entries.items c.args.slots.now.entries.items (in_order c.args.names.now c.args.slots.now c.requires.whole) c.args.commit c.requires.anew s (ap (λ i. find nat_cmp i c.args.slots.now.entries.items) (sym c.index.ensures) ∙ found)

pub add-requires-clause-free : goal.add-requires-clause-free
add-requires-clause-free c =
    ap (λ (l : Slots). find nat_cmp c.args.commit l) (c.take_empty.ensures.slots ∙ ap (λ i. without_slot i c.args.slots.now.entries.items) c.index.ensures)
    ∙ free_now c.args.names.now.entries.items c.args.slots.now.entries.items (in_order c.args.names.now c.args.slots.now c.requires.whole) c.args.commit c.requires.anew

pub returns : goal.returns
returns c =
    let names = c.args.names.now.entries.items in
    let slots = c.args.slots.now.entries.items in
    let x = c.args.name.now in
    let i = c.args.commit in
    let kind = c.args.kind in
    let n : Named = record { commit = i; kind = kind } in
    let missing = ap is_some (sym c.get.ensures) ∙ is_copied c.get.result ∙ sym c.if-is_some.ensures in
    let absent = not_there (find text_cmp x names) missing in
    let copies : c.unwrap.result ≡ (x, x) = same_copies c.unwrap.result (x, x) (sym c.unwrap.ensures ∙ c.take.ensures.value ∙ c.requires.copies) in
    let cleared : c.take_empty.new.self.entries.items ≡ without_slot i slots = c.take_empty.ensures.slots ∙ ap (λ k. without_slot k slots) c.index.ensures in
    let added : HasAdded x x kind i names (without_slot i slots) c.add.new.names.entries.items c.add.new.slots.entries.items =
    subst (λ (l : Slots). HasAdded x x kind i names l c.add.new.names.entries.items c.add.new.slots.entries.items) cleared
    (subst (λ (p : List ℕ × List ℕ). HasAdded p.0 p.1 kind i names c.take_empty.new.self.entries.items c.add.new.names.entries.items c.add.new.slots.entries.items) copies c.add.ensures) in
    let t = added.slot in
    let empty = empty_there names slots (in_order c.args.names.now c.args.slots.now c.requires.whole) i c.requires.anew in
    let whole1 = whole_cleared names slots (in_order c.args.names.now c.args.slots.now c.requires.whole) i c.requires.anew c.requires.new in
    let free = free_now names slots (in_order c.args.names.now c.args.slots.now c.requires.whole) i c.requires.anew in
    let now : InOrder (put text_cmp x n names) (put nat_cmp i t (without_slot i slots)) = whole_more names (without_slot i slots) whole1 x n t absent free (empty_own i t added.slot_instance added.slot_cells) added.slot_name added.slot_kind in
    let same_slots : slot_cells (put nat_cmp i t (without_slot i slots)) ≡ slot_cells slots = more_slots i t (without_slot i slots) added.slot_cells free ∙ cleared_cells i slots (to_T _ c.args.slots.now.rises) empty in
    let same : (j : ℕ) → places_of (whole_cells (put text_cmp x n names) (put nat_cmp i t (without_slot i slots))) j ≡ places_of (whole_cells names slots) j + one_of i j =
    λ j.
    let a = whole_places (put text_cmp x n names) (put nat_cmp i t (without_slot i slots)) j in
    let b = more_names x n names j absent in
    let d = ap (λ (l : Cells). places_of l j) same_slots in
    let e = whole_places names slots j in
    omega (arith, a, b, d, e) in
    subst (λ (p : Names × Slots). IsApplied i (Create x kind) names slots p.0 p.1 c.args.lender.now c.take_empty.new.lender) (λ k. (sym added.names_put k, sym added.slots_put k))
    (record {
      whole = is_whole _ _ now (apart_created names slots c.requires.whole.apart i c.requires.new (put text_cmp x n names) (put nat_cmp i t (without_slot i slots)) (λ j. more_names x n names j absent) (λ j. ap (λ (l : Cells). places_of l j) same_slots));
      cells = cells_created names slots (in_order c.args.names.now c.args.slots.now c.requires.whole) i c.requires.anew x kind n t absent refl refl added.slot_cells now;
      released = releases_as _ _ _ _ i c.args.lender.now c.take_empty.new.lender (λ j. refl) same
          (releases_quiet (λ j. places_of (whole_cells names slots) j + one_of i j) (λ j. places_of (whole_cells names slots) j + one_of i j) i c.args.lender.now c.args.lender.now c.take_empty.new.lender
          (releases_none (λ j. places_of (whole_cells names slots) j + one_of i j) i c.args.lender.now) c.take_empty.ensures.lender);
    })
  where
    same_copies : (a b : List ℕ × List ℕ) → Some a ≡ Some b → a ≡ b
    same_copies a b e = (cc)
