use Rattle.std.proofs.Common.{◌+◌, sym, ap, subst, ◌∙◌}
use Rattle.std.specs.FinMap.Entries.{find}
use Rattle.host_types.specs.declared.entry.Effect.{Effect}
use Rattle.host_types.specs.declared.entry.Effect.TheVariants.{Delete}
use Rattle.host_types.specs.Cells.{Cells, text_cmp, places_of}
use Rattle.commit_lending.specs.Lent.{one_of}
use Rattle.machine.specs.Release.{AreOut, Releases}
use Rattle.resource_catalog.specs.Parts.{Names, Slots, name_cells, slot_cells}
use Rattle.resource_catalog.specs.Steps.{IsApplied, AppliedIn, unnamed_by, without_name, tidied}
use Rattle.resource_catalog.proofs.Entries.{to_T}
use Rattle.resource_catalog.proofs.Ordered.{in_order, is_whole}
use Rattle.resource_catalog.proofs.Deleted.{unnamed_cells, whole_now, empty_now, whole_tidied, tidied_cells, cells_now}
use Rattle.resource_catalog.proofs.Released.{slots_out_after, slots_new, whole_released, still_apart, releases_quiet}
use Rattle.resource_catalog.proofs.catalog.delete.Goals as goal

pub apply-requires-clause-held : goal.apply-requires-clause-held
apply-requires-clause-held c =
    let names = c.args.names.now.entries.items in
    let slots = c.args.slots.now.entries.items in
    let same = ap slot_cells c.drop_name.ensures.slots ∙ unnamed_cells (find text_cmp c.args.name.now names) slots (to_T _ c.args.slots.now.rises) in
    subst (λ (l : Cells). AreOut (places_of l) c.drop_name.new.lender) (sym same) (slots_out_after names slots c.requires.whole.apart c.args.lender.now c.requires.held c.index-by.result _ c.drop_name.new.lender c.drop_name.ensures.released)

pub apply-requires-clause-new : goal.apply-requires-clause-new
apply-requires-clause-new c =
    let names = c.args.names.now.entries.items in
    let slots = c.args.slots.now.entries.items in
    let same = ap slot_cells c.drop_name.ensures.slots ∙ unnamed_cells (find text_cmp c.args.name.now names) slots (to_T _ c.args.slots.now.rises) in
    ap (λ (l : Cells). places_of l c.args.commit) same ∙ slots_new names slots c.requires.whole.apart c.args.commit c.requires.new

pub tidy-requires : goal.tidy-requires
tidy-requires c =
    let names = c.args.names.now.entries.items in
    let slots = c.args.slots.now.entries.items in
    let is : AppliedIn c.args.commit (Delete c.args.name.now c.args.instance) c.args.instance (unnamed_by (find text_cmp c.args.name.now names) slots) c.apply.new.self.entries.items =
    subst (λ (e : Effect). AppliedIn c.args.commit e c.args.instance (unnamed_by (find text_cmp c.args.name.now names) slots) c.apply.new.self.entries.items) c.requires.told
    (subst (λ (l : Slots). AppliedIn c.args.commit c.args.effect.now c.args.instance l c.apply.new.self.entries.items) c.drop_name.ensures.slots c.apply.ensures.slots) in
    empty_now names slots (in_order c.args.names.now c.args.slots.now c.requires.whole) c.args.name.now c.args.instance c.args.commit c.apply.new.self.entries.items is

pub returns : goal.returns
returns c =
    let names = c.args.names.now.entries.items in
    let slots = c.args.slots.now.entries.items in
    let x = c.args.name.now in
    let m = c.args.instance in
    let i = c.args.commit in
    let now = c.apply.new.self.entries.items in
    let is : AppliedIn i (Delete x m) m (unnamed_by (find text_cmp x names) slots) now =
    subst (λ (e : Effect). AppliedIn i e m (unnamed_by (find text_cmp x names) slots) now) c.requires.told
    (subst (λ (l : Slots). AppliedIn i c.args.effect.now m l now) c.drop_name.ensures.slots c.apply.ensures.slots) in
    let whole2 = whole_now names slots (in_order c.args.names.now c.args.slots.now c.requires.whole) x m i now is in
    let empty = empty_now names slots (in_order c.args.names.now c.args.slots.now c.requires.whole) x m i now is in
    let same = ap slot_cells c.drop_name.ensures.slots ∙ unnamed_cells (find text_cmp x names) slots (to_T _ c.args.slots.now.rises) in
    let first : Releases (places_of (name_cells names)) (places_of (name_cells (without_name x names))) i c.args.lender.now c.drop_name.new.lender =
    subst (λ (l : Names). Releases (places_of (name_cells names)) (places_of (name_cells l)) i c.args.lender.now c.drop_name.new.lender) c.drop_name.ensures.names
    (subst (λ by. Releases (places_of (name_cells names)) (places_of (name_cells c.drop_name.new.names.entries.items)) by c.args.lender.now c.drop_name.new.lender) c.index-by.ensures c.drop_name.ensures.released) in
    let second : Releases (λ j. places_of (slot_cells slots) j + one_of i j) (places_of (slot_cells now)) i c.drop_name.new.lender c.apply.new.lender =
    subst (λ (l : Cells). Releases (λ j. places_of l j + one_of i j) (places_of (slot_cells now)) i c.drop_name.new.lender c.apply.new.lender) same c.apply.ensures.released in
    let third : Releases (λ j. places_of (slot_cells slots) j + one_of i j) (places_of (slot_cells (tidied m now))) i c.drop_name.new.lender c.tidy.new.lender =
    subst (λ (l : Cells). Releases (λ j. places_of (slot_cells slots) j + one_of i j) (places_of l) i c.drop_name.new.lender c.tidy.new.lender) (sym (tidied_cells m now (to_T _ whole2.are_slots.rises) empty))
    (releases_quiet _ _ i c.drop_name.new.lender c.apply.new.lender c.tidy.new.lender second c.tidy.ensures.lender) in
    subst (λ (l : Names). IsApplied i c.args.effect.now names slots l c.tidy.new.slots.entries.items c.args.lender.now c.tidy.new.lender) (sym c.drop_name.ensures.names)
    (subst (λ (l : Slots). IsApplied i c.args.effect.now names slots (without_name x names) l c.args.lender.now c.tidy.new.lender) (sym c.tidy.ensures.slots)
    (subst (λ (e : Effect). IsApplied i e names slots (without_name x names) (tidied m now) c.args.lender.now c.tidy.new.lender) (sym c.requires.told)
    (record {
      whole = is_whole (without_name x names) (tidied m now) (whole_tidied (without_name x names) now m whole2)
          (still_apart names slots c.requires.whole.apart i c.requires.new (without_name x names) (tidied m now) c.args.lender.now c.drop_name.new.lender c.tidy.new.lender first third);
      cells = cells_now names slots (in_order c.args.names.now c.args.slots.now c.requires.whole) x m i now is;
      released = whole_released names slots c.requires.whole.apart i c.requires.new (without_name x names) (tidied m now) c.args.lender.now c.drop_name.new.lender c.tidy.new.lender first third;
    })))
