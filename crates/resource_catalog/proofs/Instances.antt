-- The names of a catalog by their instances, as its cells show them and as it keeps them; and so its events, of whatever kinds.
use Rattle.std.proofs.Common.{◌≡◌, ℕ, true, false, cond, T, List, [], ◌∷◌, ◌++◌, Option, Some, None, refl, sym, ap, subst, ◌∙◌}
use Rattle.std.specs.List.{flat_map}
use Rattle.std.specs.Option.{option_map}
use Rattle.std.specs.FinMap.{nat_cmp-IsAntisymmetric}
use Rattle.std.specs.FinMap.Entries.{find, below_all, is_sorted}
use Rattle.std.specs.Ordering.{nat_cmp, is_lt, eq_by_cmp}
use Rattle.std.specs.Cmp.{nat_cmp_total}
use Rattle.host_types.specs.declared.entry.Kind.{Kind}
use Rattle.host_types.specs.declared.entry.Effect.{Effect}
use Rattle.host_types.specs.Cells.{Place, Name_at, Cell_at, Register_at, Alive_at, Held, Cells, text_cmp, at}
use Rattle.log_model.specs.replay.Telling.{named_pick}
use Rattle.log_model.proofs.kinds.Gather.{none_some, gather_is}
use Rattle.log_model.proofs.Lookups.{below_missing, tied_true, tied_same}
use Rattle.resource_catalog.specs.declared.names.Named.{Named}
use Rattle.resource_catalog.specs.declared.slots.Slot.{Slot}
use Rattle.log_model.specs.kinds.Reading.{kind_decision}
use Rattle.resource_catalog.specs.Kinds.{any_kind, any_instance, any_cells}
use Rattle.resource_catalog.specs.Catalog.{part, instances, tells_named, closes_kind}
use Rattle.resource_catalog.specs.Parts.{Names, Slots, name_held, whole_cells}
use Rattle.resource_catalog.proofs.Ordered.{InOrder}
use Rattle.resource_catalog.specs.Steps.{tells_at, closes_by, closes_in}
use Rattle.resource_catalog.proofs.Entries.{both, parts, to_T}
use Rattle.resource_catalog.proofs.Keeps.{own_found}
use Rattle.resource_catalog.proofs.Kept.{part_of_whole}
use Rattle.resource_catalog.proofs.Whole.{at_whole, sorted_whole}

abbrev pub Naming : Type 0
Naming = List ℕ × Option Kind

abbrev key_or : Option (ℕ × Naming) → ℕ × Naming
key_or None = (0, ([], None))
key_or (Some w) = w

abbrev named_as : Slot → Option Naming
named_as s = option_map (λ x. (x, Some (any_kind s.resource))) s.name

abbrev named_at : Option Slot → Option Naming
named_at None = None
named_at (Some s) = named_as s

abbrev named_first : ℕ → Option Naming → List (ℕ × Naming) → List (ℕ × Naming)
named_first m None rest = rest
named_first m (Some y) rest = (m, y) ∷ rest

abbrev named_slots : Slots → List (ℕ × Naming)
named_slots [] = []
named_slots (e ∷ slots) = named_first e.0 (named_as e.1) (named_slots slots)

below_named : (k : ℕ) (slots : Slots) → T (below_all nat_cmp k slots) → T (below_all nat_cmp k (named_slots slots))
below_named k [] h = tt
below_named k (e ∷ slots) h =
    let p = parts _ _ h in
    elim (named_as e.1) as (λ o. T (below_all nat_cmp k (named_first e.0 o (named_slots slots)))) [ None ↦ below_named k slots p.1 | Some y ↦ both (is_lt (nat_cmp k e.0)) _ p.0 (below_named k slots p.1) ]

sorted_named : (slots : Slots) → T (is_sorted nat_cmp slots) → T (is_sorted nat_cmp (named_slots slots))
sorted_named [] h = tt
sorted_named (e ∷ slots) h =
    let p = parts _ _ h in
    elim (named_as e.1) as (λ o. T (is_sorted nat_cmp (named_first e.0 o (named_slots slots)))) [ None ↦ sorted_named slots p.1 | Some y ↦ both (below_all nat_cmp e.0 (named_slots slots)) _ (below_named e.0 slots p.0) (sorted_named slots p.1) ]

find_named : (k : ℕ) (slots : Slots) → T (is_sorted nat_cmp slots) → find nat_cmp k (named_slots slots) ≡ named_at (find nat_cmp k slots)
find_named k [] h = refl
find_named k (e ∷ slots) h =
    let p = parts _ _ h in
    elim (eq_by_cmp nat_cmp k e.0) as (λ b. eq_by_cmp nat_cmp k e.0 ≡ b → find nat_cmp k (named_first e.0 (named_as e.1) (named_slots slots)) ≡ named_at (cond b (Some e.1) (find nat_cmp k slots))) [
      | true ↦ λ t.
          let none : find nat_cmp k (named_slots slots) ≡ None = (λ j. find nat_cmp (tied_same nat_cmp_total nat_cmp-IsAntisymmetric k e.0 t j) (named_slots slots)) ∙ below_missing nat_cmp e.0 (named_slots slots) (below_named e.0 slots p.0) in
          elim (named_as e.1) as (λ o. find nat_cmp k (named_first e.0 o (named_slots slots)) ≡ o) [ None ↦ none | Some y ↦ ap (λ b. cond b (Some y) (find nat_cmp k (named_slots slots))) t ]
      | false ↦ λ t.
          let rest = find_named k slots p.1 in
          elim (named_as e.1) as (λ o. find nat_cmp k (named_first e.0 o (named_slots slots)) ≡ named_at (find nat_cmp k slots)) [ None ↦ rest | Some y ↦ ap (λ b. cond b (Some y) (find nat_cmp k (named_slots slots))) t ∙ rest ]
    ] refl

module _ (names : Names) (slots : Slots) (whole : InOrder names slots) where
  abbrev cells : Cells
  cells = whole_cells names slots

  rises : T (is_sorted nat_cmp slots)
  rises = to_T _ whole.are_slots.rises

  abbrev naming_of : List ℕ → Kind → Naming
  naming_of x kind = (x, Some kind)

  -- the names stand at their instances
  of_name : (x : List ℕ) (n : Named) → find text_cmp x names ≡ Some n → find nat_cmp n.commit (named_slots slots) ≡ Some (naming_of x n.kind)
  of_name x n f =
      let p = whole.placed x n f in
      find_named n.commit slots rises ∙ ap named_at p.1 ∙ ap (option_map (λ x. naming_of x (any_kind p.0.resource))) p.2 ∙ ap (λ k. Some (naming_of x k)) p.3

  pub instances_are : instances cells ≡ named_slots slots
  instances_are = gather_is nat_cmp_total nat_cmp-IsAntisymmetric named_pick (named_slots slots) cells (sorted_whole names slots (to_T _ whole.names_rise) whole.are_slots) (sorted_named slots rises) sound full
    where
      standing : (x : List ℕ) (h : Held) (o : Option Named) → find text_cmp x names ≡ o → option_map name_held o ≡ Some h → find nat_cmp h.index (named_slots slots) ≡ Some (x, h.kind)
      standing x h None f e = absurd (none_some e)
      standing x h (Some n) f e = let same : name_held n ≡ h = (cc) in subst (λ (h : Held). find nat_cmp h.index (named_slots slots) ≡ Some (x, h.kind)) same (of_name x n f)

      sound : (p : Place) (h : Held) (k : ℕ) (y : Naming) → at cells p ≡ Some h → named_pick (p, h) ≡ Some (k, y) → find nat_cmp k (named_slots slots) ≡ Some y
      sound (Name_at x) h k y there e = subst (λ (w : ℕ × Naming). find nat_cmp w.0 (named_slots slots) ≡ Some w.1) (ap key_or e) (standing x h (find text_cmp x names) refl (sym (at_whole names slots whole.are_slots (Name_at x)) ∙ there))
      sound (Cell_at m cell) h k y there e = absurd (none_some e)
      sound (Register_at session) h k y there e = absurd (none_some e)
      sound (Alive_at session) h k y there e = absurd (none_some e)

      full : (k : ℕ) (y : Naming) → find nat_cmp k (named_slots slots) ≡ Some y → (p : Place) × (h : Held) × (at cells p ≡ Some h) × (named_pick (p, h) ≡ Some (k, y))
      full k y f = slot (find nat_cmp k slots) refl (sym (find_named k slots rises) ∙ f)
        where
          name : (s : Slot) → find nat_cmp k slots ≡ Some s → (o : Option (List ℕ)) → s.name ≡ o → option_map (λ x. naming_of x (any_kind s.resource)) o ≡ Some y → (p : Place) × (h : Held) × (at cells p ≡ Some h) × (named_pick (p, h) ≡ Some (k, y))
          name s g None o e = absurd (none_some e)
          name s g (Some x) o e =
              let q = whole.named k s x g o in
              let n = q.0 in
              let again : Some (k, naming_of x n.kind) ≡ Some (k, y) = ap (option_map (λ y. (k, y))) ((λ j. Some (naming_of x n.kind)) ∙ sym (of_name x n q.1) ∙ (λ j. find nat_cmp (q.2 j) (named_slots slots)) ∙ f) in
              (Name_at x, name_held n, at_whole names slots whole.are_slots (Name_at x) ∙ ap (option_map name_held) q.1, (λ j. Some (q.2 j, naming_of x n.kind)) ∙ again)

          slot : (o : Option Slot) → find nat_cmp k slots ≡ o → named_at o ≡ Some y → (p : Place) × (h : Held) × (at cells p ≡ Some h) × (named_pick (p, h) ≡ Some (k, y))
          slot None g e = absurd (none_some e)
          slot (Some s) g e = name s g s.name refl e

  -- ---- what it tells

  pub tells_kept : (m : ℕ) (effect : Effect) (i : ℕ) → tells_at (find nat_cmp m slots) effect i ≡ tells_named cells m (find nat_cmp m (instances cells)) effect i
  tells_kept m effect i = go (find nat_cmp m slots) refl ∙ sym ((λ j. tells_named cells m (find nat_cmp m (instances_are j)) effect i) ∙ ap (λ o. tells_named cells m o effect i) (find_named m slots rises))
    where
      named : (s : Slot) → part m cells ≡ any_cells s.resource → any_instance s.resource ≡ m → (o : Option (List ℕ)) → Rattle.resource_catalog.specs.Steps.tells_by s.resource o effect i ≡ tells_named cells m (option_map (λ x. naming_of x (any_kind s.resource)) o) effect i
      named s own same None = refl
      named s own same (Some x) = λ j. (kind_decision (any_kind s.resource)).tells (same j) (sym own j) x effect i

      go : (o : Option Slot) → find nat_cmp m slots ≡ o → tells_at o effect i ≡ tells_named cells m (named_at o) effect i
      go None f = refl
      go (Some s) f = named s (part_of_whole names slots m s whole f) (own_found slots m s whole.are_slots.own f).instance s.name

  -- each of some slots stands among all
  abbrev AllFound : Slots → Type 0
  AllFound [] = Unit {0}
  AllFound (e ∷ some) = (find nat_cmp e.0 slots ≡ Some e.1) × AllFound some

  closes_some : (owner : ℕ) (some : Slots) → AllFound some → closes_in owner some ≡ flat_map (λ (n : ℕ × Naming). closes_kind cells n.0 n.1.0 n.1.1 owner) (named_slots some)
  closes_some owner [] h = refl
  closes_some owner (e ∷ some) h = named (closes_some owner some h.1) e.1.name
    where
      own : part e.0 cells ≡ any_cells e.1.resource
      own = part_of_whole names slots e.0 e.1 whole h.0

      same : any_instance e.1.resource ≡ e.0
      same = (own_found slots e.0 e.1 whole.are_slots.own h.0).instance

      named : closes_in owner some ≡ flat_map (λ (n : ℕ × Naming). closes_kind cells n.0 n.1.0 n.1.1 owner) (named_slots some) → (o : Option (List ℕ)) → closes_by e.1.resource o owner ++ closes_in owner some ≡ flat_map (λ (n : ℕ × Naming). closes_kind cells n.0 n.1.0 n.1.1 owner) (named_first e.0 (option_map (λ x. naming_of x (any_kind e.1.resource)) o) (named_slots some))
      named rest None = rest
      named rest (Some x) = λ j. (kind_decision (any_kind e.1.resource)).tells_close (same j) (sym own j) x owner ++ rest j

  all_found : AllFound slots
  all_found = from slots rises (λ k s f. f)
    where
      itself : (k : ℕ) → eq_by_cmp nat_cmp k k ≡ true
      itself k = tied_true nat_cmp_total nat_cmp-IsAntisymmetric k

      from : (some : Slots) → T (is_sorted nat_cmp some) → ((k : ℕ) (s : Slot) → find nat_cmp k some ≡ Some s → find nat_cmp k slots ≡ Some s) → AllFound some
      from [] h among = tt
      from (e ∷ some) h among =
          let p = parts _ _ h in
          (among e.0 e.1 (ap (λ b. cond b (Some e.1) (find nat_cmp e.0 some)) (itself e.0)), from some p.1 (λ k s f. among k s (later k s f p.0)))
        where
          later : (k : ℕ) (s : Slot) → find nat_cmp k some ≡ Some s → T (below_all nat_cmp e.0 some) → cond (eq_by_cmp nat_cmp k e.0) (Some e.1) (find nat_cmp k some) ≡ Some s
          later k s f low =
              elim (eq_by_cmp nat_cmp k e.0) as (λ b. eq_by_cmp nat_cmp k e.0 ≡ b → cond b (Some e.1) (find nat_cmp k some) ≡ Some s) [
                | true ↦ λ t. absurd (none_some (sym (below_missing nat_cmp e.0 some low) ∙ (λ j. find nat_cmp (sym (tied_same nat_cmp_total nat_cmp-IsAntisymmetric k e.0 t) j) some) ∙ f))
                | false ↦ λ t. f
              ] refl

  pub closes_kept : (owner : ℕ) → closes_in owner slots ≡ flat_map (λ (n : ℕ × Naming). closes_kind cells n.0 n.1.0 n.1.1 owner) (instances cells)
  closes_kept owner = closes_some owner slots all_found ∙ ap (flat_map (λ (n : ℕ × Naming). closes_kind cells n.0 n.1.0 n.1.1 owner)) (sym instances_are)
