-- Operations on names: what stands at a name, and what is decided and shown there.
use Rattle.std.proofs.Common.{◌≡◌, ℕ, ◌+◌, List, [], Option, Some, None, is_some, true, false, refl, sym, ap, subst, ◌∙◌, Result, Err, Bor}
use Rattle.std.specs.Option.{option_map}
use Rattle.std.specs.FinMap.Entries.{put, find}
use Rattle.std.specs.Ordering.{nat_cmp}
use Rattle.host_types.specs.declared.entry.Kind.{Kind}
use Rattle.host_types.specs.declared.entry.Op.{Op}
use Rattle.host_types.specs.declared.entry.Op.TheVariants.{Create, Delete}
use Rattle.host_types.specs.declared.entry.Reply.{Reply}
use Rattle.host_types.specs.declared.entry.Effect.TheVariants.{Nothing, Tell}
use Rattle.host_types.specs.Cells.{Cells, Name_at, Held, text_cmp, place_cmp, at, after_effect}
use Rattle.machine.specs.Answers.{Resolves, Looks}
use Rattle.machine.specs.declared.decision.Decision.{Decision}
use Rattle.machine.specs.declared.decision.Refuse.{Refuse}
use Rattle.resource_catalog.specs.declared.names.Named.{Named}
use Rattle.resource_catalog.specs.declared.slots.Slot.{Slot}
use Rattle.log_model.specs.kinds.Reading.{kind_decision}
use Rattle.resource_catalog.specs.Kinds.{any_kind, any_instance, any_cells}
use Rattle.resource_catalog.specs.Catalog.{part, names_in, choice_new, choice_there, choice_at, look_at}
use Rattle.resource_catalog.specs.Parts.{Names, Slots, name_held, whole_cells, IsOwn}
use Rattle.resource_catalog.proofs.Ordered.{InOrder}
use Rattle.resource_catalog.specs.Steps.{IsShownAs}
use Rattle.resource_catalog.proofs.Whole.{stands_at, at_whole}
use Rattle.resource_catalog.proofs.Effects.{left_alone, cells_left}
use Rattle.resource_catalog.proofs.Kept.{shown_as, whole_counted}
use Rattle.std.specs.Prelude.{option_copied}
use Rattle.host_types.specs.declared.entry.Refusal.TheVariants.{NoName}

pub is_copied : (o : Option (Bor Named)) → is_some (option_copied o) ≡ is_some o
is_copied None = refl
is_copied (Some n) = refl

pub not_there : (o : Option Named) → is_some o ≡ false → o ≡ None
not_there None e = refl
not_there (Some n) e = absurd (cc)

module _ (names : Names) (slots : Slots) (whole : InOrder names slots) (x : List ℕ) where
  at_found : (n : Named) → find text_cmp x names ≡ Some n → at (whole_cells names slots) (Name_at x) ≡ Some (name_held n)
  at_found n f = at_whole names slots whole.are_slots (Name_at x) ∙ ap (option_map name_held) f

  at_missing : find text_cmp x names ≡ None → at (whole_cells names slots) (Name_at x) ≡ None
  at_missing f = at_whole names slots whole.are_slots (Name_at x) ∙ ap (option_map name_held) f

  pub resolved_there : (n : Named) (op : Op) (session index : ℕ) (r : Result Decision Refuse) → find text_cmp x names ≡ Some n
      → ((cells : Cells) (s : Slot) → find nat_cmp n.commit slots ≡ Some s → IsShownAs n.commit n.kind s cells → Resolves (choice_there cells x n.commit n.kind op session index) r)
      → Resolves (choice_at (whole_cells names slots) x (at (whole_cells names slots) (Name_at x)) op session index) r
  resolved_there n op session index r f resolves =
      let s = shown_as names slots x n whole f in
      subst (λ (o : Option Held). Resolves (choice_at (whole_cells names slots) x o op session index) r) (sym (at_found n f)) (resolves (whole_cells names slots) s.0 s.1 s.2)

  pub resolved_new : (op : Op) (session index : ℕ) (r : Result Decision Refuse) → find text_cmp x names ≡ None
      → ((cells : Cells) → names_in cells ≡ Rattle.std.proofs.Common.length names → Resolves (choice_new cells x op index) r)
      → Resolves (choice_at (whole_cells names slots) x (at (whole_cells names slots) (Name_at x)) op session index) r
  resolved_new op session index r f resolves =
      subst (λ (o : Option Held). Resolves (choice_at (whole_cells names slots) x o op session index) r) (sym (at_missing f))
      (resolves (whole_cells names slots) (whole_counted names slots whole.are_slots))

  pub looked_there : (n : Named) (op : Op) (r : Result Reply Refuse) → find text_cmp x names ≡ Some n
      → ((s : Slot) → find nat_cmp n.commit slots ≡ Some s → Looks ((kind_decision (any_kind s.resource)).look (any_instance s.resource) (any_cells s.resource) op) r)
      → Looks (look_at (whole_cells names slots) (at (whole_cells names slots) (Name_at x)) op) r
  looked_there n op r f looks =
      let s = shown_as names slots x n whole f in
      subst (λ (o : Option Held). Looks (look_at (whole_cells names slots) o op) r) (sym (at_found n f))
      (subst (λ (q : Kind × ℕ × Cells). Looks ((kind_decision q.0).look q.1 q.2 op) r) (λ i. (s.2.kind i, s.2.instance i, sym s.2.own i)) (looks s.0 s.1))

  pub looked_nowhere : (op : Op) → find text_cmp x names ≡ None → look_at (whole_cells names slots) (at (whole_cells names slots) (Name_at x)) op ≡ Err NoName
  looked_nowhere op f = ap (λ (o : Option Held). look_at (whole_cells names slots) o op) (at_missing f)

-- every operation but two is decided by the resource
pub choice_other : (cells : Cells) (x : List ℕ) (m : ℕ) (kind : Kind) (op : Op) (session index : ℕ) → ((k : Kind) → op ≡ Create k → ⊥) → (op ≡ Delete → ⊥) → choice_there cells x m kind op session index ≡ (kind_decision kind).resolve m (part m cells) op session index
choice_other cells x m kind (Create k) session index no_create no_delete = absurd (no_create k refl)
choice_other cells x m kind Delete session index no_create no_delete = absurd (no_delete refl)
choice_other cells x m kind op session index no_create no_delete = refl

-- what neither puts nor takes changes nothing
pub nothing_changes : (names : Names) (slots : Slots) (i : ℕ) → InOrder names slots → whole_cells names slots ≡ after_effect (whole_cells names slots) i Nothing
nothing_changes names slots i whole = cells_left names slots whole true i Nothing (λ place. left_alone true i Nothing place (stands_at names slots place) refl refl)

pub tell_changes : (names : Names) (slots : Slots) (i m : ℕ) (word : List ℕ) → InOrder names slots → whole_cells names slots ≡ after_effect (whole_cells names slots) i (Tell m word)
tell_changes names slots i m word whole = cells_left names slots whole true i (Tell m word) (λ place. left_alone true i (Tell m word) place (stands_at names slots place) refl refl)

pub empty_own : (m : ℕ) (s : Slot) → any_instance s.resource ≡ m → any_cells s.resource ≡ [] → IsOwn m s
empty_own m s instance empty = record {
  instance = instance;
  rises = ap (Rattle.std.specs.FinMap.Entries.is_sorted place_cmp) empty;
  here = ap (Rattle.std.specs.List.list_all (λ (e : Rattle.host_types.specs.Cells.Place × Held). Rattle.resource_catalog.specs.Catalog.is_place_of m e.0)) empty;
}
