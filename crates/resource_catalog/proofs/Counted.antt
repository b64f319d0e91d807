-- The names that cells show are as many as those of the state that they show.
use Rattle.std.proofs.Common.{◌≡◌, ℕ, ◌+◌, Bool, true, false, cond, T, List, [], ◌∷◌, length, Option, Some, None, is_some, refl, sym, ap, subst, ◌∙◌, arith}
use Rattle.std.proofs.lemmas.List.Sums.{length-filter}
use Rattle.std.specs.List.{count_by}
use Rattle.std.specs.FinMap.{nat_cmp-IsAntisymmetric}
use Rattle.std.specs.FinMap.Entries.{put, find, find-put, length-put, is_sorted, is_sorted-put, is_sorted-where_key, find-where_key, where_key, same_entries}
use Rattle.std.specs.Ordering.{nat_cmp, eq_by_cmp}
use Rattle.std.specs.Cmp.{nat_cmp_total}
use Rattle.host_types.specs.Cells.{Place, Name_at, Cell_at, Register_at, Alive_at, Held, Cells, is_text, place_cmp, at, named as held_name}
use Rattle.host_types.proofs.Places.{place_total, exact_places}
use Rattle.log_model.specs.plain.Plain.{Named_resource, State, kind_of}
use Rattle.log_model.specs.replay.Telling.{name_held, by_instance, EachName, ShowsState}
use Rattle.log_model.proofs.kinds.Gather.{none_some}
use Rattle.log_model.proofs.Lookups.{T_from, T_both, below_missing, tied_true}
use Rattle.log_model.proofs.replay.Tellings.{shown_found}
use Rattle.log_model.proofs.plain.Tracks.{find_passes, found_name, same_text, text_itself, other_place}
use Rattle.resource_catalog.specs.Catalog.{is_name, names_in}

-- ---- the names as cells

as_cells : List Named_resource → Cells
as_cells [] = []
as_cells (n ∷ ns) = put place_cmp (Name_at n.name) (held_name n.instance (kind_of n.plain)) (as_cells ns)

sorted_cells : (ns : List Named_resource) → T (is_sorted place_cmp (as_cells ns))
unfolding as_cells
sorted_cells [] = tt
sorted_cells (n ∷ ns) = is_sorted-put place_cmp place_total (Name_at n.name) (held_name n.instance (kind_of n.plain)) (as_cells ns) (sorted_cells ns)

other_name : (x y : List ℕ) → is_text x y ≡ false → eq_by_cmp place_cmp (Name_at x) (Name_at y) ≡ false
other_name x y e = other_place (Name_at x) (Name_at y) (λ p. let same : x ≡ y = (cc) in let itself = text_itself y in let here : is_text x y ≡ true = ap (λ z. is_text z y) same ∙ itself in absurd (cc))

at_name : (x : List ℕ) (ns : List Named_resource) → at (as_cells ns) (Name_at x) ≡ name_held (found_name x ns)
unfolding as_cells
at_name x [] = refl
at_name x (n ∷ ns) =
    find-put place_cmp place_total (Name_at x) (Name_at n.name) (held_name n.instance (kind_of n.plain)) (as_cells ns)
    ∙ elim (is_text x n.name) as (λ b. is_text x n.name ≡ b → cond (eq_by_cmp place_cmp (Name_at x) (Name_at n.name)) (Some (held_name n.instance (kind_of n.plain))) (at (as_cells ns) (Name_at x)) ≡ name_held (cond b (Some n) (found_name x ns))) [
      | true ↦ λ e. ap (λ y. cond (eq_by_cmp place_cmp (Name_at y) (Name_at n.name)) (Some (held_name n.instance (kind_of n.plain))) (at (as_cells ns) (Name_at x))) (same_text x n.name e)
          ∙ ap (λ b. cond b (Some (held_name n.instance (kind_of n.plain))) (at (as_cells ns) (Name_at x))) (tied_true place_total exact_places (Name_at n.name))
      | false ↦ λ e. ap (λ b. cond b (Some (held_name n.instance (kind_of n.plain))) (at (as_cells ns) (Name_at x))) (other_name x n.name e) ∙ at_name x ns
    ] refl

abbrev is_name_place : Place → Bool
is_name_place (Name_at name) = true
is_name_place _ = false

at_no_name : (p : Place) → is_name_place p ≡ false → (ns : List Named_resource) → at (as_cells ns) p ≡ None
unfolding as_cells
at_no_name p e [] = refl
at_no_name p e (n ∷ ns) =
    find-put place_cmp place_total p (Name_at n.name) (held_name n.instance (kind_of n.plain)) (as_cells ns)
    ∙ ap (λ b. cond b (Some (held_name n.instance (kind_of n.plain))) (at (as_cells ns) p)) (other_place p (Name_at n.name) (λ q. let is : is_name_place p ≡ true = ap is_name_place q in absurd (cc)))
    ∙ at_no_name p e ns

-- ---- each stands once

instance_found : (x : List ℕ) (ns : List Named_resource) (m : Named_resource) → found_name x ns ≡ Some m → is_some (find nat_cmp m.instance (by_instance ns)) ≡ true
instance_found x [] m e = absurd (none_some e)
instance_found x (y ∷ ns) m e =
    elim (is_text x y.name) as (λ b. cond b (Some y) (found_name x ns) ≡ Some m → is_some (find nat_cmp m.instance (by_instance (y ∷ ns))) ≡ true) [
      | true ↦ λ f. let same : y ≡ m = (cc) in
          subst (λ (z : Named_resource). is_some (find nat_cmp z.instance (by_instance (y ∷ ns))) ≡ true) same (ap (λ b. is_some (cond b (Some (y.name, Some (kind_of y.plain))) (find nat_cmp y.instance (by_instance ns)))) (tied_true nat_cmp_total nat_cmp-IsAntisymmetric y.instance))
      | false ↦ λ f. elim (eq_by_cmp nat_cmp m.instance y.instance) as (λ b. is_some (cond b (Some (y.name, Some (kind_of y.plain))) (find nat_cmp m.instance (by_instance ns))) ≡ true) [ true ↦ refl | false ↦ instance_found x ns m f ]
    ] e

module _ (c : Cells) (s : State) (shows : ShowsState c s) where
  once : (n : Named_resource) (ns : List Named_resource) → T (is_sorted nat_cmp (by_instance (n ∷ ns))) → found_name n.name s.names ≡ Some n → EachName (λ m. found_name m.name s.names ≡ Some m) ns → found_name n.name ns ≡ None
  once n ns rises own rest = go (found_name n.name ns) refl
    where
      go : (o : Option Named_resource) → found_name n.name ns ≡ o → o ≡ None
      go None e = refl
      go (Some m) e =
          let there : found_name m.name s.names ≡ Some m = shown_found c s shows (λ m. found_name m.name s.names ≡ Some m) n.name ns m rest e in
          let named_so : n.name ≡ m.name = same_text n.name m.name (find_passes (λ z. is_text n.name z.name) ns m e) in
          let both : Some n ≡ Some m = sym own ∙ ap (λ y. found_name y s.names) named_so ∙ there in
          let same : n ≡ m = (cc) in
          let gone : find nat_cmp n.instance (by_instance ns) ≡ None = below_missing nat_cmp n.instance (by_instance ns) (T_both _ _ rises).0 in
          let found : is_some (find nat_cmp m.instance (by_instance ns)) ≡ true = instance_found n.name ns m e in
          let here : find nat_cmp m.instance (by_instance ns) ≡ None = subst (λ (z : Named_resource). find nat_cmp z.instance (by_instance ns) ≡ None) same gone in
          absurd (cc)

  as_many : (ns : List Named_resource) → T (is_sorted nat_cmp (by_instance ns)) → EachName (λ m. found_name m.name s.names ≡ Some m) ns → length (as_cells ns) ≡ length ns
  unfolding as_cells
  as_many [] rises own = refl
  as_many (n ∷ ns) rises own =
      let more : length (put place_cmp (Name_at n.name) (held_name n.instance (kind_of n.plain)) (as_cells ns)) ≡ length (as_cells ns) + 1 =
      length-put place_cmp place_total (Name_at n.name) (held_name n.instance (kind_of n.plain)) (as_cells ns) (sorted_cells ns)
      ∙ ap (λ (o : Option Held). cond (is_some o) (length (as_cells ns)) (length (as_cells ns) + 1)) (at_name n.name ns ∙ ap name_held (once n ns rises own.0 own.1)) in
      let rest : length (as_cells ns) ≡ length ns = as_many ns (T_both _ _ rises).1 own.1 in
      omega (arith, more, rest)

  names_are : where_key place_cmp is_name_place c ≡ as_cells s.names
  names_are =
      same_entries place_cmp place_total exact_places (where_key place_cmp is_name_place c) (as_cells s.names) (is_sorted-where_key place_cmp is_name_place c (T_from _ shows.sorted)) (sorted_cells s.names)
      (λ p. find-where_key place_cmp is_name_place p (λ x t. ap is_name_place (sym (exact_places p x t))) c ∙ there p)
    where
      there : (p : Place) → cond (is_name_place p) (at c p) None ≡ at (as_cells s.names) p
      there (Name_at x) = shows.names x ∙ sym (at_name x s.names)
      there (Cell_at m cell) = sym (at_no_name (Cell_at m cell) refl s.names)
      there (Register_at id) = sym (at_no_name (Register_at id) refl s.names)
      there (Alive_at id) = sym (at_no_name (Alive_at id) refl s.names)

  same_test : (e : Place × Held) → is_name e ≡ is_name_place e.0
  same_test (Name_at x, h) = refl
  same_test (Cell_at m cell, h) = refl
  same_test (Register_at id, h) = refl
  same_test (Alive_at id, h) = refl

  pub names_counted : names_in c ≡ length s.names
  names_counted =
      (λ j. count_by (λ e. same_test e j) c)
      ∙ sym (length-filter (λ (e : Place × Held). is_name_place e.0) c)
      ∙ ap length names_are
      ∙ as_many s.names (T_from _ shows.rising) shows.distinct
