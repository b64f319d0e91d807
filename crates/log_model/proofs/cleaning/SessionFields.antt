-- The sessions' fields by the central law. For `sessions_law`.
use Rattle.std.proofs.Common.{◌≡◌, ℕ, ◌≤◌, true, cond, nat_le, T, List, [], length, Option, Some, None, refl, sym, ap, ◌∙◌, ⊎_elim, le-leb}
use Rattle.std.specs.FinMap.{is_sorted}
use Rattle.std.specs.Ordering.{nat_cmp}
use Rattle.host_types.specs.declared.entry.Entry.{Entry}
use Rattle.host_types.specs.Cells.{Place, Register_at, Alive_at, Held, at}
use Rattle.log_model.specs.cleaning.Cells.{puts, Numbered, cells, up_to}
use Rattle.log_model.specs.cleaning.Cleaning.{numbered, entry_at, Cleaned, is_lawful_from, HasOneOwner}
use Rattle.log_model.specs.cleaning.Sessions.{entry_of_held, entry_held, open_fields, fields_of}
use Rattle.log_model.proofs.Lookups.{T_from}
use Rattle.log_model.proofs.cleaning.Entries.{puts-index}
use Rattle.log_model.proofs.cleaning.Indexed.{Each, found_each, each_up_to, numbered_rise}
use Rattle.log_model.proofs.cleaning.Compactions.{kept_if, at_filter, put_by}
use Rattle.log_model.proofs.cleaning.Law.{central}

at_up_to : (m : ℕ) (xs : Numbered) → T (is_sorted nat_cmp xs) → (i : ℕ) (e : Entry) → i ≤ m → entry_at xs i ≡ Some e → entry_at (up_to m xs) i ≡ Some e
at_up_to m xs s i e l f =
    at_filter (λ x. nat_le x.0 m) xs s i ∙ ap (kept_if (λ x. nat_le x.0 m) i) f ∙ ap (λ b. cond b (Some e) None) (le-leb i m l)

module _ (left : Numbered) (all : List Entry) (quiet k f : ℕ) (owner_of : Place → Option ℕ) (lawful : is_lawful_from [] (numbered all) ≡ true) (owned : HasOneOwner owner_of (numbered all)) (h : Cleaned left all quiet k f) (m : ℕ) (low : k ≤ m) (high : m ≤ length all) where
  same_entry : (place : Place) → entry_held (up_to m left) place ≡ entry_held (up_to m (numbered all)) place
  same_entry place = go (at (cells (up_to m left)) place) refl
    where
      rise : T (is_sorted nat_cmp left)
      rise = T_from _ h.rises

      law : cells (up_to m left) ≡ cells (up_to m (numbered all))
      law = central left all owner_of quiet k f lawful owned h m low high

      known : Each (λ i e. (entry_at left i ≡ Some e) × (i ≤ m)) (up_to m left)
      known = each_up_to (λ i e. entry_at left i ≡ Some e) m left (found_each left rise)

      go : (o : Option Held) → at (cells (up_to m left)) place ≡ o → entry_held (up_to m left) place ≡ entry_held (up_to m (numbered all)) place
      go None g =
          ap (entry_of_held (up_to m left)) g
          ∙ ap (entry_of_held (up_to m (numbered all))) (sym g ∙ ap (λ c. at c place) law)
      go (Some held) g =
          ⊎_elim
          (λ (r : at [] place ≡ Some held). absurd (cc))
          (λ (r : (i : ℕ) × (e : Entry) × ((entry_at left i ≡ Some e) × (i ≤ m)) × (at (puts i e.body) place ≡ Some held)).
          let i_is : held.index ≡ r.0 = puts-index r.0 r.1.body place held r.3 in
          let in_left = at_up_to m left rise r.0 r.1 r.2.1 r.2.0 in
          let in_all = at_up_to m (numbered all) (numbered_rise all) r.0 r.1 r.2.1 (h.stored_so r.0 r.1 r.2.0) in
          ap (entry_of_held (up_to m left)) g ∙ ap (entry_at (up_to m left)) i_is ∙ in_left
          ∙ sym (ap (entry_of_held (up_to m (numbered all))) (sym (ap (λ c. at c place) law) ∙ g) ∙ ap (entry_at (up_to m (numbered all))) i_is ∙ in_all))
          (put_by (λ i e. (entry_at left i ≡ Some e) × (i ≤ m)) (up_to m left) known [] place held g)

  pub same_fields : (id : ℕ) → fields_of (up_to m left) id ≡ fields_of (up_to m (numbered all)) id
  same_fields id = λ i. open_fields id (same_entry (Register_at id) i) (same_entry (Alive_at id) i)
