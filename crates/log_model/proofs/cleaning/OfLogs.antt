-- The central law at logs of admitted items. For `central_law_of_logs`.
use Rattle.std.proofs.Common.{◌≡◌, ℕ, ◌+◌, ◌≤◌, true, false, cond, ◌&&◌, List, [], ◌∷◌, length, Option, Some, None, refl, sym, ap, subst, ◌∙◌, arith}
use Rattle.std.proofs.lemmas.Bool.{and_parts, and_from}
use Rattle.std.specs.List.{enumerate_from}
use Rattle.std.specs.FinMap.{find, nat_cmp-IsAntisymmetric}
use Rattle.std.specs.Ordering.{nat_cmp, eq_by_cmp}
use Rattle.std.specs.Cmp.{nat_cmp_total}
use Rattle.host_types.specs.declared.entry.Cell.TheVariants.{One, Named, Member, Pair, At, Waiter, Of}
use Rattle.host_types.specs.declared.entry.Entry.{Entry}
use Rattle.host_types.specs.Cells.{Place, Name_at, Cell_at, Register_at, Alive_at, Held, Cells, at}
use Rattle.log_model.specs.cleaning.Cells.{puts, fits, after, Numbered, cells, up_to}
use Rattle.log_model.specs.cleaning.Cleaning.{numbered, entry_at, Cleaned, closes_standing, is_lawful_from, HasOneOwner}
use Rattle.log_model.specs.plain.Plain.{State, nothing_yet}
use Rattle.log_model.specs.plain.Admission.{Item}
use Rattle.log_model.specs.plain.Quiet.{quiet}
use Rattle.log_model.specs.plain.Step.{step}
use Rattle.log_model.specs.plain.Stored.{entry_of, stored_from, stored, is_admitted, is_log_from, is_log}
use Rattle.log_model.proofs.Lookups.{tied_same}
use Rattle.log_model.proofs.cleaning.Indexed.{Each}
use Rattle.log_model.proofs.cleaning.Law.{central}
use Rattle.log_model.proofs.cleaning.Growth.{last_step, length-stored}
use Rattle.log_model.proofs.plain.Tracks.{Tracks, OwnerRule, EntryOwns, tracked}

abbrev pub Owned : Numbered → Type 0
Owned xs = Each (λ i e. EntryOwns i e.body) xs

pub lawful_log : (s : State) (c : Cells) (items : List Item) → Tracks s.sessions s.names c → is_log_from s items ≡ true → (is_lawful_from c (enumerate_from (s.last + 1) (stored_from s items)) ≡ true) × Owned (enumerate_from (s.last + 1) (stored_from s items))
lawful_log s c [] k ok = (refl, tt)
lawful_log s c (item ∷ items) k ok =
    let p = and_parts (is_admitted s item) (is_log_from (step s item) items) ok in
    let one = tracked s c item k p.0 in
    let e = entry_of s item in
    let d = after c (s.last + 1) e in
    let rest = lawful_log (step s item) d items one.tracks p.1 in
    let rest' = subst (λ n. (is_lawful_from d (enumerate_from (n + 1) (stored_from (step s item) items)) ≡ true) × Owned (enumerate_from (n + 1) (stored_from (step s item) items))) (last_step s item) rest in
    (and_from (fits c e.body && closes_standing c e.body) _ (and_from (fits c e.body) (closes_standing c e.body) one.fitting one.standing) rest'.0, (one.owns, rest'.1))

held_owner : Option Held → Option ℕ
held_owner None = None
held_owner (Some h) = h.owner

owner_there : ℕ → ℕ → Option Entry → Option ℕ
owner_there m j None = None
owner_there m j (Some e) = held_owner (at (puts j e.body) (Cell_at m (At j)))

-- the owner of each place in a log
pub log_owner : Numbered → Place → Option ℕ
log_owner xs (Cell_at m (At j)) = owner_there m j (entry_at xs j)
log_owner xs (Cell_at m (Waiter session id)) = Some session
log_owner xs (Cell_at m (Of session)) = Some session
log_owner xs _ = None

found_owned : (xs : Numbered) → Owned xs → (i : ℕ) (e : Entry) → entry_at xs i ≡ Some e → EntryOwns i e.body
found_owned [] h i e f = absurd (cc)
found_owned (x ∷ xs) h i e f =
    elim (eq_by_cmp nat_cmp i x.0) as (λ b. eq_by_cmp nat_cmp i x.0 ≡ b → cond b (Some x.1) (find nat_cmp i xs) ≡ Some e → EntryOwns i e.body) [
      | true ↦ λ t f.
          let same : i ≡ x.0 = tied_same nat_cmp_total nat_cmp-IsAntisymmetric i x.0 t in
          let is : x.1 ≡ e = (cc) in
          subst (λ (y : ℕ × Entry). EntryOwns y.0 y.1.body) (λ k. (sym same k, is k)) h.0
      | false ↦ λ t f. found_owned xs h.1 i e f
    ] refl f

pub one_owner : (xs : Numbered) → Owned xs → HasOneOwner (log_owner xs) xs
unfolding log_owner owner_there held_owner
one_owner xs h i e p held f w = go p held w (found_owned xs h i e f p held w)
  where
    go : (p : Place) (held : Held) → at (puts i e.body) p ≡ Some held → OwnerRule i p held.owner → held.owner ≡ log_owner xs p
    go (Cell_at m (At j)) held w rule =
        subst (λ j. at (puts i e.body) (Cell_at m (At j)) ≡ Some held → held.owner ≡ owner_there m j (entry_at xs j)) (sym rule)
        (λ w. ap held_owner (sym w) ∙ ap (owner_there m i) (sym f)) w
    go (Cell_at m (Waiter session id)) held w rule = rule
    go (Cell_at m (Of session)) held w rule = rule
    go (Cell_at m One) held w rule = rule
    go (Cell_at m (Named key)) held w rule = rule
    go (Cell_at m (Member word)) held w rule = rule
    go (Cell_at m (Pair key word)) held w rule = rule
    go (Name_at name) held w rule = rule
    go (Register_at session) held w rule = rule
    go (Alive_at session) held w rule = rule

pub central_of_logs : (items : List Item) (left : Numbered) (k f : ℕ) → is_log items ≡ true → Cleaned left (stored items) (quiet items) k f → (m : ℕ) → k ≤ m → m ≤ length items → cells (up_to m left) ≡ cells (up_to m (numbered (stored items)))
central_of_logs items left k f log cleaned m low high =
    let start : Tracks [] [] [] = record { by_name = λ x. refl; by_session = λ id. refl } in
    let lawful = lawful_log nothing_yet [] items start log in
    let n = length-stored nothing_yet items in
    central left (stored items) (log_owner (numbered (stored items))) (quiet items) k f lawful.0 (one_owner (numbered (stored items)) lawful.1) cleaned m low (omega arith)
