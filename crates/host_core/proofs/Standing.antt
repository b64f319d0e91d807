-- What holds a place is out as often as it holds places, and a commit behind all of it holds none.
use Rattle.std.proofs.Common.{◌≡◌, ◌⊎◌, inl, inr, ⊎_elim, ℕ, ◌+◌, Bool, true, false, cond, not, ◌==◌, [], ◌∷◌, ◌++◌, Option, Some, None, refl, sym, ap, subst, ◌∙◌, arith, eqb-true}
use Rattle.std.proofs.lemmas.List.Sums.{sum_by-cons}
use Rattle.std.specs.Cmp.{nat_eq_equiv}
use Rattle.std.specs.List.{list_any}
use Rattle.std.specs.FinMap.Entries.{is_sorted-where_key}
use Rattle.host_types.specs.Cells.{Place, Held, Cells, at, places_of, place_cmp}
use Rattle.host_types.proofs.Places.{place_total, exact_places}
use Rattle.commit_lending.specs.Lent.{Lent, tokens, one_of}
use Rattle.machine.specs.Release.{AreOut, AreApart, Releases}
use Rattle.machine.proofs.ReleaseLaws.{are_out_second, both_held, releases_as, releases_both, releases_kept, releases_none, releases_then}
use Rattle.log_model.specs.hosted.Hosted.{Hosted, is_machine_place, machine_cells}
use Rattle.log_model.specs.hosted.Parts.{session_cells}
use Rattle.log_model.specs.hosted.Sound.{IsSound, IsFree}
use Rattle.log_model.proofs.Lookups.{T_from, found_from_any}
use Rattle.log_model.proofs.hosted.Free.{index_free, none_counted}
use Rattle.log_model.proofs.hosted.Parts.{at_machine, sorted_machine}
use Rattle.session_table.specs.Table.{Table}
use Rattle.session_table.specs.Places.{table_cells}
use Rattle.host_core.specs.Entering.{Meets, held_at, held_with}
use Rattle.host_core.proofs.Parts.{at_sessions}

-- ---- two parts

pub places-append : (c d : Cells) (j : ℕ) → places_of (c ++ d) j ≡ places_of c j + places_of d j
places-append [] d j = omega arith
places-append (x ∷ c) d j =
    let rest = places-append c d j in
    let here = sum_by-cons (λ (y : Place × Held). cond (y.1.index == j) 1 0) x (c ++ d) in
    let alone = sum_by-cons (λ (y : Place × Held). cond (y.1.index == j) 1 0) x c in
    omega (arith, rest, here, alone)

abbrev is_of : ℕ → Place × Held → Bool
is_of j x = x.1.index == j

-- an entry that is held at a place of a session is held nowhere else
pub parts_apart : (s : Hosted) → IsSound s → (machine own : Cells) → machine_cells s.cells ≡ machine → session_cells s.cells ≡ own → AreApart (places_of machine) (places_of own)
parts_apart s h machine own machine_is own_is j =
    subst (λ (p : Cells × Cells). (places_of p.0 j ≡ 0) ⊎ (places_of p.1 j ≡ 0)) (λ i. (machine_is i, own_is i))
    (go (list_any (is_of j) (machine_cells s.cells)) refl (list_any (is_of j) (session_cells s.cells)) refl)
  where
    kept : (b : Bool) (o : Option Held) (held : Held) → cond b o None ≡ Some held → (b ≡ true) × (o ≡ Some held)
    kept true o held e = (refl, e)
    kept false o held e = absurd (cc)

    is_false : (b : Bool) → not b ≡ true → b ≡ false
    is_false true e = absurd (cc)
    is_false false e = refl

    go : (a : Bool) → list_any (is_of j) (machine_cells s.cells) ≡ a → (b : Bool) → list_any (is_of j) (session_cells s.cells) ≡ b → (places_of (machine_cells s.cells) j ≡ 0) ⊎ (places_of (session_cells s.cells) j ≡ 0)
    go false e b f = inl (none_counted j (machine_cells s.cells) e)
    go true e false f = inr (none_counted j (session_cells s.cells) f)
    go true e true f =
        let x = found_from_any place_total exact_places (is_of j) (machine_cells s.cells) (sorted_machine s.cells (T_from _ h.cells_rise)) e in
        let y = found_from_any place_total exact_places (is_of j) (session_cells s.cells) (is_sorted-where_key place_cmp (λ place. not (is_machine_place place)) s.cells (T_from _ h.cells_rise)) f in
        let here = kept (is_machine_place x.0) (at s.cells x.0) x.1 (sym (at_machine s.cells x.0) ∙ x.2) in
        let there = kept (not (is_machine_place y.0)) (at s.cells y.0) y.1 (sym (at_sessions s.cells y.0) ∙ y.2) in
        let out = is_false (is_machine_place y.0) there.0 in
        let same = h.apart y.0 x.0 y.1 x.1 out there.1 here.1 (eqb-true y.1.index j y.3 ∙ sym (eqb-true x.1.index j x.3)) in
        let clash : false ≡ true = sym out ∙ ap is_machine_place same ∙ here.0 in
        absurd (cc)

-- ---- who is out

itself : (index : ℕ) → one_of index index ≡ 1
itself index = ap (λ b. cond b 1 0) (nat_eq_equiv.refl index)

-- a commit that one part doesn't hold stands beside the other
beside_commit : (a b : ℕ → ℕ) (index : ℕ) → b index ≡ 0 → ((j : ℕ) → (a j ≡ 0) ⊎ (b j ≡ 0)) → AreApart (λ j. a j + one_of index j) b
beside_commit a b index none apart j = ⊎_elim (λ (e : a j ≡ 0). go (index == j) refl e) (λ (e : b j ≡ 0). inr e) (apart j)
  where
    go : (t : Bool) → (index == j) ≡ t → a j ≡ 0 → (a j + one_of index j ≡ 0) ⊎ (b j ≡ 0)
    go true t e = inr (ap b (sym (eqb-true index j t)) ∙ none)
    go false t e = let other : one_of index j ≡ 0 = ap (λ t. cond t 1 0) t in inl (omega (arith, e, other))

module _ (index : ℕ) (machine : Cells) (table : Table) (lent : Lent) (m : Meets index machine table lent) where
  abbrev s : Hosted
  s = record { last = m.last; now = m.time; sessions = table.sessions; cells = machine ++ table_cells table }

  pub free : IsFree s index
  free = index_free s index m.sound m.behind

  -- the commit holds no place
  pub none_held_at : held_at machine table index ≡ 0
  none_held_at = let sum = places-append machine (table_cells table) index in let none = free.unheld in omega (arith, sum, none)

  apart : AreApart (places_of machine) (places_of (table_cells table))
  apart = parts_apart s m.sound machine (table_cells table) m.machine_is m.table_is

  machine_apart : AreApart (λ j. places_of machine j + one_of index j) (places_of (table_cells table))
  machine_apart = beside_commit (places_of machine) (places_of (table_cells table)) index (let none = none_held_at in omega (arith, none)) apart

  table_apart : AreApart (λ j. places_of (table_cells table) j + one_of index j) (places_of machine)
  table_apart =
      beside_commit (places_of (table_cells table)) (places_of machine) index (let none = none_held_at in omega (arith, none))
      (λ j. ⊎_elim (λ (e : places_of machine j ≡ 0). inr e) (λ (e : places_of (table_cells table) j ≡ 0). inl e) (apart j))

  -- each part is out by itself
  pub machine_out : AreOut (places_of machine) lent
  machine_out = are_out_second (λ j. places_of (table_cells table) j + one_of index j) (places_of machine) lent table_apart (λ j some. let all = m.out j in omega (arith, all))

  pub table_out : AreOut (places_of (table_cells table)) lent
  table_out = are_out_second (λ j. places_of machine j + one_of index j) (places_of (table_cells table)) lent machine_apart (λ j some. let all = m.out j in omega (arith, all))

  pub commit_out : tokens lent index ≡ 1
  commit_out = let all = m.out index in let one = itself index in let none = none_held_at in omega (arith, all, one, none)

  -- ---- what one part releases, the whole releases

  pub by_machine : (machine' : Cells) (lent' : Lent) → Releases (λ j. places_of machine j + one_of index j) (places_of machine') index lent lent' → Releases (held_with index machine table) (held_at machine' table) index lent lent'
  by_machine machine' lent' step =
      releases_as (both_held (λ j. places_of machine j + one_of index j) (places_of (table_cells table))) (both_held (places_of machine') (places_of (table_cells table))) (held_with index machine table) (held_at machine' table) index lent lent' (λ j. omega arith) (λ j. refl)
      (releases_both (λ j. places_of machine j + one_of index j) (places_of machine') (places_of (table_cells table)) (places_of (table_cells table)) index lent lent' lent' machine_apart step (releases_none (places_of (table_cells table)) index lent'))

  pub by_table : (table' : Table) (lent' : Lent) → Releases (λ j. places_of (table_cells table) j + one_of index j) (places_of (table_cells table')) index lent lent' → Releases (held_with index machine table) (held_at machine table') index lent lent'
  by_table table' lent' step =
      releases_as (both_held (λ j. places_of (table_cells table) j + one_of index j) (places_of machine)) (both_held (places_of (table_cells table')) (places_of machine)) (held_with index machine table) (held_at machine table') index lent lent' (λ j. omega arith) (λ j. omega arith)
      (releases_both (λ j. places_of (table_cells table) j + one_of index j) (places_of (table_cells table')) (places_of machine) (places_of machine) index lent lent' lent' table_apart step (releases_none (places_of machine) index lent'))

  -- both parts, one after the other, and then the commit itself
  pub by_both : (machine' : Cells) (table' : Table) (mid then lent' : Lent) → Releases (places_of machine) (places_of machine') index lent mid → Releases (places_of (table_cells table)) (places_of (table_cells table')) index mid then
      → ((held : ℕ → ℕ) → held index ≡ 0 → Releases (λ j. held j + one_of index j) held index then lent') → Releases (held_with index machine table) (held_at machine' table') index lent lent'
  by_both machine' table' mid then lent' first second own =
      releases_then (held_with index machine table) (held_with index machine' table') (held_at machine' table') index lent then lent'
      (releases_kept (held_at machine table) (held_at machine' table') index lent then none_held_at both) (own (held_at machine' table') (both.none_new index none_held_at))
    where
      both : Releases (held_at machine table) (held_at machine' table') index lent then
      both = releases_both (places_of machine) (places_of machine') (places_of (table_cells table)) (places_of (table_cells table')) index lent mid then apart first second

  -- what is held after the entry is out
  pub out_after : (machine' : Cells) (table' : Table) (lent' : Lent) → Releases (held_with index machine table) (held_at machine' table') index lent lent' → (j : ℕ) → tokens lent' j ≡ held_at machine' table' j
  out_after machine' table' lent' step j = let before = m.out j in let went = step.tokens j in omega (arith, before, went)
