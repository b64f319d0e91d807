-- The places that the rows' commits hold, and what goes back.
use Rattle.std.proofs.Common.{◌≡◌, ℕ, suc, ◌+◌, ◌<◌, ◌≤◌, ◌==◌, Bool, true, false, cond, List, [], ◌∷◌, ◌++◌, map, length, nat_lt, Option, Some, None, refl, sym, ap, ◌∙◌, arith}
use Rattle.std.specs.Cmp.{nat_eq_equiv}
use Rattle.std.specs.List.{flat_map}
use Rattle.std.specs.Option.{IsSomeAnd}
use Rattle.std.proofs.lemmas.List.Sums.{sum_by-cons, sum_by-append}
use Rattle.std.proofs.lemmas.Bool.Decides.{nat_tests}
use Rattle.host_types.specs.Cells.{Place, Held, Cells, Register_at, Alive_at, marked, places_of}
use Rattle.slab.specs.Slab.{get}
use Rattle.commit_lending.specs.Lent.{Lent, tokens, one_of, pair_of_last}
use Rattle.machine.specs.Holding.{held_by, IsLent}
use Rattle.machine.specs.Release.{AreOut, Releases, Retires}
use Rattle.machine.proofs.ReleaseLaws.{both_held, are_out_with, are_out_still, closes_one, releases_then}
use Rattle.session_table.specs.Kept.{Kept_session}
use Rattle.session_table.specs.Table.{Beside, Table}
use Rattle.session_table.specs.Places.{alive_place, cells_of, table_cells}
use Rattle.session_table.specs.Inside.{table}
use Rattle.session_table.specs.declared.sessions.Sessions.TheInside.{Inside}
use Rattle.session_table.specs.Rows.{Slots, one_seat, seats, AreSeated, beside_of, held_in, ClosesBoth}
use Rattle.session_table.specs.declared.order.Row.{Row}
use Rattle.session_table.proofs.Tables.{shown_beside}

-- ---- counting

pub one_itself : (i : ℕ) → one_of i i ≡ 1
one_itself i = ap (λ b. cond b 1 0) (nat_eq_equiv.refl i)

module _ (j : ℕ) where
  abbrev bit_of : Place × Held → ℕ
  bit_of x = cond (x.1.index == j) 1 0

  abbrev held_beside : List Beside → ℕ
  held_beside [] = 0
  held_beside (b ∷ bs) = one_of b.id j + held_by b.alive j + held_beside bs

  registers_held : List Beside → ℕ
  registers_held [] = 0
  registers_held (b ∷ bs) = one_of b.id j + registers_held bs

  alive_held : (id : ℕ) (o : Option ℕ) (rest : Cells) → places_of (alive_place id o ++ rest) j ≡ held_by o j + places_of rest j
  alive_held id None rest = let e : places_of rest j ≡ 0 + places_of rest j = omega arith in e
  alive_held id (Some index) rest = sum_by-cons bit_of (Alive_at id, marked index) rest

  counted : (bs : List Beside) → places_of (map (λ b. (Register_at b.id, marked b.id)) bs) j + places_of (flat_map (λ b. alive_place b.id b.alive) bs) j ≡ held_beside bs
  counted [] = refl
  counted (b ∷ bs) =
      let first = sum_by-cons bit_of (Register_at b.id, marked b.id) (map (λ b. (Register_at b.id, marked b.id)) bs) in
      let second = alive_held b.id b.alive (flat_map (λ b. alive_place b.id b.alive) bs) in
      let rest = counted bs in
      omega (arith, first, second, rest)

  places_beside : (bs : List Beside) → places_of (cells_of bs) j ≡ held_beside bs
  places_beside bs = sum_by-append bit_of (map (λ b. (Register_at b.id, marked b.id)) bs) (flat_map (λ b. alive_place b.id b.alive) bs) ∙ counted bs

  seats_held : (rows : List Row) (slots : Slots) → AreSeated rows slots → held_beside (shown_beside rows slots) ≡ held_in rows j
  seats_held [] slots h = refl
  seats_held (x ∷ rows) slots h = one (get slots x.slot) h.0 (seats_held rows slots h.1)
    where
      one : (o : Option Kept_session) → IsSomeAnd o (λ k. k.session.id ≡ x.register) → held_beside (map beside_of (seats rows slots)) ≡ held_in rows j → held_beside (map beside_of (one_seat x.alive o ++ seats rows slots)) ≡ one_of x.register j + held_by x.alive j + held_in rows j
      one None e later = absurd e
      one (Some k) e later = (λ i. one_of (e i) j + held_by x.alive j + later i)

  -- the places that the table shows are those of its rows
  pub places_are : (rows : List Row) (slots : Slots) → AreSeated rows slots → places_of (cells_of (shown_beside rows slots)) j ≡ held_in rows j
  places_are rows slots h = places_beside (shown_beside rows slots) ∙ seats_held rows slots h

  pub held_cut : (before after : List Row) (row : Row) → held_in (before ++ row ∷ after) j ≡ held_in (before ++ after) j + (one_of row.register j + held_by row.alive j)
  held_cut [] after row = omega arith
  held_cut (x ∷ before) after row = let e = held_cut before after row in omega (arith, e)

-- ---- what is out

pub out_covers : (held : ℕ → ℕ) (lent : Lent) → AreOut held lent → (j : ℕ) → held j ≤ tokens lent j
out_covers held lent out j = go (nat_lt 0 (held j)) refl
  where
    go : (b : Bool) → nat_lt 0 (held j) ≡ b → held j ≤ tokens lent j
    go true e = let above : 0 < held j = grind (arith, nat_tests, e) in omega (arith, out j above)
    go false e = grind (arith, nat_tests, e)

-- a commit that is covered by what is out is lent
pub covered_is_lent : (o : Option ℕ) (lent : Lent) → ((j : ℕ) → held_by o j ≤ tokens lent j) → IsLent o lent
covered_is_lent None lent h = tt
covered_is_lent (Some i) lent h = omega (arith, h i, one_itself i)

abbrev pub Closed : Option ℕ → ℕ → Lent → Lent → Type 0
Closed o by before now = (was held : ℕ → ℕ) → AreOut was before → ((j : ℕ) → held j + held_by o j ≡ was j) → Releases was held by before now

-- a keep-alive's commit in place of the one before
pub alive_released : (old new : ℕ → ℕ) (o : Option ℕ) (commit : ℕ) (before now : Lent) → AreOut old before → old commit ≡ 0 → tokens before commit ≡ 1 → ((j : ℕ) → new j + held_by o j ≡ old j + one_of commit j) → Closed o commit before now
    → Releases (λ j. old j + one_of commit j) new commit before now
alive_released old new o commit before now out absent lent counts closed = closed (both_held old (one_of commit)) new (are_out_with old before commit out absent lent) counts

-- both commits of a session, one after the other
pub both_released : (id : ℕ) (o : Option ℕ) (by : ℕ) (before mid now : Lent) → ((j : ℕ) → tokens before j ≡ tokens mid j + one_of id j) → mid.closed ≡ before.closed ++ pair_of_last (tokens mid id) id by → mid.spare ≡ before.spare → Closed o by mid now
    → ClosesBoth id o by before now
both_released id o by before mid now gone closed spare second was held out counts =
    let kept : ℕ → ℕ = λ j. held j + held_by o j in
    let one : Releases was kept by before mid = closes_one was kept id by before mid out (λ j. let e = counts j in omega (arith, e)) gone closed spare in
    releases_then was kept held by before mid now one (second kept held (are_out_still was kept by before mid out one) (λ j. refl))

-- ---- the end

pub record RetiredSoFar (rows left : List Row) (before now : Lent) : Type 0 where
  pub covered : (j : ℕ) → held_in left j ≤ tokens now j
  pub tokens : (j : ℕ) → tokens now j + held_in rows j ≡ tokens before j + held_in left j
  pub closed : now.closed ≡ before.closed
  pub spare : now.spare ≡ before.spare

pub retired_more : (rows left : List Row) (row : Row) (before now mid then : Lent) → RetiredSoFar rows (row ∷ left) before now → Retires (held_by (Some row.register)) now mid → Retires (held_by row.alive) mid then → RetiredSoFar rows left before then
retired_more rows left row before now mid then so_far first second = record {
  covered = λ j. let a = so_far.covered j in let b = first.tokens j in let c = second.tokens j in omega (arith, a, b, c);
  tokens = λ j. let a = so_far.tokens j in let b = first.tokens j in let c = second.tokens j in omega (arith, a, b, c);
  closed = second.closed ∙ first.closed ∙ so_far.closed;
  spare = second.spare ∙ first.spare ∙ so_far.spare;
}

pub nothing_left : (rows : List Row) → length rows ≡ 0 → (j : ℕ) → held_in rows j ≡ 0
nothing_left [] e j = refl
nothing_left (x ∷ rows) e j = absurd (let n : length (x ∷ rows) ≡ suc (length rows) = refl in omega (arith, n, e))

pub retired_all : (was : ℕ → ℕ) (rows left : List Row) (before now : Lent) → ((j : ℕ) → was j ≡ held_in rows j) → ((j : ℕ) → held_in left j ≡ 0) → RetiredSoFar rows left before now → Retires was before now
retired_all was rows left before now same none so_far = record {
  tokens = λ j. let a = so_far.tokens j in let b = same j in let c = none j in omega (arith, a, b, c);
  closed = so_far.closed;
  spare = so_far.spare;
}

pub retired_none : (was : ℕ → ℕ) (rows : List Row) (lent : Lent) → ((j : ℕ) → was j ≡ held_in rows j) → AreOut was lent → RetiredSoFar rows rows lent lent
retired_none was rows lent same out = record { covered = λ j. let a = out_covers was lent out j in let b = same j in omega (arith, a, b); tokens = λ j. refl; closed = refl; spare = refl }

-- the places of a table, by the rows that it keeps
pub places_in : (a : Inside) (t : Table) (j : ℕ) → AreSeated a.order.items a.slots → table a ≡ t → places_of (table_cells t) j ≡ held_in a.order.items j
places_in a t j seated view = ap (λ (u : Table). places_of (table_cells u) j) (sym view) ∙ places_are j a.order.items a.slots seated
