-- What a keep-alive, an end and a new session make of the rows.
use Rattle.std.proofs.Common.{◌≡◌, ◌≢◌, ℕ, zero, suc, ◌+◌, ◌<◌, ◌≤◌, ◌==◌, Bool, true, false, not, cond, List, [], ◌∷◌, ◌++◌, map, Option, Some, None, slice_set, refl, sym, ap, subst, ◌∙◌, arith, eqb-true}
use Rattle.std.proofs.lemmas.Bool.{false_from_ne_true}
use Rattle.std.proofs.lemmas.Option.{none-some, same_Some}
use Rattle.std.specs.List.{filter, find, slice_get, remove}
use Rattle.std.specs.Option.{option_map_or, IsSomeAnd}
use Rattle.slab.specs.Slab.{get, with_value, Updates}
use Rattle.commit_lending.specs.Lent.{one_of}
use Rattle.machine.specs.Holding.{held_by}
use Rattle.event_batches.specs.Rising.{Rises, AreBelow}
use Rattle.event_batches.proofs.RisingLists.{map_push, rises_push, below_last}
use Rattle.event_batches.proofs.Searching.{rises_lower}
use Rattle.session_table.specs.Kept.{Kept_session}
use Rattle.session_table.specs.Table.{Room}
use Rattle.session_table.specs.Rows.{Slots, row_at, Seat, one_seat, seats, AreSeated, room_of, held_in}
use Rattle.session_table.specs.declared.order.Row.{Row}
use Rattle.session_table.proofs.Seats.{registers, Away, spot_of, cut_at, around, Around, unseen, seats_away, seats_append, seated_both, filter_one, find_without}
use Rattle.session_table.proofs.Holding.{held_cut}

-- ---- a row at a place

record Placed (rows : List Row) (place : ℕ) (row : Row) : Type 0 where
  before : List Row
  after : List Row
  cut : rows ≡ before ++ row ∷ after
  set : (row' : Row) → slice_set rows place row' ≡ before ++ row' ∷ after
  gone : remove rows place ≡ before ++ after

placed : (rows : List Row) (place : ℕ) (row : Row) → slice_get rows place ≡ Some row → Placed rows place row
placed [] place row e = absurd (none-some row e)
placed (x ∷ rows) zero row e = record { before = []; after = rows; cut = ap (λ y. y ∷ rows) (same_Some x row e); set = λ row'. refl; gone = refl }
placed (x ∷ rows) (suc place) row e =
    let p = placed rows place row e in
    record { before = x ∷ p.before; after = p.after; cut = ap (λ ys. x ∷ ys) p.cut; set = λ row'. ap (λ ys. x ∷ ys) (p.set row'); gone = ap (λ ys. x ∷ ys) p.gone }

same_registers : (before after : List Row) (row row' : Row) → row'.register ≡ row.register → registers (before ++ row' ∷ after) ≡ registers (before ++ row ∷ after)
same_registers [] after row row' e = ap (λ n. n ∷ registers after) e
same_registers (x ∷ before) after row row' e = ap (λ ns. x.register ∷ ns) (same_registers before after row row' e)

rises_without : (low : ℕ) (before after : List Row) (row : Row) → Rises low (registers (before ++ row ∷ after)) → Rises low (registers (before ++ after))
rises_without low [] after row r = rises_lower (λ (x : Row). x.register) low row.register after (let up = r.0 in omega arith) r.1
rises_without low (x ∷ before) after row r = (r.0, rises_without x.register before after row r.1)

-- its commits are among those that are held
pub held_at : (rows : List Row) (place : ℕ) (row : Row) → slice_get rows place ≡ Some row → (j : ℕ) → one_of row.register j + held_by row.alive j ≤ held_in rows j
held_at rows place row at j =
    let p = placed rows place row at in
    let e : held_in rows j ≡ held_in (p.before ++ p.after) j + (one_of row.register j + held_by row.alive j) = ap (λ rs. held_in rs j) p.cut ∙ held_cut j p.before p.after row in
    omega (arith, e)

-- ---- a keep-alive

pub record AliveAround (rows rows' : List Row) (slots slots' : Slots) (id : ℕ) (row row' : Row) (kept kept' : Kept_session) : Type 0 where
  pub rising : Rises 0 (registers rows')
  pub seated : AreSeated rows' slots'
  pub around : Around (seats rows slots) (seats rows' slots') id (record { alive = row.alive; kept = kept }) (record { alive = row'.alive; kept = kept' })
  pub held : (j : ℕ) → held_in rows' j + held_by row.alive j ≡ held_in rows j + held_by row'.alive j
  pub covers : (j : ℕ) → held_by row.alive j ≤ held_in rows j

pub alive_around : (rows : List Row) (slots : Slots) (id place : ℕ) (row row' : Row) (kept kept' : Kept_session) → Rises 0 (registers rows) → AreSeated rows slots → slice_get rows place ≡ row_at id rows → slice_get rows place ≡ Some row → get slots row.slot ≡ Some kept
    → row'.slot ≡ row.slot → row'.register ≡ row.register → kept'.session.id ≡ kept.session.id → AliveAround rows (slice_set rows place row') slots (with_value slots row.slot kept') id row row' kept kept'
alive_around rows slots id place row row' kept kept' r h is_row at there slot register same =
    let p = placed rows place row at in
    let is : row.register ≡ id = (cut_at id rows row (sym is_row ∙ at)).3 in
    let spot = spot_of rows slots p.before p.after row kept r h p.cut there in
    let both = around rows slots row.register row row' kept kept' slot register spot same in
    subst (λ n. AliveAround rows (slice_set rows place row') slots (with_value slots row.slot kept') n row row' kept kept') is
    (subst (λ rs. AliveAround rows rs slots (with_value slots row.slot kept') row.register row row' kept kept') (sym (p.set row'))
    (record {
      rising = subst (Rises 0) (sym (same_registers p.before p.after row row' register)) (subst (λ rs. Rises 0 (registers rs)) p.cut r);
      seated = both.0;
      around = both.1;
      held = λ j.
          let new = held_cut j p.before p.after row' in
          let old : held_in rows j ≡ held_in (p.before ++ p.after) j + (one_of row.register j + held_by row.alive j) = ap (λ rs. held_in rs j) p.cut ∙ held_cut j p.before p.after row in
          let id_same = ap (λ n. one_of n j) register in
          omega (arith, new, old, id_same);
      covers = λ j.
          let old : held_in rows j ≡ held_in (p.before ++ p.after) j + (one_of row.register j + held_by row.alive j) = ap (λ rs. held_in rs j) p.cut ∙ held_cut j p.before p.after row in
          omega (arith, old);
    }))

-- ---- an end

pub record Gone (olds news : List Seat) (id : ℕ) (s : Seat) : Type 0 where
  pub before : List Seat
  pub after : List Seat
  pub old_is : olds ≡ before ++ s ∷ after
  pub new_is : news ≡ before ++ after
  pub own : s.kept.session.id ≡ id
  pub away : Away id before × Away id after

pub record ClosedAround (rows rows' : List Row) (slots slots' : Slots) (id : ℕ) (row : Row) (kept : Kept_session) : Type 0 where
  pub rising : Rises 0 (registers rows')
  pub seated : AreSeated rows' slots'
  pub gone : Gone (seats rows slots) (seats rows' slots') id (record { alive = row.alive; kept = kept })
  pub held : (j : ℕ) → held_in rows j ≡ held_in rows' j + (one_of row.register j + held_by row.alive j)

pub closed_around : (rows : List Row) (slots slots' : Slots) (id place : ℕ) (row : Row) (kept : Kept_session) → Rises 0 (registers rows) → AreSeated rows slots → slice_get rows place ≡ row_at id rows → slice_get rows place ≡ Some row → get slots row.slot ≡ Some kept
    → Updates slots slots' row.slot None → ClosedAround rows (remove rows place) slots slots' id row kept
closed_around rows slots slots' id place row kept r h is_row at there u =
    let p = placed rows place row at in
    let is : row.register ≡ id = (cut_at id rows row (sym is_row ∙ at)).3 in
    let spot = spot_of rows slots p.before p.after row kept r h p.cut there in
    let first = unseen slots slots' row.register row.slot kept None p.before u there spot.own spot.apart.0 spot.seated.0 in
    let second = unseen slots slots' row.register row.slot kept None p.after u there spot.own spot.apart.1 spot.seated.1 in
    subst (λ n. ClosedAround rows (remove rows place) slots slots' n row kept) is
    (subst (λ rs. ClosedAround rows rs slots slots' row.register row kept) (sym p.gone)
    (record {
      rising = rises_without 0 p.before p.after row (subst (λ rs. Rises 0 (registers rs)) p.cut r);
      seated = seated_both slots' p.before p.after first.seated second.seated;
      gone = record {
        before = seats p.before slots;
        after = seats p.after slots;
        old_is = ap (λ rs. seats rs slots) p.cut ∙ seats_append slots p.before (row ∷ p.after) ∙ ap (λ o. seats p.before slots ++ (one_seat row.alive o ++ seats p.after slots)) there;
        new_is = seats_append slots' p.before p.after ∙ (λ i. first.seats i ++ second.seats i);
        own = spot.own;
        away = (seats_away slots row.register p.before spot.apart.0 spot.seated.0, seats_away slots row.register p.after spot.apart.1 spot.seated.1);
      };
      held = λ j. ap (λ rs. held_in rs j) p.cut ∙ held_cut j p.before p.after row;
    }))

module _ (olds news : List Seat) (id : ℕ) (s : Seat) (a : Gone olds news id s) where
  pub left : {A : Type 0} (g : Seat → A) (id_of : A → ℕ) → ((seat : Seat) → id_of (g seat) ≡ seat.kept.session.id) → map g news ≡ filter (λ x. not (id_of x == id)) (map g olds)
  left g id_of own =
      ap (map g) a.new_is ∙ filter_one g id_of own id a.before a.after s a.away.0 a.away.1 a.own
      ∙ sym (ap (λ ss. filter (λ x. not (id_of x == id)) (map g ss)) a.old_is)

  pub found_still : (other : ℕ) → other ≢ id → find (λ r. r.id == other) (map room_of news) ≡ find (λ r. r.id == other) (map room_of olds)
  found_still other ne =
      let apart : (s.kept.session.id == other) ≡ false = false_from_ne_true (s.kept.session.id == other) (λ t. ne (sym (eqb-true s.kept.session.id other t) ∙ a.own)) in
      ap (λ ss. find (λ r. r.id == other) (map room_of ss)) a.new_is
      ∙ find_without room_of (λ r. r.id) (λ seat. refl) other a.before a.after s apart
      ∙ sym (ap (λ ss. find (λ r. r.id == other) (map room_of ss)) a.old_is)

-- ---- a new session

pub record NewSeat (rows : List Row) (slots slots' : Slots) (row : Row) (kept : Kept_session) : Type 0 where
  pub seated : AreSeated (rows ++ row ∷ []) slots'
  pub seats : seats (rows ++ row ∷ []) slots' ≡ seats rows slots ++ record { alive = row.alive; kept = kept } ∷ []

pub new_seat : (rows : List Row) (slots slots' : Slots) (row : Row) (kept : Kept_session) → AreSeated rows slots → get slots row.slot ≡ None → Updates slots slots' row.slot (Some kept) → kept.session.id ≡ row.register → NewSeat rows slots slots' row kept
new_seat [] slots slots' row kept h vacant u own = record {
  seated = (subst (λ o. IsSomeAnd o (λ k. k.session.id ≡ row.register)) (sym u.changed) own, tt);
  seats = ap (λ o. one_seat row.alive o ++ []) u.changed;
}
new_seat (x ∷ rows) slots slots' row kept h vacant u own =
    let rest = new_seat rows slots slots' row kept h.1 vacant u own in
    let elsewhere : x.slot ≢ row.slot = λ e. taken (get slots x.slot) h.0 (ap (get slots) e ∙ vacant) in
    let same = u.others x.slot elsewhere in
    record {
      seated = (subst (λ o. IsSomeAnd o (λ k. k.session.id ≡ x.register)) (sym same) h.0, rest.seated);
      seats = (λ i. one_seat x.alive (same i) ++ rest.seats i) ∙ shift (get slots x.slot);
    }
  where
    taken : (o : Option Kept_session) → IsSomeAnd o (λ k. k.session.id ≡ x.register) → o ≡ None → ⊥
    taken None s e = s
    taken (Some k) s e = none-some k (sym e)

    shift : (o : Option Kept_session) → one_seat x.alive o ++ (seats rows slots ++ record { alive = row.alive; kept = kept } ∷ []) ≡ (one_seat x.alive o ++ seats rows slots) ++ record { alive = row.alive; kept = kept } ∷ []
    shift None = refl
    shift (Some k) = refl

pub held_push : (rows : List Row) (row : Row) (j : ℕ) → held_in (rows ++ row ∷ []) j ≡ held_in rows j + (one_of row.register j + held_by row.alive j)
held_push [] row j = omega arith
held_push (x ∷ rows) row j = let e = held_push rows row j in omega (arith, e)

pub rises_new : (rows : List Row) (row : Row) → Rises 0 (registers rows) → 0 < row.register → AreBelow row.register (registers rows) → Rises 0 (registers (rows ++ row ∷ []))
rises_new rows row r some below = subst (Rises 0) (sym (map_push (λ (x : Row). x.register) rows row)) (rises_push 0 row.register (registers rows) r (below_last 0 row.register (registers rows) some below))

pub room_pushed : (n : Room → ℕ) (other : ℕ) (ss : List Seat) (s : Seat) → option_map_or n (find (λ r. r.id == other) (map room_of ss)) 0 ≤ option_map_or n (find (λ r. r.id == other) (map room_of (ss ++ s ∷ []))) 0
room_pushed n other [] s = omega arith
room_pushed n other (x ∷ ss) s = go (x.kept.session.id == other) (room_pushed n other ss s)
  where
    go : (b : Bool) → option_map_or n (find (λ r. r.id == other) (map room_of ss)) 0 ≤ option_map_or n (find (λ r. r.id == other) (map room_of (ss ++ s ∷ []))) 0
        → option_map_or n (cond b (Some (room_of x)) (find (λ r. r.id == other) (map room_of ss))) 0 ≤ option_map_or n (cond b (Some (room_of x)) (find (λ r. r.id == other) (map room_of (ss ++ s ∷ [])))) 0
    go true later = omega arith
    go false later = later
