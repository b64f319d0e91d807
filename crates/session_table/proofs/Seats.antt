-- The rows of sessions: finding one, and what a change of one of them shows.
use Rattle.std.proofs.Common.{◌≡◌, ◌≢◌, ℕ, ◌<◌, ◌≤◌, ◌==◌, Bool, true, false, not, cond, List, [], ◌∷◌, ◌++◌, map, Option, Some, None, is_some, refl, sym, ap, subst, ◌∙◌, arith, eqb-true, eq-eqb}
use Rattle.std.proofs.lemmas.Bool.{false_from_ne_true}
use Rattle.std.proofs.lemmas.Option.{none-some, same_Some}
use Rattle.std.specs.List.{filter, find}
use Rattle.std.specs.Option.{option_map, IsSomeAnd}
use Rattle.slab.specs.Slab.{get, with_value, Updates}
use Rattle.slab.proofs.SlabLemmas.{Updates-with_value}
use Rattle.event_batches.specs.Rising.{Rises}
use Rattle.session_table.specs.Kept.{Kept_session}
use Rattle.session_table.specs.Rows.{Slots, row_at, Seat, one_seat, seats, AreSeated}
use Rattle.session_table.specs.declared.order.Row.{Row}

differs : (n m : ℕ) → n ≢ m → (n == m) ≡ false
differs n m ne = false_from_ne_true (n == m) (λ t. ne (eqb-true n m t))

-- ---- seats of other sessions

abbrev pub Away : ℕ → List Seat → Type 0
Away id [] = Unit {0}
Away id (seat ∷ ss) = ((seat.kept.session.id == id) ≡ false) × Away id ss

-- what is read off the seats has their ids
module _ {A : Type 0} (g : Seat → A) (id_of : A → ℕ) (own : (seat : Seat) → id_of (g seat) ≡ seat.kept.session.id) (id : ℕ) where
  other : (seat : Seat) → (seat.kept.session.id == id) ≡ false → (id_of (g seat) == id) ≡ false
  other seat e = ap (λ n. n == id) (own seat) ∙ e

  same : (seat : Seat) → seat.kept.session.id ≡ id → (id_of (g seat) == id) ≡ true
  same seat e = eq-eqb (id_of (g seat)) id (own seat ∙ e)

  abbrev pub changed_by : (A → A) → List A → List A
  changed_by f xs = map (λ a. cond (id_of a == id) (f a) a) xs

  abbrev pub found_by : List A → Option A
  found_by xs = find (λ a. id_of a == id) xs

  abbrev pub left_by : List A → List A
  left_by xs = filter (λ a. not (id_of a == id)) xs

  map_away : (f : A → A) (ss : List Seat) → Away id ss → changed_by f (map g ss) ≡ map g ss
  map_away f [] w = refl
  map_away f (s ∷ ss) w = (λ i. cond (other s w.0 i) (f (g s)) (g s) ∷ map_away f ss w.1 i)

  pub map_one : (f : A → A) (before after : List Seat) (s s' : Seat) → Away id before → Away id after → s.kept.session.id ≡ id → f (g s) ≡ g s'
      → map g (before ++ s' ∷ after) ≡ changed_by f (map g (before ++ s ∷ after))
  map_one f [] after s s' b a is e = sym (λ i. (ap (λ q. cond q (f (g s)) (g s)) (same s is) ∙ e) i ∷ map_away f after a i)
  map_one f (x ∷ before) after s s' b a is e = (λ i. sym (ap (λ q. cond q (f (g x)) (g x)) (other x b.0)) i ∷ map_one f before after s s' b.1 a is e i)

  find_away : (ss : List Seat) → Away id ss → found_by (map g ss) ≡ None
  find_away [] w = refl
  find_away (s ∷ ss) w = ap (λ q. cond q (Some (g s)) (found_by (map g ss))) (other s w.0) ∙ find_away ss w.1

  pub find_one : (before after : List Seat) (s : Seat) → Away id before → s.kept.session.id ≡ id → found_by (map g (before ++ s ∷ after)) ≡ Some (g s)
  find_one [] after s b is = ap (λ q. cond q (Some (g s)) (found_by (map g after))) (same s is)
  find_one (x ∷ before) after s b is = ap (λ q. cond q (Some (g x)) (found_by (map g (before ++ s ∷ after)))) (other x b.0) ∙ find_one before after s b.1 is

  filter_away : (ss : List Seat) → Away id ss → left_by (map g ss) ≡ map g ss
  filter_away [] w = refl
  filter_away (s ∷ ss) w = ap (λ q. cond (not q) (g s ∷ left_by (map g ss)) (left_by (map g ss))) (other s w.0) ∙ ap (λ xs. g s ∷ xs) (filter_away ss w.1)

  pub filter_one : (before after : List Seat) (s : Seat) → Away id before → Away id after → s.kept.session.id ≡ id → map g (before ++ after) ≡ left_by (map g (before ++ s ∷ after))
  filter_one [] after s b a is = sym (ap (λ q. cond (not q) (g s ∷ left_by (map g after)) (left_by (map g after))) (same s is) ∙ filter_away after a)
  filter_one (x ∷ before) after s b a is =
      ap (λ xs. g x ∷ xs) (filter_one before after s b.1 a is)
      ∙ sym (ap (λ q. cond (not q) (g x ∷ left_by (map g (before ++ s ∷ after))) (left_by (map g (before ++ s ∷ after)))) (other x b.0))

  -- another session's
  pub find_beside : (before after : List Seat) (s s' : Seat) → (s.kept.session.id == id) ≡ false → (s'.kept.session.id == id) ≡ false → found_by (map g (before ++ s' ∷ after)) ≡ found_by (map g (before ++ s ∷ after))
  find_beside [] after s s' e e' =
      ap (λ q. cond q (Some (g s')) (found_by (map g after))) (other s' e') ∙ sym (ap (λ q. cond q (Some (g s)) (found_by (map g after))) (other s e))
  find_beside (x ∷ before) after s s' e e' = ap (λ o. cond (id_of (g x) == id) (Some (g x)) o) (find_beside before after s s' e e')

  pub find_without : (before after : List Seat) (s : Seat) → (s.kept.session.id == id) ≡ false → found_by (map g (before ++ after)) ≡ found_by (map g (before ++ s ∷ after))
  find_without [] after s e = sym (ap (λ q. cond q (Some (g s)) (found_by (map g after))) (other s e))
  find_without (x ∷ before) after s e = ap (λ o. cond (id_of (g x) == id) (Some (g x)) o) (find_without before after s e)

  -- one more at the end
  pub find_pushed : (ss : List Seat) (s : Seat) → Away id ss → (s.kept.session.id == id) ≡ false → found_by (map g (ss ++ s ∷ [])) ≡ None
  find_pushed [] s w e = ap (λ q. cond q (Some (g s)) None) (other s e)
  find_pushed (x ∷ ss) s w e = ap (λ q. cond q (Some (g x)) (found_by (map g (ss ++ s ∷ [])))) (other x w.0) ∙ find_pushed ss s w.1 e

-- ---- rows

abbrev pub Apart : ℕ → List Row → Type 0
Apart id [] = Unit {0}
Apart id (row ∷ rows) = (row.register ≢ id) × Apart id rows

abbrev pub registers : List Row → List ℕ
registers rows = map (λ row. row.register) rows

apart_after : (low id : ℕ) (rows : List Row) → id ≤ low → Rises low (registers rows) → Apart id rows
apart_after low id [] l r = tt
apart_after low id (x ∷ rows) l r = ((λ e. let up = r.0 in omega arith), apart_after x.register id rows (let up = r.0 in omega arith) r.1)

reaches : (low : ℕ) (before after : List Row) (row : Row) → Rises low (registers (before ++ row ∷ after)) → low < row.register
reaches low [] after row r = r.0
reaches low (x ∷ before) after row r = let up = r.0 in let more = reaches x.register before after row r.1 in omega arith

pub apart_parts : (low : ℕ) (before after : List Row) (row : Row) → Rises low (registers (before ++ row ∷ after)) → Apart row.register before × Apart row.register after
apart_parts low [] after row r = (tt, apart_after row.register row.register after (omega arith) r.1)
apart_parts low (x ∷ before) after row r =
    let rest = apart_parts x.register before after row r.1 in
    let up = reaches x.register before after row r.1 in
    (((λ e. omega arith), rest.0), rest.1)

pub seated_before : (slots : Slots) (before after : List Row) → AreSeated (before ++ after) slots → AreSeated before slots
seated_before slots [] after h = tt
seated_before slots (x ∷ before) after h = (h.0, seated_before slots before after h.1)

pub seated_after : (slots : Slots) (before after : List Row) → AreSeated (before ++ after) slots → AreSeated after slots
seated_after slots [] after h = h
seated_after slots (x ∷ before) after h = seated_after slots before after h.1

pub seated_both : (slots : Slots) (before after : List Row) → AreSeated before slots → AreSeated after slots → AreSeated (before ++ after) slots
seated_both slots [] after a b = b
seated_both slots (x ∷ before) after a b = (a.0, seated_both slots before after a.1 b)

pub seats_append : (slots : Slots) (before after : List Row) → seats (before ++ after) slots ≡ seats before slots ++ seats after slots
seats_append slots [] after = refl
seats_append slots (x ∷ before) after = one (get slots x.slot) (seats_append slots before after)
  where
    one : (o : Option Kept_session) → seats (before ++ after) slots ≡ seats before slots ++ seats after slots → one_seat x.alive o ++ seats (before ++ after) slots ≡ (one_seat x.alive o ++ seats before slots) ++ seats after slots
    one None e = e
    one (Some k) e = ap (λ ss. record { alive = x.alive; kept = k } ∷ ss) e

-- what a row has
pub own_id : (o : Option Kept_session) (id : ℕ) (k : Kept_session) → IsSomeAnd o (λ kept. kept.session.id ≡ id) → o ≡ Some k → k.session.id ≡ id
own_id None id k h e = absurd (none-some k e)
own_id (Some x) id k h e = subst (λ (y : Kept_session). y.session.id ≡ id) (same_Some x k e) h

pub seats_away : (slots : Slots) (id : ℕ) (rows : List Row) → Apart id rows → AreSeated rows slots → Away id (seats rows slots)
seats_away slots id [] a h = tt
seats_away slots id (x ∷ rows) a h = one (get slots x.slot) h.0 (seats_away slots id rows a.1 h.1)
  where
    one : (o : Option Kept_session) → IsSomeAnd o (λ kept. kept.session.id ≡ x.register) → Away id (seats rows slots) → Away id (one_seat x.alive o ++ seats rows slots)
    one None s later = later
    one (Some k) s later = (differs k.session.id id (λ e. a.0 (sym s ∙ e)), later)

-- a change at one key, seen by rows of other sessions
pub record Unseen (rows : List Row) (old new : Slots) : Type 0 where
  pub seats : seats rows new ≡ seats rows old
  pub seated : AreSeated rows new

pub unseen : (old new : Slots) (id slot : ℕ) (k : Kept_session) (left : Option Kept_session) (rows : List Row) → Updates old new slot left → get old slot ≡ Some k → k.session.id ≡ id → Apart id rows → AreSeated rows old → Unseen rows old new
unseen old new id slot k left [] u there own a h = record { seats = refl; seated = tt }
unseen old new id slot k left (x ∷ rows) u there own a h =
    let elsewhere : x.slot ≢ slot = λ e. a.0 (sym (own_id (get old x.slot) x.register k h.0 (ap (get old) e ∙ there)) ∙ own) in
    let kept = u.others x.slot elsewhere in
    let rest = unseen old new id slot k left rows u there own a.1 h.1 in
    record {
      seats = (λ i. one_seat x.alive (kept i) ++ rest.seats i);
      seated = (subst (λ o. IsSomeAnd o (λ kept. kept.session.id ≡ x.register)) (sym kept) h.0, rest.seated);
    }

-- ---- one row

-- the row of an open session among the others
pub record Spot (rows : List Row) (slots : Slots) (id : ℕ) (row : Row) (kept : Kept_session) : Type 0 where
  pub before : List Row
  pub after : List Row
  pub cut : rows ≡ before ++ row ∷ after
  pub is : row.register ≡ id
  pub there : get slots row.slot ≡ Some kept
  pub own : kept.session.id ≡ id
  pub apart : Apart id before × Apart id after
  pub seated : AreSeated before slots × AreSeated after slots

abbrev pub spot_of : (rows : List Row) (slots : Slots) (before after : List Row) (row : Row) (kept : Kept_session) → Rises 0 (registers rows) → AreSeated rows slots → rows ≡ before ++ row ∷ after → get slots row.slot ≡ Some kept → Spot rows slots row.register row kept
spot_of rows slots before after row kept r h cut there =
    let seated = subst (λ rs. AreSeated rs slots) cut h in
    let here = seated_after slots before (row ∷ after) seated in
    record {
      before = before;
      after = after;
      cut = cut;
      is = refl;
      there = there;
      own = own_id (get slots row.slot) row.register kept here.0 there;
      apart = apart_parts 0 before after row (subst (λ rs. Rises 0 (registers rs)) cut r);
      seated = (seated_before slots before (row ∷ after) seated, here.1);
    }

-- what is found stands somewhere
pub cut_at : (id : ℕ) (rows : List Row) (row : Row) → row_at id rows ≡ Some row → (before : List Row) × (after : List Row) × (rows ≡ before ++ row ∷ after) × (row.register ≡ id)
cut_at id [] row e = absurd (none-some row e)
cut_at id (x ∷ rows) row e = go (x.register == id) refl e (cut_at id rows row)
  where
    go : (b : Bool) → (x.register == id) ≡ b → cond b (Some x) (row_at id rows) ≡ Some row → (row_at id rows ≡ Some row → (before : List Row) × (after : List Row) × (rows ≡ before ++ row ∷ after) × (row.register ≡ id))
        → (before : List Row) × (after : List Row) × (x ∷ rows ≡ before ++ row ∷ after) × (row.register ≡ id)
    go true t e later = let is : x ≡ row = same_Some x row e in ([], rows, ap (λ y. y ∷ rows) is, sym (ap (λ (r : Row). r.register) is) ∙ eqb-true x.register id t)
    go false t e later = let r = later e in (x ∷ r.0, r.1, ap (λ rs. x ∷ rs) r.2, r.3)

-- the row with this key
pub spot_at : (rows : List Row) (slots : Slots) (id slot : ℕ) (kept : Kept_session) → Rises 0 (registers rows) → AreSeated rows slots → option_map (λ row. row.slot) (row_at id rows) ≡ Some slot → get slots slot ≡ Some kept → (row : Row) × (row.slot ≡ slot) × Spot rows slots id row kept
spot_at rows slots id slot kept r h found there = go (row_at id rows) refl found
  where
    go : (o : Option Row) → row_at id rows ≡ o → option_map (λ row. row.slot) o ≡ Some slot → (row : Row) × (row.slot ≡ slot) × Spot rows slots id row kept
    go None e f = absurd (none-some slot f)
    go (Some row) e f =
        let c = cut_at id rows row e in
        let is : row.slot ≡ slot = same_Some row.slot slot f in
        (row, is, subst (λ n. Spot rows slots n row kept) c.3 (spot_of rows slots c.0 c.1 row kept r h c.2 (ap (get slots) is ∙ there)))

-- two lists of seats that differ in the seat of one session
pub record Around (olds news : List Seat) (id : ℕ) (s s' : Seat) : Type 0 where
  pub before : List Seat
  pub after : List Seat
  pub old_is : olds ≡ before ++ s ∷ after
  pub new_is : news ≡ before ++ s' ∷ after
  pub own : s.kept.session.id ≡ id
  pub own' : s'.kept.session.id ≡ id
  pub away : Away id before × Away id after

-- the row's commits are others, and its session is changed
pub around : (rows : List Row) (old : Slots) (id : ℕ) (row row' : Row) (kept kept' : Kept_session) → row'.slot ≡ row.slot → row'.register ≡ row.register → (spot : Spot rows old id row kept) → kept'.session.id ≡ kept.session.id
    → AreSeated (spot.before ++ row' ∷ spot.after) (with_value old row.slot kept') × Around (seats rows old) (seats (spot.before ++ row' ∷ spot.after) (with_value old row.slot kept')) id (record { alive = row.alive; kept = kept }) (record { alive = row'.alive; kept = kept' })
around rows old id row row' kept kept' slot register spot same =
    let new : Slots = with_value old row.slot kept' in
    let u : Updates old new row.slot (Some kept') = Updates-with_value old row.slot kept' (ap is_some spot.there) in
    let first = unseen old new id row.slot kept (Some kept') spot.before u spot.there spot.own spot.apart.0 spot.seated.0 in
    let second = unseen old new id row.slot kept (Some kept') spot.after u spot.there spot.own spot.apart.1 spot.seated.1 in
    let there : get new row'.slot ≡ Some kept' = ap (get new) slot ∙ u.changed in (
      seated_both new spot.before (row' ∷ spot.after) first.seated (subst (λ o. IsSomeAnd o (λ k. k.session.id ≡ row'.register)) (sym there) (same ∙ spot.own ∙ sym spot.is ∙ sym register), second.seated),
      record {
        before = seats spot.before old;
        after = seats spot.after old;
        old_is = ap (λ rs. seats rs old) spot.cut ∙ seats_append old spot.before (row ∷ spot.after) ∙ ap (λ o. seats spot.before old ++ (one_seat row.alive o ++ seats spot.after old)) spot.there;
        new_is = seats_append new spot.before (row' ∷ spot.after) ∙ (λ i. first.seats i ++ (one_seat row'.alive (there i) ++ second.seats i));
        own = spot.own;
        own' = same ∙ spot.own;
        away = (seats_away old id spot.before spot.apart.0 spot.seated.0, seats_away old id spot.after spot.apart.1 spot.seated.1);
      },
    )
