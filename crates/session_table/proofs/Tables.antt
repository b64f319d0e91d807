-- What a caller of the table sees of one session.
use Rattle.std.proofs.Common.{◌≡◌, ◌≢◌, ℕ, ◌≤◌, ◌==◌, Bool, true, false, cond, List, [], ◌∷◌, ◌++◌, map, length, Option, Some, None, is_some, Result, Ok, Err, is_ok, zero, suc, ◌+◌, ◌-◌, count_by, slice_index_or, slice_set, refl, sym, ap, subst, ◌∙◌, inl, inr, arith, eqb-true, eq-eqb}
use Rattle.std.proofs.lemmas.Bool.{cases_eq, false_from_ne_true}
use Rattle.std.proofs.lemmas.List.Sums.{sum_by-cons}
use Rattle.std.proofs.lemmas.Option.{none-some, same_Some}
use Rattle.std.specs.List.{find, flat_map}
use Rattle.std.specs.VecDeque.{deque_len, deque_capacity}
use Rattle.host_types.specs.Cells.{Place, Held, Register_at, marked}
use Rattle.std.specs.Option.{option_map, option_map_or, IsSome, IsSomeAnd}
use Rattle.std.specs.Prelude.{OnOk}
use Rattle.slab.proofs.SlabLemmas.{Updates-with_value}
use Rattle.slab.specs.Slab.{get, with_value, ContainsKey, slab_len}
use Rattle.log_model.specs.plain.Plain.{Session}
use Rattle.log_model.specs.plain.Step.{changed}
use Rattle.event_batches.specs.Rising.{Rises}
use Rattle.session_table.specs.Kept.{Kept_session}
use Rattle.session_table.specs.Table.{Beside, Room, Table, session_at, IsOpen, confirmed_of, reply_room, batch_room, KeepsRoom, IsSame, beside_changed, beside_confirmed}
use Rattle.session_table.specs.Rows.{Slots, row_at, kept_in, Seat, one_seat, seats, AreSeated, beside_of, room_of}
use Rattle.session_table.specs.Places.{alive_place, cells_of}
use Rattle.session_table.specs.Inside.{table, spare_of, IsInOrder}
use Rattle.session_table.specs.Deadlines.{deadline, AreMore}
use Rattle.session_table.specs.declared.sessions.Sessions.TheInside.{Inside}
use Rattle.session_table.specs.declared.order.Row.{Row}
use Rattle.session_table.proofs.Timely.{timely_still, timely_more, IsReady, ready, room_grows}
use Rattle.session_table.proofs.Seats.{Apart, registers, Away, map_one, find_one, find_beside, cut_at, spot_of, spot_at, seats_away, seats_append, seated_after, Around, around}

abbrev pub session_of_seat : Seat → Session
session_of_seat seat = seat.kept.session

abbrev pub shown_sessions : List Row → Slots → List Session
shown_sessions rows slots = map session_of_seat (seats rows slots)

abbrev pub shown_beside : List Row → Slots → List Beside
shown_beside rows slots = map beside_of (seats rows slots)

abbrev pub shown_rooms : List Row → Slots → List Room
shown_rooms rows slots = map room_of (seats rows slots)

-- a table with these rows
abbrev pub shown : List Row → Slots → ℕ → Table
shown rows slots spare = record { sessions = shown_sessions rows slots; beside = shown_beside rows slots; rooms = shown_rooms rows slots; spare = spare }

no_row_apart : (id : ℕ) (rows : List Row) → row_at id rows ≡ None → Apart id rows
no_row_apart id [] e = tt
no_row_apart id (x ∷ rows) e = go (x.register == id) refl e (no_row_apart id rows)
  where
    go : (b : Bool) → (x.register == id) ≡ b → cond b (Some x) (row_at id rows) ≡ None → (row_at id rows ≡ None → Apart id rows) → Apart id (x ∷ rows)
    go true t e later = absurd (cc)
    go false t e later = ((λ same. let true_too : (x.register == id) ≡ true = eq-eqb x.register id same in absurd (cc)), later e)

away_none : {A : Type 0} (g : Seat → A) (id_of : A → ℕ) (own : (seat : Seat) → id_of (g seat) ≡ seat.kept.session.id) (id : ℕ) (ss : List Seat) → Away id ss → find (λ a. id_of a == id) (map g ss) ≡ None
away_none g id_of own id [] w = refl
away_none g id_of own id (s ∷ ss) w = ap (λ q. cond q (Some (g s)) (find (λ a. id_of a == id) (map g ss))) (ap (λ n. n == id) (own s) ∙ w.0) ∙ away_none g id_of own id ss w.1

-- ---- looking up

record Read (rows : List Row) (slots : Slots) (id : ℕ) (o : Option Kept_session) : Type 0 where
  session : find (λ x. x.id == id) (shown_sessions rows slots) ≡ option_map (λ k. k.session) o
  confirmed : option_map (λ b. b.confirmed) (find (λ b. b.id == id) (shown_beside rows slots)) ≡ option_map (λ k. k.confirmed) o
  reply_room : option_map (λ r. r.replies) (find (λ r. r.id == id) (shown_rooms rows slots)) ≡ option_map (λ k. k.reply_room) o
  batch_room : option_map (λ r. r.batches) (find (λ r. r.id == id) (shown_rooms rows slots)) ≡ option_map (λ k. k.batch_room) o

read : (rows : List Row) (slots : Slots) (id : ℕ) → Rises 0 (registers rows) → AreSeated rows slots → Read rows slots id (kept_in (row_at id rows) slots)
read rows slots id r h = go (row_at id rows) refl
  where
    some : (row : Row) → row_at id rows ≡ Some row → (o : Option Kept_session) → get slots row.slot ≡ o → Read rows slots id o
    some row e None there =
        let c = cut_at id rows row e in
        let seated = subst (λ rs. AreSeated rs slots) c.2 h in
        absurd (subst (λ o. IsSomeAnd o (λ k. k.session.id ≡ row.register)) there (seated_after slots c.0 (row ∷ c.1) seated).0)
    some row e (Some kept) there =
        let c = cut_at id rows row e in
        let spot = spot_of rows slots c.0 c.1 row kept r h c.2 there in
        let before = seats_away slots row.register spot.before spot.apart.0 spot.seated.0 in
        let away : Away id (seats spot.before slots) = subst (λ n. Away n (seats spot.before slots)) c.3 before in
        let own : kept.session.id ≡ id = spot.own ∙ c.3 in
        let s : Seat = record { alive = row.alive; kept = kept } in
        let is : seats rows slots ≡ seats spot.before slots ++ s ∷ seats spot.after slots =
        ap (λ rs. seats rs slots) spot.cut ∙ seats_append slots spot.before (row ∷ spot.after) ∙ ap (λ o. seats spot.before slots ++ (one_seat row.alive o ++ seats spot.after slots)) there in
        record {
          session = ap (λ ss. find (λ x. x.id == id) (map session_of_seat ss)) is ∙ find_one session_of_seat (λ x. x.id) (λ seat. refl) id (seats spot.before slots) (seats spot.after slots) s away own;
          confirmed = ap (λ ss. option_map (λ (b : Beside). b.confirmed) (find (λ b. b.id == id) (map beside_of ss))) is ∙ ap (option_map (λ (b : Beside). b.confirmed)) (find_one beside_of (λ b. b.id) (λ seat. refl) id (seats spot.before slots) (seats spot.after slots) s away own);
          reply_room = ap (λ ss. option_map (λ (b : Room). b.replies) (find (λ b. b.id == id) (map room_of ss))) is ∙ ap (option_map (λ (b : Room). b.replies)) (find_one room_of (λ b. b.id) (λ seat. refl) id (seats spot.before slots) (seats spot.after slots) s away own);
          batch_room = ap (λ ss. option_map (λ (b : Room). b.batches) (find (λ b. b.id == id) (map room_of ss))) is ∙ ap (option_map (λ (b : Room). b.batches)) (find_one room_of (λ b. b.id) (λ seat. refl) id (seats spot.before slots) (seats spot.after slots) s away own);
        }

    go : (o : Option Row) → row_at id rows ≡ o → Read rows slots id (kept_in o slots)
    go None e =
        let w = seats_away slots id rows (no_row_apart id rows e) h in
        record {
          session = away_none session_of_seat (λ x. x.id) (λ seat. refl) id (seats rows slots) w;
          confirmed = ap (option_map (λ (b : Beside). b.confirmed)) (away_none beside_of (λ b. b.id) (λ seat. refl) id (seats rows slots) w);
          reply_room = ap (option_map (λ (b : Room). b.replies)) (away_none room_of (λ b. b.id) (λ seat. refl) id (seats rows slots) w);
          batch_room = ap (option_map (λ (b : Room). b.batches)) (away_none room_of (λ b. b.id) (λ seat. refl) id (seats rows slots) w);
        }
    go (Some row) e = some row e (get slots row.slot) refl

mapped_or : {A B : Type 0} (f : A → B) (o : Option A) (d : B) → option_map_or f o d ≡ option_map_or (λ (b : B). b) (option_map f o) d
mapped_or f None d = refl
mapped_or f (Some x) d = refl

-- the session and the confirmed event that the table shows
pub reads_session : (rows : List Row) (slots : Slots) (spare id : ℕ) (o : Option Kept_session) → Rises 0 (registers rows) → AreSeated rows slots → o ≡ kept_in (row_at id rows) slots → session_at id (shown rows slots spare) ≡ option_map (λ k. k.session) o
reads_session rows slots spare id o r h e = (read rows slots id r h).session ∙ ap (option_map (λ (k : Kept_session). k.session)) (sym e)

pub reads_confirmed : (rows : List Row) (slots : Slots) (spare id : ℕ) (o : Option Kept_session) → Rises 0 (registers rows) → AreSeated rows slots → o ≡ kept_in (row_at id rows) slots → confirmed_of id (shown rows slots spare) ≡ option_map_or (λ k. k.confirmed) o 0
reads_confirmed rows slots spare id o r h e =
    mapped_or (λ (b : Beside). b.confirmed) (find (λ b. b.id == id) (shown_beside rows slots)) 0
    ∙ ap (λ o. option_map_or (λ (n : ℕ). n) o 0) ((read rows slots id r h).confirmed ∙ ap (option_map (λ (k : Kept_session). k.confirmed)) (sym e))
    ∙ sym (mapped_or (λ (k : Kept_session). k.confirmed) o 0)

pub reads_beside : (rows : List Row) (slots : Slots) (id : ℕ) (o : Option Kept_session) → Rises 0 (registers rows) → AreSeated rows slots → o ≡ kept_in (row_at id rows) slots → option_map (λ b. b.confirmed) (find (λ b. b.id == id) (shown_beside rows slots)) ≡ option_map (λ k. k.confirmed) o
reads_beside rows slots id o r h e = (read rows slots id r h).confirmed ∙ ap (option_map (λ (k : Kept_session). k.confirmed)) (sym e)

pub reads_reply_room : (rows : List Row) (slots : Slots) (spare id : ℕ) (o : Option Kept_session) → Rises 0 (registers rows) → AreSeated rows slots → o ≡ kept_in (row_at id rows) slots → reply_room id (shown rows slots spare) ≡ option_map_or (λ k. k.reply_room) o 0
reads_reply_room rows slots spare id o r h e =
    mapped_or (λ (b : Room). b.replies) (find (λ b. b.id == id) (shown_rooms rows slots)) 0
    ∙ ap (λ o. option_map_or (λ (n : ℕ). n) o 0) ((read rows slots id r h).reply_room ∙ ap (option_map (λ (k : Kept_session). k.reply_room)) (sym e))
    ∙ sym (mapped_or (λ (k : Kept_session). k.reply_room) o 0)

pub reads_batch_room : (rows : List Row) (slots : Slots) (spare id : ℕ) (o : Option Kept_session) → Rises 0 (registers rows) → AreSeated rows slots → o ≡ kept_in (row_at id rows) slots → batch_room id (shown rows slots spare) ≡ option_map_or (λ k. k.batch_room) o 0
reads_batch_room rows slots spare id o r h e =
    mapped_or (λ (b : Room). b.batches) (find (λ b. b.id == id) (shown_rooms rows slots)) 0
    ∙ ap (λ o. option_map_or (λ (n : ℕ). n) o 0) ((read rows slots id r h).batch_room ∙ ap (option_map (λ (k : Kept_session). k.batch_room)) (sym e))
    ∙ sym (mapped_or (λ (k : Kept_session). k.batch_room) o 0)

-- an open session has its row
pub open_row : (rows : List Row) (slots : Slots) (spare id : ℕ) → Rises 0 (registers rows) → AreSeated rows slots → IsOpen id (shown rows slots spare) → IsSome (row_at id rows)
open_row rows slots spare id r h there = go (row_at id rows) refl
  where
    go : (o : Option Row) → row_at id rows ≡ o → is_some o ≡ true
    go None e =
        let none : session_at id (shown rows slots spare) ≡ None = reads_session rows slots spare id None r h (sym (ap (λ o. kept_in o slots) e)) in
        absurd (let shut : is_some (session_at id (shown rows slots spare)) ≡ false = ap is_some none in cc)
    go (Some row) e = refl

-- the key of an open session has it
pub slot_filled : (rows : List Row) (slots : Slots) (id slot : ℕ) → AreSeated rows slots → option_map (λ row. row.slot) (row_at id rows) ≡ Some slot → ContainsKey slots slot
slot_filled rows slots id slot h found = go (row_at id rows) refl found
  where
    filled : (o : Option Kept_session) (n : ℕ) → IsSomeAnd o (λ k. k.session.id ≡ n) → is_some o ≡ true
    filled None n e = absurd e
    filled (Some k) n e = refl

    go : (o : Option Row) → row_at id rows ≡ o → option_map (λ row. row.slot) o ≡ Some slot → is_some (get slots slot) ≡ true
    go None e f = absurd (none-some slot f)
    go (Some row) e f =
        let c = cut_at id rows row e in
        let here = (seated_after slots c.0 (row ∷ c.1) (subst (λ rs. AreSeated rs slots) c.2 h)).0 in
        subst (λ n. is_some (get slots n) ≡ true) (same_Some row.slot slot f) (filled (get slots row.slot) row.register here)

-- what the table shows of the session with this key
pub record Shows (rows : List Row) (slots : Slots) (id : ℕ) (kept : Kept_session) : Type 0 where
  pub session : session_at id (shown rows slots 0) ≡ Some kept.session
  pub confirmed : confirmed_of id (shown rows slots 0) ≡ kept.confirmed
  pub replies : reply_room id (shown rows slots 0) ≡ kept.reply_room
  pub batches : batch_room id (shown rows slots 0) ≡ kept.batch_room

pub shows : (rows : List Row) (slots : Slots) (id slot : ℕ) (kept : Kept_session) → Rises 0 (registers rows) → AreSeated rows slots → option_map (λ row. row.slot) (row_at id rows) ≡ Some slot → get slots slot ≡ Some kept → Shows rows slots id kept
shows rows slots id slot kept r h found there =
    let o : Some kept ≡ kept_in (row_at id rows) slots = sym there ∙ in_row (row_at id rows) found in
    record {
      session = reads_session rows slots 0 id (Some kept) r h o;
      confirmed = reads_confirmed rows slots 0 id (Some kept) r h o;
      replies = reads_reply_room rows slots 0 id (Some kept) r h o;
      batches = reads_batch_room rows slots 0 id (Some kept) r h o;
    }
  where
    in_row : (o : Option Row) → option_map (λ row. row.slot) o ≡ Some slot → get slots slot ≡ kept_in o slots
    in_row None f = absurd (none-some slot f)
    in_row (Some row) f = ap (get slots) (sym (same_Some row.slot slot f))

-- the count of sessions stays where one is changed
abbrev bit_of : Option Kept_session → ℕ
bit_of o = cond (is_some o) 1 0

count_set : (slots : List (Option Kept_session)) (slot : ℕ) (kept : Kept_session) → is_some (slice_index_or slots slot None) ≡ true → count_by is_some (slice_set slots slot (Some kept)) ≡ count_by is_some slots
count_set [] slot kept e = refl
count_set (o ∷ slots) zero kept e = sum_by-cons bit_of (Some kept) slots ∙ ap (λ b. cond b 1 0 + count_by is_some slots) (sym e) ∙ sym (sum_by-cons bit_of o slots)
count_set (o ∷ slots) (suc slot) kept e = sum_by-cons bit_of o (slice_set slots slot (Some kept)) ∙ ap (λ n. cond (is_some o) 1 0 + n) (count_set slots slot kept e) ∙ sym (sum_by-cons bit_of o slots)

pub len_stays : (slots : Slots) (slot : ℕ) (kept : Kept_session) → ContainsKey slots slot → slab_len (with_value slots slot kept) ≡ slab_len slots
len_stays slots slot kept e = count_set slots.slots slot kept e

-- ---- one session changed

-- at one key the session was changed to another of the same id
pub record OneChanged (rows : List Row) (old new : Slots) (id : ℕ) (kept kept' : Kept_session) : Type 0 where
  pub seated : AreSeated rows new
  pub sessions : (f : Session → Session) → f kept.session ≡ kept'.session → shown_sessions rows new ≡ changed id f (shown_sessions rows old)
  pub sessions_stay : kept'.session ≡ kept.session → shown_sessions rows new ≡ shown_sessions rows old
  pub beside : (f : Beside → Beside) → ((alive : Option ℕ) → f (record { id = kept.session.id; alive = alive; confirmed = kept.confirmed }) ≡ record { id = kept'.session.id; alive = alive; confirmed = kept'.confirmed }) → shown_beside rows new ≡ beside_changed id f (shown_beside rows old)
  pub beside_stays : kept'.confirmed ≡ kept.confirmed → shown_beside rows new ≡ shown_beside rows old
  pub replies : (other spare spare' : ℕ) → (other ≡ id → kept.reply_room ≤ kept'.reply_room) → reply_room other (shown rows old spare) ≤ reply_room other (shown rows new spare')
  pub batches : (other spare spare' : ℕ) → (other ≡ id → kept.batch_room ≤ kept'.batch_room) → batch_room other (shown rows old spare) ≤ batch_room other (shown rows new spare')
  pub own_replies : (spare : ℕ) → reply_room id (shown rows new spare) ≡ kept'.reply_room
  pub own_batches : (spare : ℕ) → batch_room id (shown rows new spare) ≡ kept'.batch_room

-- ---- lists of seats that differ in one

module _ (olds news : List Seat) (id : ℕ) (s s' : Seat) (a : Around olds news id s s') where
  pub mapped : {A : Type 0} (g : Seat → A) (id_of : A → ℕ) → ((seat : Seat) → id_of (g seat) ≡ seat.kept.session.id) → (f : A → A) → f (g s) ≡ g s' → map g news ≡ map (λ x. cond (id_of x == id) (f x) x) (map g olds)
  mapped g id_of own f e =
      ap (map g) a.new_is ∙ map_one g id_of own id f a.before a.after s s' a.away.0 a.away.1 a.own e
      ∙ sym (ap (λ ss. map (λ x. cond (id_of x == id) (f x) x) (map g ss)) a.old_is)

  pub stays : {A : Type 0} (g : Seat → A) → g s' ≡ g s → map g news ≡ map g olds
  stays g e = ap (map g) a.new_is ∙ at a.before ∙ sym (ap (map g) a.old_is)
    where
      at : (before : List Seat) → map g (before ++ s' ∷ a.after) ≡ map g (before ++ s ∷ a.after)
      at [] = ap (λ x. x ∷ map g a.after) e
      at (b ∷ before) = ap (λ xs. g b ∷ xs) (at before)

  pub found_new : find (λ r. r.id == id) (map room_of news) ≡ Some (room_of s')
  found_new = ap (λ ss. find (λ r. r.id == id) (map room_of ss)) a.new_is ∙ find_one room_of (λ r. r.id) (λ seat. refl) id a.before a.after s' a.away.0 a.own'

  found_old : find (λ r. r.id == id) (map room_of olds) ≡ Some (room_of s)
  found_old = ap (λ ss. find (λ r. r.id == id) (map room_of ss)) a.old_is ∙ find_one room_of (λ r. r.id) (λ seat. refl) id a.before a.after s a.away.0 a.own

  found_other : (other : ℕ) → other ≢ id → find (λ r. r.id == other) (map room_of news) ≡ find (λ r. r.id == other) (map room_of olds)
  found_other other ne =
      let apart : (k : Kept_session) → k.session.id ≡ id → (k.session.id == other) ≡ false = λ k e. false_from_ne_true (k.session.id == other) (λ t. ne (sym (eqb-true k.session.id other t) ∙ e)) in
      ap (λ ss. find (λ r. r.id == other) (map room_of ss)) a.new_is
      ∙ find_beside room_of (λ r. r.id) (λ seat. refl) other a.before a.after s s' (apart s.kept a.own) (apart s'.kept a.own')
      ∙ sym (ap (λ ss. find (λ r. r.id == other) (map room_of ss)) a.old_is)

  pub same_or_less : (n : Room → ℕ) (other : ℕ) → (other ≡ id → n (room_of s) ≤ n (room_of s')) → option_map_or n (find (λ r. r.id == other) (map room_of olds)) 0 ≤ option_map_or n (find (λ r. r.id == other) (map room_of news)) 0
  same_or_less n other more =
      elim (cases_eq other id) [
        | inl e ↦
            let was : option_map_or n (find (λ r. r.id == other) (map room_of olds)) 0 ≡ n (room_of s) = ap (λ m. option_map_or n (find (λ r. r.id == m) (map room_of olds)) 0) e ∙ ap (λ o. option_map_or n o 0) found_old in
            let now : option_map_or n (find (λ r. r.id == other) (map room_of news)) 0 ≡ n (room_of s') = ap (λ m. option_map_or n (find (λ r. r.id == m) (map room_of news)) 0) e ∙ ap (λ o. option_map_or n o 0) found_new in
            omega (arith, was, now, more e)
        | inr ne ↦ let same = ap (λ o. option_map_or n o 0) (found_other other ne) in omega (arith, same)
      ]

around_changes : (rows : List Row) (old new : Slots) (id : ℕ) (alive : Option ℕ) (kept kept' : Kept_session) → AreSeated rows new → Around (seats rows old) (seats rows new) id (record { alive = alive; kept = kept }) (record { alive = alive; kept = kept' }) → OneChanged rows old new id kept kept'
around_changes rows old new id alive kept kept' seated a =
    let s : Seat = record { alive = alive; kept = kept } in
    let s' : Seat = record { alive = alive; kept = kept' } in
    record {
      seated = seated;
      sessions = λ f e. mapped (seats rows old) (seats rows new) id s s' a session_of_seat (λ x. x.id) (λ seat. refl) f e;
      sessions_stay = λ e. stays (seats rows old) (seats rows new) id s s' a session_of_seat e;
      beside = λ f e. mapped (seats rows old) (seats rows new) id s s' a beside_of (λ b. b.id) (λ seat. refl) f (e alive);
      beside_stays = λ e. stays (seats rows old) (seats rows new) id s s' a beside_of (λ i. record { id = (a.own' ∙ sym a.own) i; alive = alive; confirmed = e i });
      replies = λ other spare spare' more. same_or_less (seats rows old) (seats rows new) id s s' a (λ r. r.replies) other more;
      batches = λ other spare spare' more. same_or_less (seats rows old) (seats rows new) id s s' a (λ r. r.batches) other more;
      own_replies = λ spare. ap (λ o. option_map_or (λ (r : Room). r.replies) o 0) (found_new (seats rows old) (seats rows new) id s s' a);
      own_batches = λ spare. ap (λ o. option_map_or (λ (r : Room). r.batches) o 0) (found_new (seats rows old) (seats rows new) id s s' a);
    }

pub one_changed : (rows : List Row) (old : Slots) (id slot : ℕ) (kept kept' : Kept_session) → Rises 0 (registers rows) → AreSeated rows old → option_map (λ row. row.slot) (row_at id rows) ≡ Some slot → get old slot ≡ Some kept → kept'.session.id ≡ kept.session.id
    → OneChanged rows old (with_value old slot kept') id kept kept'
one_changed rows old id slot kept kept' r h found there same =
    let spot = spot_at rows old id slot kept r h found there in
    let row = spot.0 in
    let both = around rows old id row row kept kept' refl refl spot.2 same in
    let whole : (rs : List Row) → rs ≡ rows → AreSeated rs (with_value old row.slot kept') × Around (seats rows old) (seats rs (with_value old row.slot kept')) id (record { alive = row.alive; kept = kept }) (record { alive = row.alive; kept = kept' }) → AreSeated rows (with_value old row.slot kept') × Around (seats rows old) (seats rows (with_value old row.slot kept')) id (record { alive = row.alive; kept = kept }) (record { alive = row.alive; kept = kept' }) =
    λ rs e b. subst (λ qs. AreSeated qs (with_value old row.slot kept') × Around (seats rows old) (seats qs (with_value old row.slot kept')) id (record { alive = row.alive; kept = kept }) (record { alive = row.alive; kept = kept' })) e b in
    let b = whole (spot.2.before ++ row ∷ spot.2.after) (sym spot.2.cut) both in
    subst (λ n. OneChanged rows old (with_value old n kept') id kept kept') spot.1 (around_changes rows old (with_value old row.slot kept') id row.alive kept kept' b.0 b.1)

-- ---- the same of the fields

abbrev pub with_session : Inside → ℕ → Kept_session → Inside
with_session a slot kept = record { order = a.order; slots = with_value a.slots slot kept; deadlines = a.deadlines }

pub changed_in : (a : Inside) (id slot : ℕ) (kept kept' : Kept_session) → IsInOrder a → option_map (λ row. row.slot) (row_at id a.order.items) ≡ Some slot → get a.slots slot ≡ Some kept → kept'.session.id ≡ kept.session.id
    → OneChanged a.order.items a.slots (with_value a.slots slot kept') id kept kept'
changed_in a id slot kept kept' order found there same = one_changed a.order.items a.slots id slot kept kept' order.rising order.seated found there same

pub in_order : (a : Inside) (id slot : ℕ) (kept kept' : Kept_session) → IsInOrder a → OneChanged a.order.items a.slots (with_value a.slots slot kept') id kept kept' → get a.slots slot ≡ Some kept → deadline kept'.session ≡ deadline kept.session → IsInOrder (with_session a slot kept')
in_order a id slot kept kept' order ch there same = record { rising = order.rising; seated = ch.seated; timely = timely_still a.slots a.deadlines slot kept kept' order.timely there same }

pub spare_stays : (a : Inside) (t : Table) (slot : ℕ) (kept kept' : Kept_session) → table a ≡ t → get a.slots slot ≡ Some kept → (table (with_session a slot kept')).spare ≡ t.spare
spare_stays a t slot kept kept' view there =
    (λ i. spare_of a.slots.capacity (length a.deadlines) (deque_capacity a.order - deque_len a.order) (a.slots.capacity - len_stays a.slots slot kept' (ap is_some there) i)) ∙ ap (λ (u : Table). u.spare) view

pub keeps_room : (a : Inside) (t : Table) (id slot : ℕ) (kept kept' : Kept_session) → OneChanged a.order.items a.slots (with_value a.slots slot kept') id kept kept' → table a ≡ t → kept.reply_room ≤ kept'.reply_room → kept.batch_room ≤ kept'.batch_room
    → (other : ℕ) → KeepsRoom other t (table (with_session a slot kept'))
keeps_room a t id slot kept kept' ch view replies batches other =
    subst (λ (u : Table). KeepsRoom other u (table (with_session a slot kept'))) view
    (record {
      replies = ch.replies other (table a).spare (table (with_session a slot kept')).spare (λ e. replies);
      batches = ch.batches other (table a).spare (table (with_session a slot kept')).spare (λ e. batches);
    })

pub open_in : (a : Inside) (t : Table) (id : ℕ) → IsInOrder a → table a ≡ t → IsOpen id t → IsSome (row_at id a.order.items)
open_in a t id order view there = open_row a.order.items a.slots 0 id order.rising order.seated (subst (IsOpen id) (sym view) there)

-- what the table shows of one session, by its key
pub shows_in : (a : Inside) (t : Table) (id slot : ℕ) (kept : Kept_session) → IsInOrder a → table a ≡ t → option_map (λ row. row.slot) (row_at id a.order.items) ≡ Some slot → get a.slots slot ≡ Some kept
    → (session_at id t ≡ Some kept.session) × (confirmed_of id t ≡ kept.confirmed) × (reply_room id t ≡ kept.reply_room) × (batch_room id t ≡ kept.batch_room)
shows_in a t id slot kept order view found there =
    let s = shows a.order.items a.slots id slot kept order.rising order.seated found there in
    subst (λ (u : Table). (session_at id u ≡ Some kept.session) × (confirmed_of id u ≡ kept.confirmed) × (reply_room id u ≡ kept.reply_room) × (batch_room id u ≡ kept.batch_room)) view (s.session, s.confirmed, s.replies, s.batches)

pub replies_beside : (a : Inside) (t : Table) (id slot : ℕ) (kept kept' : Kept_session) → OneChanged a.order.items a.slots (with_value a.slots slot kept') id kept kept' → table a ≡ t → (other : ℕ) → (other ≡ id → kept.reply_room ≤ kept'.reply_room)
    → reply_room other t ≤ reply_room other (table (with_session a slot kept'))
replies_beside a t id slot kept kept' ch view other more = subst (λ (u : Table). reply_room other u ≤ reply_room other (table (with_session a slot kept'))) view (ch.replies other (table a).spare (table (with_session a slot kept')).spare more)

pub batches_beside : (a : Inside) (t : Table) (id slot : ℕ) (kept kept' : Kept_session) → OneChanged a.order.items a.slots (with_value a.slots slot kept') id kept kept' → table a ≡ t → (other : ℕ) → (other ≡ id → kept.batch_room ≤ kept'.batch_room)
    → batch_room other t ≤ batch_room other (table (with_session a slot kept'))
batches_beside a t id slot kept kept' ch view other more = subst (λ (u : Table). batch_room other u ≤ batch_room other (table (with_session a slot kept'))) view (ch.batches other (table a).spare (table (with_session a slot kept')).spare more)

pub same_in : (a : Inside) (t : Table) (id slot : ℕ) (kept kept' : Kept_session) → OneChanged a.order.items a.slots (with_value a.slots slot kept') id kept kept' → table a ≡ t → kept'.session ≡ kept.session → kept'.confirmed ≡ kept.confirmed → IsSame t (table (with_session a slot kept'))
same_in a t id slot kept kept' ch view session confirmed = record {
  sessions = ch.sessions_stay session ∙ ap (λ (u : Table). u.sessions) view;
  beside = ch.beside_stays confirmed ∙ ap (λ (u : Table). u.beside) view;
}

-- a confirmed event is changed or not
pub beside_if : (a : Inside) (t : Table) (id slot event : ℕ) (kept kept' : Kept_session) (b : Bool) → OneChanged a.order.items a.slots (with_value a.slots slot kept') id kept kept' → table a ≡ t → kept'.session.id ≡ kept.session.id → kept'.confirmed ≡ cond b event kept.confirmed
    → (table (with_session a slot kept')).beside ≡ cond b (beside_changed id (beside_confirmed event) t.beside) t.beside
beside_if a t id slot event kept kept' true ch view same e =
    ch.beside (beside_confirmed event) (λ alive i. record { id = sym same i; alive = alive; confirmed = sym e i }) ∙ ap (λ (u : Table). beside_changed id (beside_confirmed event) u.beside) view
beside_if a t id slot event kept kept' false ch view same e = ch.beside_stays e ∙ ap (λ (u : Table). u.beside) view

-- the places stay where an event is confirmed
abbrev register_place : Beside → Place × Held
register_place b = (Register_at b.id, marked b.id)

registers_confirmed : (id event : ℕ) (bs : List Beside) → map register_place (beside_changed id (beside_confirmed event) bs) ≡ map register_place bs
registers_confirmed id event [] = refl
registers_confirmed id event (b ∷ bs) = (λ i. one (b.id == id) i ∷ registers_confirmed id event bs i)
  where
    one : (q : Bool) → register_place (cond q (beside_confirmed event b) b) ≡ register_place b
    one true = refl
    one false = refl

alive_confirmed : (id event : ℕ) (bs : List Beside) → flat_map (λ b. alive_place b.id b.alive) (beside_changed id (beside_confirmed event) bs) ≡ flat_map (λ b. alive_place b.id b.alive) bs
alive_confirmed id event [] = refl
alive_confirmed id event (b ∷ bs) = (λ i. one (b.id == id) i ++ alive_confirmed id event bs i)
  where
    one : (q : Bool) → alive_place (cond q (beside_confirmed event b) b).id (cond q (beside_confirmed event b) b).alive ≡ alive_place b.id b.alive
    one true = refl
    one false = refl

-- the session whose event was confirmed has confirmed it
pub event_if : (a : Inside) (id slot event : ℕ) (kept kept' : Kept_session) {A B : Type 0} (r : Result A B) → IsInOrder (with_session a slot kept') → option_map (λ row. row.slot) (row_at id a.order.items) ≡ Some slot → get a.slots slot ≡ Some kept
    → kept'.confirmed ≡ cond (is_ok r) event kept.confirmed → OnOk r (confirmed_of id (table (with_session a slot kept')) ≡ event)
event_if a id slot event kept kept' (Ok x) order found there e =
    let now = (Updates-with_value a.slots slot kept' (ap is_some there)).changed in
    (shows_in (with_session a slot kept') (table (with_session a slot kept')) id slot kept' order refl found now).1 ∙ e
event_if a id slot event kept kept' (Err x) order found there e = tt

pub cells_if : (id event : ℕ) (b : Bool) (bs news : List Beside) → news ≡ cond b (beside_changed id (beside_confirmed event) bs) bs → cells_of news ≡ cells_of bs
cells_if id event true bs news e = ap cells_of e ∙ (λ i. registers_confirmed id event bs i ++ alive_confirmed id event bs i)
cells_if id event false bs news e = ap cells_of e

-- ---- what is read of one session

pub read_in : (a : Inside) (t : Table) (id : ℕ) (o : Option Kept_session) → IsInOrder a → table a ≡ t → o ≡ kept_in (row_at id a.order.items) a.slots → (session_at id t ≡ option_map (λ k. k.session) o) × (confirmed_of id t ≡ option_map_or (λ k. k.confirmed) o 0)
read_in a t id o order view e =
    subst (λ (u : Table). (session_at id u ≡ option_map (λ (k : Kept_session). k.session) o) × (confirmed_of id u ≡ option_map_or (λ (k : Kept_session). k.confirmed) o 0)) view
    (reads_session a.order.items a.slots (table a).spare id o order.rising order.seated e, reads_confirmed a.order.items a.slots (table a).spare id o order.rising order.seated e)

pub count_seats : (rows : List Row) (slots : Slots) → AreSeated rows slots → length (shown_sessions rows slots) ≡ length rows
count_seats [] slots h = refl
count_seats (x ∷ rows) slots h = one (get slots x.slot) h.0 (count_seats rows slots h.1)
  where
    one : (o : Option Kept_session) → IsSomeAnd o (λ k. k.session.id ≡ x.register) → length (map session_of_seat (seats rows slots)) ≡ length rows → length (map session_of_seat (one_seat x.alive o ++ seats rows slots)) ≡ length (x ∷ rows)
    one None e later = absurd e
    one (Some k) e later = let n : length (session_of_seat (record { alive = x.alive; kept = k }) ∷ map session_of_seat (seats rows slots)) ≡ suc (length (map session_of_seat (seats rows slots))) = refl in omega (arith, n, later)

-- ---- more room for sessions

seats_by : (rows : List Row) (s s' : Slots) → s'.slots ≡ s.slots → seats rows s' ≡ seats rows s
seats_by [] s s' e = refl
seats_by (x ∷ rows) s s' e = (λ i. one_seat x.alive (slice_index_or (e i) x.slot None) ++ seats_by rows s s' e i)

seated_by : (rows : List Row) (s s' : Slots) → s'.slots ≡ s.slots → AreSeated rows s → AreSeated rows s'
seated_by [] s s' e h = tt
seated_by (x ∷ rows) s s' e h = (subst (λ (l : List (Option Kept_session)). IsSomeAnd (slice_index_or l x.slot None) (λ k. k.session.id ≡ x.register)) (sym e) h.0, seated_by rows s s' e h.1)

pub record Refilled (a b : Inside) (t : Table) : Type 0 where
  pub in_order : IsInOrder b
  pub same : IsSame t (table b)
  pub rooms : (other : ℕ) → KeepsRoom other t (table b)

pub refilled : (a b : Inside) (t : Table) → b.order.items ≡ a.order.items → b.slots.slots ≡ a.slots.slots → AreMore a.deadlines b.deadlines → IsInOrder a → table a ≡ t → Refilled a b t
refilled a b t order slots more h view =
    let all : seats b.order.items b.slots ≡ seats a.order.items a.slots = ap (λ rs. seats rs b.slots) order ∙ seats_by a.order.items a.slots b.slots slots in
    record {
      in_order = record { rising = subst (λ rs. Rises 0 (registers rs)) (sym order) h.rising; seated = subst (λ rs. AreSeated rs b.slots) (sym order) (seated_by a.order.items a.slots b.slots slots h.seated); timely = timely_more a.slots b.slots a.deadlines b.deadlines h.timely slots more };
      same = record { sessions = ap (map session_of_seat) all ∙ ap (λ (u : Table). u.sessions) view; beside = ap (map beside_of) all ∙ ap (λ (u : Table). u.beside) view };
      rooms = λ other.
          let replies : reply_room other (table b) ≡ reply_room other t = ap (λ ss. option_map_or (λ (r : Room). r.replies) (find (λ r. r.id == other) (map room_of ss)) 0) all ∙ ap (reply_room other) view in
          let batches : batch_room other (table b) ≡ batch_room other t = ap (λ ss. option_map_or (λ (r : Room). r.batches) (find (λ r. r.id == other) (map room_of ss)) 0) all ∙ ap (batch_room other) view in
          record { replies = omega (arith, replies); batches = omega (arith, batches) };
    }

pub none_more : (deadlines : List ℕ) → AreMore deadlines deadlines
none_more deadlines = record { longer = omega arith; same = λ key within. refl }

pub ready_in : (a : Inside) (t : Table) → table a ≡ t → 1 ≤ t.spare → IsReady a.slots.capacity (length a.deadlines) (deque_capacity a.order - deque_len a.order) (a.slots.capacity - slab_len a.slots)
ready_in a t view some = ready a.slots.capacity (length a.deadlines) (deque_capacity a.order - deque_len a.order) (a.slots.capacity - slab_len a.slots) t.spare (ap (λ (u : Table). u.spare) view) some

-- the keys become more only where there was no room for one more
pub room_in : (a b : Inside) (t : Table) → table a ≡ t → b.slots.slots ≡ a.slots.slots → (slab_len a.slots + 1 ≤ a.slots.capacity → b.slots.capacity ≡ a.slots.capacity) → length a.deadlines ≤ length b.deadlines → deque_capacity a.order - deque_len a.order ≤ deque_capacity b.order - deque_len b.order
    → t.spare ≤ (table b).spare
room_in a b t view slots keys places rows =
    let same : slab_len b.slots ≡ slab_len a.slots = ap (λ l. count_by is_some l) slots in
    let grows = room_grows a.slots.capacity b.slots.capacity (length a.deadlines) (length b.deadlines) (deque_capacity a.order - deque_len a.order) (deque_capacity b.order - deque_len b.order) (slab_len a.slots) keys places rows in
    let now : spare_of b.slots.capacity (length b.deadlines) (deque_capacity b.order - deque_len b.order) (b.slots.capacity - slab_len a.slots) ≡ (table b).spare = (λ i. spare_of b.slots.capacity (length b.deadlines) (deque_capacity b.order - deque_len b.order) (b.slots.capacity - sym same i)) in
    let was : (table a).spare ≡ t.spare = ap (λ (u : Table). u.spare) view in
    omega (arith, grows, now, was)
