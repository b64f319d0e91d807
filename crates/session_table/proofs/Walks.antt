-- Walks over the rows of the table.
use Rattle.std.proofs.Common.{◌≡◌, ℕ, zero, suc, ◌+◌, ◌-◌, ◌<◌, ◌≤◌, true, false, cond, List, [], ◌∷◌, ◌++◌, map, length, drop, take, get_or, Option, Some, None, is_some, refl, sym, ap, subst, ◌∙◌, arith}
use Rattle.std.proofs.lemmas.List.{drop_more, drop_all, take_all}
use Rattle.std.specs.List.{find}
use Rattle.std.specs.Option.{IsSomeAnd}
use Rattle.slab.specs.Slab.{get, ContainsKey}
use Rattle.log_model.specs.plain.Plain.{Session}
use Rattle.log_model.specs.plain.Admission.{is_due, due}
use Rattle.log_model.specs.plain.Quiet.{kept_indexes, greatest_below}
use Rattle.session_table.specs.Kept.{Kept_session, session_indexes}
use Rattle.session_table.specs.Table.{as_state}
use Rattle.session_table.specs.Deadlines.{deadline, deadline_at, IsAtMostEach}
use Rattle.session_table.specs.Rows.{Slots, one_seat, seats, AreSeated, AreTimely}
use Rattle.session_table.specs.declared.order.Row.{Row}
use Rattle.session_table.proofs.Timely.{not_due}
use Rattle.session_table.proofs.ReplyLists.{quiet_append}
use Rattle.session_table.proofs.Seats.{registers, own_id}
use Rattle.session_table.proofs.Tables.{session_of_seat, shown_sessions}

-- the row at a place, and those behind it
pub row_cut : (rows : List Row) (place : ℕ) (row : Row) → place < length rows → row ≡ get_or rows place row → drop place rows ≡ row ∷ drop (place + 1) rows
row_cut rows place row lt e = drop_more rows place row lt ∙ ap (λ r. r ∷ drop (place + 1) rows) (sym e)

seated_drop : (rows : List Row) (slots : Slots) (place : ℕ) → AreSeated rows slots → AreSeated (drop place rows) slots
seated_drop [] slots zero h = tt
seated_drop [] slots (suc n) h = tt
seated_drop (x ∷ rows) slots zero h = h
seated_drop (x ∷ rows) slots (suc n) h = seated_drop rows slots n h.1

pub seated_at : (rows : List Row) (slots : Slots) (place : ℕ) (row : Row) → AreSeated rows slots → drop place rows ≡ row ∷ drop (place + 1) rows → IsSomeAnd (get slots row.slot) (λ kept. kept.session.id ≡ row.register)
seated_at rows slots place row h cut = (subst (λ rs. AreSeated rs slots) cut (seated_drop rows slots place h)).0

pub filled_at : (rows : List Row) (slots : Slots) (place : ℕ) (row : Row) → AreSeated rows slots → drop place rows ≡ row ∷ drop (place + 1) rows → ContainsKey slots row.slot
filled_at rows slots place row h cut = go (get slots row.slot) (seated_at rows slots place row h cut)
  where
    go : (o : Option Kept_session) → IsSomeAnd o (λ kept. kept.session.id ≡ row.register) → is_some o ≡ true
    go None e = absurd e
    go (Some k) e = refl

-- what the rows from a place on show
sessions_cut : (rows : List Row) (slots : Slots) (place : ℕ) (row : Row) (kept : Kept_session) → drop place rows ≡ row ∷ drop (place + 1) rows → get slots row.slot ≡ Some kept → shown_sessions (drop place rows) slots ≡ kept.session ∷ shown_sessions (drop (place + 1) rows) slots
sessions_cut rows slots place row kept cut there =
    ap (λ rs. shown_sessions rs slots) cut ∙ ap (λ o. map session_of_seat (one_seat row.alive o ++ seats (drop (place + 1) rows) slots)) there

-- ---- who is due

abbrev first_of : Option Session → Option ℕ
first_of o = elim o [ None ↦ None | Some x ↦ Some x.id ]

pub due_skipped : (time : ℕ) (rows : List Row) (slots : Slots) (place : ℕ) (row : Row) (kept : Kept_session) → drop place rows ≡ row ∷ drop (place + 1) rows → get slots row.slot ≡ Some kept → is_due time kept.session ≡ false
    → find (is_due time) (shown_sessions (drop (place + 1) rows) slots) ≡ find (is_due time) (shown_sessions (drop place rows) slots)
due_skipped time rows slots place row kept cut there not_due =
    sym (ap (find (is_due time)) (sessions_cut rows slots place row kept cut there)
    ∙ ap (λ b. cond b (Some kept.session) (find (is_due time) (shown_sessions (drop (place + 1) rows) slots))) not_due)

pub due_here : (time : ℕ) (rows : List Row) (slots : Slots) (place : ℕ) (row : Row) (kept : Kept_session) → AreSeated rows slots → drop place rows ≡ row ∷ drop (place + 1) rows → get slots row.slot ≡ Some kept → is_due time kept.session ≡ true
    → find (is_due time) (shown_sessions (drop place rows) slots) ≡ find (is_due time) (shown_sessions rows slots) → Some row.register ≡ due time (as_state (shown_sessions rows slots))
due_here time rows slots place row kept h cut there is_due_now so_far =
    let found : find (is_due time) (shown_sessions (drop place rows) slots) ≡ Some kept.session =
    ap (find (is_due time)) (sessions_cut rows slots place row kept cut there)
    ∙ ap (λ b. cond b (Some kept.session) (find (is_due time) (shown_sessions (drop (place + 1) rows) slots))) is_due_now in
    ap Some (sym (own_id (get slots row.slot) row.register kept (seated_at rows slots place row h cut) there)) ∙ ap first_of (sym found ∙ so_far)

pub nobody_due : (time : ℕ) (rows : List Row) (slots : Slots) (place : ℕ) → length rows ≤ place → find (is_due time) (shown_sessions (drop place rows) slots) ≡ find (is_due time) (shown_sessions rows slots) → None ≡ due time (as_state (shown_sessions rows slots))
nobody_due time rows slots place past so_far = ap first_of (sym (ap (λ rs. find (is_due time) (shown_sessions rs slots)) (drop_all place rows past)) ∙ so_far)

none_due : (time least : ℕ) (rows : List Row) (slots : Slots) (deadlines : List ℕ) → AreTimely slots deadlines → IsAtMostEach least deadlines → time ≤ least → find (is_due time) (shown_sessions rows slots) ≡ None
none_due time least [] slots deadlines h below early = refl
none_due time least (row ∷ rows) slots deadlines h below early = one (get slots row.slot) refl (none_due time least rows slots deadlines h below early)
  where
    one : (o : Option Kept_session) → get slots row.slot ≡ o → find (is_due time) (shown_sessions rows slots) ≡ None → find (is_due time) (map session_of_seat (one_seat row.alive o ++ seats rows slots)) ≡ None
    one None e later = later
    one (Some kept) e later =
        let at = h row.slot kept e in
        let low : least ≤ deadline_at deadlines row.slot = below row.slot at.within in
        let is : deadline_at deadlines row.slot ≡ deadline kept.session = at.is in
        ap (λ b. cond b (Some kept.session) (find (is_due time) (shown_sessions rows slots))) (not_due time kept.session (omega (arith, early, low, is))) ∙ later

-- nobody is due up to a bound of the deadlines
pub nobody_yet : (time least : ℕ) (rows : List Row) (slots : Slots) (deadlines : List ℕ) → AreTimely slots deadlines → IsAtMostEach least deadlines → time ≤ least → None ≡ due time (as_state (shown_sessions rows slots))
nobody_yet time least rows slots deadlines h below early = ap first_of (sym (none_due time least rows slots deadlines h below early))

-- ---- how far it is quiet

pub quiet_more : (last quiet quiet' left : ℕ) (rows : List Row) (slots : Slots) (row : Row) (kept : Kept_session) → 0 < left → drop (left - 1) rows ≡ row ∷ drop (left - 1 + 1) rows → get slots row.slot ≡ Some kept
    → quiet ≡ greatest_below last (kept_indexes (as_state (shown_sessions (drop left rows) slots))) → quiet' ≡ greatest_below quiet (session_indexes kept.session)
    → quiet' ≡ greatest_below last (kept_indexes (as_state (shown_sessions (drop (left - 1) rows) slots)))
quiet_more last quiet quiet' left rows slots row kept some cut there was is =
    let behind : drop (left - 1 + 1) rows ≡ drop left rows = ap (λ n. drop n rows) (let e : left - 1 + 1 ≡ left = omega (arith, some) in e) in
    is ∙ ap (λ n. greatest_below n (session_indexes kept.session)) was
    ∙ sym (quiet_append last (session_indexes kept.session) (kept_indexes (as_state (shown_sessions (drop left rows) slots))))
    ∙ sym (ap (λ ss. greatest_below last (kept_indexes (as_state ss))) (sessions_cut rows slots (left - 1) row kept cut there ∙ ap (λ rs. kept.session ∷ shown_sessions rs slots) behind))

-- ---- the ids

pub ids_of : (rows : List Row) (slots : Slots) → AreSeated rows slots → map (λ x. x.id) (shown_sessions rows slots) ≡ registers rows
ids_of [] slots h = refl
ids_of (x ∷ rows) slots h = one (get slots x.slot) h.0 (ids_of rows slots h.1)
  where
    one : (o : Option Kept_session) → IsSomeAnd o (λ k. k.session.id ≡ x.register) → map (λ (y : Session). y.id) (shown_sessions rows slots) ≡ registers rows
        → map (λ (y : Session). y.id) (map session_of_seat (one_seat x.alive o ++ seats rows slots)) ≡ x.register ∷ registers rows
    one None e later = absurd e
    one (Some k) e later = (λ i. e i ∷ later i)

pub ids_listed : (rows : List Row) (slots : Slots) (place : ℕ) (listed : List ℕ) → AreSeated rows slots → length rows ≤ place → listed ≡ map (λ row. row.register) (take place rows) → listed ≡ map (λ x. x.id) (shown_sessions rows slots)
ids_listed rows slots place listed h past e = e ∙ ap registers (take_all place rows past) ∙ sym (ids_of rows slots h)
