-- The deadlines of the open sessions, and for how many more sessions there is room.
use Rattle.std.proofs.Common.{◌≡◌, ℕ, ◌+◌, ◌-◌, ◌<◌, ◌≤◌, ◌&&◌, nat_lt, nat_le, min, Bool, true, false, cond, List, ◌++◌, length, slice_index_or, slice_set, Option, Some, None, is_some, refl, sym, ap, subst, ◌∙◌, inl, inr, arith, length-set, get_or-set_same, get_or-set_other}
use Rattle.std.proofs.lemmas.Bool.{cases_eq}
use Rattle.std.proofs.lemmas.Bool.Decides.{nat_tests}
use Rattle.std.proofs.lemmas.Option.{none-some, same_Some}
use Rattle.host_types.specs.declared.entry.Event.{Event}
use Rattle.log_model.specs.plain.Plain.{Session}
use Rattle.log_model.specs.plain.Admission.{is_due}
use Rattle.log_model.specs.plain.Step.{one_batch}
use Rattle.log_model.specs.replay.Replay.{pushed}
use Rattle.slab.specs.Slab.{get, with_value, Updates}
use Rattle.slab.proofs.SlabLemmas.{Updates-with_value}
use Rattle.session_table.specs.Kept.{Kept_session}
use Rattle.session_table.specs.Deadlines.{deadline, deadline_at, AreMore}
use Rattle.session_table.specs.Rows.{Slots, HasDeadline, AreTimely}
use Rattle.session_table.specs.Inside.{spare_of}

-- ---- who can be due

pub not_due : (time : ℕ) (x : Session) → time ≤ deadline x → is_due time x ≡ false
not_due time x early = go (nat_lt x.last_time time) (nat_lt x.timeout (time - x.last_time)) refl refl
  where
    go : (a b : Bool) → nat_lt x.last_time time ≡ a → nat_lt x.timeout (time - x.last_time) ≡ b → (a && b) ≡ false
    go true true e f =
        let later : x.last_time < time = grind (arith, nat_tests, e) in
        let past : x.timeout < time - x.last_time = grind (arith, nat_tests, f) in
        absurd (omega (arith, later, past, early))
    go true false e f = refl
    go false b e f = refl

-- a batch moves no deadline
pub push_deadline : (i : ℕ) (es : List Event) (x : Session) → deadline (pushed i es x) ≡ deadline x
push_deadline i es x = elim (nat_le i x.acked_event) as (λ b. deadline (cond b x (record x { batches = x.batches ++ one_batch i es })) ≡ deadline x) [ true ↦ refl | false ↦ refl ]

-- ---- the deadlines stand at their keys

-- one session is there under its key, new or changed, and its deadline was set
pub timely_set : (old new : Slots) (olds news : List ℕ) (key time : ℕ) (kept : Kept_session) → AreTimely old olds → Updates old new key (Some kept) → key < length olds → time ≡ deadline kept.session → news ≡ slice_set olds key time → AreTimely new news
timely_set old new olds news key time kept h u inside value set k kept' there =
    subst (λ (ds : List ℕ). HasDeadline ds k kept'.session) (sym set)
    (elim (cases_eq k key) [
      | inl e ↦
          let same : kept ≡ kept' = same_Some kept kept' (sym u.changed ∙ sym (ap (get new) e) ∙ there) in
          record {
            within = let len = length-set olds key time in omega (arith, len, e, inside);
            is = ap (deadline_at (slice_set olds key time)) e ∙ get_or-set_same olds key time 0 inside ∙ value ∙ ap (λ (x : Kept_session). deadline x.session) same;
          }
      | inr ne ↦
          let was = h k kept' (sym (u.others k ne) ∙ there) in
          record {
            within = let len = length-set olds key time in omega (arith, len, was.within);
            is = get_or-set_other olds key k time 0 ne ∙ was.is;
          }
    ])

-- one session ends
pub timely_closed : (old new : Slots) (olds news : List ℕ) (key time : ℕ) → AreTimely old olds → Updates old new key None → news ≡ slice_set olds key time → AreTimely new news
timely_closed old new olds news key time h u set k kept there =
    subst (λ (ds : List ℕ). HasDeadline ds k kept.session) (sym set)
    (elim (cases_eq k key) [
      | inl e ↦ absurd (none-some kept (sym u.changed ∙ sym (ap (get new) e) ∙ there))
      | inr ne ↦
          let was = h k kept (sym (u.others k ne) ∙ there) in
          record {
            within = let len = length-set olds key time in omega (arith, len, was.within);
            is = get_or-set_other olds key k time 0 ne ∙ was.is;
          }
    ])

-- one session is changed, but for its deadline
pub timely_still : (old : Slots) (deadlines : List ℕ) (key : ℕ) (kept kept' : Kept_session) → AreTimely old deadlines → get old key ≡ Some kept → deadline kept'.session ≡ deadline kept.session → AreTimely (with_value old key kept') deadlines
timely_still old deadlines key kept kept' h at still k found there =
    let u : Updates old (with_value old key kept') key (Some kept') = Updates-with_value old key kept' (ap is_some at) in
    elim (cases_eq k key) [
      | inl e ↦
          let same : kept' ≡ found = same_Some kept' found (sym u.changed ∙ sym (ap (get (with_value old key kept')) e) ∙ there) in
          let was = h key kept at in
          record {
            within = omega (arith, e, was.within);
            is = ap (deadline_at deadlines) e ∙ was.is ∙ sym still ∙ ap (λ (x : Kept_session). deadline x.session) same;
          }
      | inr ne ↦ h k found (sym (u.others k ne) ∙ there)
    ]

-- there come to be more keys
pub timely_more : (old new : Slots) (olds news : List ℕ) → AreTimely old olds → new.slots ≡ old.slots → AreMore olds news → AreTimely new news
timely_more old new olds news h slots more k kept there =
    let was = h k kept (ap (λ (l : List (Option Kept_session)). slice_index_or l k None) (sym slots) ∙ there) in
    record { within = let longer = more.longer in omega (arith, longer, was.within); is = more.same k was.within ∙ was.is }

pub within_at : (slots : Slots) (deadlines : List ℕ) (key : ℕ) (kept : Kept_session) → AreTimely slots deadlines → get slots key ≡ Some kept → key < length deadlines
within_at slots deadlines key kept h there = (h key kept there).within

-- ---- the room

abbrev least_of : ℕ → ℕ → Bool → ℕ
least_of rows slots b = cond b (min rows slots) 0

-- what room means
pub record IsReady (keys places rows slots : ℕ) : Type 0 where
  pub placed : keys ≤ places
  pub row : 1 ≤ rows
  pub slot : 1 ≤ slots

pub ready : (keys places rows slots spare : ℕ) → spare_of keys places rows slots ≡ spare → 1 ≤ spare → IsReady keys places rows slots
ready keys places rows slots spare is some = go (nat_le keys places) refl
  where
    go : (b : Bool) → nat_le keys places ≡ b → IsReady keys places rows slots
    go true e =
        let least : spare_of keys places rows slots ≡ min rows slots = ap (least_of rows slots) e in
        record { placed = grind (arith, nat_tests, e); row = omega (arith, least, is, some); slot = omega (arith, least, is, some) }
    go false e =
        let least : spare_of keys places rows slots ≡ 0 = ap (least_of rows slots) e in
        absurd (omega (arith, least, is, some))

-- at most so much less room, at as many keys
pub room_falls : (less keys keys' places places' rows rows' slots slots' : ℕ) → keys' ≡ keys → places' ≡ places → rows ≤ rows' + less → slots ≤ slots' + less → spare_of keys places rows slots ≤ spare_of keys' places' rows' slots' + less
room_falls less keys keys' places places' rows rows' slots slots' k p r s = go (nat_le keys places) refl
  where
    go : (b : Bool) → nat_le keys places ≡ b → spare_of keys places rows slots ≤ spare_of keys' places' rows' slots' + less
    go true e =
        let was : spare_of keys places rows slots ≡ min rows slots = ap (least_of rows slots) e in
        let now : spare_of keys' places' rows' slots' ≡ min rows' slots' = ap (least_of rows' slots') ((λ i. nat_le (k i) (p i)) ∙ e) in
        omega (arith, was, now, r, s)
    go false e = let was : spare_of keys places rows slots ≡ 0 = ap (least_of rows slots) e in omega (arith, was)

-- there come to be more keys only where there was no room for one more
pub room_grows : (keys keys' places places' rows rows' used : ℕ) → (used + 1 ≤ keys → keys' ≡ keys) → places ≤ places' → rows ≤ rows' → spare_of keys places rows (keys - used) ≤ spare_of keys' places' rows' (keys' - used)
room_grows keys keys' places places' rows rows' used k p r = go (nat_le keys places) (nat_lt used keys) refl refl
  where
    go : (a b : Bool) → nat_le keys places ≡ a → nat_lt used keys ≡ b → spare_of keys places rows (keys - used) ≤ spare_of keys' places' rows' (keys' - used)
    go true true e f =
        let fits : keys ≤ places = grind (arith, nat_tests, e) in
        let free : used < keys = grind (arith, nat_tests, f) in
        let same : keys' ≡ keys = k (omega (arith, free)) in
        let still : nat_le keys' places' ≡ true = (let l : keys' ≤ places' = omega (arith, same, fits, p) in grind (arith, nat_tests, l)) in
        let was : spare_of keys places rows (keys - used) ≡ min rows (keys - used) = ap (least_of rows (keys - used)) e in
        let now : spare_of keys' places' rows' (keys' - used) ≡ min rows' (keys' - used) = ap (least_of rows' (keys' - used)) still in
        omega (arith, was, now, same, r)
    go true false e f =
        let full : keys ≤ used = grind (arith, nat_tests, f) in
        let was : spare_of keys places rows (keys - used) ≡ min rows (keys - used) = ap (least_of rows (keys - used)) e in
        omega (arith, was, full)
    go false b e f = let was : spare_of keys places rows (keys - used) ≡ 0 = ap (least_of rows (keys - used)) e in omega (arith, was)
