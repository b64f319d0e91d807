-- Logs over a machine that is known by its decision: whatever is stored is in range and fits, and the state stays sound. For `logs_are_sound`, `central_law_of_machines`.
use Rattle.std.proofs.Common.{◌≡◌, ℕ, suc, ◌+◌, ◌<◌, ◌≤◌, Bool, true, false, cond, ◌&&◌, ◌==◌, nat_le, nat_lt, List, [], ◌∷◌, length, Option, Some, None, is_some, refl, sym, ap, subst, ◌∙◌, ⊎_elim, arith, eq-eqb, eqb-true, leb-false}
use Rattle.std.proofs.lemmas.Bool.{or_cases, and_from, and_parts}
use Rattle.std.specs.List.{list_any, find, enumerate_from, AllByRecursion}
use Rattle.std.specs.FinMap.{is_sorted}
use Rattle.host_types.specs.Limits.{index_limit}
use Rattle.host_types.specs.declared.entry.Ask.{Ask}
use Rattle.host_types.specs.declared.entry.Ask.TheVariants.{Register, Alive, Unregister, Tick, Command}
use Rattle.host_types.specs.declared.entry.Body.{Body}
use Rattle.host_types.specs.declared.entry.Body.TheVariants.{Register as Registered, Alive as Kept_alive, Close as Closed, Command as Commanded}
use Rattle.host_types.specs.declared.entry.Effect.{Effect}
use Rattle.host_types.specs.declared.entry.Effect.TheVariants.{Nothing, Create, Delete, Put, Drop, Wipe, WipeKey, Tell}
use Rattle.host_types.specs.declared.entry.Entry.{Entry}
use Rattle.host_types.specs.declared.entry.Op.{Op}
use Rattle.host_types.specs.declared.entry.Refusal.TheVariants.{LogEnd}
use Rattle.host_types.specs.declared.entry.Reply.{Reply}
use Rattle.host_types.specs.Cells.{Place, Cell_at, Register_at, Alive_at, Held, Cells, at, stands, marked, filled, effect_puts, effect_fits}
use Rattle.host_types.specs.Decision.{Choice, Decides, Declines, MachineDecision, IsAsked, MachineIsLawful, MachineHasOneOwner, OwnsAll}
use Rattle.host_types.specs.Ranges.{IsIndex, IsUnsigned, IsKey, OpFits, BodyFits, EntryFits, IsBodyInRange, IsInRange, AskFits, OfferFits}
use Rattle.log_model.specs.cleaning.Cells.{puts, owner_stands, fits_with_owner, fits, after, Numbered, cells, cells_from, up_to}
use Rattle.log_model.specs.cleaning.Cleaning.{numbered, entry_at, Cleaned, closes_standing, is_lawful_from, HasOneOwner}
use Rattle.log_model.specs.plain.Plain.{Kept_batch, Session, session_in}
use Rattle.log_model.specs.plain.Admission.{is_event_of, Item, Offered, Expired, Admission, Admitted, is_due, due_in, of_session, admits_seq, admits_asked, admits_more, Expires, Not_now, expires_due, expires_in}
use Rattle.log_model.specs.plain.Stored.{body_of, is_expiry_of}
use Rattle.log_model.specs.plain.Quiet.{kept_of}
use Rattle.log_model.specs.plain.Fitting.{ItemFits, ItemsFit}
use Rattle.log_model.specs.hosted.Hosted.{Hosted, hosted_nothing, machine_cells, hosted_choice, refused_choice, hosted_declined, is_hosted_admitted, choice_body, hosted_command, hosted_entry, hosted_told, hosted_after, hosted_step, hosted_from, hosted_folded, hosted_stored_from, hosted_stored, is_hosted_log_from, is_hosted_log, hosted_quiet}
use Rattle.log_model.specs.hosted.Sound.{IsSessionSound, IsSound}
use Rattle.log_model.specs.replay.Replay.{replay_entry}
use Rattle.log_model.specs.replay.ReplayLaws.{AcksArePast}
use Rattle.log_model.specs.hosted.Machines.{IsLogSound}
use Rattle.log_model.proofs.Lookups.{T_from, from_T}
use Rattle.log_model.proofs.cleaning.Entries.{single}
use Rattle.log_model.proofs.cleaning.Growth.{below_kept}
use Rattle.log_model.proofs.cleaning.Law.{central}
use Rattle.log_model.proofs.plain.Tracks.{found_session, refusals, passed}
use Rattle.log_model.proofs.plain.Timely.{Timely, unrefused, hosted_timely}
use Rattle.log_model.proofs.hosted.Parts.{at_machine, sorted_machine, fits_machine, deletes_machine}
use Rattle.log_model.proofs.plain.OneSession.{open_is}
use Rattle.log_model.proofs.hosted.Sounds.{effect_at_session, each_weaker, each_found, entry_sound}
use Rattle.log_model.proofs.hosted.Admitted.{Placed, some_batch, placed_after, replay_is_after}

-- ---- the machine is asked on its own cells

pub in_range_machine : (c : Cells) → Rattle.host_types.specs.Ranges.AreCellsInRange c → Rattle.host_types.specs.Ranges.AreCellsInRange (machine_cells c)
in_range_machine c h p held f = h p held (there (Rattle.log_model.specs.hosted.Hosted.is_machine_place p) (at c p) (sym (at_machine c p) ∙ f))
  where
    there : (b : Bool) (o : Option Held) → cond b o None ≡ Some held → o ≡ Some held
    there true o e = e
    there false o e = absurd (cc)

pub asked_there : (s : Hosted) (op : Op) (session : ℕ) → IsSound s → OpFits op → IsIndex session → IsIndex (s.last + 1) → IsAsked (machine_cells s.cells) op session (s.last + 1)
asked_there s op session h fit known index = record {
  rises = from_T _ (sorted_machine s.cells (T_from _ h.cells_rise));
  in_range = in_range_machine s.cells h.cells_in_range;
  op_fits = fit;
  session_in_range = known;
  index_in_range = index;
}

-- ---- who is open

open_index : (s : Hosted) → IsSound s → (id : ℕ) (x : Session) → found_session id s.sessions ≡ Some x → IsIndex id
open_index s h id x e =
    let is = open_is id s.sessions x e in
    let k = (each_found (IsSessionSound s.last) s.sessions h.sessions_are id x e).id in
    let low = h.last_in_range in
    (omega (arith, k.0), omega (arith, k.1))

open_stands : (s : Hosted) → IsSound s → (id : ℕ) (x : Session) → found_session id s.sessions ≡ Some x → stands s.cells (Register_at id) ≡ true
open_stands s h id x e = ap is_some (h.opened id ∙ ap (λ o. cond (is_some o) (Some (marked id)) None) e)

found_own : (ss : List Session) (p : Session → Bool) (x : Session) → find p ss ≡ Some x → (y : Session) × (found_session x.id ss ≡ Some y)
found_own [] p x e = absurd (cc)
found_own (z ∷ ss) p x e =
    elim (z.id == x.id) as (λ b. (z.id == x.id) ≡ b → (y : Session) × (cond b (Some z) (found_session x.id ss) ≡ Some y)) [
      | true ↦ λ t. (z, refl)
      | false ↦ λ t.
          elim (p z) as (λ b. cond b (Some z) (find p ss) ≡ Some x → (y : Session) × (found_session x.id ss ≡ Some y)) [
            | true ↦ λ e. let same : z ≡ x = (cc) in let yes = eq-eqb z.id x.id (ap (λ (w : Session). w.id) same) in absurd (cc)
            | false ↦ λ e. found_own ss p x e
          ] e
    ] refl

-- who expires is open, and there is room for one entry more
record Expiring (s : Hosted) (session : ℕ) : Type 0 where
  pub found : (x : Session) × (found_session session s.sessions ≡ Some x)
  pub more : s.last < index_limit

expiring : (s : Hosted) (time session : ℕ) → is_expiry_of session (expires_in s.last s.now s.sessions time) ≡ true → Expiring s session
expiring s time session ok =
    elim (nat_lt time s.now) as (λ b. is_expiry_of session (cond b (Not_now (Rattle.host_types.specs.declared.entry.Refusal.TheVariants.Time s.now)) (expires_due s.last (due_in time s.sessions))) ≡ true → Expiring s session) [
      | true ↦ λ e. absurd (cc)
      | false ↦ λ e. due (find (is_due time) s.sessions) refl e
    ] ok
  where
    due : (o : Option Session) → find (is_due time) s.sessions ≡ o → is_expiry_of session (expires_due s.last (elim o as (λ _. Option ℕ) [ None ↦ None | Some x ↦ Some x.id ])) ≡ true → Expiring s session
    due None f e = absurd (cc)
    due (Some x) f e =
        elim (nat_le index_limit s.last) as (λ b. nat_le index_limit s.last ≡ b → is_expiry_of session (cond b (Not_now LogEnd) (Expires x.id)) ≡ true → Expiring s session) [
          | true ↦ λ t e. absurd (cc)
          | false ↦ λ t e.
              let same : x.id ≡ session = eqb-true x.id session e in
              record { found = subst (λ n. (y : Session) × (found_session n s.sessions ≡ Some y)) same (found_own s.sessions (is_due time) x f); more = let below = leb-false index_limit s.last t in omega (arith, below) }
        ] refl e

room : (last : ℕ) → admits_more last ≡ Admitted → last < index_limit
room last e = let below = leb-false index_limit last (unrefused (nat_le index_limit last) LogEnd e) in omega (arith, below)

-- ---- one entry

-- a command was decided by the machine
abbrev pub Chosen : MachineDecision → ℕ → Body → Type 0
Chosen d i (Commanded session seq effect reply) = (c : Cells) × (name : List ℕ) × (op : Op) × (d.resolve c name op session i ≡ Decides effect reply)
Chosen d i _ = Unit {0}

-- what is stored of an item
pub record ItemIs (d : MachineDecision) (s : Hosted) (item : Item) : Type 0 where
  pub fit : EntryFits (hosted_entry d s item)
  pub ranged : IsInRange (s.last + 1) (hosted_entry d s item)
  pub fitting : fits s.cells (hosted_entry d s item).body ≡ true
  pub standing : closes_standing s.cells (hosted_entry d s item).body ≡ true
  pub chosen : Chosen d (s.last + 1) (hosted_entry d s item).body

record BodyIs (d : MachineDecision) (s : Hosted) (b : Body) : Type 0 where
  fit : BodyFits b
  ranged : IsBodyInRange b
  fitting : fits s.cells b ≡ true
  standing : closes_standing s.cells b ≡ true
  chosen : Chosen d (s.last + 1) b

placed_of : (last : ℕ) (x : Session) → IsSessionSound last x → x.acked_event ≤ last → Placed last x
placed_of last x h a = record { acked = a; batches = h.batches }

unsigned : (n : ℕ) → n ≤ index_limit → IsUnsigned n
unsigned n l = omega arith

-- the owner of what is put stands
owner_there : (c : Cells) (session i : ℕ) (f : Effect) → OwnsAll session (effect_puts i f) → stands c (Register_at session) ≡ true → effect_fits c f ≡ true → fits_with_owner c f ≡ true
owner_there c session i (Put instance cell content owner) owns there fit =
    let written : at (effect_puts i (Put instance cell content owner)) (Cell_at instance cell) ≡ Some (filled i content owner) = ap (λ b. cond b (Some (filled i content owner)) None) (Rattle.log_model.proofs.Lookups.tied_true Rattle.host_types.proofs.Places.place_total Rattle.host_types.proofs.Places.exact_places (Cell_at instance cell)) in
    and_from (effect_fits c (Put instance cell content owner)) (owner_stands c owner) fit
    (⊎_elim (λ (n : owner ≡ None). ap (owner_stands c) n) (λ (n : owner ≡ Some session). ap (owner_stands c) n ∙ there) (owns (Cell_at instance cell) (filled i content owner) written))
owner_there c session i (Create name kind) owns there fit = fit
owner_there c session i (Delete name instance) owns there fit = fit
owner_there c session i (Drop instance cell) owns there fit = fit
owner_there c session i (Wipe instance) owns there fit = fit
owner_there c session i (WipeKey instance key) owns there fit = fit
owner_there c session i Nothing owns there fit = fit
owner_there c session i (Tell instance word) owns there fit = fit

-- an event that may be acknowledged is in range
batch_in_range : (n last event : ℕ) (bs : List Kept_batch) → last ≤ index_limit → AllByRecursion (λ (b : Kept_batch). (n < b.index) × (b.index ≤ last)) bs → list_any (λ b. b.index == event) bs ≡ true → IsIndex event
batch_in_range n last event bs low h e = let r = some_batch n last event bs h e in (omega (arith, r.0), omega (arith, r.1))

known_in_range : (last event : ℕ) (x : Session) → IsSessionSound last x → last ≤ index_limit → is_event_of event x ≡ true → IsIndex event
known_in_range last event x h low e =
    ⊎_elim
    (λ (t : (event == x.acked_event) ≡ true). subst IsIndex (sym (eqb-true event x.acked_event t)) h.event_in_range)
    (λ (t : list_any (λ b. b.index == event) x.batches ≡ true). batch_in_range x.acked_event last event x.batches low h.batches t)
    (or_cases (event == x.acked_event) (list_any (λ b. b.index == event) x.batches) e)

module _ (d : MachineDecision) (lawful : MachineIsLawful d) (s : Hosted) (h : IsSound s) where
  open_session : (id : ℕ) (rest : Session → Admission) → of_session id (session_in id s.sessions) rest ≡ Admitted → (x : Session) × (found_session id s.sessions ≡ Some x)
  open_session id rest e = go (session_in id s.sessions) refl e
    where
      go : (o : Option Session) → session_in id s.sessions ≡ o → of_session id o rest ≡ Admitted → (x : Session) × (found_session id s.sessions ≡ Some x)
      go None f e = absurd (cc)
      go (Some x) f e = (x, f)

  sound_there : (id : ℕ) (x : Session) → found_session id s.sessions ≡ Some x → IsSessionSound s.last x
  sound_there id x e = each_found (IsSessionSound s.last) s.sessions h.sessions_are id x e

  close_is : (session : ℕ) (expired : Bool) → (x : Session) × (found_session session s.sessions ≡ Some x) → BodyIs d s (Closed session expired)
  close_is session expired x =
      let known = open_index s h session x.0 x.1 in
      record { fit = unsigned session known.1; ranged = known; fitting = refl; standing = refl; chosen = tt }

  command_is : (session seq : ℕ) (name : List ℕ) (op : Op) (x : Session) → found_session session s.sessions ≡ Some x → seq ≤ index_limit → x.seq < seq → IsKey name → OpFits op → s.last < index_limit → (c : Choice) → hosted_choice d s session name op ≡ c → BodyIs d s (choice_body session seq c)
  command_is session seq name op x there ranged rises key fit more (Declines refusal) e = record { fit = tt; ranged = tt; fitting = refl; standing = refl; chosen = tt }
  command_is session seq name op x there ranged rises key fit more (Decides effect reply) e =
      let known = open_index s h session x there in
      let asked = asked_there s op session h fit known (omega arith, omega arith) in
      let is = lawful (machine_cells s.cells) name op session (s.last + 1) effect reply key asked e in
      record {
        fit = (unsigned session known.1, unsigned seq ranged, is.effect_in_range.0, is.reply_in_range.0);
        ranged = (known, (omega arith, ranged), is.effect_in_range.1, is.reply_in_range.1);
        fitting = owner_there s.cells session (s.last + 1) effect is.owns (open_stands s h session x there) (sym (fits_machine s.cells effect) ∙ is.fits_there);
        standing = sym (deletes_machine s.cells effect) ∙ is.deletes;
        chosen = (machine_cells s.cells, name, op, e);
      }

  body_is : (a : Ask) → AskFits a → s.last < index_limit → admits_asked s.sessions (hosted_declined d s) a ≡ Admitted → Timely s.sessions (body_of (hosted_command d s) a) → BodyIs d s (body_of (hosted_command d s) a)
  body_is (Register timeout) fit more ok time = record { fit = fit; ranged = tt; fitting = refl; standing = refl; chosen = tt }
  body_is (Alive session seq event) fit more ok time =
      let x = time.0 in
      let known = open_index s h session x time.1 in
      let sound = sound_there session x time.1 in
      let a = time.2.heard in
      let b = sound.seq_in_range in
      let event_is = known_in_range s.last event x sound h.last_in_range time.2.known in
      record {
        fit = fit;
        ranged = (known, omega arith, event_is);
        fitting = open_stands s h session x time.1;
        standing = refl;
        chosen = tt;
      }
  body_is (Unregister session) fit more ok time = close_is session false (open_session session (λ _. Admitted) ok)
  body_is Tick fit more ok time = record { fit = tt; ranged = tt; fitting = refl; standing = refl; chosen = tt }
  body_is (Command session seq name op) fit more ok time =
      let r = refusals (of_session session (session_in session s.sessions) (admits_seq seq)) (hosted_declined d s session name op ∷ []) ok in
      let x = Rattle.log_model.proofs.plain.Timely.there session (session_in session s.sessions) (admits_seq seq) r.0 in
      let q = Rattle.log_model.proofs.plain.Timely.seq_fits seq x.0 x.2 in
      command_is session seq name op x.0 x.1 q.ranged q.rises fit.2 fit.3 more (hosted_choice d s session name op) refl

  pub item_is : (item : Item) → ItemFits item → is_hosted_admitted d s item ≡ true → ItemIs d s item
  item_is (Expired time session) fit ok =
      let e = expiring s time session ok in
      let more = e.more in
      let b = close_is session true e.found in
      record { fit = record { time = fit.0; body = b.fit }; ranged = record { at = (omega arith, omega arith); body = b.ranged }; fitting = b.fitting; standing = b.standing; chosen = b.chosen }
  item_is (Offered o) fit ok =
      let p = passed s.last s.now s.sessions (hosted_declined d s) o.time o.ask ok in
      let more = room s.last p.more in
      let b = body_is o.ask fit.ask more p.ask (hosted_timely d s (Offered o) ok) in
      record { fit = record { time = fit.time; body = b.fit }; ranged = record { at = (omega arith, omega arith); body = b.ranged }; fitting = b.fitting; standing = b.standing; chosen = b.chosen }

-- ---- one step

pub placed_all : (s : Hosted) → IsSound s → AcksArePast s → AllByRecursion (Placed s.last) s.sessions
placed_all s h a = go s.sessions h.sessions_are a
  where
    go : (ss : List Session) → AllByRecursion (IsSessionSound s.last) ss → AllByRecursion (λ (x : Session). x.acked_event ≤ s.last) ss → AllByRecursion (Placed s.last) ss
    go [] h a = tt
    go (x ∷ ss) h a = (placed_of s.last x h.0 a.0, go ss h.1 a.1)

pub step_is_replay : (d : MachineDecision) (s : Hosted) (item : Item) → IsSound s → AcksArePast s → is_hosted_admitted d s item ≡ true → hosted_step d s item ≡ replay_entry (hosted_told d) 0 s (s.last + 1, hosted_entry d s item)
step_is_replay d s item h a ok =
    let e = hosted_entry d s item in
    let i = s.last + 1 in
    let same = replay_is_after s.last i e.time (hosted_told d s.cells i e.body) e.body s.sessions (omega arith) h.sessions_rise (placed_all s h a) (hosted_timely d s item ok) in
    λ j. record { last = i; now = e.time; sessions = sym same j; cells = after s.cells i e }

pub step_sound : (d : MachineDecision) (s : Hosted) (item : Item) → MachineIsLawful d → IsLogSound s → ItemFits item → is_hosted_admitted d s item ≡ true → IsLogSound (hosted_step d s item)
step_sound d s item lawful h fit ok =
    let is = item_is d lawful s h.sound item fit ok in
    let e = hosted_entry d s item in
    let i = s.last + 1 in
    let sound = entry_sound (hosted_told d) 0 s i e h.sound (omega arith) is.fit is.ranged in
    record {
      sound = subst IsSound (sym (step_is_replay d s item h.sound h.acks_are_past ok)) sound;
      acks_are_past = each_weaker (Placed i) (λ (x : Session). x.acked_event ≤ i) (λ x p. p.acked) _ (placed_after s.last i (omega arith) e.time (hosted_told d s.cells i e.body) e.body s.sessions (hosted_timely d s item ok) (placed_all s h.sound h.acks_are_past));
    }

pub admitted_in_range : (d : MachineDecision) (s : Hosted) (item : Item) → MachineIsLawful d → IsSound s → ItemFits item → is_hosted_admitted d s item ≡ true → EntryFits (hosted_entry d s item) × IsInRange (s.last + 1) (hosted_entry d s item)
admitted_in_range d s item lawful h fit ok = let is = item_is d lawful s h item fit ok in (is.fit, is.ranged)

pub nothing_sound : IsLogSound hosted_nothing
nothing_sound = record {
  sound = record { last_in_range = omega arith; cells_rise = refl; cells_in_range = λ p h e. absurd (cc); cells_are_past = λ p h e. absurd (cc); sessions_rise = tt; opened = λ id. refl; instances_are_past = λ m cell h e. absurd (cc); apart = λ p q h g o e. absurd (cc); heard = λ id h e. absurd (cc); sessions_are = tt };
  acks_are_past = tt;
}

pub sound_from : (d : MachineDecision) → MachineIsLawful d → (s : Hosted) (items : List Item) → IsLogSound s → ItemsFit items → is_hosted_log_from d s items ≡ true → IsLogSound (hosted_from d s items)
sound_from d lawful s [] h fit ok = h
sound_from d lawful s (item ∷ items) h fit ok =
    let p = and_parts (is_hosted_admitted d s item) (is_hosted_log_from d (hosted_step d s item) items) ok in
    sound_from d lawful (hosted_step d s item) items (step_sound d s item lawful h fit.0 p.0) fit.1 p.1

pub logs_sound : (d : MachineDecision) (items : List Item) → MachineIsLawful d → ItemsFit items → is_hosted_log d items ≡ true → IsLogSound (hosted_folded d items)
logs_sound d items lawful fit ok = sound_from d lawful hosted_nothing items nothing_sound fit ok

-- ---- a whole log

abbrev pub EachChosen : MachineDecision → Numbered → Type 0
EachChosen d xs = AllByRecursion (λ (x : ℕ × Entry). Chosen d x.0 x.1.body) xs

abbrev pub entries_from : MachineDecision → Hosted → List Item → Numbered
entries_from d s items = enumerate_from (s.last + 1) (hosted_stored_from d s items)

pub lawful_from : (d : MachineDecision) → MachineIsLawful d → (s : Hosted) (items : List Item) → IsLogSound s → ItemsFit items → is_hosted_log_from d s items ≡ true → (is_lawful_from s.cells (entries_from d s items) ≡ true) × EachChosen d (entries_from d s items)
lawful_from d lawful s [] h fit ok = (refl, tt)
lawful_from d lawful s (item ∷ items) h fit ok =
    let p = and_parts (is_hosted_admitted d s item) (is_hosted_log_from d (hosted_step d s item) items) ok in
    let is = item_is d lawful s h.sound item fit.0 p.0 in
    let e = hosted_entry d s item in
    let rest = lawful_from d lawful (hosted_step d s item) items (step_sound d s item lawful h fit.0 p.0) fit.1 p.1 in
    (and_from (fits s.cells e.body && closes_standing s.cells e.body) _ (and_from (fits s.cells e.body) (closes_standing s.cells e.body) is.fitting is.standing) rest.0, (is.chosen, rest.1))

pub length-hosted : (d : MachineDecision) (s : Hosted) (items : List Item) → length (hosted_stored_from d s items) ≡ length items
length-hosted d s [] = refl
length-hosted d s (item ∷ items) = ap suc (length-hosted d (hosted_step d s item) items)

pub last-hosted : (d : MachineDecision) (s : Hosted) (items : List Item) → (hosted_from d s items).last ≡ s.last + length items
last-hosted d s [] = omega arith
last-hosted d s (item ∷ items) = let r = last-hosted d (hosted_step d s item) items in omega arith

pub cells-hosted : (d : MachineDecision) (s : Hosted) (items : List Item) → (hosted_from d s items).cells ≡ cells_from s.cells (entries_from d s items)
cells-hosted d s [] = refl
cells-hosted d s (item ∷ items) = cells-hosted d (hosted_step d s item) items

-- ---- one owner

-- the owner of what is first put at a place
abbrev pub first_owner : Numbered → Place → Option ℕ
first_owner [] p = None
first_owner (x ∷ xs) p = elim (at (puts x.0 x.1.body) p) [ None ↦ first_owner xs p | Some held ↦ held.owner ]

marked_at : (q : Place) (i : ℕ) (p : Place) (h : Held) → Rattle.log_model.specs.hosted.Hosted.is_machine_place q ≡ false → at ((q, marked i) ∷ []) p ≡ Some h → (Rattle.log_model.specs.hosted.Hosted.is_machine_place p ≡ false) × (h.owner ≡ None)
marked_at q i p h out e =
    let r = single q (marked i) p h e in
    (ap Rattle.log_model.specs.hosted.Hosted.is_machine_place r.0 ∙ out, ap (λ (g : Held). g.owner) (sym r.1))

-- each put is a command's, or nobody's at a session's place
data Puts (d : MachineDecision) (i : ℕ) (p : Place) (h : Held) : Type 0 where
  By_command : (c : Cells) (name : List ℕ) (op : Op) (session : ℕ) (effect : Effect) (reply : Reply) → d.resolve c name op session i ≡ Decides effect reply → at (effect_puts i effect) p ≡ Some h → Puts d i p h
  By_session : Rattle.log_model.specs.hosted.Hosted.is_machine_place p ≡ false → h.owner ≡ None → Puts d i p h

put_by_whom : (d : MachineDecision) (i : ℕ) (b : Body) (p : Place) (h : Held) → Chosen d i b → at (puts i b) p ≡ Some h → Puts d i p h
put_by_whom d i (Registered timeout) p h k e = let r = marked_at (Register_at i) i p h refl e in By_session r.0 r.1
put_by_whom d i (Kept_alive session seq event) p h k e = let r = marked_at (Alive_at session) i p h refl e in By_session r.0 r.1
put_by_whom d i (Commanded session seq effect reply) p h k e = By_command k.0 k.1 k.2 session effect reply k.3 e
put_by_whom d i _ p h k e = absurd (cc)

same_owner : (d : MachineDecision) → MachineHasOneOwner d → (i j : ℕ) (p : Place) (h g : Held) → (i ≡ j → ⊥) → Puts d i p h → Puts d j p g → h.owner ≡ g.owner
same_owner d one i j p h g apart (By_command c name op session effect reply r e) (By_command c' name' op' session' effect' reply' r' e') = one c c' name name' op op' session session' i j effect effect' reply reply' apart r r' p h g e e'
same_owner d one i j p h g apart (By_command c name op session effect reply r e) (By_session out n) = absurd (effect_at_session i effect p h e out)
same_owner d one i j p h g apart (By_session out n) (By_command c name op session effect reply r e) = absurd (effect_at_session j effect p g e out)
same_owner d one i j p h g apart (By_session out n) (By_session out' n') = n ∙ sym n'

found_chosen : (d : MachineDecision) (xs : Numbered) → EachChosen d xs → (i : ℕ) (e : Entry) → entry_at xs i ≡ Some e → Chosen d i e.body
found_chosen d [] h i e f = absurd (cc)
found_chosen d (x ∷ xs) h i e f =
    elim (Rattle.std.specs.Ordering.eq_by_cmp Rattle.std.specs.Ordering.nat_cmp i x.0) as (λ b. Rattle.std.specs.Ordering.eq_by_cmp Rattle.std.specs.Ordering.nat_cmp i x.0 ≡ b → cond b (Some x.1) (entry_at xs i) ≡ Some e → Chosen d i e.body) [
      | true ↦ λ t f.
          let same : i ≡ x.0 = Rattle.log_model.proofs.Lookups.tied_same Rattle.std.specs.Cmp.nat_cmp_total Rattle.std.specs.FinMap.nat_cmp-IsAntisymmetric i x.0 t in
          let is : x.1 ≡ e = (cc) in
          subst (λ (y : ℕ × Entry). Chosen d y.0 y.1.body) (λ k. (sym same k, is k)) h.0
      | false ↦ λ t f. found_chosen d xs h.1 i e f
    ] refl f

pub one_owner : (d : MachineDecision) → MachineHasOneOwner d → (xs : Numbered) → EachChosen d xs → HasOneOwner (first_owner xs) xs
one_owner d one [] h i e p held f w = absurd (cc)
one_owner d one (x ∷ xs) h i e p held f w = first (λ g. one_owner d one xs h.1 i e p held g w) (at (puts x.0 x.1.body) p) refl
  where
    chosen : Chosen d i e.body
    chosen = found_chosen d (x ∷ xs) h i e f

    first : (entry_at xs i ≡ Some e → held.owner ≡ first_owner xs p) → (o : Option Held) → at (puts x.0 x.1.body) p ≡ o → held.owner ≡ elim o as (λ _. Option ℕ) [ None ↦ first_owner xs p | Some held ↦ held.owner ]
    first later o k =
        elim (Rattle.std.specs.Ordering.eq_by_cmp Rattle.std.specs.Ordering.nat_cmp i x.0) as (λ b. Rattle.std.specs.Ordering.eq_by_cmp Rattle.std.specs.Ordering.nat_cmp i x.0 ≡ b → cond b (Some x.1) (entry_at xs i) ≡ Some e → held.owner ≡ elim o as (λ _. Option ℕ) [ None ↦ first_owner xs p | Some held ↦ held.owner ]) [
          | true ↦ λ t f.
              let same : i ≡ x.0 = Rattle.log_model.proofs.Lookups.tied_same Rattle.std.specs.Cmp.nat_cmp_total Rattle.std.specs.FinMap.nat_cmp-IsAntisymmetric i x.0 t in
              let is : x.1 ≡ e = (cc) in
              let here : o ≡ Some held = sym k ∙ (λ j. at (puts (sym same j) (is j).body) p) ∙ w in
              own o here
          | false ↦ λ t f. other o k (later f) (λ s. let yes = Rattle.log_model.proofs.Lookups.tied_true Rattle.std.specs.Cmp.nat_cmp_total Rattle.std.specs.FinMap.nat_cmp-IsAntisymmetric x.0 in let same : Rattle.std.specs.Ordering.eq_by_cmp Rattle.std.specs.Ordering.nat_cmp i x.0 ≡ true = ap (λ n. Rattle.std.specs.Ordering.eq_by_cmp Rattle.std.specs.Ordering.nat_cmp n x.0) s ∙ yes in absurd (cc))
        ] refl f
      where
        own : (o : Option Held) → o ≡ Some held → held.owner ≡ elim o as (λ _. Option ℕ) [ None ↦ first_owner xs p | Some held ↦ held.owner ]
        own None e = absurd (cc)
        own (Some g) e = let same : g ≡ held = (cc) in ap (λ (q : Held). q.owner) (sym same)

        other : (o : Option Held) → at (puts x.0 x.1.body) p ≡ o → held.owner ≡ first_owner xs p → (i ≡ x.0 → ⊥) → held.owner ≡ elim o as (λ _. Option ℕ) [ None ↦ first_owner xs p | Some held ↦ held.owner ]
        other None k rest apart = rest
        other (Some g) k rest apart = same_owner d one i x.0 p held g apart (put_by_whom d i e.body p held chosen w) (put_by_whom d x.0 x.1.body p g h.0 k)

-- ---- the central law

pub quiet_within : (s : Hosted) → hosted_quiet s ≤ s.last
quiet_within s = (below_kept s.last (kept_of s.sessions)).1

pub central_of_machines : (d : MachineDecision) (items : List Item) (left : Numbered) (k f : ℕ) → MachineIsLawful d → MachineHasOneOwner d → ItemsFit items → is_hosted_log d items ≡ true → Cleaned left (hosted_stored d items) (hosted_quiet (hosted_folded d items)) k f → (m : ℕ) → k ≤ m → m ≤ length items → cells (up_to m left) ≡ cells (up_to m (numbered (hosted_stored d items)))
central_of_machines d items left k f lawful one fit log cleaned m low high =
    let n = length-hosted d hosted_nothing items in
    let r = lawful_from d lawful hosted_nothing items nothing_sound fit log in
    central left (hosted_stored d items) (first_owner (numbered (hosted_stored d items))) (hosted_quiet (hosted_folded d items)) k f r.0 (one_owner d one (numbered (hosted_stored d items)) r.1) cleaned m low (omega arith)
