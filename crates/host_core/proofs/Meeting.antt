-- What follows where a commit stands before a host's machine and sessions.
use Rattle.std.proofs.Common.{lt-ltb, ltb-true, nat_le, nat_lt, ◌≡◌, ◌≢◌, ℕ, ◌+◌, ◌<◌, ◌≤◌, Bool, true, false, cond, not, ◌&&◌, ◌==◌, List, [], ◌∷◌, ◌++◌, map, Option, Some, None, is_some, refl, sym, ap, subst, ◌∙◌, arith, eqb-true, eq-eqb}
use Rattle.std.proofs.lemmas.Bool.{false_from_ne_true}
use Rattle.std.specs.Option.{option_map}
use Rattle.std.specs.List.{filter, find, list_any, AllByRecursion}
use Rattle.host_types.specs.declared.entry.Body.{Body}
use Rattle.host_types.specs.declared.entry.Body.TheVariants.{Register, Alive, Close, Tick, Command}
use Rattle.host_types.specs.declared.entry.Effect.{Effect}
use Rattle.host_types.specs.declared.entry.Effect.TheVariants.{Nothing, Create, Delete, Put, Drop, Wipe, WipeKey, Tell}
use Rattle.host_types.specs.declared.entry.Event.{Event}
use Rattle.host_types.specs.declared.entry.Reply.{Reply}
use Rattle.host_types.specs.Cells.{Register_at, marked, Cells, at, stands, places_of, is_in_instance, without_owner}
use Rattle.commit_lending.specs.Lent.{Lent, tokens, one_of}
use Rattle.machine.specs.Release.{AreOut, CreatesAnew, Releases}
use Rattle.machine.proofs.ReleaseLaws.{releases_as, releases_none}
use Rattle.event_batches.specs.Rising.{AreBelow}
use Rattle.log_model.specs.plain.Plain.{Kept_batch, Kept_reply, Session, session_in}
use Rattle.log_model.specs.hosted.Parts.{machine_after, put_owner_stands}
use Rattle.log_model.specs.hosted.Sound.{IsSessionSound, IsPast, Rises}
use Rattle.log_model.specs.plain.Step.{changed, new_session, one_batch, with_reply}
use Rattle.log_model.specs.replay.Replay.{noted, pushed, replay_alive, replay_reply}
use Rattle.log_model.proofs.hosted.Admitted.{changed_same}
use Rattle.log_model.specs.cleaning.Cells.{after}
use Rattle.log_model.proofs.hosted.Sounds.{each_found, each_map, each_weaker, open_mapped}
use Rattle.log_model.proofs.plain.OneSession.{closed_found}
use Rattle.log_model.proofs.replay.Rising.{push_id, rises_map}
use Rattle.session_table.specs.declared.view.SessionView.{SessionView}
use Rattle.session_table.specs.Asked.{NewerBatch, NewerReply}
use Rattle.session_table.specs.Table.{Beside, KeepsRoom, Table, ids, beside_changed, confirmed_of, view_of, view_at, session_at}
use Rattle.session_table.specs.Places.{cells_of, table_cells}
use Rattle.host_core.specs.Batching.{AreBatchesOf, Batches, CanTakeAll, HaveBatchRoom, events_in, hears, told_above}
use Rattle.host_core.specs.Entering.{AreKeptBefore, Entered, Meets, beside_after, has_owner, held_at, held_with}
use Rattle.host_core.proofs.Giving.{given, given_above}
use Rattle.host_core.proofs.Parts.{at_sessions}
use Rattle.host_core.proofs.Standing.{by_machine, by_table, commit_out, free, machine_out, none_held_at, table_out}
use Rattle.host_core.proofs.Tables.{found_stands, not_heard, not_changed, ended, not_ended}

module _ (index : ℕ) (machine : Cells) (table : Table) (lent : Lent) (m : Meets index machine table lent) where
  abbrev all : Cells
  all = machine ++ table_cells table

  -- the commit holds no place
  pub none_of_table : places_of (table_cells table) index ≡ 0
  none_of_table = let none = none_held_at index machine table lent m in omega (arith, none)

  pub none_held : places_of machine index ≡ 0
  none_held = let none = none_held_at index machine table lent m in omega (arith, none)

  pub is_lent : tokens lent index ≡ 1
  is_lent = commit_out index machine table lent m

  pub machine_is_out : AreOut (places_of machine) lent
  machine_is_out = machine_out index machine table lent m

  pub table_is_out : AreOut (places_of (table_cells table)) lent
  table_is_out = table_out index machine table lent m

  -- no cell of a new instance stands
  pub anew : (f : Effect) → CreatesAnew machine index f
  anew (Create name kind) = (let low = m.behind in omega (arith, low), ap (list_any (is_in_instance index)) (sym m.machine_is) ∙ (free index machine table lent m).empty)
  anew Nothing = tt
  anew (Delete name instance) = tt
  anew (Put instance cell content owner) = tt
  anew (Drop instance cell) = tt
  anew (Wipe instance) = tt
  anew (WipeKey instance key) = tt
  anew (Tell instance word) = tt

  -- who is open has its register place
  stands_open : (id : ℕ) → stands all (Register_at id) ≡ is_some (session_in id table.sessions)
  stands_open id = ap is_some (m.sound.opened id) ∙ elim (is_some (session_in id table.sessions)) as (λ b. is_some (cond b (Some (marked id)) None) ≡ b) [ true ↦ refl | false ↦ refl ]

  pub owner_is : (f : Effect) → has_owner table.sessions f ≡ put_owner_stands all f
  owner_is (Put instance cell content None) = refl
  owner_is (Put instance cell content (Some owner)) = sym (stands_open owner)
  owner_is Nothing = refl
  owner_is (Create name kind) = refl
  owner_is (Delete name instance) = refl
  owner_is (Drop instance cell) = refl
  owner_is (Wipe instance) = refl
  owner_is (WipeKey instance key) = refl
  owner_is (Tell instance word) = refl

  at_table : (id : ℕ) → at (table_cells table) (Register_at id) ≡ at all (Register_at id)
  at_table id = ap (λ (c : Cells). at c (Register_at id)) (sym m.table_is) ∙ at_sessions all (Register_at id)

  pub table_stands : (id : ℕ) → stands (table_cells table) (Register_at id) ≡ is_some (session_in id table.sessions)
  table_stands id = ap is_some (at_table id) ∙ stands_open id

  -- the sessions are behind no entry of the log, and neither are their replies
  pub ids_are_below : AreBelow index (ids table)
  ids_are_below = go table.sessions m.sound.sessions_are
    where
      go : (ss : List Session) → AllByRecursion (IsSessionSound m.last) ss → AreBelow index (map (λ (x : Session). x.id) ss)
      go [] a = tt
      go (x ∷ ss) a = (let past = a.0.id.1 in let low = m.behind in omega (arith, past, low), go ss a.1)

  pub kept_before : AreKeptBefore index table.sessions
  kept_before = each_weaker (IsSessionSound m.last) (λ (x : Session). AreBelow index (map (λ (r : Kept_reply). r.index) x.replies)) (λ x a. go x.replies a.replies) table.sessions m.sound.sessions_are
    where
      go : (rs : List Kept_reply) → AllByRecursion (λ (r : Kept_reply). IsPast m.last r.index) rs → AreBelow index (map (λ (r : Kept_reply). r.index) rs)
      go [] a = tt
      go (r ∷ rs) a = (let past = a.0.1 in let low = m.behind in omega (arith, past, low), go rs a.1)

  -- ---- the batches of the entry

  -- a batch of this index is newer than those that a session keeps
  newer : (id : ℕ) → NewerBatch index (session_at id table)
  newer id = go (session_in id table.sessions) refl
    where
      below : (acked : ℕ) (bs : List Kept_batch) → AllByRecursion (λ (b : Kept_batch). (acked < b.index) × (b.index ≤ m.last)) bs → AreBelow index (map (λ (b : Kept_batch). b.index) bs)
      below acked [] a = tt
      below acked (b ∷ bs) a = (let past = a.0.1 in let low = m.behind in omega (arith, past, low), below acked bs a.1)

      go : (o : Option Session) → session_in id table.sessions ≡ o → NewerBatch index o
      go None e = tt
      go (Some x) e = below x.acked_event x.batches (each_found (IsSessionSound m.last) table.sessions m.sound.sessions_are id x e).batches

  pub can_take : (batches : Batches) (ended : Option ℕ) → HaveBatchRoom ended table batches → CanTakeAll index table batches
  can_take batches ended have id has = let room = have id has in record { opened = room.opened; room = room.room; newer = newer id }

  -- when a session was ended, the others can take theirs
  pub can_take_left : (batches : Batches) (session : ℕ) (table' : Table) → HaveBatchRoom (Some session) table batches → table'.sessions ≡ filter (λ (x : Session). not (x.id == session)) table.sessions
      → ((other : ℕ) → other ≢ session → KeepsRoom other table table') → CanTakeAll index table' batches
  can_take_left batches session table' have sessions rooms id has =
      let room = have id has in
      let other : id ≢ session = λ e. (let yes = eq-eqb session id (sym e) in let no = room.stays in absurd (cc)) in
      let found : session_at id table' ≡ session_at id table =
      ap (session_in id) sessions ∙ closed_found id session table.sessions ∙ ap (λ b. cond b none (session_at id table)) (false_from_ne_true (id == session) (λ u. other (eqb-true id session u))) in
      let more = (rooms id other).batches in
      record {
        opened = ap is_some found ∙ room.opened;
        room = (let enough = room.room in omega (arith, enough, more));
        newer = subst (NewerBatch index) (sym found) (newer id);
      }
    where
      none : Option Session
      none = None

  -- ---- the places of the sessions

  -- a keep-alive of another than an open session
  pub alive_stays : (id time seq event : ℕ) → session_in id table.sessions ≡ None → table_cells table ≡ after (table_cells table) index (record { time = time; body = Alive id seq event })
  alive_stays id time seq event none = not_heard (table_cells table) index time id seq event (table_stands id ∙ ap is_some none)

  not_beside : (id : ℕ) → session_in id table.sessions ≡ None → is_some (find (λ (b : Beside). b.id == id) table.beside) ≡ false
  not_beside id none = false_from_ne_true (is_some (find (λ (b : Beside). b.id == id) table.beside)) (λ e.
      let placed = found_stands id table.beside e in
      let shut = table_stands id ∙ ap is_some none in
      absurd (cc))

  pub alive_stays_beside : (id : ℕ) (f : Beside → Beside) → session_in id table.sessions ≡ None → table.beside ≡ beside_changed id f table.beside
  alive_stays_beside id f none = not_changed table.beside id f (not_beside id none)

  -- the end of a session that isn't open
  pub end_stays_beside : (id : ℕ) → session_in id table.sessions ≡ None → table.beside ≡ filter (λ (b : Beside). not (b.id == id)) table.beside
  end_stays_beside id none = sym (not_ended table.beside id (not_beside id none))

  pub end_stays : (id time : ℕ) (expired : Bool) → session_in id table.sessions ≡ None → table_cells table ≡ after (table_cells table) index (record { time = time; body = Close id expired })
  end_stays id time expired none = ap cells_of (end_stays_beside id none) ∙ ended id expired table.beside index time

-- ---- one session

-- nobody is changed where the session isn't open
pub changed_none : (id : ℕ) (f : Session → Session) (ss : List Session) → session_in id ss ≡ None → changed id f ss ≡ ss
changed_none id f [] e = refl
changed_none id f (x ∷ ss) e =
    elim (x.id == id) as (λ b. cond b (Some x) (session_in id ss) ≡ None → cond b (f x) x ∷ changed id f ss ≡ x ∷ ss) [
      | true ↦ λ e. absurd (cc)
      | false ↦ λ e. ap (λ (r : List Session). x ∷ r) (changed_none id f ss e)
    ] e

-- and nobody goes
pub without_none : (id : ℕ) (ss : List Session) → session_in id ss ≡ None → filter (λ (x : Session). not (x.id == id)) ss ≡ ss
without_none id [] e = refl
without_none id (x ∷ ss) e =
    elim (x.id == id) as (λ b. cond b (Some x) (session_in id ss) ≡ None → cond (not b) (x ∷ filter (λ (y : Session). not (y.id == id)) ss) (filter (λ (y : Session). not (y.id == id)) ss) ≡ x ∷ ss) [
      | true ↦ λ e. absurd (cc)
      | false ↦ λ e. ap (λ (r : List Session). x ∷ r) (without_none id ss e)
    ] e

-- ---- what the table tells of a session

pub found_none : (id : ℕ) (t : Table) → None ≡ view_at id t → session_in id t.sessions ≡ None
found_none id t e = elim (session_in id t.sessions) as (λ o. None ≡ option_map (view_of (confirmed_of id t)) o → o ≡ None) [ None ↦ λ q. refl | Some x ↦ λ q. absurd (cc) ] e

record IsFound (id : ℕ) (t : Table) (view : SessionView) : Type 0 where
  pub session : Session
  pub is : session_in id t.sessions ≡ Some session
  pub seq : session.seq ≡ view.seq

found_some : (id : ℕ) (t : Table) (view : SessionView) → Some view ≡ view_at id t → IsFound id t view
found_some id t view e = go (session_in id t.sessions) refl e
  where
    go : (o : Option Session) → session_in id t.sessions ≡ o → Some view ≡ option_map (view_of (confirmed_of id t)) o → IsFound id t view
    go None f e = absurd (cc)
    go (Some x) f e = record { session = x; is = f; seq = let same : view ≡ view_of (confirmed_of id t) x = (cc) in sym (ap (λ (v : SessionView). v.seq) same) }

pub is_newer : (id seq index : ℕ) (t : Table) (view : SessionView) → Some view ≡ view_at id t → view.seq < seq → AreKeptBefore index t.sessions → NewerReply seq index (session_at id t)
is_newer id seq index t view e less before =
    let f = found_some id t view e in
    subst (NewerReply seq index) (sym f.is) (let same = f.seq in omega (arith, same, less), each_found (λ (x : Session). AreBelow index (map (λ (r : Kept_reply). r.index) x.replies)) t.sessions before id f.session f.is)

module _ (id seq index cut : ℕ) (reply : Reply) (t : Table) (view : SessionView) (e : Some view ≡ view_at id t) (rises : Rises t.sessions) where
  same_seq : (x : Session) → session_in id t.sessions ≡ Some x → x.seq ≡ view.seq
  same_seq x f = let there = found_some id t view e in let same : x ≡ there.session = let i = there.is in (cc) in ap (λ (y : Session). y.seq) same ∙ there.seq

  pub keeps : cut < index → view.seq < seq → changed id (with_reply seq index reply) t.sessions ≡ changed id (replay_reply cut seq index reply) t.sessions
  keeps above newer = changed_same id (with_reply seq index reply) (replay_reply cut seq index reply) t.sessions rises (λ x f.
      let same = same_seq x f in
      sym ((λ j. cond (lt-ltb cut index above j && nat_lt x.seq seq) (with_reply seq index reply x) (noted seq x))
      ∙ ap (λ b. cond b (with_reply seq index reply x) (noted seq x)) (lt-ltb x.seq seq (omega (arith, same, newer)))))

  notes : ((x : Session) → x.seq ≡ view.seq → (nat_lt cut index && nat_lt x.seq seq) ≡ false) → changed id (noted seq) t.sessions ≡ changed id (replay_reply cut seq index reply) t.sessions
  notes either = changed_same id (noted seq) (replay_reply cut seq index reply) t.sessions rises (λ x f. sym (ap (λ b. cond b (with_reply seq index reply x) (noted seq x)) (either x (same_seq x f))))

  pub notes_old : index ≤ cut → changed id (noted seq) t.sessions ≡ changed id (replay_reply cut seq index reply) t.sessions
  notes_old not_above = notes (λ x same. ap (λ b. b && nat_lt x.seq seq) (false_from_ne_true (nat_lt cut index) (λ q. let less = ltb-true cut index q in omega (arith, less, not_above))))

  pub notes_repeat : seq ≤ view.seq → changed id (noted seq) t.sessions ≡ changed id (replay_reply cut seq index reply) t.sessions
  notes_repeat not_newer = notes (λ x same. ap (λ b. nat_lt cut index && b) (false_from_ne_true (nat_lt x.seq seq) (λ q. let less = ltb-true x.seq seq q in omega (arith, same, less, not_newer))) ∙ false_right (nat_lt cut index))
    where
      false_right : (b : Bool) → (b && false) ≡ false
      false_right true = refl
      false_right false = refl

-- ---- a keep-alive

pub open_changed : (id : ℕ) (f : Session → Session) → ((x : Session) → (f x).id ≡ x.id) → (ss : List Session) → is_some (session_in id (changed id f ss)) ≡ is_some (session_in id ss)
open_changed id f own [] = refl
open_changed id f own (x ∷ ss) =
    elim (x.id == id) as (λ b. (x.id == id) ≡ b → is_some (cond ((cond b (f x) x).id == id) (Some (cond b (f x) x)) (session_in id (changed id f ss))) ≡ is_some (cond b (Some x) (session_in id ss))) [
      | true ↦ λ q. ap (λ z. is_some (cond z (Some (f x)) (session_in id (changed id f ss)))) (ap (λ n. n == id) (own x) ∙ q)
      | false ↦ λ q. ap (λ z. is_some (cond z (Some x) (session_in id (changed id f ss)))) q ∙ open_changed id f own ss
    ] refl

pub is_open : (id : ℕ) (t : Table) → is_some (view_at id t) ≡ is_some (session_in id t.sessions)
is_open id t = elim (session_in id t.sessions) as (λ o. is_some (option_map (view_of (confirmed_of id t)) o) ≡ is_some o) [ None ↦ refl | Some x ↦ refl ]

pub shut : (id : ℕ) (t : Table) → is_some (view_at id t) ≡ false → session_in id t.sessions ≡ None
shut id t e = elim (session_in id t.sessions) as (λ o. is_some (option_map (view_of (confirmed_of id t)) o) ≡ false → o ≡ None) [ None ↦ λ q. refl | Some x ↦ λ q. absurd (cc) ] e

-- ---- who hears

-- whoever is among the sessions is open
open_more : (id : ℕ) (y : Session) (ss : List Session) → is_some (session_in id ss) ≡ true → is_some (session_in id (y ∷ ss)) ≡ true
open_more id y ss e = elim (y.id == id) as (λ b. is_some (cond b (Some y) (session_in id ss)) ≡ true) [ true ↦ refl | false ↦ e ]

each_open : (ss : List Session) → AllByRecursion (λ (x : Session). is_some (session_in x.id ss) ≡ true) ss
each_open [] = tt
each_open (y ∷ ss) = (
  ap (λ b. is_some (cond b (Some y) (session_in y.id ss))) (eq-eqb y.id y.id refl),
  each_weaker (λ (x : Session). is_some (session_in x.id ss) ≡ true) (λ (x : Session). is_some (session_in x.id (y ∷ ss)) ≡ true) (λ x e. open_more x.id y ss e) ss (each_open ss),
)

all_hear : (ss : List Session) → AllByRecursion (λ (x : Session). hears None ss x.id ≡ true) ss
all_hear ss = each_weaker (λ (x : Session). is_some (session_in x.id ss) ≡ true) (λ (x : Session). hears None ss x.id ≡ true) (λ x e. ap (λ b. b && true) e) ss (each_open ss)

the_rest_hears : (session : ℕ) (all ss : List Session) → AllByRecursion (λ (x : Session). is_some (session_in x.id all) ≡ true) ss → AllByRecursion (λ (x : Session). hears (Some session) all x.id ≡ true) (filter (λ (x : Session). not (x.id == session)) ss)
the_rest_hears session all [] a = tt
the_rest_hears session all (x ∷ ss) a =
    elim (x.id == session) as (λ b. (x.id == session) ≡ b → AllByRecursion (λ (x : Session). hears (Some session) all x.id ≡ true) (cond (not b) (x ∷ filter (λ (x : Session). not (x.id == session)) ss) (filter (λ (x : Session). not (x.id == session)) ss))) [
      | true ↦ λ t. the_rest_hears session all ss a.1
      | false ↦ λ t. (
        (λ j. a.0 j && not (false_from_ne_true (session == x.id) (λ u. let yes = eq-eqb x.id session (sym (eqb-true session x.id u)) in absurd (cc)) j)),
        the_rest_hears session all ss a.1,
      )
    ] refl

-- ---- sessions that were given batches are as before but for these

pub given_open : (i id : ℕ) (batches : Batches) (ss : List Session) → is_some (session_in id (given i batches ss)) ≡ is_some (session_in id ss)
given_open i id batches ss = open_mapped id (λ x. pushed i (events_in x.id batches) x) (λ x. push_id i (events_in x.id batches) x) ss

pub given_rises : (i : ℕ) (batches : Batches) (ss : List Session) → Rises ss → Rises (given i batches ss)
given_rises i batches ss r = rises_map (λ x. pushed i (events_in x.id batches) x) (λ x. push_id i (events_in x.id batches) x) ss r

pub given_kept_before : (i top : ℕ) (batches : Batches) (ss : List Session) → AreKeptBefore top ss → AreKeptBefore top (given i batches ss)
given_kept_before i top batches ss a =
    each_map (λ (x : Session). AreBelow top (map (λ (r : Kept_reply). r.index) x.replies)) (λ (x : Session). AreBelow top (map (λ (r : Kept_reply). r.index) x.replies)) (λ x. pushed i (events_in x.id batches) x)
    (λ x b. subst (λ rs. AreBelow top (map (λ (r : Kept_reply). r.index) rs)) (sym (replies_stay (events_in x.id batches) x)) b) ss a
  where
    replies_stay : (es : List Event) (x : Session) → (pushed i es x).replies ≡ x.replies
    replies_stay es x = elim (nat_le i x.acked_event) as (λ b. (cond b x (record x { batches = x.batches ++ one_batch i es })).replies ≡ x.replies) [ true ↦ refl | false ↦ refl ]

-- ---- what was entered, by its body

module _ (index time cut : ℕ) (told : List (ℕ × Event)) (machine : Cells) (table : Table) (lent : Lent) (m : Meets index machine table lent) where
  abbrev pub Done : Body → Cells → Table → Lent → Type 0
  Done b machine' table' lent' = Entered index (record { time = time; body = b }) cut told machine machine' table table' lent lent'

  pub entered_register : (timeout : ℕ) (table' : Table) → table'.sessions ≡ table.sessions ++ new_session index time timeout ∷ [] → table_cells table' ≡ after (table_cells table) index (record { time = time; body = Register timeout })
      → ((j : ℕ) → places_of (table_cells table') j ≡ places_of (table_cells table) j + one_of index j) → table'.beside ≡ beside_after index (Register timeout) table.beside → Done (Register timeout) machine table' lent
  entered_register timeout table' sessions table_is places beside = record {
    machine_is = refl;
    table_is = table_is;
    sessions_are = sessions;
    beside_is = beside;
    released = releases_as (held_with index machine table) (held_with index machine table) (held_with index machine table) (held_at machine table') index lent lent (λ j. refl) (λ j. let more = places j in omega (arith, more)) (releases_none (held_with index machine table) index lent);
  }

  pub entered_alive : (session seq event : ℕ) (table' : Table) (lent' : Lent) → table'.sessions ≡ changed session (replay_alive time seq event) table.sessions
      → table_cells table' ≡ after (table_cells table) index (record { time = time; body = Alive session seq event }) → table'.beside ≡ beside_after index (Alive session seq event) table.beside
      → Releases (λ j. places_of (table_cells table) j + one_of index j) (places_of (table_cells table')) index lent lent' → Done (Alive session seq event) machine table' lent'
  entered_alive session seq event table' lent' sessions table_is beside step = record {
    machine_is = refl;
    table_is = table_is;
    sessions_are = sessions;
    beside_is = beside;
    released = by_table index machine table lent m table' lent' step;
  }

  pub entered_tick : (lent' : Lent) → ((held : ℕ → ℕ) → held index ≡ 0 → Releases (λ j. held j + one_of index j) held index lent lent') → Done Tick machine table lent'
  entered_tick lent' own = record {
    machine_is = refl;
    table_is = refl;
    sessions_are = refl;
    beside_is = refl;
    released = own (held_at machine table) (none_held_at index machine table lent m);
  }

  -- the sessions after the end of one, when the others were given their batches
  pub entered_close : (session : ℕ) (expired : Bool) (batches : Batches) → AreBatchesOf (told_above cut index told) (Some session) table.sessions batches → (machine' : Cells) (mid table' : Table) (lent' : Lent) → machine' ≡ without_owner session machine
      → mid.sessions ≡ filter (λ (x : Session). not (x.id == session)) table.sessions → table_cells mid ≡ after (table_cells table) index (record { time = time; body = Close session expired }) → mid.beside ≡ beside_after index (Close session expired) table.beside
      → Releases (held_with index machine table) (held_at machine' mid) index lent lent' → table'.sessions ≡ given index batches mid.sessions → table'.beside ≡ mid.beside → Done (Close session expired) machine' table' lent'
  entered_close session expired batches are machine' mid table' lent' machine_is sessions table_is beside step given_are same = record {
    machine_is = machine_is;
    table_is = ap cells_of same ∙ table_is;
    sessions_are =
        given_are ∙ ap (given index batches) sessions
        ∙ given_above cut index told (Some session) table.sessions batches are (filter (λ (x : Session). not (x.id == session)) table.sessions) (the_rest_hears session table.sessions table.sessions (each_open table.sessions));
    beside_is = same ∙ beside;
    released = subst (λ bs. Releases (held_with index machine table) (λ j. places_of machine' j + places_of (cells_of bs) j) index lent lent') (sym same) step;
  }

  pub entered_command : (session seq : ℕ) (f : Effect) (reply : Reply) (batches : Batches) → AreBatchesOf (told_above cut index told) None table.sessions batches → (machine' : Cells) (mid table' : Table) (lent' : Lent)
      → machine' ≡ machine_after (machine ++ table_cells table) index (Command session seq f reply) machine
      → Releases (λ j. places_of machine j + one_of index j) (places_of machine') index lent lent' → mid.sessions ≡ given index batches table.sessions → mid.beside ≡ table.beside
      → table'.sessions ≡ changed session (replay_reply cut seq index reply) mid.sessions → table'.beside ≡ mid.beside → Done (Command session seq f reply) machine' table' lent'
  entered_command session seq f reply batches are machine' mid table' lent' machine_is step given_are same sessions stays = record {
    machine_is = machine_is;
    table_is = ap cells_of (stays ∙ same);
    sessions_are = sessions ∙ ap (changed session (replay_reply cut seq index reply)) (given_are ∙ given_above cut index told None table.sessions batches are table.sessions (all_hear table.sessions));
    beside_is = stays ∙ same;
    released = subst (λ bs. Releases (held_with index machine table) (λ j. places_of machine' j + places_of (cells_of bs) j) index lent lent') (sym (stays ∙ same)) (by_machine index machine table lent m machine' lent' step);
  }
