-- What a core keeps, it keeps after each entry.
use Rattle.std.proofs.Common.{Bool, Option, Some, None, Ok, Err, Result, ltb-true, ◌≡◌, ℕ, ◌+◌, ◌<◌, ◌≤◌, cond, List, [], ◌∷◌, ◌++◌, true, false, nat_lt, refl, sym, ap, subst, ◌∙◌, arith}
use Rattle.std.specs.Prelude.{IfOk, IfSome}
use Rattle.std.specs.List.{find, AllByRecursion}
use Rattle.host_types.specs.declared.entry.Body.{Body}
use Rattle.host_types.specs.declared.entry.Body.TheVariants.{Register, Alive, Close, Tick, Command}
use Rattle.host_types.specs.declared.entry.Entry.{Entry}
use Rattle.host_types.specs.Cells.{Cells, places_of}
use Rattle.host_types.specs.Decision.{MachineDecision, MachineIsLawful}
use Rattle.host_types.specs.Ranges.{EntryFits, IsInRange, IsIndex, OfferFits}
use Rattle.host_types.specs.declared.entry.Ask.{Ask}
use Rattle.machine.specs.Release.{AreOut}
use Rattle.machine.proofs.ReleaseLaws.{are_out_first}
use Rattle.host_core.specs.Answers.{Decides_as, IsStorable, Judges, asked_admission, asked_body}
use Rattle.host_core.specs.Batching.{told_by}
use Rattle.std.proofs.lemmas.Bool.{false_from_ne_true}
use Rattle.host_types.specs.declared.entry.Offer.{Offer}
use Rattle.host_types.specs.declared.entry.Refusal.TheVariants.{Time}
use Rattle.host_core.specs.declared.deciding.Asked.{Asked}
use Rattle.host_core.specs.declared.deciding.Decided.{Decided}
use Rattle.host_core.specs.declared.deciding.DecideError.{DecideError}
use Rattle.log_model.specs.plain.Admission.{Offered, Admission, admits_asked, admits_more, due_in, is_due, first_refusal, refused_due, refused_if}
use Rattle.log_model.specs.plain.Stored.{body_of}
use Rattle.commit_lending.specs.Lent.{Lent, tokens, one_of}
use Rattle.log_model.specs.cleaning.Cells.{after}
use Rattle.log_model.specs.plain.Plain.{Session}
use Rattle.log_model.specs.hosted.Hosted.{hosted_admits, hosted_command, hosted_entry, hosted_declined, hosted_told, machine_cells}
use Rattle.log_model.specs.hosted.Parts.{machine_after, session_cells}
use Rattle.log_model.specs.replay.Replay.{replay_sessions, replay_entry}
use Rattle.log_model.specs.hosted.Sound.{IsSessionSound, IsSound}
use Rattle.log_model.proofs.hosted.Free.{index_free}
use Rattle.log_model.proofs.hosted.OfMachines.{admitted_in_range}
use Rattle.log_model.specs.plain.Stored.{is_admission}
use Rattle.host_core.specs.declared.deciding.Decided.TheVariants as decided
use Rattle.log_model.proofs.hosted.Parts.{part_follows}
use Rattle.log_model.proofs.Lookups.{T_from}
use Rattle.log_model.proofs.hosted.Sounds.{entry_sound}
use Rattle.session_table.specs.Table.{Table}
use Rattle.session_table.specs.Places.{table_cells}
use Rattle.host_core.specs.Entering.{Entered, Meets}
use Rattle.host_core.specs.CoreParts.{sessions_after}
use Rattle.released_marks.specs.Marks.{Marks}
use Rattle.host_core.specs.CoreState.{CoreState, IsKept, hosted}
use Rattle.host_core.specs.Marking.{HasMarks}
use Rattle.host_core.proofs.Parts.{parts_follow, session_part}
use Rattle.host_core.proofs.Standing.{places-append, parts_apart, out_after}

-- what a machine tells is what a host tells, whose cells are the machine's and those of its sessions
told_is : (d : MachineDecision) (c machine : Cells) (i : ℕ) (b : Body) → machine_cells c ≡ machine → hosted_told d c i b ≡ told_by d machine i b
told_is d c machine i (Close session expired) same = ap (λ m. d.tells_close m session) same
told_is d c machine i (Command session seq effect reply) same = ap (λ m. d.tells m effect i) same
told_is d c machine i (Register timeout) same = refl
told_is d c machine i (Alive session seq event) same = refl
told_is d c machine i Tick same = refl

found_has : (f : Session → Bool) (last : ℕ) (ss : List Session) → AllByRecursion (IsSessionSound last) ss → (x : Session) → find f ss ≡ Some x → IsSessionSound last x
found_has f last [] a x e = absurd (cc)
found_has f last (y ∷ ss) a x e =
    elim (f y) as (λ b. cond b (Some y) (find f ss) ≡ Some x → IsSessionSound last x) [
      | true ↦ λ e. let same : y ≡ x = (cc) in subst (IsSessionSound last) same a.0
      | false ↦ λ e. found_has f last ss a.1 x e
    ] e

module _ {M : Type 0} (cells : M → Cells) (d : MachineDecision) (s : CoreState M) (k : IsKept cells s) where
  -- nothing of the next index is out
  pub absent : (index : ℕ) → s.last < index → tokens s.lender index ≡ 0
  absent index behind = k.out index ∙ (index_free (hosted cells s) index k.sound behind).unheld

  -- the commit of the next entry stands before it
  pub meets : (index : ℕ) (lent : Lent) → s.last < index → ((j : ℕ) → tokens lent j ≡ tokens s.lender j + one_of index j) → Meets index (cells s.machine) s.sessions lent
  meets index lent behind more = record {
    last = s.last;
    time = s.time;
    sound = k.sound;
    machine_is = k.machine;
    table_is = k.sessions;
    behind = behind;
    out = λ j. (let now = more j in let before = k.out j in let sum = places-append (cells s.machine) (table_cells s.sessions) j in omega (arith, now, before, sum));
  }

  -- each part is out by itself
  pub machine_is_out : AreOut (places_of (cells s.machine)) s.lender
  machine_is_out =
      are_out_first (places_of (cells s.machine)) (places_of (table_cells s.sessions)) s.lender (parts_apart (hosted cells s) k.sound (cells s.machine) (table_cells s.sessions) k.machine k.sessions)
      (λ j some. k.out j ∙ places-append (cells s.machine) (table_cells s.sessions) j)

  pub table_is_out : (lent : Lent) → ((j : ℕ) → tokens lent j + places_of (cells s.machine) j ≡ tokens s.lender j) → AreOut (places_of (table_cells s.sessions)) lent
  table_is_out lent went j some = let all = k.out j in let sum = places-append (cells s.machine) (table_cells s.sessions) j in let left = went j in omega (arith, some, all, sum, left)

  -- what is decided on the machine's cells is decided on the host's
  pub asked_is : (ask : Ask) → admits_asked s.sessions.sessions (hosted_declined d (hosted cells s)) ask ≡ asked_admission d (cells s.machine) s.sessions.sessions (s.last + 1) ask
  asked_is ask = ap (λ c. asked_admission d c s.sessions.sessions (s.last + 1) ask) k.machine

  pub body_is : (ask : Ask) → body_of (hosted_command d (hosted cells s)) ask ≡ asked_body d (cells s.machine) (s.last + 1) ask
  body_is ask = ap (λ c. asked_body d c (s.last + 1) ask) k.machine

  -- what is decided in time, where nobody is due, is what is decided on the ask and at the end of the log
  pub decided_in_time : (o : Offer) (asked : Result Asked DecideError) (result : Result Decided DecideError) → s.time ≤ o.time → due_in o.time s.sessions.sessions ≡ None
      → Judges (asked_admission d (cells s.machine) s.sessions.sessions (s.last + 1) o.ask) (asked_body d (cells s.machine) (s.last + 1) o.ask) asked
      → ((admission : Admission) (body : Body) → Judges admission body asked → Decides_as (first_refusal (admission ∷ admits_more s.last ∷ [])) (record { time = o.time; body = body }) result)
      → Decides_as (hosted_admits d (hosted cells s) o) (hosted_entry d (hosted cells s) (Offered o)) result
  decided_in_time o asked result in_time nobody judged at_end =
      subst (λ (a : Admission). Decides_as a (hosted_entry d (hosted cells s) (Offered o)) result) (sym passed)
      (subst (λ (p : Admission × Body). Decides_as (first_refusal (p.0 ∷ admits_more s.last ∷ [])) (record { time = o.time; body = p.1 }) result) (λ j. (sym (asked_is o.ask) j, sym (body_is o.ask) j)) (at_end _ _ judged))
    where
      passed : hosted_admits d (hosted cells s) o ≡ first_refusal (admits_asked s.sessions.sessions (hosted_declined d (hosted cells s)) o.ask ∷ admits_more s.last ∷ [])
      passed =
          (λ j. first_refusal (refused_if (false_from_ne_true (nat_lt o.time s.time) (λ e. let early = ltb-true o.time s.time e in omega (arith, early, in_time)) j) (Time s.time) ∷ refused_due (due_in o.time s.sessions.sessions) ∷ admits_asked s.sessions.sessions (hosted_declined d (hosted cells s)) o.ask ∷ admits_more s.last ∷ []))
          ∙ ap (λ due. first_refusal (refused_due due ∷ admits_asked s.sessions.sessions (hosted_declined d (hosted cells s)) o.ask ∷ admits_more s.last ∷ [])) nobody

  -- who is due has a session's id
  pub due_is_index : (time id : ℕ) → due_in time s.sessions.sessions ≡ Some id → IsIndex id
  due_is_index time id e = go (find (is_due time) s.sessions.sessions) refl e
    where
      go : (o : Option Session) → find (is_due time) s.sessions.sessions ≡ o → elim o as (λ _. Option ℕ) [ None ↦ None | Some x ↦ Some x.id ] ≡ Some id → IsIndex id
      go None f e = absurd (cc)
      go (Some x) f e =
          let sound = found_has (is_due time) s.last s.sessions.sessions k.sound.sessions_are x f in
          let same : x.id ≡ id = (cc) in
          let low = sound.id.0 in
          let high = sound.id.1 in
          let most = k.sound.last_in_range in
          (omega (arith, same, low), omega (arith, same, high, most))

  pub all_due : (time : ℕ) (o : Option ℕ) → o ≡ due_in time s.sessions.sessions → IfSome o IsIndex
  all_due time None e = tt
  all_due time (Some id) e = due_is_index time id (sym e)

  -- what is to be stored is in range
  pub storable : MachineIsLawful d → (o : Offer) → OfferFits o → (r : Decided) → Decides_as (hosted_admits d (hosted cells s) o) (hosted_entry d (hosted cells s) (Offered o)) (Ok r) → IsStorable (s.last + 1) r
  storable lawful o fit (decided.Store entry) (is_admitted, is_entry) =
      subst (λ (e : Entry). EntryFits e × IsInRange (s.last + 1) e) (sym is_entry) (admitted_in_range d (hosted cells s) (Offered o) lawful k.sound fit (ap is_admission is_admitted))
  storable lawful o fit (decided.Repeat reply) repeats = tt

  pub storable_all : MachineIsLawful d → (o : Offer) → OfferFits o → (r : Result Decided DecideError) → Decides_as (hosted_admits d (hosted cells s) o) (hosted_entry d (hosted cells s) (Offered o)) r → IfOk r (IsStorable (s.last + 1))
  storable_all lawful o fit (Ok r) decides = storable lawful o fit r decides
  storable_all lawful o fit (Err why) decides = tt

  module _ (index cut : ℕ) (e : Entry) (behind : s.last < index) (fits : EntryFits e) (range : IsInRange index e) (machine : M) (table : Table) (lent lent' lent'' : Lent) (marks : Marks)
      (lends : (j : ℕ) → tokens lent j ≡ tokens s.lender j + one_of index j) (entered : Entered index e cut (told_by d (cells s.machine) index e.body) (cells s.machine) (cells machine) s.sessions table lent lent') (out : lent''.out ≡ lent'.out) (closed : lent''.closed ≡ [])
      (has : HasMarks index (cells machine ++ table_cells table) marks) where
    abbrev s' : CoreState M
    s' = record { machine = machine; sessions = table; lender = lent''; marks = marks; last = index; time = e.time }

    cells_are : after (hosted cells s).cells index e ≡ cells machine ++ table_cells table
    cells_are =
        parts_follow (cells s.machine) (table_cells s.sessions) index e k.sound.cells_rise k.machine k.sessions
        ∙ (λ j. sym entered.machine_is j ++ sym entered.table_is j)

    told : hosted_told d (hosted cells s).cells index e.body ≡ told_by d (cells s.machine) index e.body
    told = told_is d (hosted cells s).cells (cells s.machine) index e.body k.machine

    pub state_is : hosted cells s' ≡ replay_entry (hosted_told d) cut (hosted cells s) (index, e)
    state_is = λ j. record {
      last = index;
      now = e.time;
      sessions = (entered.sessions_are ∙ ap (λ t. replay_sessions cut index e.time t e.body s.sessions.sessions) (sym told)) j;
      cells = sym cells_are j;
    }

    pub is_kept : IsKept cells s'
    is_kept = record {
      sound = subst IsSound (sym state_is) (entry_sound (hosted_told d) cut (hosted cells s) index e k.sound behind fits range);
      machine = ap machine_cells (sym cells_are) ∙ part_follows (hosted cells s).cells index e k.sound.cells_rise ∙ ap (machine_after (hosted cells s).cells index e.body) k.machine ∙ sym entered.machine_is;
      sessions = ap session_cells (sym cells_are) ∙ session_part (hosted cells s).cells index (T_from _ k.sound.cells_rise) e.time e.body ∙ ap (sessions_after index e) k.sessions ∙ sym entered.table_is;
      out = λ j.
          ap (λ o. tokens (record { out = o; closed = lent''.closed; spare = lent''.spare }) j) out
          ∙ out_after index (cells s.machine) s.sessions lent (meets index lent behind lends) (cells machine) table lent' entered.released j
          ∙ sym (places-append (cells machine) (table_cells table) j);
      closed = closed;
      marks = has;
    }
