-- How a call on the host makes an answer of the run that it stands at.
use Rattle.std.proofs.Common.{◌≡◌, ◌⊎◌, inl, inr, ℕ, suc, ◌+◌, ◌≤◌, ◌==◌, nat_lt, not, cond, map, true, false, List, [], ◌∷◌, ◌++◌, length, Option, Some, None, is_none, Result, Ok, Err, IsTrue, refl, ap, sym, ◌∙◌, subst, arith, ◌&&◌, nat_le}
use Rattle.std.specs.Prelude.{IfOk, IfErr}
use Rattle.std.specs.Cmp.{nat_eq_equiv}
use Rattle.std.specs.List.{AllByRecursion, filter}
use Rattle.disk_model.specs.Image.{Image}
use Rattle.disk_model.specs.View.{View, IsSound, LeavesOnly, MayLeave}
use Rattle.disk_model.proofs.Moments.{weaker}
use Rattle.host_types.specs.Limits.{index_limit}
use Rattle.host_types.specs.Ranges.{IsUnsigned, OfferFits}
use Rattle.host_types.specs.declared.entry.Body.{Body}
use Rattle.host_types.specs.declared.entry.Body.TheVariants as bodies
use Rattle.host_types.specs.declared.entry.Entry.{Entry}
use Rattle.host_types.specs.declared.entry.Event.{Event}
use Rattle.host_types.specs.declared.entry.Offer.{Offer}
use Rattle.host_types.specs.declared.entry.Refusal.{Refusal}
use Rattle.host_types.specs.declared.entry.Refusal.TheVariants.{GenEnd}
use Rattle.segment_files.specs.Folder.{entries_of}
use Rattle.segment_set.specs.Fits.{IsEmptyWhereNone, cut_of, floor_of}
use Rattle.log_model.specs.cleaning.Cleaning.{Cleaned}
use Rattle.log_model.specs.plain.Admission.{Item, Offered, Expired, Admission, Admitted, Repeats, Refused, admits, first_refusal, refused_if, Expiry, Expires, Nobody, Not_now, expires}
use Rattle.log_model.specs.plain.Fitting.{ItemFits}
use Rattle.log_model.specs.hosted.Hosted.{Hosted, hosted_admits, hosted_entry, hosted_expires, hosted_folded, hosted_told}
use Rattle.log_model.specs.cleaning.Layout.{Layout, alone, needs_file, with_entry}
use Rattle.log_model.specs.hosted.Machines.{LogsAreSound}
use Rattle.log_model.specs.hosted.PlainMachine.{HostsArePlain, IsAsPlain}
use Rattle.log_model.specs.hosted.Sound.{IsSessionSound}
use Rattle.log_model.specs.plain.Plain.{Session}
use Rattle.log_model.specs.replay.Replay.{pushed, replay_batches, replay_entry}
use Rattle.log_model.specs.plain.Step.{events_of, folded}
use Rattle.log_model.specs.plain.Stored.{entry_of, is_admission, is_admitted, is_expiry_of}
use Rattle.log_model.specs.serving.Positions.{Position, acked_positions, confirmed_after, event_at}
use Rattle.session_table.specs.Table.{ConfirmsAcked, confirmed_positions}
use Rattle.host_core.specs.CoreState.{hosted}
use Rattle.host_recovery.specs.FileLayout.{LiesAlone}
use Rattle.host_recovery.specs.HostState.{HostState}
use Rattle.host_recovery.specs.Standing.{StandsAt, StandsOrGains, StandsOrTakes, StandsOrExpires, layout_in}
use Rattle.host_recovery.specs.Answers.{AfterError, IsAnswer, IsExpiry, OnAnswer, OnExpiry, admits_file as host_admits_file, admits_stored, answer_of, expiry_refusal, expiry_stored, if_filed}
use Rattle.host_recovery.specs.declared.answers.Answer.{Answer as HostAnswer}
use Rattle.host_recovery.specs.declared.answers.Answer.TheVariants as answers
use Rattle.host_recovery.specs.declared.answers.HostError.{HostError}
use Rattle.host_recovery.specs.declared.answers.HostError.TheVariants as errors
use Rattle.resource_catalog.specs.Catalog.{catalog_decision}
use Rattle.resource_catalog.specs.CatalogLaws.{catalog_lawful}
use Rattle.resource_catalog.specs.Parts.{Parts, cells_of}
use Rattle.script_text.specs.declared.printed.Printed.{Printed}
use Rattle.script_text.specs.declared.printed.Printed.TheVariants as prints
use Rattle.script_text.specs.Printing.{printed_text}
use Rattle.copycat_tool.specs.declared.calls.Expiring.{Expiring}
use Rattle.copycat_tool.specs.declared.ending.Ending.{Ending}
use Rattle.copycat_tool.specs.declared.ending.Ending.TheVariants.{DiskFault, NoMemory}
use Rattle.copycat_tool.specs.HostCalls.{Expires_next, HasFewer, IsExpiring, IsTold, Makes, change_of, expiry_told, offer_told, printed_of}
use Rattle.host_recovery.specs.Logs.{IsLog, StandsFor, hosted_form, plain_form}
use Rattle.copycat_tool.specs.Report.{Run, Act, Change, Nothing, Stores, admission, admits_file, answer_by, changed, expired_answer, expiry, expiry_in, reopening, Reopens, stored_as}
use Rattle.copycat_tool.specs.Runs.{BeginsAcked, Files, StandsEither}
use Rattle.copycat_tool.specs.ClientTakes.{HasClients, client_of}
use Rattle.copycat_tool.specs.declared.clients.Clients.{Clients}
use Rattle.copycat_tool.specs.RunStanding.{IsAt, IsCut, IsMade}
use Rattle.copycat_tool.proofs.LogLemmas.{due_session, expires_when, fewer_due, id_past, logged_more}
use Rattle.copycat_tool.proofs.Offering.{offers_nothing, reopened_offered, stored_offered}
use Rattle.copycat_tool.proofs.TurnLemmas.{made_nothing}

-- what a host that stands at a log says of its files and of its state
pub record Keeps {D : Type 0} (view : D → View) (h : HostState D Parts) : Type 0 where
  pub images : (items : List Item) → StandsAt catalog_decision view cells_of h items → (image : Image) → MayLeave (view h.disk) image → StandsFor (hosted_form catalog_decision) h.parts.name image items
  pub empty : (items : List Item) → StandsAt catalog_decision view cells_of h items → IsEmptyWhereNone (view h.disk) h.parts.name
  pub last : (items : List Item) → StandsAt catalog_decision view cells_of h items → (hosted cells_of h.core).last ≡ length items
  pub layout : (items : List Item) → StandsAt catalog_decision view cells_of h items → LiesAlone h.parts.name (view h.disk).reading (alone (layout_in (view h.disk) h.parts))
  pub file : (items : List Item) → StandsAt catalog_decision view cells_of h items → needs_file (layout_in (view h.disk) h.parts) ≡ is_none h.parts.tail

module _ (law : HostsArePlain catalog_decision) where
  pub as_model : (log : List Item) → IsLog plain_form log → IsAsPlain catalog_decision log
  as_model log is = (law log).1 is.admitted

  -- ---- logs of the host, and plain ones

  pub plain_files : (name name' : List ℕ) (log : List Item) → IsLog plain_form log → name ≡ name' → (image : Image) → StandsFor (hosted_form catalog_decision) name image log → StandsFor plain_form name' image log
  plain_files name name' log is same image s =
      let m = as_model log is in
      subst (λ (n : List ℕ). StandsFor plain_form n image log) same (record {
        parts = s.parts;
        are = s.are;
        of = subst (λ (x : List Entry × ℕ). Cleaned (entries_of s.parts) x.0 x.1 (cut_of s.parts) (floor_of s.parts)) (λ i. (m.same_entries i, m.same_quiet i)) s.of;
      })

  pub hosted_files : (name : List ℕ) (log : List Item) → IsLog plain_form log → (image : Image) → StandsFor plain_form name image log → StandsFor (hosted_form catalog_decision) name image log
  hosted_files name log is image s =
      let m = as_model log is in
      record {
        parts = s.parts;
        are = s.are;
        of = subst (λ (x : List Entry × ℕ). Cleaned (entries_of s.parts) x.0 x.1 (cut_of s.parts) (floor_of s.parts)) (λ i. (sym m.same_entries i, sym m.same_quiet i)) s.of;
      }

  pub as_hosted : (log : List Item) → IsLog plain_form log → IsLog (hosted_form catalog_decision) log
  as_hosted log is = record { admitted = subst IsTrue (sym (law log).0) is.admitted; fits = is.fits }

  pub from_hosted : (log : List Item) → IsLog (hosted_form catalog_decision) log → IsLog plain_form log
  from_hosted log is = record { admitted = subst IsTrue (law log).0 is.admitted; fits = is.fits }

  -- ---- where the host stands

  module _ {D : Type 0} (view : D → View) (files : Files) (h : HostState D Parts) (keeps : Keeps view h) (sound : IsSound (view h.disk)) where
    pub is_at : (run : Run) → h.parts.name ≡ files.name → h.size ≡ files.size → StandsAt catalog_decision view cells_of h run.log → IsLog plain_form run.log → layout_in (view h.disk) h.parts ≡ run.layout → confirmed_positions h.core.sessions.beside ≡ run.confirmed → IsAt view files h run
    is_at run name size stands logged layout confirmed = record {
      name_is = name;
      size_is = size;
      stands = stands;
      last_is = keeps.last run.log stands;
      layout_is = layout;
      file_is = sym (ap needs_file layout) ∙ keeps.file run.log stands;
      confirmed_is = confirmed;
      rest = record {
        sound = sound;
        logged = logged;
        kept = λ image may. plain_files h.parts.name files.name run.log logged name image (keeps.images run.log stands image may);
        empty = subst (λ (n : List ℕ). IsEmptyWhereNone (view h.disk) n) name (keeps.empty run.log stands);
        laid_out = subst (λ (l : Layout). LiesAlone files.name (view h.disk).reading (alone l)) layout
            (subst (λ (n : List ℕ). LiesAlone n (view h.disk).reading (alone (layout_in (view h.disk) h.parts))) name (keeps.layout run.log stands));
      };
    }

  -- its sessions are those of the log
  pub sessions_are : {D : Type 0} (view : D → View) (files : Files) (h : HostState D Parts) (run : Run) → IsAt view files h run → h.core.sessions.sessions ≡ (folded run.log).sessions
  sessions_are view files h run at = ap (λ (s : Hosted). s.sessions) (at.stands.state ∙ (as_model run.log at.rest.logged).same_fold)

  -- the clients begin with what its sessions acknowledged
  pub clients_begin : {D : Type 0} (view : D → View) (files : Files) (h : HostState D Parts) (run : Run) (clients : Clients) → IsAt view files h run → BeginsAcked run → ((id : ℕ) → client_of clients id ≡ event_at id id (acked_positions h.core.sessions.sessions)) → HasClients run clients
  clients_begin view files h run clients at acked are id = are id ∙ ap (λ (xs : List Session). event_at id id (acked_positions xs)) (sessions_are view files h run at) ∙ ap (λ (ps : List Position). event_at id id ps) (sym acked)

  -- ---- an item more

  -- what a crash leaves while an item is stored
  gains : (name name' : List ℕ) (log : List Item) (item : Item) (v w : View) → IsLog plain_form log → IsLog plain_form (log ++ item ∷ []) → name ≡ name'
      → LeavesOnly v w (StandsOrGains catalog_decision name log item) → LeavesOnly v w (StandsEither name' log (log ++ item ∷ []))
  gains name name' log item v w is more same only = weaker v w _ _ only (λ image has. elim has [
    | inl s ↦ inl (plain_files name name' log is same image s)
    | inr s ↦ inr (plain_files name name' (log ++ item ∷ []) more same image s)
  ])

  -- and while none is
  keeps_log : (name name' : List ℕ) (log : List Item) (v w : View) → IsLog plain_form log → name ≡ name' → LeavesOnly v w (λ image. StandsFor (hosted_form catalog_decision) name image log) → LeavesOnly v w (StandsEither name' log log)
  keeps_log name name' log v w is same only = weaker v w _ _ only (λ image s. inl (plain_files name name' log is same image s))

  module _ {D : Type 0} (view : D → View) (files : Files) (old new : HostState D Parts) (run : Run) (at : IsAt view files old run) (keeps : Keeps view new) (sound : IsSound (view new.disk))
      (name_is : new.parts.name ≡ old.parts.name) (size_is : new.size ≡ old.size) where
    logged : IsLog plain_form run.log
    logged = at.rest.logged

    model : IsAsPlain catalog_decision run.log
    model = as_model run.log logged

    file_admits : host_admits_file old.parts ≡ admits_file run.layout
    file_admits = λ i. refused_if (sym at.file_is i && nat_le index_limit (ap (λ (l : Layout). l.greatest) at.layout_is i)) (GenEnd (ap (λ (l : Layout). l.greatest) at.layout_is i))

    module _ (item : Item) where
      -- it was stored
      pub made_stored : (this : Act) → this.does ≡ Stores (item ∷ []) → StandsAt catalog_decision view cells_of new (run.log ++ item ∷ [])
          → layout_in (view new.disk) new.parts ≡ with_entry old.size (layout_in (view old.disk) old.parts)
          → confirmed_positions new.core.sessions.beside ≡ confirmed_after ((hosted cells_of old.core).last + 1) item (confirmed_positions old.core.sessions.beside)
          → LeavesOnly (view old.disk) (view new.disk) (StandsOrGains catalog_decision old.parts.name run.log item) → IsMade view files old new run this
      made_stored this does stands layout positions moments = made (subst P (sym does) (there, only))
        where
          next : Run
          next = changed files.size run (Stores (item ∷ []))

          more : IsLog plain_form (run.log ++ item ∷ [])
          more = from_hosted (run.log ++ item ∷ []) stands.log

          there : IsAt view files new next
          there = is_at view files new keeps sound next (name_is ∙ at.name_is) (size_is ∙ at.size_is) stands more
              (layout ∙ (λ i. with_entry (at.size_is i) (at.layout_is i)))
              (positions ∙ (λ i. confirmed_after (at.last_is i + 1) item (at.confirmed_is i)))

          only : LeavesOnly (view old.disk) (view new.disk) (StandsEither files.name run.log next.log)
          only = gains old.parts.name files.name run.log item (view old.disk) (view new.disk) logged more at.name_is moments

          P : Change → Type 0
          P change = IsAt view files new (changed files.size run change) × LeavesOnly (view old.disk) (view new.disk) (StandsEither files.name run.log (changed files.size run change).log)

          made : P this.does → IsMade view files old new run this
          made both = record { at = both.0; any_moment = both.1; offered = offers_nothing files run this (Stores (item ∷ [])) (stored_offered files run (item ∷ [])) does }

      -- it was stored or not
      pub cut_stored : (ending : Ending) → (ending ≡ DiskFault) ⊎ (ending ≡ NoMemory) → IsEmptyWhereNone (view new.disk) old.parts.name → is_admitted (folded run.log) item ≡ true → ItemFits item
          → LeavesOnly (view old.disk) (view new.disk) (StandsOrGains catalog_decision old.parts.name run.log item) → IsCut files (view old.disk) (view new.disk) run (Stores (item ∷ [])) ending
      cut_stored ending ending_is empty here fits moments =
          let more = logged_more run.log item logged here fits in
          record {
            ending_is = ending_is;
            sound = sound;
            logged = more;
            empty = subst (λ (n : List ℕ). IsEmptyWhereNone (view new.disk) n) at.name_is empty;
            any_moment = gains old.parts.name files.name run.log item (view old.disk) (view new.disk) logged more at.name_is moments;
          }

    -- no item was on its way
    pub cut_still : (ending : Ending) → (ending ≡ DiskFault) ⊎ (ending ≡ NoMemory) → IsEmptyWhereNone (view new.disk) old.parts.name
        → LeavesOnly (view old.disk) (view new.disk) (λ image. StandsFor (hosted_form catalog_decision) old.parts.name image run.log) → (change : Change) → (changed files.size run change).log ≡ run.log → IsCut files (view old.disk) (view new.disk) run change ending
    cut_still ending ending_is empty moments change same = record {
      ending_is = ending_is;
      sound = sound;
      logged = subst (IsLog plain_form) (sym same) logged;
      empty = subst (λ (n : List ℕ). IsEmptyWhereNone (view new.disk) n) at.name_is empty;
      any_moment = subst (λ (l : List Item). LeavesOnly (view old.disk) (view new.disk) (StandsEither files.name run.log l)) (sym same) (keeps_log old.parts.name files.name run.log (view old.disk) (view new.disk) logged at.name_is moments);
    }

    -- ---- an offer

    module _ (one : Offer) where
      abbrev host_admission : Admission
      host_admission = admits_stored (hosted_admits catalog_decision (hosted cells_of old.core) one) old.parts

      pub admission_is : host_admission ≡ admission run one
      admission_is =
          let state : hosted_admits catalog_decision (hosted cells_of old.core) one ≡ admits (folded run.log) one = ap (λ (s : Hosted). hosted_admits catalog_decision s one) at.stands.state ∙ model.same_admission one in
          λ i. first_refusal (state i ∷ file_admits i ∷ [])

      abbrev host_body : Body
      host_body = (hosted_entry catalog_decision (hosted cells_of old.core) (Offered one)).body

      body_is : host_body ≡ (entry_of (folded run.log) (Offered one)).body
      body_is = ap (λ (s : Hosted). (hosted_entry catalog_decision s (Offered one)).body) at.stands.state ∙ ap (λ (e : Entry). e.body) (model.same_entry (Offered one))

      printed_as : (index : ℕ) (body : Body) → printed_of (answer_of index body) ≡ stored_as index body
      printed_as index (bodies.Register timeout) = refl
      printed_as index (bodies.Alive session seq event) = refl
      printed_as index (bodies.Close session expired) = refl
      printed_as index bodies.Tick = refl
      printed_as index (bodies.Command session seq effect reply) = refl

      -- an answer by this admission
      abbrev Told : Admission → Printed → Type 0
      Told adm printed = IsTold view files old new run (answer_by adm run one) printed

      stored_told : (answer : HostAnswer) → host_admission ≡ Admitted → answer ≡ answer_of ((hosted cells_of old.core).last + 1) host_body → StandsAt catalog_decision view cells_of new (run.log ++ Offered one ∷ [])
          → layout_in (view new.disk) new.parts ≡ with_entry old.size (layout_in (view old.disk) old.parts)
          → confirmed_positions new.core.sessions.beside ≡ confirmed_after ((hosted cells_of old.core).last + 1) (Offered one) (confirmed_positions old.core.sessions.beside)
          → LeavesOnly (view old.disk) (view new.disk) (StandsOrTakes catalog_decision old.parts.name run.log (Offered one) host_admission) → Told (admission run one) (printed_of answer)
      stored_told answer here is stands layout positions moments =
          let text : printed_of answer ≡ stored_as (length run.log + 1) (entry_of (folded run.log) (Offered one)).body = ap printed_of is ∙ printed_as _ host_body ∙ (λ i. stored_as (at.last_is i + 1) (body_is i)) in
          let gained = subst (λ (a : Admission). LeavesOnly (view old.disk) (view new.disk) (StandsOrTakes catalog_decision old.parts.name run.log (Offered one) a)) here moments in
          subst (λ (a : Admission). Told a (printed_of answer)) (sym here ∙ admission_is)
          (record { line_is = ap (λ (p : Printed). printed_text p ∷ []) (sym text); made = made_stored (Offered one) (answer_by Admitted run one) refl stands layout positions gained })

      same_told : (adm : Admission) (printed : Printed) → host_admission ≡ adm → new ≡ old → (answer_by adm run one).lines ≡ printed_text printed ∷ [] → (answer_by adm run one).does ≡ Nothing → Told (admission run one) printed
      same_told adm printed here same line does =
          subst (λ (a : Admission). Told a printed) (sym here ∙ admission_is)
          (record { line_is = line; made = subst (λ (h : HostState D Parts). IsMade view files old h run (answer_by adm run one)) (sym same) (made_nothing view files old old run (answer_by adm run one) at does) })

      pub offer_answered : (result : Result HostAnswer HostError) → IsAnswer old.stopped host_admission ((hosted cells_of old.core).last + 1) host_body result
          → IfOk result (λ _. OnAnswer result (new ≡ old) (new.stopped ≡ false)) → IfErr result (AfterError cells_of old new)
          → OnAnswer result (StandsAt catalog_decision view cells_of new run.log) (StandsAt catalog_decision view cells_of new (run.log ++ Offered one ∷ []))
          → OnAnswer result (Unit {0}) (layout_in (view new.disk) new.parts ≡ with_entry old.size (layout_in (view old.disk) old.parts))
          → OnAnswer result (Unit {0}) (confirmed_positions new.core.sessions.beside ≡ confirmed_after ((hosted cells_of old.core).last + 1) (Offered one) (confirmed_positions old.core.sessions.beside))
          → LeavesOnly (view old.disk) (view new.disk) (StandsOrTakes catalog_decision old.parts.name run.log (Offered one) host_admission)
          → IfOk (offer_told result) (Told (admission run one))
      offer_answered (Ok (answers.Session index)) is repeated after stands layout positions moments = stored_told (answers.Session index) is.1 is.2 stands layout positions moments
      offer_answered (Ok (answers.Done index)) is repeated after stands layout positions moments = stored_told (answers.Done index) is.1 is.2 stands layout positions moments
      offer_answered (Ok (answers.Replied index reply)) is repeated after stands layout positions moments = stored_told (answers.Replied index reply) is.1 is.2 stands layout positions moments
      offer_answered (Ok (answers.Repeat reply)) is repeated after stands layout positions moments = same_told (Repeats reply) (prints.Repeat reply) is.1 repeated refl refl
      offer_answered (Err errors.Stopped) is repeated after stands layout positions moments = tt
      offer_answered (Err (errors.Refused why)) is repeated after stands layout positions moments = same_told (Refused why) (prints.Refused why) is.1 after refl refl
      offer_answered (Err errors.NoMemory) is repeated after stands layout positions moments = tt
      offer_answered (Err errors.Disk) is repeated after stands layout positions moments = tt

      -- what is admitted by the files too is admitted by the state
      admitted_first : (a b : Admission) → first_refusal (a ∷ b ∷ []) ≡ Admitted → is_admission a ≡ true
      admitted_first Admitted b e = refl
      admitted_first (Repeats reply) b e = absurd (cc)
      admitted_first (Refused why) b e = absurd (cc)

      cut_by : (ending : Ending) → (ending ≡ DiskFault) ⊎ (ending ≡ NoMemory) → OfferFits one → IsEmptyWhereNone (view new.disk) old.parts.name → (adm : Admission) → admission run one ≡ adm
          → LeavesOnly (view old.disk) (view new.disk) (StandsOrTakes catalog_decision old.parts.name run.log (Offered one) adm)
          → IsCut files (view old.disk) (view new.disk) run (answer_by adm run one).does ending
      cut_by ending ending_is fits empty Admitted here moments =
          cut_stored (Offered one) ending ending_is empty (admitted_first (admits (folded run.log) one) (admits_file run.layout) here) fits moments
      cut_by ending ending_is fits empty (Repeats reply) here moments = cut_still ending ending_is empty moments Nothing refl
      cut_by ending ending_is fits empty (Refused why) here moments = cut_still ending ending_is empty moments Nothing refl

      pub offer_cut : OfferFits one → IsEmptyWhereNone (view new.disk) old.parts.name → LeavesOnly (view old.disk) (view new.disk) (StandsOrTakes catalog_decision old.parts.name run.log (Offered one) host_admission)
          → (result : Result HostAnswer HostError) → IfErr (offer_told result) (IsCut files (view old.disk) (view new.disk) run (answer_by (admission run one) run one).does)
      offer_cut fits empty moments result = go result
        where
          only : LeavesOnly (view old.disk) (view new.disk) (StandsOrTakes catalog_decision old.parts.name run.log (Offered one) (admission run one))
          only = subst (λ (a : Admission). LeavesOnly (view old.disk) (view new.disk) (StandsOrTakes catalog_decision old.parts.name run.log (Offered one) a)) admission_is moments

          go : (result : Result HostAnswer HostError) → IfErr (offer_told result) (IsCut files (view old.disk) (view new.disk) run (answer_by (admission run one) run one).does)
          go (Ok answer) = tt
          go (Err errors.Stopped) = cut_by NoMemory (inr refl) fits empty (admission run one) refl only
          go (Err (errors.Refused why)) = tt
          go (Err errors.NoMemory) = cut_by NoMemory (inr refl) fits empty (admission run one) refl only
          go (Err errors.Disk) = cut_by DiskFault (inl refl) fits empty (admission run one) refl only

    -- ---- an expiry

    module _ (time : ℕ) where
      abbrev host_expiry : Expiry
      host_expiry = hosted_expires (hosted cells_of old.core) time

      state_expiry : host_expiry ≡ expires (folded run.log) time
      state_expiry = ap (λ (s : Hosted). hosted_expires s time) at.stands.state ∙ model.same_expiry time

      stored_same : (e : Expiry) → expiry_stored e old.parts ≡ expiry_in run.layout e
      stored_same (Expires session) = λ i. if_filed (file_admits i) session
      stored_same Nobody = refl
      stored_same (Not_now why) = refl

      pub expiry_is : expiry_stored host_expiry old.parts ≡ expiry run time
      expiry_is = stored_same host_expiry ∙ ap (expiry_in run.layout) state_expiry

      abbrev Went : Expiring → Type 0
      Went who = IsExpiring view files old new run time who

      of_filed : (e : Expiry) (session : ℕ) → e ≡ Expires session → host_admits_file old.parts ≡ Admitted → expiry_stored e old.parts ≡ Expires session
      of_filed e session is there = ap (λ (x : Expiry). expiry_stored x old.parts) is ∙ ap (λ (a : Admission). if_filed a session) there

      of_nobody : (e : Expiry) → e ≡ Nobody → expiry_stored e old.parts ≡ Nobody
      of_nobody e is = ap (λ (x : Expiry). expiry_stored x old.parts) is

      of_refused : (e : Expiry) (why : Refusal) → expiry_refusal e old.parts ≡ Refused why → expiry_stored e old.parts ≡ Not_now why
      of_refused (Expires session) why is = ap (λ (a : Admission). if_filed a session) is
      of_refused Nobody why is = absurd (cc)
      of_refused (Not_now other) why is = (cc)

      pub expiry_answered : (result : Result (Option (ℕ × ℕ)) HostError) → IsExpiry old.stopped host_expiry old.parts ((hosted cells_of old.core).last + 1) result
          → IfOk result (λ _. OnExpiry result (new ≡ old) (λ _. new.stopped ≡ false)) → IfErr result (AfterError cells_of old new)
          → OnExpiry result (StandsAt catalog_decision view cells_of new run.log) (λ session. StandsAt catalog_decision view cells_of new (run.log ++ Expired time session ∷ []))
          → OnExpiry result (Unit {0}) (λ _. layout_in (view new.disk) new.parts ≡ with_entry old.size (layout_in (view old.disk) old.parts))
          → OnExpiry result (Unit {0}) (λ session. confirmed_positions new.core.sessions.beside ≡ confirmed_after ((hosted cells_of old.core).last + 1) (Expired time session) (confirmed_positions old.core.sessions.beside))
          → LeavesOnly (view old.disk) (view new.disk) (StandsOrExpires catalog_decision old.parts.name run.log time (expiry_stored host_expiry old.parts))
          → IfOk (expiry_told result) Went
      expiry_answered (Ok None) is same after stands layout positions moments = (sym expiry_is ∙ of_nobody host_expiry is.1, same)
      expiry_answered (Ok (Some one)) is same after stands layout positions moments =
          let filed = of_filed host_expiry one.1 is.1 is.2 in
          let gained = subst (λ (e : Expiry). LeavesOnly (view old.disk) (view new.disk) (StandsOrExpires catalog_decision old.parts.name run.log time e)) filed moments in (
            sym expiry_is ∙ filed,
            record {
              line_is = ap (λ (n : ℕ). printed_text (prints.Expired n one.1) ∷ []) (sym (is.3 ∙ ap (λ (n : ℕ). n + 1) at.last_is));
              made = made_stored (Expired time one.1) (expired_answer run time one.1) refl stands layout positions gained;
            },
          )
      expiry_answered (Err errors.Stopped) is same after stands layout positions moments = tt
      expiry_answered (Err (errors.Refused why)) is same after stands layout positions moments = (sym expiry_is ∙ of_refused host_expiry why is.1, after)
      expiry_answered (Err errors.NoMemory) is same after stands layout positions moments = tt
      expiry_answered (Err errors.Disk) is same after stands layout positions moments = tt

      cut_expiry : (ending : Ending) → (ending ≡ DiskFault) ⊎ (ending ≡ NoMemory) → IsUnsigned time → LogsAreSound → IsEmptyWhereNone (view new.disk) old.parts.name → (e : Expiry) → expiry run time ≡ e
          → LeavesOnly (view old.disk) (view new.disk) (StandsOrExpires catalog_decision old.parts.name run.log time e) → IsCut files (view old.disk) (view new.disk) run (change_of e time) ending
      cut_expiry ending ending_is small sounds empty (Expires session) here moments =
          let there : expires (folded run.log) time ≡ Expires session = expires_when run.layout (expires (folded run.log) time) session here in
          let fold = sounds catalog_decision run.log catalog_lawful logged.fits (as_hosted run.log logged).admitted in
          let past : AllByRecursion (IsSessionSound (hosted_folded catalog_decision run.log).last) (hosted_folded catalog_decision run.log).sessions = fold.sound.sessions_are in
          let past' : AllByRecursion (IsSessionSound (folded run.log).last) (folded run.log).sessions = subst (λ (h : Hosted). AllByRecursion (IsSessionSound h.last) h.sessions) model.same_fold past in
          let due = due_session (folded run.log).last (folded run.log).now (folded run.log).sessions time session there in
          let le = id_past (folded run.log).last time session (folded run.log).sessions past' due in
          let top : (folded run.log).last ≤ index_limit = subst (λ (h : Hosted). h.last ≤ index_limit) model.same_fold fold.sound.last_in_range in
          cut_stored (Expired time session) ending ending_is empty
          (ap (is_expiry_of session) there ∙ nat_eq_equiv.refl session) (small, omega (arith, le, top)) moments
      cut_expiry ending ending_is small sounds empty Nobody here moments = cut_still ending ending_is empty moments Nothing refl
      cut_expiry ending ending_is small sounds empty (Not_now why) here moments = cut_still ending ending_is empty moments Nothing refl

      pub expiry_cut : IsUnsigned time → LogsAreSound → IsEmptyWhereNone (view new.disk) old.parts.name
          → LeavesOnly (view old.disk) (view new.disk) (StandsOrExpires catalog_decision old.parts.name run.log time (expiry_stored host_expiry old.parts))
          → (result : Result (Option (ℕ × ℕ)) HostError) → IfErr (expiry_told result) (IsCut files (view old.disk) (view new.disk) run (change_of (expiry run time) time))
      expiry_cut small sounds empty moments result = go result
        where
          only : LeavesOnly (view old.disk) (view new.disk) (StandsOrExpires catalog_decision old.parts.name run.log time (expiry run time))
          only = subst (λ (e : Expiry). LeavesOnly (view old.disk) (view new.disk) (StandsOrExpires catalog_decision old.parts.name run.log time e)) expiry_is moments

          go : (result : Result (Option (ℕ × ℕ)) HostError) → IfErr (expiry_told result) (IsCut files (view old.disk) (view new.disk) run (change_of (expiry run time) time))
          go (Ok None) = tt
          go (Ok (Some one)) = tt
          go (Err errors.Stopped) = cut_expiry NoMemory (inr refl) small sounds empty (expiry run time) refl only
          go (Err (errors.Refused why)) = tt
          go (Err errors.NoMemory) = cut_expiry NoMemory (inr refl) small sounds empty (expiry run time) refl only
          go (Err errors.Disk) = cut_expiry DiskFault (inl refl) small sounds empty (expiry run time) refl only

    -- ---- the log is opened again

    pub reopened : StandsAt catalog_decision view cells_of new run.log → layout_in (view new.disk) new.parts ≡ alone (layout_in (view old.disk) old.parts) → ConfirmsAcked new.core.sessions
        → LeavesOnly (view old.disk) (view new.disk) (λ image. StandsFor (hosted_form catalog_decision) old.parts.name image run.log) → IsTold view files old new run (reopening run) (prints.Opened (hosted cells_of new.core).last)
    reopened stands layout confirmed moments = record {
      line_is = ap (λ (n : ℕ). printed_text (prints.Opened n) ∷ []) (sym (keeps.last run.log stands));
      made = record {
        at = is_at view files new keeps sound (changed files.size run Reopens) (name_is ∙ at.name_is) (size_is ∙ at.size_is) stands logged (layout ∙ ap alone at.layout_is)
            (confirmed ∙ ap (λ (h : Hosted). acked_positions h.sessions) (stands.state ∙ model.same_fold));
        any_moment = keeps_log old.parts.name files.name run.log (view old.disk) (view new.disk) logged at.name_is moments;
        offered = offers_nothing files run (reopening run) Reopens (reopened_offered files run) refl;
      };
    }

    pub reopen_cut : (ending : Ending) → (ending ≡ DiskFault) ⊎ (ending ≡ NoMemory) → IsEmptyWhereNone (view new.disk) old.parts.name
        → LeavesOnly (view old.disk) (view new.disk) (λ image. StandsFor (hosted_form catalog_decision) old.parts.name image run.log) → IsCut files (view old.disk) (view new.disk) run Reopens ending
    reopen_cut ending ending_is empty moments = cut_still ending ending_is empty moments Reopens refl

-- fewer sessions are open where one expired, whatever the disk tells
pub told_fewer : {D : Type 0} (old new : HostState D Parts) (time : ℕ) (result : Result (Option (ℕ × ℕ)) HostError) → IsExpiry old.stopped (hosted_expires (hosted cells_of old.core) time) old.parts ((hosted cells_of old.core).last + 1) result
    → OnExpiry result (Unit {0}) (λ session. hosted cells_of new.core ≡ replay_entry (hosted_told catalog_decision) 0 (hosted cells_of old.core) ((hosted cells_of old.core).last + 1, record { time = time; body = bodies.Close session true }))
    → IfOk (expiry_told result) (λ who. HasFewer who (length old.core.sessions.sessions) (length new.core.sessions.sessions))
told_fewer old new time (Ok None) is state = tt
told_fewer old new time (Ok (Some one)) is state =
    let s = hosted cells_of old.core in
    let due = due_session s.last s.now s.sessions time one.1 is.1 in
    let less = fewer_due time s.sessions one.1 due in
    let same = ap (λ (h : Hosted). length h.sessions) state ∙ length_replayed (s.last + 1) (hosted_told catalog_decision s.cells (s.last + 1) (bodies.Close one.1 true)) (filter (λ (x : Session). not (x.id == one.1)) s.sessions) in
    omega (arith, same, less)
  where
    length_map : (f : Session → Session) (xs : List Session) → length (map f xs) ≡ length xs
    length_map f [] = refl
    length_map f (x ∷ xs) = ap suc (length_map f xs)

    length_replayed : (i : ℕ) (told : List (ℕ × Event)) (xs : List Session) → length (replay_batches 0 i told xs) ≡ length xs
    length_replayed i told xs = elim (nat_lt 0 i) as (λ b. length (cond b (map (λ x. pushed i (events_of x.id told) x) xs) xs) ≡ length xs) [ true ↦ length_map (λ x. pushed i (events_of x.id told) x) xs | false ↦ refl ]
told_fewer old new time (Err errors.Stopped) is state = tt
told_fewer old new time (Err (errors.Refused why)) is state = tt
told_fewer old new time (Err errors.NoMemory) is state = tt
told_fewer old new time (Err errors.Disk) is state = tt

-- ---- a call as a part of a run

module _ {D : Type 0} (view : D → View) (files : Files) (old new : HostState D Parts) (run : Run) where
  pub makes : (this : Act) (result : Result Printed Ending) → IfOk result (IsTold view files old new run this) → IfErr result (IsCut files (view old.disk) (view new.disk) run this.does) → Makes view files this old new run result
  makes this (Ok printed) told cut = told
  makes this (Err ending) told cut = cut

  pub expires_next : (time : ℕ) (result : Result Expiring Ending) → IfOk result (IsExpiring view files old new run time) → IfErr result (IsCut files (view old.disk) (view new.disk) run (change_of (expiry run time) time))
      → Expires_next view files time old new run result
  expires_next time (Ok who) told cut = told
  expires_next time (Err ending) told cut = cut
