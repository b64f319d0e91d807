-- What a client was served is answered.
use Rattle.std.proofs.Common.{◌≡◌, inl, inr, ℕ, cond, ◌==◌, Bool, true, false, List, [], ◌∷◌, ◌++◌, take, Option, Some, None, Result, Ok, Err, refl, ap, sym, ◌∙◌, subst}
use Rattle.std.proofs.lemmas.List.{append-nil}
use Rattle.std.specs.List.{find}
use Rattle.std.specs.Option.{option_map_or}
use Rattle.std.specs.Prelude.{OnOk}
use Rattle.disk_model.specs.View.{View, LeavesOnly}
use Rattle.disk_model.proofs.Moments.{started}
use Rattle.host_types.specs.declared.entry.Refusal.TheVariants.{NoSession}
use Rattle.script_text.specs.declared.printed.Printed.{Printed}
use Rattle.script_text.specs.declared.printed.Printed.TheVariants as prints
use Rattle.script_text.specs.Printing.{printed_line, printed_text}
use Rattle.log_model.specs.plain.Plain.{Session, session_of}
use Rattle.log_model.specs.plain.Step.{folded}
use Rattle.log_model.specs.serving.Batches.{Batch, Served, Taken, Nothing_new, Takes, Misses, serve, take_batch}
use Rattle.host_recovery.specs.HostState.{HostState}
use Rattle.resource_catalog.specs.Parts.{Parts}
use Rattle.copycat_tool.specs.declared.clients.Clients.{Clients}
use Rattle.copycat_tool.specs.declared.ending.Ending.{Ending}
use Rattle.copycat_tool.specs.declared.ending.Ending.TheVariants.{Done, Fault, TooLong, ReadFault, WriteFault, DiskFault, NoMemory, Damaged}
use Rattle.copycat_tool.specs.declared.taking.Next.TheVariants as nexts
use Rattle.copycat_tool.specs.Report.{Run, Act, Confirms, Nothing, after, changed, client_at, offers, printed_lines, take_answer, take_from, turn_answer}
use Rattle.copycat_tool.specs.Runs.{Did, Files, StandsEither, WereOffered}
use Rattle.copycat_tool.specs.RunStanding.{IsAt, IsAtRest}
use Rattle.copycat_tool.specs.ClientTakes.{ArePut, HasClients, HasNext, IsConfirmed, IsStill, Keeps, client_of, event_lines}
use Rattle.copycat_tool.specs.Turning.{Answers, IsPut}
use Rattle.copycat_tool.proofs.Following.{follows_one}
use Rattle.copycat_tool.proofs.Offering.{confirmed_offered, nothing_offered, offers_nothing, taken_offered}
use Rattle.copycat_tool.proofs.TakingLemmas.{at_confirmed, made_still, rest_as, still_more}
use Rattle.copycat_tool.proofs.TurnLemmas.{cut_in_lines, put_told}
use Rattle.copycat_tool.proofs.Writing.{wrote_as}

module _ {D : Type 0} (view : D → View) (files : Files) (old new : HostState D Parts) (run : Run) (this : Act) (at : IsAt view files old run) (still : IsStill old new)
    (same_log : (changed files.size run this.does).log ≡ run.log) (same_layout : (changed files.size run this.does).layout ≡ run.layout) (offered : WereOffered files run (this ∷ [])) where
  next : Run
  next = changed files.size run this.does

  did : Did files (this ∷ []) run (view old.disk) (view new.disk)
  did = follows_one files (view old.disk) (view new.disk) run this
      (subst (λ (w : View). LeavesOnly (view old.disk) w (StandsEither files.name run.log (changed files.size run this.does).log)) (ap view (sym still.disk))
      (started (view old.disk) (StandsEither files.name run.log (changed files.size run this.does).log) at.rest.sound (λ image may. inl (at.rest.kept image may))))
      offered

  at_rest : IsAtRest files (view new.disk) (changed files.size run this.does)
  at_rest = rest_as view files run (changed files.size run this.does) (view old.disk) (view new.disk) (ap view still.disk) same_log same_layout at.rest

  -- its lines were written or not
  pub put_lines : (written written' : Option (List ℕ)) (sink sink' : ℕ) → {T : Type 0} (r : Result T Ending) → OnOk r (IsAt view files new (changed files.size run this.does)) → ArePut written written' sink sink' this.lines r → Answers view files (this ∷ []) old new run written written' r
  put_lines written written' sink sink' (Ok x) there put = record { at = there; did = did; wrote = wrote_as written written' _ _ (sym (append-nil (printed_lines this.lines))) put }
  put_lines written written' sink sink' (Err WriteFault) there put = λ rest. record {
    text = take put.0.0 (printed_lines this.lines);
    wrote = put.0.2;
    ended = cut_in_lines files run this (view old.disk) (view new.disk) WriteFault _ refl at_rest did rest (record { next = this; behind = rest.acts; is_next = refl; count = put.0.0; not_all = put.0.1; part_is = refl }, refl);
  }
  put_lines written written' sink sink' (Err NoMemory) there (inl none) = λ rest. record {
    text = [];
    wrote = none;
    ended = cut_in_lines files run this (view old.disk) (view new.disk) NoMemory _ refl at_rest did rest (inl refl);
  }
  put_lines written written' sink sink' (Err NoMemory) there (inr some) = λ rest. record {
    text = printed_lines (take some.0 this.lines);
    wrote = some.2;
    ended = cut_in_lines files run this (view old.disk) (view new.disk) NoMemory _ refl at_rest did rest (inr (record { next = this; behind = rest.acts; is_next = refl; count = some.0; not_all = some.1; part_is = refl }, refl));
  }
  put_lines written written' sink sink' (Err Done) there put = absurd put
  put_lines written written' sink sink' (Err (Fault n)) there put = absurd put
  put_lines written written' sink sink' (Err TooLong) there put = absurd put
  put_lines written written' sink sink' (Err ReadFault) there put = absurd put
  put_lines written written' sink sink' (Err DiskFault) there put = absurd put
  put_lines written written' sink sink' (Err (Damaged base generation at)) there put = absurd put

  -- its one line was
  put_line : (printed : Printed) → this.lines ≡ printed_text printed ∷ [] → IsAt view files new (changed files.size run this.does) → (written written' : Option (List ℕ)) (sink sink' : ℕ) → {T : Type 0} (r : Result T Ending) → IsPut written written' sink sink' (printed_line printed) r
      → Answers view files (this ∷ []) old new run written written' r
  put_line printed line there written written' sink sink' r put =
      put_told view files old new run this written written' sink sink' printed (record { line_is = line; made = made_still view files old new run this at still there same_log offered }) r put

-- the act, by what the client is served
act_is : (run : Run) (session last : ℕ) (x : Session) (served : Served) → session_of session (folded run.log) ≡ Some x → last ≡ client_at run session → serve last (offers run session x) ≡ served → take_answer run session ≡ turn_answer run session served
act_is run session last x served opened same is =
    ap (λ (o : Option Session). take_from run session o) opened ∙ ap (λ (s : Served). turn_answer run session s) (ap (λ (n : ℕ). serve n (offers run session x)) (sym same) ∙ is)

module _ {D : Type 0} (view : D → View) (files : Files) (session : ℕ) (old mid : HostState D Parts) (run : Run) (last last' : ℕ) (at : IsAt view files old run) (same : last ≡ client_at run session) (still : IsStill old mid) (written written' : Option (List ℕ)) (sink sink' : ℕ) where
  pub nothing_answered : HasNext view files session old mid run last last' nexts.Nothing → {T : Type 0} (r : Result T Ending) → IsPut written written' sink sink' (printed_line (prints.Nothing session)) r → Answers view files (take_answer run session ∷ []) old mid run written written' r
  nothing_answered n r put =
      let served : Served = record { confirmed = n.known; turn = Nothing_new } in
      subst (λ (a : Act). Answers view files (a ∷ []) old mid run written written' r) (sym (act_is run session last n.opened served n.is_open same n.is))
      (put_line view files old mid run (turn_answer run session served) at still refl refl (offers_nothing files run (turn_answer run session served) (Confirms session n.known None) (confirmed_offered files run session n.known) refl)
      (prints.Nothing session) refl n.at written written' sink sink' r put)

  pub missed_answered : (l a : ℕ) → HasNext view files session old mid run last last' (nexts.Missed l a) → {T : Type 0} (r : Result T Ending) → IsPut written written' sink sink' (printed_line (prints.Missed session l a)) r
      → Answers view files (take_answer run session ∷ []) old mid run written written' r
  missed_answered l a n r put =
      let b = n.is.0 in
      let served : Served = record { confirmed = n.known; turn = Misses b } in
      let line : (turn_answer run session served).lines ≡ printed_text (prints.Missed session l a) ∷ [] = λ i. printed_text (prints.Missed session (sym (n.is.2 ∙ same) i) (sym n.is.3 i)) ∷ [] in
      subst (λ (a : Act). Answers view files (a ∷ []) old mid run written written' r) (sym (act_is run session last n.opened served n.is_open same n.is.1))
      (put_line view files old mid run (turn_answer run session served) at still refl refl (offers_nothing files run (turn_answer run session served) (Confirms session n.known None) (confirmed_offered files run session n.known) refl)
      (prints.Missed session l a) line n.at written written' sink sink' r put)

  pub closed_answered : session_of session (folded run.log) ≡ None → IsAt view files mid run → {T : Type 0} (r : Result T Ending) → IsPut written written' sink sink' (printed_line (prints.Refused (NoSession session))) r → Answers view files (take_answer run session ∷ []) old mid run written written' r
  closed_answered none there r put =
      let act : Act = take_from run session None in
      subst (λ (a : Act). Answers view files (a ∷ []) old mid run written written' r) (sym (ap (λ (o : Option Session). take_from run session o) none))
      (put_line view files old mid run act at still refl refl (offers_nothing files run act Nothing (nothing_offered files run) refl) (prints.Refused (NoSession session)) refl there written written' sink sink' r put)

  module _ (n : HasNext view files session old mid run last last' nexts.Taken) (new : HostState D Parts) (more : IsStill mid new) where
    b : Batch
    b = n.is.0

    abbrev events : List ℕ
    events = n.known ++ n.is.0.index ∷ []

    there : IsConfirmed view session last' mid new → IsAt view files new (changed files.size run (Confirms session events (Some n.is.0)))
    there confirmed =
        let a = at_confirmed view files mid new run session n.is.0.index n.known n.at more (subst (λ (e : ℕ). IsConfirmed view session e mid new) n.is.3 confirmed) in
        record {
          name_is = a.name_is;
          size_is = a.size_is;
          stands = a.stands;
          last_is = a.last_is;
          layout_is = a.layout_is;
          file_is = a.file_is;
          confirmed_is = a.confirmed_is;
          rest = rest_as view files (changed files.size run (Confirms session events None)) (changed files.size run (Confirms session events (Some n.is.0))) (view new.disk) (view new.disk) refl refl refl a.rest;
        }

    on_ok : {T E : Type 0} (r : Result T E) (X Y : Type 0) → (X → Y) → OnOk r X → OnOk r Y
    on_ok (Ok x) X Y f y = f y
    on_ok (Err e) X Y f y = tt

    pub taken_answered : {T : Type 0} (r : Result T Ending) → OnOk r (IsConfirmed view session last' mid new) → ArePut written written' sink sink' (event_lines session n.is.0) r → Answers view files (take_answer run session ∷ []) old new run written written' r
    taken_answered r confirmed put =
        let served : Served = record { confirmed = events; turn = Takes n.is.0 } in
        subst (λ (a : Act). Answers view files (a ∷ []) old new run written written' r) (sym (act_is run session last n.opened served n.is_open same n.is.1))
        (put_lines view files old new run (turn_answer run session served) at (still_more old mid new still more) refl refl
        (offers_nothing files run (turn_answer run session served) (Confirms session events (Some n.is.0)) (taken_offered files run session events n.is.0 (subst (λ (l : ℕ). take_batch l n.is.0 ≡ Taken) same n.is.4) n.is.5) refl)
        written written' sink sink' r (on_ok r (IsConfirmed view session last' mid new) (IsAt view files new (changed files.size run (Confirms session events (Some n.is.0)))) there confirmed) put)

    -- and the clients are those of the run
    pub taken_clients : (clients clients' : Clients) → HasClients run clients → {T E : Type 0} (r : Result T E) → OnOk r (Keeps session last' clients clients') → OnOk r (HasClients (after files.size run (take_answer run session ∷ [])) clients')
    taken_clients clients clients' are r kept =
        let served : Served = record { confirmed = events; turn = Takes n.is.0 } in
        subst (λ (a : Act). OnOk r (HasClients (after files.size run (a ∷ [])) clients')) (sym (act_is run session last n.opened served n.is_open same n.is.1))
        (on_ok r (Keeps session last' clients clients') (HasClients (changed files.size run (Confirms session events (Some n.is.0))) clients') has kept)
      where
        by : (id : ℕ) (q : Bool) → cond q last' (client_of clients id) ≡ option_map_or (λ p. p.event) (cond q (Some (record { session = session; event = n.is.0.index })) (find (λ p. p.session == id) run.clients)) id
        by id true = n.is.3
        by id false = are id

        has : Keeps session last' clients clients' → HasClients (changed files.size run (Confirms session events (Some n.is.0))) clients'
        has kept id = kept id ∙ by id (session == id)

  -- where no batch was taken, they are as they were
  pub nothing_clients : (clients : Clients) → HasClients run clients → HasNext view files session old mid run last last' nexts.Nothing → {T E : Type 0} (r : Result T E) → OnOk r (HasClients (after files.size run (take_answer run session ∷ [])) clients)
  nothing_clients clients are n (Ok x) = subst (λ (a : Act). HasClients (after files.size run (a ∷ [])) clients) (sym (act_is run session last n.opened (record { confirmed = n.known; turn = Nothing_new }) n.is_open same n.is)) are
  nothing_clients clients are n (Err e) = tt

  pub missed_clients : (clients : Clients) → HasClients run clients → (l a : ℕ) → HasNext view files session old mid run last last' (nexts.Missed l a) → {T E : Type 0} (r : Result T E) → OnOk r (HasClients (after files.size run (take_answer run session ∷ [])) clients)
  missed_clients clients are l a n (Ok x) = subst (λ (a : Act). HasClients (after files.size run (a ∷ [])) clients) (sym (act_is run session last n.opened (record { confirmed = n.known; turn = Misses n.is.0 }) n.is_open same n.is.1)) are
  missed_clients clients are l a n (Err e) = tt

  pub closed_clients : (clients : Clients) → HasClients run clients → session_of session (folded run.log) ≡ None → {T E : Type 0} (r : Result T E) → OnOk r (HasClients (after files.size run (take_answer run session ∷ [])) clients)
  closed_clients clients are none (Ok x) = subst (λ (a : Act). HasClients (after files.size run (a ∷ [])) clients) (sym (ap (λ (o : Option Session). take_from run session o) none)) are
  closed_clients clients are none (Err e) = tt
