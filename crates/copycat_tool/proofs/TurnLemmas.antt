-- How acts follow one another, and how a run ends within one.
use Rattle.std.proofs.Common.{◌≡◌, inl, inr, ℕ, ◌<◌, true, List, [], ◌∷◌, ◌++◌, length, take, Option, Some, None, Result, Ok, Err, refl, ap, sym, ◌∙◌, subst, arith, append_assoc}
use Rattle.std.proofs.lemmas.List.{append-nil}
use Rattle.std.specs.Prelude.{OnOk}
use Rattle.disk_model.specs.View.{View, LeavesOnly}
use Rattle.disk_model.proofs.Moments.{started, has_now}
use Rattle.host_recovery.specs.HostState.{HostState}
use Rattle.resource_catalog.specs.Parts.{Parts}
use Rattle.script_text.specs.declared.printed.Printed.{Printed}
use Rattle.script_text.specs.Printing.{printed_text, printed_line}
use Rattle.copycat_tool.specs.declared.ending.Ending.{Ending}
use Rattle.copycat_tool.specs.declared.ending.Ending.TheVariants.{Done, Fault, TooLong, ReadFault, WriteFault, DiskFault, NoMemory, Damaged}
use Rattle.copycat_tool.specs.declared.lines.Command.{Command}
use Rattle.copycat_tool.specs.Script.{command}
use Rattle.copycat_tool.specs.Report.{Run, Act, Report, Change, Nothing, one, ends, in_front, answers_to, after, changed, printed, printed_lines}
use Rattle.copycat_tool.specs.Runs.{Did, Files, Ended, EndsAs, StandsEither, is_by_call}
use Rattle.copycat_tool.specs.RunStanding.{IsAt, IsAtRest, IsCut, IsMade}
use Rattle.copycat_tool.specs.Turning.{Answers, HasAnswered, HasEnded, HasEndedIn, HasRun, HasTurned, IsPut, Turns}
use Rattle.copycat_tool.specs.HostCalls.{IsTold}
use Rattle.copycat_tool.specs.ClientTakes.{HasClients}
use Rattle.copycat_tool.specs.declared.clients.Clients.{Clients}
use Rattle.copycat_tool.proofs.Offering.{none_offered, nothing_offered, offers_nothing}
use Rattle.copycat_tool.proofs.Following.{did_more, follows_one}
use Rattle.copycat_tool.proofs.Prefixes.{after-append, either_way, printed-append}
use Rattle.copycat_tool.proofs.Progress.{at_rest_in_order, did_nothing, stays, ends_after}
use Rattle.copycat_tool.proofs.Writing.{wrote_none, wrote_more, wrote_as}

-- what is said of two lists of acts in front of a report
in_front_of : (a b : List Act) (r : Report) → in_front a (in_front b r) ≡ in_front (a ++ b) r
in_front_of a b r = ap (λ (l : List Act). record { acts = l; ending = r.ending }) (sym (append_assoc a b r.acts))

-- ---- within one act

module _ (files : Files) (run : Run) where
  -- the call failed, and nothing that changes the log was under way
  pub cut_before : (v w : View) (ending : Ending) → IsCut files v w run Nothing ending → (told : Report) → Ended files run told v w [] ending
  cut_before v w ending cut told = elim cut.ending_is [
    | inl is ↦ subst (λ (e : Ending). Ended files run told v w [] e) (sym is) (at DiskFault refl refl)
    | inr is ↦ subst (λ (e : Ending). Ended files run told v w [] e) (sym is) (at NoMemory (inl refl) refl)
  ]
    where
      at : (e : Ending) → EndsAs e told 0 0 [] → is_by_call e ≡ true → Ended files run told v w [] e
      at e ends_as by_call = record {
        time = cut.any_moment.time;
        so = record {
          whole = 0;
          part = [];
          text_is = refl;
          sure = 0;
          stored = 0;
          not_behind = omega arith;
          perhaps = omega arith;
          one_ahead = omega arith;
          ends_as = ends_as;
          until = v.moment;
          by_now = cut.any_moment.time.later;
          follows = refl;
          since_then = cut.any_moment.each;
          at_exit = record {
            log = cut.logged;
            each = λ image may. either_way files.name files.size run Nothing image (has_now v w _ cut.sound cut.any_moment image may);
            empty = cut.empty;
          };
          layout = λ is. absurd (cc (is, by_call));
        };
        offered = none_offered files run;
      }

  module _ (this : Act) (v w : View) where
    abbrev next : Run
    next = changed files.size run this.does

    -- it was done or not, and none of its lines was written
    pub cut_short : (ending : Ending) → IsCut files v w run this.does ending → (rest : Report) → Ended files run (in_front (this ∷ []) rest) v w [] ending
    cut_short ending cut rest = elim cut.ending_is [
      | inl is ↦ subst (λ (e : Ending). Ended files run (in_front (this ∷ []) rest) v w [] e) (sym is) (at DiskFault refl refl)
      | inr is ↦ subst (λ (e : Ending). Ended files run (in_front (this ∷ []) rest) v w [] e) (sym is) (at NoMemory (inl refl) refl)
    ]
      where
        at : (e : Ending) → EndsAs e (in_front (this ∷ []) rest) 0 0 [] → is_by_call e ≡ true → Ended files run (in_front (this ∷ []) rest) v w [] e
        at e ends_as by_call = record {
          time = cut.any_moment.time;
          so = record {
            whole = 0;
            part = [];
            text_is = refl;
            sure = 0;
            stored = 1;
            not_behind = omega arith;
            perhaps = omega arith;
            one_ahead = omega arith;
            ends_as = ends_as;
            until = v.moment;
            by_now = cut.any_moment.time.later;
            follows = refl;
            since_then = cut.any_moment.each;
            at_exit = record {
              log = cut.logged;
              each = λ image may. either_way files.name files.size run this.does image (has_now v w _ cut.sound cut.any_moment image may);
              empty = cut.empty;
            };
            layout = λ is. absurd (cc (is, by_call));
          };
          offered = none_offered files run;
        }

    -- it was done, and not all of its lines were written
    pub cut_in_lines : (ending : Ending) (part : List ℕ) → is_by_call ending ≡ true → IsAtRest files w next → Did files (this ∷ []) run v w → (rest : Report) → EndsAs ending (in_front (this ∷ []) rest) 0 1 part
        → Ended files run (in_front (this ∷ []) rest) v w part ending
    cut_in_lines ending part by_call at_rest did rest ends_as = record {
      time = did.time;
      so = record {
        whole = 0;
        part = part;
        text_is = refl;
        sure = 1;
        stored = 1;
        not_behind = omega arith;
        perhaps = omega arith;
        one_ahead = omega arith;
        ends_as = ends_as;
        until = w.moment;
        by_now = omega arith;
        follows = did.follows;
        since_then = λ image left. inl (at_rest.kept image (at_rest.sound.only_now image left));
        at_exit = at_rest_in_order files next w at_rest;
        layout = λ is. absurd (cc (is, by_call));
      };
      offered = did.offered;
    }

-- ---- a call on the host, and its line

module _ {D : Type 0} (view : D → View) (files : Files) (old new : HostState D Parts) (run : Run) (this : Act) where
  -- where nothing is changed, nothing was done
  pub made_nothing : IsAt view files old run → this.does ≡ Nothing → IsMade view files old old run this
  made_nothing at is =
      let P : Change → Type 0 = λ c. IsAt view files old (changed files.size run c) × LeavesOnly (view old.disk) (view old.disk) (StandsEither files.name run.log (changed files.size run c).log) in
      let still : P Nothing = (at, started (view old.disk) (StandsEither files.name run.log run.log) at.rest.sound (λ image may. inl (at.rest.kept image may))) in
      let both : P this.does = subst P (sym is) still in
      record { at = both.0; any_moment = both.1; offered = offers_nothing files run this Nothing (nothing_offered files run) is }

  module _ (written written' : Option (List ℕ)) (sink sink' : ℕ) where
    -- it was done, and its line was printed or not
    pub put_told : (printed : Printed) → IsTold view files old new run this printed → {T : Type 0} (r : Result T Ending) → IsPut written written' sink sink' (printed_line printed) r
        → Answers view files (this ∷ []) old new run written written' r
    put_told printed told (Ok x) wrote = record {
      at = told.made.at;
      did = follows_one files (view old.disk) (view new.disk) run this told.made.any_moment told.made.offered;
      wrote = wrote_as written written' _ _ (ap (λ (l : List (List ℕ)). printed_lines l) (sym told.line_is) ∙ sym (append-nil (printed_lines this.lines))) (wrote_as written written' _ _ (sym (append-nil (printed_line printed))) wrote);
    }
    put_told printed told (Err WriteFault) put =
        let did = follows_one files (view old.disk) (view new.disk) run this told.made.any_moment told.made.offered in
        let line : printed_line printed ≡ printed_lines this.lines = sym (append-nil (printed_line printed)) ∙ ap (λ (l : List (List ℕ)). printed_lines l) (sym told.line_is) in
        λ rest. record {
          text = take put.0.0 (printed_lines this.lines);
          wrote = wrote_as written written' _ _ (ap (λ (l : List ℕ). take put.0.0 l) line) put.0.2;
          ended = cut_in_lines files run this (view old.disk) (view new.disk) WriteFault _ refl told.made.at.rest did rest
              (record { next = this; behind = rest.acts; is_next = refl; count = put.0.0; not_all = subst (λ (l : List ℕ). put.0.0 < length l) line put.0.1; part_is = refl }, refl);
        }
    put_told printed told (Err NoMemory) wrote =
        let did = follows_one files (view old.disk) (view new.disk) run this told.made.any_moment told.made.offered in
        λ rest. record {
          text = [];
          wrote = wrote;
          ended = cut_in_lines files run this (view old.disk) (view new.disk) NoMemory _ refl told.made.at.rest did rest (inl refl);
        }
    put_told printed told (Err Done) put = absurd put
    put_told printed told (Err (Fault n)) put = absurd put
    put_told printed told (Err TooLong) put = absurd put
    put_told printed told (Err ReadFault) put = absurd put
    put_told printed told (Err DiskFault) put = absurd put
    put_told printed told (Err (Damaged base generation at)) put = absurd put

-- the call failed
pub call_cut : {D : Type 0} (view : D → View) (files : Files) (old new : HostState D Parts) (run : Run) (this : Act) (ending : Ending) (written : Option (List ℕ)) → IsCut files (view old.disk) (view new.disk) run this.does ending
    → HasEnded files (this ∷ []) (view old.disk) (view new.disk) run written written ending
call_cut view files old new run this ending written cut rest = record { text = []; wrote = wrote_none written; ended = cut_short files run this (view old.disk) (view new.disk) ending cut rest }

-- no memory was left to look
pub look_cut : {D : Type 0} (view : D → View) (files : Files) (h : HostState D Parts) (run : Run) (this : Act) (ending : Ending) (written : Option (List ℕ)) → IsAt view files h run → ending ≡ NoMemory
    → HasEnded files (this ∷ []) (view h.disk) (view h.disk) run written written ending
look_cut view files h run this ending written at is = subst (HasEnded files (this ∷ []) (view h.disk) (view h.disk) run written written) (sym is)
    (λ rest. record { text = []; wrote = wrote_none written; ended = stays files run (in_front (this ∷ []) rest) (view h.disk) NoMemory at.rest (inl refl) (λ no. absurd (cc no)) })

-- what is told by an act that only looks
pub looked : {D : Type 0} (view : D → View) (files : Files) (h : HostState D Parts) (run : Run) (this : Act) → IsAt view files h run → this.does ≡ Nothing → (printed : Printed) → this.lines ≡ printed_text printed ∷ []
    → IsTold view files h h run this printed
looked view files h run this at does printed line = record { line_is = line; made = made_nothing view files h h run this at does }

-- ---- some acts, and then others

module _ {D : Type 0} (view : D → View) (files : Files) (done : List Act) (old mid : HostState D Parts) (run : Run) (written written' : Option (List ℕ)) (a : HasAnswered view files done old mid run written written') where
  pub then_answered : (more : List Act) (new : HostState D Parts) (written'' : Option (List ℕ)) → HasAnswered view files more mid new (after files.size run done) written' written'' → HasAnswered view files (done ++ more) old new run written written''
  then_answered more new written'' b = record {
    at = subst (IsAt view files new) (after-append files.size run done more) b.at;
    did = did_more files (view old.disk) (view mid.disk) (view new.disk) run done more a.did b.did;
    wrote = wrote_as written written'' _ _ (sym (printed-append done more)) (wrote_more written written' written'' (printed done) (printed more) a.wrote b.wrote);
  }

  pub then_run : (told : Report) (new : View) (ending : Ending) (written'' : Option (List ℕ)) → HasRun files told (view mid.disk) new (after files.size run done) written' written'' ending
      → HasRun files (in_front done told) (view old.disk) new run written written'' ending
  then_run told new ending written'' e = record {
    text = printed done ++ e.text;
    wrote = wrote_more written written' written'' (printed done) e.text a.wrote e.wrote;
    ended = ends_after files run done (view old.disk) (view mid.disk) a.did told new e.text ending e.ended;
  }

  pub then_ended : (more : List Act) (new : View) (ending : Ending) (written'' : Option (List ℕ)) → HasEnded files more (view mid.disk) new (after files.size run done) written' written'' ending
      → HasEnded files (done ++ more) (view old.disk) new run written written'' ending
  then_ended more new ending written'' e rest = subst (λ (r : Report). HasRun files r (view old.disk) new run written written'' ending) (in_front_of done more rest)
      (then_run (in_front more rest) new ending written'' (e rest))

-- no acts at all
pub nothing_answered : {D : Type 0} (view : D → View) (files : Files) (h : HostState D Parts) (run : Run) (written : Option (List ℕ)) → IsAt view files h run → HasAnswered view files [] h h run written written
nothing_answered view files h run written at = record { at = at; did = did_nothing files run (view h.disk) at.rest; wrote = wrote_none written }

-- ---- a line

module _ (files : Files) (line : List ℕ) (run : Run) (number : ℕ) (v : View) (at_rest : IsAtRest files v run) (written : Option (List ℕ)) where
  -- it isn't in the grammar
  pub faulty : None ≡ command line → HasEndedIn files line number v v run written written (Fault number)
  faulty none rest = record {
    text = [];
    wrote = wrote_none written;
    ended = subst (λ (t : Option Command). Ended files run (one files.size t run number rest) v v [] (Fault number)) none
        (stays files run (ends (Fault number)) v (Fault number) at_rest (record { ending_is = refl; all = refl; nothing_ahead = refl; no_part = refl }) (λ is. at_rest.laid_out));
  }

  -- no memory was left to read it
  pub unread : HasEndedIn files line number v v run written written NoMemory
  unread rest = record {
    text = [];
    wrote = wrote_none written;
    ended = stays files run (one files.size (command line) run number rest) v NoMemory at_rest (inl refl) (λ is. absurd (cc is));
  }

-- it is a command, which was answered, or within which the run ended
pub line_turned : {D : Type 0} (view : D → View) (files : Files) (line : List ℕ) (number : ℕ) (asked : Command) (old new : HostState D Parts) (run : Run) (written written' : Option (List ℕ)) (clients : Clients) → Some asked ≡ command line
    → {T : Type 0} (r : Result T Ending) → Answers view files (answers_to files.size run asked) old new run written written' r → OnOk r (HasClients (after files.size run (answers_to files.size run asked)) clients)
    → Turns view files line number old new run written written' clients r
line_turned view files line number asked old new run written written' clients is (Ok x) a are = record {
  acts = answers_to files.size run asked;
  is = λ number rest. ap (λ (t : Option Command). one files.size t run number rest) (sym is);
  answered = a;
  clients_are = are;
}
line_turned view files line number asked old new run written written' clients is (Err ending) e are = λ rest.
    subst (λ (t : Option Command). HasRun files (one files.size t run number rest) (view old.disk) (view new.disk) run written written' ending) is (e (rest (after files.size run (answers_to files.size run asked))))

-- the last line was answered
pub answered_all : {D : Type 0} (view : D → View) (files : Files) (line : List ℕ) (number : ℕ) (old new : HostState D Parts) (run : Run) (written written' : Option (List ℕ)) (clients : Clients) → HasTurned view files line old new run written written' clients
    → HasRun files (one files.size (command line) run number (λ _. ends Done)) (view old.disk) (view new.disk) run written written' Done
answered_all view files line number old new run written written' clients t =
    let w = view new.disk in
    let there = after files.size run t.acts in
    let at_end : HasRun files (ends Done) w w there written' written' Done = record {
      text = [];
      wrote = wrote_none written';
      ended = stays files there (ends Done) w Done t.answered.at.rest (record { ending_is = refl; all = refl; nothing_ahead = refl; no_part = refl }) (λ is. t.answered.at.rest.laid_out);
    } in
    subst (λ (r : Report). HasRun files r (view old.disk) w run written written' Done) (sym (t.is number (λ _. ends Done)))
    (then_run view files t.acts old new run written written' t.answered (ends Done) w Done written' at_end)
