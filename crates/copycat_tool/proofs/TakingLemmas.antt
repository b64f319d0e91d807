-- What a client takes of what its session is served.
use Rattle.std.proofs.Common.{◌≡◌, inl, ℕ, ◌≤◌, ◌<◌, cond, ◌==◌, nat_lt, Bool, true, false, List, [], ◌∷◌, ◌++◌, length, Option, Some, None, is_some, is_none, IsTrue, refl, ap, sym, ◌∙◌, subst, arith, ltb-true, ltb-false, append_assoc}
use Rattle.std.proofs.lemmas.List.{append-nil}
use Rattle.std.proofs.lemmas.Bool.{le-ltb}
use Rattle.std.specs.List.{find}
use Rattle.std.specs.Option.{option_map_or}
use Rattle.disk_model.specs.View.{View, LeavesOnly}
use Rattle.disk_model.proofs.Moments.{started}
use Rattle.log_model.specs.hosted.Hosted.{Hosted}
use Rattle.log_model.specs.hosted.PlainMachine.{HostsArePlain}
use Rattle.log_model.specs.plain.Admission.{Item}
use Rattle.log_model.specs.plain.Plain.{Session, session_of, session_in}
use Rattle.log_model.specs.plain.Step.{folded}
use Rattle.log_model.specs.serving.Batches.{Batch, Take, Taken, Repeated, Missed, Nothing_new, Takes, Misses, batches, last_after, serve, served_one, take_batch}
use Rattle.log_model.specs.serving.Positions.{Position, event_at, moved_to, position_changed, with_confirmed}
use Rattle.log_model.specs.serving.Serving.{IsOneOf, ServesInTurn, after_event, chained}
use Rattle.session_table.specs.Asked.{batch_at, served_in}
use Rattle.session_table.specs.Table.{Beside, IsOpen, confirmed_of, confirmed_positions, session_at}
use Rattle.host_core.specs.CoreState.{CoreState}
use Rattle.host_recovery.specs.HostState.{HostState}
use Rattle.host_recovery.specs.Logs.{IsLog, StandsFor, plain_form}
use Rattle.host_recovery.specs.Standing.{layout_in}
use Rattle.resource_catalog.specs.Catalog.{catalog_decision}
use Rattle.resource_catalog.specs.Parts.{Parts}
use Rattle.copycat_tool.specs.Report.{Run, Act, Confirms, changed, offers}
use Rattle.copycat_tool.specs.Runs.{Files, StandsEither, WereOffered}
use Rattle.copycat_tool.specs.RunStanding.{IsAt, IsAtRest, IsMade}
use Rattle.event_batches.specs.declared.client.Take.TheVariants as says
use Rattle.event_batches.specs.Taking.{answered}
use Rattle.copycat_tool.specs.declared.taking.Next.TheVariants as nexts
use Rattle.copycat_tool.specs.ClientTakes.{HasNext, IsConfirmed, IsStill}
use Rattle.copycat_tool.proofs.ClientLemmas.{last_taken_is, says_missed, says_taken}
use Rattle.copycat_tool.proofs.CallLemmas.{sessions_are}

-- ---- positions

pub confirmed_event : (id : ℕ) (bs : List Beside) → option_map_or (λ b. b.confirmed) (find (λ b. b.id == id) bs) 0 ≡ event_at 0 id (confirmed_positions bs)
confirmed_event id [] = refl
confirmed_event id (b ∷ bs) =
    elim (b.id == id) as (λ q. option_map_or (λ b. b.confirmed) (cond q (Some b) (find (λ b. b.id == id) bs)) 0 ≡ option_map_or (λ p. p.event) (cond q (Some (record { session = b.id; event = b.confirmed })) (find (λ p. p.session == id) (confirmed_positions bs))) 0) [
      | true ↦ refl
      | false ↦ confirmed_event id bs
    ]

confirmed_one_more : (id event : ℕ) (events : List ℕ) (ps : List Position) → position_changed id (moved_to event) (with_confirmed id events ps) ≡ with_confirmed id (events ++ event ∷ []) ps
confirmed_one_more id event [] ps = refl
confirmed_one_more id event (first ∷ events) ps = confirmed_one_more id event events (position_changed id (moved_to first) ps)

-- ---- a host that stays where it is

module _ {D : Type 0} (view : D → View) (files : Files) where
  pub rest_as : (run run' : Run) (v w : View) → w ≡ v → run'.log ≡ run.log → run'.layout ≡ run.layout → IsAtRest files v run → IsAtRest files w run'
  rest_as run run' v w same log layout rest =
      let here : IsAtRest files v run' = record {
        sound = rest.sound;
        logged = subst (λ (l : List Item). IsLog plain_form l) (sym log) rest.logged;
        kept = λ image may. subst (λ (l : List Item). StandsFor plain_form files.name image l) (sym log) (rest.kept image may);
        empty = rest.empty;
        laid_out = subst (λ (l : Rattle.log_model.specs.cleaning.Layout.Layout). Rattle.host_recovery.specs.FileLayout.LiesAlone files.name v.reading (Rattle.log_model.specs.cleaning.Layout.alone l)) (sym layout) rest.laid_out;
      } in
      subst (λ (x : View). IsAtRest files x run') (sym same) here

  -- but for what its sessions have confirmed
  pub at_confirmed : (old new : HostState D Parts) (run : Run) (session event : ℕ) (known : List ℕ) → IsAt view files old (changed files.size run (Confirms session known None)) → IsStill old new → IsConfirmed view session event old new
      → IsAt view files new (changed files.size run (Confirms session (known ++ event ∷ []) None))
  at_confirmed old new run session event known at still confirmed = record {
    name_is = ap (λ p. p.name) still.parts ∙ at.name_is;
    size_is = still.size ∙ at.size_is;
    stands = confirmed.stands run.log at.stands;
    last_is = ap (λ (s : Hosted). s.last) confirmed.state ∙ at.last_is;
    layout_is = (λ i. layout_in (view (still.disk i)) (still.parts i)) ∙ at.layout_is;
    file_is = at.file_is ∙ sym (ap (λ p. is_none p.tail) still.parts);
    confirmed_is = confirmed.positions ∙ ap (λ (ps : List Position). position_changed session (moved_to event) ps) at.confirmed_is ∙ confirmed_one_more session event known run.confirmed;
    rest = rest_as (changed files.size run (Confirms session known None)) (changed files.size run (Confirms session (known ++ event ∷ []) None)) (view old.disk) (view new.disk) (ap view still.disk) refl refl at.rest;
  }

  -- nothing was confirmed yet
  at_first : (h : HostState D Parts) (run : Run) (session : ℕ) → IsAt view files h run → IsAt view files h (changed files.size run (Confirms session [] None))
  at_first h run session at = record { name_is = at.name_is; size_is = at.size_is; stands = at.stands; last_is = at.last_is; layout_is = at.layout_is; file_is = at.file_is; confirmed_is = at.confirmed_is; rest = rest_as run (changed files.size run (Confirms session [] None)) (view h.disk) (view h.disk) refl refl refl at.rest }

  at_back : (h : HostState D Parts) (run : Run) (session : ℕ) → IsAt view files h (changed files.size run (Confirms session [] None)) → IsAt view files h run
  at_back h run session at = record { name_is = at.name_is; size_is = at.size_is; stands = at.stands; last_is = at.last_is; layout_is = at.layout_is; file_is = at.file_is; confirmed_is = at.confirmed_is; rest = rest_as (changed files.size run (Confirms session [] None)) run (view h.disk) (view h.disk) refl refl refl at.rest }

  -- what is done to a host that stays where it is
  pub made_still : (old new : HostState D Parts) (run : Run) (this : Act) → IsAt view files old run → IsStill old new → IsAt view files new (changed files.size run this.does) → (changed files.size run this.does).log ≡ run.log → WereOffered files run (this ∷ []) → IsMade view files old new run this
  made_still old new run this at still there same offered = record {
    at = there;
    offered = offered;
    any_moment = subst (λ (w : View). LeavesOnly (view old.disk) w (StandsEither files.name run.log (changed files.size run this.does).log)) (ap view (sym still.disk))
        (started (view old.disk) (StandsEither files.name run.log (changed files.size run this.does).log) at.rest.sound (λ image may. inl (at.rest.kept image may)));
  }

-- a host that stays, and stays again
pub still_more : {D M : Type 0} (old mid new : HostState D M) → IsStill old mid → IsStill mid new → IsStill old new
still_more old mid new first more = record { disk = more.disk ∙ first.disk; parts = more.parts ∙ first.parts; size = more.size ∙ first.size; stopped = more.stopped ∙ first.stopped }

-- ---- the batches that are left

-- how many batches a session is still to be served
abbrev pub left_in : ℕ → Option Session → ℕ
left_in confirmed None = 0
left_in confirmed (Some x) = length (after_event confirmed (chained x.acked_event x.batches))

abbrev pub left_of : {M : Type 0} → ℕ → CoreState M → ℕ
left_of session core = left_in (confirmed_of session core.sessions) (session_at session core.sessions)

fewer_above : (a b : ℕ) (bs : List Batch) → a ≤ b → length (after_event b bs) ≤ length (after_event a bs)
fewer_above a b [] le = omega arith
fewer_above a b (x ∷ bs) le = by (nat_lt b x.index) refl (nat_lt a x.index) refl (fewer_above a b bs le)
  where
    by : (q : Bool) → nat_lt b x.index ≡ q → (r : Bool) → nat_lt a x.index ≡ r → length (after_event b bs) ≤ length (after_event a bs)
        → length (cond q (x ∷ after_event b bs) (after_event b bs)) ≤ length (cond r (x ∷ after_event a bs) (after_event a bs))
    by true t true u more = omega (arith, more)
    by true t false u more = let low = ltb-true b x.index t in let high = ltb-false a x.index u in absurd (omega (arith, low, high, le))
    by false t true u more = omega (arith, more)
    by false t false u more = more

fewer_behind : (c : ℕ) (bs : List Batch) (b : Batch) → find (λ b. nat_lt c b.index) bs ≡ Some b → (length (after_event b.index bs) < length (after_event c bs)) × (c < b.index)
fewer_behind c [] b is = absurd (cc is)
fewer_behind c (x ∷ bs) b is = by (nat_lt c x.index) refl is (fewer_behind c bs b)
  where
    by : (q : Bool) → nat_lt c x.index ≡ q → cond q (Some x) (find (λ b. nat_lt c b.index) bs) ≡ Some b
        → (find (λ b. nat_lt c b.index) bs ≡ Some b → (length (after_event b.index bs) < length (after_event c bs)) × (c < b.index)) → (length (cond (nat_lt b.index x.index) (x ∷ after_event b.index bs) (after_event b.index bs)) < length (cond q (x ∷ after_event c bs) (after_event c bs))) × (c < b.index)
    by true t is rest =
        let low : c < x.index = ltb-true c x.index t in
        let same : x ≡ b = cc is in
        let out : nat_lt x.index x.index ≡ false = le-ltb x.index x.index (omega arith) in
        let more = fewer_above c x.index bs (omega (arith, low)) in
        let here : (length (cond (nat_lt x.index x.index) (x ∷ after_event x.index bs) (after_event x.index bs)) < length (x ∷ after_event c bs)) × (c < x.index) =
        subst (λ (q : Bool). (length (cond q (x ∷ after_event x.index bs) (after_event x.index bs)) < length (x ∷ after_event c bs)) × (c < x.index)) (sym out) (omega (arith, more), low) in
        subst (λ (y : Batch). (length (cond (nat_lt y.index x.index) (x ∷ after_event y.index bs) (after_event y.index bs)) < length (x ∷ after_event c bs)) × (c < y.index)) same here
    by false t is rest =
        let less = rest is in
        let high = ltb-false c x.index t in
        let out : nat_lt b.index x.index ≡ false = le-ltb b.index x.index (omega (arith, less.1, high)) in
        subst (λ (q : Bool). (length (cond q (x ∷ after_event b.index bs) (after_event b.index bs)) < length (after_event c bs)) × (c < b.index)) (sym out) less

-- fewer are left where one was confirmed
pub fewer_left_in : (confirmed : ℕ) (found : Option Session) (b : Batch) → served_in confirmed found ≡ Some b → left_in b.index found < left_in confirmed found
fewer_left_in confirmed None b is = absurd (cc is)
fewer_left_in confirmed (Some x) b is = (fewer_behind confirmed (chained x.acked_event x.batches) b is).0

-- the same of a host's core
pub fewer_left : {M : Type 0} (session : ℕ) (old new : CoreState M) (b : Batch) → batch_at session old.sessions ≡ Some b → new.sessions.sessions ≡ old.sessions.sessions → confirmed_of session new.sessions ≡ b.index → left_of session new < left_of session old
fewer_left session old new b served same event =
    let less = fewer_left_in (confirmed_of session old.sessions) (session_at session old.sessions) b served in
    subst (λ (n : ℕ). n < left_of session old) (λ i. left_in (sym event i) (session_in session (sym same i))) less

-- ---- a client, offered one batch after the other

-- so much it knew and has confirmed, and the rest is left
pub record Known {D : Type 0} (view : D → View) (files : Files) (session : ℕ) (now : HostState D Parts) (run : Run) (last : ℕ) : Type 0 where
  pub known : List ℕ
  pub none : session_of session (folded run.log) ≡ None → known ≡ []
  pub at : IsAt view files now (changed files.size run (Confirms session known None))
  pub goes_on : (x : Session) → session_of session (folded run.log) ≡ Some x
      → serve last (offers run session x) ≡ record { confirmed = known ++ (serve last (offers (changed files.size run (Confirms session known None)) session x)).confirmed; turn = (serve last (offers (changed files.size run (Confirms session known None)) session x)).turn }

pub known_first : {D : Type 0} (view : D → View) (files : Files) (session : ℕ) (h : HostState D Parts) (run : Run) (last : ℕ) → IsAt view files h run → Known view files session h run last
known_first view files session h run last at = record { known = []; none = λ _. refl; at = at_first view files h run session at; goes_on = λ x is. refl }

is_there : {A : Type 0} (o : Option A) → IsTrue (is_some o) → (x : A) × (o ≡ Some x)
is_there None some = absurd (cc some)
is_there (Some x) some = (x, refl)

module _ (law : HostsArePlain catalog_decision) (turns : ServesInTurn) {D : Type 0} (view : D → View) (files : Files) (session : ℕ) (now : HostState D Parts) (run : Run) (last : ℕ) (k : Known view files session now run last) where
  abbrev here : Run
  here = changed files.size run (Confirms session k.known None)

  found : session_at session now.core.sessions ≡ session_of session (folded run.log)
  found = ap (λ (xs : List Session). session_in session xs) (sessions_are law view files now here k.at)

  -- the batch that is served is the first of what is left
  first_of : (x : Session) → session_of session (folded run.log) ≡ Some x → batch_at session now.core.sessions ≡ find (λ b. nat_lt (event_at 0 session here.confirmed) b.index) (chained x.acked_event x.batches)
  first_of x is = (λ i. served_in ((confirmed_event session now.core.sessions.beside ∙ ap (λ (ps : List Position). event_at 0 session ps) k.at.confirmed_is) i) ((found ∙ is) i))

  none_left : (c : ℕ) (bs : List Batch) → find (λ b. nat_lt c b.index) bs ≡ None → after_event c bs ≡ []
  none_left c [] is = refl
  none_left c (b ∷ bs) is = elim (nat_lt c b.index) as (λ q. cond q (Some b) (find (λ b. nat_lt c b.index) bs) ≡ None → cond q (b ∷ after_event c bs) (after_event c bs) ≡ []) [ true ↦ λ no. absurd (cc no) | false ↦ λ more. none_left c bs more ] is

  module _ (x : Session) (is : session_of session (folded run.log) ≡ Some x) where
    -- nothing is left
    pub ends_here : batch_at session now.core.sessions ≡ None → serve last (offers run session x) ≡ record { confirmed = k.known; turn = Nothing_new }
    ends_here none =
        let left : offers here session x ≡ [] = none_left (event_at 0 session here.confirmed) (chained x.acked_event x.batches) (sym (first_of x is) ∙ none) in
        k.goes_on x is ∙ ap (λ (bs : List Batch). record { confirmed = k.known ++ (serve last bs).confirmed; turn = (serve last bs).turn }) left
        ∙ ap (λ (events : List ℕ). record { confirmed = events; turn = Nothing_new }) (append-nil k.known)

    module _ (b : Batch) (served : batch_at session now.core.sessions ≡ Some b) where
      behind : (offers here session x ≡ b ∷ after_event b.index (chained x.acked_event x.batches)) × IsOneOf b (batches run.log session)
      behind = turns run.log session x (event_at 0 session here.confirmed) b k.at.rest.logged.admitted is (sym (first_of x is) ∙ served)

      abbrev rest : List Batch
      rest = after_event b.index (chained x.acked_event x.batches)

      -- what comes of it, by what the client says
      said : (t : Take) → take_batch last b ≡ t → serve last (offers run session x) ≡ record { confirmed = k.known ++ (served_one t b (serve last rest)).confirmed; turn = (served_one t b (serve last rest)).turn }
      said t same =
          k.goes_on x is ∙ ap (λ (bs : List Batch). record { confirmed = k.known ++ (serve last bs).confirmed; turn = (serve last bs).turn }) behind.0
          ∙ ap (λ (t : Take). record { confirmed = k.known ++ (served_one t b (serve last rest)).confirmed; turn = (served_one t b (serve last rest)).turn }) same

      pub takes_here : take_batch last b ≡ Taken → (serve last (offers run session x) ≡ record { confirmed = k.known ++ b.index ∷ []; turn = Takes b }) × IsOneOf b (batches run.log session)
      takes_here same = (said Taken same, behind.1)

      pub misses_here : take_batch last b ≡ Missed → serve last (offers run session x) ≡ record { confirmed = k.known; turn = Misses b }
      misses_here same = said Missed same ∙ ap (λ (events : List ℕ). record { confirmed = events; turn = Misses b }) (append-nil k.known)

      knows_here : (c : ℕ) → c ≡ b.index → take_batch last b ≡ Repeated
          → serve last (offers run session x) ≡ record { confirmed = (k.known ++ b.index ∷ []) ++ (serve last (after_event c (chained x.acked_event x.batches))).confirmed; turn = (serve last (after_event c (chained x.acked_event x.batches))).turn }
      knows_here c at_b same =
          said Repeated same
          ∙ ap (λ (events : List ℕ). record { confirmed = events; turn = (serve last rest).turn }) (sym (append_assoc k.known (b.index ∷ []) (serve last rest).confirmed))
          ∙ ap (λ (n : ℕ). record { confirmed = (k.known ++ b.index ∷ []) ++ (serve last (after_event n (chained x.acked_event x.batches))).confirmed; turn = (serve last (after_event n (chained x.acked_event x.batches))).turn }) (sym at_b)

  -- one more is known and confirmed
  pub knows_one : (new : HostState D Parts) (b : Batch) → IsOpen session now.core.sessions → batch_at session now.core.sessions ≡ Some b → take_batch last b ≡ Repeated → IsStill now new → IsConfirmed view session b.index now new → Known view files session new run last
  knows_one new b opened served same still confirmed = record {
    known = k.known ++ b.index ∷ [];
    none = λ is. let some = subst (λ (o : Option Session). IsTrue (is_some o)) (found ∙ is) opened in absurd (cc some);
    at = there;
    goes_on = λ x is. knows_here x is b served _ (sym (ap (λ (ps : List Position). event_at 0 session ps) there.confirmed_is) ∙ sym (confirmed_event session new.core.sessions.beside) ∙ confirmed.event_is) same;
  }
    where
      there : IsAt view files new (changed files.size run (Confirms session (k.known ++ b.index ∷ []) None))
      there = at_confirmed view files now new run session b.index k.known k.at still confirmed

  -- the session is open, or isn't
  pub opened_at : IsOpen session now.core.sessions → (x : Session) × (session_of session (folded run.log) ≡ Some x)
  opened_at opened = is_there (session_of session (folded run.log)) (subst (λ (o : Option Session). IsTrue (is_some o)) found opened)

  pub none_at : session_at session now.core.sessions ≡ None → (session_of session (folded run.log) ≡ None) × IsAt view files now run
  none_at is =
      let none = sym found ∙ is in
      (none, at_back view files now run session (subst (λ (events : List ℕ). IsAt view files now (changed files.size run (Confirms session events None))) (k.none none) k.at))

  -- what comes next
  pub nothing_next : (old : HostState D Parts) (last' : ℕ) → IsOpen session now.core.sessions → batch_at session now.core.sessions ≡ None → HasNext view files session old now run last last' nexts.Nothing
  nothing_next old last' opened none =
      let x = opened_at opened in
      record { opened = x.0; is_open = x.1; known = k.known; at = k.at; is = ends_here x.0 x.1 none }

  pub taken_next : (old : HostState D Parts) (L last' : ℕ) (b : Batch) → L ≡ last → IsOpen session now.core.sessions → batch_at session now.core.sessions ≡ Some b → answered L (take_batch L b) ≡ says.Taken → last' ≡ last_after L b → HasNext view files session old now run last last' nexts.Taken
  taken_next old L last' b same opened served said stands =
      let x = opened_at opened in
      let takes : take_batch last b ≡ Taken = subst (λ (n : ℕ). take_batch n b ≡ Taken) same (says_taken L (take_batch L b) said) in
      let both = takes_here x.0 x.1 b served takes in
      record { opened = x.0; is_open = x.1; known = k.known; at = k.at; is = (b, both.0, served, stands ∙ ap (λ (n : ℕ). last_after n b) same ∙ last_taken_is last b takes, takes, both.1) }

  pub missed_next : (old : HostState D Parts) (L last' n : ℕ) (b : Batch) → L ≡ last → IsOpen session now.core.sessions → batch_at session now.core.sessions ≡ Some b → answered L (take_batch L b) ≡ says.Missed n → HasNext view files session old now run last last' (nexts.Missed n b.previous)
  missed_next old L last' n b same opened served said =
      let x = opened_at opened in
      let says = says_missed L n (take_batch L b) said in
      let misses : take_batch last b ≡ Missed = subst (λ (n : ℕ). take_batch n b ≡ Missed) same says.0 in
      record { opened = x.0; is_open = x.1; known = k.known; at = k.at; is = (b, misses_here x.0 x.1 b served misses, says.1 ∙ same, refl) }
