-- What clients were offered, and took of it, act after act.
use Rattle.std.proofs.Common.{◌≡◌, inl, inr, ℕ, cond, ◌==◌, ◌||◌, Bool, true, false, List, [], ◌∷◌, ◌++◌, Option, Some, None, IsTrue, refl, ap, sym, ◌∙◌, subst, append_assoc, eqb-true}
use Rattle.std.proofs.lemmas.List.{append-nil}
use Rattle.std.specs.Cmp.{nat_eq_equiv}
use Rattle.std.specs.List.{find, list_any}
use Rattle.std.specs.Option.{option_map_or}
use Rattle.log_model.specs.plain.Admission.{Item}
use Rattle.log_model.specs.plain.Plain.{Session, session_in, session_of}
use Rattle.log_model.specs.plain.Step.{folded}
use Rattle.log_model.specs.plain.Stored.{is_log}
use Rattle.log_model.specs.serving.Positions.{Position, acked_positions, event_at}
use Rattle.log_model.specs.serving.Batches.{Batch, Take, Taken, Repeated, Missed, batches, last_after, take_batch}
use Rattle.log_model.specs.serving.Serving.{AreOf, IsOneOf, is_point, last_taken, taken, took}
use Rattle.log_model.proofs.serving.Chains.{grow}
use Rattle.log_model.proofs.serving.Clients.{client_takes_run}
use Rattle.log_model.proofs.serving.Points.{acks_are_points}
use Rattle.copycat_tool.specs.Report.{Run, Act, Change, Nothing, Stores, Reopens, Confirms, after, changed, client_at}
use Rattle.copycat_tool.specs.Runs.{BeginsAcked, BeginsAtPoints, Files, TookRuns, WasOffered, WereOffered, taken_by, taken_in}
use Rattle.copycat_tool.proofs.ClientLemmas.{last_taken_is}
use Rattle.copycat_tool.proofs.Prefixes.{after-append, items_of, log_changed}

-- ---- some offers, and then others

taken-append : (last : ℕ) (a b : List Batch) → taken last (a ++ b) ≡ taken last a ++ taken (last_taken last a) b
taken-append last [] b = refl
taken-append last (x ∷ a) b =
    elim (take_batch last x) as (λ t. took t x (taken (last_after last x) (a ++ b)) ≡ took t x (taken (last_after last x) a) ++ taken (last_taken (last_after last x) a) b) [
      | Taken ↦ ap (λ (l : List Batch). x ∷ l) (taken-append (last_after last x) a b)
      | Repeated ↦ taken-append (last_after last x) a b
      | Missed ↦ taken-append (last_after last x) a b
    ]

last_taken-append : (last : ℕ) (a b : List Batch) → last_taken last (a ++ b) ≡ last_taken (last_taken last a) b
last_taken-append last [] b = refl
last_taken-append last (x ∷ a) b = last_taken-append (last_after last x) a b

one_of_more : (b : Batch) (bs rest : List Batch) → IsOneOf b bs → IsOneOf b (bs ++ rest)
one_of_more b [] rest o = absurd o
one_of_more b (x ∷ bs) rest (inl same) = inl same
one_of_more b (x ∷ bs) rest (inr o) = inr (one_of_more b bs rest o)

are_of_more : (offers bs rest : List Batch) → AreOf offers bs → AreOf offers (bs ++ rest)
are_of_more [] bs rest are = tt
are_of_more (b ∷ offers) bs rest are = (one_of_more b bs rest are.0, are_of_more offers bs rest are.1)

are_of-append : (a b bs : List Batch) → AreOf a bs → AreOf b bs → AreOf (a ++ b) bs
are_of-append [] b bs first more = more
are_of-append (x ∷ a) b bs first more = (first.0, are_of-append a b bs first.1 more)

-- what was offered stays so as the log grows
still_offered : (id : ℕ) (log items : List Item) (offers : List Batch) → AreOf offers (batches log id) → AreOf offers (batches (log ++ items) id)
still_offered id log items offers are =
    let more = grow id log items in
    subst (AreOf offers) (sym more.1) (are_of_more offers (batches log id) more.0 are)

-- ---- acts

pub taken_in-append : (id : ℕ) (a b : List Act) → taken_in id (a ++ b) ≡ taken_in id a ++ taken_in id b
taken_in-append id [] b = refl
taken_in-append id (act ∷ a) b = ap (λ (l : List Batch). taken_by id act.does ++ l) (taken_in-append id a b) ∙ sym (append_assoc (taken_by id act.does) (taken_in id a) (taken_in id b))

-- a log only grows
log_after : (size : ℕ) (run : Run) (acts : List Act) → (items : List Item) × ((after size run acts).log ≡ run.log ++ items)
log_after size run [] = ([], sym (append-nil run.log))
log_after size run (act ∷ acts) =
    let more = log_after size (changed size run act.does) acts in
    (items_of act.does ++ more.0, more.1 ∙ ap (λ (l : List Item). l ++ more.0) (log_changed size run act.does) ∙ append_assoc run.log (items_of act.does) more.0)

module _ (files : Files) where
  pub none_offered : (run : Run) → WereOffered files run []
  none_offered run id = record { batches_offered = []; are = tt; took_is = refl; stands_is = refl }

  -- where this is done, with no line
  abbrev Offered : Run → Change → Type 0
  Offered run change = (id : ℕ) → WasOffered (changed files.size run change).log id (client_at run id) (taken_by id change ++ []) (client_at (changed files.size run change) id)

  -- these changes offer nothing
  pub offers_nothing : (run : Run) (this : Act) (change : Change) → Offered run change → this.does ≡ change → WereOffered files run (this ∷ [])
  offers_nothing run this change offered is = subst (Offered run) (sym is) offered

  pub nothing_offered : (run : Run) → Offered run Nothing
  nothing_offered run id = record { batches_offered = []; are = tt; took_is = refl; stands_is = refl }

  pub stored_offered : (run : Run) (items : List Item) → Offered run (Stores items)
  stored_offered run items id = record { batches_offered = []; are = tt; took_is = refl; stands_is = refl }

  pub reopened_offered : (run : Run) → Offered run Reopens
  reopened_offered run id = record { batches_offered = []; are = tt; took_is = refl; stands_is = refl }

  -- no batch was taken
  pub confirmed_offered : (run : Run) (session : ℕ) (events : List ℕ) → Offered run (Confirms session events None)
  confirmed_offered run session events id = record { batches_offered = []; are = tt; took_is = refl; stands_is = refl }

  -- a batch of the session was taken
  pub taken_offered : (run : Run) (session : ℕ) (events : List ℕ) (b : Batch) → take_batch (client_at run session) b ≡ Taken → IsOneOf b (batches run.log session) → Offered run (Confirms session events (Some b))
  taken_offered run session events b takes one id = by (session == id) refl
    where
      by : (q : Bool) → (session == id) ≡ q → WasOffered run.log id (client_at run id) (cond q (b ∷ []) [] ++ []) (option_map_or (λ p. p.event) (cond q (Some (record { session = session; event = b.index })) (find (λ p. p.session == id) run.clients)) id)
      by false is = record { batches_offered = []; are = tt; took_is = refl; stands_is = refl }
      by true is =
          let same : session ≡ id = eqb-true session id is in
          let takes' : take_batch (client_at run id) b ≡ Taken = subst (λ (n : ℕ). take_batch (client_at run n) b ≡ Taken) same takes in
          record {
            batches_offered = b ∷ [];
            are = (subst (λ (n : ℕ). IsOneOf b (batches run.log n)) same one, tt);
            took_is = ap (λ (t : Take). took t b []) (sym takes');
            stands_is = sym (last_taken_is (client_at run id) b takes');
          }

  -- some acts, and then others
  pub offered_more : (run : Run) (a b : List Act) → WereOffered files run a → WereOffered files (after files.size run a) b → WereOffered files run (a ++ b)
  offered_more run a b first more id =
      let o = first id in
      let p = more id in
      let there : after files.size (after files.size run a) b ≡ after files.size run (a ++ b) = after-append files.size run a b in
      let grown = log_after files.size (after files.size run a) b in
      let here : AreOf o.batches_offered (batches (after files.size (after files.size run a) b).log id) =
      subst (λ (l : List Item). AreOf o.batches_offered (batches l id)) (sym grown.1) (still_offered id (after files.size run a).log grown.0 o.batches_offered o.are) in
      let rest : taken (client_at (after files.size run a) id) p.batches_offered ≡ taken (last_taken (client_at run id) o.batches_offered) p.batches_offered = ap (λ (n : ℕ). taken n p.batches_offered) o.stands_is in
      let last : last_taken (client_at (after files.size run a) id) p.batches_offered ≡ last_taken (last_taken (client_at run id) o.batches_offered) p.batches_offered = ap (λ (n : ℕ). last_taken n p.batches_offered) o.stands_is in
      record {
        batches_offered = o.batches_offered ++ p.batches_offered;
        are = subst (λ (r : Run). AreOf (o.batches_offered ++ p.batches_offered) (batches r.log id)) there (are_of-append o.batches_offered p.batches_offered _ here p.are);
        took_is = taken_in-append id a b ∙ (λ i. o.took_is i ++ (p.took_is ∙ rest) i) ∙ sym (taken-append (client_at run id) o.batches_offered p.batches_offered);
        stands_is = ap (λ (r : Run). client_at r id) (sym there) ∙ p.stands_is ∙ last ∙ sym (last_taken-append (client_at run id) o.batches_offered p.batches_offered);
      }

  -- so each took an unbroken run
  pub took_runs : (run : Run) (acts : List Act) → WereOffered files run acts → BeginsAtPoints run → TookRuns files run acts
  took_runs run acts offered points id =
      let o = offered id in
      let grown = log_after files.size run acts in
      let k = client_takes_run (after files.size run acts).log id (client_at run id) o.batches_offered (subst (λ (l : List Item). is_point id (batches l id) (client_at run id) ≡ true) (sym grown.1) (still_point id run.log grown.0 (client_at run id) (points id))) o.are in
      (k.0, o.took_is ∙ k.1)
    where
      any_more : (start : ℕ) (bs rest : List Batch) → list_any (λ b. b.index == start) bs ≡ true → list_any (λ b. b.index == start) (bs ++ rest) ≡ true
      any_more start [] rest is = absurd (cc is)
      any_more start (b ∷ bs) rest is = elim (b.index == start) as (λ q. (q || list_any (λ b. b.index == start) bs) ≡ true → (q || list_any (λ b. b.index == start) (bs ++ rest)) ≡ true) [ true ↦ λ _. refl | false ↦ any_more start bs rest ] is

      still_point : (id : ℕ) (log items : List Item) (start : ℕ) → IsTrue (is_point id (batches log id) start) → is_point id (batches (log ++ items) id) start ≡ true
      still_point id log items start is =
          let more = grow id log items in
          let P : Bool → Type 0 = λ q. (q || list_any (λ b. b.index == start) (batches log id)) ≡ true → (q || list_any (λ b. b.index == start) (batches log id ++ more.0)) ≡ true in
          let here = elim (start == id) as P [ true ↦ λ _. refl | false ↦ any_more start (batches log id) more.0 ] is in
          subst (λ (bs : List Batch). is_point id bs start ≡ true) (sym more.1) here

-- ---- where clients begin

pub acked_event_at : (id : ℕ) (xs : List Session) → option_map_or (λ x. x.acked_event) (session_in id xs) id ≡ event_at id id (acked_positions xs)
acked_event_at id [] = refl
acked_event_at id (x ∷ xs) =
    elim (x.id == id) as (λ q. option_map_or (λ x. x.acked_event) (cond q (Some x) (session_in id xs)) id ≡ option_map_or (λ p. p.event) (cond q (Some (record { session = x.id; event = x.acked_event })) (find (λ p. p.session == id) (acked_positions xs))) id) [
      | true ↦ refl
      | false ↦ acked_event_at id xs
    ]

-- what a session acknowledged is its id or an event of it
pub begins_at_points : (run : Run) → is_log run.log ≡ true → BeginsAcked run → BeginsAtPoints run
begins_at_points run log acked id =
    let there : client_at run id ≡ option_map_or (λ x. x.acked_event) (session_of id (folded run.log)) id = ap (λ (ps : List Position). event_at id id ps) acked ∙ sym (acked_event_at id (folded run.log).sessions) in
    subst (λ (n : ℕ). IsTrue (is_point id (batches run.log id) n)) (sym there) (by (session_of id (folded run.log)) refl)
  where
    by : (found : Option Session) → session_of id (folded run.log) ≡ found → IsTrue (is_point id (batches run.log id) (option_map_or (λ x. x.acked_event) found id))
    by None is = ap (λ (q : Bool). q || list_any (λ b. b.index == id) (batches run.log id)) (nat_eq_equiv.refl id)
    by (Some x) is = acks_are_points id run.log x log is
