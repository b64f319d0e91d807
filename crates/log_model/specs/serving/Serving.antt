-- The batches that a session keeps among all that it is given, and what a client takes of them.
use Rattle.std.specs.Prelude.{◌≡◌, ◌⊎◌, ℕ, Bool, nat_lt, ◌==◌, ◌||◌, List, [], ◌∷◌, ◌++◌, take, Some, IsTrue}
use Rattle.std.specs.List.{filter, find, list_any}
use Rattle.log_model.specs.plain.Plain.{Kept_batch, Session, session_of}
use Rattle.log_model.specs.plain.Admission.{Item}
use Rattle.log_model.specs.plain.Step.{folded}
use Rattle.log_model.specs.plain.Stored.{is_log}
use Rattle.log_model.specs.serving.Batches.{Batch, batches, Take, Taken, Repeated, Missed, take_batch, last_after}

-- kept batches, each with the index of the one before, the first with the acknowledged event
abbrev pub chained : ℕ → List Kept_batch → List Batch
chained previous [] = []
chained previous (b ∷ bs) = record { index = b.index; previous = previous; events = b.events } ∷ chained b.index bs

-- the batches above an event
abbrev pub after_event : ℕ → List Batch → List Batch
after_event event bs = filter (λ b. nat_lt event b.index) bs

-- a session keeps, of all that it was given, what is above its acknowledged event
abbrev pub KeepsTheRest : Type 0
KeepsTheRest =
    (items : List Item) (id : ℕ) (x : Session)
    → IsTrue (is_log items)
    → session_of id (folded items) ≡ Some x
    → chained x.acked_event x.batches ≡ after_event x.acked_event (batches items id)

-- each batch follows the one before, and indexes rise
abbrev pub Linked : ℕ → List Batch → Type 0
Linked previous [] = Unit {0}
Linked previous (b ∷ bs) = (b.previous ≡ previous) × IsTrue (nat_lt previous b.index) × Linked b.index bs

abbrev pub BatchesAreLinked : Type 0
BatchesAreLinked = (items : List Item) (id : ℕ) → Linked id (batches items id)

-- what was given stays as the log grows
abbrev pub BatchesGrow : Type 0
BatchesGrow = (items more : List Item) (id : ℕ) → (rest : List Batch) × (batches (items ++ more) id ≡ batches items id ++ rest)

-- a client takes the batch, or leaves it
abbrev pub took : Take → Batch → List Batch → List Batch
took Taken b rest = b ∷ rest
took Repeated b rest = rest
took Missed b rest = rest

-- what a client takes of these offers
abbrev pub taken : ℕ → List Batch → List Batch
taken last [] = []
taken last (b ∷ offers) = took (take_batch last b) b (taken (last_after last b) offers)

-- and the event that it took last
abbrev pub last_taken : ℕ → List Batch → ℕ
last_taken last [] = last
last_taken last (b ∷ offers) = last_taken (last_after last b) offers

-- it is one of these
abbrev pub IsOneOf : Batch → List Batch → Type 0
IsOneOf b [] = ⊥
IsOneOf b (x ∷ xs) = (b ≡ x) ⊎ IsOneOf b xs

-- each of them is
abbrev pub AreOf : List Batch → List Batch → Type 0
AreOf [] bs = Unit {0}
AreOf (b ∷ offers) bs = IsOneOf b bs × AreOf offers bs

-- the session's id, or an event of it
abbrev pub is_point : ℕ → List Batch → ℕ → Bool
is_point id bs start = start == id || list_any (λ b. b.index == start) bs

-- what an open session acknowledged is such a start
abbrev pub AcksArePoints : Type 0
AcksArePoints =
    (items : List Item) (id : ℕ) (x : Session)
    → IsTrue (is_log items)
    → session_of id (folded items) ≡ Some x
    → IsTrue (is_point id (batches items id) x.acked_event)

-- of whatever batches of its session, in whatever order and however often they are offered, a client takes an unbroken run from its start, each once
abbrev pub ClientTakesRun : Type 0
ClientTakesRun =
    (items : List Item) (id start : ℕ) (offers : List Batch)
    → IsTrue (is_point id (batches items id) start)
    → AreOf offers (batches items id)
    → (n : ℕ) × (taken start offers ≡ take n (after_event start (batches items id)))

-- one that starts at the acknowledged event and is served what is kept, in order, takes it all
abbrev pub ClientTakesAll : Type 0
ClientTakesAll =
    (items : List Item) (id : ℕ) (x : Session)
    → IsTrue (is_log items)
    → session_of id (folded items) ≡ Some x
    → taken x.acked_event (chained x.acked_event x.batches) ≡ after_event x.acked_event (batches items id)

-- Kept batches are served one after the other: behind the first above a confirmed event the rest is left, and it is one of all that the
-- session was given.
abbrev pub ServesInTurn : Type 0
ServesInTurn =
    (items : List Item) (id : ℕ) (x : Session) (confirmed : ℕ) (b : Batch)
    → IsTrue (is_log items)
    → session_of id (folded items) ≡ Some x
    → find (λ b. nat_lt confirmed b.index) (chained x.acked_event x.batches) ≡ Some b
    → (after_event confirmed (chained x.acked_event x.batches) ≡ b ∷ after_event b.index (chained x.acked_event x.batches)) × IsOneOf b (batches items id)
