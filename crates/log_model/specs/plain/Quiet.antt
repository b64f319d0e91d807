-- Quiet: the greatest index at or below which no session waits for a reply or a batch.
use Rattle.std.specs.Prelude.{ℕ, ◌-◌, ◌≤◌, min, Bool, not, nat_le, List, [], ◌∷◌, ◌++◌, map, length, IsTrue}
use Rattle.std.specs.List.{flat_map, list_any}
use Rattle.log_model.specs.plain.Plain.{Session, State}
use Rattle.log_model.specs.plain.Admission.{Item}
use Rattle.log_model.specs.plain.Step.{folded}

-- the indexes at which these sessions keep a reply or a batch
abbrev pub kept_of : List Session → List ℕ
kept_of sessions = flat_map (λ x. map (λ r. r.index) x.replies ++ map (λ b. b.index) x.batches) sessions

abbrev pub kept_indexes : State → List ℕ
kept_indexes s = kept_of s.sessions

-- at or below k nothing is kept
abbrev pub keeps_none_up_to : ℕ → List Session → Bool
keeps_none_up_to k sessions = not (list_any (λ i. nat_le i k) (kept_of sessions))

-- the greatest number of at most n that is below all of these
abbrev pub greatest_below : ℕ → List ℕ → ℕ
greatest_below n [] = n
greatest_below n (i ∷ is) = min (i - 1) (greatest_below n is)

-- at most the last index
abbrev pub quiet : List Item → ℕ
quiet items = greatest_below (length items) (kept_indexes (folded items))

-- as the log grows, quiet doesn't fall
abbrev pub QuietGrows : Type 0
QuietGrows = (items more : List Item) → quiet items ≤ quiet (items ++ more)

-- quiet is at most the last index, nothing is kept at or below it, and no greater index is so
abbrev pub QuietIsGreatest : Type 0
QuietIsGreatest =
    (items : List Item) →
    (quiet items ≤ length items)
    × IsTrue (keeps_none_up_to (quiet items) (folded items).sessions)
    × ((k : ℕ) → k ≤ length items → IsTrue (keeps_none_up_to k (folded items).sessions) → k ≤ quiet items)
