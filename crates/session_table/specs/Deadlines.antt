-- When sessions are due, and how their deadlines are kept.
use Rattle.std.specs.Prelude.{◌≡◌, ℕ, ◌+◌, ◌-◌, ◌/◌, ◌^◌, ◌<◌, ◌≤◌, min, List, length, slice_index_or}
use Rattle.log_model.specs.plain.Plain.{Session}

-- A session is due at each time above its deadline. One whose timeout ends past all times is never due.
abbrev pub deadline : Session → ℕ
deadline x = min (x.last_time + x.timeout) (2 ^ 64 - 1)

-- the deadline at a key
abbrev pub deadline_at : List ℕ → ℕ → ℕ
deadline_at deadlines key = slice_index_or deadlines key 0

-- the deadlines so far stay where there come to be more
pub record AreMore (old new : List ℕ) : Type 0 where
  pub longer : length old ≤ length new
  pub same : (key : ℕ) → key < length old → deadline_at new key ≡ deadline_at old key

-- a bound of all of them
abbrev pub IsAtMostEach : ℕ → List ℕ → Type 0
IsAtMostEach least deadlines = (key : ℕ) → key < length deadlines → least ≤ deadline_at deadlines key

-- no node of a tree is below the one above it; the root is at 1, and the two below n at 2 n and 2 n + 1
abbrev pub LeastIsAbove : List ℕ → Type 0
LeastIsAbove nodes = (node : ℕ) → 2 ≤ node → node < length nodes → slice_index_or nodes (node / 2) 0 ≤ slice_index_or nodes node 0
