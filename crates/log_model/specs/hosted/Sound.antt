-- What holds of the state of each host, of whatever entries in range it was made.
use Rattle.std.specs.Prelude.{◌≡◌, ℕ, ◌≤◌, ◌<◌, false, cond, List, [], ◌∷◌, Some, None, is_some, IsTrue}
use Rattle.std.specs.List.{AllByRecursion, list_any}
use Rattle.std.specs.FinMap.Entries.{is_sorted}
use Rattle.host_types.specs.Limits.{index_limit}
use Rattle.host_types.specs.declared.entry.Entry.{Entry}
use Rattle.host_types.specs.declared.entry.Cell.{Cell}
use Rattle.host_types.specs.Cells.{Place, Cell_at, Register_at, Alive_at, Held, marked, place_cmp, at, places_of, is_in_instance}
use Rattle.host_types.specs.Ranges.{IsIndex, AreCellsInRange, EntryFits, IsInRange}
use Rattle.log_model.specs.plain.Plain.{Kept_reply, Kept_batch, Session, session_in}
use Rattle.log_model.specs.hosted.Hosted.{Hosted, is_machine_place, machine_cells}
use Rattle.log_model.specs.replay.Replay.{Telling, replay_entry}

-- each id is above this one
abbrev pub Above : ℕ → List Session → Type 0
Above n sessions = AllByRecursion (λ x. n < x.id) sessions

-- the sessions stand by rising id
abbrev pub Rises : List Session → Type 0
Rises [] = Unit {0}
Rises (x ∷ sessions) = Above x.id sessions × Rises sessions

-- whatever a session keeps is of an entry up to the last
abbrev pub IsPast : ℕ → ℕ → Type 0
IsPast last i = (1 ≤ i) × (i ≤ last)

pub record IsSessionSound (last : ℕ) (x : Session) : Type 0 where
  pub id : IsPast last x.id
  pub covered : x.acked_seq ≤ x.seq
  pub seq_in_range : x.seq ≤ index_limit
  pub event_in_range : IsIndex x.acked_event
  pub replies : AllByRecursion (λ (r : Kept_reply). IsPast last r.index) x.replies
  pub batches : AllByRecursion (λ (b : Kept_batch). (x.acked_event < b.index) × (b.index ≤ last)) x.batches

-- The cells are in order and in range, and their instances and indexes are past; the sessions stand by rising id. A session is
-- open exactly where its register place stands; where its alive place stands, it is open, and was registered before. Nobody owns
-- these two places, and an entry that is held at one is held nowhere else.
pub record IsSound (s : Hosted) : Type 0 where
  pub last_in_range : s.last ≤ index_limit
  pub cells_rise : IsTrue (is_sorted place_cmp s.cells)
  pub cells_in_range : AreCellsInRange s.cells
  pub cells_are_past : (place : Place) (held : Held) → at s.cells place ≡ Some held → held.index ≤ s.last
  pub instances_are_past : (instance : ℕ) (cell : Cell) (held : Held) → at s.cells (Cell_at instance cell) ≡ Some held → instance ≤ s.last
  pub sessions_rise : Rises s.sessions
  pub opened : (id : ℕ) → at s.cells (Register_at id) ≡ cond (is_some (session_in id s.sessions)) (Some (marked id)) None
  pub heard : (id : ℕ) (held : Held) → at s.cells (Alive_at id) ≡ Some held → IsTrue (is_some (session_in id s.sessions)) × (held.owner ≡ None) × (id < held.index)
  pub apart : (place other : Place) (held there : Held) → is_machine_place place ≡ false → at s.cells place ≡ Some held → at s.cells other ≡ Some there → held.index ≡ there.index → place ≡ other
  pub sessions_are : AllByRecursion (IsSessionSound s.last) s.sessions

-- whatever entry in range is replayed, with whatever events and cut, the state stays so
abbrev pub EntriesKeepSound : Type 0
EntriesKeepSound =
    (telling : Telling) (cut : ℕ) (s : Hosted) (i : ℕ) (e : Entry)
    → IsSound s
    → s.last < i
    → EntryFits e
    → IsInRange i e
    → IsSound (replay_entry telling cut s (i, e))

-- an index that isn't past holds nothing, and no cell of its instance stands
pub record IsFree (s : Hosted) (i : ℕ) : Type 0 where
  pub unheld : places_of s.cells i ≡ 0
  pub empty : list_any (is_in_instance i) (machine_cells s.cells) ≡ false

abbrev pub NextIndexIsFree : Type 0
NextIndexIsFree = (s : Hosted) (i : ℕ) → IsSound s → s.last < i → IsFree s i
