-- The two parts of a host's cells: the machine's, and the places of sessions; and how an entry changes each.
use Rattle.std.specs.Prelude.{◌≡◌, ℕ, ◌+◌, Bool, true, cond, not, ◌&&◌, ◌==◌, List, [], ◌∷◌, map, Option, Some, None, IsTrue}
use Rattle.std.specs.Option.{option_map}
use Rattle.std.specs.FinMap.Entries.{is_sorted, where_key}
use Rattle.host_types.specs.declared.entry.Body.{Body}
use Rattle.host_types.specs.declared.entry.Body.TheVariants.{Alive, Close, Command}
use Rattle.host_types.specs.declared.entry.Effect.{Effect}
use Rattle.host_types.specs.declared.entry.Effect.TheVariants.{Put}
use Rattle.host_types.specs.declared.entry.Entry.{Entry}
use Rattle.host_types.specs.Cells.{Register_at, Alive_at, place_cmp, Cells, at, stands, places_of, after_effect, without_owner}
use Rattle.log_model.specs.cleaning.Cells.{owner_stands, after}
use Rattle.log_model.specs.hosted.Hosted.{Hosted, is_machine_place, machine_cells}
use Rattle.log_model.specs.hosted.Sound.{IsSound}

-- whoever would own what the effect puts is an open session, or nobody is
abbrev pub put_owner_stands : Cells → Effect → Bool
put_owner_stands cells (Put instance cell content owner) = owner_stands cells owner
put_owner_stands cells _ = true

-- What the entry i makes of a machine with these cells, in a host with all these: an effect is applied where the owner of what it
-- puts stands, and a close drops what its session owns.
abbrev pub machine_after : Cells → ℕ → Body → Cells → Cells
machine_after cells i (Command session seq effect reply) machine = cond (put_owner_stands cells effect) (after_effect machine i effect) machine
machine_after cells i (Close session expired) machine = without_owner session machine
machine_after cells i _ machine = machine

-- the machine's part of the cells follows the machine
abbrev pub MachinePartFollows : Type 0
MachinePartFollows =
    (cells : Cells) (i : ℕ) (e : Entry)
    → IsTrue (is_sorted place_cmp cells)
    → machine_cells (after cells i e) ≡ machine_after cells i e.body (machine_cells cells)

-- the index of the entry that is held as a session's last keep-alive
abbrev pub alive_index : Cells → ℕ → Option ℕ
alive_index cells id = option_map (λ held. held.index) (at cells (Alive_at id))

-- what the entry i makes of it
abbrev pub alive_after : Cells → ℕ → Body → ℕ → Option ℕ
alive_after cells i (Alive session seq event) id = cond (session == id && stands cells (Register_at id)) (Some i) (alive_index cells id)
alive_after cells i (Close session expired) id = cond (session == id) None (alive_index cells id)
alive_after cells i _ id = alive_index cells id

-- which entry is held as the last keep-alive, after each entry
abbrev pub AlivesFollow : Type 0
AlivesFollow =
    (s : Hosted) (i : ℕ) (e : Entry) (id : ℕ)
    → IsSound s
    → alive_index (after s.cells i e) id ≡ alive_after s.cells i e.body id

-- the places of sessions
abbrev pub session_cells : Cells → Cells
session_cells cells = where_key place_cmp (λ place. not (is_machine_place place)) cells

-- an index holds its places in the two parts
abbrev pub PlacesAreParted : Type 0
PlacesAreParted = (cells : Cells) (index : ℕ) → places_of cells index ≡ places_of (machine_cells cells) index + places_of (session_cells cells) index

-- each open session with the entry that is held as its last keep-alive
abbrev pub commits_of : Hosted → List (ℕ × Option ℕ)
commits_of s = map (λ x. (x.id, alive_index s.cells x.id)) s.sessions

-- a keep-alive is held at one place
abbrev pub alive_places : Option ℕ → ℕ → ℕ
alive_places None index = 0
alive_places (Some alive) index = cond (alive == index) 1 0

-- at how many places of these sessions an entry is held
abbrev pub commit_places : List (ℕ × Option ℕ) → ℕ → ℕ
commit_places [] index = 0
commit_places (x ∷ commits) index = cond (x.0 == index) 1 0 + alive_places x.1 index + commit_places commits index

-- the places of sessions are those of the open ones
abbrev pub SessionPlacesAre : Type 0
SessionPlacesAre = (s : Hosted) (index : ℕ) → IsSound s → places_of (session_cells s.cells) index ≡ commit_places (commits_of s) index
