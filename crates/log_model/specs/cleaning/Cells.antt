-- The cells that a list of stored entries leaves, and which entries hold one.
use Rattle.std.specs.Prelude.{ℕ, Bool, true, false, cond, not, ◌&&◌, ◌||◌, nat_le, ◌==◌, List, [], ◌∷◌, Option, Some, None}
use Rattle.std.specs.List.{filter, list_any}
use Rattle.host_types.specs.Cells.{Place, Register_at, Alive_at, Held, Cells, marked, effect_puts, effect_covers, is_effect_tombstone, is_owned_by, is_met, without, put_all, stands, effect_fits}
use Rattle.host_types.specs.declared.entry.Effect.{Effect}
use Rattle.host_types.specs.declared.entry.Effect.TheVariants.{Put}
use Rattle.host_types.specs.declared.entry.Body.{Body}
use Rattle.host_types.specs.declared.entry.Body.TheVariants.{Register, Alive, Close, Command}
use Rattle.host_types.specs.declared.entry.Entry.{Entry}

-- the different places that the entry i writes, and what it writes there
abbrev pub puts : ℕ → Body → List (Place × Held)
puts i (Register timeout) = (Register_at i, marked i) ∷ []
puts i (Alive session seq event) = (Alive_at session, marked i) ∷ []
puts i (Command session seq effect reply) = effect_puts i effect
puts i _ = []

abbrev pub is_session_place : ℕ → Place → Bool
is_session_place session (Register_at other) = session == other
is_session_place session (Alive_at other) = session == other
is_session_place session _ = false

-- the entry takes out what is held at the place: a close takes its session's places and all that it owns
abbrev pub covers : Body → Place → Held → Bool
covers (Close session expired) place held = is_session_place session place || is_owned_by session held.owner
covers (Command session seq effect reply) place held = effect_covers effect place
covers _ place held = false

abbrev pub covers_any : Body → List (Place × Held) → Bool
covers_any body written = list_any (λ w. covers body w.0 w.1) written

-- an entry that takes out, whether something stands there or not
abbrev pub is_tombstone : Body → Bool
is_tombstone (Close session expired) = true
is_tombstone (Command session seq effect reply) = is_effect_tombstone effect
is_tombstone _ = false

-- nobody owns it, or an open session does
abbrev pub owner_stands : Cells → Option ℕ → Bool
owner_stands cells None = true
owner_stands cells (Some session) = stands cells (Register_at session)

-- the effect fits, and the owner of what it puts is an open session
abbrev pub fits_with_owner : Cells → Effect → Bool
fits_with_owner cells (Put instance cell content owner) = effect_fits cells (Put instance cell content owner) && owner_stands cells owner
fits_with_owner cells effect = effect_fits cells effect

-- what the entry puts fits to what stands
abbrev pub fits : Cells → Body → Bool
fits cells (Alive session seq event) = stands cells (Register_at session)
fits cells (Command session seq effect reply) = fits_with_owner cells effect
fits cells _ = true

abbrev pub is_covered : Body → Place → Option Held → Bool
is_covered body place held = is_met (covers body) place held

-- the cells without those that the entry takes out
abbrev pub uncovered : Body → Cells → Cells
uncovered body cells = without (covers body) cells

-- The cells after the entry with this index. What doesn't fit isn't put, and then nothing of it.
abbrev pub after : Cells → ℕ → Entry → Cells
after cells i entry = cond (fits cells entry.body) (put_all (puts i entry.body) (uncovered entry.body cells)) (uncovered entry.body cells)

-- entries by rising index
abbrev pub Numbered : Type 0
Numbered = List (ℕ × Entry)

abbrev pub cells_from : Cells → Numbered → Cells
cells_from cells [] = cells
cells_from cells (x ∷ entries) = cells_from (after cells x.0 x.1) entries

abbrev pub cells : Numbered → Cells
cells entries = cells_from [] entries

abbrev pub up_to : ℕ → Numbered → Numbered
up_to k entries = filter (λ x. nat_le x.0 k) entries

-- an entry that holds a cell
abbrev pub is_held : Cells → ℕ → Bool
is_held standing i = list_any (λ x. x.1.index == i) standing

-- Released: the entry i of these is at most k, and holds no cell after the first k.
abbrev pub is_released : Numbered → ℕ → ℕ → Bool
is_released entries k i = nat_le 1 i && nat_le i k && not (is_held (cells (up_to k entries)) i)
