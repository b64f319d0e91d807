-- The members of a group by the indexes of their cells, and as they are walked.
use Rattle.std.specs.Prelude.{ℕ, ◌+◌, ◌==◌, ◌++◌, cond, Bool, true, false, [], ◌∷◌, List, Option, Some, None, map}
use Rattle.std.specs.List.{filter}
use Rattle.std.specs.Option.{option_map, option_map_or}
use Rattle.std.specs.Ordering.{nat_cmp, eq_by_cmp}
use Rattle.host_types.specs.declared.entry.Cell.{Cell}
use Rattle.host_types.specs.declared.entry.Cell.TheVariants.{At, Of}
use Rattle.host_types.specs.declared.entry.Effect.{Effect}
use Rattle.host_types.specs.declared.entry.Effect.TheVariants.{Put, Drop}
use Rattle.host_types.specs.declared.entry.Event.{Event}
use Rattle.host_types.specs.declared.entry.Event.TheVariants.{Joined, Left}
use Rattle.host_types.specs.Cells.{Held, Cells}
use Rattle.host_types.specs.Ranges.{owner_number}
use Rattle.log_model.specs.plain.Plain.{Member}
use Rattle.log_model.specs.kinds.Reading.{gather, listed, pick_in, values, member_of, text_in}
use Rattle.cell_table.specs.Lookups.{and_above, cells_above, cells_from, owned_of}

-- the members, as the group's plain form has them
abbrev pub members_in : ℕ → Cells → List Member
members_in m c = values (gather nat_cmp (pick_in m member_of) c)

-- those of a cell that was found and of the cells above it, and those of the cells above one
abbrev pub members_from : ℕ → Cells → Option (Cell × Held) → List Member
members_from m c next = values (listed (pick_in m member_of) (and_above m c next))

abbrev pub members_above : ℕ → Cells → Cell → List Member
members_above m c cell = values (listed (pick_in m member_of) (cells_above m cell c))

-- the member of a cell, by its index and its session
abbrev pub member_seen : Cell → Held → Option (ℕ × ℕ)
member_seen cell held = option_map (λ e. (e.1.index, e.1.session)) (member_of cell held)

abbrev pub indexes_of : List Member → List ℕ
indexes_of ms = map (λ x. x.index) ms

-- the members of a session
abbrev pub members_of : ℕ → List Member → List Member
members_of session ms = filter (λ x. x.session == session) ms

-- what is noted of a member that is seen: its index, and the same if it is of this session
abbrev pub noted : Option (ℕ × ℕ) → List ℕ
noted None = []
noted (Some x) = x.0 ∷ []

abbrev pub noted_of : ℕ → Option (ℕ × ℕ) → List ℕ
noted_of session None = []
noted_of session (Some x) = cond (x.1 == session) (x.0 ∷ []) []

-- The cells among which the members of a session are: those that it owns. Members that nobody owns, of which no log has any, count as
-- those of session 0.
abbrev pub its_cells : ℕ → Cells → Cells
its_cells session c = cond (session == 0) c (owned_of session c)

-- the members from an index on
abbrev pub members_on : ℕ → Cells → ℕ → List Member
members_on m c k = values (listed (pick_in m member_of) (cells_from m (At k) c))

-- the member of a cell that was found
abbrev pub seen_in : Option (Cell × Held) → Option (ℕ × ℕ)
seen_in None = None
seen_in (Some x) = member_seen x.0 x.1

-- of these cells the indexes of the session's members: the one that was found, and those behind it
abbrev pub left_of : ℕ → Cells → ℕ → Option (ℕ × ℕ) → List ℕ
left_of m c session None = []
left_of m c session (Some w) = noted_of session (Some w) ++ indexes_of (members_of session (members_on m c (w.0 + 1)))

-- a cell that was found, unless it is a listener's
abbrev pub is_listening : Cell → Bool
is_listening (Of session) = true
is_listening _ = false

abbrev pub before_listeners : Option (Cell × Held) → Option (Cell × Held)
before_listeners None = None
before_listeners (Some x) = cond (is_listening x.0) None (Some x)

-- what a cell holds is a member of this session
abbrev pub is_of_session : ℕ → Option Held → Bool
is_of_session session None = false
is_of_session session (Some held) = option_map_or (λ word. owner_number held.owner == session) (text_in held.content) false

-- the event that an effect of the entry with this index makes
abbrev pub group_event : List ℕ → ℕ → Effect → Option Event
group_event name index (Put m (At j) content owner) = Some (Joined name index)
group_event name index (Drop m (At j)) = Some (Left name j)
group_event name index _ = None

-- that these members left, as it is told to one session, and to the one of a listener's cell
abbrev pub told_left : List ℕ → List ℕ → ℕ → List (ℕ × Event)
told_left name gone session = map (λ i. (session, Left name i)) gone

abbrev pub told_by_cell : List ℕ → List ℕ → ℕ → Cell → List (ℕ × Event)
told_by_cell name gone closed (Of session) = cond (eq_by_cmp nat_cmp closed session) [] (told_left name gone session)
told_by_cell name gone closed _ = []
