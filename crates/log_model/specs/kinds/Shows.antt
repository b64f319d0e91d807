-- A plain resource read off the cells of its instance, place by place.
use Rattle.std.specs.Prelude.{◌≡◌, ℕ, ◌<◌, ℤ, pos, List, map, Option, Some, IsTrue, None, Bool}
use Rattle.std.specs.List.{list_any}
use Rattle.std.specs.Option.{option_map, option_map_or}
use Rattle.std.specs.FinMap.{find, is_sorted}
use Rattle.std.specs.Ordering.{nat_cmp}
use Rattle.host_types.specs.declared.entry.Cell.{Cell}
use Rattle.host_types.specs.declared.entry.Cell.TheVariants.{One, Named, Member as Member_cell, Pair, At, Waiter, Of}
use Rattle.host_types.specs.declared.entry.Body.TheVariants.{Close, Command}
use Rattle.host_types.specs.declared.entry.Content.{Content}
use Rattle.host_types.specs.declared.entry.Content.TheVariants.{Text, Number}
use Rattle.host_types.specs.declared.entry.Effect.{Effect}
use Rattle.host_types.specs.declared.entry.Event.{Event}
use Rattle.host_types.specs.declared.entry.Op.{Op}
use Rattle.host_types.specs.declared.entry.Reply.{Reply}
use Rattle.host_types.specs.Cells.{Held, Cell_at, Place, Cells, at, stands, text_cmp, instance_after, without_owner}
use Rattle.log_model.specs.cleaning.Cells.{fits_with_owner, after}
use Rattle.log_model.specs.plain.Plain.{Member, Plain, Value_is, Counter_is, Map_is, Multimap_is, Set_is, Queue_is, Lock_is, Group_is, Topic_is, kind_of, has_item, keyed, pair_cmp}
use Rattle.log_model.specs.plain.Rows.{is_waiter, Does, row, without_session}

-- what the cells show at a place
abbrev pub content_at : Cells → Place → Option Content
content_at cells place = option_map (λ held. held.content) (at cells place)

-- a counter that was never set is 0
abbrev pub number_of : Option Content → ℤ
number_of (Some (Number number)) = number
number_of _ = pos 0

-- the index of the entry that holds a place
abbrev pub index_at : Cells → Place → ℕ
index_at cells place = option_map_or (λ held. held.index) (at cells place) 0

-- the content and the owner of a member's cell
abbrev pub member_at : Cells → Place → Option (Content × Option ℕ)
member_at cells place = option_map (λ held. (held.content, held.owner)) (at cells place)

-- what a member's cell has
abbrev pub member_cell : Member → Content × Option ℕ
member_cell x = (Text x.word, Some x.session)

-- the members as pairs, by their indexes
abbrev pub by_index : List Member → List (ℕ × Member)
by_index members = map (λ x. (x.index, x)) members

-- the waiters with the indexes that hold their cells
abbrev pub by_holding : ℕ → Cells → List (ℕ × ℕ) → List (ℕ × (ℕ × ℕ))
by_holding m c waiters = map (λ w. (index_at c (Cell_at m (Waiter w.0 w.1)), w)) waiters

-- the listeners of an instance
abbrev pub Listens : ℕ → Cells → List ℕ → Type 0
Listens m c listeners = IsTrue (is_sorted nat_cmp (keyed listeners)) × ((session : ℕ) → stands c (Cell_at m (Of session)) ≡ has_item nat_cmp session listeners)

-- maps, sets and listeners stand by rising key, items and members by rising index, waiters by rising holding index
abbrev pub Shows : ℕ → Cells → Plain → Type 0
Shows m c (Value_is cur) = content_at c (Cell_at m One) ≡ option_map Text cur
Shows m c (Counter_is number) = number_of (content_at c (Cell_at m One)) ≡ number
Shows m c (Map_is pairs) = IsTrue (is_sorted text_cmp pairs) × ((key : List ℕ) → content_at c (Cell_at m (Named key)) ≡ option_map Text (find text_cmp key pairs))
Shows m c (Multimap_is pairs) = IsTrue (is_sorted pair_cmp (keyed pairs)) × ((key word : List ℕ) → stands c (Cell_at m (Pair key word)) ≡ has_item pair_cmp (key, word) pairs)
Shows m c (Set_is words) = IsTrue (is_sorted text_cmp (keyed words)) × ((word : List ℕ) → stands c (Cell_at m (Member_cell word)) ≡ has_item text_cmp word words)
Shows m c (Queue_is items) = IsTrue (is_sorted nat_cmp items) × ((i : ℕ) → content_at c (Cell_at m (At i)) ≡ option_map Text (find nat_cmp i items))
Shows m c (Lock_is waiters) = IsTrue (is_sorted nat_cmp (by_holding m c waiters)) × ((session id : ℕ) → stands c (Cell_at m (Waiter session id)) ≡ list_any (is_waiter (session, id)) waiters)
Shows m c (Group_is members listeners) = IsTrue (is_sorted nat_cmp (by_index members)) × ((i : ℕ) → member_at c (Cell_at m (At i)) ≡ option_map member_cell (find nat_cmp i (by_index members))) × Listens m c listeners
Shows m c (Topic_is listeners) = Listens m c listeners

-- the index is above all that the arrivals in the instance have
abbrev pub IsFresh : ℕ → ℕ → Cells → Type 0
IsFresh m i c = ((j : ℕ) → IsTrue (stands c (Cell_at m (At j))) → j < i) × ((session id : ℕ) → IsTrue (stands c (Cell_at m (Waiter session id))) → index_at c (Cell_at m (Waiter session id)) < i)

-- after what a row stores, the cells show the row's resource
abbrev pub RowsShow : Type 0
RowsShow =
    (c : Cells) (m i time session seq : ℕ) (name : List ℕ) (plain next : Plain) (op : Op) (effect : Effect) (reply : Reply) (told : List (ℕ × Event))
    → Shows m c plain
    → IsFresh m i c
    → row (record { name = name; instance = m; session = session; index = i }) plain op ≡ Does effect reply next told
    → IsTrue (fits_with_owner c effect)
    → Shows m (after c i (record { time = time; body = Command session seq effect reply })) next

-- waiters and listeners are owned by their session. The cells of the other kinds, but those of members, have no owner
abbrev pub OwnersSuit : ℕ → Cells → Plain → Type 0
OwnersSuit m c (Lock_is waiters) = (session id : ℕ) (held : Held) → at c (Cell_at m (Waiter session id)) ≡ Some held → held.owner ≡ Some session
OwnersSuit m c (Group_is members listeners) = (session : ℕ) (held : Held) → at c (Cell_at m (Of session)) ≡ Some held → held.owner ≡ Some session
OwnersSuit m c (Topic_is listeners) = (session : ℕ) (held : Held) → at c (Cell_at m (Of session)) ≡ Some held → held.owner ≡ Some session
OwnersSuit m c _ = (cell : Cell) (held : Held) → at c (Cell_at m cell) ≡ Some held → held.owner ≡ None

-- after a session is closed, the cells show the resource without it
abbrev pub CloseShows : Type 0
CloseShows =
    (c : Cells) (m i time session : ℕ) (expired : Bool) (name : List ℕ) (plain : Plain)
    → Shows m c plain
    → OwnersSuit m c plain
    → Shows m (after c i (record { time = time; body = Close session expired })) (without_session name session plain).0

-- whatever leaves the cells of an instance leaves what they show
abbrev pub OthersShow : Type 0
OthersShow = (c d : Cells) (m : ℕ) (plain : Plain) → ((cell : Cell) → at d (Cell_at m cell) ≡ at c (Cell_at m cell)) → Shows m c plain → Shows m d plain

-- ---- the same for one resource by itself, whose own instance counts as named

-- after what a row decides, its cells show what the row makes of it
abbrev pub ResourceRowsShow : Type 0
ResourceRowsShow =
    (c : Cells) (m i session : ℕ) (name : List ℕ) (plain next : Plain) (op : Op) (effect : Effect) (reply : Reply) (told : List (ℕ × Event))
    → Shows m c plain
    → IsFresh m i c
    → row (record { name = name; instance = m; session = session; index = i }) plain op ≡ Does effect reply next told
    → Shows m (instance_after (kind_of plain) m c i effect) next

-- without those of a session, they show it without the session
abbrev pub ResourceClosesShow : Type 0
ResourceClosesShow =
    (c : Cells) (m session : ℕ) (name : List ℕ) (plain : Plain)
    → Shows m c plain
    → OwnersSuit m c plain
    → Shows m (without_owner session c) (without_session name session plain).0
