-- Which effects a resource of each kind stores.
use Rattle.std.specs.Prelude.{◌≡◌, ℕ, Bool, true, false, IsTrue}
use Rattle.host_types.specs.Cells.{Cells, is_of_kind}
use Rattle.host_types.specs.Decision.{Decides}
use Rattle.host_types.specs.declared.entry.Kind.{Kind}
use Rattle.host_types.specs.declared.entry.Kind.TheVariants.{Value, Counter, Map, Multimap, Set, Queue, Lock, Group, Topic}
use Rattle.host_types.specs.declared.entry.Cell.{Cell}
use Rattle.host_types.specs.declared.entry.Cell.TheVariants.{One, Named, Member, Pair, At, Waiter, Of}
use Rattle.host_types.specs.declared.entry.Effect.{Effect}
use Rattle.host_types.specs.declared.entry.Effect.TheVariants.{Nothing, Put, Drop, Wipe, WipeKey, Tell}
use Rattle.host_types.specs.declared.entry.Op.{Op}
use Rattle.host_types.specs.declared.entry.Reply.{Reply}
use Rattle.log_model.specs.kinds.Reading.{kind_decision}

-- the cells of its resources
abbrev pub has_cell : Kind → Cell → Bool
has_cell Value One = true
has_cell Counter One = true
has_cell Map (Named key) = true
has_cell Multimap (Pair key word) = true
has_cell Set (Member word) = true
has_cell Queue (At index) = true
has_cell Lock (Waiter session id) = true
has_cell Group (At index) = true
has_cell Group (Of session) = true
has_cell Topic (Of session) = true
has_cell _ _ = false

abbrev pub can_clear : Kind → Bool
can_clear Map = true
can_clear Multimap = true
can_clear Set = true
can_clear Queue = true
can_clear _ = false

abbrev pub is_multimap : Kind → Bool
is_multimap Multimap = true
is_multimap _ = false

abbrev pub is_topic : Kind → Bool
is_topic Topic = true
is_topic _ = false

abbrev pub stores : Kind → Effect → Bool
stores kind Nothing = true
stores kind (Put instance cell content owner) = is_of_kind kind cell content
stores kind (Drop instance cell) = has_cell kind cell
stores kind (Wipe instance) = can_clear kind
stores kind (WipeKey instance key) = is_multimap kind
stores kind (Tell instance word) = is_topic kind
stores kind _ = false

-- each kind decides such effects alone
abbrev pub KindsStoreTheirOwn : Type 0
KindsStoreTheirOwn =
    (kind : Kind) (m : ℕ) (c : Cells) (op : Op) (session index : ℕ) (effect : Effect) (reply : Reply)
    → (kind_decision kind).resolve m c op session index ≡ Decides effect reply
    → IsTrue (stores kind effect)
