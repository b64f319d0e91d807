-- A plain resource computed from the cells of its instance, for each kind; and the decision of a kind, which is that of the rows on
-- what is read.
use Rattle.std.specs.Prelude.{◌≡◌, ℕ, cond, ◌==◌, List, [], ◌∷◌, map, Option, Some, None, IsTrue}
use Rattle.std.specs.Option.{option_map}
use Rattle.std.specs.FinMap.Entries.{put, is_sorted}
use Rattle.std.specs.Ordering.{nat_cmp}
use Rattle.std.specs.declared.cmp.Ordering.{Ordering}
use Rattle.host_types.specs.declared.entry.Kind.{Kind}
use Rattle.host_types.specs.declared.entry.Kind.TheVariants.{Value, Counter, Map, Multimap, Set, Queue, Lock, Group, Topic}
use Rattle.host_types.specs.declared.entry.Cell.{Cell}
use Rattle.host_types.specs.declared.entry.Cell.TheVariants.{One, Named, Member as Member_cell, Pair, At, Waiter, Of}
use Rattle.host_types.specs.declared.entry.Content.{Content}
use Rattle.host_types.specs.declared.entry.Content.TheVariants.{Text}
use Rattle.host_types.specs.declared.entry.Effect.{Effect}
use Rattle.host_types.specs.declared.entry.Op.{Op}
use Rattle.host_types.specs.Cells.{Place, Cell_at, Held, Cells, place_cmp, at, text_cmp}
use Rattle.host_types.specs.Decision.{ResourceDecision, ResourceIsLawful, ResourceHasOneOwner}
use Rattle.host_types.specs.Ranges.{owner_number}
use Rattle.log_model.specs.plain.Plain.{Member, Plain, Value_is, Counter_is, Map_is, Multimap_is, Set_is, Queue_is, Lock_is, Group_is, Topic_is, kind_of, pair_cmp}
use Rattle.log_model.specs.kinds.Shows.{content_at, number_of, Shows}
use Rattle.log_model.specs.kinds.Deciding.{decided_by, DecidesAsPlain, KeepsShowing}

-- ---- what is gathered of the cells

-- what is picked of one cell, by rising key
abbrev pub picked : {K X : Type 0} → (K → K → Ordering) → Option (K × X) → List (K × X) → List (K × X)
picked cmp None rest = rest
picked cmp (Some w) rest = put cmp w.0 w.1 rest

-- what is picked of all the cells
abbrev pub gather : {K X : Type 0} → (K → K → Ordering) → (Place × Held → Option (K × X)) → Cells → List (K × X)
gather cmp pick [] = []
gather cmp pick (e ∷ cells) = picked cmp (pick e) (gather cmp pick cells)

abbrev pub picked_first : {K X : Type 0} → Option (K × X) → List (K × X) → List (K × X)
picked_first None rest = rest
picked_first (Some w) rest = w ∷ rest

-- what is picked of the cells, in the order of the cells
abbrev pub listed : {K X : Type 0} → (Place × Held → Option (K × X)) → Cells → List (K × X)
listed pick [] = []
listed pick (e ∷ cells) = picked_first (pick e) (listed pick cells)

-- what is picked of the cells of one instance
abbrev pub pick_in : {K X : Type 0} → ℕ → (Cell → Held → Option (K × X)) → Place × Held → Option (K × X)
pick_in m pick (Cell_at instance cell, held) = cond (m == instance) (pick cell held) None
pick_in m pick _ = None

abbrev pub keys : {K X : Type 0} → List (K × X) → List K
keys es = map (λ e. e.0) es

abbrev pub values : {K X : Type 0} → List (K × X) → List X
values es = map (λ e. e.1) es

-- ---- what a cell is to its kind

-- the word of a content
abbrev pub text_in : Content → Option (List ℕ)
text_in (Text word) = Some word
text_in _ = None

abbrev pub text_of : Option Content → Option (List ℕ)
text_of None = None
text_of (Some content) = text_in content

abbrev pub keyed_by : {K X : Type 0} → K → Option X → Option (K × X)
keyed_by key x = option_map (λ x. (key, x)) x

-- the pairs of a map by their keys
abbrev pub map_cell : Cell → Held → Option (List ℕ × List ℕ)
map_cell (Named key) held = keyed_by key (text_in held.content)
map_cell _ held = None

-- the pairs of a multimap
abbrev pub pair_cell : Cell → Held → Option ((List ℕ × List ℕ) × Unit {0})
pair_cell (Pair key word) held = Some ((key, word), tt)
pair_cell _ held = None

-- the words of a set
abbrev pub word_cell : Cell → Held → Option (List ℕ × Unit {0})
word_cell (Member_cell word) held = Some (word, tt)
word_cell _ held = None

-- the items of a queue by their indexes
abbrev pub item_cell : Cell → Held → Option (ℕ × List ℕ)
item_cell (At index) held = keyed_by index (text_in held.content)
item_cell _ held = None

-- the waiters by the indexes that hold their cells
abbrev pub waiter_cell : Cell → Held → Option (ℕ × (ℕ × ℕ))
waiter_cell (Waiter session id) held = Some (held.index, (session, id))
waiter_cell _ held = None

-- The members by their indexes. One that nobody owns, of which no log has any, counts as a member of no session.
abbrev pub member_in : ℕ → Held → Option Member
member_in index held = option_map (λ word. record { index = index; session = owner_number held.owner; word = word }) (text_in held.content)

abbrev pub member_of : Cell → Held → Option (ℕ × Member)
member_of (At index) held = keyed_by index (member_in index held)
member_of _ held = None

-- the listeners
abbrev pub listener_cell : Cell → Held → Option (ℕ × Unit {0})
listener_cell (Of session) held = Some (session, tt)
listener_cell _ held = None

-- ---- the resource of each kind

abbrev pub listeners_in : ℕ → Cells → List ℕ
listeners_in m c = keys (gather nat_cmp (pick_in m listener_cell) c)

abbrev pub plain_in : Kind → ℕ → Cells → Plain
plain_in Value m c = Value_is (text_of (content_at c (Cell_at m One)))
plain_in Counter m c = Counter_is (number_of (content_at c (Cell_at m One)))
plain_in Map m c = Map_is (gather text_cmp (pick_in m map_cell) c)
plain_in Multimap m c = Multimap_is (keys (gather pair_cmp (pick_in m pair_cell) c))
plain_in Set m c = Set_is (keys (gather text_cmp (pick_in m word_cell) c))
plain_in Queue m c = Queue_is (gather nat_cmp (pick_in m item_cell) c)
plain_in Lock m c = Lock_is (values (gather nat_cmp (pick_in m waiter_cell) c))
plain_in Group m c = Group_is (values (gather nat_cmp (pick_in m member_of) c)) (listeners_in m c)
plain_in Topic m c = Topic_is (listeners_in m c)

-- what each kind decides, shows and tells
abbrev pub kind_decision : Kind → ResourceDecision
kind_decision kind = decided_by (plain_in kind)

-- ---- the laws of reading

-- where the cells are in order and show a plain resource, it is read
abbrev pub ReadsWhatIsShown : Type 0
ReadsWhatIsShown = (m : ℕ) (c : Cells) (plain : Plain) → IsTrue (is_sorted place_cmp c) → Shows m c plain → plain_in (kind_of plain) m c ≡ plain

-- it is read off the cells of its instance alone
abbrev pub ReadsItsOwnCells : Type 0
ReadsItsOwnCells =
    (kind : Kind) (m : ℕ) (c d : Cells)
    → IsTrue (is_sorted place_cmp c)
    → IsTrue (is_sorted place_cmp d)
    → ((cell : Cell) → at d (Cell_at m cell) ≡ at c (Cell_at m cell))
    → plain_in kind m d ≡ plain_in kind m c

-- so is all that its kind decides, shows and tells
pub record DecidesAlike (m : ℕ) (c d : Cells) (x : ResourceDecision) : Type 0 where
  pub resolves : (op : Op) (session index : ℕ) → x.resolve m d op session index ≡ x.resolve m c op session index
  pub looks : (op : Op) → x.look m d op ≡ x.look m c op
  pub tells : (name : List ℕ) (effect : Effect) (index : ℕ) → x.tells m d name effect index ≡ x.tells m c name effect index
  pub tells_close : (name : List ℕ) (session : ℕ) → x.tells_close m d name session ≡ x.tells_close m c name session

abbrev pub DecidesByItsOwnCells : Type 0
DecidesByItsOwnCells =
    (kind : Kind) (m : ℕ) (c d : Cells)
    → IsTrue (is_sorted place_cmp c)
    → IsTrue (is_sorted place_cmp d)
    → ((cell : Cell) → at d (Cell_at m cell) ≡ at c (Cell_at m cell))
    → DecidesAlike m c d (kind_decision kind)

-- ---- the laws of the kinds

-- each decides as the plain step, and its cells go on to show its plain resource
abbrev pub KindsDecideAsPlain : Type 0
KindsDecideAsPlain = (kind : Kind) → DecidesAsPlain kind (kind_decision kind)

abbrev pub KindsKeepShowing : Type 0
KindsKeepShowing = (kind : Kind) → KeepsShowing kind

-- what it decides is lawful, and a cell has one owner
abbrev pub KindsAreLawful : Type 0
KindsAreLawful = (kind : Kind) → ResourceIsLawful kind (kind_decision kind)

abbrev pub KindsHaveOneOwner : Type 0
KindsHaveOneOwner = (kind : Kind) → ResourceHasOneOwner (kind_decision kind)
