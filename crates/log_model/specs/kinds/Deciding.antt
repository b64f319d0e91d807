-- How a resource of cells decides, shows and tells, by its plain form alone; and what it means that it does so as the plain step.
use Rattle.std.specs.Prelude.{◌≡◌, ℕ, not, List, [], None, Result, Ok, Err, IsTrue}
use Rattle.std.specs.List.{filter}
use Rattle.std.specs.FinMap.Entries.{is_sorted}
use Rattle.host_types.specs.Cells.{Cell_at, Cells, place_cmp, at, instance_after, without_owner}
use Rattle.host_types.specs.Decision.{Choice, Decides, Declines, ResourceDecision, is_looking}
use Rattle.host_types.specs.declared.entry.Kind.{Kind}
use Rattle.host_types.specs.declared.entry.Cell.{Cell}
use Rattle.host_types.specs.declared.entry.Cell.TheVariants.{At, Waiter}
use Rattle.host_types.specs.declared.entry.Op.{Op}
use Rattle.host_types.specs.declared.entry.Effect.{Effect}
use Rattle.host_types.specs.declared.entry.Effect.TheVariants.{Put, Drop, Tell}
use Rattle.host_types.specs.declared.entry.Event.{Event}
use Rattle.host_types.specs.declared.entry.Event.TheVariants.{Message, Joined, Left}
use Rattle.host_types.specs.declared.entry.Reply.{Reply}
use Rattle.host_types.specs.declared.entry.Refusal.{Refusal}
use Rattle.host_types.specs.declared.entry.Refusal.TheVariants.{Kind as Other_kind, Range}
use Rattle.log_model.specs.plain.Plain.{Plain, Lock_is, Group_is, Topic_is, kind_of, new_plain}
use Rattle.log_model.specs.plain.Rows.{Row, Does, Out_of_range, Of_no_kind, Call, row, is_waiter, granted, tells_all, without_session}
use Rattle.log_model.specs.kinds.Shows.{Shows, IsFresh, OwnersSuit}

-- what a row decides and shows, for a resource of this kind
abbrev pub chosen : Kind → Row → Choice
chosen kind (Does effect reply next told) = Decides effect reply
chosen kind (Out_of_range cur) = Declines (Range cur)
chosen kind Of_no_kind = Declines (Other_kind kind)

abbrev pub shown : Kind → Row → Result Reply Refusal
shown kind (Does effect reply next told) = Ok reply
shown kind (Out_of_range cur) = Err (Range cur)
shown kind Of_no_kind = Err (Other_kind kind)

-- the events of the stored effect of the entry i, on the resource of this name as it is
abbrev pub effect_tells : ℕ → List ℕ → Plain → Effect → List (ℕ × Event)
effect_tells i name (Topic_is ls) (Tell m word) = tells_all ls (Message name word)
effect_tells i name (Group_is ms ls) (Put m (At j) content owner) = tells_all ls (Joined name i)
effect_tells i name (Group_is ms ls) (Drop m (At j)) = tells_all ls (Left name j)
effect_tells i name (Lock_is ws) (Drop m (Waiter session id)) = granted name ws (filter (λ w. not (is_waiter (session, id) w)) ws)
effect_tells i name _ _ = []

-- who does it to what; only the events name the resource
abbrev pub call_of : List ℕ → ℕ → ℕ → ℕ → Call
call_of name m session index = record { name = name; instance = m; session = session; index = index }

-- The decision of a kind whose plain form is read off the cells like this: that of its rows. An operation that looks has the same
-- row for every session and index.
abbrev pub decided_by : (ℕ → Cells → Plain) → ResourceDecision
decided_by read = record {
  resolve = λ m c op session index. chosen (kind_of (read m c)) (row (call_of [] m session index) (read m c) op);
  look = λ m c op. shown (kind_of (read m c)) (row (call_of [] m 0 0) (read m c) op);
  tells = λ m c name effect index. effect_tells index name (read m c) effect;
  tells_close = λ m c name session. (without_session name session (read m c)).1;
}

-- Wherever cells in order show a plain resource of this kind, the decision is that of the plain step.
pub record DecidesAsPlain (kind : Kind) (d : ResourceDecision) : Type 0 where
  pub resolves : (m : ℕ) (c : Cells) (plain : Plain) → kind_of plain ≡ kind → IsTrue (is_sorted place_cmp c) → Shows m c plain → (name : List ℕ) (op : Op) (session index : ℕ) → d.resolve m c op session index ≡ chosen kind (row (call_of name m session index) plain op)
  pub looks : (m : ℕ) (c : Cells) (plain : Plain) → kind_of plain ≡ kind → IsTrue (is_sorted place_cmp c) → Shows m c plain → (name : List ℕ) (op : Op) (session index : ℕ) → IsTrue (is_looking op) → d.look m c op ≡ shown kind (row (call_of name m session index) plain op)
  pub tells : (m : ℕ) (c : Cells) (plain next : Plain) → kind_of plain ≡ kind → IsTrue (is_sorted place_cmp c) → Shows m c plain → (name : List ℕ) (op : Op) (session index : ℕ) (effect : Effect) (reply : Reply) (told : List (ℕ × Event)) → row (call_of name m session index) plain op ≡ Does effect reply next told → d.tells m c name effect index ≡ told
  pub tells_close : (m : ℕ) (c : Cells) (plain : Plain) → kind_of plain ≡ kind → IsTrue (is_sorted place_cmp c) → Shows m c plain → (name : List ℕ) (session : ℕ) → d.tells_close m c name session ≡ (without_session name session plain).1

-- The cells go on to show a plain resource of this kind: what a row stores is of its instance, and after it they show the row's
-- resource; after the end of a session they show the resource without it; an instance without cells shows the new resource; and
-- what leaves the cells of an instance leaves what they show.
pub record KeepsShowing (kind : Kind) : Type 0 where
  pub rows : (m : ℕ) (c : Cells) (plain next : Plain) → kind_of plain ≡ kind → Shows m c plain → (name : List ℕ) (op : Op) (session index : ℕ) (effect : Effect) (reply : Reply) (told : List (ℕ × Event)) → IsFresh m index c → row (call_of name m session index) plain op ≡ Does effect reply next told → (kind_of next ≡ kind) × Shows m (instance_after kind m c index effect) next
  pub closes : (m : ℕ) (c : Cells) (plain : Plain) → kind_of plain ≡ kind → Shows m c plain → OwnersSuit m c plain → (name : List ℕ) (session : ℕ) → (kind_of (without_session name session plain).0 ≡ kind) × Shows m (without_owner session c) (without_session name session plain).0
  pub starts : (m : ℕ) (c : Cells) → ((cell : Cell) → at c (Cell_at m cell) ≡ None) → Shows m c (new_plain kind)
  pub stays : (m : ℕ) (c d : Cells) (plain : Plain) → kind_of plain ≡ kind → ((cell : Cell) → at d (Cell_at m cell) ≡ at c (Cell_at m cell)) → Shows m c plain → Shows m d plain
