-- What the rows store fits to the kind of their resource. For `central_law_of_logs`.
use Rattle.std.proofs.Common.{◌≡◌, ℕ, ℤ, Bool, true, false, List, Option, Some, None, refl, inl, inr}
use Rattle.host_types.specs.declared.entry.Kind.{Kind}
use Rattle.host_types.specs.declared.entry.Kind.TheVariants as kind
use Rattle.host_types.specs.declared.entry.Effect.{Effect}
use Rattle.host_types.specs.declared.entry.Effect.TheVariants.{Create, Delete, Put}
use Rattle.host_types.specs.declared.entry.Op.{Op}
use Rattle.host_types.specs.declared.entry.Op.TheVariants.{Set, Reset, Put as Put_pair, Insert, Enqueue, Poll, RemoveWord, Lock, Join, Publish}
use Rattle.host_types.specs.declared.entry.Reply.{Reply}
use Rattle.host_types.specs.Cells.{is_of_kind}
use Rattle.log_model.specs.plain.Plain.{Member as Group_member, Plain, Value_is, Counter_is, Map_is, Multimap_is, Set_is, Queue_is, Lock_is, Group_is, Topic_is, kind_of}
use Rattle.log_model.specs.kinds.LawfulRows.{OwnerSuits}
use Rattle.log_model.specs.plain.Rows.{Row, Does, Call, either, row, value_row, counter_row, map_row, multimap_row, set_row, takes_out, queue_row, lock_row, group_row, topic_row, without_session}

abbrev pub Suits : Call → Kind → Effect → Type 0
Suits c kind (Put instance cell content owner) = (instance ≡ c.instance) × (is_of_kind kind cell content ≡ true) × OwnerSuits c.index c.session cell owner
Suits c kind (Create name other) = ⊥
Suits c kind (Delete name instance) = ⊥
Suits c kind _ = Unit {0}

abbrev pub RowSuits : Call → Kind → Row → Type 0
RowSuits c kind (Does effect reply next told) = Suits c kind effect × (kind_of next ≡ kind)
RowSuits c kind _ = Unit {0}

either_suits : (c : Call) (kind : Kind) (b : Bool) (r s : Row) → RowSuits c kind r → RowSuits c kind s → RowSuits c kind (either b r s)
either_suits c kind true r s h k = h
either_suits c kind false r s h k = k

value_suits : (c : Call) (cur : Option (List ℕ)) (op : Op) → RowSuits c kind.Value (value_row c cur op)
value_suits c cur (Set word) = search (either_suits, refl)
value_suits c cur _ = search (either_suits, refl, tt)

counter_suits : (c : Call) (cur : ℤ) (op : Op) → RowSuits c kind.Counter (counter_row c cur op)
counter_suits c cur (Reset number) = search (either_suits, refl)
counter_suits c cur _ = search (either_suits, refl, tt)

map_suits : (c : Call) (m : List (List ℕ × List ℕ)) (op : Op) → RowSuits c kind.Map (map_row c m op)
map_suits c m (Put_pair key word) = search (either_suits, refl)
map_suits c m _ = search (either_suits, refl, tt)

multimap_suits : (c : Call) (m : List (List ℕ × List ℕ)) (op : Op) → RowSuits c kind.Multimap (multimap_row c m op)
multimap_suits c m (Put_pair key word) = search (either_suits, refl, tt)
multimap_suits c m _ = search (either_suits, refl, tt)

set_suits : (c : Call) (m : List (List ℕ)) (op : Op) → RowSuits c kind.Set (set_row c m op)
set_suits c m (Insert word) = search (either_suits, refl, tt)
set_suits c m _ = search (either_suits, refl, tt)

takes_out_suits : (c : Call) (q : List (ℕ × List ℕ)) (o : Option (ℕ × List ℕ)) (found : List ℕ → Reply) (missing : Reply) → RowSuits c kind.Queue (takes_out c q o found missing)
takes_out_suits c q None found missing = (tt, refl)
takes_out_suits c q (Some item) found missing = (tt, refl)

queue_suits : (c : Call) (q : List (ℕ × List ℕ)) (op : Op) → RowSuits c kind.Queue (queue_row c q op)
queue_suits c q (Enqueue word) = ((refl, refl, (refl, inl refl)), refl)
queue_suits c q Poll = takes_out_suits c q _ _ _
queue_suits c q (RemoveWord word) = takes_out_suits c q _ _ _
queue_suits c q _ = search (either_suits, refl, tt)

lock_suits : (c : Call) (ws : List (ℕ × ℕ)) (op : Op) → RowSuits c kind.Lock (lock_row c ws op)
lock_suits c ws (Lock id) = search (either_suits, refl, tt)
lock_suits c ws _ = search (either_suits, refl, tt)

group_suits : (c : Call) (ms : List Group_member) (ls : List ℕ) (op : Op) → RowSuits c kind.Group (group_row c ms ls op)
group_suits c ms ls (Join word) = ((refl, refl, (refl, inr refl)), refl)
group_suits c ms ls _ = search (either_suits, refl, tt)

topic_suits : (c : Call) (ls : List ℕ) (op : Op) → RowSuits c kind.Topic (topic_row c ls op)
topic_suits c ls (Publish word) = (tt, refl)
topic_suits c ls _ = search (either_suits, refl, tt)

-- what a row stores is of its resource's kind, and the kind stays
pub row_suits : (c : Call) (plain : Plain) (op : Op) → RowSuits c (kind_of plain) (row c plain op)
row_suits c (Value_is cur) op = value_suits c cur op
row_suits c (Counter_is number) op = counter_suits c number op
row_suits c (Map_is pairs) op = map_suits c pairs op
row_suits c (Multimap_is pairs) op = multimap_suits c pairs op
row_suits c (Set_is words) op = set_suits c words op
row_suits c (Queue_is items) op = queue_suits c items op
row_suits c (Lock_is waiters) op = lock_suits c waiters op
row_suits c (Group_is members listeners) op = group_suits c members listeners op
row_suits c (Topic_is listeners) op = topic_suits c listeners op

pub closing_kind : (name : List ℕ) (s : ℕ) (plain : Plain) → kind_of (without_session name s plain).0 ≡ kind_of plain
closing_kind name s (Lock_is ws) = refl
closing_kind name s (Group_is ms ls) = refl
closing_kind name s (Topic_is ls) = refl
closing_kind name s _ = refl
