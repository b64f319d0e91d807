-- What each operation does to a plain resource, what is stored of it, and what it answers and tells.
use Rattle.std.specs.Prelude.{ℕ, ℤ, pos, negsuc, ◌+ℤ◌, min, Bool, true, false, cond, not, ◌&&◌, ◌==◌, int_le, List, [], ◌∷◌, ◌++◌, map, length, take, Option, Some, None, is_some}
use Rattle.std.specs.List.{filter, list_any, find as find_first, count_by, flat_map}
use Rattle.std.specs.Option.{option_map_or}
use Rattle.std.specs.FinMap.Entries.{put, find, where_key}
use Rattle.std.specs.Ordering.{nat_cmp}
use Rattle.host_types.specs.declared.entry.Cell.{Cell}
use Rattle.host_types.specs.declared.entry.Cell.TheVariants.{One, Named, Member as Member_cell, Pair, At, Waiter, Of}
use Rattle.host_types.specs.declared.entry.Content.{Content}
use Rattle.host_types.specs.declared.entry.Content.TheVariants.{Mark, Text, Number}
use Rattle.host_types.specs.declared.entry.Effect.{Effect}
use Rattle.host_types.specs.declared.entry.Effect.TheVariants.{Nothing, Put, Drop, Wipe, WipeKey, Tell}
use Rattle.host_types.specs.declared.entry.Event.{Event}
use Rattle.host_types.specs.declared.entry.Event.TheVariants.{Message, Granted, Joined, Left}
use Rattle.host_types.specs.declared.entry.Op.{Op}
use Rattle.host_types.specs.declared.entry.Op.TheVariants.{Size, Clear, Get, Set, GetSet, Cas, Unset, Reset, Add, Put as Put_pair, PutIf, Replace, Remove, GetOf, RemoveOne, Count, Insert, Discard, Has, Enqueue, Poll, Peek, RemoveWord, Lock, Try, Unlock, Holder, Join, Leave, Members, Leader, Listen, Unlisten, Publish}
use Rattle.host_types.specs.declared.entry.Reply.{Reply}
use Rattle.host_types.specs.declared.entry.Reply.TheVariants.{None as No_reply, Text as Text_reply, Number as Number_reply, Truth, Index, Holder as Holder_reply, Words, Indexes}
use Rattle.host_types.specs.Cells.{text_cmp, is_text}
use Rattle.log_model.specs.plain.Plain.{Member, Plain, Value_is, Counter_is, Map_is, Multimap_is, Set_is, Queue_is, Lock_is, Group_is, Topic_is, with_item, has_item, without_item, pair_cmp, head_of}

-- what an operation does: the effect and reply that are stored, the resource afterwards, and the events with their sessions
pub data Row : Type 0 where
  Does : Effect → Reply → Plain → List (ℕ × Event) → Row
  Out_of_range : ℤ → Row
  Of_no_kind : Row

-- who does it to what
pub record Call : Type 0 where
  pub name : List ℕ
  pub instance : ℕ
  pub session : ℕ
  pub index : ℕ

-- nothing is changed
abbrev pub looks : Reply → Plain → Row
looks reply plain = Does Nothing reply plain []

abbrev pub puts_text : Call → Cell → List ℕ → Effect
puts_text c cell word = Put c.instance cell (Text word) None

abbrev pub puts_mark : Call → Cell → Effect
puts_mark c cell = Put c.instance cell Mark None

abbrev pub puts_own : Call → Cell → Content → Effect
puts_own c cell content = Put c.instance cell content (Some c.session)

abbrev pub text_or_none : Option (List ℕ) → Reply
text_or_none None = No_reply
text_or_none (Some word) = Text_reply word

-- how many there are, as a reply tells it: a greater number is told as the greatest one of 8 signed bytes
abbrev pub counted : ℕ → ℕ
counted n = min n 9223372036854775807

abbrev pub count_reply : ℕ → Reply
count_reply n = Number_reply (pos (counted n))

-- the first row where the test is true, else the second
abbrev pub either : Bool → Row → Row → Row
either = cond

abbrev pub clears : Call → Bool → Plain → Plain → Row
clears c any cleared plain = either any (Does (Wipe c.instance) No_reply cleared []) (looks No_reply plain)

abbrev pub value_row : Call → Option (List ℕ) → Op → Row
value_row c cur (Set word) = Does (puts_text c One word) No_reply (Value_is (Some word)) []
value_row c cur (GetSet word) = Does (puts_text c One word) (text_or_none cur) (Value_is (Some word)) []
value_row c cur (Cas old new) = either (option_map_or (is_text old) cur false) (Does (puts_text c One new) (Truth true) (Value_is (Some new)) []) (looks (Truth false) (Value_is cur))
value_row c cur Unset = either (is_some cur) (Does (Drop c.instance One) (text_or_none cur) (Value_is None) []) (looks No_reply (Value_is cur))
value_row c cur Get = looks (text_or_none cur) (Value_is cur)
value_row c cur _ = Of_no_kind

abbrev pub fits_i64 : ℤ → Bool
fits_i64 z = int_le (negsuc 9223372036854775807) z && int_le z (pos 9223372036854775807)

abbrev pub counter_row : Call → ℤ → Op → Row
counter_row c cur (Reset number) = Does (Put c.instance One (Number number) None) No_reply (Counter_is number) []
counter_row c cur (Add number) = let sum = cur +ℤ number in either (fits_i64 sum) (Does (Put c.instance One (Number sum) None) (Number_reply sum) (Counter_is sum) []) (Out_of_range cur)
counter_row c cur Get = looks (Number_reply cur) (Counter_is cur)
counter_row c cur _ = Of_no_kind

abbrev pub map_row : Call → List (List ℕ × List ℕ) → Op → Row
map_row c m (Put_pair key word) = Does (puts_text c (Named key) word) (text_or_none (find text_cmp key m)) (Map_is (put text_cmp key word m)) []
map_row c m (PutIf key word) = either (is_some (find text_cmp key m)) (looks (text_or_none (find text_cmp key m)) (Map_is m)) (Does (puts_text c (Named key) word) No_reply (Map_is (put text_cmp key word m)) [])
map_row c m (Replace key word) = either (is_some (find text_cmp key m)) (Does (puts_text c (Named key) word) (text_or_none (find text_cmp key m)) (Map_is (put text_cmp key word m)) []) (looks No_reply (Map_is m))
map_row c m (Remove key) = either (is_some (find text_cmp key m)) (Does (Drop c.instance (Named key)) (text_or_none (find text_cmp key m)) (Map_is (where_key text_cmp (λ k. not (is_text key k)) m)) []) (looks No_reply (Map_is m))
map_row c m (GetOf key) = looks (text_or_none (find text_cmp key m)) (Map_is m)
map_row c m Size = looks (count_reply (length m)) (Map_is m)
map_row c m Clear = clears c (is_some (head_of m)) (Map_is []) (Map_is m)
map_row c m _ = Of_no_kind

abbrev pub multimap_row : Call → List (List ℕ × List ℕ) → Op → Row
multimap_row c m (Put_pair key word) = either (has_item pair_cmp (key, word) m) (looks (Truth false) (Multimap_is m)) (Does (puts_mark c (Pair key word)) (Truth true) (Multimap_is (with_item pair_cmp (key, word) m)) [])
multimap_row c m (RemoveOne key word) = either (has_item pair_cmp (key, word) m) (Does (Drop c.instance (Pair key word)) (Truth true) (Multimap_is (without_item pair_cmp (key, word) m)) []) (looks (Truth false) (Multimap_is m))
multimap_row c m (Remove key) = either (list_any (λ p. is_text key p.0) m) (Does (WipeKey c.instance key) (count_reply (count_by (λ p. is_text key p.0) m)) (Multimap_is (filter (λ p. not (is_text key p.0)) m)) []) (looks (count_reply 0) (Multimap_is m))
multimap_row c m (GetOf key) = looks (Words (take 16 (map (λ p. p.1) (filter (λ p. is_text key p.0) m)))) (Multimap_is m)
multimap_row c m (Count key) = looks (count_reply (count_by (λ p. is_text key p.0) m)) (Multimap_is m)
multimap_row c m Size = looks (count_reply (length m)) (Multimap_is m)
multimap_row c m Clear = clears c (is_some (head_of m)) (Multimap_is []) (Multimap_is m)
multimap_row c m _ = Of_no_kind

abbrev pub set_row : Call → List (List ℕ) → Op → Row
set_row c m (Insert word) = either (has_item text_cmp word m) (looks (Truth false) (Set_is m)) (Does (puts_mark c (Member_cell word)) (Truth true) (Set_is (with_item text_cmp word m)) [])
set_row c m (Discard word) = either (has_item text_cmp word m) (Does (Drop c.instance (Member_cell word)) (Truth true) (Set_is (without_item text_cmp word m)) []) (looks (Truth false) (Set_is m))
set_row c m (Has word) = looks (Truth (has_item text_cmp word m)) (Set_is m)
set_row c m Size = looks (count_reply (length m)) (Set_is m)
set_row c m Clear = clears c (is_some (head_of m)) (Set_is []) (Set_is m)
set_row c m _ = Of_no_kind

-- the item with this index is taken out of the queue
abbrev pub takes_out : Call → List (ℕ × List ℕ) → Option (ℕ × List ℕ) → (List ℕ → Reply) → Reply → Row
takes_out c q None found missing = looks missing (Queue_is q)
takes_out c q (Some item) found missing = Does (Drop c.instance (At item.0)) (found item.1) (Queue_is (filter (λ x. not (x.0 == item.0)) q)) []

abbrev pub queue_row : Call → List (ℕ × List ℕ) → Op → Row
queue_row c q (Enqueue word) = Does (puts_text c (At c.index) word) No_reply (Queue_is (q ++ (c.index, word) ∷ [])) []
queue_row c q Poll = takes_out c q (head_of q) Text_reply No_reply
queue_row c q Peek = looks (option_map_or (λ x. Text_reply x.1) (head_of q) No_reply) (Queue_is q)
queue_row c q (RemoveWord word) = takes_out c q (find_first (λ x. is_text word x.1) q) (λ _. Truth true) (Truth false)
queue_row c q Size = looks (count_reply (length q)) (Queue_is q)
queue_row c q Clear = clears c (is_some (head_of q)) (Queue_is []) (Queue_is q)
queue_row c q _ = Of_no_kind

abbrev pub is_waiter : ℕ × ℕ → ℕ × ℕ → Bool
is_waiter a b = a.0 == b.0 && a.1 == b.1

abbrev pub is_holder : ℕ × ℕ → List (ℕ × ℕ) → Bool
is_holder w [] = false
is_holder w (x ∷ xs) = is_waiter w x

-- where another holds the lock than before, its session is told
abbrev pub granted : List ℕ → List (ℕ × ℕ) → List (ℕ × ℕ) → List (ℕ × Event)
granted name before [] = []
granted name before (w ∷ ws) = cond (is_holder w before) [] ((w.0, Granted name w.1) ∷ [])

abbrev pub lock_row : Call → List (ℕ × ℕ) → Op → Row
lock_row c ws (Lock id) = either (list_any (is_waiter (c.session, id)) ws) (looks (Truth (is_holder (c.session, id) ws)) (Lock_is ws)) (Does (puts_own c (Waiter c.session id) Mark) (Truth (not (is_some (head_of ws)))) (Lock_is (ws ++ (c.session, id) ∷ [])) [])
lock_row c ws (Try id) = either (is_some (head_of ws)) (looks (Truth (is_holder (c.session, id) ws)) (Lock_is ws)) (Does (puts_own c (Waiter c.session id) Mark) (Truth true) (Lock_is ((c.session, id) ∷ [])) [])
lock_row c ws (Unlock id) = let left = filter (λ w. not (is_waiter (c.session, id) w)) ws in either (list_any (is_waiter (c.session, id)) ws) (Does (Drop c.instance (Waiter c.session id)) (Truth true) (Lock_is left) (granted c.name ws left)) (looks (Truth false) (Lock_is ws))
lock_row c ws Holder = looks (option_map_or (λ w. Holder_reply w.0 w.1) (head_of ws) No_reply) (Lock_is ws)
lock_row c ws Size = looks (count_reply (length ws)) (Lock_is ws)
lock_row c ws _ = Of_no_kind

abbrev pub tells_all : List ℕ → Event → List (ℕ × Event)
tells_all listeners event = map (λ s. (s, event)) listeners

abbrev pub listen_row : Call → (List ℕ → Plain) → List ℕ → Row
listen_row c plain ls = either (has_item nat_cmp c.session ls) (looks (Truth false) (plain ls)) (Does (puts_own c (Of c.session) Mark) (Truth true) (plain (with_item nat_cmp c.session ls)) [])

abbrev pub unlisten_row : Call → (List ℕ → Plain) → List ℕ → Row
unlisten_row c plain ls = either (has_item nat_cmp c.session ls) (Does (Drop c.instance (Of c.session)) (Truth true) (plain (without_item nat_cmp c.session ls)) []) (looks (Truth false) (plain ls))

abbrev pub group_row : Call → List Member → List ℕ → Op → Row
group_row c ms ls (Join word) = Does (puts_own c (At c.index) (Text word)) (Index c.index) (Group_is (ms ++ record { index = c.index; session = c.session; word = word } ∷ []) ls) (tells_all ls (Joined c.name c.index))
group_row c ms ls (Leave member) = either (list_any (λ m. m.index == member && m.session == c.session) ms) (Does (Drop c.instance (At member)) (Truth true) (Group_is (filter (λ m. not (m.index == member)) ms) ls) (tells_all ls (Left c.name member))) (looks (Truth false) (Group_is ms ls))
group_row c ms ls Members = looks (Indexes (take 64 (map (λ m. m.index) ms))) (Group_is ms ls)
group_row c ms ls Leader = looks (option_map_or (λ m. Index m.index) (head_of ms) No_reply) (Group_is ms ls)
group_row c ms ls Listen = listen_row c (Group_is ms) ls
group_row c ms ls Unlisten = unlisten_row c (Group_is ms) ls
group_row c ms ls Size = looks (count_reply (length ms)) (Group_is ms ls)
group_row c ms ls _ = Of_no_kind

abbrev pub topic_row : Call → List ℕ → Op → Row
topic_row c ls (Publish word) = Does (Tell c.instance word) (count_reply (length ls)) (Topic_is ls) (tells_all ls (Message c.name word))
topic_row c ls Listen = listen_row c Topic_is ls
topic_row c ls Unlisten = unlisten_row c Topic_is ls
topic_row c ls Size = looks (count_reply (length ls)) (Topic_is ls)
topic_row c ls _ = Of_no_kind

abbrev pub row : Call → Plain → Op → Row
row c (Value_is cur) = value_row c cur
row c (Counter_is number) = counter_row c number
row c (Map_is pairs) = map_row c pairs
row c (Multimap_is pairs) = multimap_row c pairs
row c (Set_is words) = set_row c words
row c (Queue_is items) = queue_row c items
row c (Lock_is waiters) = lock_row c waiters
row c (Group_is members listeners) = group_row c members listeners
row c (Topic_is listeners) = topic_row c listeners

-- the resource after a session is closed, and whom that tells what
abbrev pub without_session : List ℕ → ℕ → Plain → Plain × List (ℕ × Event)
without_session name s (Lock_is ws) = let left = filter (λ w. not (w.0 == s)) ws in (Lock_is left, granted name ws left)
without_session name s (Group_is ms ls) =
    let others = without_item nat_cmp s ls in
    let gone = map (λ m. m.index) (filter (λ m. m.session == s) ms) in
    (Group_is (filter (λ m. not (m.session == s)) ms) others, flat_map (λ l. map (λ i. (l, Left name i)) gone) others)
without_session name s (Topic_is ls) = (Topic_is (without_item nat_cmp s ls), [])
without_session name s plain = (plain, [])
