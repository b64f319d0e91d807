-- Worked logs, played by computation.
use Rattle.std.proofs.Common.{Some, ◌≡◌, ℕ, pos, true, false, not, ◌||◌, ◌==◌, List, [], ◌∷◌, ◌++◌, map, length, take, None, refl, codes}
use Rattle.std.specs.List.{filter, list_any}
use Rattle.host_types.specs.declared.entry.Kind.TheVariants.{Map as Map_kind, Queue as Queue_kind, Multimap as Multimap_kind, Group as Group_kind, Set as Set_kind, Topic as Topic_kind, Lock as Lock_kind, Counter as Counter_kind}
use Rattle.host_types.specs.declared.entry.Ask.{Ask}
use Rattle.host_types.specs.declared.entry.Ask.TheVariants.{Register, Alive, Unregister, Tick, Command}
use Rattle.host_types.specs.declared.entry.Op.{Op}
use Rattle.host_types.specs.declared.entry.Op.TheVariants.{Create, GetOf, Join, Insert, Members, Put, Remove, Enqueue, Poll, Listen, Publish, Lock, Reset, Add}
use Rattle.host_types.specs.declared.entry.Entry.{Entry}
use Rattle.host_types.specs.declared.entry.Body.{Body}
use Rattle.host_types.specs.declared.entry.Body.TheVariants.{Close as Closed, Register as Registered, Alive as Kept_alive, Command as Commanded}
use Rattle.host_types.specs.declared.entry.Cell.TheVariants.{Waiter, Named}
use Rattle.host_types.specs.declared.entry.Content.TheVariants.{Mark, Text as Text_content}
use Rattle.host_types.specs.declared.entry.Effect.TheVariants.{Create as Creates, Put as Puts}
use Rattle.host_types.specs.declared.entry.Event.TheVariants.{Message, Granted, Joined, Left}
use Rattle.host_types.specs.declared.entry.Reply.{Reply}
use Rattle.host_types.specs.declared.entry.Reply.TheVariants.{None as No_reply, Text, Number, Truth, Index, Words, Indexes}
use Rattle.host_types.specs.declared.entry.Refusal.TheVariants.{Range}
use Rattle.host_types.specs.Cells.{Cell_at, stands}
use Rattle.log_model.specs.cleaning.Cells.{Numbered, cells, is_released}
use Rattle.log_model.specs.cleaning.Sessions.{fields_of}
use Rattle.log_model.specs.cleaning.Cleaning.{numbered, is_lawful_from}
use Rattle.log_model.specs.plain.Admission.{Item, Offered, Expired, Admitted, Refused, Expires, Nobody, admits, expires}
use Rattle.log_model.specs.serving.Batches.{batches}
use Rattle.log_model.specs.plain.Quiet.{quiet}
use Rattle.log_model.specs.plain.Step.{folded}
use Rattle.log_model.specs.plain.Stored.{stored, is_log}
use Rattle.log_model.specs.cleaning.Kept.{Span, is_within, kept_minor, kept_major}
use Rattle.log_model.specs.plain.Rows.{count_reply}

abbrev pub offered : ℕ → Ask → Item
offered time ask = Offered (record { time = time; ask = ask })

abbrev pub does : ℕ → ℕ → ℕ → List ℕ → Op → Item
does time session seq name op = offered time (Command session seq name op)

-- the replies of the stored commands
abbrev replies_of : List Entry → List Reply
replies_of [] = []
replies_of (e ∷ es) = elim e.body as (λ _. List Reply) [ Commanded session seq effect reply ↦ reply ∷ replies_of es | _ ↦ replies_of es ]

-- what is left after a compaction that keeps these in this range
abbrev pub compacted : Span → List ℕ → Numbered → Numbered
compacted span kept left = filter (λ x. not (is_within span x.0) || list_any (λ i. i == x.0) kept) left

abbrev pub minor : List Item → Span → Numbered → List ℕ
minor log span left = kept_minor left span (is_released (numbered (stored log)) (quiet log)) (length log)

abbrev pub major : List Item → Span → ℕ → Numbered → List ℕ
major log span g left = kept_major left span (is_released (numbered (stored log)) (quiet log)) (length log) (quiet log) g

abbrev m : List ℕ
m = codes "m"

abbrev pub put_twice : List Item
put_twice =
    offered 0 (Register 100) ∷ does 1 1 1 m (Create Map_kind) ∷ does 2 1 2 m (Put (codes "k") (codes "a")) ∷ does 3 1 3 m (Put (codes "k") (codes "b")) ∷ offered 4 (Alive 1 3 1) ∷ []

put_twice_admitted : is_log put_twice ≡ true
put_twice_admitted = refl

put_twice_stored : map (λ (e : Entry). e.body) (stored put_twice) ≡ Registered 100 ∷ Commanded 1 1 (Creates m Map_kind) (Index 2) ∷ Commanded 1 2 (Puts 2 (Named (codes "k")) (Text_content (codes "a")) None) No_reply ∷ Commanded 1 3 (Puts 2 (Named (codes "k")) (Text_content (codes "b")) None) (Text (codes "a")) ∷ Kept_alive 1 3 1 ∷ []
put_twice_stored = refl

put_twice_quiet : quiet put_twice ≡ 5
put_twice_quiet = refl

-- only index 3 is gone
minor_leaves_one_out : minor put_twice (record { base = 1; last = 4 }) (numbered (stored put_twice)) ≡ 1 ∷ 2 ∷ 4 ∷ []
minor_leaves_one_out = refl

abbrev pub span : ℕ → ℕ → Span
span base last = record { base = base; last = last }

-- what is left after the minor compaction gives the same cells
minor_gives_the_cells : cells (compacted (span 1 4) (1 ∷ 2 ∷ 4 ∷ []) (numbered (stored put_twice))) ≡ cells (numbered (stored put_twice))
minor_gives_the_cells = refl

put_twice_lawful : is_lawful_from [] (numbered (stored put_twice)) ≡ true
put_twice_lawful = refl

-- a poll over a hole

abbrev pub poll_over_a_hole : List Item
poll_over_a_hole =
    offered 0 (Register 100) ∷ does 1 1 1 (codes "q") (Create Queue_kind) ∷ does 2 1 2 (codes "q") (Enqueue (codes "x")) ∷ does 3 1 3 (codes "q") (Enqueue (codes "y")) ∷ does 4 1 4 (codes "q") Poll ∷ offered 5 (Alive 1 4 1) ∷ does 6 1 5 (codes "q") Poll ∷ []

poll_over_a_hole_admitted : is_log poll_over_a_hole ≡ true
poll_over_a_hole_admitted = refl

poll_over_a_hole_replies : replies_of (stored poll_over_a_hole) ≡ Index 2 ∷ No_reply ∷ No_reply ∷ Text (codes "x") ∷ Text (codes "y") ∷ []
poll_over_a_hole_replies = refl

-- cut 6, kept 3 of 4
poll_over_a_hole_minor : minor (take 6 poll_over_a_hole) (span 1 4) (numbered (stored (take 6 poll_over_a_hole))) ≡ 1 ∷ 2 ∷ 4 ∷ []
poll_over_a_hole_minor = refl

poll_over_a_hole_quiet : quiet (take 6 poll_over_a_hole) ≡ 6
poll_over_a_hole_quiet = refl

-- a tombstone over parts
abbrev pub tombstone_over_parts : List Item
tombstone_over_parts =
    offered 0 (Register 100) ∷ does 1 1 1 m (Create Map_kind) ∷ does 2 1 2 m (Put (codes "k") (codes "a")) ∷ offered 3 Tick ∷ does 4 1 3 m (Remove (codes "k")) ∷ offered 5 Tick ∷ offered 6 Tick ∷ offered 7 Tick ∷ offered 8 (Alive 1 3 1) ∷ []

tombstone_over_parts_admitted : is_log tombstone_over_parts ≡ true
tombstone_over_parts_admitted = refl

tombstone_over_parts_quiet : quiet tombstone_over_parts ≡ 9
tombstone_over_parts_quiet = refl

tombstone_over_parts_first : major tombstone_over_parts (span 5 8) 9 (numbered (stored tombstone_over_parts)) ≡ 5 ∷ []
tombstone_over_parts_first = refl

abbrev pub tombstone_over_parts_left : Numbered
tombstone_over_parts_left = compacted (span 5 8) (5 ∷ []) (numbered (stored tombstone_over_parts))

tombstone_over_parts_second : major tombstone_over_parts (span 1 8) 9 tombstone_over_parts_left ≡ 1 ∷ 2 ∷ []
tombstone_over_parts_second = refl

tombstone_over_parts_cells : cells (compacted (span 1 8) (1 ∷ 2 ∷ []) tombstone_over_parts_left) ≡ cells (numbered (stored tombstone_over_parts))
tombstone_over_parts_cells = refl

-- a batch sent again
abbrev pub sent_again : List Item
sent_again =
    offered 0 (Register 100) ∷ offered 1 (Register 100) ∷ does 2 1 1 (codes "t") (Create Topic_kind) ∷ does 3 2 1 (codes "t") Listen ∷ does 4 1 2 (codes "t") (Publish (codes "hi")) ∷ []

sent_again_admitted : is_log sent_again ≡ true
sent_again_admitted = refl

sent_again_replies : replies_of (stored sent_again) ≡ Index 3 ∷ Truth true ∷ Number (pos 1) ∷ []
sent_again_replies = refl

sent_again_batches : batches sent_again 2 ≡ record { index = 5; previous = 2; events = Message (codes "t") (codes "hi") ∷ [] } ∷ []
sent_again_batches = refl

-- the reply of index 3 isn't acknowledged
sent_again_quiet : quiet sent_again ≡ 2
sent_again_quiet = refl

-- the boundary of expiry
abbrev pub expiry : List Item
expiry =
    offered 0 (Register 10) ∷ offered 0 (Register 100) ∷ does 1 1 1 (codes "l") (Create Lock_kind) ∷ does 2 1 2 (codes "l") (Lock 7) ∷ does 3 2 1 (codes "l") (Lock 8) ∷ offered 10 Tick ∷ []

expiry_admitted : is_log (expiry ++ Expired 11 1 ∷ offered 11 Tick ∷ []) ≡ true
expiry_admitted = refl

expiry_nobody : expires (folded (take 5 expiry)) 10 ≡ Nobody
expiry_nobody = refl

expiry_expires : expires (folded expiry) 11 ≡ Expires 1
expiry_expires = refl

expiry_replies : replies_of (stored expiry) ≡ Index 3 ∷ Truth true ∷ Truth false ∷ []
expiry_replies = refl

expiry_batches : batches (expiry ++ Expired 11 1 ∷ offered 11 Tick ∷ []) 2 ≡ record { index = 7; previous = 2; events = Granted (codes "l") 8 ∷ [] } ∷ []
expiry_batches = refl

expiry_lawful : is_lawful_from [] (numbered (stored (expiry ++ Expired 11 1 ∷ offered 11 Tick ∷ []))) ≡ true
expiry_lawful = refl

-- the end of the type
abbrev pub end_of_the_type : List Item
end_of_the_type = offered 0 (Register 100) ∷ does 1 1 1 (codes "c") (Create Counter_kind) ∷ does 2 1 2 (codes "c") (Reset (pos 9223372036854775807)) ∷ []

end_of_the_type_refused : admits (folded end_of_the_type) (record { time = 3; ask = Command 1 3 (codes "c") (Add (pos 1)) }) ≡ Refused (Range (pos 9223372036854775807))
end_of_the_type_refused = refl

end_of_the_type_zero : admits (folded end_of_the_type) (record { time = 4; ask = Command 1 3 (codes "c") (Add (pos 0)) }) ≡ Admitted
end_of_the_type_zero = refl

end_of_the_type_replies : replies_of (stored (end_of_the_type ++ does 4 1 3 (codes "c") (Add (pos 0)) ∷ [])) ≡ Index 2 ∷ No_reply ∷ Number (pos 9223372036854775807) ∷ []
end_of_the_type_replies = refl

-- a count beyond the end of the type is told as that end
end_of_the_type_counts : map count_reply (2 ∷ 9223372036854775807 ∷ 9223372036854775808 ∷ []) ≡ Number (pos 2) ∷ Number (pos 9223372036854775807) ∷ Number (pos 9223372036854775807) ∷ []
end_of_the_type_counts = refl

-- ordinary use
abbrev pub ordinary_use : List Item
ordinary_use =
    offered 0 (Register 5000) ∷ offered 10 (Register 5000) ∷ does 20 1 1 (codes "tags") (Create Multimap_kind) ∷ does 30 1 2 (codes "tags") (Put (codes "red") (codes "apple")) ∷ does 40 2 1 (codes "tags") (Put (codes "red") (codes "cherry")) ∷ does 50 1 3 (codes "tags") (GetOf (codes "red")) ∷ does 60 2 2 (codes "crew") (Create Group_kind) ∷ does 70 1 4 (codes "crew") Listen ∷ does 80 2 3 (codes "crew") (Join (codes "anna")) ∷ offered 90 (Alive 1 4 9) ∷ offered 100 (Unregister 2) ∷ does 110 1 5 (codes "tags") (Remove (codes "red")) ∷ does 120 1 6 (codes "seen") (Create Set_kind) ∷ does 130 1 7 (codes "seen") (Insert (codes "x")) ∷ does 140 1 8 (codes "seen") (Insert (codes "x")) ∷ does 150 1 9 (codes "crew") Members ∷ []

ordinary_use_admitted : is_log ordinary_use ≡ true
ordinary_use_admitted = refl

ordinary_use_replies : replies_of (stored ordinary_use) ≡ Index 3 ∷ Truth true ∷ Truth true ∷ Words (codes "apple" ∷ codes "cherry" ∷ []) ∷ Index 7 ∷ Truth true ∷ Index 9 ∷ Number (pos 2) ∷ Index 13 ∷ Truth true ∷ Truth false ∷ Indexes [] ∷ []
ordinary_use_replies = refl

ordinary_use_batches : batches ordinary_use 1 ≡ record { index = 9; previous = 1; events = Joined (codes "crew") 9 ∷ [] } ∷ record { index = 11; previous = 9; events = Left (codes "crew") 9 ∷ [] } ∷ []
ordinary_use_batches = refl

ordinary_use_quiet : quiet (take 15 ordinary_use) ≡ 10
ordinary_use_quiet = refl

ordinary_use_lawful : is_lawful_from [] (numbered (stored ordinary_use)) ≡ true
ordinary_use_lawful = refl

-- the global index
abbrev pub global_index : List Item
global_index =
    offered 0 (Register 100) ∷ does 1 1 1 m (Create Map_kind) ∷ does 2 1 2 m (Put (codes "k") (codes "a")) ∷ does 3 1 3 m (Remove (codes "k")) ∷ offered 4 (Alive 1 3 1) ∷ []

global_index_minor : minor global_index (span 1 4) (numbered (stored global_index)) ≡ 1 ∷ 2 ∷ 4 ∷ []
global_index_minor = refl

abbrev pub global_index_left : Numbered
global_index_left = compacted (span 1 4) (1 ∷ 2 ∷ 4 ∷ []) (numbered (stored global_index))

global_index_at_3 : major global_index (span 1 4) 3 global_index_left ≡ 1 ∷ 2 ∷ 4 ∷ []
global_index_at_3 = refl

global_index_at_4 : major global_index (span 1 4) 4 global_index_left ≡ 1 ∷ 2 ∷ []
global_index_at_4 = refl

abbrev entry : Body → Entry
entry body = record { time = 0; body = body }

-- why a place has one owner: put by session 1, put by session 2, and closed with session 2. Without the second put, the first is left
abbrev two_owners : List Entry
two_owners =
    entry (Registered 100) ∷ entry (Registered 100) ∷ entry (Commanded 1 1 (Creates m Lock_kind) (Index 3)) ∷ entry (Commanded 1 2 (Puts 3 (Waiter 9 9) Mark (Some 1)) No_reply) ∷ entry (Commanded 2 1 (Puts 3 (Waiter 9 9) Mark (Some 2)) No_reply) ∷ entry (Closed 2 false) ∷ []

two_owners_lawful : is_lawful_from [] (numbered two_owners) ≡ true
two_owners_lawful = refl

two_owners_released : is_released (numbered two_owners) 6 5 ≡ true
two_owners_released = refl

two_owners_all : stands (cells (numbered two_owners)) (Cell_at 3 (Waiter 9 9)) ≡ false
two_owners_all = refl

two_owners_left : stands (cells (filter (λ x. not (x.0 == 5)) (numbered two_owners))) (Cell_at 3 (Waiter 9 9)) ≡ true
two_owners_left = refl

-- the fields of sessions, read off the cells
put_twice_fields : fields_of (numbered (stored put_twice)) 1 ≡ Some (record { timeout = 100; last_time = 4; acked_seq = 3; acked_event = 1 })
put_twice_fields = refl

ordinary_use_fields : fields_of (numbered (stored ordinary_use)) 2 ≡ None
ordinary_use_fields = refl
