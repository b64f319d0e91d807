-- The worked bytes of the format, read.
use Rattle.std.proofs.Common.{◌≡◌, ℕ, true, false, List, [], ◌∷◌, ◌++◌, take, drop, refl}
use Rattle.disk_model.specs.declared.file_id.FileId.{FileId}
use Rattle.host_types.specs.declared.entry.Entry.{Entry}
use Rattle.host_types.specs.declared.entry.Body.TheVariants.{Command, Tick}
use Rattle.host_types.specs.declared.entry.Effect.TheVariants.{Wipe}
use Rattle.host_types.specs.declared.entry.Reply.TheVariants.{None as No_reply}
use Rattle.entry_codec.specs.Reading.{spelling, entry_at, bounded_at, byte_at, body_at, body_behind, command_at, effect_at, effect_behind, reply_at, reply_behind}
use Rattle.entry_codec.specs.Reading as reading
use Rattle.segment_files.specs.Numbers.{number_at}
use Rattle.segment_files.specs.Parse.{Closed, Whole, Damaged, parse, parse_open, body, frame, walk, descriptor_fields}

abbrev eight : ℕ → List ℕ
eight n = 0 ∷ 0 ∷ 0 ∷ 0 ∷ 0 ∷ 0 ∷ 0 ∷ n ∷ []

-- the descriptor of the file that is appended to first, of which the next is begun after 1024 entries
abbrev head : List ℕ
head = (1 ∷ 1 ∷ 0 ∷ 0 ∷ 67 ∷ 67 ∷ 76 ∷ 71 ∷ []) ++ eight 1 ++ eight 1 ++ eight 0 ++ eight 0 ++ eight 0 ++ eight 0 ++ (0 ∷ 0 ∷ 4 ∷ 0 ∷ 0 ∷ 0 ∷ 0 ∷ 0 ∷ [])

abbrev tick_at : ℕ → Entry
tick_at time = record { time = time; body = Tick }

abbrev tick : ℕ → ℕ → List ℕ
tick index time = eight index ++ eight time ++ (4 ∷ [])

abbrev open_frame : List ℕ → List ℕ
open_frame entry = (1 ∷ 0 ∷ 0 ∷ 0 ∷ 17 ∷ []) ++ entry

-- the 87 bytes after one tick
abbrev file : List ℕ
file = head ++ open_frame (tick 1 1) ++ (0 ∷ [])

abbrev id : FileId
id = record { base = 1; generation = 1 }

a_tick : parse id file ≡ Whole (record { id = id; rewritten = false; last = 1; cut = 0; floor = 0; size = 1024; entries = (1, tick_at 1) ∷ []; gate = 86 })
unfolding parse_open number_at spelling entry_at bounded_at reading.number_at byte_at body_at body_behind body frame walk descriptor_fields
a_tick = refl

-- a torn gate, and bytes behind it
torn_gate : parse id (head ++ open_frame (tick 1 1) ++ (7 ∷ 9 ∷ 9 ∷ [])) ≡ parse id file
unfolding parse_open number_at spelling entry_at bounded_at reading.number_at byte_at body_at body_behind body frame walk descriptor_fields
torn_gate = refl

no_entries : parse id (head ++ (0 ∷ [])) ≡ Whole (record { id = id; rewritten = false; last = 0; cut = 0; floor = 0; size = 1024; entries = []; gate = 64 })
unfolding parse_open number_at spelling entry_at bounded_at reading.number_at byte_at body_at body_behind body frame walk descriptor_fields
no_entries = refl

cut_descriptor : parse id (take 63 head) ≡ Damaged 63
unfolding parse_open number_at spelling entry_at bounded_at reading.number_at byte_at body_at body_behind body frame walk descriptor_fields
cut_descriptor = refl

-- a file that ends in place of a gate
no_gate : parse id (take 86 file) ≡ Damaged 86
unfolding parse_open number_at spelling entry_at bounded_at reading.number_at byte_at body_at body_behind body frame walk descriptor_fields
no_gate = refl

cut_body : parse id (take 80 file) ≡ Damaged 80
unfolding parse_open number_at spelling entry_at bounded_at reading.number_at byte_at body_at body_behind body frame walk descriptor_fields
cut_body = refl

wrong_index : parse id (head ++ open_frame (tick 2 1) ++ (0 ∷ [])) ≡ Damaged 69
unfolding parse_open number_at spelling entry_at bounded_at reading.number_at byte_at body_at body_behind body frame walk descriptor_fields
wrong_index = refl

wrong_mark : parse id (take 5 file ++ 0 ∷ drop 6 file) ≡ Damaged 4
unfolding parse_open number_at spelling entry_at bounded_at reading.number_at byte_at body_at body_behind body frame walk descriptor_fields
wrong_mark = refl

-- FILES THAT A COMPACTION WROTE

-- a descriptor of one with the indexes 1 to 5, cut 4, floor 0, and so many entries
abbrev rewritten_head : ℕ → List ℕ
rewritten_head count = (1 ∷ 1 ∷ 1 ∷ 0 ∷ 67 ∷ 67 ∷ 76 ∷ 71 ∷ []) ++ eight 1 ++ eight 1 ++ eight 5 ++ eight 4 ++ eight 0 ++ eight count ++ eight 0

-- the entries between are missing, and what stands behind the last one is not looked at
with_holes : parse id (rewritten_head 2 ++ open_frame (tick 2 1) ++ open_frame (tick 5 1) ++ (7 ∷ []))
    ≡ Whole (record { id = id; rewritten = true; last = 5; cut = 4; floor = 0; size = 0; entries = (2, tick_at 1) ∷ (5, tick_at 1) ∷ []; gate = 108 })
unfolding parse_open number_at spelling entry_at bounded_at reading.number_at byte_at body_at body_behind body frame walk descriptor_fields
with_holes = refl

nothing_kept : parse id (rewritten_head 0) ≡ Whole (record { id = id; rewritten = true; last = 5; cut = 4; floor = 0; size = 0; entries = []; gate = 64 })
unfolding parse_open number_at spelling entry_at bounded_at reading.number_at byte_at body_at body_behind body frame walk descriptor_fields
nothing_kept = refl

-- an index that isn't above the one before, or is above the last
falling_index : parse id (rewritten_head 2 ++ open_frame (tick 2 1) ++ open_frame (tick 2 1)) ≡ Damaged 91
unfolding parse_open number_at spelling entry_at bounded_at reading.number_at byte_at body_at body_behind body frame walk descriptor_fields
falling_index = refl

index_behind_last : parse id (rewritten_head 2 ++ open_frame (tick 2 1) ++ open_frame (tick 6 1)) ≡ Damaged 91
unfolding parse_open number_at spelling entry_at bounded_at reading.number_at byte_at body_at body_behind body frame walk descriptor_fields
index_behind_last = refl

-- it ends, or has a shut gate, before all entries were read
too_few : parse id (rewritten_head 2 ++ open_frame (tick 2 1)) ≡ Damaged 86
unfolding parse_open number_at spelling entry_at bounded_at reading.number_at byte_at body_at body_behind body frame walk descriptor_fields
too_few = refl

shut_gate : parse id (rewritten_head 2 ++ open_frame (tick 2 1) ++ (0 ∷ [])) ≡ Damaged 86
unfolding parse_open number_at spelling entry_at bounded_at reading.number_at byte_at body_at body_behind body frame walk descriptor_fields
shut_gate = refl

-- a frame goes on behind the last entry
too_many : parse id (rewritten_head 1 ++ (1 ∷ 0 ∷ 0 ∷ 0 ∷ 34 ∷ []) ++ tick 2 1 ++ tick 3 1) ≡ Damaged 86
unfolding parse_open number_at spelling entry_at bounded_at reading.number_at byte_at body_at body_behind body frame walk descriptor_fields
too_many = refl

-- more entries than indexes
count_above : parse id (rewritten_head 6) ≡ Damaged 48
unfolding parse_open number_at spelling entry_at bounded_at reading.number_at byte_at body_at body_behind body frame walk descriptor_fields
count_above = refl

-- with a size, as only a file has that is appended to
with_size : parse id (take 2 file ++ 1 ∷ drop 3 file) ≡ Damaged 24
unfolding parse_open number_at spelling entry_at bounded_at reading.number_at byte_at body_at body_behind body frame walk descriptor_fields
with_size = refl

-- a frame of two entries
two_entries : parse id (head ++ (1 ∷ 0 ∷ 0 ∷ 0 ∷ 34 ∷ []) ++ tick 1 1 ++ tick 2 1 ++ (0 ∷ []))
    ≡ Whole (record { id = id; rewritten = false; last = 2; cut = 0; floor = 0; size = 1024; entries = (1, tick_at 1) ∷ (2, tick_at 1) ∷ []; gate = 103 })
unfolding parse_open number_at spelling entry_at bounded_at reading.number_at byte_at body_at body_behind body frame walk descriptor_fields
two_entries = refl

-- a command that wipes an instance
wiping : parse id (head ++ (1 ∷ 0 ∷ 0 ∷ 0 ∷ 43 ∷ []) ++ eight 1 ++ eight 1 ++ (5 ∷ eight 1) ++ eight 1 ++ (5 ∷ eight 1) ++ (0 ∷ []) ++ (0 ∷ []))
    ≡ Whole (record { id = id; rewritten = false; last = 1; cut = 0; floor = 0; size = 1024; entries = (1, record { time = 1; body = Command 1 1 (Wipe 1) No_reply }) ∷ []; gate = 112 })
unfolding parse_open number_at spelling entry_at bounded_at reading.number_at byte_at body_at body_behind command_at effect_at effect_behind reply_at reply_behind body frame walk descriptor_fields
wiping = refl

closed : parse id (0 ∷ drop 1 file) ≡ Closed
closed = refl
