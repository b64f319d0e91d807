-- Files that stand one behind the other, as they were opened.
use Rattle.std.specs.Prelude.{◌==◌, ◌&&◌, ◌||◌, ◌+◌, ℕ, Bool, true, nat_le, List, [], ◌∷◌, length, Option, Some, None}
use Rattle.segment_files.specs.Contents.{Offset_list, last_read}
use Rattle.segment_set.specs.declared.opened.Opened.{Opened}
use Rattle.segment_set.specs.declared.tail.Tail.{Tail}

-- each begins at the next index, and has one at least
abbrev pub are_joined : ℕ → List Opened → Bool
are_joined next [] = true
are_joined next (one ∷ files) = one.id.base == next && nat_le next one.part.last && are_joined (one.part.last + 1) files

-- each begins at the next index, and only the last may be empty
abbrev pub are_tiled : ℕ → List Opened → Bool
are_tiled next [] = true
are_tiled next (one ∷ []) = one.id.base == next
are_tiled next (one ∷ two ∷ files) = one.id.base == next && nat_le next one.part.last && are_tiled (one.part.last + 1) (two ∷ files)

-- the index behind all of them
abbrev pub end_of : ℕ → List Opened → ℕ
end_of next [] = next
end_of next (one ∷ files) = end_of (one.part.last + 1) files

-- the tail begins there
abbrev pub begins_at : Option Tail → ℕ → Bool
begins_at None next = true
begins_at (Some tail) next = tail.id.base == next

-- nothing is appended to it any more: a compaction wrote it, or it has its size
abbrev pub is_full : Opened → Bool
is_full one = one.part.descriptor.rewritten || nat_le one.part.descriptor.size (length one.part.offsets.items)

abbrev pub last_is_full : List Opened → Bool
last_is_full [] = true
last_is_full (one ∷ []) = is_full one
last_is_full (one ∷ two ∷ files) = last_is_full (two ∷ files)

-- where there is no tail, the last file is full
abbrev pub has_tail_or_full : Option Tail → List Opened → Bool
has_tail_or_full None files = last_is_full files
has_tail_or_full (Some tail) files = true

-- its last entry is there
abbrev pub has_last : Opened → Bool
has_last one = last_read one.id.base one.part.offsets.items == one.part.last

abbrev pub last_has_last : List Opened → Bool
last_has_last [] = true
last_has_last (one ∷ []) = has_last one
last_has_last (one ∷ two ∷ files) = last_has_last (two ∷ files)

-- the tail has an entry, or that of the last file before it is there
abbrev pub has_end : Option Tail → List Opened → Bool
has_end None files = last_has_last files
has_end (Some tail) files = nat_le tail.id.base tail.last || last_has_last files

-- the last index of these files, or 0
abbrev pub last_of_files : List Opened → ℕ
last_of_files [] = 0
last_of_files (one ∷ []) = one.part.last
last_of_files (one ∷ two ∷ files) = last_of_files (two ∷ files)

-- the last index of the tail, or of the files before it, or 0
abbrev pub last_index_of : Option Tail → List Opened → ℕ
last_index_of None files = last_of_files files
last_index_of (Some tail) files = tail.last

-- whether the offsets end with the last entry of the tail
abbrev pub ends_with : Option Tail → Offset_list → Bool
ends_with None offsets = true
ends_with (Some tail) offsets = last_read tail.id.base offsets == tail.last
