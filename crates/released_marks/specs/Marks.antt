-- What callers see of marks: for each present index the index that released it, if any.
use Rattle.std.specs.Prelude.{◌≡◌, ℕ, ◌<◌, ◌≤◌, Bool, true, false, not, ◌&&◌, Option, Some, None, is_some, nat_le, count_by}
use Rattle.std.specs.Ordering.{nat_cmp}
use Rattle.std.specs.FinMap.{FinMap, code, get, contains_key, entries}
use Rattle.std.specs.Coded.{Coded, coded_ℕ, coded_option}

-- from the present indexes to their marks
abbrev pub Marks : Type 0
Marks = FinMap nat_cmp (Option ℕ)

abbrev pub marks_code : Coded Marks
marks_code = code coded_ℕ (coded_option coded_ℕ)

-- the mark of what is told of an index
abbrev pub mark_in : Option (Option ℕ) → Option ℕ
mark_in None = None
mark_in (Some mark) = mark

-- it is there, with no mark
abbrev pub has_no_mark : Option (Option ℕ) → Bool
has_no_mark None = false
has_no_mark (Some mark) = not (is_some mark)

-- the index that released it, if any: none of an index that isn't present
abbrev pub mark_at : ℕ → Marks → Option ℕ
mark_at index marks = mark_in (get marks index)

abbrev pub is_present : ℕ → Marks → Bool
is_present index marks = contains_key marks index

-- present, and without a mark
abbrev pub is_unmarked : ℕ → Marks → Bool
is_unmarked index marks = has_no_mark (get marks index)

-- above every present index
abbrev pub IsAbove : ℕ → Marks → Type 0
IsAbove index marks = (j : ℕ) → is_present j marks ≡ true → j < index

-- no present index is above it
abbrev pub IsLast : ℕ → Marks → Type 0
IsLast index marks = (j : ℕ) → is_present j marks ≡ true → j ≤ index

-- by this mark it is released at the cut
abbrev pub released_at : Option ℕ → ℕ → Bool
released_at None cut = false
released_at (Some by) cut = nat_le by cut

abbrev pub is_within : ℕ → ℕ → ℕ → Bool
is_within from to index = nat_le from index && nat_le index to

-- how many of the indexes from the one to the other are released at the cut
abbrev pub count_released : ℕ → ℕ → ℕ → Marks → ℕ
count_released from to cut marks = count_by (λ e. is_within from to e.0 && released_at e.1 cut) (entries marks)
