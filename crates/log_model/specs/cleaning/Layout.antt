-- How a log lies in the files of a folder.
use Rattle.std.specs.Prelude.{ℕ, ◌+◌, ◌-◌, ◌&&◌, max, Bool, true, false, not, nat_lt, if◌then◌else◌, List, [], ◌∷◌, ◌++◌, length}

-- one file
pub record PartLayout : Type 0 where
  pub base : ℕ
  pub last : ℕ
  -- the indexes of the entries that it holds, rising
  pub present : List ℕ
  pub cut : ℕ
  pub floor : ℕ
  pub generation : ℕ
  -- after how many entries the next file is begun
  pub size : ℕ
  pub rewritten : Bool

-- all of them, by rising base, and the greatest generation that is taken
pub record Layout : Type 0 where
  pub parts : List PartLayout
  pub greatest : ℕ

abbrev pub no_files : Layout
no_files = record { parts = []; greatest = 0 }

-- a file that is appended to, with fewer entries than its size
abbrev pub has_room : PartLayout → Bool
has_room p = not p.rewritten && nat_lt (length p.present) p.size

-- the next entry goes into the last file where that has room, and else into a new one
abbrev pub is_full : List PartLayout → Bool
is_full [] = true
is_full (p ∷ []) = not (has_room p)
is_full (p ∷ q ∷ parts) = is_full (q ∷ parts)

abbrev pub needs_file : Layout → Bool
needs_file layout = is_full layout.parts

-- the last index of the last file, or 0
abbrev pub last_in : List PartLayout → ℕ
last_in [] = 0
last_in (p ∷ []) = p.last
last_in (p ∷ q ∷ parts) = last_in (q ∷ parts)

-- a file with no entries, from this index on
abbrev pub new_part : ℕ → ℕ → ℕ → PartLayout
new_part size base generation = record { base = base; last = base - 1; present = []; cut = 0; floor = 0; generation = generation; size = size; rewritten = false }

-- with one entry more
abbrev pub longer : PartLayout → PartLayout
longer p = record p { last = p.last + 1; present = p.present ++ (p.last + 1) ∷ [] }

-- the last file has one entry more
abbrev pub lengthened : List PartLayout → List PartLayout
lengthened [] = []
lengthened (p ∷ []) = longer p ∷ []
lengthened (p ∷ q ∷ parts) = p ∷ lengthened (q ∷ parts)

-- with a new file where one is needed, which has the next generation
abbrev pub begun : ℕ → Layout → Layout
begun size layout =
    if needs_file layout then record { parts = layout.parts ++ new_part size (last_in layout.parts + 1) (layout.greatest + 1) ∷ []; greatest = layout.greatest + 1 }
    else layout

-- after one entry more, where a new file has this size
abbrev pub with_entry : ℕ → Layout → Layout
with_entry size layout = record { parts = lengthened (begun size layout).parts; greatest = (begun size layout).greatest }

abbrev pub greatest_of : List PartLayout → ℕ
greatest_of [] = 0
greatest_of (p ∷ parts) = max p.generation (greatest_of parts)

-- where no other file is listed than its parts
abbrev pub alone : Layout → Layout
alone layout = record layout { greatest = greatest_of layout.parts }
