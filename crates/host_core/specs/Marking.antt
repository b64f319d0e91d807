-- What an entry makes of the marks, and what a core keeps of them.
use Rattle.std.specs.Prelude.{◌≡◌, ◌⊎◌, ℕ, ◌+◌, ◌≤◌, true, cond, List, [], ◌∷◌, ◌++◌, length, Option, Some, None, is_some, IsTrue}
use Rattle.std.specs.Option.{option_map}
use Rattle.std.specs.FinMap.{get, insert}
use Rattle.host_types.specs.declared.entry.Entry.{Entry}
use Rattle.host_types.specs.Cells.{Cells, Place}
use Rattle.log_model.specs.cleaning.Cells.{Numbered, after, cells, is_held, is_released}
use Rattle.log_model.specs.cleaning.Cleaning.{Cleaned, HasOneOwner, entry_at, is_lawful_from, numbered}
use Rattle.log_model.specs.cleaning.Released.{mark_of, releases}
use Rattle.released_marks.specs.Marks.{Marks, is_present, is_unmarked, mark_at, released_at}

-- Exactly what the entry i released got its mark: what held a cell before and holds none now, and the entry itself if it holds none.
abbrev pub AreMarked : ℕ → Cells → Cells → Marks → Marks → Type 0
AreMarked i before now marks marks' = (j : ℕ) → get marks' j ≡ cond (releases before now i j) (Some (Some i)) (get marks j)

-- The marks of these entries: their indexes are present, each with the index that released it, if any.
abbrev pub AreMarksOf : Numbered → Marks → Type 0
AreMarksOf entries marks = (j : ℕ) → get marks j ≡ option_map (λ e. mark_of entries j) (entry_at entries j)

-- one entry more: its index is added, and what it released is marked
abbrev pub MarksOfLogsFollow : Type 0
MarksOfLogsFollow =
    (entries : Numbered) (i : ℕ) (e : Entry) (marks marks' : Marks)
    → entry_at entries i ≡ None
    → AreMarksOf entries marks
    → AreMarked i (cells entries) (after (cells entries) i e) (insert marks i None) marks'
    → AreMarksOf (entries ++ (i, e) ∷ []) marks'

-- ---- what marks tell of a log

-- The marks of what is left of a log tell what is released: present are exactly the indexes that are left, and for each cut from this one
-- on up to the end of the log, an index that is left has a mark of at most the cut exactly where the whole log has released it there.
-- Below that cut nothing is said.
pub record TellReleased (left : Numbered) (all : List Entry) (k : ℕ) (marks : Marks) : Type 0 where
  pub present : (j : ℕ) → is_present j marks ≡ is_some (entry_at left j)
  pub released : (j : ℕ) (e : Entry) → entry_at left j ≡ Some e → (cut : ℕ) → k ≤ cut → cut ≤ length all → released_at (mark_at j marks) cut ≡ is_released (numbered all) cut j

-- the marks of a replay do
abbrev pub ReplaysTell : Type 0
ReplaysTell =
    (left : Numbered) (all : List Entry) (quiet k f : ℕ) (owner_of : Place → Option ℕ) (marks : Marks)
    → IsTrue (is_lawful_from [] (numbered all))
    → HasOneOwner owner_of (numbered all)
    → Cleaned left all quiet k f
    → AreMarksOf left marks
    → TellReleased left all k marks

-- and still do with one entry more, where what held a cell before it had no mark
abbrev pub EntriesTell : Type 0
EntriesTell =
    (left : Numbered) (all : List Entry) (quiet k f : ℕ) (e : Entry) (marks marks' : Marks)
    → Cleaned left all quiet k f
    → k ≤ length all
    → TellReleased left all k marks
    → ((j : ℕ) → is_held (cells (numbered all)) j ≡ true → is_unmarked j marks ≡ true)
    → AreMarked (length all + 1) (cells (numbered all)) (after (cells (numbered all)) (length all + 1) e) (insert marks (length all + 1) None) marks'
    → TellReleased (left ++ (length all + 1, e) ∷ []) (all ++ e ∷ []) k marks'

-- and from a later cut on, where fewer entries are left and the indexes of the others are taken out
abbrev pub FewerTell : Type 0
FewerTell =
    (left fewer : Numbered) (all : List Entry) (k later : ℕ) (marks marks' : Marks)
    → k ≤ later
    → ((j : ℕ) → (entry_at fewer j ≡ None) ⊎ (entry_at fewer j ≡ entry_at left j))
    → ((j : ℕ) → get marks' j ≡ cond (is_some (entry_at fewer j)) (get marks j) None)
    → TellReleased left all k marks
    → TellReleased fewer all later marks'

-- ---- what a core keeps

-- What holds a cell has no mark. Present are indexes up to the last, and the next one where room was made for it, which has no mark.
pub record HasMarks (last : ℕ) (c : Cells) (marks : Marks) : Type 0 where
  pub held : (j : ℕ) → is_held c j ≡ true → is_unmarked j marks ≡ true
  pub past : (j : ℕ) → is_present j marks ≡ true → j ≤ last + 1
  pub next : is_present (last + 1) marks ≡ true → is_unmarked (last + 1) marks ≡ true

-- the index of the next entry was added to them
pub record IsAdded (index : ℕ) (c : Cells) (marks : Marks) : Type 0 where
  pub held : (j : ℕ) → is_held c j ≡ true → is_unmarked j marks ≡ true
  pub past : (j : ℕ) → is_present j marks ≡ true → j ≤ index
  pub added : is_unmarked index marks ≡ true

-- ---- closed pairs

-- the marks after these pairs, of an index and what released it
abbrev pub marked : List (ℕ × ℕ) → Marks → Marks
marked [] marks = marks
marked (p ∷ pairs) marks = marked pairs (insert marks p.0 (Some p.1))

-- each index stands there without a mark when its turn comes
abbrev pub CanMark : List (ℕ × ℕ) → Marks → Type 0
CanMark [] marks = Unit {0}
CanMark (p ∷ pairs) marks = (is_unmarked p.0 marks ≡ true) × CanMark pairs (insert marks p.0 (Some p.1))
