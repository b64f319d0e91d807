-- The index that released an entry, as a replay finds it.
use Rattle.std.specs.Prelude.{◌≡◌, ℕ, ◌≤◌, Bool, false, cond, not, ◌&&◌, ◌||◌, nat_le, ◌==◌, List, [], ◌∷◌, ◌++◌, length, Option, Some, None, IsTrue}
use Rattle.host_types.specs.declared.entry.Entry.{Entry}
use Rattle.host_types.specs.Cells.{Place, Cells}
use Rattle.log_model.specs.cleaning.Cells.{Numbered, after, cells, is_held, is_released}
use Rattle.log_model.specs.cleaning.Cleaning.{numbered, entry_at, Cleaned, is_lawful_from, HasOneOwner}

-- j held a cell, or is this entry, and holds none now
abbrev pub releases : Cells → Cells → ℕ → ℕ → Bool
releases before now i j = (is_held before j || i == j) && not (is_held now j)

-- the last index that released j, in a replay from these cells on
abbrev pub mark_from : ℕ → Cells → Numbered → Option ℕ → Option ℕ
mark_from j c [] mark = mark
mark_from j c (x ∷ xs) mark = mark_from j (after c x.0 x.1) xs (cond (releases c (after c x.0 x.1) x.0 j) (Some x.0) mark)

-- the mark of j
abbrev pub mark_of : Numbered → ℕ → Option ℕ
mark_of entries j = mark_from j [] entries None

-- by this mark it is released at the cut
abbrev pub released_at : Option ℕ → ℕ → Bool
released_at None cut = false
released_at (Some by) cut = nat_le by cut

-- from the cut of a cleaned log on, its replay's marks tell what is released in the whole log
abbrev pub MarksLaw : Type 0
MarksLaw =
    (left : Numbered) (all : List Entry) (quiet k f : ℕ) (owner_of : Place → Option ℕ)
    → IsTrue (is_lawful_from [] (numbered all))
    → HasOneOwner owner_of (numbered all)
    → Cleaned left all quiet k f
    → (j : ℕ) (e : Entry) → entry_at left j ≡ Some e
    → (cut : ℕ) → k ≤ cut → cut ≤ length all
    → released_at (mark_of left j) cut ≡ is_released (numbered all) cut j

-- one entry more: the marks stay, but that of what it releases
abbrev pub MarksFollow : Type 0
MarksFollow =
    (entries : Numbered) (i : ℕ) (e : Entry) (j : ℕ)
    → mark_of (entries ++ (i, e) ∷ []) j ≡ cond (releases (cells entries) (after (cells entries) i e) i j) (Some i) (mark_of entries j)
