-- What a compaction keeps.
use Rattle.std.specs.Prelude.{◌≡◌, ℕ, ◌≤◌, length, Some, IsTrue, min, Bool, not, ◌&&◌, ◌||◌, nat_le, nat_lt, ◌==◌, List, map}
use Rattle.std.specs.List.{filter, list_any}
use Rattle.host_types.specs.declared.entry.Entry.{Entry}
use Rattle.log_model.specs.cleaning.Cells.{Numbered, puts, covers_any, is_tombstone, is_released}
use Rattle.log_model.specs.cleaning.Cleaning.{numbered, entry_at, Cleaned}

-- the range of a part or of a run of parts
pub record Span : Type 0 where
  pub base : ℕ
  pub last : ℕ

abbrev pub is_within : Span → ℕ → Bool
is_within span i = nat_le span.base i && nat_le i span.last

-- of the entries that are left, those in the range that aren't released, are tombstones, or are the last of the log
abbrev pub stays : (ℕ → Bool) → ℕ → ℕ × Entry → Bool
stays released end x = not (released x.0) || is_tombstone x.1.body || x.0 == end

abbrev pub kept_minor : Numbered → Span → (ℕ → Bool) → ℕ → List ℕ
kept_minor left span released end = map (λ x. x.0) (filter (λ x. is_within span x.0 && stays released end x) left)

-- an entry that a tombstone has to outlive: outside the range, or not released
abbrev pub remains : Span → (ℕ → Bool) → ℕ → Bool
remains span released i = not (is_within span i) || not (released i)

-- a tombstone that may go: everything has passed it, and nothing below it that remains is put where it covers
abbrev pub may_go : Numbered → Span → (ℕ → Bool) → ℕ → ℕ → ℕ → ℕ × Entry → Bool
may_go left span released end k g x =
    is_tombstone x.1.body && nat_le x.0 (min k g) && not (x.0 == end)
    && not (list_any (λ y. nat_lt y.0 x.0 && remains span released y.0 && covers_any x.1.body (puts y.0 y.1.body)) left)

abbrev pub kept_major : Numbered → Span → (ℕ → Bool) → ℕ → ℕ → ℕ → List ℕ
kept_major left span released end k g = map (λ x. x.0) (filter (λ x. is_within span x.0 && stays released end x && not (may_go left span released end k g x)) left)

-- what is left afterwards
abbrev pub after_minor : Numbered → Span → (ℕ → Bool) → ℕ → Numbered
after_minor left span released end = filter (λ x. not (is_within span x.0) || stays released end x) left

abbrev pub after_major : Numbered → Span → (ℕ → Bool) → ℕ → ℕ → ℕ → Numbered
after_major left span released end k g = filter (λ x. not (is_within span x.0) || (stays released end x && not (may_go left span released end k g x))) left

-- a minor compaction at the present quiet leaves a cleaned log with the same floor
abbrev pub MinorKeeps : Type 0
MinorKeeps =
    (left : Numbered) (all : List Entry) (quiet k f : ℕ) (span : Span)
    → Cleaned left all quiet k f
    → Cleaned (after_minor left span (is_released (numbered all) quiet) (length all)) all quiet quiet f

-- and so does a major one, with a floor that no removed tombstone is above
abbrev pub MajorKeeps : Type 0
MajorKeeps =
    (left : Numbered) (all : List Entry) (quiet k f floor g : ℕ) (span : Span)
    → Cleaned left all quiet k f
    → f ≤ floor
    → ((j : ℕ) (t : Entry) → entry_at left j ≡ Some t → IsTrue (is_within span j) → IsTrue (may_go left span (is_released (numbered all) quiet) (length all) quiet g (j, t)) → j ≤ floor)
    → Cleaned (after_major left span (is_released (numbered all) quiet) (length all) quiet g) all quiet quiet floor
