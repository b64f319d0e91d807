-- A log that was cleaned, what a compaction keeps, and the law that joins them to the whole log.
use Rattle.std.specs.Prelude.{◌+◌, ◌≡◌, ℕ, ◌<◌, ◌≤◌, Bool, true, false, ◌&&◌, List, [], ◌∷◌, ◌++◌, length, Option, Some, None, is_some, IsTrue}
use Rattle.std.specs.List.{enumerate_from}
use Rattle.std.specs.FinMap.{find, is_sorted}
use Rattle.std.specs.Ordering.{nat_cmp}
use Rattle.host_types.specs.declared.entry.Body.{Body}
use Rattle.host_types.specs.declared.entry.Body.TheVariants.{Command}
use Rattle.host_types.specs.declared.entry.Entry.{Entry}
use Rattle.log_model.specs.plain.Admission.{Item}
use Rattle.log_model.specs.plain.Quiet.{quiet}
use Rattle.log_model.specs.plain.Stored.{stored, is_log}
use Rattle.host_types.specs.Cells.{Place, Held, Cells, at, deletes_standing}
use Rattle.log_model.specs.cleaning.Cells.{puts, covers_any, is_tombstone, fits, after, Numbered, cells, up_to, is_released}

-- stored entries with their indexes, from 1 on
abbrev pub numbered : List Entry → Numbered
numbered entries = enumerate_from 1 entries

abbrev pub entry_at : Numbered → ℕ → Option Entry
entry_at entries i = find nat_cmp i entries

-- these entries are left of the stored ones, after compactions with cuts of at most k and global indexes of at most f
pub record Cleaned (left : Numbered) (all : List Entry) (quiet k f : ℕ) : Type 0 where
  pub rises : IsTrue (is_sorted nat_cmp left)
  pub stored_so : (i : ℕ) (e : Entry) → entry_at left i ≡ Some e → entry_at (numbered all) i ≡ Some e
  pub keeps_last : 0 < length all → IsTrue (is_some (entry_at left (length all)))
  pub is_quiet : k ≤ quiet
  pub gone_released : (i : ℕ) → 1 ≤ i → i ≤ length all → entry_at left i ≡ None → IsTrue (is_released (numbered all) k i)
  pub gone_tombstones : (j : ℕ) (t : Entry) → entry_at (numbered all) j ≡ Some t → entry_at left j ≡ None → IsTrue (is_tombstone t.body) → (j ≤ f) × ((i : ℕ) (e : Entry) → entry_at left i ≡ Some e → i < j → covers_any t.body (puts i e.body) ≡ false)

abbrev pub closes_standing : Cells → Body → Bool
closes_standing standing (Command session seq effect reply) = deletes_standing standing effect
closes_standing standing _ = true

-- whatever is put fits where it is put, and only names that stand are deleted
abbrev pub is_lawful_from : Cells → Numbered → Bool
is_lawful_from standing [] = true
is_lawful_from standing (x ∷ entries) = (fits standing x.1.body && closes_standing standing x.1.body) && is_lawful_from (after standing x.0 x.1) entries

-- whatever is put at a place has the owner of that place
abbrev pub HasOneOwner : (Place → Option ℕ) → Numbered → Type 0
HasOneOwner owner_of entries = (i : ℕ) (e : Entry) (place : Place) (held : Held) → entry_at entries i ≡ Some e → at (puts i e.body) place ≡ Some held → held.owner ≡ owner_of place

-- what is left of a lawful log gives its cells at each moment from the cut on
abbrev pub CentralLaw : Type 0
CentralLaw =
    (left : Numbered) (all : List Entry) (quiet k f : ℕ) (owner_of : Place → Option ℕ)
    → IsTrue (is_lawful_from [] (numbered all))
    → HasOneOwner owner_of (numbered all)
    → Cleaned left all quiet k f
    → (m : ℕ) → k ≤ m → m ≤ length all
    → cells (up_to m left) ≡ cells (up_to m (numbered all))

-- as the log and the cut grow, what is released stays so
abbrev pub ReleasedGrows : Type 0
ReleasedGrows =
    (items more : List Item) (k m i : ℕ)
    → k ≤ m
    → k ≤ length items
    → IsTrue (is_released (numbered (stored items)) k i)
    → IsTrue (is_released (numbered (stored (items ++ more))) m i)

-- the central law at a log of admitted items
abbrev pub CentralLawOfLogs : Type 0
CentralLawOfLogs =
    (items : List Item) (left : Numbered) (k f : ℕ)
    → IsTrue (is_log items)
    → Cleaned left (stored items) (quiet items) k f
    → (m : ℕ) → k ≤ m → m ≤ length items
    → cells (up_to m left) ≡ cells (up_to m (numbered (stored items)))

-- a log of which nothing is gone is a cleaned log, and an entry that is appended keeps it so
abbrev pub FreshIsCleaned : Type 0
FreshIsCleaned = (all : List Entry) (quiet : ℕ) → Cleaned (numbered all) all quiet 0 0

abbrev pub AppendKeeps : Type 0
AppendKeeps =
    (left : Numbered) (all : List Entry) (quiet later k f : ℕ) (e : Entry)
    → Cleaned left all quiet k f
    → k ≤ length all
    → k ≤ later
    → Cleaned (left ++ (length all + 1, e) ∷ []) (all ++ e ∷ []) later k f
