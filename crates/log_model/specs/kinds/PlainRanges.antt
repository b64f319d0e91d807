-- Which numbers and words a plain resource may have, as far as its rows need them.
use Rattle.std.specs.Prelude.{ℕ, List, Option, Some, None, FitsSigned}
use Rattle.std.specs.List.{AllByRecursion}
use Rattle.std.specs.Int.{w64}
use Rattle.host_types.specs.Ranges.{IsIndex, IsUnsigned, IsWord, OpFits}
use Rattle.host_types.specs.Cells.{Cells}
use Rattle.host_types.specs.declared.entry.Op.{Op}
use Rattle.log_model.specs.plain.Rows.{row}
use Rattle.log_model.specs.kinds.Deciding.{call_of}
use Rattle.log_model.specs.kinds.LawfulRows.{IsLawfulRow}
use Rattle.log_model.specs.plain.Plain.{Member, Plain, Value_is, Counter_is, Map_is, Multimap_is, Set_is, Queue_is, Lock_is, Group_is, Topic_is, kind_of}

abbrev pub IsWordIfAny : Option (List ℕ) → Type 0
IsWordIfAny None = Unit {0}
IsWordIfAny (Some word) = IsWord word

abbrev pub IsPlainInRange : Plain → Type 0
IsPlainInRange (Value_is cur) = IsWordIfAny cur
IsPlainInRange (Counter_is number) = FitsSigned w64 number
IsPlainInRange (Map_is pairs) = AllByRecursion (λ (p : List ℕ × List ℕ). IsWord p.1) pairs
IsPlainInRange (Multimap_is pairs) = AllByRecursion (λ (p : List ℕ × List ℕ). IsWord p.1) pairs
IsPlainInRange (Set_is words) = Unit {0}
IsPlainInRange (Queue_is items) = AllByRecursion (λ (x : ℕ × List ℕ). IsIndex x.0 × IsWord x.1) items
IsPlainInRange (Lock_is waiters) = AllByRecursion (λ (w : ℕ × ℕ). IsIndex w.0 × IsUnsigned w.1) waiters
IsPlainInRange (Group_is members listeners) = AllByRecursion (λ (x : Member). IsIndex x.index) members
IsPlainInRange (Topic_is listeners) = Unit {0}

-- a row of a plain resource in range is lawful
abbrev pub RowsAreLawful : Type 0
RowsAreLawful =
    (cells : Cells) (name : List ℕ) (m session index : ℕ) (plain : Plain) (op : Op)
    → IsIndex m
    → IsIndex session
    → IsIndex index
    → OpFits op
    → IsPlainInRange plain
    → IsLawfulRow (record { kind = kind_of plain; instance = m; cells = cells; session = session; index = index }) (row (call_of name m session index) plain op)
