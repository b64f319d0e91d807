-- What the calls answer, in terms of the spelling.
use Rattle.std.specs.Prelude.{◌≡◌, ℕ, ◌≤◌, List, length, take, Some, Result, Ok, Err}
use Rattle.host_types.specs.declared.entry.Entry.{Entry}
use Rattle.host_types.specs.declared.text.WordFault.{WordFault}
use Rattle.host_types.specs.declared.text.WordFault.TheVariants as words
use Rattle.host_types.specs.Text.{first_hidden}
use Rattle.entry_codec.specs.declared.fault.ReadFault.{ReadFault}
use Rattle.entry_codec.specs.declared.fault.ReadFault.TheVariants as faults
use Rattle.entry_codec.specs.declared.fault.Unread.{Unread}
use Rattle.entry_codec.specs.declared.fault.Unread.TheVariants as unread
use Rattle.entry_codec.specs.Spelled.{IsSpelledBy}
use Rattle.entry_codec.specs.Reading.{Spelling, Spells, Spoils}

-- what a reader of one part answers, seen by view, is what reading gives, unless no memory was left
abbrev pub Fails : {Y : Type 0} → Unread → Result Y ℕ → Type 0
Fails unread.NoMemory read = Unit {0}
Fails (unread.Bad left) read = read ≡ Err left

abbrev pub Gives : {X Y : Type 0} → (X → Y) → Result X Unread → Result Y ℕ → Type 0
Gives view (Ok x) read = read ≡ Ok (view x)
Gives view (Err e) read = Fails e read

-- what is wrong with a text whose length is right
abbrev pub IsHidden : List ℕ → WordFault → Type 0
IsHidden text words.NoMemory = Unit {0}
IsHidden text (words.BadByte at) = first_hidden text ≡ Some at
IsHidden text fault = ⊥

-- the bytes begin as they were read, unless no memory was left
abbrev pub IsRead : Spelling → Result (ℕ × Entry × ℕ) ReadFault → Type 0
IsRead begin (Ok found) = begin ≡ Spells found.0 found.1 found.2
IsRead begin (Err (faults.Bad at)) = begin ≡ Spoils at
IsRead begin (Err faults.NoMemory) = Unit {0}

-- no front of the bytes spells any entry at any index
abbrev pub SpellsNothing : List ℕ → Type 0
SpellsNothing bytes = (size index : ℕ) (entry : Entry) → IsSpelledBy (take size bytes) index entry → ⊥

abbrev pub SaysNone : List ℕ → ReadFault → Type 0
SaysNone bytes (faults.Bad at) = SpellsNothing bytes
SaysNone bytes faults.NoMemory = Unit {0}

-- a fault's place is in the bytes, or at their end
abbrev pub LiesWithin : ℕ → ReadFault → Type 0
LiesWithin size (faults.Bad at) = at ≤ size
LiesWithin size faults.NoMemory = Unit {0}

-- the first so many bytes spell what was found
pub record IsFound (bytes : List ℕ) (found : ℕ × Entry × ℕ) : Type 0 where
  pub least : 17 ≤ found.2
  pub most : found.2 ≤ 131072
  pub within : found.2 ≤ length bytes
  pub spelled : IsSpelledBy (take found.2 bytes) found.0 found.1

-- what was written before still stands
abbrev pub IsFront : List ℕ → List ℕ → Type 0
IsFront old new = take (length old) new ≡ old
