-- What a reader answers.
use Rattle.std.specs.Prelude.{◌≡◌, Option, Some, None, Result, Ok, Err}
use Rattle.host_types.specs.declared.text.WordFault.{WordFault}
use Rattle.host_types.specs.declared.text.WordFault.TheVariants as WordFaults
use Rattle.script_text.specs.declared.line.LineFault.{LineFault}
use Rattle.script_text.specs.declared.line.LineFault.TheVariants.{Bad, NoMemory}

-- It gives just what there is to read, and Bad just where there is nothing, unless no memory was left.
abbrev pub Reads : {A : Type 0} → Result A LineFault → Option A → Type 0
Reads (Ok found) there = there ≡ Some found
Reads (Err Bad) there = there ≡ None
Reads (Err NoMemory) there = Unit {0}

-- why a line whose word has this fault can't be read
abbrev pub fault_of : WordFault → LineFault
fault_of WordFaults.NoMemory = NoMemory
fault_of WordFaults.Empty = Bad
fault_of WordFaults.TooLong = Bad
fault_of (WordFaults.BadByte at) = Bad
