-- the digits so far make n
use Rattle.std.proofs.Common.{◌≡◌, drop}
use Rattle.script_text.specs.Reading.{number_from}
use Rattle.script_text.proofs.fields.digits.Given as goal

abbrev pub invariant-loop-byte : goal.invariant-loop-byte
invariant-loop-byte l = number_from 0 l.bytes ≡ number_from l.n (drop l.byte-index l.bytes)
