-- the numbers so far are appended
use Rattle.std.proofs.Common.{◌≡◌, ◌++◌, take}
use Rattle.std.specs.Fmt.{decimal}
use Rattle.std.specs.List.{flat_map}
use Rattle.script_text.proofs.printing.push_numbers.Given as goal

abbrev pub invariant-loop-words : goal.invariant-loop-words
invariant-loop-words l = l.text.items ≡ l.fn.text.items ++ flat_map (λ part. part.0.now ++ decimal part.1) (take l.words-index l.parts)
