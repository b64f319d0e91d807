use Rattle.std.proofs.Common.{◌≡◌, ◌++◌, take}
use Rattle.std.specs.List.{flat_map, AllByRecursion}
use Rattle.entry_codec.specs.Spelled.{text_spelled, IsWord}
use Rattle.entry_codec.proofs.writing.put_words.Given as goal

abbrev pub invariant-loop-word : goal.invariant-loop-word
invariant-loop-word l = record {
  written : l.out.items ≡ l.fn.out.items ++ flat_map text_spelled (take l.word-index l.words);
  fit : AllByRecursion IsWord (take l.word-index l.words);
}
