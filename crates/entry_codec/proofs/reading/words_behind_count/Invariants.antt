use Rattle.std.proofs.Common.{◌≡◌, ◌-◌, length}
use Rattle.entry_codec.specs.Reading.{words_behind}
use Rattle.entry_codec.proofs.Lists.{behind_words}
use Rattle.entry_codec.proofs.reading.words_behind_count.Given as goal

abbrev pub invariant-loop : goal.invariant-loop
invariant-loop l = record {
  read : behind_words l.words (words_behind (l.count - l.counter) l.rest) ≡ words_behind l.count l.bytes;
  counted : length l.words ≡ l.counter;
}
