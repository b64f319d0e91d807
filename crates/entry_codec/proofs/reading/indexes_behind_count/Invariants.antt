use Rattle.std.proofs.Common.{◌≡◌, ◌-◌, length}
use Rattle.entry_codec.specs.Reading.{indexes_behind}
use Rattle.entry_codec.proofs.Lists.{behind_indexes}
use Rattle.entry_codec.proofs.reading.indexes_behind_count.Given as goal

abbrev pub invariant-loop : goal.invariant-loop
invariant-loop l = record {
  read : behind_indexes l.indexes (indexes_behind (l.count - l.counter) l.rest) ≡ indexes_behind l.count l.bytes;
  counted : length l.indexes ≡ l.counter;
}
