use Rattle.std.proofs.Common.{◌≡◌, ◌++◌, take}
use Rattle.std.specs.List.{flat_map, AllByRecursion}
use Rattle.entry_codec.specs.Spelled.{number_spelled, IsUnsigned}
use Rattle.entry_codec.proofs.writing.put_indexes.Given as goal

abbrev pub invariant-loop-index : goal.invariant-loop-index
invariant-loop-index l = record {
  written : l.out.items ≡ l.fn.out.items ++ flat_map number_spelled (take l.index-index l.indexes);
  fit : AllByRecursion IsUnsigned (take l.index-index l.indexes);
}
