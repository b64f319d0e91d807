use Rattle.std.proofs.Common.{◌≡◌, ◌++◌, ◌≤◌, length}
use Rattle.cell_table.specs.Lookups.{and_above, found}
use Rattle.multimap_resource.specs.Reading.{words_of}
use Rattle.multimap_resource.proofs.Walking.{IsAbove}
use Rattle.multimap_resource.proofs.words.copy_from.Given as goal

abbrev pub invariant-loop-next : goal.invariant-loop-next
invariant-loop-next l = record {
  copied : l.words ++ words_of l.fn.key (and_above l.fn.table.instance l.fn.table.cells (found l.next)) ≡ words_of l.fn.key l.fn.table.cells;
  few : length l.words ≤ 16;
  up : IsAbove l.fn.key (found l.next);
}

abbrev pub decreases-loop-next : goal.decreases-loop-next
decreases-loop-next l = length (and_above l.fn.table.instance l.fn.table.cells (found l.next))
