use Rattle.std.proofs.Common.{◌≡◌, ◌++◌, ◌+◌, ◌*◌, ◌≤◌, length, take}
use Rattle.segment_files.specs.Contents.{body_bytes, lent, places_from}
use Rattle.segment_files.proofs.frames.put_entries.Given as goal

-- so many entries are written, and their places told
abbrev pub invariant-loop-index : goal.invariant-loop-index
invariant-loop-index l = record {
  body : l.out.items ≡ l.fn.out.items ++ body_bytes (take l.index-index (lent l.entries));
  places : l.places.items ≡ l.fn.places.items ++ places_from 5 (take l.index-index (lent l.entries));
  short : length l.out.items ≤ l.start + 5 + 131072 * l.index-index;
  long : l.start + 5 ≤ length l.out.items;
  ahead : take l.start l.out.items ≡ take l.start l.fn.out.items;
}
