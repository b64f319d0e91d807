-- Those so far stand end to end, and none of them is empty but perhaps the last.
use Rattle.std.proofs.Common.{◌≡◌, ◌≤◌, true, false, take}
use Rattle.segment_set.specs.Joined.{are_joined, are_tiled}
use Rattle.segment_set.specs.Sifting.{Ends, IsLastEmpty}
use Rattle.segment_set.proofs.choice.Choice.first_apart.Given as goal

abbrev pub invariant-loop-one : goal.invariant-loop-one
invariant-loop-one l = record {
  ends : Ends 1 (take l.one-index l.one-items) l.next;
  some : 1 ≤ l.next;
  tiled : are_tiled 1 (take l.one-index l.one-items) ≡ true;
  joined : l.full ≡ true → are_joined 1 (take l.one-index l.one-items) ≡ true;
  empty : l.full ≡ false → IsLastEmpty (take l.one-index l.one-items);
}
