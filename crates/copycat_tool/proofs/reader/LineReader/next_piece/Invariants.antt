-- So far more was taken, to the end of what is held, and there is no line feed in what was searched.
use Rattle.std.proofs.Common.{◌≡◌, ℕ, ◌+◌, ◌-◌, ◌≤◌, false, List, length, take, Some}
use Rattle.copycat_tool.specs.Script.{has_feed}
use Rattle.copycat_tool.specs.Pieces.{TakesMore}
use Rattle.copycat_tool.proofs.reader.LineReader.next_piece.Given as goal

abbrev pub invariant-loop-piece : goal.invariant-loop-piece
invariant-loop-piece g l = record {
  takes : (left : List ℕ) → g.I.Source.left l.fn.script ≡ Some left
      → (rest : List ℕ) × TakesMore left l.fn.self.held l.self.held l.fn.self.taken l.self.taken rest × (g.I.Source.left l.script ≡ Some rest);
  taken : l.fn.self.taken ≤ l.self.taken;
  consumed : l.self.taken + length l.fn.self.held ≡ l.fn.self.taken + length l.self.held;
  later : g.I.Source.faults l.fn.script ≤ g.I.Source.faults l.script;
  searched : l.searched ≤ length l.self.held;
  none : has_feed (take l.searched l.self.held) ≡ false;
}

abbrev pub decreases-loop-piece : goal.decreases-loop-piece
decreases-loop-piece g l = 16777216 - l.self.taken
