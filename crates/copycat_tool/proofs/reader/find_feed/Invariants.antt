use Rattle.std.proofs.Common.{◌≡◌, false, take}
use Rattle.copycat_tool.specs.Script.{has_feed}
use Rattle.copycat_tool.proofs.reader.find_feed.Given as goal

abbrev pub invariant-loop-i : goal.invariant-loop-i
invariant-loop-i l = has_feed (take l.i l.bytes) ≡ false
