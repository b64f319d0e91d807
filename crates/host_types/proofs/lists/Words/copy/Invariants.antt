use Rattle.std.proofs.Common.{◌≡◌, take}
use Rattle.host_types.proofs.lists.Words.copy.Given as goal

-- so many are copied
abbrev pub invariant-loop-word : goal.invariant-loop-word
invariant-loop-word l = l.items.items ≡ take l.word-index l.word-items
