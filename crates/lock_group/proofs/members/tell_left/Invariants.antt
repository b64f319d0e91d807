use Rattle.std.proofs.Common.{◌≡◌, ◌++◌, take}
use Rattle.lock_group.specs.Members.{told_left}
use Rattle.lock_group.proofs.members.tell_left.Given as goal

abbrev pub invariant-loop-member : goal.invariant-loop-member
invariant-loop-member l = l.told ≡ l.fn.told ++ told_left l.name (take l.member-index l.gone) l.session
