use Rattle.std.proofs.Common.{All, take}
use Rattle.std.specs.List.{AllPairs}
use Rattle.disk_model.specs.Image.{IsBelow, IsFileId}
use Rattle.disk_memory.proofs.Listed.{AreIds}
use Rattle.disk_memory.proofs.versions.ids_of.Given as goal

abbrev pub invariant-loop-version : goal.invariant-loop-version
invariant-loop-version l = record {
  are : AreIds (take l.version-index l.versions) l.name l.ids.items;
  rising : AllPairs IsBelow l.ids.items;
  named : All IsFileId l.ids.items;
}
