-- Each id so far may stand in a file's name.
use Rattle.std.proofs.Common.{All}
use Rattle.disk_model.specs.Image.{IsFileId}
use Rattle.disk_files.proofs.steps.list_files.Given as goal

abbrev pub invariant-loop-entry : goal.invariant-loop-entry
invariant-loop-entry g l = All IsFileId l.ids.items
