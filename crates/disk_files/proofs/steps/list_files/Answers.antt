-- Sorting keeps the ids.
use Rattle.std.proofs.lemmas.List.Sorted.{All-permutation}
use Rattle.disk_model.specs.Image.{IsFileId}
use Rattle.disk_files.proofs.steps.list_files.Goals as goal

pub returns-clause-ids : goal.returns-clause-ids
returns-clause-ids g c = All-permutation IsFileId c.loop-entry.ids.items c.sort.new.self.items c.sort.ensures.permutation c.loop-entry.invariant
