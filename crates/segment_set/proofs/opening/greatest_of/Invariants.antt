-- So far it is the greatest.
use Rattle.std.proofs.Common.{◌≡◌, ◌⊎◌, ◌≤◌, take, Contains}
use Rattle.disk_model.specs.declared.file_id.FileId.{FileId}
use Rattle.segment_set.proofs.opening.greatest_of.Given as goal

abbrev pub invariant-loop-id : goal.invariant-loop-id
invariant-loop-id l = record {
  above : (id : FileId) → Contains (take l.id-index l.ids) id → id.generation ≤ l.greatest;
  taken : (l.greatest ≡ 0) ⊎ ((id : FileId) × Contains l.ids id × (id.generation ≡ l.greatest));
  bound : l.greatest ≤ 281474976710655;
}
