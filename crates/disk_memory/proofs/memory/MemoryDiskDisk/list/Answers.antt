use Rattle.std.proofs.Common.{List, ℕ, Option, Some, ◌≡◌, ◌↔◌, ◌∙◌, ap, subst, Contains}
use Rattle.disk_model.specs.Image.{place}
use Rattle.disk_memory.specs.declared.steps.Step.{Step}
use Rattle.disk_memory.proofs.Torn.{reads_history}
use Rattle.disk_memory.specs.Versions.{image_of}
use Rattle.disk_memory.proofs.memory.MemoryDiskDisk.list.Goals as goal

pub returns-clause-lists : goal.returns-clause-lists
returns-clause-lists c = record {
  each = λ id.
      let steps : c.deref.result.now ≡ c.args.self.now.steps.items = c.deref.ensures.value in
      let p = place c.args.name.now id in
      subst (λ (o : Option (List ℕ)). Contains c.in_ok-ids_of.field-0.items id ↔ ((b : List ℕ) × (o ≡ Some b))) (ap (λ (l : List Step). image_of l p) steps ∙ reads_history c.args.self.now.steps.items p) (c.in_ok-ids_of.ensures.are id);
  rising = c.in_ok-ids_of.ensures.rising;
}
