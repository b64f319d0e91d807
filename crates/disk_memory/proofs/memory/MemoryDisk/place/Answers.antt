use Rattle.std.proofs.Common.{ap, refl, rules, Some, ◌≡◌}
use Rattle.disk_model.specs.Image.{place}
use Rattle.disk_memory.specs.History.{history}
use Rattle.disk_memory.specs.Placed.{Places}
use Rattle.disk_memory.specs.Torn.{sound}
use Rattle.disk_memory.proofs.Torn.{moved, placed}
use Rattle.disk_memory.proofs.memory.MemoryDisk.place.Goals as goal

pub returns-clause-placed : goal.returns-clause-placed
returns-clause-placed c =
    let steps = c.args.self.now.steps.items in
    let p = place c.args.name.now c.args.id in
    let copied : c.in_ok-to_vec.field-0.items ≡ c.args.bytes.now = search rules in
    moved steps c.push.new.self.items _ (λ v w. Places v w p c.args.bytes.now) c.in_ok-push.ensures.items (placed (history steps) c.args.name.now c.args.id c.requires (sound steps) c.args.bytes.now (Some c.in_ok-to_vec.field-0) refl (ap Some copied))
