use Rattle.std.proofs.Common.{Ok, refl}
use Rattle.disk_model.specs.Image.{place}
use Rattle.disk_model.specs.Calls.{Removes}
use Rattle.disk_memory.specs.History.{history}
use Rattle.disk_memory.specs.Torn.{sound}
use Rattle.disk_memory.proofs.Torn.{moved, removed}
use Rattle.disk_memory.proofs.memory.MemoryDiskDisk.remove.Goals as goal

pub returns-clause-told : goal.returns-clause-told
returns-clause-told c =
    let steps = c.args.self.now.steps.items in
    let p = place c.args.name.now c.args.id in
    moved steps c.push.new.self.items _ (λ v w. Removes v w p (Ok tt)) c.in_ok-push.ensures.items (removed (history steps) c.args.name.now c.args.id c.requires.id (sound steps) refl tt)
