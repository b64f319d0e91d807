use Rattle.std.proofs.Common.{Ok, Some, refl, rules}
use Rattle.disk_model.specs.Image.{place}
use Rattle.disk_model.specs.Calls.{Syncs}
use Rattle.disk_memory.specs.History.{history}
use Rattle.disk_memory.specs.Torn.{sound}
use Rattle.disk_memory.proofs.Torn.{moved, synced}
use Rattle.disk_memory.proofs.memory.MemoryDiskDisk.sync.Goals as goal

pub returns-clause-told : goal.returns-clause-told
returns-clause-told c =
    let steps = c.args.self.now.steps.items in
    let p = place c.args.name.now c.args.id in
    moved steps c.push.new.self.items _ (λ v w. Syncs v w p (Ok tt)) c.in_ok-push.ensures.items (synced (history steps) c.args.name.now c.args.id c.requires.id (sound steps) (Some c.in_ok-bytes-in-Some.bytes) refl (search rules) tt)
