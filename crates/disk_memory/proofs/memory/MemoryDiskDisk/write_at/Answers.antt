use Rattle.std.proofs.Common.{Ok, Some, refl, ap, rules, ◌≡◌}
use Rattle.disk_model.specs.Image.{place}
use Rattle.disk_model.specs.Calls.{Writes}
use Rattle.disk_memory.specs.History.{history}
use Rattle.disk_memory.specs.Torn.{sound}
use Rattle.disk_memory.proofs.Torn.{moved, wrote}
use Rattle.disk_memory.proofs.memory.MemoryDiskDisk.write_at.Goals as goal

pub returns-clause-told : goal.returns-clause-told
returns-clause-told c =
    let steps = c.args.self.now.steps.items in
    let p = place c.args.name.now c.args.id in
    let was : (history steps).reading p ≡ Some c.in-Some.old.now = search rules in
    moved steps c.push.new.self.items _ (λ v w. Writes v w p c.args.at c.args.bytes.now (Ok tt)) c.in_ok-push.ensures.items
    (wrote (history steps) c.args.name.now c.args.id c.requires.id (sound steps) c.args.at c.args.bytes.now c.in-Some.old.now (Some c.in_ok-next-in-Some.next) refl was (search rules) (ap Some c.in_ok-next-in-Some.ensures) tt)
