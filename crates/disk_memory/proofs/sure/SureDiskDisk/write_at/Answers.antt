use Rattle.std.proofs.Common.{◌≡◌, Some, refl, rules, ap}
use Rattle.disk_model.specs.Image.{place}
use Rattle.disk_memory.specs.Versions.{image_of}
use Rattle.disk_memory.proofs.Settled.{writes}
use Rattle.disk_memory.proofs.sure.SureDiskDisk.write_at.Goals as goal

pub returns-clause-told : goal.returns-clause-told
returns-clause-told c = λ t.
    let p = place c.args.name.now c.args.id in
    let was : image_of c.args.self.now.versions.items p ≡ Some c.in-Some.old.now = search rules in
    writes c.args.self.now.versions.items c.push.new.self.items _ p c.in_ok-push.ensures.items refl c.in-Some.old.now c.args.bytes.now c.args.at was (search rules) (ap Some c.in_ok-next-in-Some.ensures) _
