use Rattle.std.proofs.Common.{ap, refl, rules, Some}
use Rattle.disk_model.specs.Image.{place}
use Rattle.disk_memory.proofs.Settled.{placed}
use Rattle.disk_memory.proofs.sure.SureDisk.place.Goals as goal

pub returns-clause-placed : goal.returns-clause-placed
returns-clause-placed c = placed c.args.self.now.versions.items c.push.new.self.items _ (place c.args.name.now c.args.id) c.in_ok-push.ensures.items refl c.args.bytes.now (ap Some (search rules))
