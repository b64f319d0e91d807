use Rattle.std.proofs.Common.{rules}
use Rattle.disk_model.specs.Image.{place}
use Rattle.segment_files.proofs.Opening.{synced, opening, opened}
use Rattle.segment_files.proofs.gates.open_gate.Goals as goal

pub returns-in_err-sync-clause-writes : goal.returns-in_err-sync-clause-writes
returns-in_err-sync-clause-writes g c = record {
  any_moment = λ t.
      let view = g.D.Disk.view in
      synced (view c.args.disk.now) (view c.sync.new.self) (place c.args.name.now c.args.id) c.args.at (c.requires.shut t) (g.met.D.Disk.sound c.args.disk.now t) _ (c.sync.ensures.told t);
  others = search rules;
  cause = search rules;
}

pub returns-in_err-write_at-clause-writes : goal.returns-in_err-write_at-clause-writes
returns-in_err-write_at-clause-writes g c = record {
  any_moment = λ t.
      let view = g.D.Disk.view in
      opening (view c.args.disk.now) (view c.sync.new.self) (place c.args.name.now c.args.id) c.args.at (c.requires.shut t) (g.met.D.Disk.sound c.args.disk.now t) (view c.write_at.new.self) _ (c.in_ok-sync.ensures.told t) _ (c.write_at.ensures.told t);
  others = search rules;
  cause = search rules;
}

pub returns-clause-writes : goal.returns-clause-writes
returns-clause-writes g c = record {
  any_moment = λ t.
      let view = g.D.Disk.view in
      opened (view c.args.disk.now) (view c.sync.new.self) (place c.args.name.now c.args.id) c.args.at (c.requires.shut t) (g.met.D.Disk.sound c.args.disk.now t) (view c.write_at.new.self) _ (c.in_ok-sync.ensures.told t) _ (c.write_at.ensures.told t) (view c.sync-2.new.self) _ (c.sync-2.ensures.told t);
  others = search rules;
  cause = search rules;
}
