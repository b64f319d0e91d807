use Rattle.std.proofs.Common.{rules}
use Rattle.disk_model.specs.Image.{place}
use Rattle.segment_files.proofs.Closed.{creating, gating, gated, closed_by}
use Rattle.disk_model.specs.Calls.{Syncs}
use Rattle.disk_model.proofs.Places.{at_ok}
use Rattle.segment_files.proofs.tails.create_closed.Goals as goal

pub returns-in_err-create-clause-writes : goal.returns-in_err-create-clause-writes
returns-in_err-create-clause-writes g c = record {
  any_moment = λ t.
      let view = g.D.Disk.view in
      creating (view c.args.disk.now) (view c.create.new.self) (place c.args.name.now c.args.id) (c.requires.fresh t) (g.met.D.Disk.sound c.args.disk.now t) _ (c.create.ensures.told t);
  others = search rules;
  cause = search rules;
}

pub returns-in_err-write_at-clause-writes : goal.returns-in_err-write_at-clause-writes
returns-in_err-write_at-clause-writes g c = record {
  any_moment = λ t.
      let view = g.D.Disk.view in
      gating (view c.args.disk.now) (view c.create.new.self) (place c.args.name.now c.args.id) (c.requires.fresh t) (g.met.D.Disk.sound c.args.disk.now t) _ (c.create.ensures.told t) (view c.write_at.new.self) _ (c.write_at.ensures.told t);
  others = search rules;
  cause = search rules;
}

pub returns-clause-writes : goal.returns-clause-writes
returns-clause-writes g c = record {
  any_moment = λ t.
      let view = g.D.Disk.view in
      gated (view c.args.disk.now) (view c.create.new.self) (place c.args.name.now c.args.id) (c.requires.fresh t) (g.met.D.Disk.sound c.args.disk.now t) _ (c.create.ensures.told t) (view c.write_at.new.self) _ (c.write_at.ensures.told t) (view c.sync.new.self) _ (c.sync.ensures.told t);
  others = search rules;
  cause = search rules;
}

pub returns-clause-closed : goal.returns-clause-closed
returns-clause-closed g c =
    let view = g.D.Disk.view in
    let p = place c.args.name.now c.args.id in
    at_ok c.sync.result (λ r. Syncs (view c.write_at.new.self) (view c.sync.new.self) p r) c.sync.ensures.told
    (λ z t synced. closed_by (view c.args.disk.now) (view c.create.new.self) (view c.write_at.new.self) (view c.sync.new.self) p _ _ z (c.in_ok-create.ensures.told t) (c.in_ok-write_at.ensures.told t) synced)
