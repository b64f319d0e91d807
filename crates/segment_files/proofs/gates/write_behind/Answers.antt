use Rattle.std.proofs.Common.{rules}
use Rattle.disk_model.specs.Image.{place}
use Rattle.segment_files.proofs.Appending.{writing, is_shut, all_along, becomes}
use Rattle.segment_files.proofs.gates.write_behind.Goals as goal

pub returns-in_err-write_at-clause-writes : goal.returns-in_err-write_at-clause-writes
returns-in_err-write_at-clause-writes g c = record {
  any_moment = λ t.
      let view = g.D.Disk.view in
      writing (view c.args.disk.now) (view c.write_at.new.self) (place c.args.name.now c.args.id) c.args.gate c.args.behind.now (c.requires.at_gate t) _ (c.write_at.ensures.told t) (g.met.D.Disk.sound c.args.disk.now t);
  others = search rules;
  cause = search rules;
}

pub open_gate-requires-clause-shut : goal.open_gate-requires-clause-shut
open_gate-requires-clause-shut g c = λ t.
    let view = g.D.Disk.view in
    let wrote = c.in_ok-write_at.ensures.told t in
    is_shut (view c.args.disk.now) (view c.write_at.new.self) (place c.args.name.now c.args.id) c.args.gate c.args.behind.now (c.requires.at_gate t) _ wrote wrote.done

pub returns-in_err-open_gate-clause-writes : goal.returns-in_err-open_gate-clause-writes
returns-in_err-open_gate-clause-writes g c = record {
  any_moment = λ t.
      let view = g.D.Disk.view in
      let wrote = c.in_ok-write_at.ensures.told t in
      all_along (view c.args.disk.now) (view c.write_at.new.self) (place c.args.name.now c.args.id) c.args.gate c.args.behind.now (c.requires.at_gate t) _ wrote wrote.done (view c.open_gate.new.disk) (g.met.D.Disk.sound c.args.disk.now t) (c.open_gate.ensures.writes.any_moment t);
  others = search rules;
  cause = search rules;
}

pub returns-clause-writes : goal.returns-clause-writes
returns-clause-writes g c = record {
  any_moment = λ t.
      let view = g.D.Disk.view in
      let wrote = c.in_ok-write_at.ensures.told t in
      all_along (view c.args.disk.now) (view c.write_at.new.self) (place c.args.name.now c.args.id) c.args.gate c.args.behind.now (c.requires.at_gate t) _ wrote wrote.done (view c.open_gate.new.disk) (g.met.D.Disk.sound c.args.disk.now t) (c.open_gate.ensures.writes.any_moment t);
  others = search rules;
  cause = search rules;
}

pub returns-clause-appended : goal.returns-clause-appended
returns-clause-appended g c = λ t b reads.
    let view = g.D.Disk.view in
    let wrote = c.in_ok-write_at.ensures.told t in
    becomes (view c.args.disk.now) (view c.write_at.new.self) (place c.args.name.now c.args.id) c.args.gate c.args.behind.now (c.requires.at_gate t) _ wrote wrote.done (view c.open_gate.new.disk) b reads (c.in_ok-open_gate.ensures.opened t)
