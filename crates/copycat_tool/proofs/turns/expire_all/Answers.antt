use Rattle.std.proofs.Common.{Some, None, Ok, Err, subst, rules}
use Rattle.script_text.specs.declared.printed.Printed.TheVariants as prints
use Rattle.copycat_tool.specs.declared.calls.Expiring.{Expiring}
use Rattle.copycat_tool.specs.HostCalls.{IsExpiring}
use Rattle.copycat_tool.specs.Report.{after, expired_answer}
use Rattle.copycat_tool.specs.Turning.{goes_on}
use Rattle.copycat_tool.proofs.ExpiringLemmas.{at_end, ended_here, expired_as, failed, first, one_more}
use Rattle.copycat_tool.proofs.Keeping.{keeps_first, keeps_further, keeps_on}
use Rattle.copycat_tool.proofs.TurnLemmas.{put_told}
use Rattle.copycat_tool.proofs.turns.expire_all.Goals as goal

pub loop-index-init : goal.loop-index-init
loop-index-init g c = record {
  runs = c.requires.runs;
  so_far = λ t files run at. first g.D.Disk.view files c.args.time c.args.host.now run (g.O.Sink.written c.args.out.now) at;
  keeps = keeps_first g.D.Disk.tells g.D.Disk.view g.D.Disk.faults c.args.host.now (g.O.Sink.faults c.args.out.now);
}

pub loop-index-preserved : goal.loop-index-preserved
loop-index-preserved g c = record {
  runs = c.in-Ok-Session.ensures.part.runs;
  so_far = λ t files run at.
      let so_far = c.loop-index.invariant.so_far t files run at in
      let here = after files.size run so_far.done in
      let P : Expiring → Type 0 = λ who. IsExpiring g.D.Disk.view files c.loop-index.host c.expire_next.new.host here c.args.time who in
      let who = subst P c.in-Ok-Session.field-0-is (c.in-Ok-Session.ensures.part.told t files here so_far.all.at) in
      one_more g.D.Disk.view files c.args.time c.args.host.now c.loop-index.host run (g.O.Sink.written c.args.out.now) (g.O.Sink.written c.loop-index.out) so_far c.in-Ok-Session.session c.in-Ok-Session.index c.expire_next.new.host who.0 (g.O.Sink.written c.put_answer.new.out)
      (put_told g.D.Disk.view files c.loop-index.host c.expire_next.new.host here (expired_answer here c.args.time c.in-Ok-Session.session) (g.O.Sink.written c.loop-index.out) (g.O.Sink.written c.put_answer.new.out) (g.O.Sink.faults c.loop-index.out) (g.O.Sink.faults c.put_answer.new.out)
      (prints.Expired c.in-Ok-Session.index c.in-Ok-Session.session) who.1 (Ok c.in-Ok.field-0) c.in-Ok.ensures.put);
  keeps = keeps_further g.D.Disk.tells g.D.Disk.view g.D.Disk.faults c.args.host.now c.loop-index.host c.expire_next.new.host (g.O.Sink.faults c.args.out.now) (g.O.Sink.faults c.loop-index.out) (g.O.Sink.faults c.put_answer.new.out) c.loop-index.invariant.keeps ⊥ ⊥ (λ no. no) goes_on
      (keeps_on g.D.Disk.tells g.D.Disk.view g.D.Disk.faults c.loop-index.host c.expire_next.new.host ⊥ c.expire_next.result c.expire_next.ensures.part.keeps (g.O.Sink.faults c.loop-index.out) (g.O.Sink.faults c.put_answer.new.out) c.put_answer.ensures.later);
}

pub returns-in-Err-put_answer : goal.returns-in-Err-put_answer
returns-in-Err-put_answer g c = record {
  runs = search rules;
  told = λ t files run at.
      let so_far = c.loop-index.invariant.so_far t files run at in
      let here = after files.size run so_far.done in
      let P : Expiring → Type 0 = λ who. IsExpiring g.D.Disk.view files c.loop-index.host c.expire_next.new.host here c.args.time who in
      let who = subst P c.in-Ok-Session.field-0-is (c.in-Ok-Session.ensures.part.told t files here so_far.all.at) in
      ended_here g.D.Disk.view files c.args.time c.args.host.now c.loop-index.host run (g.O.Sink.written c.args.out.now) (g.O.Sink.written c.loop-index.out) so_far c.in-Ok-Session.session c.in-Ok-Session.index c.expire_next.new.host who.0 (g.D.Disk.view c.expire_next.new.host.disk)
      c.in-Err-put_answer.ending (g.O.Sink.written c.put_answer.new.out)
      (put_told g.D.Disk.view files c.loop-index.host c.expire_next.new.host here (expired_answer here c.args.time c.in-Ok-Session.session) (g.O.Sink.written c.loop-index.out) (g.O.Sink.written c.put_answer.new.out) (g.O.Sink.faults c.loop-index.out) (g.O.Sink.faults c.put_answer.new.out)
      (prints.Expired c.in-Ok-Session.index c.in-Ok-Session.session) who.1 {T = Unit {0}} (Err c.in-Err-put_answer.ending) c.in-Err-put_answer.ensures.put);
  keeps = search rules;
}

pub returns-in-Ok-Nobody : goal.returns-in-Ok-Nobody
returns-in-Ok-Nobody g c = record {
  runs = search rules;
  told = λ t files run at.
      let so_far = c.loop-index.invariant.so_far t files run at in
      let here = after files.size run so_far.done in
      let P : Expiring → Type 0 = λ who. IsExpiring g.D.Disk.view files c.loop-index.host c.expire_next.new.host here c.args.time who in
      let who = subst P c.in-Ok-Nobody.field-0-is (c.in-Ok-Nobody.ensures.part.told t files here so_far.all.at) in
      expired_as g.D.Disk.view files c.args.time c.args.host.now c.loop-index.host c.expire_next.new.host run (g.O.Sink.written c.args.out.now) (g.O.Sink.written c.loop-index.out) None who.1
      (at_end g.D.Disk.view files c.args.time c.args.host.now c.loop-index.host run (g.O.Sink.written c.args.out.now) (g.O.Sink.written c.loop-index.out) so_far None who.0);
  keeps = search rules;
}

pub returns-in-Ok-Refused : goal.returns-in-Ok-Refused
returns-in-Ok-Refused g c = record {
  runs = search rules;
  told = λ t files run at.
      let so_far = c.loop-index.invariant.so_far t files run at in
      let here = after files.size run so_far.done in
      let P : Expiring → Type 0 = λ who. IsExpiring g.D.Disk.view files c.loop-index.host c.expire_next.new.host here c.args.time who in
      let who = subst P c.in-Ok-Refused.field-0-is (c.in-Ok-Refused.ensures.part.told t files here so_far.all.at) in
      expired_as g.D.Disk.view files c.args.time c.args.host.now c.loop-index.host c.expire_next.new.host run (g.O.Sink.written c.args.out.now) (g.O.Sink.written c.loop-index.out) (Some c.in-Ok-Refused.why) who.1
      (at_end g.D.Disk.view files c.args.time c.args.host.now c.loop-index.host run (g.O.Sink.written c.args.out.now) (g.O.Sink.written c.loop-index.out) so_far (Some c.in-Ok-Refused.why) who.0);
  keeps = search rules;
}

pub returns-in-Err : goal.returns-in-Err
returns-in-Err g c = record {
  runs = search rules;
  told = λ t files run at.
      let so_far = c.loop-index.invariant.so_far t files run at in
      let here = after files.size run so_far.done in
      failed g.D.Disk.view files c.args.time c.args.host.now c.loop-index.host run (g.O.Sink.written c.args.out.now) (g.O.Sink.written c.loop-index.out) so_far c.expire_next.new.host c.in-Err.ending (c.in-Err.ensures.part.told t files here so_far.all.at);
  keeps = search rules;
}
