use Rattle.std.proofs.Common.{refl, Option, Some, None, subst, rules}
use Rattle.host_types.specs.declared.entry.Refusal.{Refusal}
use Rattle.script_text.specs.declared.printed.Printed.TheVariants as prints
use Rattle.copycat_tool.specs.Report.{after, all_expired, says}
use Rattle.copycat_tool.specs.Turning.{HasExpired}
use Rattle.copycat_tool.proofs.ExpiringLemmas.{offer_answers, offer_unmade}
use Rattle.copycat_tool.proofs.TurnLemmas.{looked, put_told}
use Rattle.copycat_tool.proofs.turns.answer_line_of_offer.Goals as goal

pub returns-in-Ok-None : goal.returns-in-Ok-None
returns-in-Ok-None g c = record {
  runs = search rules;
  told = λ t files run at.
      let P : Option Refusal → Type 0 = λ why. HasExpired g.D.Disk.view files c.args.one.now.time c.args.host.now c.expire_all.new.host run (g.O.Sink.written c.args.out.now) (g.O.Sink.written c.expire_all.new.out) why in
      let gone = subst P c.in-Ok-None.field-0-is (c.in-Ok-None.ensures.told t files run at) in
      offer_answers g.D.Disk.view files c.args.one.now c.args.host.now c.expire_all.new.host run (g.O.Sink.written c.args.out.now) (g.O.Sink.written c.expire_all.new.out) None gone c.answer_offer.new.host (g.O.Sink.written c.answer_offer.new.out) c.answer_offer.result
      (c.answer_offer.ensures.told t files (after files.size run (all_expired files.size run c.args.one.now.time)) gone.all.at);
  keeps = search rules;
}

pub returns-in-Ok-Some : goal.returns-in-Ok-Some
returns-in-Ok-Some g c = record {
  runs = search rules;
  told = λ t files run at.
      let P : Option Refusal → Type 0 = λ why. HasExpired g.D.Disk.view files c.args.one.now.time c.args.host.now c.expire_all.new.host run (g.O.Sink.written c.args.out.now) (g.O.Sink.written c.expire_all.new.out) why in
      let gone = subst P c.in-Ok-Some.field-0-is (c.in-Ok-Some.ensures.told t files run at) in
      let there = after files.size run (all_expired files.size run c.args.one.now.time) in
      let this = says (prints.Refused c.in-Ok-Some.why) in
      offer_answers g.D.Disk.view files c.args.one.now c.args.host.now c.expire_all.new.host run (g.O.Sink.written c.args.out.now) (g.O.Sink.written c.expire_all.new.out) (Some c.in-Ok-Some.why) gone c.expire_all.new.host (g.O.Sink.written c.put_answer.new.out) c.put_answer.result
      (put_told g.D.Disk.view files c.expire_all.new.host c.expire_all.new.host there this (g.O.Sink.written c.expire_all.new.out) (g.O.Sink.written c.put_answer.new.out) _ _
      (prints.Refused c.in-Ok-Some.why) (looked g.D.Disk.view files c.expire_all.new.host there this gone.all.at refl (prints.Refused c.in-Ok-Some.why) refl) c.put_answer.result c.put_answer.ensures.put);
  keeps = search rules;
}

pub returns-in-Err : goal.returns-in-Err
returns-in-Err g c = record {
  runs = search rules;
  told = λ t files run at.
      offer_unmade g.D.Disk.view files c.args.one.now c.args.host.now c.args.host.now run (g.O.Sink.written c.args.out.now) (g.O.Sink.written c.expire_all.new.out) (g.D.Disk.view c.expire_all.new.host.disk) c.in-Err.ending (c.in-Err.ensures.told t files run at);
  keeps = search rules;
}
