use Rattle.std.proofs.Common.{◌∙◌}
use Rattle.machine.proofs.ReleaseLaws.{retires_one}
use Rattle.resource_catalog.proofs.Places.{last_name_out, name_retired}
use Rattle.resource_catalog.proofs.names.Names.end.Goals as goal

pub retire-requires : goal.retire-requires
retire-requires c = last_name_out _ _ _ c.loop-commit.lender c.in-Some.ensures.items c.loop-commit.invariant.held

pub loop-commit-preserved : goal.loop-commit-preserved
loop-commit-preserved c =
    let step = name_retired c.args.self.entries.items c.loop-commit.entries.items c.pop.new.self.items _ c.args.lender.now c.loop-commit.lender c.retire.new.self c.in-Some.ensures.items c.loop-commit.invariant.held c.loop-commit.invariant.gone
    (retires_one _ c.loop-commit.lender c.retire.new.self c.retire.ensures.tokens c.retire.ensures.closed c.retire.ensures.spare) in
    record {
      held = step.0;
      gone = step.1;
      closed = c.retire.ensures.closed ∙ c.loop-commit.invariant.closed;
      spare = c.retire.ensures.spare ∙ c.loop-commit.invariant.spare;
    }
