use Rattle.host_types.specs.Cells.{places_of}
use Rattle.host_core.proofs.Meeting.{anew, is_lent, none_held}
use Rattle.host_core.proofs.entering.enter_effect.Goals as goal

pub apply-requires-clause-anew : goal.apply-requires-clause-anew
apply-requires-clause-anew κs c = anew c.args.commit (κs.M.Machine.cells c.args.machine.now) c.args.sessions.now c.args.lender.now c.requires.meets c.args.effect.now

pub apply-requires-clause-new : goal.apply-requires-clause-new
apply-requires-clause-new κs c = none_held c.args.commit (κs.M.Machine.cells c.args.machine.now) c.args.sessions.now c.args.lender.now c.requires.meets

pub close_own-requires : goal.close_own-requires
close_own-requires κs c = is_lent c.args.commit (κs.M.Machine.cells c.args.machine.now) c.args.sessions.now c.args.lender.now c.requires.meets

pub returns-else-owner_stands-clause-released : goal.returns-else-owner_stands-clause-released
returns-else-owner_stands-clause-released κs c = c.close_own.ensures (places_of (κs.M.Machine.cells c.args.machine.now)) (none_held c.args.commit (κs.M.Machine.cells c.args.machine.now) c.args.sessions.now c.args.lender.now c.requires.meets)
