use Rattle.std.proofs.Common.{refl, ap, ◌∙◌}
use Rattle.std.specs.List.{list_all}
use Rattle.std.proofs.lemmas.Result.{on_ok_weaker}
use Rattle.cell_table.specs.Seen.{has_all}
use Rattle.cell_table.specs.declared.ready.Ready.{Ready}
use Rattle.cell_table.proofs.Readying.{one_more}
use Rattle.cell_table.proofs.ready.make_ready.Goals as goal

pub returns-clause-all : goal.returns-clause-all
returns-clause-all c =
    let r : Ready = record { cell = c.in_ok-copy.field-0; content = c.in_ok-copy-2.field-0; owner = c.args.put.2; index = c.args.put.3 } in
    on_ok_weaker c.room_for.result
    (λ h. ap (list_all (has_all c.room_for.new.slots.map.entries c.room_for.new.owners.entries c.room_for.new.arrivals.entries)) c.in_ok-push.ensures.items
    ∙ one_more _ _ _ _ _ _ c.room_for.ensures.rooms c.room_for.ensures.owned c.room_for.ensures.arrived c.args.ready.now.items r c.requires (h r c.in_ok-copy.ensures refl refl))
    c.room_for.ensures.all
