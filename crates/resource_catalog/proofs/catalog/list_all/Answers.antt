use Rattle.std.proofs.Common.{◌++◌, ap, sym, ◌∙◌, append_assoc}
use Rattle.std.proofs.lemmas.Result.{on_ok_weaker}
use Rattle.machine.specs.Listing.{listed}
use Rattle.resource_catalog.specs.Parts.{name_cells, slot_cells}
use Rattle.resource_catalog.proofs.Loops.{listed_joined}
use Rattle.resource_catalog.proofs.catalog.list_all.Goals as goal

pub returns-clause-ok : goal.returns-clause-ok
returns-clause-ok c =
    let names = name_cells c.args.names.now.entries.items in
    let slots = slot_cells c.args.slots.now.entries.items in
    on_ok_weaker c.list-2.result (λ e. e ∙ ap (λ l. l ++ listed slots) c.in_ok-list.ensures.ok ∙ append_assoc c.args.out.now.items (listed names) (listed slots) ∙ ap (λ l. c.args.out.now.items ++ l) (sym (listed_joined names slots))) c.list-2.ensures.ok
