use Rattle.std.proofs.Common.{[], ap, ◌∙◌}
use Rattle.host_types.specs.declared.entry.Kind.TheVariants.{Multimap}
use Rattle.log_model.specs.plain.Rows.{multimap_row}
use Rattle.log_model.specs.kinds.Deciding.{chosen, call_of}
use Rattle.multimap_resource.specs.Reading.{pairs_of}
use Rattle.multimap_resource.proofs.multimap.decide.Goals as goal

pub returns-in_ok-remove-in-Remove : goal.returns-in_ok-remove-in-Remove
returns-in_ok-remove-in-Remove c session index =
    let x = c.args.table.now in
    ap (λ op. chosen Multimap (multimap_row (call_of [] x.instance session index) (pairs_of x) op)) c.in-Remove.is ∙ c.in_ok-remove-in-Remove.ensures session index
