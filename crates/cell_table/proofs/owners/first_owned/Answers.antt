use Rattle.std.proofs.Common.{false, Option, ap, sym, ◌∙◌}
use Rattle.std.specs.Option.{option_map_or}
use Rattle.std.specs.BTreeSet.{BTreeSet, contains}
use mathlib.Core.Bool.{true≢false}
use Rattle.host_types.specs.declared.entry.Cell.{Cell}
use Rattle.host_types.specs.Cells.{cell_cmp}
use Rattle.cell_table.proofs.Owning.{told_of}
use Rattle.cell_table.proofs.owners.first_owned.Goals as goal

pub first_among-requires : goal.first_among-requires
first_among-requires c k f there own =
    ap (λ (o : Option (BTreeSet Cell)). option_map_or (λ cells. contains cell_cmp cells k) o false) c.in-Some.ensures.value
    ∙ told_of c.args.slots.now.map.entries c.args.owners.now.entries c.args.owner c.requires k f there own

pub returns-in-None-clause-none : goal.returns-in-None-clause-none
returns-in-None-clause-none c k f there own =
    absurd (true≢false (sym (ap (λ (o : Option (BTreeSet Cell)). option_map_or (λ cells. contains cell_cmp cells k) o false) c.in-None.ensures.value
    ∙ told_of c.args.slots.now.map.entries c.args.owners.now.entries c.args.owner c.requires k f there own)))
