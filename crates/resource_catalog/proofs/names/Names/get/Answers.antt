use Rattle.std.proofs.Common.{List, ℕ, Some, sym, ap, ◌∙◌}
use Rattle.resource_catalog.specs.declared.names.Named.{Named}
use Rattle.resource_catalog.proofs.Search.{find_there, find_gap}
use Rattle.resource_catalog.proofs.Texts.{text_total}
use Rattle.resource_catalog.proofs.names.Names.get.Goals as goal

pub returns-in-Ok : goal.returns-in-Ok
returns-in-Ok c =
    let at = c.in-Ok.ensures.found in
    ap (λ (x : List ℕ × Named). Some x.1) (c.index.ensures ∙ at.read c.index.result.now) ∙ sym (find_there text_total c.args.self.now.entries.items c.args.name.now c.in-Ok.at at)

pub returns-in-Err : goal.returns-in-Err
returns-in-Err c = sym (find_gap text_total c.args.self.now.entries.items c.args.name.now c.in-Err.field-0 c.in-Err.ensures.gap)
