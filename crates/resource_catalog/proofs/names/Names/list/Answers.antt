use Rattle.std.proofs.Common.{◌≡◌, ℕ, List, ◌++◌, take, sym, ap, ◌∙◌, append_assoc, ◌∷◌, [], None}
use Rattle.host_types.specs.declared.entry.Cell.TheVariants.{Named as Named_cell}
use Rattle.host_types.specs.declared.entry.Content.TheVariants.{Mark}
use Rattle.machine.specs.Listing.{listed}
use Rattle.resource_catalog.specs.declared.names.Named.{Named}
use Rattle.resource_catalog.specs.Parts.{name_cells}
use Rattle.resource_catalog.proofs.Search.{cut}
use Rattle.resource_catalog.proofs.Loops.{listed_names_next}
use Rattle.resource_catalog.proofs.names.Names.list.Goals as goal

pub loop-name-preserved : goal.loop-name-preserved
loop-name-preserved c =
    let names = c.deref-name-items.result.now in
    let n = c.loop-name.name-index in
    let x = cut names n c.loop-name-test.true in
    let item : c.loop-name-item.result ≡ x.0 = c.loop-name-item.is ∙ x.2 c.loop-name-item.result in
    let index = c.index.ensures ∙ ap (λ (y : List ℕ × Named). y.1.commit) item in
    let name = c.in_ok-copy.ensures ∙ ap (λ (y : List ℕ × Named). y.0) item in
    c.in_ok-push.ensures.items
    ∙ (λ i. c.loop-name.invariant i ++ (record { instance = 0; cell = Named_cell (name i); index = index i; content = Mark; owner = None } ∷ []))
    ∙ append_assoc c.args.out.now.items (listed (name_cells (take n names))) _
    ∙ ap (λ l. c.args.out.now.items ++ l) (sym (listed_names_next names n x.0 x.2 c.loop-name-test.true))
