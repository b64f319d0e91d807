use Rattle.std.proofs.Common.{◌≡◌, Some, sym, ap, subst, ◌∙◌}
use Rattle.std.proofs.lemmas.Result.{IfOk-weaker}
use Rattle.log_model.specs.replay.Telling.{effect_instance}
use Rattle.resource_catalog.specs.Catalog.{tells_on, catalog_decision}
use Rattle.resource_catalog.specs.Parts.{Parts, cells_of, whole_cells}
use Rattle.resource_catalog.proofs.Instances.{tells_kept}
use Rattle.resource_catalog.proofs.Ordered.{in_order}
use Rattle.resource_catalog.proofs.catalog.CatalogMachine.tells.Goals as goal

pub returns-in-Some : goal.returns-in-Some
returns-in-Some c =
    let m = c.in-Some.instance in
    let effect = c.args.effect.now in
    let index = c.args.index in
    let names = c.self.inside.names.entries.items in
    let slots = c.self.inside.slots.entries.items in
    let kept = tells_kept names slots (in_order c.self.inside.names c.self.inside.slots c.self.invariant) m effect index in
    let some : effect_instance effect ≡ Some m = sym c.instance_of.ensures ∙ c.in-Some.is in
    IfOk-weaker c.tells.result _ _
    (λ told e.
    subst (λ (v : Parts). told ≡ catalog_decision.tells (cells_of v) effect index) c.self.view_is
    (e ∙ kept ∙ ap (λ o. tells_on (whole_cells names slots) o effect index) (sym some)))
    c.tells.ensures
