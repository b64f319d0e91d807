use Rattle.std.proofs.Common.{◌∙◌, ◌≡◌, ◌&&◌, List, get_or, ap, subst, Contains, nat_eq, true}
use Rattle.std.proofs.lemmas.Bool.{and_parts, eqb-true}
use Rattle.std.specs.Prelude.{IfOk}
use Rattle.disk_model.specs.declared.file_id.FileId.{FileId}
use Rattle.disk_model.specs.Image.{Image, place}
use Rattle.disk_model.specs.Calls.{Lists}
use Rattle.library_tests.proofs.disk_memory_tests.look.Goals as goal

same_ids : (a b : FileId) → nat_eq a.base b.base && nat_eq a.generation b.generation ≡ true → a ≡ b
same_ids a b hit =
    let parts = and_parts (nat_eq a.base b.base) _ hit in
    let base = eqb-true a.base b.base parts.0 in
    let generation = eqb-true a.generation b.generation parts.1 in
    λ i. record { base = base i; generation = generation i }

pub read-requires-clause-listed : goal.read-requires-clause-listed
read-requires-clause-listed g c = λ t.
    let p = place c.args.name.now c.args.id in
    let found = c.if-not-contains.ensures.cases in
    let has : Contains c.expect-ids.result.items c.args.id = subst (λ (l : List FileId). Contains l c.args.id) c.deref.ensures.value (found.0, found.1, same_ids (get_or c.deref.result.now found.0 c.args.id) c.args.id (found.2 c.args.id)) in
    let lists : Lists (g.D.Disk.view c.args.disk.now) c.args.name.now c.expect-ids.result.items = subst (λ r. IfOk r (λ ids. Lists (g.D.Disk.view c.args.disk.now) c.args.name.now ids.items)) c.expect-ids.ensures (c.list.ensures.lists t) in
    let was = (lists.each c.args.id).0 has in
    (was.0, ap (λ (image : Image). image p) (c.list.ensures.told t).stays.reading ∙ was.1)
