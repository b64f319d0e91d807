use Rattle.std.proofs.Common.{◌∙◌, ◌≡◌, ◌&&◌, List, get_or, ap, subst, Contains, nat_eq, true}
use Rattle.std.proofs.lemmas.Bool.{and_parts, eqb-true}
use Rattle.disk_model.specs.declared.file_id.FileId.{FileId}
use Rattle.disk_model.specs.Image.{Image, place}
use Rattle.rows.proofs.files.look.Goals as goal

same_ids : (a b : FileId) → nat_eq a.base b.base && nat_eq a.generation b.generation ≡ true → a ≡ b
same_ids a b hit =
    let parts = and_parts (nat_eq a.base b.base) _ hit in
    let base = eqb-true a.base b.base parts.0 in
    let generation = eqb-true a.generation b.generation parts.1 in
    λ i. record { base = base i; generation = generation i }

pub read-requires-clause-listed : goal.read-requires-clause-listed
read-requires-clause-listed g c = λ t.
    let p = place c.args.name.now c.args.id in
    let found = c.if-not-contains.ensures.cases in
    let has : Contains c.in_ok-ids.ids.items c.args.id = subst (λ (l : List FileId). Contains l c.args.id) c.deref.ensures.value (found.0, found.1, same_ids (get_or c.deref.result.now found.0 c.args.id) c.args.id (found.2 c.args.id)) in
    let was = ((c.in_ok-ids.ensures.lists t).each c.args.id).0 has in
    (was.0, ap (λ (image : Image). image p) (c.in_ok-ids.ensures.told t).stays.reading ∙ was.1)
