use Rattle.std.proofs.Common.{◌≡◌, ◌⊎◌, inl, inr, ⊎_elim, ℕ, ◌+◌, ◌≤◌, ◌<◌, max, List, length, take, get_or, refl, sym, subst, arith, rules, Contains}
use Rattle.std.proofs.lemmas.List.{take_more, take_all}
use Rattle.std.proofs.lemmas.List.Elements.{Contains-push_cases, Contains-get_or}
use Rattle.std.proofs.lemmas.Bool.{cases_lt}
use Rattle.disk_model.specs.declared.file_id.FileId.{FileId}
use Rattle.segment_set.proofs.Images.{nothing}
use Rattle.segment_set.proofs.opening.greatest_of.Goals as goal

abbrev no_id : FileId
no_id = record { base = 0; generation = 0 }

pub loop-id-init : goal.loop-id-init
loop-id-init c = record { above = λ id has. absurd (nothing id has); taken = inl refl; bound = omega arith }

above_more : (ids : List FileId) (n greatest new : ℕ) → n < length ids → new ≡ max greatest (get_or ids n no_id).generation
    → ((id : FileId) → Contains (take n ids) id → id.generation ≤ greatest) → (id : FileId) → Contains (take (n + 1) ids) id → id.generation ≤ new
above_more ids n greatest new lt is above id has = ⊎_elim
    (λ old. let low = above id old in omega (arith, low, is))
    (λ one. subst (λ (i : FileId). i.generation ≤ new) one (omega (arith, is)))
    (Contains-push_cases (take n ids) (get_or ids n no_id) id (subst (λ (l : List FileId). Contains l id) (take_more ids n no_id lt) has))

taken_more : (ids : List FileId) (n greatest new : ℕ) → n < length ids → new ≡ max greatest (get_or ids n no_id).generation
    → (greatest ≡ 0) ⊎ ((id : FileId) × Contains ids id × (id.generation ≡ greatest)) → (new ≡ 0) ⊎ ((id : FileId) × Contains ids id × (id.generation ≡ new))
taken_more ids n greatest new lt is taken = ⊎_elim
    (λ less. inr (get_or ids n no_id, Contains-get_or ids n no_id lt, omega (arith, less, is)))
    (λ more. ⊎_elim (λ none. inl (omega (arith, more, none, is))) (λ some. inr (some.0, some.1, omega (arith, more, some.2, is))) taken)
    (cases_lt greatest (get_or ids n no_id).generation)

pub loop-id-preserved : goal.loop-id-preserved
loop-id-preserved c =
    let ids = c.args.ids.now in
    let n = c.loop-id.id-index in
    let lt : n < length ids = omega (arith, c.loop-id-test.true) in
    let is : c.max-greatest.result ≡ max c.loop-id.greatest (get_or ids n no_id).generation = search rules in
    let range = c.requires n no_id lt in
    record {
      above = above_more ids n c.loop-id.greatest c.max-greatest.result lt is c.loop-id.invariant.above;
      taken = taken_more ids n c.loop-id.greatest c.max-greatest.result lt is c.loop-id.invariant.taken;
      bound = omega (arith, is, c.loop-id.invariant.bound, range.generation_last);
    }

pub returns-clause-above : goal.returns-clause-above
returns-clause-above c = λ id has. c.loop-id.invariant.above id (subst (λ (l : List FileId). Contains l id) (sym (take_all c.loop-id.id-index c.args.ids.now (omega (arith, c.loop-id-test.false)))) has)
