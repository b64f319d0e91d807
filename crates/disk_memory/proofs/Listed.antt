-- The files of a name, version by version.
use Rattle.std.proofs.Common.{◌≡◌, ◌≢◌, ◌⊎◌, inl, inr, ⊎_elim, ◌↔◌, ℕ, ◌<◌, Bool, true, cond, not, nat_eq, List, [], ◌∷◌, ◌++◌, Some, None, Contains, filter, refl, sym, ◌∙◌, ap, subst, arith}
use Rattle.std.proofs.lemmas.Bool.{cases_Bool, and_parts, and_from, eqb-true, eq-eqb, not-true, both_ways}
use Rattle.std.proofs.lemmas.List.Elements.{Contains-append_left, Contains-append_right, Contains-append_cases, Contains-push_cases}
use Rattle.disk_model.specs.declared.file_id.FileId.{FileId}
use Rattle.disk_model.specs.Image.{Place, place}
use Rattle.disk_memory.specs.declared.steps.Step.{Step}
use Rattle.disk_memory.specs.Versions.{same_id, version_place, version_bytes, image_of}
use Rattle.disk_memory.proofs.Pushed.{there, others}

nothing : {X : Type 0} (x : X) → Contains [] x → ⊥
nothing x h = let lt : h.0 < 0 = h.1 in omega arith

pub kept : {X : Type 0} (test : X → Bool) (xs : List X) (x : X) → Contains xs x → test x ≡ true → Contains (filter test xs) x
kept test [] x has pass = has
kept test (y ∷ ys) x has pass =
    elim (cases_Bool (test y)) [
      | inl hit ↦ subst (λ (l : List _). Contains l x) (sym (ap (λ (b : Bool). cond b (y ∷ filter test ys) (filter test ys)) hit))
          (⊎_elim (λ one. Contains-append_left (y ∷ []) (filter test ys) x one) (λ more. Contains-append_right (y ∷ []) (filter test ys) x (kept test ys x more pass)) (Contains-append_cases (y ∷ []) ys x has))
      | inr miss ↦ subst (λ (l : List _). Contains l x) (sym (ap (λ (b : Bool). cond b (y ∷ filter test ys) (filter test ys)) miss))
          (⊎_elim (λ one. ⊎_elim (λ none. absurd (nothing x none)) (λ is. absurd (both_ways (test y) miss (ap test is ∙ pass))) (Contains-push_cases [] y x one)) (λ more. kept test ys x more pass) (Contains-append_cases (y ∷ []) ys x has))
    ]

pub had : {X : Type 0} (test : X → Bool) (xs : List X) (x : X) → Contains (filter test xs) x → Contains xs x × (test x ≡ true)
had test [] x has = absurd (nothing x has)
had test (y ∷ ys) x has =
    elim (cases_Bool (test y)) [
      | inl hit ↦
          let has' = subst (λ (l : List _). Contains l x) (ap (λ (b : Bool). cond b (y ∷ filter test ys) (filter test ys)) hit) has in
          ⊎_elim
          (λ one. (Contains-append_left (y ∷ []) ys x one, ⊎_elim (λ none. absurd (nothing x none)) (λ is. ap test (sym is) ∙ hit) (Contains-push_cases [] y x one)))
          (λ more. let rest = had test ys x more in (Contains-append_right (y ∷ []) ys x rest.0, rest.1))
          (Contains-append_cases (y ∷ []) (filter test ys) x has')
      | inr miss ↦
          let has' = subst (λ (l : List _). Contains l x) (ap (λ (b : Bool). cond b (y ∷ filter test ys) (filter test ys)) miss) has in
          let rest = had test ys x has' in (Contains-append_right (y ∷ []) ys x rest.0, rest.1)
    ]

pub same_ids : (a b : FileId) → same_id a b ≡ true → a ≡ b
same_ids a b hit =
    let parts = and_parts (nat_eq a.base b.base) _ hit in
    let base = eqb-true a.base b.base parts.0 in
    let generation = eqb-true a.generation b.generation parts.1 in
    λ i. record { base = base i; generation = generation i }

same_to : (a : FileId) → same_id a a ≡ true
same_to a = and_from _ _ (eq-eqb a.base a.base refl) (eq-eqb a.generation a.generation refl)

-- these are the files of the name after these versions
abbrev pub AreIds : List Step → List ℕ → List FileId → Type 0
AreIds vs name ids = (id : FileId) → Contains ids id ↔ ((bytes : List ℕ) × (image_of vs (place name id) ≡ Some bytes))

abbrev pub without : FileId → List FileId → List FileId
without id ids = filter (λ one. not (same_id one id)) ids

pub none_yet : (name : List ℕ) → AreIds [] name []
none_yet name id = (λ has. absurd (nothing id has), λ some. absurd (cc (some.1)))

module _ (vs ws : List Step) (v : Step) (name : List ℕ) (ids : List FileId) (one_more : ws ≡ vs ++ v ∷ []) (are : AreIds vs name ids) where
  same_elsewhere : (id : FileId) → place name id ≢ version_place v → image_of ws (place name id) ≡ image_of vs (place name id)
  same_elsewhere id ne = others vs ws v (version_place v) one_more refl (place name id) ne

  pub other_name : v.name ≢ name → AreIds ws name ids
  other_name ne id =
      let e = same_elsewhere id (λ is. ne (sym (ap (λ (p : Place). p.name) is))) in
      (λ has. let was = (are id).0 has in (was.0, e ∙ was.1), λ some. (are id).1 (some.0, sym e ∙ some.1))

  module _ (is : v.name ≡ name) where
    here : version_place v ≡ place name v.id
    here = ap (λ (n : List ℕ). place n v.id) is

    other_id : (id : FileId) → not (same_id id v.id) ≡ true → place name id ≢ version_place v
    other_id id miss e =
        let p : place name id ≡ place name v.id = e ∙ here in
        let same : id ≡ v.id = λ i. record { base = (p i).base; generation = (p i).generation } in
        both_ways (same_id id v.id) (not-true _ miss) (ap (λ (a : FileId). same_id a v.id) same ∙ same_to v.id)

    at_id : (id : FileId) → same_id id v.id ≡ true → image_of ws (place name id) ≡ version_bytes v
    at_id id hit = ap (λ (a : FileId). image_of ws (place name a)) (same_ids id v.id hit) ∙ there vs ws v (place name v.id) one_more here

    pub removed : version_bytes v ≡ None → AreIds ws name (without v.id ids)
    removed none id = elim (cases_Bool (same_id id v.id)) [
      | inl hit ↦ (
        λ has. absurd (both_ways (same_id id v.id) (not-true _ (had _ ids id has).1) hit),
        λ some. absurd (cc (some.1, at_id id hit, none)),
      )
      | inr miss ↦
          let pass : not (same_id id v.id) ≡ true = ap not miss in
          let e = same_elsewhere id (other_id id pass) in (
            λ has. let was = (are id).0 (had _ ids id has).0 in (was.0, e ∙ was.1),
            λ some. kept _ ids id ((are id).1 (some.0, sym e ∙ some.1)) pass,
          )
    ]

    pub stored : (more : List FileId) → ((one : FileId) → Contains more one ↔ (Contains ids one ⊎ (one ≡ v.id))) → (b : List ℕ) → version_bytes v ≡ Some b → AreIds ws name more
    stored more has b now id = elim (cases_Bool (same_id id v.id)) [
      | inl hit ↦ (λ in_more. (b, at_id id hit ∙ now), λ some. (has id).1 (inr (same_ids id v.id hit)))
      | inr miss ↦
          let pass : not (same_id id v.id) ≡ true = ap not miss in
          let e = same_elsewhere id (other_id id pass) in (
            λ in_more. ⊎_elim
                (λ old. let was = (are id).0 old in (was.0, e ∙ was.1))
                (λ new. absurd (both_ways (same_id id v.id) miss (ap (λ (a : FileId). same_id a v.id) new ∙ same_to v.id)))
                ((has id).0 in_more),
            λ some. (has id).1 (inl ((are id).1 (some.0, sym e ∙ some.1))),
          )
    ]
