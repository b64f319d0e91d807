-- What one version more makes of the files.
use Rattle.std.proofs.Common.{◌≡◌, ◌≢◌, ◌⊎◌, inl, inr, ⊎_elim, Bool, true, false, cond, List, [], ◌∷◌, ◌++◌, Option, Some, find, refl, sym, ◌∙◌, ap}
use Rattle.std.proofs.lemmas.List.{reverse-append}
use Rattle.std.proofs.lemmas.Bool.{cases_Bool}
use Rattle.std.specs.Prelude.{option_and_then}
use Rattle.disk_model.specs.Image.{Place, same_place}
use Rattle.disk_model.proofs.Names.{same_when, same_to}
use Rattle.disk_memory.specs.declared.steps.Step.{Step}
use Rattle.disk_memory.specs.Versions.{version_place, version_bytes, newest, image_of}

through : (b : Bool) (v : Step) (o : Option Step) → option_and_then version_bytes (cond b (Some v) o) ≡ cond b (version_bytes v) (option_and_then version_bytes o)
through true v o = refl
through false v o = refl

pub pushed : (vs : List Step) (v : Step) (q : Place) → image_of (vs ++ v ∷ []) q ≡ cond (same_place (version_place v) q) (version_bytes v) (image_of vs q)
pushed vs v q =
    ap (λ (l : List Step). option_and_then version_bytes (find (λ u. same_place (version_place u) q) l)) (reverse-append vs (v ∷ []))
    ∙ through (same_place (version_place v) q) v (newest vs q)

module _ (vs ws : List Step) (v : Step) (p : Place) (one_more : ws ≡ vs ++ v ∷ []) (at : version_place v ≡ p) where
  at_once : (q : Place) → image_of ws q ≡ cond (same_place p q) (version_bytes v) (image_of vs q)
  at_once q = ap (λ (l : List Step). image_of l q) one_more ∙ pushed vs v q ∙ ap (λ (r : Place). cond (same_place r q) (version_bytes v) (image_of vs q)) at

  pub there : image_of ws p ≡ version_bytes v
  there = at_once p ∙ ap (λ (b : Bool). cond b (version_bytes v) (image_of vs p)) (same_to p)

  pub elsewhere : (q : Place) → ((q ≡ p) × (image_of ws q ≡ version_bytes v)) ⊎ (image_of ws q ≡ image_of vs q)
  elsewhere q = elim (cases_Bool (same_place p q)) [
    | inl hit ↦ inl (sym (same_when p q hit), at_once q ∙ ap (λ (b : Bool). cond b (version_bytes v) (image_of vs q)) hit)
    | inr miss ↦ inr (at_once q ∙ ap (λ (b : Bool). cond b (version_bytes v) (image_of vs q)) miss)
  ]

  pub others : (q : Place) → q ≢ p → image_of ws q ≡ image_of vs q
  others q ne = ⊎_elim (λ here. absurd (ne here.0)) (λ kept. kept) (elsewhere q)
