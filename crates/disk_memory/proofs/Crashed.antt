-- The steps of a disk after a crash.
use Rattle.std.proofs.Common.{◌≡◌, ◌≢◌, ◌⊎◌, inl, inr, Bool, false, cond, List, [], ◌∷◌, ◌++◌, reverse, Some, None, find, refl, sym, ◌∙◌, ap, subst}
use Rattle.std.proofs.lemmas.List.{reverse-append}
use Rattle.std.proofs.lemmas.Bool.{cases_Bool, both_ways}
use Rattle.std.specs.Prelude.{option_and_then}
use Rattle.disk_model.specs.Image.{Place, Image, same_place}
use Rattle.disk_model.proofs.Names.{same_when, same_to}
use Rattle.disk_memory.specs.declared.steps.Kind.TheVariants.{Settled}
use Rattle.disk_memory.specs.declared.steps.Step.{Step}
use Rattle.disk_memory.specs.Versions.{version_place, version_bytes, newest, image_of}
use Rattle.disk_memory.specs.History.{history, from_newest}
use Rattle.disk_model.specs.View.{EachSettled}
use Rattle.disk_memory.specs.Torn.{sound}
use Rattle.disk_memory.proofs.Pushed.{there, others}
use Rattle.disk_memory.proofs.Torn.{one_newer, settled_more}

-- of the places of these steps, each has a step of its own, after which it reads so
abbrev pub Left : List Step → Image → List Step → Type 0
Left steps image after = (q : Place) → ((newest after q ≡ None) × (newest steps q ≡ None)) ⊎ (image_of after q ≡ image q)

newest_pushed : (vs ws : List Step) (v : Step) (q : Place) → ws ≡ vs ++ v ∷ [] → newest ws q ≡ cond (same_place (version_place v) q) (Some v) (newest vs q)
newest_pushed vs ws v q is = ap (λ (l : List Step). find (λ u. same_place (version_place u) q) (reverse l)) is ∙ ap (find (λ u. same_place (version_place u) q)) (reverse-append vs (v ∷ []))

missed : (vs ws : List Step) (v : Step) (q : Place) → ws ≡ vs ++ v ∷ [] → same_place (version_place v) q ≡ false → newest vs q ≡ None → newest ws q ≡ None
missed vs ws v q is miss none = newest_pushed vs ws v q is ∙ ap (λ (b : Bool). cond b (Some v) (newest vs q)) miss ∙ none

pub settled_push : (after longer : List Step) (w : Step) → longer ≡ after ++ w ∷ [] → w.kind ≡ Settled → EachSettled (history after) → EachSettled (history longer)
settled_push after longer w push kind settled =
    subst (λ (l : List Step). EachSettled (from_newest l)) (sym (one_newer after longer w push)) (settled_more (history after) w (version_place w) refl (sound after) kind settled)

module _ (steps more : List Step) (image : Image) (after : List Step) (s : Step) (one_more : more ≡ steps ++ s ∷ []) (so_far : Left steps image after) where
  -- the place of s has its step already
  pub left_passed : newest after (version_place s) ≢ None → Left more image after
  left_passed has q = elim (so_far q) [
    | inl none ↦ elim (cases_Bool (same_place (version_place s) q)) [
      | inl hit ↦ absurd (has (ap (newest after) (same_when (version_place s) q hit) ∙ none.0))
      | inr miss ↦ inl (none.0, missed steps more s q one_more miss none.1)
    ]
    | inr is ↦ inr is
  ]

  -- and now it has
  pub left_pushed : (longer : List Step) (w : Step) → longer ≡ after ++ w ∷ [] → version_place w ≡ version_place s → version_bytes w ≡ image (version_place s) → Left more image longer
  left_pushed longer w push at reads q = elim (cases_Bool (same_place (version_place s) q)) [
    | inl hit ↦
        let is = same_when (version_place s) q hit in
        inr (ap (image_of longer) (sym is) ∙ there after longer w (version_place s) push at ∙ reads ∙ ap image is)
    | inr miss ↦
        let ne : q ≢ version_place s = λ is. both_ways (same_place (version_place s) q) miss (ap (same_place (version_place s)) is ∙ same_to (version_place s)) in
        let miss' : same_place (version_place w) q ≡ false = ap (λ (r : Place). same_place r q) at ∙ miss in
        elim (so_far q) [
          | inl none ↦ inl (missed after longer w q push miss' none.0, missed steps more s q one_more miss none.1)
          | inr is ↦ inr (others after longer w (version_place s) push at q ne ∙ is)
        ]
  ]

pub left_all : (steps : List Step) (image : Image) (after : List Step) → Left steps image after → ((q : Place) → newest steps q ≡ None → image q ≡ None) → (q : Place) → image_of after q ≡ image q
left_all steps image after left absent q = elim (left q) [
  | inl none ↦ ap (option_and_then version_bytes) none.0 ∙ sym (absent q none.1)
  | inr is ↦ is
]
