-- A disk that settles each call at once. Its past is its versions.
use Rattle.std.specs.Prelude.{◌≡◌, ◌≤◌, ℕ, List, length, take, Option, Some, None, refl}
use Rattle.std.proofs.Common.{sym, ◌∙◌, ap, inl, inr, arith}
use Rattle.std.proofs.lemmas.List.{take_all}
use Rattle.disk_model.specs.Image.{Place}
use Rattle.disk_model.specs.View.{View, MayHold, IsSound}
use Rattle.disk_memory.specs.declared.steps.Step.{Step}
use Rattle.disk_memory.specs.Versions.{image_of}

abbrev pub sure_view : List Step → View
sure_view vs = record {
  reading = image_of vs;
  bytes_left = λ p c. image_of vs p ≡ Some c;
  else_left = λ p o. (o ≡ None) × (image_of vs p ≡ None);
  moment = length vs;
  left_since = λ t c. (k : ℕ) × (t ≤ k) × (k ≤ length vs) × ((p : Place) → c p ≡ image_of (take k vs) p);
}

pub held : (vs : List Step) (p : Place) (o : Option (List ℕ)) → image_of vs p ≡ o → MayHold (sure_view vs) p o
held vs p None is = (refl, is)
held vs p (Some c) is = inl is

pub is_held : (vs : List Step) (p : Place) (o : Option (List ℕ)) → MayHold (sure_view vs) p o → o ≡ image_of vs p
is_held vs p None h = sym h.1
is_held vs p (Some c) (inl h) = sym h
is_held vs p (Some c) (inr h) = cc

pub sure_sound : (vs : List Step) → IsSound (sure_view vs)
sure_sound vs = record {
  listed = λ p bytes is. is;
  absent = λ p is. (refl, is);
  unlisted = λ p none c some. cc;
  counts_now = λ t c le may. (length vs, le, omega arith, λ p. is_held vs p (c p) (may p) ∙ ap (λ (l : List Step). image_of l p) (sym (take_all (length vs) vs (omega arith))));
  only_now = λ c left p. held vs p (c p) (ap (λ (l : List Step). image_of l p) (sym (take_all left.0 vs left.1)) ∙ sym (left.3 p));
}
