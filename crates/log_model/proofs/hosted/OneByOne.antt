-- Sessions that are changed one by one. For `changes_compose`.
use Rattle.std.proofs.Common.{◌≡◌, ℕ, true, false, cond, ◌==◌, List, [], ◌∷◌, refl, ap, ◌∙◌}
use Rattle.log_model.specs.plain.Plain.{Session}
use Rattle.log_model.specs.plain.Step.{changed}

pub changes_compose : (id : ℕ) (f g : Session → Session) (ss : List Session) → ((x : Session) → (f x).id ≡ x.id) → changed id g (changed id f ss) ≡ changed id (λ x. g (f x)) ss
changes_compose id f g [] same = refl
changes_compose id f g (x ∷ ss) same =
    (λ j. one j ∷ changes_compose id f g ss same j)
  where
    one : cond ((cond (x.id == id) (f x) x).id == id) (g (cond (x.id == id) (f x) x)) (cond (x.id == id) (f x) x) ≡ cond (x.id == id) (g (f x)) x
    one = elim (x.id == id) as (λ b. (x.id == id) ≡ b → cond ((cond b (f x) x).id == id) (g (cond b (f x) x)) (cond b (f x) x) ≡ cond b (g (f x)) x) [
      | true ↦ λ t. ap (λ n. cond (n == id) (g (f x)) (f x)) (same x) ∙ ap (λ b. cond b (g (f x)) (f x)) t
      | false ↦ λ t. ap (λ b. cond b (g x) x) t
    ] refl
