-- What is found in a table, and behind a chain of readers.
use Rattle.std.proofs.Common.{◌≡◌, ℕ, true, false, Bool, List, [], ◌∷◌, Option, Some, None, cond, refl, sym, subst}
use Rattle.std.specs.Prelude.{option_and_then}
use Rattle.std.specs.Option.{option_map}
use Rattle.std.specs.List.{AllByRecursion}
use Rattle.std.specs.Str.{bytes_eq}
use Rattle.std.proofs.lemmas.Option.{same_Some}
use Rattle.std.proofs.lemmas.Slice.Eq.{bytes_eq-Decides}
use Rattle.script_text.specs.Tables.{lookup}

lookup_step : {A : Type 0} (P : List ℕ → A → Type 0) (b : Bool) (entry : List ℕ × A) (table : List (List ℕ × A)) (word : List ℕ) (found : A) → bytes_eq word entry.0 ≡ b → P entry.0 entry.1 → (lookup table word ≡ Some found → P word found) → cond b (Some entry.1) (lookup table word) ≡ Some found → P word found
lookup_step P true entry table word found is here rest e =
    let same : word ≡ entry.0 = (bytes_eq-Decides word entry.0).0 is in
    let it : entry.1 ≡ found = same_Some entry.1 found e in
    subst (λ word. P word found) (sym same) (subst (λ found. P entry.0 found) it here)
lookup_step P false entry table word found is here rest e = rest e

-- what holds of each entry holds of what is found
pub lookup_found : {A : Type 0} (P : List ℕ → A → Type 0) (table : List (List ℕ × A)) → AllByRecursion (λ entry. P entry.0 entry.1) table → (word : List ℕ) (found : A) → lookup table word ≡ Some found → P word found
lookup_found P [] all word found e = absurd (cc)
lookup_found P (entry ∷ table) all word found e = lookup_step P (bytes_eq word entry.0) entry table word found refl all.0 (lookup_found P table all.1 word found) e

pub mapped_some : {A B : Type 0} (f : A → B) (o : Option A) (y : B) → option_map f o ≡ Some y → (x : A) × (o ≡ Some x) × (f x ≡ y)
mapped_some f (Some x) y e = (x, refl, same_Some (f x) y e)
mapped_some f None y e = absurd (cc)

pub chained_some : {A B : Type 0} (f : A → Option B) (o : Option A) (y : B) → option_and_then f o ≡ Some y → (x : A) × (o ≡ Some x) × (f x ≡ Some y)
chained_some f (Some x) y e = (x, refl, e)
chained_some f None y e = absurd (cc)
