-- What stood before more was written still stands.
use Rattle.std.proofs.Common.{◌≡◌, ℕ, List, [], ◌∷◌, ◌++◌, length, take, refl}
use Rattle.entry_codec.specs.Answered.{IsFront}

-- what a front begins with, the whole begins with
shorter : (old more new : List ℕ) → take (length (old ++ more)) new ≡ old ++ more → take (length old) new ≡ old
shorter [] more new e = refl
shorter (x ∷ old) more [] e = absurd (cc)
shorter (x ∷ old) more (y ∷ new) e =
    let head : y ≡ x = cc in
    let tail : take (length (old ++ more)) new ≡ old ++ more = cc in
    rw (head, shorter old more new tail) refl

pub front_of : (old more mid new : List ℕ) → mid ≡ old ++ more → IsFront mid new → IsFront old new
front_of old more mid new is front = shorter old more new (rw is at front)
