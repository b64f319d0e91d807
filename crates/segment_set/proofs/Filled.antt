-- The last of a list whose range isn't empty.
use Rattle.std.proofs.Common.{◌≡◌, ◌⊎◌, inl, inr, ⊎_elim, ◌<◌, List, [], ◌∷◌, ◌++◌, sym, ap, subst, ◌∙◌, arith, Contains, append_assoc}
use Rattle.std.proofs.lemmas.List.Elements.{Contains-append_right}
use Rattle.segment_files.specs.Parse.{Part}
use Rattle.segment_files.specs.Folder.{AreEnded, HasLast, IsLastFilled}
use Rattle.segment_set.specs.ChoiceLaws.{Replaces}
use Rattle.segment_set.proofs.Images.{here}

-- Two elements of a list: the first stands behind the second, or at the same place, or before it.
pub split_cases : {X : Type 0} (a b : List X) (x y : X) (c d : List X) → a ++ x ∷ c ≡ b ++ y ∷ d
    → ((mid : List X) × (d ≡ mid ++ x ∷ c)) ⊎ (((x ≡ y) × (c ≡ d)) ⊎ ((mid : List X) × (c ≡ mid ++ y ∷ d)))
split_cases [] [] x y c d is = inr (inl (cc, cc))
split_cases [] (z ∷ b) x y c d is = let tails : c ≡ b ++ y ∷ d = cc in inr (inr (b, tails))
split_cases (z ∷ a) [] x y c d is = let tails : a ++ x ∷ c ≡ d = cc in inl (a, sym tails)
split_cases (z ∷ a) (w ∷ b) x y c d is = let tails : a ++ x ∷ c ≡ b ++ y ∷ d = cc in split_cases a b x y c d tails

pub within : {X : Type 0} (whole mid : List X) (x : X) (c : List X) → whole ≡ mid ++ x ∷ c → Contains whole x
within whole mid x c is = subst (λ (l : List _). Contains l x) (sym is) (Contains-append_right mid (x ∷ c) x (here x c))

-- there is one
pub one_filled : (parts : List Part) (p q : Part) → IsLastFilled parts p → IsLastFilled parts q → p ≡ q
one_filled parts p q a b = ⊎_elim
    (λ behind. absurd (omega (arith, a.filled, b.empty p (within b.back behind.0 p a.back behind.1))))
    (λ rest. ⊎_elim
    (λ same. same.0)
    (λ before. absurd (omega (arith, b.filled, a.empty q (within a.back before.0 q b.back before.1))))
    rest)
    (split_cases a.front b.front p q a.back b.back (sym a.are ∙ b.are))

-- with one part in place of a run of the same range
pub ended_replaced : (new : Part) (front run back : List Part) → Replaces new run → (((q : Part) → Contains back q → q.last < q.id.base) → HasLast new) → AreEnded (front ++ run ++ back) → AreEnded (front ++ new ∷ back)
ended_replaced new front run back replaces has_last ended p f = ⊎_elim
    (λ behind. ended p (record {
      front = front ++ run ++ behind.0;
      back = f.back;
      are = ap (λ (l : List Part). front ++ run ++ l) behind.1 ∙ sym (append_assoc (front ++ run) behind.0 (p ∷ f.back));
      filled = f.filled;
      empty = f.empty;
    }))
    (λ rest. ⊎_elim
    (λ same. subst HasLast (sym same.0) (has_last (λ q has. f.empty q (subst (λ (l : List Part). Contains l q) (sym same.1) has))))
    (λ before. absurd (omega (arith, replaces.nonempty, f.empty new (within f.back before.0 new back before.1))))
    rest)
    (split_cases f.front front p new f.back back (sym f.are))
