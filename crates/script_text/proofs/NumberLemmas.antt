-- Numbers have just one form.
use Rattle.std.proofs.Common.{◌≡◌, ℕ, ◌+◌, ◌-◌, ◌*◌, ◌/◌, ◌%◌, ◌<◌, ◌≤◌, ◌^◌, ◌==◌, nat_lt, nat_le, zero, suc, true, false, Bool, ◌&&◌, List, [], ◌∷◌, ◌++◌, length, get_or, Some, None, refl, ap, sym, ◌∙◌, cond, arith, rules, eqb-true, eq-eqb, ltb-true, leb-true, lt-ltb, le-leb, ne_eqb, lit<, subst}
use Rattle.std.specs.Prelude.{ℤ, pos, negsuc, option_and_then, FitsSigned}
use Rattle.std.specs.Int.{w64}
use Rattle.std.specs.Char.{is_ascii_digit}
use Rattle.std.specs.Str.{all_ascii_digits}
use Rattle.std.specs.Fmt.{decimal, signed_decimal}
use Rattle.std.proofs.lemmas.Fmt.{decimal_by_steps, decimal-digits_value, decimal_digit, first_decimal, decimal_nonempty}
use Rattle.std.proofs.lemmas.Str.Parse.{IsNumeralModel, numerals_by_fold}
use Rattle.std.proofs.lemmas.Option.{option_and_then_some, same_Some, cond_some}
use Rattle.std.proofs.lemmas.Bool.Decides.{nat_tests}
use Rattle.script_text.specs.Reading.{number_from, number, positive, negative, signed}

-- the number that these digits make behind those before
abbrev read_on : ℕ → List ℕ → ℕ
read_on n [] = n
read_on n (c ∷ cs) = read_on (10 * n + (c - 48)) cs

own : IsNumeralModel (λ ds. all_ascii_digits ds ≡ true) (read_on 0)
own = numerals_by_fold _ (search rules) read_on (search rules)

-- one digit more: where the test passes, the rest is read
append_step : (b : Bool) (x : ℕ) (ds : List ℕ) (k c : ℕ) → (number_from x ds ≡ Some k → number_from x (ds ++ c ∷ []) ≡ number_from k (c ∷ [])) → cond b (number_from x ds) None ≡ Some k → cond b (number_from x (ds ++ c ∷ [])) None ≡ number_from k (c ∷ [])
append_step true x ds k c more e = more e
append_step false x ds k c more e = absurd (cc)

number_from-append : (n : ℕ) (ds : List ℕ) (k c : ℕ) → number_from n ds ≡ Some k → number_from n (ds ++ c ∷ []) ≡ number_from k (c ∷ [])
number_from-append n [] k c e =
    let is : n ≡ k = same_Some n k e in
    ap (λ m. number_from m (c ∷ [])) is
number_from-append n (d ∷ ds) k c e = append_step (is_ascii_digit d && nat_lt (10 * n + (d - 48)) (2 ^ 64)) (10 * n + (d - 48)) ds k c (number_from-append (10 * n + (d - 48)) ds k c) e

-- one digit
number_from-digit : (m d n : ℕ) → d < 10 → n ≡ 10 * m + d → n < 2 ^ 64 → number_from m ((48 + d) ∷ []) ≡ Some n
number_from-digit m d n small is fits =
    let back : 48 + d - 48 ≡ d = omega arith in
    let digit : is_ascii_digit (48 + d) ≡ true = grind (arith, nat_tests) in
    let low : nat_lt (10 * m + d) (2 ^ 64) ≡ true = grind (arith, nat_tests) in
    rw (back, digit, low, is) refl

Again : ℕ → List ℕ → Type 0
Again n ds = n < 2 ^ 64 → number_from 0 ds ≡ Some n

again_one : (n : ℕ) → n < 10 → Again n ((48 + n) ∷ [])
unfolding Again
again_one n small fits = number_from-digit 0 n n small (omega arith) fits

again_more : (n : ℕ) (ds : List ℕ) → 10 ≤ n → Again (n / 10) ds → Again n (ds ++ ((48 + n % 10) ∷ []))
unfolding Again
again_more n ds le front fits =
    number_from-append 0 ds (n / 10) (48 + n % 10) (front (omega arith)) ∙ number_from-digit (n / 10) (n % 10) n (omega arith) (omega arith) fits

-- the digits of a number are read as that number
from_decimal : (n : ℕ) → n < 2 ^ 64 → number_from 0 (decimal n) ≡ Some n
unfolding Again
from_decimal n fits = decimal_by_steps Again again_one again_more n fits fits

-- without a leading zero, and not empty, digits are a number
number_is : (ds : List ℕ) → 0 < length ds → (get_or ds 0 0 ≡ 48 → length ds ≡ 1) → number ds ≡ number_from 0 ds
number_is [] some first = absurd (omega arith)
number_is (c ∷ []) some first = refl
number_is (c ∷ d ∷ ds) some first =
    let off : (c == 48) ≡ false = grind (arith, nat_tests, first) in
    rw off refl

first_zero : (n : ℕ) → n < 2 ^ 64 → get_or (decimal n) 0 0 ≡ 48 → length (decimal n) ≡ 1
first_zero zero fits is = ap length (decimal_digit 0 (lit< tt))
first_zero (suc n) fits is = absurd (omega (arith, first_decimal (suc n) (omega arith) fits))

pub number_again : (n : ℕ) → n < 2 ^ 64 → number (decimal n) ≡ Some n
number_again n fits = number_is (decimal n) (decimal_nonempty n fits) (first_zero n fits) ∙ from_decimal n fits

-- what is read from n on: digits, their number, within 64 bits
pub record Found (n : ℕ) (ds : List ℕ) (m : ℕ) : Type 0 where
  digits : all_ascii_digits ds ≡ true
  is : read_on n ds ≡ m
  fits : m < 2 ^ 64

found_step : (d l : Bool) (x : ℕ) (ds : List ℕ) (m : ℕ) → (l ≡ true → x < 2 ^ 64) → (x < 2 ^ 64 → number_from x ds ≡ Some m → Found x ds m) → cond (d && l) (number_from x ds) None ≡ Some m → (d ≡ true) × Found x ds m
found_step true true x ds m below more e = (refl, more (below refl) e)
found_step true false x ds m below more e = absurd (cc)
found_step false l x ds m below more e = absurd (cc)

found_from : (n : ℕ) (ds : List ℕ) (m : ℕ) → n < 2 ^ 64 → number_from n ds ≡ Some m → Found n ds m
found_from n [] m fits e =
    let is : n ≡ m = same_Some n m e in
    record { digits = refl; is = is; fits = omega arith }
found_from n (d ∷ ds) m fits e =
    let below : nat_lt (10 * n + (d - 48)) (2 ^ 64) ≡ true → 10 * n + (d - 48) < 2 ^ 64 = λ t. ltb-true _ _ t in
    let parts = found_step (is_ascii_digit d) (nat_lt (10 * n + (d - 48)) (2 ^ 64)) (10 * n + (d - 48)) ds m below (found_from (10 * n + (d - 48)) ds m) e in
    record { digits = rw parts.0 parts.1.digits; is = parts.1.is; fits = parts.1.fits }

found_number : (ds : List ℕ) (n : ℕ) → 0 < length ds → (get_or ds 0 0 ≡ 48 → length ds ≡ 1) → number_from 0 ds ≡ Some n → (n < 2 ^ 64) × (ds ≡ decimal n)
found_number ds n some first e =
    let found : Found 0 ds n = found_from 0 ds n (lit< tt) e in
    let v : read_on 0 ds ≡ n = found.is in
    let small : read_on 0 ds < 2 ^ 64 = omega (arith, found.fits) in
    (found.fits, sym (ap decimal (sym v) ∙ decimal-digits_value own ds found.digits some first small))

off_zero : (b : Bool) (c d : ℕ) (ds : List ℕ) (n : ℕ) → (c == 48) ≡ b → cond b None (number_from 0 (c ∷ d ∷ ds)) ≡ Some n → (n < 2 ^ 64) × ((c ∷ d ∷ ds) ≡ decimal n)
off_zero true c d ds n is e = absurd (cc)
off_zero false c d ds n is e = found_number (c ∷ d ∷ ds) n (omega arith) (λ zero. absurd (cc (eq-eqb c 48 zero))) e

pub number_found : (bytes : List ℕ) (n : ℕ) → number bytes ≡ Some n → (n < 2 ^ 64) × (bytes ≡ decimal n)
number_found [] n e = absurd (cc)
number_found (c ∷ []) n e = found_number (c ∷ []) n (omega arith) (λ _. refl) e
number_found (c ∷ d ∷ ds) n e = off_zero (c == 48) c d ds n refl e

-- Signed numbers have one form too.
first_digit : (n : ℕ) → n < 2 ^ 64 → get_or (decimal n) 0 0 ≡ 45 → ⊥
first_digit zero fits is = omega (arith, ap (λ (ds : List ℕ). get_or ds 0 0) (decimal_digit 0 (lit< tt)))
first_digit (suc n) fits is = omega (arith, first_decimal (suc n) (omega arith) fits)

signed_plain : (ds : List ℕ) → 0 < length ds → (get_or ds 0 0 ≡ 45 → ⊥) → signed ds ≡ option_and_then positive (number ds)
signed_plain [] some first = absurd (omega arith)
signed_plain (c ∷ ds) some first =
    let off : (c == 45) ≡ false = ne_eqb c 45 first in
    rw off refl

positive_is : (n : ℕ) → n < 2 ^ 63 → positive n ≡ Some (pos n)
positive_is n fits = rw (lt-ltb n (2 ^ 63) fits) refl

negative_is : (n : ℕ) → n < 2 ^ 63 → negative (suc n) ≡ Some (negsuc n)
negative_is n fits =
    let above : nat_lt 0 (suc n) ≡ true = lt-ltb 0 (suc n) (omega arith) in
    let below : nat_le (suc n) (2 ^ 63) ≡ true = le-leb (suc n) (2 ^ 63) (omega arith) in
    let back : suc n - 1 ≡ n = omega arith in
    rw (above, below, back) refl

pub signed_again : (z : ℤ) → FitsSigned w64 z → signed (signed_decimal z) ≡ Some z
signed_again (pos n) fits =
    let small : n < 2 ^ 63 = omega (arith, fits) in
    let wide : n < 2 ^ 64 = omega arith in
    signed_plain (decimal n) (decimal_nonempty n wide) (first_digit n wide) ∙ rw (number_again n wide) (positive_is n small)
signed_again (negsuc n) fits =
    let small : n < 2 ^ 63 = omega (arith, fits) in
    rw (number_again (suc n) (omega arith)) (negative_is n small)

both_true : (a b : Bool) → (a && b) ≡ true → b ≡ true
both_true true b e = e
both_true false b e = absurd (cc)

positive_found : (bytes : List ℕ) (n : ℕ) (z : ℤ) → bytes ≡ decimal n → positive n ≡ Some z → FitsSigned w64 z × (bytes ≡ signed_decimal z)
positive_found bytes n z is e =
    let parts = cond_some (nat_lt n (2 ^ 63)) (pos n) z e in
    let small : n < 2 ^ 63 = ltb-true n (2 ^ 63) parts.0 in
    subst (λ (z : ℤ). FitsSigned w64 z × (bytes ≡ signed_decimal z)) parts.1 (omega (arith, small), is)

negative_found : (bytes : List ℕ) (n : ℕ) (z : ℤ) → bytes ≡ decimal n → negative n ≡ Some z → FitsSigned w64 z × ((45 ∷ bytes) ≡ signed_decimal z)
negative_found bytes zero z is e = absurd (cc)
negative_found bytes (suc n) z is e =
    let parts = cond_some (nat_lt 0 (suc n) && nat_le (suc n) (2 ^ 63)) (negsuc (suc n - 1)) z e in
    let back : suc n - 1 ≡ n = omega arith in
    let low : nat_le (suc n) (2 ^ 63) ≡ true = both_true (nat_lt 0 (suc n)) (nat_le (suc n) (2 ^ 63)) parts.0 in
    let small : n < 2 ^ 63 = omega (arith, leb-true (suc n) (2 ^ 63) low) in
    subst (λ (z : ℤ). FitsSigned w64 z × ((45 ∷ bytes) ≡ signed_decimal z)) (sym (ap (λ (k : ℕ). negsuc k) back) ∙ parts.1) (omega (arith, small), ap (λ (ds : List ℕ). 45 ∷ ds) is)

sign_found : (b : Bool) (c : ℕ) (bytes : List ℕ) (z : ℤ) → (c == 45) ≡ b → cond b (option_and_then negative (number bytes)) (option_and_then positive (number (c ∷ bytes))) ≡ Some z → FitsSigned w64 z × ((c ∷ bytes) ≡ signed_decimal z)
sign_found true c bytes z is e =
    let minus : c ≡ 45 = eqb-true c 45 is in
    let found : FitsSigned w64 z × ((45 ∷ bytes) ≡ signed_decimal z) = option_and_then_some negative (number bytes) z e (λ (n : ℕ) (read : number bytes ≡ Some n) (sign : negative n ≡ Some z). negative_found bytes n z (number_found bytes n read).1 sign) in
    (found.0, ap (λ (c : ℕ). c ∷ bytes) minus ∙ found.1)
sign_found false c bytes z is e =
    option_and_then_some positive (number (c ∷ bytes)) z e (λ (n : ℕ) (read : number (c ∷ bytes) ≡ Some n) (sign : positive n ≡ Some z). positive_found (c ∷ bytes) n z (number_found (c ∷ bytes) n read).1 sign)

pub signed_found : (bytes : List ℕ) (z : ℤ) → signed bytes ≡ Some z → FitsSigned w64 z × (bytes ≡ signed_decimal z)
signed_found [] z e = absurd (cc)
signed_found (c ∷ bytes) z e = sign_found (c == 45) c bytes z refl e
