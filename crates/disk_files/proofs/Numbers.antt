-- Which texts are numbers of a file's name.
use Rattle.std.proofs.Common.{◌≡◌, ◌≢◌, ◌<◌, ◌≤◌, ◌^◌, ℕ, zero, suc, List, [], ◌∷◌, length, get_or, slice_get, Option, Some, Result, Ok, Err, refl, sym, ap, subst, ◌∙◌, arith}
use Rattle.std.specs.Fmt.{decimal}
use Rattle.std.specs.Str.Parse.{AllDigits, digits_value, ParsesUnsigned}
use Rattle.std.specs.Option.{unwrap_or}
use Rattle.std.specs.Result.{OkIff, result_ok}
use Rattle.std.proofs.lemmas.Fmt.{decimal-digits_value, decimal_digit, first_decimal, digits_decimal, parse-decimal}
use Rattle.std.proofs.lemmas.Str.Parse.{IsNumeralModel, numerals_by_value, tells_digits, parse_plain, not_in_digits}
use Rattle.disk_files.specs.Names.{IsNumber}

own : IsNumeralModel (AllDigits 10) (digits_value 10)
own = numerals_by_value _ tells_digits

-- a number has no other byte than its digits
pub digits_only : (n byte : ℕ) → n < 2 ^ 64 → byte < 48 → (i : ℕ) → i < length (decimal n) → get_or (decimal n) i 0 ≢ byte
digits_only n byte small below = not_in_digits own (decimal n) byte (digits_decimal own n small) (λ within. absurd (omega (arith, within.0, below)))

small_number : (n : ℕ) (text : List ℕ) → IsNumber n text → n < 2 ^ 64
small_number n text is = omega (arith, is.last)

-- it begins with '1' to '9'
pub first_of_number : (n : ℕ) (text : List ℕ) → IsNumber n text → 48 < get_or text 0 0
first_of_number n text is =
    subst (λ (t : List ℕ). 48 < get_or t 0 0) (sym is.written) (first_decimal n (omega (arith, is.first)) (small_number n text is))

-- and is read as what it is
pub parsed : {E : Type 0} (n : ℕ) (text : List ℕ) (r : Result ℕ E) → ParsesUnsigned 64 10 text r → IsNumber n text → r ≡ Ok n
parsed n text r parses is = parse-decimal 64 n text r (small_number n text is) (small_number n text is) is.written parses

not_zero : (n : ℕ) (text : List ℕ) → text ≡ decimal n → 48 < get_or text 0 0 → 1 ≤ n
not_zero zero text written high =
    let first : get_or text 0 0 ≡ 48 = ap (λ (t : List ℕ). get_or t 0 0) (written ∙ decimal_digit 0 (omega arith)) in
    absurd (omega (arith, first, high))
not_zero (suc n) text written high = omega arith

-- what begins with '1' to '9' and is read as a number is that number
pub number_read : {E : Type 0} (n : ℕ) (text : List ℕ) (r : Result ℕ E) → ParsesUnsigned 64 10 text r → r ≡ Ok n → 48 < get_or text 0 0 → n ≤ 281474976710655 → IsNumber n text
number_read {E} n text r parses ok high low =
    let plain = parse_plain own 64 text r parses (λ plus. absurd (omega (arith, plus, high))) in
    let at : OkIff {E = E} (Ok n) (AllDigits 10 text × (0 < length text) × (digits_value 10 text < 2 ^ 64)) (digits_value 10 text) =
    subst (λ (s : Result ℕ E). OkIff s (AllDigits 10 text × (0 < length text) × (digits_value 10 text < 2 ^ 64)) (digits_value 10 text)) ok plain
    in
    let back = decimal-digits_value own text at.0.0 at.0.1 (λ zero_first. absurd (omega (arith, zero_first, high))) at.0.2 in
    let written : text ≡ decimal n = sym back ∙ ap decimal (sym at.1) in
    record { first = not_zero n text written high; last = low; written = written }

-- the first byte, as the code reads it
pub first_byte : (text : List ℕ) → unwrap_or (slice_get text 0) 0 ≡ get_or text 0 0
first_byte [] = refl
first_byte (byte ∷ text) = refl

pub was_ok : {E : Type 0} (n : ℕ) (r : Result ℕ E) → result_ok r ≡ Some n → r ≡ Ok n
was_ok n (Ok m) is = ap Ok (ap (λ (o : Option ℕ). unwrap_or o 0) is)
was_ok n (Err e) is = absurd (cc is)
