-- What is written for a part is plain, and is read as that part.
use Rattle.std.proofs.Common.{◌≡◌, ℕ, ◌+◌, ◌/◌, ◌%◌, ◌<◌, ◌≤◌, ◌^◌, suc, true, false, Bool, ◌&&◌, nat_le, List, [], ◌∷◌, ◌++◌, length, map, Some, refl, arith, le-leb, leb-true, subst}
use Rattle.std.specs.Prelude.{ℤ, pos, negsuc, FitsSigned}
use Rattle.std.specs.Int.{w64}
use Rattle.std.specs.List.{list_all, AllByRecursion}
use Rattle.std.specs.Fmt.{decimal, signed_decimal}
use Rattle.std.proofs.lemmas.Fmt.{decimal_by_steps}
use Rattle.std.proofs.lemmas.List.Folds.{list_all-append}
use Rattle.std.proofs.lemmas.Bool.Decides.{nat_tests}
use Rattle.std.proofs.lemmas.Option.{cond_some}
use Rattle.host_types.specs.Text.{IsText, is_visible}
use Rattle.host_types.specs.declared.entry.Kind.{Kind}
use Rattle.host_types.specs.declared.entry.Kind.TheVariants.{Value, Counter, Map, Multimap, Set, Queue, Lock, Group, Topic}
use Rattle.script_text.specs.Kinds.{kind_word, kind_named}
use Rattle.script_text.specs.Parts.{Part, Fixed, Key, Word, Number, Signed, OfKind, part_text, Fits, AllFit}
use Rattle.script_text.specs.Reading.{is_text, text_within}
use Rattle.script_text.proofs.SplitLemmas.{IsPlain}

Plain : ℕ → List ℕ → Type 0
Plain n digits = IsPlain digits

plain_one : (n : ℕ) → n < 10 → Plain n ((48 + n) ∷ [])
unfolding Plain
plain_one n small =
    let seen : is_visible (48 + n) ≡ true = grind (arith, nat_tests) in
    rw seen refl

plain_more : (n : ℕ) (digits : List ℕ) → 10 ≤ n → Plain (n / 10) digits → Plain n (digits ++ ((48 + n % 10) ∷ []))
unfolding Plain
plain_more n digits le front =
    let last : list_all is_visible ((48 + n % 10) ∷ []) ≡ true = plain_one (n % 10) (omega arith) in
    rw (list_all-append is_visible digits ((48 + n % 10) ∷ []), front) last

plain_decimal : (n : ℕ) → n < 2 ^ 64 → IsPlain (decimal n)
unfolding Plain
plain_decimal n fits = decimal_by_steps Plain plain_one plain_more n fits

plain_signed : (z : ℤ) → FitsSigned w64 z → IsPlain (signed_decimal z)
plain_signed (pos n) fits = plain_decimal n (omega (arith, fits))
plain_signed (negsuc n) fits = plain_decimal (suc n) (omega (arith, fits))

plain_kind : (kind : Kind) → IsPlain (kind_word kind)
plain_kind Value = refl
plain_kind Counter = refl
plain_kind Map = refl
plain_kind Multimap = refl
plain_kind Set = refl
plain_kind Queue = refl
plain_kind Lock = refl
plain_kind Group = refl
plain_kind Topic = refl

plain_part : (part : Part) → Fits part → IsPlain (part_text part)
plain_part (Fixed word) fits = fits
plain_part (Key key) fits = fits.2
plain_part (Word word) fits = fits.2
plain_part (Number n) fits = plain_decimal n fits
plain_part (Signed z) fits = plain_signed z fits
plain_part (OfKind kind) fits = plain_kind kind

pub plain_parts : (parts : List Part) → AllFit parts → AllByRecursion IsPlain (map part_text parts)
plain_parts [] fit = tt
plain_parts (part ∷ parts) fit = (plain_part part fit.0, plain_parts parts fit.1)

-- keys and words
pub text_again : (limit : ℕ) (bytes : List ℕ) → IsText limit bytes → text_within limit bytes ≡ Some bytes
text_again limit bytes is =
    let some : nat_le 1 (length bytes) ≡ true = le-leb 1 (length bytes) is.0 in
    let few : nat_le (length bytes) limit ≡ true = le-leb (length bytes) limit is.1 in
    let seen : list_all is_visible bytes ≡ true = is.2 in
    rw (some, few, seen) refl

three : (a b c : Bool) → (a && (b && c)) ≡ true → (a ≡ true) × (b ≡ true) × (c ≡ true)
three true true c e = (refl, refl, e)
three true false c e = absurd (cc)
three false b c e = absurd (cc)

pub text_found : (limit : ℕ) (bytes text : List ℕ) → text_within limit bytes ≡ Some text → (bytes ≡ text) × IsText limit text
text_found limit bytes text e =
    let parts = cond_some (is_text limit bytes) bytes text e in
    let tests = three (nat_le 1 (length bytes)) (nat_le (length bytes) limit) (list_all is_visible bytes) parts.0 in
    let P : List ℕ → Type 0 = λ text. (bytes ≡ text) × IsText limit text in
    subst P parts.1 (refl, (leb-true 1 (length bytes) tests.0, leb-true (length bytes) limit tests.1, tests.2))

pub kind_again : (kind : Kind) → kind_named (kind_word kind) ≡ Some kind
kind_again Value = refl
kind_again Counter = refl
kind_again Map = refl
kind_again Multimap = refl
kind_again Set = refl
kind_again Queue = refl
kind_again Lock = refl
kind_again Group = refl
kind_again Topic = refl
