-- Words that are joined by spaces are split again.
use Rattle.std.proofs.Common.{◌≡◌, ℕ, ◌<◌, ◌==◌, true, false, Bool, ◌&&◌, List, [], ◌∷◌, ◌++◌, refl, ap, ◌∙◌, arith}
use Rattle.std.specs.List.{list_all, onto_first, join_with_byte, AllByRecursion}
use Rattle.std.specs.Str.{IsAscii, IsUtf8}
use Rattle.std.proofs.lemmas.List.Splits.{slice_split-cons_no}
use Rattle.std.proofs.lemmas.Str.{IsUtf8-from_ascii, IsAscii-append}
use Rattle.std.proofs.lemmas.Str.Ascii.{IsAscii-nil, IsAscii-cons}
use Rattle.std.proofs.lemmas.Bool.Decides.{nat_tests}
use Rattle.host_types.specs.Text.{is_visible}
use Rattle.script_text.specs.Reading.{words_of}

-- all its bytes are visible
abbrev pub IsPlain : List ℕ → Type 0
IsPlain word = list_all is_visible word ≡ true

both : (a b : Bool) → (a && b) ≡ true → (a ≡ true) × (b ≡ true)
both true b e = (refl, e)
both false b e = absurd (cc)

off_space : (c : ℕ) → is_visible c ≡ true → (c == 32) ≡ false
off_space c seen = grind (arith, nat_tests)

pub split_one : (word : List ℕ) → IsPlain word → words_of word ≡ word ∷ []
split_one [] plain = refl
split_one (c ∷ word) plain =
    let parts = both (is_visible c) (list_all is_visible word) plain in
    slice_split-cons_no (λ byte. byte == 32) c word (off_space c parts.0) ∙ ap (onto_first c) (split_one word parts.1)

pub split_more : (word rest : List ℕ) (words : List (List ℕ)) → IsPlain word → words_of rest ≡ words → words_of (word ++ (32 ∷ rest)) ≡ word ∷ words
split_more [] rest words plain e = ap (λ (ws : List (List ℕ)). [] ∷ ws) e
split_more (c ∷ word) rest words plain e =
    let parts = both (is_visible c) (list_all is_visible word) plain in
    slice_split-cons_no (λ byte. byte == 32) c (word ++ (32 ∷ rest)) (off_space c parts.0) ∙ ap (onto_first c) (split_more word rest words parts.1 e)

-- plain words that are joined are split into the same words
pub words_of-joined : (word : List ℕ) (words : List (List ℕ)) → AllByRecursion IsPlain (word ∷ words) → words_of (join_with_byte 32 (word ∷ words)) ≡ word ∷ words
words_of-joined word [] plain = split_one word plain.0
words_of-joined word (next ∷ words) plain = split_more word (join_with_byte 32 (next ∷ words)) (next ∷ words) plain.0 (words_of-joined next words plain.1)

ascii_word : (word : List ℕ) → IsPlain word → IsAscii word
ascii_word [] plain = IsAscii-nil
ascii_word (c ∷ word) plain =
    let parts = both (is_visible c) (list_all is_visible word) plain in
    let low : c < 128 = grind (arith, nat_tests, parts.0) in
    IsAscii-cons c word low (ascii_word word parts.1)

ascii_joined : (words : List (List ℕ)) → AllByRecursion IsPlain words → IsAscii (join_with_byte 32 words)
ascii_joined [] plain = IsAscii-nil
ascii_joined (word ∷ []) plain = ascii_word word plain.0
ascii_joined (word ∷ next ∷ words) plain =
    IsAscii-append word (32 ∷ join_with_byte 32 (next ∷ words)) (ascii_word word plain.0) (IsAscii-cons 32 (join_with_byte 32 (next ∷ words)) (omega arith) (ascii_joined (next ∷ words) plain.1))

-- and they are a text
pub joined_text : (words : List (List ℕ)) → AllByRecursion IsPlain words → IsUtf8 (join_with_byte 32 words)
joined_text words plain = IsUtf8-from_ascii (join_with_byte 32 words) (ascii_joined words plain)
