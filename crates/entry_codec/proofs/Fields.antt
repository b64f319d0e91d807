-- What a reader finds: its value's spelling in front of the rest, or a fault within the bytes. Numbers and texts.
use Rattle.std.proofs.Common.{◌≡◌, ℕ, ℤ, suc, ◌+◌, ◌<◌, ◌≤◌, Bool, true, false, cond, ltb, leb, eqb, ◌&&◌, List, [], ◌∷◌, ◌++◌, length, get_or, take, drop, Option, Some, None, Result, Ok, Err, refl, sym, ap, subst, ◌∙◌, append_assoc, arith, rules, inl, inr, Fits}
use Rattle.std.specs.Prelude.{FitsSigned}
use Rattle.std.specs.Int.{w16, w64, from_be_bytes, to_be_bytes, cast_signed, cast_unsigned}
use Rattle.std.proofs.lemmas.Bool.{cases_lt, ltb-false, le-ltb, eqb-true}
use Rattle.std.proofs.lemmas.Int.{of_z-to_z, to_z-of_z}
use Rattle.std.proofs.Math.Facts.{Fits-of_z}
use Rattle.std.proofs.lemmas.List.{take_at, drop_at, take-append-drop, length-append, length-take, get_or-drop, get_or-take, get_or_past}
use Rattle.std.proofs.lemmas.Nat.{be_bytes_2, be_bytes_8, from_be_bytes-to_be_bytes_2, from_be_bytes-to_be_bytes_8}
use Rattle.host_types.specs.Limits.{index_limit, key_limit, word_limit}
use Rattle.host_types.specs.Text.{IsText, first_hidden}
use Rattle.entry_codec.specs.Spelled.{number_spelled, signed_spelled, text_spelled, flag_of, kind_tag, IsUnsigned, IsIndex, IsKey, IsWord}
use Rattle.host_types.specs.declared.entry.Kind.{Kind}
use Rattle.host_types.specs.declared.entry.Kind.TheVariants as kinds
use Rattle.entry_codec.proofs.Bounds.{text_size}
use Rattle.entry_codec.proofs.Texts.{none_hidden, visible}
use Rattle.entry_codec.specs.Reading.{◌>>=◌, made, byte_at, number_at, signed_at, bounded_at, count_at, known, flag_from, kind_from, flag_at, kind_at, length_at, whole_at, piece_at, unless_hidden, text_at, index_at, key_at, word_at}

abbrev pub IsBytes : List ℕ → Type 0
IsBytes bytes = (i : ℕ) → get_or bytes i 0 < 256

pub IsBytes-drop : (n : ℕ) (bytes : List ℕ) → IsBytes bytes → IsBytes (drop n bytes)
IsBytes-drop n bytes h i = rw get_or-drop (h (n + i))

IsBytes-take : (n : ℕ) (bytes : List ℕ) → IsBytes bytes → IsBytes (take n bytes)
IsBytes-take n bytes h i =
    elim (cases_lt i n) [
      | inl lt ↦ rw (get_or-take n bytes i 0 lt) (h i)
      | inr le ↦ rw (get_or_past (take n bytes) i 0 (omega (arith, length-take n bytes))) (omega arith)
    ]

-- ---- what a reader keeps

abbrev pub MeetsBy : {A : Type 0} → ℕ → (A → Type 0) → Result A ℕ → Type 0
MeetsBy size P (Ok x) = P x
MeetsBy size P (Err left) = left ≤ size

-- what is read is so, and no more bytes are left at a fault
pub record Meets {A : Type 0} (size : ℕ) (P : A → Type 0) (read : Result A ℕ) : Type 0 where
  pub met : MeetsBy size P read

pub bind_meets : {A B : Type 0} {size : ℕ} {P : A → Type 0} {Q : B → Type 0} (r : Result A ℕ) (f : A → Result B ℕ) → Meets size P r → ((x : A) → P x → Meets size Q (f x)) → Meets size Q (r >>= f)
bind_meets (Ok x) f m go = go x m.met
bind_meets (Err left) f m go = record { met = m.met }

pub weaker : {A : Type 0} {size : ℕ} {P : A → Type 0} (more : ℕ) (Q : A → Type 0) (r : Result A ℕ) → size ≤ more → Meets size P r → ((x : A) → P x → Q x) → Meets more Q r
weaker more Q (Ok x) le m go = record { met = go x m.met }
weaker more Q (Err left) le m go = let lt = m.met in record { met = omega arith }

pub cond_meets : {A : Type 0} {size : ℕ} {P : A → Type 0} (b : Bool) (x y : Result A ℕ) → (b ≡ true → Meets size P x) → (b ≡ false → Meets size P y) → Meets size P (cond b x y)
cond_meets true x y on_true on_false = on_true refl
cond_meets false x y on_true on_false = on_false refl

pub cond_case : {A : Type 0} (b : Bool) (P : A → Type 0) (x y : A) → (b ≡ true → P x) → (b ≡ false → P y) → P (cond b x y)
cond_case true P x y on_true on_false = on_true refl
cond_case false P x y on_true on_false = on_false refl

-- ---- what stands in front of the rest

pub record Found {A : Type 0} (spell : A → List ℕ) (Right : A → Type 0) (bytes : List ℕ) (x : A × List ℕ) : Type 0 where
  pub parts : bytes ≡ spell x.0 ++ x.1
  pub rest_fits : IsBytes x.1
  pub right : Right x.0

pub joined : (bytes a r b s : List ℕ) → bytes ≡ a ++ r → r ≡ b ++ s → bytes ≡ (a ++ b) ++ s
joined bytes a r b s p q = p ∙ ap (λ (t : List ℕ). a ++ t) q ∙ sym (append_assoc a b s)

pub shorter : (bytes a r : List ℕ) → bytes ≡ a ++ r → length r ≤ length bytes
shorter bytes a r p = omega (arith, ap length p, length-append a r)

pub made_meets : {A B : Type 0} {size : ℕ} {P : A × List ℕ → Type 0} {Q : B × List ℕ → Type 0} (variant : A → B) (r : Result (A × List ℕ) ℕ) → Meets size P r → ((x : A × List ℕ) → P x → Q (variant x.0, x.1)) → Meets size Q (made variant r)
made_meets variant (Ok x) m go = record { met = go x m.met }
made_meets variant (Err left) m go = record { met = m.met }

-- ---- bytes

pub record FoundByte (bytes : List ℕ) (x : ℕ × List ℕ) : Type 0 where
  pub parts : bytes ≡ x.0 ∷ x.1
  pub rest_fits : IsBytes x.1
  pub below : x.0 < 256

pub byte_meets : (bytes : List ℕ) → IsBytes bytes → Meets (length bytes) (FoundByte bytes) (byte_at bytes)
unfolding byte_at
byte_meets [] fits = record { met = omega arith }
byte_meets (byte ∷ bytes) fits = record { met = record { parts = refl; rest_fits = λ i. fits (suc i); below = fits 0 } }

-- ---- numbers

pub number_meets : (bytes : List ℕ) → IsBytes bytes → Meets (length bytes) (Found number_spelled IsUnsigned bytes) (number_at bytes)
unfolding number_at number_spelled
number_meets bytes fits =
    let front_fits = IsBytes-take 8 bytes fits in
    cond_meets (ltb (length bytes) 8) (Err 0) (Ok (from_be_bytes w64 (take 8 bytes), drop 8 bytes)) (λ short. record { met = omega arith }) (λ long.
    let le : 8 ≤ length bytes = ltb-false _ _ long in
    let front : to_be_bytes w64 (from_be_bytes w64 (take 8 bytes)) ≡ take 8 bytes = be_bytes_8 (take 8 bytes) (from_be_bytes w64 (take 8 bytes)) (omega (arith, length-take 8 bytes)) front_fits refl in
    record {
      met = record {
        parts = sym (ap (λ (l : List ℕ). l ++ drop 8 bytes) front ∙ take-append-drop 8 bytes);
        rest_fits = IsBytes-drop 8 bytes fits;
        right = omega (arith, front_fits 0, front_fits 1, front_fits 2, front_fits 3, front_fits 4, front_fits 5, front_fits 6, front_fits 7);
      };
    })

pub number_again : (n : ℕ) (rest : List ℕ) → IsUnsigned n → number_at (number_spelled n ++ rest) ≡ Ok (n, rest)
unfolding number_at number_spelled
number_again n rest lt =
    let long : ltb (length (to_be_bytes w64 n ++ rest)) 8 ≡ false = le-ltb _ _ (omega (arith, length-append (to_be_bytes w64 n) rest)) in
    rw long (ap (λ (k : ℕ). Ok (k, rest)) (from_be_bytes-to_be_bytes_8 n lt))

pub signed_meets : (bytes : List ℕ) → IsBytes bytes → Meets (length bytes) (Found signed_spelled (FitsSigned w64) bytes) (signed_at bytes)
unfolding signed_at signed_spelled number_spelled
signed_meets bytes fits = made_meets (cast_signed w64) (number_at bytes) (number_meets bytes fits) (λ n found. record {
  parts = found.parts ∙ ap (λ (k : ℕ). to_be_bytes w64 k ++ n.1) (sym (of_z-to_z w64 n.0 found.right));
  rest_fits = found.rest_fits;
  right = search rules;
})

pub signed_again : (z : ℤ) (rest : List ℕ) → FitsSigned w64 z → signed_at (signed_spelled z ++ rest) ≡ Ok (z, rest)
unfolding signed_at signed_spelled number_spelled
signed_again z rest is =
    let below : Fits w64 (cast_unsigned w64 z) = Fits-of_z is in
    rw (number_again (cast_unsigned w64 z) rest (omega arith)) (ap (λ (y : ℤ). Ok (y, rest)) (to_z-of_z w64 z is))

-- a number that is tested
abbrev pub IsBounded : ℕ → ℕ → Type 0
IsBounded least n = (least ≤ n) × (n ≤ index_limit)

bounds_true : (least n : ℕ) → (leb least n && leb n index_limit) ≡ true → IsBounded least n
bounds_true least n e = (grind arith, grind arith)

pub bounded_meets : (least : ℕ) (bytes : List ℕ) → IsBytes bytes → Meets (length bytes) (Found number_spelled (IsBounded least) bytes) (bounded_at least bytes)
unfolding bounded_at
bounded_meets least bytes fits = bind_meets (number_at bytes) _ (number_meets bytes fits) (λ n found.
    cond_meets (leb least n.0 && leb n.0 index_limit) (Ok n) (Err (length bytes)) (λ right. record {
      met = record {
        parts = found.parts;
        rest_fits = found.rest_fits;
        right = bounds_true least n.0 right;
      };
    }) (λ wrong. record { met = omega arith }))

pub bounded_again : (least n : ℕ) (rest : List ℕ) → IsBounded least n → bounded_at least (number_spelled n ++ rest) ≡ Ok (n, rest)
unfolding bounded_at
bounded_again least n rest is = rw (number_again n rest (omega (arith, is.1))) (grind (arith, is.0, is.1))

-- ---- bytes that mean something

abbrev pub Anything : {A : Type 0} → A → Type 0
Anything x = Unit {0}

abbrev pub flag_spelled : Bool → List ℕ
flag_spelled flag = flag_of flag ∷ []

abbrev pub kind_spelled : Kind → List ℕ
kind_spelled kind = kind_tag kind ∷ []

abbrev Means : {A : Type 0} → (A → ℕ) → ℕ → Option A → Type 0
Means number byte None = Unit {0}
Means number byte (Some value) = byte ≡ number value

means_cond : {A : Type 0} (number : A → ℕ) (byte other : ℕ) (value : A) (rest : Option A) → other ≡ number value → Means number byte rest → Means number byte (cond (eqb byte other) (Some value) rest)
means_cond number byte other value rest is on_false = cond_case (eqb byte other) (λ o. Means number byte o) (Some value) rest (λ e. eqb-true byte other e ∙ is) (λ e. on_false)

known_meets : {A : Type 0} (number : A → ℕ) (bytes : List ℕ) (byte : ℕ) (rest : List ℕ) (value : Option A) → bytes ≡ byte ∷ rest → IsBytes rest → Means number byte value
    → Meets (length bytes) (Found (λ (x : A). number x ∷ []) Anything bytes) (known (length bytes) value rest)
known_meets number bytes byte rest None parts fits means = record { met = omega arith }
known_meets number bytes byte rest (Some value) parts fits means = record { met = record { parts = parts ∙ ap (λ (b : ℕ). b ∷ rest) means; rest_fits = fits; right = tt } }

flag_means : (byte : ℕ) → Means flag_of byte (flag_from byte)
flag_means byte = means_cond flag_of byte 0 false _ refl (means_cond flag_of byte 1 true _ refl tt)

kind_means : (tag : ℕ) → Means kind_tag tag (kind_from tag)
kind_means tag =
    means_cond kind_tag tag 0 kinds.Value _ refl (means_cond kind_tag tag 1 kinds.Counter _ refl (means_cond kind_tag tag 2 kinds.Map _ refl (means_cond kind_tag tag 3 kinds.Multimap _ refl (
    means_cond kind_tag tag 4 kinds.Set _ refl (means_cond kind_tag tag 5 kinds.Queue _ refl (means_cond kind_tag tag 6 kinds.Lock _ refl (means_cond kind_tag tag 7 kinds.Group _ refl (
    means_cond kind_tag tag 8 kinds.Topic _ refl tt))))))))

pub flag_meets : (bytes : List ℕ) → IsBytes bytes → Meets (length bytes) (Found flag_spelled Anything bytes) (flag_at bytes)
unfolding flag_at
flag_meets bytes fits = bind_meets (byte_at bytes) _ (byte_meets bytes fits) (λ byte found. known_meets flag_of bytes byte.0 byte.1 (flag_from byte.0) found.parts found.rest_fits (flag_means byte.0))

pub kind_meets : (bytes : List ℕ) → IsBytes bytes → Meets (length bytes) (Found kind_spelled Anything bytes) (kind_at bytes)
unfolding kind_at
kind_meets bytes fits = bind_meets (byte_at bytes) _ (byte_meets bytes fits) (λ tag found. known_meets kind_tag bytes tag.0 tag.1 (kind_from tag.0) found.parts found.rest_fits (kind_means tag.0))

pub flag_again : (flag : Bool) (rest : List ℕ) → flag_at (flag_of flag ∷ rest) ≡ Ok (flag, rest)
unfolding flag_at byte_at
flag_again true rest = refl
flag_again false rest = refl

pub kind_again : (kind : Kind) (rest : List ℕ) → kind_at (kind_tag kind ∷ rest) ≡ Ok (kind, rest)
unfolding kind_at byte_at
kind_again kinds.Value rest = refl
kind_again kinds.Counter rest = refl
kind_again kinds.Map rest = refl
kind_again kinds.Multimap rest = refl
kind_again kinds.Set rest = refl
kind_again kinds.Queue rest = refl
kind_again kinds.Lock rest = refl
kind_again kinds.Group rest = refl
kind_again kinds.Topic rest = refl

-- ---- counts

pub record FoundCount (limit : ℕ) (bytes : List ℕ) (x : ℕ × List ℕ) : Type 0 where
  pub parts : bytes ≡ x.0 ∷ x.1
  pub rest_fits : IsBytes x.1
  pub most : x.0 ≤ limit

pub count_meets : (limit : ℕ) (bytes : List ℕ) → IsBytes bytes → Meets (length bytes) (FoundCount limit bytes) (count_at limit bytes)
unfolding count_at
count_meets limit bytes fits = bind_meets (byte_at bytes) _ (byte_meets bytes fits) (λ count found.
    cond_meets (leb count.0 limit) (Ok count) (Err (length bytes)) (λ few. record { met = record { parts = found.parts; rest_fits = found.rest_fits; most = grind arith } }) (λ many. record { met = omega arith }))

pub count_again : (limit n : ℕ) (rest : List ℕ) → n ≤ limit → count_at limit (n ∷ rest) ≡ Ok (n, rest)
unfolding count_at byte_at
count_again limit n rest le = grind arith

-- ---- keys and words

record FoundLength (limit : ℕ) (bytes : List ℕ) (x : ℕ × List ℕ) : Type 0 where
  parts : bytes ≡ to_be_bytes w16 x.0 ++ x.1
  rest_fits : IsBytes x.1
  least : 1 ≤ x.0
  most : x.0 ≤ limit

range_true : (n limit : ℕ) → (leb 1 n && leb n limit) ≡ true → (1 ≤ n) × (n ≤ limit)
range_true n limit e = (grind arith, grind arith)

length_meets : (limit : ℕ) (bytes : List ℕ) → IsBytes bytes → Meets (length bytes) (FoundLength limit bytes) (length_at limit bytes)
unfolding length_at
length_meets limit bytes fits =
    let n : ℕ = from_be_bytes w16 (take 2 bytes) in
    cond_meets (ltb (length bytes) 2) (Err 0) _ (λ short. record { met = omega arith }) (λ long.
    let le : 2 ≤ length bytes = ltb-false _ _ long in
    let front : to_be_bytes w16 n ≡ take 2 bytes = be_bytes_2 (take 2 bytes) n (omega (arith, length-take 2 bytes)) (IsBytes-take 2 bytes fits) refl in
    cond_meets (leb 1 n && leb n limit) (Ok (n, drop 2 bytes)) (Err (length bytes)) (λ right.
    let range = range_true n limit right in
    record {
      met = record {
        parts = sym (ap (λ (l : List ℕ). l ++ drop 2 bytes) front ∙ take-append-drop 2 bytes);
        rest_fits = IsBytes-drop 2 bytes fits;
        least = range.0;
        most = range.1;
      };
    }) (λ wrong. record { met = omega arith }))

length_again : (limit n : ℕ) (rest : List ℕ) → limit < 65536 → 1 ≤ n → n ≤ limit → length_at limit (to_be_bytes w16 n ++ rest) ≡ Ok (n, rest)
unfolding length_at
length_again limit n rest small least most =
    let long : ltb (length (to_be_bytes w16 n ++ rest)) 2 ≡ false = le-ltb _ _ (omega (arith, length-append (to_be_bytes w16 n) rest)) in
    let back : from_be_bytes w16 (to_be_bytes w16 n) ≡ n = from_be_bytes-to_be_bytes_2 n (omega arith) in
    rw long (ap (λ (k : ℕ). cond (leb 1 k && leb k limit) (Ok (k, rest)) (Err (length (to_be_bytes w16 n ++ rest)))) back ∙ grind (arith, least, most))

abbrev IsShort : ℕ → List ℕ → Type 0
IsShort limit text = (1 ≤ length text) × (length text ≤ limit)

piece_meets : (limit : ℕ) (bytes : List ℕ) → IsBytes bytes → Meets (length bytes) (Found text_spelled (IsShort limit) bytes) (piece_at limit bytes)
unfolding piece_at whole_at text_spelled
piece_meets limit bytes fits = bind_meets (length_at limit bytes) _ (length_meets limit bytes fits) (λ n found.
    cond_meets (ltb (length n.1) n.0) (Err 0) (Ok (take n.0 n.1, drop n.0 n.1)) (λ short. record { met = omega arith }) (λ long.
    let le : n.0 ≤ length n.1 = ltb-false _ _ long in
    let size : length (take n.0 n.1) ≡ n.0 = omega (arith, length-take n.0 n.1) in
    let least = found.least in
    let most = found.most in
    let whole : bytes ≡ to_be_bytes w16 n.0 ++ take n.0 n.1 ++ drop n.0 n.1 = joined bytes (to_be_bytes w16 n.0) n.1 (take n.0 n.1) (drop n.0 n.1) found.parts (sym (take-append-drop n.0 n.1)) in
    record {
      met = record {
        parts = whole ∙ ap (λ (k : ℕ). to_be_bytes w16 k ++ take n.0 n.1 ++ drop n.0 n.1) (sym size);
        rest_fits = IsBytes-drop n.0 n.1 found.rest_fits;
        right = (omega arith, omega arith);
      };
    }))

piece_again : (limit : ℕ) (text rest : List ℕ) → limit < 65536 → IsShort limit text → piece_at limit (text_spelled text ++ rest) ≡ Ok (text, rest)
unfolding piece_at whole_at text_spelled
piece_again limit text rest small short =
    let long : ltb (length (text ++ rest)) (length text) ≡ false = le-ltb _ _ (omega (arith, length-append text rest)) in
    rw (length_again limit (length text) (text ++ rest) small short.0 short.1, long, take_at text rest (length text) refl, drop_at text rest (length text) refl) refl

hidden_meets : (limit : ℕ) (bytes text rest : List ℕ) (hidden : Option ℕ) → first_hidden text ≡ hidden → Found text_spelled (IsShort limit) bytes (text, rest)
    → Meets (length bytes) (Found text_spelled (IsText limit) bytes) (unless_hidden text rest hidden)
hidden_meets limit bytes text rest None is found = record { met = record { parts = found.parts; rest_fits = found.rest_fits; right = visible limit text found.right.0 found.right.1 is } }
hidden_meets limit bytes text rest (Some at) is found =
    let size = length-append (text_spelled text) rest in
    record { met = omega (arith, ap length found.parts, size, text_size text) }

pub text_meets : (limit : ℕ) (bytes : List ℕ) → IsBytes bytes → Meets (length bytes) (Found text_spelled (IsText limit) bytes) (text_at limit bytes)
unfolding text_at
text_meets limit bytes fits = bind_meets (piece_at limit bytes) _ (piece_meets limit bytes fits) (λ piece found. hidden_meets limit bytes piece.0 piece.1 (first_hidden piece.0) refl found)

pub text_again : (limit : ℕ) (text rest : List ℕ) → limit < 65536 → IsText limit text → text_at limit (text_spelled text ++ rest) ≡ Ok (text, rest)
unfolding text_at
text_again limit text rest small is = rw (piece_again limit text rest small (is.0, is.1), none_hidden limit text is) refl

-- ---- fields one after the other

-- the next field, of which no more is left than of the whole
pub next : {A B : Type 0} {spell : A → List ℕ} {Right : A → Type 0} {Q : B → Type 0} (size : ℕ) (bytes : List ℕ) (r : Result (A × List ℕ) ℕ) (f : A × List ℕ → Result B ℕ) → length bytes ≤ size → Meets (length bytes) (Found spell Right bytes) r
    → ((x : A × List ℕ) → Found spell Right bytes x → length x.1 ≤ size → Meets size Q (f x)) → Meets size Q (r >>= f)
next {spell = spell} size bytes (Ok x) f le m go = go x m.met (omega (arith, shorter bytes (spell x.0) x.1 m.met.parts))
next size bytes (Err left) f le m go = let at = m.met in record { met = omega arith }

-- one of several tags
pub tag_meets : {A : Type 0} (spell : A → List ℕ) (Right : A → Type 0) (tag other : ℕ) (bytes : List ℕ) (x y : Result (A × List ℕ) ℕ) → Meets (length bytes) (Found spell Right (other ∷ bytes)) x
    → Meets (suc (length bytes)) (Found spell Right (tag ∷ bytes)) y → Meets (suc (length bytes)) (Found spell Right (tag ∷ bytes)) (cond (eqb tag other) x y)
tag_meets spell Right tag other bytes x y on_true on_false = cond_meets (eqb tag other) x y (λ e.
    let is = eqb-true tag other e in
    subst (λ (t : ℕ). Meets (suc (length bytes)) (Found spell Right (t ∷ bytes)) x) (sym is) (weaker (suc (length bytes)) (Found spell Right (other ∷ bytes)) x (omega arith) on_true (λ v found. found))) (λ e. on_false)

-- a tag and what stands behind it
pub tagged_meets : {A : Type 0} (spell : A → List ℕ) (Right : A → Type 0) (bytes : List ℕ) (behind : ℕ → ℕ → List ℕ → Result (A × List ℕ) ℕ) → IsBytes bytes
    → ((tag : ℕ) (rest : List ℕ) → IsBytes rest → Meets (suc (length rest)) (Found spell Right (tag ∷ rest)) (behind (suc (length rest)) tag rest))
    → Meets (length bytes) (Found spell Right bytes) (byte_at bytes >>= λ tag. behind (length bytes) tag.0 tag.1)
unfolding byte_at
tagged_meets spell Right [] behind fits go = record { met = omega arith }
tagged_meets spell Right (tag ∷ rest) behind fits go = go tag rest (λ i. fits (suc i))

pub unsigned_index : (n : ℕ) → n ≤ index_limit → IsUnsigned n
unsigned_index n le = omega arith

pub index_meets : (bytes : List ℕ) → IsBytes bytes → Meets (length bytes) (Found number_spelled IsIndex bytes) (index_at bytes)
index_meets = bounded_meets 1

pub index_again : (n : ℕ) (rest : List ℕ) → IsIndex n → index_at (number_spelled n ++ rest) ≡ Ok (n, rest)
index_again = bounded_again 1

pub key_meets : (bytes : List ℕ) → IsBytes bytes → Meets (length bytes) (Found text_spelled IsKey bytes) (key_at bytes)
key_meets = text_meets key_limit

pub key_again : (key rest : List ℕ) → IsKey key → key_at (text_spelled key ++ rest) ≡ Ok (key, rest)
key_again key rest is = text_again key_limit key rest (omega arith) is

pub word_meets : (bytes : List ℕ) → IsBytes bytes → Meets (length bytes) (Found text_spelled IsWord bytes) (word_at bytes)
word_meets = text_meets word_limit

pub word_again : (word rest : List ℕ) → IsWord word → word_at (text_spelled word ++ rest) ≡ Ok (word, rest)
word_again word rest is = text_again word_limit word rest (omega arith) is
