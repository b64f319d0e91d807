-- Reading one after the other, as a loop does: what was read before stands in front of what is still read.
use Rattle.std.proofs.Common.{◌≡◌, ℕ, suc, ◌-◌, ◌+◌, ◌≤◌, ◌<◌, List, [], ◌∷◌, ◌++◌, Result, Ok, Err, refl, sym, ap, ◌∙◌, append_assoc, arith}
use Rattle.std.proofs.lemmas.List.{append-nil}
use Rattle.entry_codec.specs.declared.fault.Unread.{Unread}
use Rattle.entry_codec.specs.declared.fault.Unread.TheVariants as unread
use Rattle.entry_codec.specs.Reading.{◌>>=◌, index_at, word_at, words_behind, indexes_behind}
use Rattle.entry_codec.specs.Answered.{Fails}

-- ---- words

abbrev pub behind_words : List (List ℕ) → Result (List (List ℕ) × List ℕ) ℕ → Result (List (List ℕ) × List ℕ) ℕ
behind_words front read = read >>= λ x. Ok (front ++ x.0, x.1)

words_regroup : (front : List (List ℕ)) (one : (List ℕ)) (read : Result (List (List ℕ) × List ℕ) ℕ) → behind_words front (read >>= λ x. Ok (one ∷ x.0, x.1)) ≡ behind_words (front ++ one ∷ []) read
words_regroup front one (Ok x) = ap (λ (all : List (List ℕ)). Ok (all, x.1)) (simp append_assoc)
words_regroup front one (Err left) = refl

pub words_go_on : (front : List (List ℕ)) (count i : ℕ) (bytes : List ℕ) (one : (List ℕ)) (after : List ℕ) (total : Result (List (List ℕ) × List ℕ) ℕ) → i < count → word_at bytes ≡ Ok (one, after)
    → behind_words front (words_behind (count - i) bytes) ≡ total → behind_words (front ++ one ∷ []) (words_behind (count - (i + 1)) after) ≡ total
unfolding words_behind
words_go_on front count i bytes one after total lt h so_far =
    let k : count - i ≡ suc (count - (i + 1)) = omega arith in
    let next : behind_words front (words_behind (count - i) bytes) ≡ behind_words (front ++ one ∷ []) (words_behind (count - (i + 1)) after) = rw (k, h) (words_regroup front one (words_behind (count - (i + 1)) after)) in
    sym next ∙ so_far

pub words_end : (e : Unread) (front : List (List ℕ)) (count i : ℕ) (bytes : List ℕ) (total : Result (List (List ℕ) × List ℕ) ℕ) → i < count → Fails e (word_at bytes)
    → behind_words front (words_behind (count - i) bytes) ≡ total → Fails e total
unfolding words_behind
words_end unread.NoMemory front count i bytes total lt h so_far = tt
words_end (unread.Bad left) front count i bytes total lt h so_far =
    let k : count - i ≡ suc (count - (i + 1)) = omega arith in
    let ended : behind_words front (words_behind (count - i) bytes) ≡ Err left = rw (k, h) refl in
    sym so_far ∙ ended

pub words_done : (front : List (List ℕ)) (count i : ℕ) (bytes : List ℕ) (total : Result (List (List ℕ) × List ℕ) ℕ) → count ≤ i → behind_words front (words_behind (count - i) bytes) ≡ total → total ≡ Ok (front, bytes)
unfolding words_behind
words_done front count i bytes total le so_far =
    let k : count - i ≡ 0 = omega arith in
    let all : behind_words front (words_behind (count - i) bytes) ≡ Ok (front, bytes) = rw k (ap (λ (l : List (List ℕ)). Ok (l, bytes)) (append-nil front)) in
    sym so_far ∙ all

-- ---- indexes

abbrev pub behind_indexes : List ℕ → Result (List ℕ × List ℕ) ℕ → Result (List ℕ × List ℕ) ℕ
behind_indexes front read = read >>= λ x. Ok (front ++ x.0, x.1)

indexes_regroup : (front : List ℕ) (one : ℕ) (read : Result (List ℕ × List ℕ) ℕ) → behind_indexes front (read >>= λ x. Ok (one ∷ x.0, x.1)) ≡ behind_indexes (front ++ one ∷ []) read
indexes_regroup front one (Ok x) = ap (λ (all : List ℕ). Ok (all, x.1)) (simp append_assoc)
indexes_regroup front one (Err left) = refl

pub indexes_go_on : (front : List ℕ) (count i : ℕ) (bytes : List ℕ) (one : ℕ) (after : List ℕ) (total : Result (List ℕ × List ℕ) ℕ) → i < count → index_at bytes ≡ Ok (one, after)
    → behind_indexes front (indexes_behind (count - i) bytes) ≡ total → behind_indexes (front ++ one ∷ []) (indexes_behind (count - (i + 1)) after) ≡ total
unfolding indexes_behind
indexes_go_on front count i bytes one after total lt h so_far =
    let k : count - i ≡ suc (count - (i + 1)) = omega arith in
    let next : behind_indexes front (indexes_behind (count - i) bytes) ≡ behind_indexes (front ++ one ∷ []) (indexes_behind (count - (i + 1)) after) = rw (k, h) (indexes_regroup front one (indexes_behind (count - (i + 1)) after)) in
    sym next ∙ so_far

pub indexes_end : (e : Unread) (front : List ℕ) (count i : ℕ) (bytes : List ℕ) (total : Result (List ℕ × List ℕ) ℕ) → i < count → Fails e (index_at bytes)
    → behind_indexes front (indexes_behind (count - i) bytes) ≡ total → Fails e total
unfolding indexes_behind
indexes_end unread.NoMemory front count i bytes total lt h so_far = tt
indexes_end (unread.Bad left) front count i bytes total lt h so_far =
    let k : count - i ≡ suc (count - (i + 1)) = omega arith in
    let ended : behind_indexes front (indexes_behind (count - i) bytes) ≡ Err left = rw (k, h) refl in
    sym so_far ∙ ended

pub indexes_done : (front : List ℕ) (count i : ℕ) (bytes : List ℕ) (total : Result (List ℕ × List ℕ) ℕ) → count ≤ i → behind_indexes front (indexes_behind (count - i) bytes) ≡ total → total ≡ Ok (front, bytes)
unfolding indexes_behind
indexes_done front count i bytes total le so_far =
    let k : count - i ≡ 0 = omega arith in
    let all : behind_indexes front (indexes_behind (count - i) bytes) ≡ Ok (front, bytes) = rw k (ap (λ (l : List ℕ). Ok (l, bytes)) (append-nil front)) in
    sym so_far ∙ all
