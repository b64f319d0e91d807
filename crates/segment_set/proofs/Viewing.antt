-- What is shown of parts: each begins where the one before it ends, and has no more entries than indexes.
use Rattle.std.proofs.Common.{◌≡◌, ℕ, zero, suc, ◌+◌, ◌<◌, ◌≤◌, ⊎_elim, true, List, [], ◌∷◌, ◌++◌, map, length, get_or, take, Option, Some, None, refl, sym, ap, subst, ◌∙◌, arith}
use Rattle.std.proofs.lemmas.Bool.{cases_lt}
use Rattle.std.proofs.lemmas.List.{get_or_default, map-append, take_more}
use Rattle.std.proofs.lemmas.List.Elements.{All-get_or}
use Rattle.offset_index.specs.Indexed.{Rises}
use Rattle.segment_files.specs.Contents.{AreBelow, Offset_list}
use Rattle.segment_set.specs.declared.opened.Opened.{Opened}
use Rattle.segment_set.specs.declared.parts.Parts.{Parts}
use Rattle.segment_set.specs.declared.tail.Tail.{Tail}
use Rattle.segment_set.specs.declared.views.PartView.{PartView}
use Rattle.segment_set.specs.Joined.{are_joined, end_of}
use Rattle.segment_set.specs.Views.{IsInRange, LieFrom, tail_views, view_of_file, view_of_tail, views_of}
use Rattle.segment_set.proofs.Joining.{joined_first, tail_base_is}

-- offsets that rise are at least their positions
at_least : (os : Offset_list) → Rises os → (k : ℕ) (d : ℕ × ℕ) → k < length os → k ≤ (get_or os k d).0
at_least os rises zero d lt = omega arith
at_least os rises (suc k) d lt =
    let before = at_least os rises k d (omega (arith, lt)) in
    let above = (rises k (suc k) d (omega arith) lt).0 in
    omega (arith, before, above)

-- a range has at least as many indexes as entries
pub few : (base last gate : ℕ) (os : Offset_list) → Rises os → AreBelow base last os gate → base ≤ last + 1 → base + length os ≤ last + 1
few base last gate os rises below from = by (length os) refl
  where
    by : (n : ℕ) → length os ≡ n → base + length os ≤ last + 1
    by zero is = omega (arith, is, from)
    by (suc n) is =
        let lt : n < length os = omega (arith, is) in
        let low = at_least os rises n (0, 0) lt in
        let high = (All-get_or (λ (p : ℕ × ℕ). (base + p.0 ≤ last) × (p.1 < gate)) os n (0, 0) lt below).0 in
        omega (arith, is, low, high)

pub viewed_more : (files : List Opened) (n : ℕ) (d : Opened) → n < length files → map view_of_file (take (n + 1) files) ≡ map view_of_file (take n files) ++ view_of_file (get_or files n d) ∷ []
viewed_more files n d lt = ap (map view_of_file) (take_more files n d lt) ∙ map-append view_of_file (take n files) (get_or files n d ∷ [])

-- each of these files has no more entries than indexes
abbrev pub AreInRange : List Opened → ℕ → Type 0
AreInRange files n = (k : ℕ) (d : Opened) → k < n → IsInRange (view_of_file (get_or files k d))

pub one_more : (files : List Opened) (n : ℕ) (one : Opened) → one ≡ get_or files n one → AreInRange files n → IsInRange (view_of_file one) → n < length files → AreInRange files (n + 1)
one_more files n one is before range lt k d less = ⊎_elim
    (λ (low : k < n). before k d low)
    (λ (last : n ≤ k).
    let same : k ≡ n = omega (arith, last, less) in
    subst (λ (j : ℕ). IsInRange (view_of_file (get_or files j d))) (sym same)
    (subst (λ (x : Opened). IsInRange (view_of_file x)) (is ∙ get_or_default files n one d lt) range))
    (cases_lt k n)

lie_files : (next : ℕ) (files : List Opened) (rest : List PartView) → are_joined next files ≡ true → AreInRange files (length files) → LieFrom (end_of next files) rest → LieFrom next (map view_of_file files ++ rest)
lie_files next [] rest joined each lie = lie
lie_files next (one ∷ files) rest joined each lie =
    let j = joined_first next one files joined in
    (j.from, each 0 one (omega arith), lie_files (one.part.last + 1) files rest j.rest (λ k d lt. each (suc k) d (omega (arith, lt))) lie)

pub all_lie : (parts : Parts) → AreInRange parts.sealed.items (length parts.sealed.items) → LieFrom 1 (views_of parts)
all_lie parts each = by parts.tail refl
  where
    by : (o : Option Tail) → parts.tail ≡ o → LieFrom 1 (views_of parts)
    by None is = subst (λ (t : Option Tail). LieFrom 1 (map view_of_file parts.sealed.items ++ tail_views t)) (sym is) (lie_files 1 parts.sealed.items [] parts.joined each tt)
    by (Some tail) is =
        subst (λ (t : Option Tail). LieFrom 1 (map view_of_file parts.sealed.items ++ tail_views t)) (sym is)
        (lie_files 1 parts.sealed.items (view_of_tail tail ∷ []) parts.joined each (tail_base_is parts tail is, record { kept = omega (arith, tail.from); last = tail.last_in_range }, tt))
