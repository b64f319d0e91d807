-- In which file of a log an index is present.
use Rattle.std.proofs.Common.{◌≡◌, true, ◌⊎◌, inl, inr, ⊎_elim, ℕ, zero, suc, ◌+◌, ◌<◌, ◌≤◌, List, [], ◌∷◌, length, get_or, Option, Some, None, Contains, refl, sym, ap, subst, ◌∙◌, arith, eq-or-lt_of_le}
use Rattle.std.specs.List.{flat_map}
use Rattle.std.proofs.lemmas.Bool.{cases_lt, eqb-true}
use Rattle.std.proofs.lemmas.List.{get_or_default}
use Rattle.std.proofs.lemmas.List.Elements.{All-get_or, Contains-append_cases, Contains-append_left, Contains-append_right}
use Rattle.segment_files.specs.Contents.{AreBelow, Offset_list}
use Rattle.segment_set.specs.declared.opened.Opened.{Opened}
use Rattle.segment_set.specs.declared.parts.Parts.{Parts}
use Rattle.segment_set.specs.declared.tail.Tail.{Tail}
use Rattle.segment_set.specs.Finding.{IsFirstReaching}
use Rattle.segment_set.specs.Fits.{IsNextIn, present, present_of}
use Rattle.segment_set.specs.Joined.{begins_at, end_of}
use Rattle.segment_set.specs.Tails.{tail_base, tail_count, tail_gate, tail_last}
use Rattle.segment_set.proofs.Images.{nothing}
use Rattle.segment_set.proofs.Joining.{ends_before, joined_rise}
use Rattle.segment_set.proofs.Positions.{present_from, present_low}

-- the indexes of a file, and those of the tail
abbrev pub file_present : Opened → List ℕ
file_present one = present_of one.id.base one.part.offsets.items

abbrev pub tail_present : Parts → List ℕ
tail_present parts = present_of (tail_base parts.tail) parts.offsets.items

in_flat : (f : Opened → List ℕ) (files : List Opened) (j : ℕ) → Contains (flat_map f files) j → (k : ℕ) × (k < length files) × ((d : Opened) → Contains (f (get_or files k d)) j)
in_flat f [] j has = absurd (nothing j has)
in_flat f (one ∷ files) j has = ⊎_elim
    (λ first. (0, omega arith, λ d. first))
    (λ later. let r = in_flat f files j later in (suc r.0, omega (arith, r.1), λ d. r.2 d))
    (Contains-append_cases (f one) (flat_map f files) j has)

to_flat : (f : Opened → List ℕ) (files : List Opened) (k : ℕ) (d : Opened) (j : ℕ) → k < length files → Contains (f (get_or files k d)) j → Contains (flat_map f files) j
to_flat f [] k d j lt has = absurd (omega (arith, lt))
to_flat f (one ∷ files) zero d j lt has = Contains-append_left (f one) (flat_map f files) j has
to_flat f (one ∷ files) (suc k) d j lt has = Contains-append_right (f one) (flat_map f files) j (to_flat f files k d j (omega (arith, lt)) has)

-- an index lies in its file's range
range_of : (base last gate : ℕ) (os : Offset_list) (j : ℕ) → AreBelow base last os gate → Contains (present_of base os) j → (base ≤ j) × (j ≤ last)
range_of base last gate os j below has =
    let p = present_from base os j has in
    let at = All-get_or (λ (q : ℕ × ℕ). (base + q.0 ≤ last) × (q.1 < gate)) os p.0 (0, 0) p.1 below in
    (present_low base os j has, omega (arith, at.0, p.2 (0, 0)))

pub file_range : (one : Opened) (j : ℕ) → Contains (file_present one) j → (one.id.base ≤ j) × (j ≤ one.part.last)
file_range one j has = range_of one.id.base one.part.last one.part.gate one.part.offsets.items j one.bounds.below has

-- the file at a position
pub at_place : (files : List Opened) (k : ℕ) → k < length files → Opened
at_place [] k lt = absurd (omega (arith, lt))
at_place (one ∷ files) zero lt = one
at_place (one ∷ files) (suc k) lt = at_place files k (omega (arith, lt))

module _ (parts : Parts) where
  abbrev files : List Opened
  files = parts.sealed.items

  pub tail_range : (j : ℕ) → Contains (tail_present parts) j → (tail_base parts.tail ≤ j) × (j ≤ tail_last parts.tail)
  tail_range j has = range_of (tail_base parts.tail) (tail_last parts.tail) (tail_gate parts.tail) parts.offsets.items j parts.below has

  pub no_tail : parts.tail ≡ None → (j : ℕ) → Contains (tail_present parts) j → ⊥
  no_tail is j has =
      let p = present_from (tail_base parts.tail) parts.offsets.items j has in
      omega (arith, p.1, parts.counted, ap tail_count is)

  -- the tail lies behind each other file
  pub behind_files : (j k : ℕ) (d : Opened) → Contains (tail_present parts) j → k < length files → (get_or files k d).part.last < j
  behind_files j k d has lt = by parts.tail refl
    where
      by : (o : Option Tail) → parts.tail ≡ o → (get_or files k d).part.last < j
      by None is = absurd (no_tail is j has)
      by (Some tail) is =
          let at : tail.id.base ≡ end_of 1 files = eqb-true tail.id.base (end_of 1 files) (subst (λ (o : Option Tail). begins_at o (end_of 1 files) ≡ true) is parts.from) in
          let low = tail_range j has in
          let base : tail_base parts.tail ≡ tail.id.base = ap tail_base is in
          omega (arith, ends_before 1 files parts.joined k d lt, at, low.0, base)

  pub cases_of : (j : ℕ) → Contains (present parts) j → ((k : ℕ) × (k < length files) × ((d : Opened) → Contains (file_present (get_or files k d)) j)) ⊎ Contains (tail_present parts) j
  cases_of j has = ⊎_elim
      (λ first. inl (in_flat file_present files j first))
      (λ later. inr later)
      (Contains-append_cases (flat_map file_present files) (tail_present parts) j has)

  pub from_file : (k : ℕ) (d : Opened) (j : ℕ) → k < length files → Contains (file_present (get_or files k d)) j → Contains (present parts) j
  from_file k d j lt has = Contains-append_left (flat_map file_present files) (tail_present parts) j (to_flat file_present files k d j lt has)

  pub from_tail : (j : ℕ) → Contains (tail_present parts) j → Contains (present parts) j
  from_tail j has = Contains-append_right (flat_map file_present files) (tail_present parts) j has

  -- ---- WHICH FILE has an index

  module _ (index n : ℕ) (first : IsFirstReaching index files n) where
    -- the first one that reaches it
    pub in_first : (d : Opened) → n < length files → Contains (present parts) index → Contains (file_present (get_or files n d)) index
    in_first d lt has = ⊎_elim
        (λ file.
        let range = file_range (get_or files file.0 d) index (file.2 d) in
        ⊎_elim
        (λ (before : file.0 < n). let ends = first.before file.0 d before in absurd (omega (arith, range.1, ends)))
        (λ (from : n ≤ file.0). ⊎_elim
        (λ (is : n ≡ file.0). subst (λ (k : ℕ). Contains (file_present (get_or files k d)) index) (sym is) (file.2 d))
        (λ (past : n < file.0).
        let begins = joined_rise 1 files parts.joined n file.0 d past file.1 in
        let reaches = first.behind n d (omega arith) lt in
        absurd (omega (arith, begins, reaches, range.0)))
        (eq-or-lt_of_le from))
        (cases_lt file.0 n))
        (λ tail. let past = behind_files index n d tail lt in let reaches = first.behind n d (omega arith) lt in absurd (omega (arith, past, reaches)))
        (cases_of index has)

    -- or the tail, where none does
    pub in_tail : length files ≤ n → Contains (present parts) index → Contains (tail_present parts) index
    in_tail all has = ⊎_elim
        (λ file.
        let one = at_place files file.0 file.1 in
        let range = file_range (get_or files file.0 one) index (file.2 one) in
        let ends = first.before file.0 one (omega (arith, file.1, all)) in
        absurd (omega (arith, range.1, ends)))
        (λ tail. tail)
        (cases_of index has)

  -- ---- WHICH INDEX comes next

  -- the first so many files have no index above this one
  abbrev pub ArePassed : ℕ → ℕ → Type 0
  ArePassed index n = (k : ℕ) (d : Opened) → k < n → (j : ℕ) → Contains (file_present (get_or files k d)) j → j ≤ index

  pub passed_first : (index upper n : ℕ) → upper ≤ index + 1 → IsFirstReaching upper files n → ArePassed index n
  passed_first index upper n most first k d lt j has =
      let range = file_range (get_or files k d) j has in
      let ends = first.before k d lt in
      omega (arith, range.1, ends, most)

  pub passed_more : (index n : ℕ) (one : Opened) → n < length files → one ≡ get_or files n one → ArePassed index n → IsNextIn (file_present one) index None → ArePassed index (n + 1)
  passed_more index n one lt is passed none k d less j has = ⊎_elim
      (λ (at : k ≡ n).
      let same : get_or files k d ≡ one = ap (λ (i : ℕ). get_or files i d) at ∙ get_or_default files n d one lt ∙ sym is in
      none j (subst (λ (x : Opened). Contains (file_present x) j) same has))
      (λ (before : k < n). passed k d before j has)
      (eq-or-lt_of_le (omega (arith, less)))

  pub next_in_file : (index n next : ℕ) (one : Opened) → n < length files → one ≡ get_or files n one → ArePassed index n → IsNextIn (file_present one) index (Some next) → IsNextIn (present parts) index (Some next)
  next_in_file index n next one lt is passed found =
      let here : Contains (file_present (get_or files n one)) next = subst (λ (x : Opened). Contains (file_present x) next) is found.0 in
      let most = file_range (get_or files n one) next here in (
        from_file n one next lt here,
        found.1,
        λ j has more. ⊎_elim
            (λ file. ⊎_elim
            (λ (before : file.0 < n). let low = passed file.0 one before j (file.2 one) in absurd (omega (arith, low, more)))
            (λ (from : n ≤ file.0). ⊎_elim
            (λ (at : n ≡ file.0). found.2 j (subst (λ (x : Opened). Contains (file_present x) j) (ap (λ (i : ℕ). get_or files i one) (sym at) ∙ sym is) (file.2 one)) more)
            (λ (past : n < file.0).
            let begins = joined_rise 1 files parts.joined n file.0 one past file.1 in
            let range = file_range (get_or files file.0 one) j (file.2 one) in
            omega (arith, most.1, begins, range.0))
            (eq-or-lt_of_le from))
            (cases_lt file.0 n))
            (λ tail. let past = behind_files j n one tail lt in omega (arith, past, most.1))
            (cases_of j has),
      )

  pub next_in_tail : (index n : ℕ) (o : Option ℕ) → length files ≤ n → ArePassed index n → IsNextIn (tail_present parts) index o → IsNextIn (present parts) index o
  next_in_tail index n None all passed none = λ j has. ⊎_elim
      (λ file. passed file.0 (at_place files file.0 file.1) (omega (arith, file.1, all)) j (file.2 (at_place files file.0 file.1)))
      (λ tail. none j tail)
      (cases_of j has)
  next_in_tail index n (Some next) all passed found = (
    from_tail next found.0,
    found.1,
    λ j has more. ⊎_elim
        (λ file. let low = passed file.0 (at_place files file.0 file.1) (omega (arith, file.1, all)) j (file.2 (at_place files file.0 file.1)) in absurd (omega (arith, low, more)))
        (λ tail. found.2 j tail more)
        (cases_of j has),
  )

  pub none_behind : (index n : ℕ) → parts.tail ≡ None → length files ≤ n → ArePassed index n → (j : ℕ) → Contains (present parts) j → j ≤ index
  none_behind index n is all passed j has = ⊎_elim
      (λ file. passed file.0 (at_place files file.0 file.1) (omega (arith, file.1, all)) j (file.2 (at_place files file.0 file.1)))
      (λ tail. absurd (no_tail is j tail))
      (cases_of j has)
