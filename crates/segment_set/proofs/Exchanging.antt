-- A file in place of neighbours that have its range, as lists of files.
use Rattle.std.proofs.Common.{◌≡◌, ◌≢◌, ◌==◌, ◌&&◌, ◌||◌, ⊎_elim, ℕ, suc, ◌+◌, ◌-◌, ◌<◌, ◌≤◌, nat_le, Bool, true, List, [], ◌∷◌, ◌++◌, length, get_or, set, take, drop, Option, Some, None, refl, sym, ap, subst, ◌∙◌, arith, append_assoc, Contains}
use Rattle.std.specs.List.{AllPairs, remove_range, slice_range}
use Rattle.std.proofs.Math.Seq.{get_or-append_seam, set-append_seam}
use Rattle.std.proofs.lemmas.Bool.{and_from, cases_lt, eq-eqb, le-leb}
use Rattle.std.proofs.lemmas.List.{drop_at, get_or_append_left, length-append, take_at}
use Rattle.disk_model.specs.declared.file_id.FileId.{FileId}
use Rattle.segment_set.specs.declared.opened.Opened.{Opened}
use Rattle.segment_set.specs.declared.parts.Parts.{Parts}
use Rattle.segment_set.specs.declared.tail.Tail.{Tail}
use Rattle.segment_set.specs.Exchange.{HasRun, ids_of}
use Rattle.segment_set.specs.Finding.{IsFirstReaching}
use Rattle.segment_set.specs.Joined.{are_joined, end_of, has_tail_or_full, last_index_of, last_is_full, last_of_files}
use Rattle.segment_set.proofs.Images.{nothing, one_of}
use Rattle.segment_set.proofs.Joining.{end_is_last, end_more, ends_before, joined_first}
use Rattle.segment_set.proofs.Loading.{pairs_more}

-- ---- LISTS of files, one behind the other

pub end_append : (next : ℕ) (a b : List Opened) → end_of next (a ++ b) ≡ end_of (end_of next a) b
end_append next [] b = refl
end_append next (x ∷ a) b = end_append (x.part.last + 1) a b

joined_cons : (next : ℕ) (x : Opened) (files : List Opened) → x.id.base ≡ next → next ≤ x.part.last → are_joined (x.part.last + 1) files ≡ true → are_joined next (x ∷ files) ≡ true
joined_cons next x files from filled rest =
    and_from (x.id.base == next && nat_le next x.part.last) (are_joined (x.part.last + 1) files)
    (and_from (x.id.base == next) (nat_le next x.part.last) (eq-eqb x.id.base next from) (le-leb next x.part.last filled)) rest

joined_split : (next : ℕ) (a b : List Opened) → are_joined next (a ++ b) ≡ true → (are_joined next a ≡ true) × (are_joined (end_of next a) b ≡ true)
joined_split next [] b joined = (refl, joined)
joined_split next (x ∷ a) b joined =
    let j = joined_first next x (a ++ b) joined in
    let rest = joined_split (x.part.last + 1) a b j.rest in
    (joined_cons next x a j.from j.filled rest.0, rest.1)

joined_both : (next : ℕ) (a b : List Opened) → are_joined next a ≡ true → are_joined (end_of next a) b ≡ true → are_joined next (a ++ b) ≡ true
joined_both next [] b front back = back
joined_both next (x ∷ a) b front back =
    let j = joined_first next x a front in
    joined_cons next x (a ++ b) j.from j.filled (joined_both (x.part.last + 1) a b j.rest back)

full_append : (a : List Opened) (x : Opened) (b : List Opened) → last_is_full (a ++ x ∷ b) ≡ last_is_full (x ∷ b)
full_append [] x b = refl
full_append (y ∷ []) x b = refl
full_append (y ∷ z ∷ a) x b = full_append (z ∷ a) x b

-- none begins before them
pub base_from : (next : ℕ) (files : List Opened) (one : Opened) → are_joined next files ≡ true → Contains files one → next ≤ one.id.base
base_from next [] one joined has = absurd (nothing one has)
base_from next (x ∷ files) one joined has =
    let j = joined_first next x files joined in
    ⊎_elim
    (λ is. omega (arith, j.from, ap (λ (o : Opened). o.id.base) is))
    (λ later. omega (arith, j.filled, base_from (x.part.last + 1) files one j.rest later))
    (one_of x files one has)

pub ids_has : (files : List Opened) (id : FileId) → Contains (ids_of files) id → (one : Opened) × Contains files one × (one.id ≡ id)
ids_has [] id has = absurd (nothing id has)
ids_has (x ∷ files) id has = ⊎_elim
    (λ is. (x, (0, omega arith, refl), is))
    (λ later. let rest = ids_has files id later in (rest.0, (suc rest.1.0, omega (arith, rest.1.1), rest.1.2), rest.2))
    (one_of x.id (ids_of files) id has)

-- and no two have one id
pub ids_apart : (next : ℕ) (files : List Opened) → are_joined next files ≡ true → AllPairs (λ a b. a ≢ b) (ids_of files)
ids_apart next [] joined = λ i j d lt below. absurd (omega (arith, below))
ids_apart next (x ∷ files) joined =
    let j = joined_first next x files joined in
    pairs_more (λ (a : FileId) (b : FileId). a ≢ b) x.id (ids_of files)
    (λ id has same.
    let one = ids_has files id has in
    omega (arith, base_from (x.part.last + 1) files one.0 j.rest one.1, j.from, j.filled, ap (λ (i : FileId). i.base) (same ∙ sym one.2)))
    (ids_apart (x.part.last + 1) files j.rest)

-- so many files end before the index that the next one reaches
reaching_is : (front : List Opened) (x : Opened) (rest : List Opened) (index n : ℕ) → ((k : ℕ) (d : Opened) → k < length front → (get_or front k d).part.last < index) → index ≤ x.part.last
    → IsFirstReaching index (front ++ x ∷ rest) n → n ≡ length front
reaching_is front x rest index n below reaches first = ⊎_elim
    (λ (few : n < length front).
    let all : length (front ++ x ∷ rest) ≡ length front + length (x ∷ rest) = length-append front (x ∷ rest) in
    let at = first.behind n x (omega arith) (omega (arith, few, all)) in
    let same = ap (λ (o : Opened). o.part.last) (get_or_append_left front (x ∷ rest) x n few) in
    absurd (omega (arith, at, same, below n x few)))
    (λ (enough : length front ≤ n). ⊎_elim
    (λ (many : length front < n).
    let at = first.before (length front) x many in
    let same = ap (λ (o : Opened). o.part.last) (get_or-append_seam front x rest x) in
    absurd (omega (arith, at, same, reaches)))
    (λ (most : n ≤ length front). omega (arith, enough, most))
    (cases_lt (length front) n))
    (cases_lt n (length front))

-- a list that isn't empty has a last element
ends : {X : Type 0} (xs : List X) → 0 < length xs → (init : List X) × (z : X) × (xs ≡ init ++ z ∷ [])
ends [] lt = absurd (omega (arith, lt))
ends (x ∷ []) lt = ([], x, refl)
ends {X} (x ∷ y ∷ xs) lt = let rest = ends (y ∷ xs) (omega arith) in (x ∷ rest.0, rest.1, ap (λ (l : List X). x ∷ l) rest.2)

-- ---- THE EXCHANGE

module _ (old : Parts) (new : Opened) (front run back : List Opened) (r : HasRun old.sealed.items old.tail new front run back) where
  all_joined : are_joined 1 (front ++ (run ++ back)) ≡ true
  all_joined = subst (λ (l : List Opened). are_joined 1 l ≡ true) r.are old.joined

  pub front_joined : are_joined 1 front ≡ true
  front_joined = (joined_split 1 front (run ++ back) all_joined).0

  run_and_back : (are_joined (end_of 1 front) run ≡ true) × (are_joined (end_of (end_of 1 front) run) back ≡ true)
  run_and_back = joined_split (end_of 1 front) run back (joined_split 1 front (run ++ back) all_joined).1

  pub run_joined : are_joined new.id.base run ≡ true
  run_joined = subst (λ (k : ℕ). are_joined k run ≡ true) (sym r.from) run_and_back.0

  run_end : end_of (end_of 1 front) run ≡ new.part.last + 1
  run_end = ap (λ (k : ℕ). end_of k run) (sym r.from) ∙ sym r.to

  pub back_joined : are_joined (new.part.last + 1) back ≡ true
  back_joined = subst (λ (k : ℕ). are_joined k back ≡ true) run_end run_and_back.1

  pub some : 0 < length run
  some = by run r.to
    where
      by : (l : List Opened) → new.part.last + 1 ≡ end_of new.id.base l → 0 < length l
      by [] is = absurd (omega (arith, is, r.filled))
      by (x ∷ l) is = omega arith

  pub joined_now : are_joined 1 (front ++ new ∷ back) ≡ true
  joined_now = joined_both 1 front (new ∷ back) front_joined (joined_cons (end_of 1 front) new back r.from (omega (arith, r.from, r.filled)) back_joined)

  pub end_now : end_of 1 (front ++ new ∷ back) ≡ end_of 1 old.sealed.items
  end_now =
      end_append 1 front (new ∷ back)
      ∙ ap (λ (k : ℕ). end_of k back) (sym run_end)
      ∙ sym (end_append (end_of 1 front) run back)
      ∙ sym (end_append 1 front (run ++ back))
      ∙ ap (end_of 1) (sym r.are)

  pub last_now : last_index_of old.tail (front ++ new ∷ back) ≡ last_index_of old.tail old.sealed.items
  last_now = by old.tail
    where
      same : last_of_files (front ++ new ∷ back) ≡ last_of_files old.sealed.items
      same = omega (arith, end_now, end_is_last (front ++ new ∷ back), end_is_last old.sealed.items)

      by : (o : Option Tail) → last_index_of o (front ++ new ∷ back) ≡ last_index_of o old.sealed.items
      by None = same
      by (Some tail) = refl

  pub full_now : has_tail_or_full old.tail (front ++ new ∷ back) ≡ true
  full_now = by old.tail refl
    where
      without : (b : List Opened) → last_is_full (front ++ (run ++ b)) ≡ true → last_is_full (front ++ new ∷ b) ≡ true
      without [] full = full_append front new [] ∙ ap (λ (t : Bool). t || nat_le new.part.descriptor.size (length new.part.offsets.items)) r.rewritten
      without (y ∷ b) full =
          full_append front new (y ∷ b)
          ∙ sym (full_append (front ++ run) y b)
          ∙ ap last_is_full (append_assoc front run (y ∷ b))
          ∙ full

      by : (o : Option Tail) → old.tail ≡ o → has_tail_or_full old.tail (front ++ new ∷ back) ≡ true
      by None is =
          ap (λ (o : Option Tail). has_tail_or_full o (front ++ new ∷ back)) is
          ∙ without back (ap last_is_full (sym r.are) ∙ sym (ap (λ (o : Option Tail). has_tail_or_full o old.sealed.items) is) ∙ old.full)
      by (Some tail) is = ap (λ (o : Option Tail). has_tail_or_full o (front ++ new ∷ back)) is

  -- ---- where the run lies

  -- it begins where the first file lies that reaches the new one's base
  pub from_is : (n : ℕ) → IsFirstReaching new.id.base old.sealed.items n → n ≡ length front
  from_is n first = by run r.are (subst (λ (k : ℕ). are_joined k run ≡ true) refl run_joined) some
    where
      by : (l : List Opened) → old.sealed.items ≡ front ++ (l ++ back) → are_joined new.id.base l ≡ true → 0 < length l → n ≡ length front
      by [] is joined none = absurd (omega (arith, none))
      by (x ∷ l) is joined more = reaching_is front x (l ++ back) new.id.base n
          (λ k d lt. omega (arith, ends_before 1 front front_joined k d lt, r.from))
          (let j = joined_first new.id.base x l joined in omega (arith, j.filled))
          (subst (λ (l : List Opened). IsFirstReaching new.id.base l n) is first)

  -- and ends with the first one that reaches its last index
  pub to_is : (n : ℕ) → IsFirstReaching new.part.last old.sealed.items n → n + 1 ≡ length (front ++ run)
  to_is n first =
      let e = ends run some in
      let all : front ++ run ≡ (front ++ e.0) ++ e.1 ∷ [] = ap (λ (l : List Opened). front ++ l) e.2 ∙ sym (append_assoc front e.0 (e.1 ∷ [])) in
      let joined : are_joined 1 ((front ++ e.0) ++ e.1 ∷ []) ≡ true = subst (λ (l : List Opened). are_joined 1 l ≡ true) all (joined_both 1 front run front_joined run_and_back.0) in
      let s = joined_split 1 (front ++ e.0) (e.1 ∷ []) joined in
      let j = joined_first (end_of 1 (front ++ e.0)) e.1 [] s.1 in
      let last : e.1.part.last ≡ new.part.last = omega (arith, sym (end_more new.id.base e.0 e.1) ∙ ap (end_of new.id.base) (sym e.2) ∙ sym r.to) in
      let items : old.sealed.items ≡ (front ++ e.0) ++ e.1 ∷ back =
      r.are ∙ sym (append_assoc front run back) ∙ ap (λ (l : List Opened). l ++ back) all ∙ append_assoc (front ++ e.0) (e.1 ∷ []) back in
      let at = reaching_is (front ++ e.0) e.1 back new.part.last n
      (λ k d lt. omega (arith, ends_before 1 (front ++ e.0) s.0 k d lt, j.from, j.filled, last))
      (omega (arith, last))
      (subst (λ (l : List Opened). IsFirstReaching new.part.last l n) items first) in
      omega (arith, at, ap length all, length-append (front ++ e.0) (e.1 ∷ []))

  pub run_at : (from to : ℕ) → from ≡ length front → to ≡ length (front ++ run) → slice_range old.sealed.items from to ≡ run
  run_at from to at_from at_to =
      ap (λ (l : List Opened). slice_range l from to) r.are
      ∙ ap (take (to - from)) (drop_at front (run ++ back) from (sym at_from))
      ∙ take_at run back (to - from) (omega (arith, at_from, at_to, length-append front run))

  pub exchanged : (from to : ℕ) → length front ≡ from → length (front ++ run) ≡ to → remove_range (set old.sealed.items from new) (from + 1) to ≡ front ++ new ∷ back
  exchanged from to at_from at_to = by run r.are at_to some
    where
      by : (l : List Opened) → old.sealed.items ≡ front ++ (l ++ back) → length (front ++ l) ≡ to → 0 < length l → remove_range (set old.sealed.items from new) (from + 1) to ≡ front ++ new ∷ back
      by [] is at none = absurd (omega (arith, none))
      by (x ∷ l) is at more =
          let placed : set old.sealed.items from new ≡ front ++ new ∷ (l ++ back) = (λ i. set (is i) (sym at_from i) new) ∙ set-append_seam front x (l ++ back) new in
          let first : take (from + 1) (front ++ new ∷ (l ++ back)) ≡ front ++ new ∷ [] =
          ap (take (from + 1)) (sym (append_assoc front (new ∷ []) (l ++ back))) ∙ take_at (front ++ new ∷ []) (l ++ back) (from + 1) (omega (arith, length-append front (new ∷ []), at_from)) in
          let rest : drop to (front ++ new ∷ (l ++ back)) ≡ back =
          ap (drop to) (sym (append_assoc front (new ∷ l) back)) ∙ drop_at (front ++ new ∷ l) back to (omega (arith, length-append front (new ∷ l), length-append front (x ∷ l), at)) in
          ap (λ (l : List Opened). remove_range l (from + 1) to) placed
          ∙ (λ i. first i ++ rest i)
          ∙ append_assoc front (new ∷ []) back

  -- the files that are removed
  pub slice_is : (files : List Opened) (from n : ℕ) → files ≡ old.sealed.items → from ≡ length front → n + 1 ≡ length (front ++ run) → slice_range files from (n + 1) ≡ run
  slice_is files from n is at_from at_to = ap (λ (l : List Opened). slice_range l from (n + 1)) is ∙ run_at from (n + 1) at_from at_to

  pub run_within : length (front ++ run) ≤ length old.sealed.items
  run_within = omega (arith, ap length r.are, length-append front (run ++ back), length-append run back, length-append front run)
