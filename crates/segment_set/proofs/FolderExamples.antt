-- Hand-made folders, with the parts that they have or the file that they are damaged in.
use Rattle.std.proofs.Common.{◌≡◌, ◌≢◌, ◌⊎◌, inl, inr, ⊎_elim, ℕ, ◌+◌, ◌≤◌, ◌<◌, Bool, true, false, not, ◌&&◌, ◌||◌, if◌then◌else◌, cond, nat_eq, nat_lt, nat_le, List, [], ◌∷◌, refl, sym, ap, subst, ◌∙◌, arith, Contains}
use Rattle.std.specs.List.{filter}
use Rattle.std.proofs.lemmas.Bool.{cases_Bool}
use Rattle.std.proofs.lemmas.Bool.Decides.{nat_tests}
use Rattle.disk_model.specs.declared.file_id.FileId.{FileId}
use Rattle.disk_model.specs.Image.{IsBelow}
use Rattle.segment_files.specs.Parse.{Part, Closed, Whole, Damaged}
use Rattle.segment_files.specs.Folder.{Folder, Tiles}
use Rattle.segment_files.specs.Folder.{span, AreEnded, AreParts, HasLast, IsChoice, IsLastFilled, LiesIn, IsPart, IsUnended, IsUntiled}
use Rattle.segment_set.proofs.Filled.{one_filled, within}
use Rattle.segment_set.proofs.Images.{nothing, one_of, only_one, here}
use Rattle.segment_set.proofs.Lying.{there}

-- a file with this base and generation, and its last index
abbrev file : ℕ → ℕ → ℕ → Part
file base generation last = record { id = record { base = base; generation = generation }; rewritten = false; last = last; cut = 0; floor = 0; size = 4; entries = []; gate = 64 }

abbrev same_id : FileId → FileId → Bool
same_id a b = nat_eq a.base b.base && nat_eq a.generation b.generation

-- the folder of these files
abbrev folder_of : List Part → Folder
folder_of [] id = Closed
folder_of (p ∷ parts) id = if same_id p.id id then Whole p else folder_of parts id

abbrev Stand : List Part → List Part → Type 0
Stand all [] = Unit {0}
Stand all (p ∷ parts) = (folder_of all p.id ≡ Whole p) × Stand all parts

-- ---- what lies in what, computed

abbrev lies : Part → Part → Bool
lies a b = nat_lt a.id.generation b.id.generation && (nat_le b.id.base a.id.base && (nat_le a.last b.last && (nat_le a.id.base b.last || nat_eq a.id.base b.id.base)))

abbrev lies_in_one : List Part → Part → Bool
lies_in_one [] a = false
lies_in_one (b ∷ parts) a = if lies a b then true else lies_in_one parts a

abbrev tops : List Part → List Part
tops all = filter (λ p. not (lies_in_one all p)) all

abbrev below : FileId → Part → Bool
below id p = nat_lt p.id.base id.base || (nat_eq p.id.base id.base && nat_lt p.id.generation id.generation)

touches : (a b : Part) → (nat_le a.id.base b.last || nat_eq a.id.base b.id.base) ≡ true → (a.id.base ≤ b.last) ⊎ (a.id.base ≡ b.id.base)
touches a b is = ⊎_elim
    (λ yes. inl (grind (arith, nat_tests)))
    (λ no. inr (grind (arith, nat_tests)))
    (cases_Bool (nat_le a.id.base b.last))

lies_true : (a b : Part) → lies a b ≡ true → LiesIn (span a) (span b)
lies_true a b is = record {
  newer = grind (arith, nat_tests);
  base = grind (arith, nat_tests);
  last = grind (arith, nat_tests);
  touches = touches a b (grind (arith, nat_tests));
}

lies_when : (a b : Part) → LiesIn (span a) (span b) → lies a b ≡ true
lies_when a b is =
    let newer : a.id.generation < b.id.generation = is.newer in
    let base : b.id.base ≤ a.id.base = is.base in
    let last : a.last ≤ b.last = is.last in
    ⊎_elim
    (λ within. let w : a.id.base ≤ b.last = within in grind (arith, nat_tests))
    (λ at. let w : a.id.base ≡ b.id.base = at in grind (arith, nat_tests))
    is.touches

one_true : (parts : List Part) (a : Part) → lies_in_one parts a ≡ true → (b : Part) × Contains parts b × LiesIn (span a) (span b)
one_true [] a is = absurd (cc)
one_true (b ∷ parts) a is = ⊎_elim
    (λ yes. (b, here b parts, lies_true a b yes))
    (λ no. let rest = one_true parts a (sym (ap (λ (t : Bool). if t then true else lies_in_one parts a) no) ∙ is) in (rest.0, there b parts rest.0 rest.1, rest.2))
    (cases_Bool (lies a b))

one_when : (parts : List Part) (a b : Part) → Contains parts b → LiesIn (span a) (span b) → lies_in_one parts a ≡ true
one_when [] a b has is = absurd (nothing b has)
one_when (c ∷ parts) a b has is = ⊎_elim
    (λ yes. ap (λ (t : Bool). if t then true else lies_in_one parts a) yes)
    (λ no. ap (λ (t : Bool). if t then true else lies_in_one parts a) no ∙ ⊎_elim
    (λ same. absurd (cc (no, ap (lies a) same, lies_when a b is)))
    (λ later. one_when parts a b later is)
    (one_of c parts b has))
    (cases_Bool (lies a c))

below_true : (id : FileId) (p : Part) → below id p ≡ true → IsBelow p.id id
below_true id p is = ⊎_elim
    (λ yes. inl (grind (arith, nat_tests)))
    (λ no. inr (grind (arith, nat_tests), grind (arith, nat_tests)))
    (cases_Bool (nat_lt p.id.base id.base))

below_when : (id : FileId) (p : Part) → IsBelow p.id id → below id p ≡ true
below_when id p (inl less) = grind (arith, nat_tests)
below_when id p (inr same) = let base : p.id.base ≡ id.base = same.0 in let older : p.id.generation < id.generation = same.1 in grind (arith, nat_tests)

kept_from : (test : Part → Bool) (parts : List Part) (p : Part) → Contains (filter test parts) p → Contains parts p × (test p ≡ true)
kept_from test [] p has = absurd (nothing p has)
kept_from test (q ∷ parts) p has = ⊎_elim
    (λ yes. ⊎_elim
    (λ is. (subst (Contains (q ∷ parts)) is (here q parts), ap test (sym is) ∙ yes))
    (λ later. let rest = kept_from test parts p later in (there q parts p rest.0, rest.1))
    (one_of q (filter test parts) p (subst (λ (t : Bool). Contains (cond t (q ∷ filter test parts) (filter test parts)) p) yes has)))
    (λ no. let rest = kept_from test parts p (subst (λ (t : Bool). Contains (cond t (q ∷ filter test parts) (filter test parts)) p) no has) in (there q parts p rest.0, rest.1))
    (cases_Bool (test q))

kept_when : (test : Part → Bool) (parts : List Part) (p : Part) → Contains parts p → test p ≡ true → Contains (filter test parts) p
kept_when test [] p has is = absurd (nothing p has)
kept_when test (q ∷ parts) p has is = ⊎_elim
    (λ yes. subst (λ (t : Bool). Contains (cond t (q ∷ filter test parts) (filter test parts)) p) (sym yes)
    (⊎_elim
    (λ same. subst (Contains (q ∷ filter test parts)) same (here q (filter test parts)))
    (λ later. there q (filter test parts) p (kept_when test parts p later is))
    (one_of q parts p has)))
    (λ no. subst (λ (t : Bool). Contains (cond t (q ∷ filter test parts) (filter test parts)) p) (sym no)
    (⊎_elim (λ same. absurd (cc (no, ap test same, is))) (λ later. kept_when test parts p later is) (one_of q parts p has)))
    (cases_Bool (test q))

-- ---- what the folder of some files has

stands_at : (all parts : List Part) → Stand all parts → (p : Part) → Contains parts p → folder_of all p.id ≡ Whole p
stands_at all [] stand p has = absurd (nothing p has)
stands_at all (q ∷ parts) stand p has = ⊎_elim
    (λ is. subst (λ (r : Part). folder_of all r.id ≡ Whole r) is stand.0)
    (λ later. stands_at all parts stand.1 p later)
    (one_of q parts p has)

found_in : (all : List Part) (id : FileId) (q : Part) → folder_of all id ≡ Whole q → Contains all q
found_in [] id q whole = absurd (cc)
found_in (p ∷ parts) id q whole = ⊎_elim
    (λ yes. let is : p ≡ q = cc in subst (Contains (p ∷ parts)) is (here p parts))
    (λ no. there p parts q (found_in parts id q (sym (ap (λ (t : Bool). if t then Whole p else folder_of parts id) no) ∙ whole)))
    (cases_Bool (same_id p.id id))

none_damaged : (all : List Part) (id : FileId) (at : ℕ) → folder_of all id ≡ Damaged at → ⊥
none_damaged [] id at bad = absurd (cc)
none_damaged (p ∷ parts) id at bad = ⊎_elim
    (λ yes. absurd (cc (yes, bad)))
    (λ no. none_damaged parts id at (sym (ap (λ (t : Bool). if t then Whole p else folder_of parts id) no) ∙ bad))
    (cases_Bool (same_id p.id id))

-- each of these is a part, or lies in one
abbrev EachCovered : List Part → List Part → Type 0
EachCovered all [] = Unit {0}
EachCovered all (p ∷ parts) = ((not (lies_in_one all p) || lies_in_one (tops all) p) ≡ true) × EachCovered all parts

module _ (all : List Part) (stand : Stand all all) where
  part_when : (p : Part) → Contains (tops all) p → IsPart (folder_of all) p
  part_when p has =
      let is = kept_from (λ q. not (lies_in_one all q)) all p has in
      record {
        whole = stands_at all all stand p is.0;
        top = λ id q whole up. let over = one_when all p q (found_in all id q whole) up in absurd (cc (is.1, ap not over));
      }

  part_from : (p : Part) → IsPart (folder_of all) p → Contains (tops all) p
  part_from p part = kept_when (λ q. not (lies_in_one all q)) all p (found_in all p.id p part.whole) (⊎_elim
      (λ over. let up = one_true all p over in absurd (part.top up.0.id up.0 (stands_at all all stand up.0 up.1) up.2))
      (λ none. ap not none)
      (cases_Bool (lies_in_one all p)))

  choice_of : EachCovered all all → IsChoice (folder_of all) (tops all)
  choice_of covered = record {
    stand = λ p has. (part_when p has).whole;
    cover = λ id q whole. covered_at all covered q (found_in all id q whole) (found_in all id q whole);
    undamaged = none_damaged all;
  }
    where
      covered_at : (parts : List Part) → EachCovered all parts → (q : Part) → Contains parts q → Contains all q → Contains (tops all) q ⊎ ((p : Part) × Contains (tops all) p × LiesIn (span q) (span p))
      covered_at [] each q has among = absurd (nothing q has)
      covered_at (p ∷ parts) each q has among = ⊎_elim
          (λ is. ⊎_elim
          (λ over. inr (one_true (tops all) q (let w : (not (lies_in_one all q) || lies_in_one (tops all) q) ≡ true = subst (λ (r : Part). (not (lies_in_one all r) || lies_in_one (tops all) r) ≡ true) is each.0 in sym (ap (λ (t : Bool). not t || lies_in_one (tops all) q) over) ∙ w)))
          (λ none. inl (kept_when (λ r. not (lies_in_one all r)) all q among (ap not none)))
          (cases_Bool (lies_in_one all q)))
          (λ later. covered_at parts each.1 q later among)
          (one_of p parts q has)

  parts_of : (last : ℕ) → EachCovered all all → Tiles 1 (tops all) last → AreEnded (tops all) → AreParts (folder_of all) (tops all) last
  parts_of last covered tile ended = record { choice = choice_of covered; tile = tile; ended = ended }

  unended_of : (last : ℕ) (one : Part) → EachCovered all all → Tiles 1 (tops all) last → IsLastFilled (tops all) one → (HasLast one → ⊥) → IsUnended (folder_of all) one.id
  unended_of last one covered tile filled lacks = record { parts = tops all; choice = choice_of covered; last = last; tile = tile; part = one; last_filled = filled; id_is = refl; unended = lacks }

  untiled_of : (one : Part) (last : ℕ) → Contains (tops all) one → Tiles 1 (filter (below one.id) (tops all)) last → one.id.base ≢ last + 1 → IsUntiled (folder_of all) one.id
  untiled_of one last has tile apart = record {
    undamaged = none_damaged all;
    earlier = filter (below one.id) (tops all);
    are = λ p. (
      λ in_it. let is = kept_from (below one.id) (tops all) p in_it in (part_when p is.0, below_true one.id p is.1),
      λ is. kept_when (below one.id) (tops all) p (part_from p is.0) (below_when one.id p is.1),
    );
    last = last;
    tile = tile;
    part = one;
    is_part = part_when one has;
    id_is = refl;
    untiled = apart;
  }

-- what no compaction wrote has each entry
abbrev Plain : List Part → Type 0
Plain [] = Unit {0}
Plain (p ∷ parts) = (p.rewritten ≡ false) × Plain parts

plain_at : (parts : List Part) → Plain parts → (p : Part) → Contains parts p → p.rewritten ≡ false
plain_at [] plain p has = absurd (nothing p has)
plain_at (q ∷ parts) plain p has = ⊎_elim (λ is. ap (λ (r : Part). r.rewritten) (sym is) ∙ plain.0) (λ later. plain_at parts plain.1 p later) (one_of q parts p has)

plain_ended : (parts : List Part) → Plain parts → AreEnded parts
plain_ended parts plain p last rewritten = absurd (cc (rewritten, plain_at parts plain p (within parts last.front p last.back last.are)))

-- ---- FOLDERS

no_files : AreParts (folder_of []) [] 0
no_files = parts_of [] (tt {0}) 0 (tt {0}) refl (plain_ended [] (tt {0}))

abbrev compacted : List Part
compacted = file 1 1 4 ∷ file 1 3 8 ∷ file 5 2 8 ∷ file 9 4 9 ∷ []

-- older files within a newer one
a_newer_file_stands : AreParts (folder_of compacted) (file 1 3 8 ∷ file 9 4 9 ∷ []) 9
a_newer_file_stands = parts_of compacted (refl, (refl, (refl, (refl, tt {0})))) 9 (refl, (refl, (refl, (refl, tt {0})))) (refl, inl (omega arith), (refl, inl (omega arith), refl)) (plain_ended (file 1 3 8 ∷ file 9 4 9 ∷ []) (refl, (refl, tt {0})))

abbrev rewritten_twice : List Part
rewritten_twice = file 1 1 3 ∷ file 1 2 6 ∷ []

the_same_base_twice : AreParts (folder_of rewritten_twice) (file 1 2 6 ∷ []) 6
the_same_base_twice = parts_of rewritten_twice (refl, (refl, tt {0})) 6 (refl, (refl, tt {0})) (refl, inl (omega arith), refl) (plain_ended (file 1 2 6 ∷ []) (refl, tt {0}))

abbrev with_new_tail : List Part
with_new_tail = file 1 1 4 ∷ file 5 2 4 ∷ []

an_empty_tail_is_a_part : AreParts (folder_of with_new_tail) (file 1 1 4 ∷ file 5 2 4 ∷ []) 4
an_empty_tail_is_a_part = parts_of with_new_tail (refl, (refl, tt {0})) 4 (refl, (refl, tt {0})) (refl, inl (omega arith), (refl, inr (refl, refl), refl)) (plain_ended (file 1 1 4 ∷ file 5 2 4 ∷ []) (refl, (refl, tt {0})))

abbrev over_empty : List Part
over_empty = file 1 1 0 ∷ file 1 2 4 ∷ []

an_empty_file_lies_in_a_newer_one : AreParts (folder_of over_empty) (file 1 2 4 ∷ []) 4
an_empty_file_lies_in_a_newer_one = parts_of over_empty (refl, (refl, tt {0})) 4 (refl, (refl, tt {0})) (refl, inl (omega arith), refl) (plain_ended (file 1 2 4 ∷ []) (refl, tt {0}))

abbrev nested : List Part
nested = file 1 4 9 ∷ file 2 3 8 ∷ file 3 2 7 ∷ []

a_covered_file_of_a_covered_one : AreParts (folder_of nested) (file 1 4 9 ∷ []) 9
a_covered_file_of_a_covered_one = parts_of nested (refl, (refl, (refl, tt {0}))) 9 (refl, (refl, (refl, tt {0}))) (refl, inl (omega arith), refl) (plain_ended (file 1 4 9 ∷ []) (refl, tt {0}))

-- ---- FAULTS

abbrev empty_over_full : List Part
empty_over_full = file 1 1 4 ∷ file 1 2 0 ∷ []

a_newer_empty_file_is_apart : IsUntiled (folder_of empty_over_full) (record { base = 1; generation = 2 })
a_newer_empty_file_is_apart = untiled_of empty_over_full (refl, (refl, tt {0})) (file 1 2 0) 4 (1, omega arith, refl) (refl, inl (omega arith), refl) (λ is. omega (arith, is))

abbrev overlapping : List Part
overlapping = file 1 1 4 ∷ file 3 2 6 ∷ []

files_that_overlap : IsUntiled (folder_of overlapping) (record { base = 3; generation = 2 })
files_that_overlap = untiled_of overlapping (refl, (refl, tt {0})) (file 3 2 6) 4 (1, omega arith, refl) (refl, inl (omega arith), refl) (λ is. omega (arith, is))

abbrev with_gap : List Part
with_gap = file 1 1 4 ∷ file 6 2 8 ∷ file 9 3 9 ∷ []

a_gap_between_files : IsUntiled (folder_of with_gap) (record { base = 6; generation = 2 })
a_gap_between_files = untiled_of with_gap (refl, (refl, (refl, tt {0}))) (file 6 2 8) 4 (1, omega arith, refl) (refl, inl (omega arith), refl) (λ is. omega (arith, is))

abbrev from_two : List Part
from_two = file 2 1 4 ∷ []

a_first_file_that_begins_later : IsUntiled (folder_of from_two) (record { base = 2; generation = 1 })
a_first_file_that_begins_later = untiled_of from_two (refl, tt {0}) (file 2 1 4) 0 (0, omega arith, refl) refl (λ is. omega (arith, is))

-- the last one lies in the first, and what is newer in its midst doesn't
abbrev newer_within : List Part
newer_within = file 1 5 10 ∷ file 3 7 4 ∷ file 5 4 6 ∷ []

a_newer_file_within_an_older_one : IsUntiled (folder_of newer_within) (record { base = 3; generation = 7 })
a_newer_file_within_an_older_one = untiled_of newer_within (refl, (refl, (refl, tt {0}))) (file 3 7 4) 10 (1, omega arith, refl) (refl, inl (omega arith), refl) (λ is. omega (arith, is))

-- ---- THE LAST ENTRY

-- a file that a compaction wrote, without the last entry of its range
abbrev lacking : ℕ → ℕ → ℕ → Part
lacking base generation last = record { id = record { base = base; generation = generation }; rewritten = true; last = last; cut = 0; floor = 0; size = 0; entries = []; gate = 64 }

-- an empty file behind it has no entry either
abbrev lacking_last : List Part
lacking_last = file 1 1 4 ∷ lacking 5 3 8 ∷ file 9 2 8 ∷ []

an_empty_tail_hides_nothing : IsUnended (folder_of lacking_last) (record { base = 5; generation = 3 })
an_empty_tail_hides_nothing = unended_of lacking_last (refl, (refl, (refl, tt {0}))) 8 (lacking 5 3 8) (refl, (refl, (refl, tt {0}))) (refl, inl (omega arith), (refl, inl (omega arith), (refl, inr (refl, refl), refl)))
    (record { front = file 1 1 4 ∷ []; back = file 9 2 8 ∷ []; are = refl; filled = omega arith; empty = λ q has. subst (λ (p : Part). p.last < p.id.base) (only_one (file 9 2 8) q has) (omega arith) })
    (λ has. absurd (cc (has refl)))

-- where the last file has entries another one may lack its own
abbrev lacking_first : List Part
lacking_first = lacking 1 2 4 ∷ file 5 1 6 ∷ []

the_last_file_has_the_last_entry : AreParts (folder_of lacking_first) (lacking 1 2 4 ∷ file 5 1 6 ∷ []) 6
the_last_file_has_the_last_entry = parts_of lacking_first (refl, (refl, tt {0})) 6 (refl, (refl, tt {0})) (refl, inl (omega arith), (refl, inl (omega arith), refl))
    (λ p filled. subst HasLast (one_filled (lacking 1 2 4 ∷ file 5 1 6 ∷ []) (file 5 1 6) p
    (record { front = lacking 1 2 4 ∷ []; back = []; are = refl; filled = omega arith; empty = λ q has. absurd (nothing q has) }) filled) (λ rewritten. absurd (cc rewritten)))
