-- The laws of the parts of a folder.
use Rattle.std.proofs.Common.{◌≡◌, ◌⊎◌, inl, inr, ⊎_elim, ℕ, ◌<◌, Bool, true, false, List, ◌∷◌, ◌++◌, Option, Some, None, refl, sym, ap, subst, ◌∙◌, arith, Contains, if◌then◌else◌}
use Rattle.std.proofs.lemmas.List.Elements.{Contains-append_left, Contains-append_right, Contains-append_cases}
use Rattle.std.proofs.lemmas.Bool.{cases_Bool, cases_lt}
use Rattle.disk_model.specs.declared.file_id.FileId.{FileId}
use Rattle.disk_model.specs.Image.{Image, IsBelow, place}
use Rattle.segment_files.specs.Files.{is_open, open_bytes, opened}
use Rattle.segment_files.specs.Parse.{Part, Closed, Whole, Damaged}
use Rattle.segment_files.specs.Folder.{Folder, found, folder}
use Rattle.segment_files.specs.Folder.{span, AreParts, HasLast, IsLastFilled, LiesIn, IsChoice, IsPart, IsUntiled, IsUnended, IsFault, Tiles}
use Rattle.segment_set.specs.ChoiceLaws.{IsSuperseded, Replaces}
use Rattle.segment_set.proofs.Appended.{parse_shut}
use Rattle.segment_set.proofs.Filled.{ended_replaced, one_filled}
use Rattle.segment_set.proofs.Images.{one_of, here}
use Rattle.segment_set.proofs.Lying.{further, there}
use Rattle.segment_set.proofs.Tiling.{from_next, to_last, apart, put_in, same_last, same_parts, next_begins}

-- a file is what it is without its closed forms
pub found_opened : (id : FileId) (o : Option (List ℕ)) → found id (open_bytes o) ≡ found id o
found_opened id None = refl
found_opened id (Some b) = ⊎_elim (λ is. opens is) (λ is. shuts is) (cases_Bool (is_open b))
  where
    opens : is_open b ≡ true → found id (open_bytes (Some b)) ≡ found id (Some b)
    opens is = ap (λ (t : Bool). found id (if t then Some b else None)) is

    shuts : is_open b ≡ false → found id (open_bytes (Some b)) ≡ found id (Some b)
    shuts is = ap (λ (t : Bool). found id (if t then Some b else None)) is ∙ sym (parse_shut id b is)

pub folder_opened : (name : List ℕ) (c : Image) → folder name (opened c) ≡ folder name c
folder_opened name c = λ i id. found_opened id (c (place name id)) i

pub same_folder : (name : List ℕ) (c d : Image) → opened c ≡ opened d → folder name c ≡ folder name d
same_folder name c d is = sym (folder_opened name c) ∙ ap (folder name) is ∙ folder_opened name d

-- ---- THE PARTS

pub top_part : (files : Folder) (parts : List Part) (last : ℕ) → IsChoice files parts → Tiles 1 parts last → (p : Part) → Contains parts p → IsPart files p
top_part files parts last choice tile p has = record {
  whole = choice.stand p has;
  top = λ id q whole lies. ⊎_elim
      (λ too. apart 1 parts last p q tile has too lies)
      (λ up. apart 1 parts last p up.0 tile has up.1 (further (span p) (span q) (span up.0) lies up.2))
      (choice.cover id q whole);
}

pub is_part : (files : Folder) (parts : List Part) (last : ℕ) → AreParts files parts last → (p : Part) → Contains parts p → IsPart files p
is_part files parts last are = top_part files parts last are.choice are.tile

pub part_is : (files : Folder) (parts : List Part) → IsChoice files parts → (p : Part) → IsPart files p → Contains parts p
part_is files parts choice p part = ⊎_elim (λ has. has) (λ up. absurd (part.top up.0.id up.0 (choice.stand up.0 up.1) up.2)) (choice.cover p.id p part.whole)

pub one_choice : (files : Folder) (parts others : List Part) (last end : ℕ) → IsChoice files parts → Tiles 1 parts last → IsChoice files others → Tiles 1 others end → parts ≡ others
one_choice files parts others last end a tile_a b tile_b = same_parts 1 parts others last end tile_a tile_b
    (λ p has. part_is files others b p (top_part files parts last a tile_a p has))
    (λ p has. part_is files parts a p (top_part files others end b tile_b p has))

pub one_list : (files : Folder) (parts others : List Part) (last end : ℕ) → AreParts files parts last → AreParts files others end → (parts ≡ others) × (last ≡ end)
one_list files parts others last end a b =
    let same = one_choice files parts others last end a.choice a.tile b.choice b.tile in
    (same, same_last 1 others last end (subst (λ (l : List Part). Tiles 1 l last) same a.tile) b.tile)

-- ---- THE FAULT

no_untiled : (files : Folder) (parts : List Part) (last : ℕ) → IsChoice files parts → Tiles 1 parts last → (id : FileId) → IsUntiled files id → ⊥
no_untiled files parts last choice tile id u =
    u.untiled (next_begins 1 parts u.earlier u.part last u.last tile u.tile
    (λ p has. let is = (u.are p).0 has in (part_is files parts choice p is.0, subst (λ (i : FileId). IsBelow p.id i) (sym u.id_is) is.1))
    (part_is files parts choice u.part u.is_part)
    (λ p has below. (u.are p).1 (top_part files parts last choice tile p has, subst (λ (i : FileId). IsBelow p.id i) u.id_is below)))

pub no_fault : (files : Folder) (parts : List Part) (last : ℕ) → AreParts files parts last → (id : FileId) (at : ℕ) → IsFault files id at → ⊥
no_fault files parts last are id at (inl damaged) = are.choice.undamaged id at damaged.damaged
no_fault files parts last are id at (inr (inl fault)) = no_untiled files parts last are.choice are.tile id fault.0
no_fault files parts last are id at (inr (inr fault)) =
    let u = fault.0 in
    let same = one_choice files u.parts parts u.last last u.choice u.tile are.choice are.tile in
    u.unended (are.ended u.part (subst (λ (l : List Part). IsLastFilled l u.part) same u.last_filled))

in_order : (a b : FileId) → IsBelow a b ⊎ (IsBelow b a ⊎ (a ≡ b))
in_order a b = ⊎_elim
    (λ less. inl (inl less))
    (λ more. ⊎_elim
    (λ greater. inr (inl (inl greater)))
    (λ least. let base : a.base ≡ b.base = omega (arith, more, least) in
    ⊎_elim
    (λ older. inl (inr (base, older)))
    (λ newer. ⊎_elim
    (λ younger. inr (inl (inr (sym base, younger))))
    (λ last. let generation : a.generation ≡ b.generation = omega (arith, newer, last) in inr (inr (λ i. record { base = base i; generation = generation i })))
    (cases_lt b.generation a.generation))
    (cases_lt a.generation b.generation))
    (cases_lt b.base a.base))
    (cases_lt a.base b.base)

-- a part that is untiled is no part below another one that is
not_below : (files : Folder) (id other : FileId) → IsUntiled files id → IsUntiled files other → IsBelow id other → ⊥
not_below files id other u w below = u.untiled (next_begins 1 w.earlier u.earlier u.part w.last u.last w.tile u.tile
    (λ p has. let is = (u.are p).0 has in ((w.are p).1 (is.0, through p.id id other is.1 below), subst (λ (i : FileId). IsBelow p.id i) (sym u.id_is) is.1))
    ((w.are u.part).1 (u.is_part, subst (λ (i : FileId). IsBelow i other) (sym u.id_is) below))
    (λ p has low. (u.are p).1 (((w.are p).0 has).0, subst (λ (i : FileId). IsBelow p.id i) u.id_is low)))
  where
    through : (a b c : FileId) → IsBelow a b → IsBelow b c → IsBelow a c
    through a b c (inl x) (inl y) = inl (omega (arith, x, y))
    through a b c (inl x) (inr y) = inl (omega (arith, x, y.0))
    through a b c (inr x) (inl y) = inl (omega (arith, x.0, y))
    through a b c (inr x) (inr y) = inr (x.0 ∙ y.0, omega (arith, x.1, y.1))

-- one file lacks its last entry
one_unended : (files : Folder) (id other : FileId) → IsUnended files id → IsUnended files other → id ≡ other
one_unended files id other a b =
    let same = one_choice files a.parts b.parts a.last b.last a.choice a.tile b.choice b.tile in
    sym a.id_is ∙ ap (λ (p : Part). p.id) (one_filled b.parts a.part b.part (subst (λ (l : List Part). IsLastFilled l a.part) same a.last_filled) b.last_filled) ∙ b.id_is

pub one_fault : (files : Folder) (id other : FileId) (at place : ℕ) → IsFault files id at → IsFault files other place → (id ≡ other) × (at ≡ place)
one_fault files id other at other_at (inl a) (inl b) = ⊎_elim
    (λ below. absurd (b.first id at below a.damaged))
    (λ rest. ⊎_elim (λ above. absurd (a.first other other_at above b.damaged)) (λ same. (same, cc (ap files same, a.damaged, b.damaged))) rest)
    (in_order id other)
one_fault files id other at other_at (inl a) (inr (inl b)) = absurd (b.0.undamaged id at a.damaged)
one_fault files id other at other_at (inl a) (inr (inr b)) = absurd (b.0.choice.undamaged id at a.damaged)
one_fault files id other at other_at (inr (inl a)) (inl b) = absurd (a.0.undamaged other other_at b.damaged)
one_fault files id other at other_at (inr (inr a)) (inl b) = absurd (a.0.choice.undamaged other other_at b.damaged)
one_fault files id other at other_at (inr (inl a)) (inr (inl b)) = ⊎_elim
    (λ below. absurd (not_below files id other a.0 b.0 below))
    (λ rest. ⊎_elim (λ above. absurd (not_below files other id b.0 a.0 above)) (λ same. (same, a.1 ∙ sym b.1)) rest)
    (in_order id other)
one_fault files id other at other_at (inr (inl a)) (inr (inr b)) = absurd (no_untiled files b.0.parts b.0.last b.0.choice b.0.tile id a.0)
one_fault files id other at other_at (inr (inr a)) (inr (inl b)) = absurd (no_untiled files a.0.parts a.0.last a.0.choice a.0.tile other b.0)
one_fault files id other at other_at (inr (inr a)) (inr (inr b)) = (one_unended files id other a.0 b.0, a.1 ∙ sym b.1)

-- ---- FILES THAT COUNT FOR NOTHING

pub beside : (before after : Folder) (parts : List Part) (last : ℕ) → AreParts before parts last
    → ((id : FileId) → (after id ≡ before id) ⊎ (IsSuperseded before parts id × IsSuperseded after parts id)) → AreParts after parts last
beside before after parts last are differ = record {
  choice = record {
    stand = λ p has. ⊎_elim
        (λ same. same ∙ are.choice.stand p has)
        (λ gone. ⊎_elim
        (λ none. absurd (cc (none, are.choice.stand p has)))
        (λ lies. let is : lies.0 ≡ p = cc (lies.2, are.choice.stand p has) in
        absurd (apart 1 parts last p lies.1 are.tile has lies.3 (subst (λ (r : Part). LiesIn (span r) (span lies.1)) is lies.4)))
        gone.0)
        (differ p.id);
    cover = λ id q whole. ⊎_elim
        (λ same. are.choice.cover id q (sym same ∙ whole))
        (λ gone. ⊎_elim
        (λ none. absurd (cc (none, whole)))
        (λ lies. let is : lies.0 ≡ q = cc (lies.2, whole) in inr (lies.1, lies.3, subst (λ (r : Part). LiesIn (span r) (span lies.1)) is lies.4))
        gone.1)
        (differ id);
    undamaged = λ id at bad. ⊎_elim
        (λ same. are.choice.undamaged id at (sym same ∙ bad))
        (λ gone. ⊎_elim (λ none. absurd (cc (none, bad))) (λ lies. absurd (cc (lies.2, bad))) gone.1)
        (differ id);
  };
  tile = are.tile;
  ended = are.ended;
}

-- ---- A PART IN PLACE OF OTHERS

-- each of the run lies in the new part
pub in_new : (new : Part) (run : List Part) → Replaces new run → (q : Part) → Contains run q → LiesIn (span q) (span new)
in_new new run replaces q has = record {
  newer = (replaces.older q has).0;
  base = from_next new.id.base run new.last q replaces.range has;
  last = to_last new.id.base run new.last q replaces.range has;
  touches = inl (omega (arith, (replaces.older q has).1, to_last new.id.base run new.last q replaces.range has));
}

module _ (before after : Folder) (new : Part) (front run back : List Part) (last : ℕ)
    (others : (id : FileId) → (after id ≡ before id) ⊎ (id ≡ new.id))
    (was : before new.id ≡ Closed)
    (is_new : after new.id ≡ Whole new)
    (replaces : Replaces new run)
    (has_last : ((q : Part) → Contains back q → q.last < q.id.base) → HasLast new)
    (are : AreParts before (front ++ run ++ back) last) where
  -- where a part of before is
  sides : (p : Part) → Contains (front ++ run ++ back) p → Contains (front ++ new ∷ back) p ⊎ Contains run p
  sides p has = ⊎_elim
      (λ left. ⊎_elim (λ f. inl (Contains-append_left front (new ∷ back) p f)) (λ r. inr r) (Contains-append_cases front run p left))
      (λ b. inl (Contains-append_right front (new ∷ back) p (there new back p b)))
      (Contains-append_cases (front ++ run) back p has)

  is_in : Contains (front ++ new ∷ back) new
  is_in = Contains-append_right front (new ∷ back) new (here new back)

  was_there : (p : Part) → Contains (front ++ new ∷ back) p → Contains (front ++ run ++ back) p ⊎ (new ≡ p)
  was_there p has = ⊎_elim
      (λ f. inl (Contains-append_left (front ++ run) back p (Contains-append_left front run p f)))
      (λ rest. ⊎_elim (λ is. inr is) (λ b. inl (Contains-append_right (front ++ run) back p b)) (one_of new back p rest))
      (Contains-append_cases front (new ∷ back) p has)

  chosen : IsChoice after (front ++ new ∷ back)
  chosen = record {
    stand = λ p has. ⊎_elim
        (λ old. let stood = are.choice.stand p old in
        ⊎_elim (λ same. same ∙ stood) (λ at. let none : before p.id ≡ Closed = ap before at ∙ was in absurd (cc (stood, none))) (others p.id))
        (λ is. subst (λ (r : Part). after r.id ≡ Whole r) is is_new)
        (was_there p has);
    cover = λ id q whole. ⊎_elim
        (λ same. ⊎_elim
        (λ has. ⊎_elim (λ kept. inl kept) (λ r. inr (new, is_in, in_new new run replaces q r)) (sides q has))
        (λ lies. ⊎_elim (λ kept. inr (lies.0, kept, lies.2)) (λ r. inr (new, is_in, further (span q) (span lies.0) (span new) lies.2 (in_new new run replaces lies.0 r))) (sides lies.0 lies.1))
        (are.choice.cover id q (sym same ∙ whole)))
        (λ at. let is : new ≡ q = cc (ap after at, is_new, whole) in inl (subst (λ (r : Part). Contains (front ++ new ∷ back) r) is is_in))
        (others id);
    undamaged = λ id at bad. ⊎_elim
        (λ same. are.choice.undamaged id at (sym same ∙ bad))
        (λ here. let is : Whole new ≡ Damaged at = sym is_new ∙ sym (ap after here) ∙ bad in absurd (cc))
        (others id);
  }

  pub replaced : AreParts after (front ++ new ∷ back) last
  replaced = record { choice = chosen; tile = put_in 1 front run back new last replaces are.tile; ended = ended_replaced new front run back replaces has_last are.ended }
