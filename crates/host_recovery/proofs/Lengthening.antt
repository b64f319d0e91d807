-- A list of parts that gets an entry more: what range they have, which entries they hold, and how they lie.
use Rattle.std.proofs.Common.{◌≡◌, ◌⊎◌, inl, inr, ⊎_elim, ℕ, ◌+◌, ◌≤◌, ◌<◌, ◌&&◌, Bool, true, false, not, max, nat_lt, if◌then◌else◌, List, [], ◌∷◌, ◌++◌, length, map, refl, sym, ap, subst, ◌∙◌, arith, append_assoc, Contains}
use Rattle.std.proofs.lemmas.List.{append-nil, map-append, length-map}
use Rattle.std.proofs.lemmas.List.Elements.{Contains-append_left, Contains-push}
use Rattle.std.proofs.lemmas.Bool.{and_parts, lt-ltb, cases_Bool}
use Rattle.host_types.specs.declared.entry.Entry.{Entry}
use Rattle.segment_files.specs.Parse.{Numbered, Part}
use Rattle.segment_files.specs.Folder.{AreEnded, HasLast, IsLastFilled, Tiles, entries_of}
use Rattle.segment_set.specs.Fits.{cut_of, floor_of}
use Rattle.segment_set.specs.Growth.{begun, gained, has_room, last_in, lengthened, needs_file, new_id, new_tail, with_entries}
use Rattle.segment_set.proofs.Images.{here}
use Rattle.segment_set.proofs.Lying.{same_snoc, there}
use Rattle.segment_set.proofs.PartLists.{begun_without, last_by_last, longer_by_last, needs_by_last}
use Rattle.log_model.specs.cleaning.Layout as lay
use Rattle.log_model.specs.cleaning.Layout.{Layout, PartLayout}
use Rattle.host_recovery.specs.Standing.{part_layout}

-- ---- LISTS by their last part

last_of_list : (p : Part) (ps : List Part) → (front : List Part) × (q : Part) × (p ∷ ps ≡ front ++ q ∷ [])
last_of_list p [] = ([], p, refl)
last_of_list p (r ∷ ps) = let rest = last_of_list r ps in (p ∷ rest.0, rest.1, ap (λ (l : List Part). p ∷ l) rest.2)

-- where no file is needed the last one has room
pub with_room : (ps : List Part) → needs_file ps ≡ false → (front : List Part) × (p : Part) × (ps ≡ front ++ p ∷ []) × (has_room p ≡ true)
with_room [] lacks = absurd (cc lacks)
with_room (p ∷ ps) lacks =
    let l = last_of_list p ps in
    let room : not (has_room l.1) ≡ false = sym (needs_by_last l.0 l.1) ∙ ap needs_file (sym l.2) ∙ lacks in
    (l.0, l.1, l.2, back (has_room l.1) room)
  where
    back : (t : Bool) → not t ≡ false → t ≡ true
    back true is = refl
    back false is = absurd (cc is)

-- ---- RANGES

pub tiles_last : (next : ℕ) (front : List Part) (p : Part) (last : ℕ) → Tiles next (front ++ p ∷ []) last → p.last ≡ last
tiles_last next [] p last tile = omega (arith, tile.2)
tiles_last next (x ∷ front) p last tile = tiles_last (x.last + 1) front p last tile.2

-- the last index, by the last part
pub tiles_last_in : (ps : List Part) (last : ℕ) → Tiles 1 ps last → last_in ps ≡ last
tiles_last_in [] last tile = omega (arith, tile)
tiles_last_in (p ∷ ps) last tile =
    let l = last_of_list p ps in
    ap last_in l.2 ∙ last_by_last l.0 l.1 ∙ tiles_last 1 l.0 l.1 last (subst (λ (m : List Part). Tiles 1 m last) l.2 tile)

some_part : (front : List Part) (p : Part) → front ++ p ∷ [] ≡ [] → ⊥
some_part [] p is = absurd (cc is)
some_part (x ∷ front) p is = absurd (cc is)

-- another last part, with the same base, that isn't empty
pub tiles_longer : (next : ℕ) (front : List Part) (p q : Part) (last : ℕ) → Tiles next (front ++ p ∷ []) last → q.id.base ≡ p.id.base → q.id.base ≤ q.last → Tiles next (front ++ q ∷ []) q.last
tiles_longer next [] p q last tile base full = (base ∙ tile.0, inl full, refl)
tiles_longer next (x ∷ front) p q last tile base full = (
  tile.0,
  ⊎_elim (λ long. inl long) (λ empty. absurd (some_part front p empty.1)) tile.1,
  tiles_longer (x.last + 1) front p q last tile.2 base full,
)

-- the last part isn't past its base by more than one
pub tiles_base : (next : ℕ) (front : List Part) (p : Part) (last : ℕ) → Tiles next (front ++ p ∷ []) last → p.id.base ≤ p.last + 1
tiles_base next [] p last tile = ⊎_elim (λ full. omega (arith, full)) (λ empty. omega (arith, empty.0)) tile.1
tiles_base next (x ∷ front) p last tile = tiles_base (x.last + 1) front p last tile.2

-- an empty part behind those that aren't
tiles_end : (next : ℕ) (ps : List Part) (last : ℕ) (new : Part) → Tiles next ps last → ((p : Part) → Contains ps p → p.id.base ≤ p.last) → new.id.base ≡ last + 1 → new.last ≡ last → Tiles next (ps ++ new ∷ []) last
tiles_end next [] last new tile full base ends = (base ∙ sym tile, inr (omega (arith, base, ends), refl), omega (arith, ends))
tiles_end next (p ∷ ps) last new tile full base ends = (tile.0, inl (full p (here p ps)), tiles_end (p.last + 1) ps last new tile.2 (λ q has. full q (there p ps q has)) base ends)

-- ---- ENTRIES

pub entries_append : (xs ys : List Part) → entries_of (xs ++ ys) ≡ entries_of xs ++ entries_of ys
entries_append [] ys = refl
entries_append (x ∷ xs) ys = ap (λ (l : Numbered). x.entries ++ l) (entries_append xs ys) ∙ sym (append_assoc x.entries (entries_of xs) (entries_of ys))

cut_same : (front : List Part) (p q : Part) → q.cut ≡ p.cut → cut_of (front ++ q ∷ []) ≡ cut_of (front ++ p ∷ [])
cut_same [] p q is = ap (λ (k : ℕ). max k 0) is
cut_same (x ∷ front) p q is = ap (max x.cut) (cut_same front p q is)

floor_same : (front : List Part) (p q : Part) → q.floor ≡ p.floor → floor_of (front ++ q ∷ []) ≡ floor_of (front ++ p ∷ [])
floor_same [] p q is = ap (λ (k : ℕ). max k 0) is
floor_same (x ∷ front) p q is = ap (max x.floor) (floor_same front p q is)

cut_none : (ps : List Part) (new : Part) → new.cut ≡ 0 → cut_of (ps ++ new ∷ []) ≡ cut_of ps
cut_none [] new is = ap (λ (k : ℕ). max k 0) is
cut_none (x ∷ ps) new is = ap (max x.cut) (cut_none ps new is)

floor_none : (ps : List Part) (new : Part) → new.floor ≡ 0 → floor_of (ps ++ new ∷ []) ≡ floor_of ps
floor_none [] new is = ap (λ (k : ℕ). max k 0) is
floor_none (x ∷ ps) new is = ap (max x.floor) (floor_none ps new is)

-- ---- PARTS with room for the next entry, and with it

-- these parts stand end to end up to this index, with the last entry; and where a new one is needed none is empty
pub record AreWhole (ps : List Part) (last : ℕ) : Type 0 where
  pub tile : Tiles 1 ps last
  pub ended : AreEnded ps
  pub full : needs_file ps ≡ true → (p : Part) → Contains ps p → p.id.base ≤ p.last

module _ (size greatest : ℕ) (ps : List Part) (last : ℕ) (least : 2 ≤ size) (whole : AreWhole ps last) where
  abbrev B : List Part
  B = begun size greatest ps

  abbrev new : Part
  new = new_tail (new_id greatest ps) size

  last_is : last_in ps ≡ last
  last_is = tiles_last_in ps last whole.tile

  needs_or_not : (needs_file ps ≡ true) ⊎ (needs_file ps ≡ false)
  needs_or_not = cases_Bool (needs_file ps)

  same : needs_file ps ≡ false → begun size greatest ps ≡ ps
  same lacks = ap (λ (t : Bool). if t then ps ++ new_tail (new_id greatest ps) size ∷ [] else ps) lacks

  -- by its last part, which has room
  pub last_has_room : (front : List Part) × (p : Part) × (begun size greatest ps ≡ front ++ p ∷ []) × (has_room p ≡ true)
  last_has_room = ⊎_elim
      (λ yes. (ps, new, begun_without size greatest ps yes, lt-ltb 0 size (omega (arith, least))))
      (λ lacks. let r = with_room ps lacks in (r.0, r.1, same lacks ∙ r.2, r.3))
      needs_or_not

  pub begun_tiles : Tiles 1 (begun size greatest ps) last
  begun_tiles = ⊎_elim
      (λ yes. subst (λ (l : List Part). Tiles 1 l last) (sym (begun_without size greatest ps yes)) (tiles_end 1 ps last new whole.tile (whole.full yes) (omega (arith, last_is)) (omega (arith, last_is))))
      (λ lacks. subst (λ (l : List Part). Tiles 1 l last) (sym (same lacks)) whole.tile)
      needs_or_not

  pub begun_ended : AreEnded (begun size greatest ps)
  begun_ended = ⊎_elim
      (λ yes. subst AreEnded (sym (begun_without size greatest ps yes)) (λ q f. whole.ended q (before q f)))
      (λ lacks. subst AreEnded (sym (same lacks)) whole.ended)
      needs_or_not
    where
      before : (q : Part) → IsLastFilled (ps ++ new ∷ []) q → IsLastFilled ps q
      before q f = go f.back f.are f.empty
        where
          go : (back : List Part) → ps ++ new ∷ [] ≡ f.front ++ q ∷ back → ((r : Part) → Contains back r → r.last < r.id.base) → IsLastFilled ps q
          go [] are empty =
              let is : new ≡ q = (same_snoc ps f.front new q are).1 in
              let filled = subst (λ (r : Part). r.id.base ≤ r.last) (sym is) f.filled in absurd (omega (arith, filled))
          go (b ∷ back) are empty =
              let l = last_of_list b back in
              let spread : ps ++ new ∷ [] ≡ (f.front ++ q ∷ l.0) ++ l.1 ∷ [] = are ∙ ap (λ (m : List Part). f.front ++ q ∷ m) l.2 ∙ sym (append_assoc f.front (q ∷ l.0) (l.1 ∷ [])) in
              record {
                front = f.front;
                back = l.0;
                are = (same_snoc ps (f.front ++ q ∷ l.0) new l.1 spread).0;
                filled = f.filled;
                empty = λ r has. empty r (subst (λ (m : List Part). Contains m r) (sym l.2) (Contains-append_left l.0 (l.1 ∷ []) r has));
              }

  pub begun_entries : entries_of (begun size greatest ps) ≡ entries_of ps
  begun_entries = ⊎_elim
      (λ yes. ap entries_of (begun_without size greatest ps yes) ∙ entries_append ps (new ∷ []) ∙ append-nil (entries_of ps))
      (λ lacks. ap entries_of (same lacks))
      needs_or_not

  pub begun_cut : cut_of (begun size greatest ps) ≡ cut_of ps
  begun_cut = ⊎_elim (λ yes. ap cut_of (begun_without size greatest ps yes) ∙ cut_none ps new refl) (λ lacks. ap cut_of (same lacks)) needs_or_not

  pub begun_floor : floor_of (begun size greatest ps) ≡ floor_of ps
  begun_floor = ⊎_elim (λ yes. ap floor_of (begun_without size greatest ps yes) ∙ floor_none ps new refl) (λ lacks. ap floor_of (same lacks)) needs_or_not

  module _ (entry : Entry) where
    abbrev front : List Part
    front = last_has_room.0

    abbrev p : Part
    p = last_has_room.1

    begun_is : begun size greatest ps ≡ front ++ p ∷ []
    begun_is = last_has_room.2

    tile_p : Tiles 1 (front ++ p ∷ []) last
    tile_p = subst (λ (l : List Part). Tiles 1 l last) begun_is begun_tiles

    gained_is : gained size greatest ps (entry ∷ []) ≡ front ++ with_entries p (entry ∷ []) ∷ []
    gained_is = ap (λ (l : List Part). lengthened l (entry ∷ [])) begun_is ∙ longer_by_last front p (entry ∷ [])

    p_last : p.last ≡ last
    p_last = tiles_last 1 front p last tile_p

    plain : p.rewritten ≡ false
    plain = back p.rewritten (and_parts (not p.rewritten) (nat_lt (length p.entries) p.size) last_has_room.3).0
      where
        back : (t : Bool) → not t ≡ true → t ≡ false
        back true is = absurd (cc is)
        back false is = refl

    filled : (with_entries p (entry ∷ [])).id.base ≤ (with_entries p (entry ∷ [])).last
    filled = omega (arith, tiles_base 1 front p last tile_p)

    pub gained_tiles : Tiles 1 (gained size greatest ps (entry ∷ [])) (last + 1)
    gained_tiles =
        subst (λ (l : List Part). Tiles 1 l (last + 1)) (sym gained_is)
        (subst (λ (k : ℕ). Tiles 1 (front ++ with_entries p (entry ∷ []) ∷ []) (k + 1)) p_last (tiles_longer 1 front p (with_entries p (entry ∷ [])) last tile_p refl filled))

    pub gained_ended : AreEnded (gained size greatest ps (entry ∷ []))
    gained_ended = subst AreEnded (sym gained_is) (λ q f. last_one q f)
      where
        last_one : (q : Part) → IsLastFilled (front ++ with_entries p (entry ∷ []) ∷ []) q → HasLast q
        last_one q f = go f.back f.are f.empty
          where
            go : (back : List Part) → front ++ with_entries p (entry ∷ []) ∷ [] ≡ f.front ++ q ∷ back → ((r : Part) → Contains back r → r.last < r.id.base) → HasLast q
            go [] are empty written =
                let is : with_entries p (entry ∷ []) ≡ q = (same_snoc front f.front (with_entries p (entry ∷ [])) q are).1 in
                absurd (cc (ap (λ (r : Part). r.rewritten) is, plain, written))
            go (b ∷ back) are empty written =
                let l = last_of_list b back in
                let spread : front ++ with_entries p (entry ∷ []) ∷ [] ≡ (f.front ++ q ∷ l.0) ++ l.1 ∷ [] = are ∙ ap (λ (m : List Part). f.front ++ q ∷ m) l.2 ∙ sym (append_assoc f.front (q ∷ l.0) (l.1 ∷ [])) in
                let is : with_entries p (entry ∷ []) ≡ l.1 = (same_snoc front (f.front ++ q ∷ l.0) (with_entries p (entry ∷ [])) l.1 spread).1 in
                let none = empty l.1 (subst (λ (m : List Part). Contains m l.1) (sym l.2) (Contains-push l.0 l.1)) in
                let short = subst (λ (r : Part). r.last < r.id.base) (sym is) none in
                absurd (omega (arith, short, filled))

    pub gained_entries : entries_of (gained size greatest ps (entry ∷ [])) ≡ entries_of ps ++ (last + 1, entry) ∷ []
    gained_entries =
        ap entries_of gained_is
        ∙ entries_append front (with_entries p (entry ∷ []) ∷ [])
        ∙ ap (λ (l : Numbered). entries_of front ++ l) (append-nil (p.entries ++ (p.last + 1, entry) ∷ []))
        ∙ sym (append_assoc (entries_of front) p.entries ((p.last + 1, entry) ∷ []))
        ∙ ap (λ (l : Numbered). l ++ (p.last + 1, entry) ∷ []) (ap (λ (l : Numbered). entries_of front ++ l) (sym (append-nil p.entries)) ∙ sym (entries_append front (p ∷ [])) ∙ sym (ap entries_of begun_is) ∙ begun_entries)
        ∙ ap (λ (k : ℕ). entries_of ps ++ (k + 1, entry) ∷ []) p_last

    pub gained_cut : cut_of (gained size greatest ps (entry ∷ [])) ≡ cut_of ps
    gained_cut = ap cut_of gained_is ∙ cut_same front p (with_entries p (entry ∷ [])) refl ∙ sym (ap cut_of begun_is) ∙ begun_cut

    pub gained_floor : floor_of (gained size greatest ps (entry ∷ [])) ≡ floor_of ps
    gained_floor = ap floor_of gained_is ∙ floor_same front p (with_entries p (entry ∷ [])) refl ∙ sym (ap floor_of begun_is) ∙ begun_floor

-- ---- HOW THEY LIE

abbrev lie : List Part → List PartLayout
lie ps = map part_layout ps

room_lies : (p : Part) → lay.has_room (part_layout p) ≡ has_room p
room_lies p = ap (λ (n : ℕ). not p.rewritten && nat_lt n p.size) (length-map p.entries (λ (e : ℕ × Entry). e.0))

pub needs_lies : (ps : List Part) → lay.is_full (map part_layout ps) ≡ needs_file ps
needs_lies [] = refl
needs_lies (p ∷ []) = ap not (room_lies p)
needs_lies (p ∷ q ∷ ps) = needs_lies (q ∷ ps)

last_lies : (ps : List Part) → lay.last_in (map part_layout ps) ≡ last_in ps
last_lies [] = refl
last_lies (p ∷ []) = refl
last_lies (p ∷ q ∷ ps) = last_lies (q ∷ ps)

one_longer : (p : Part) (entry : Entry) → part_layout (with_entries p (entry ∷ [])) ≡ lay.longer (part_layout p)
one_longer p entry =
    let present : map (λ (e : ℕ × Entry). e.0) (p.entries ++ (p.last + 1, entry) ∷ []) ≡ map (λ (e : ℕ × Entry). e.0) p.entries ++ (p.last + 1) ∷ [] = map-append (λ (e : ℕ × Entry). e.0) p.entries ((p.last + 1, entry) ∷ []) in
    λ i. record { base = p.id.base; last = p.last + 1; present = present i; cut = p.cut; floor = p.floor; generation = p.id.generation; size = p.size; rewritten = p.rewritten }

longer_lies : (ps : List Part) (entry : Entry) → map part_layout (lengthened ps (entry ∷ [])) ≡ lay.lengthened (map part_layout ps)
longer_lies [] entry = refl
longer_lies (p ∷ []) entry = ap (λ (l : PartLayout). l ∷ []) (one_longer p entry)
longer_lies (p ∷ q ∷ ps) entry = ap (λ (l : List PartLayout). part_layout p ∷ l) (longer_lies (q ∷ ps) entry)

abbrev pub layout : List Part → ℕ → Layout
layout ps greatest = record { parts = map part_layout ps; greatest = greatest }

begun_lies : (size greatest : ℕ) (ps : List Part) → layout (begun size greatest ps) (if needs_file ps then greatest + 1 else greatest) ≡ lay.begun size (layout ps greatest)
begun_lies size greatest ps = ⊎_elim
    (λ yes.
    let there_too : lay.needs_file (layout ps greatest) ≡ true = needs_lies ps ∙ yes in
    (λ i. layout (begun_without size greatest ps yes i) (if yes i then greatest + 1 else greatest))
    ∙ ap (λ (l : List PartLayout). record { parts = l; greatest = greatest + 1 }) (map-append part_layout ps (new_tail (new_id greatest ps) size ∷ []))
    ∙ ap (λ (k : ℕ). record { parts = map part_layout ps ++ lay.new_part size (k + 1) (greatest + 1) ∷ []; greatest = greatest + 1 }) (sym (last_lies ps))
    ∙ sym (ap (λ (t : Bool). if t then record { parts = map part_layout ps ++ lay.new_part size (lay.last_in (map part_layout ps) + 1) (greatest + 1) ∷ []; greatest = greatest + 1 } else layout ps greatest) there_too))
    (λ lacks.
    let there_too : lay.needs_file (layout ps greatest) ≡ false = needs_lies ps ∙ lacks in
    (λ i. layout (if lacks i then ps ++ new_tail (new_id greatest ps) size ∷ [] else ps) (if lacks i then greatest + 1 else greatest))
    ∙ sym (ap (λ (t : Bool). if t then record { parts = map part_layout ps ++ lay.new_part size (lay.last_in (map part_layout ps) + 1) (greatest + 1) ∷ []; greatest = greatest + 1 } else layout ps greatest) there_too))
    (cases_Bool (needs_file ps))

pub gained_lies : (size greatest : ℕ) (ps : List Part) (entry : Entry) → layout (gained size greatest ps (entry ∷ [])) (if needs_file ps then greatest + 1 else greatest) ≡ lay.with_entry size (layout ps greatest)
gained_lies size greatest ps entry =
    ap (λ (l : List PartLayout). record { parts = l; greatest = if needs_file ps then greatest + 1 else greatest }) (longer_lies (begun size greatest ps) entry)
    ∙ ap (λ (l : Layout). record { parts = lay.lengthened l.parts; greatest = l.greatest }) (begun_lies size greatest ps)
