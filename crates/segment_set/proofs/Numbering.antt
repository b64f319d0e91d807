-- The entries of an appended file are numbered one after the other.
use Rattle.std.proofs.Common.{◌≡◌, ℕ, zero, suc, ◌+◌, ◌-◌, Bool, true, false, not, ◌&&◌, nat_eq, nat_lt, nat_le, List, [], ◌∷◌, ◌++◌, length, map, take, drop, refl, sym, ap, subst, ◌∙◌, arith, if◌then◌else◌}
use Rattle.std.specs.List.{enumerate_from}
use Rattle.std.proofs.lemmas.List.{map-append, length-map}
use Rattle.std.proofs.lemmas.Bool.{eqb-true, and_parts}
use Rattle.host_types.specs.declared.entry.Entry.{Entry}
use Rattle.disk_model.specs.declared.file_id.FileId.{FileId}
use Rattle.segment_files.specs.Numbers.{four_at}
use Rattle.entry_codec.specs.Reading.{Spelling, Spells, Spoils, spelling}
use Rattle.host_types.specs.Limits.{index_limit}
use Rattle.segment_files.proofs.Bodies.{next_follows}
use Rattle.segment_files.specs.Parse.{Numbered, Part, Whole, Body, Holds, Breaks, with_entry, is_misplaced, spelled_first, first_of, body, Framed, Crooked, framed, frame, is_next, frame_room, parse}
use Rattle.segment_set.proofs.Walks.{Walked, By_byte, At_gate, By_frame, walked, frame_form}
use Rattle.segment_set.proofs.Appended.{appended}

-- the entries without their indexes
abbrev pub bare : Numbered → List Entry
bare entries = map (λ (e : ℕ × Entry). e.1) entries

-- numbered one after the other, behind this index
pub record Follows (before : ℕ) (es : Numbered) : Type 0 where
  pub is : es ≡ enumerate_from (before + 1) (bare es)

pub none_follow : (before : ℕ) → Follows before []
none_follow before = record { is = refl }

one_follows : (before index : ℕ) (entry : Entry) (es : Numbered) → index ≡ before + 1 → Follows index es → Follows before ((index, entry) ∷ es)
one_follows before index entry es next f = record {
  is = ap (λ (l : Numbered). (index, entry) ∷ l) f.is
      ∙ ap (λ (k : ℕ). (k, entry) ∷ enumerate_from (k + 1) (bare es)) next;
}

enumerate-append : (n : ℕ) (a b : List Entry) → enumerate_from n (a ++ b) ≡ enumerate_from n a ++ enumerate_from (n + length a) b
enumerate-append n [] b = ap (λ (k : ℕ). enumerate_from k b) (omega arith)
enumerate-append n (x ∷ a) b =
    ap (λ (l : Numbered). (n, x) ∷ l) (enumerate-append (n + 1) a b)
    ∙ ap (λ (k : ℕ). (n, x) ∷ (enumerate_from (n + 1) a ++ enumerate_from k b)) (omega arith)

pub more_follow : (before : ℕ) (a b : Numbered) → Follows before a → Follows (before + length a) b → Follows before (a ++ b)
more_follow before a b f g = record {
  is =
      let long : before + length a + 1 ≡ before + 1 + length (bare a) = omega (arith, length-map a (λ (e : ℕ × Entry). e.1)) in
      ap (λ (l : Numbered). l ++ b) f.is
      ∙ ap (λ (l : Numbered). enumerate_from (before + 1) (bare a) ++ l) (g.is ∙ ap (λ (k : ℕ). enumerate_from k (bare b)) long)
      ∙ sym (enumerate-append (before + 1) (bare a) (bare b))
      ∙ ap (enumerate_from (before + 1)) (sym (map-append (λ (e : ℕ × Entry). e.1) a b));
}

next_is : (before index : ℕ) → is_next before index ≡ true → index ≡ before + 1
next_is before index t = eqb-true index (before + 1) (and_parts (nat_eq index (before + 1)) (nat_le index index_limit) t).0

body_none : (room before : ℕ) → body is_next room before [] ≡ Holds []
unfolding body
body_none zero before = refl
body_none (suc room) before = refl

body_full : (before b : ℕ) (bytes : List ℕ) → body is_next zero before (b ∷ bytes) ≡ Breaks 0
unfolding body
body_full before b bytes = refl

body_one : (room before b : ℕ) (bytes : List ℕ) → body is_next (suc room) before (b ∷ bytes) ≡ first_of is_next before (b ∷ bytes) (λ index size. body is_next room index (drop size (b ∷ bytes)))
unfolding body
body_one room before b bytes = refl

pub body_follows : (room before : ℕ) (bytes : List ℕ) (es : Numbered) → body is_next room before bytes ≡ Holds es → Follows before es
body_follows room before [] es is =
    let both : Holds [] ≡ Holds es = sym (body_none room before) ∙ is in
    let none : [] ≡ es = cc in
    subst (Follows before) none (none_follow before)
body_follows zero before (b ∷ bytes) es is = absurd (cc (body_full before b bytes, is))
body_follows (suc room) before (b ∷ bytes) es is = placed (λ k m c. body_follows room k m c) (is_misplaced is_next before (b ∷ bytes)) refl (sym (body_one room before b bytes) ∙ is)
  where
    All : Type 0
    All = (before : ℕ) (bytes : List ℕ) (es : Numbered) → body is_next room before bytes ≡ Holds es → Follows before es

    rest : (before : ℕ) (bytes : List ℕ) (es : Numbered) → All → body is_next room before bytes ≡ Holds es → Follows before es
    rest before bytes es all is = all before bytes es is

    behind : All → (index : ℕ) (entry : Entry) (size : ℕ) → index ≡ before + 1 → (c : Body) → body is_next room index (drop size (b ∷ bytes)) ≡ c → with_entry index entry size c ≡ Holds es → Follows before es
    behind all index entry size next (Breaks p) c_is is = absurd (cc)
    behind all index entry size next (Holds more) c_is is =
        let es_is : (index, entry) ∷ more ≡ es = cc in
        subst (Follows before) es_is (one_follows before index entry more next (all index (drop size (b ∷ bytes)) more c_is))

    first : All → is_misplaced is_next before (b ∷ bytes) ≡ false → (s : Spelling) → spelling (b ∷ bytes) ≡ s → spelled_first s (λ index size. body is_next room index (drop size (b ∷ bytes))) ≡ Holds es → Follows before es
    first all stands (Spoils p) s_is is = absurd (cc)
    first all stands (Spells index entry size) s_is is =
        behind all index entry size (next_is before index (next_follows is_next (b ∷ bytes) before stands index entry size s_is)) (body is_next room index (drop size (b ∷ bytes))) refl is

    placed : All → (t : Bool) → is_misplaced is_next before (b ∷ bytes) ≡ t
        → (if t then Breaks 0 else spelled_first (spelling (b ∷ bytes)) (λ index size. body is_next room index (drop size (b ∷ bytes)))) ≡ Holds es → Follows before es
    placed all true t_is is = absurd (cc)
    placed all false t_is is = first all t_is (spelling (b ∷ bytes)) refl is

-- so those of a frame
frame_follows : (before : ℕ) (l : List ℕ) (es : Numbered) (n : ℕ) → frame is_next frame_room before l ≡ Framed es n → Follows before es
frame_follows before l es n is = short (nat_lt (length l) 4) (sym (frame_form is_next frame_room before l) ∙ is)
  where
    size : ℕ
    size = four_at 0 l

    held : Body
    held = body is_next frame_room before (take (four_at 0 l) (drop 4 l))

    whole : (h : Numbered) → held ≡ Holds h → (t : Bool) → (if t then Crooked (length l) else Framed h (4 + size)) ≡ Framed es n → Follows before es
    whole h h_is true is = absurd (cc)
    whole h h_is false is = let es_is : h ≡ es = cc in subst (Follows before) es_is (body_follows frame_room before (take (four_at 0 l) (drop 4 l)) h h_is)

    read : (c : Body) → held ≡ c → framed size (length l) c ≡ Framed es n → Follows before es
    read (Breaks p) c_is is = absurd (cc)
    read (Holds h) c_is is = whole h c_is (nat_lt (length l) (4 + size)) is

    long : (t : Bool) → (if t then Crooked 0 else framed size (length l) held) ≡ Framed es n → Follows before es
    long true is = absurd (cc)
    long false is = read held refl is

    short : (t : Bool) → (if t then Crooked (length l) else (if not (nat_le 17 size && nat_le size 8388608) then Crooked 0 else framed size (length l) held)) ≡ Framed es n → Follows before es
    short true is = absurd (cc)
    short false is = long (not (nat_le 17 size && nat_le size 8388608)) is

-- and those of all frames
pub walk_follows : (skip before : ℕ) (l : List ℕ) (es : Numbered) (g : ℕ) → Walked skip before l es g → Follows before es
walk_follows _ _ _ _ _ (By_byte skip before b l es g w) = walk_follows skip before l es g w
walk_follows _ _ _ _ _ (At_gate before b l is) = none_follow before
walk_follows _ _ _ _ _ (By_frame before n l ahead es g f w) = more_follow before ahead es (frame_follows before l ahead n f) (walk_follows n (before + length ahead) l es g w)

-- what a part of an appended file is
pub record IsPlain (id : FileId) (p : Part) : Type 0 where
  pub id_is : p.id ≡ id
  pub last : p.last ≡ id.base - 1 + length p.entries
  pub cut : p.cut ≡ 0
  pub floor : p.floor ≡ 0
  pub numbered : Follows (id.base - 1) p.entries

pub plain_part : (id : FileId) (b : List ℕ) (p : Part) → parse id b ≡ Whole p → p.rewritten ≡ false → IsPlain id p
plain_part id b p whole plain =
    let a = appended id b p whole plain in
    let entries : p.entries ≡ a.entries = ap (λ (q : Part). q.entries) a.is in
    record {
      id_is = ap (λ (q : Part). q.id) a.is;
      last = ap (λ (q : Part). q.last) a.is ∙ ap (λ (es : Numbered). id.base - 1 + length es) (sym entries);
      cut = ap (λ (q : Part). q.cut) a.is;
      floor = ap (λ (q : Part). q.floor) a.is;
      numbered = subst (Follows (id.base - 1)) (sym entries) (walk_follows 0 (id.base - 1) (drop 64 b) a.entries a.gate (walked (drop 64 b) 0 (id.base - 1) a.entries a.gate a.walk));
    }
