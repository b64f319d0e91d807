-- What an appended file is with a frame behind its gate, and with none.
use Rattle.std.proofs.Common.{◌≡◌, ◌⊎◌, inl, inr, ⊎_elim, ℕ, suc, ◌+◌, ◌-◌, ◌<◌, Bool, true, false, nat_eq, nat_le, List, [], ◌∷◌, ◌++◌, length, take, drop, get_or, Option, Some, None, refl, sym, ap, subst, ◌∙◌, arith, if◌then◌else◌, append_assoc, length-append, length-take, length-drop, take-append-drop}
use Rattle.std.proofs.lemmas.List.{take-take, take-append-le, drop-take, drop-append-le, drop_more, append-nil, get_or-take, get_or-drop}
use Rattle.std.proofs.lemmas.Bool.{cases_Bool, eqb-true, and_from, and_parts, le-leb}
use Rattle.disk_model.specs.declared.file_id.FileId.{FileId}
use Rattle.disk_model.specs.Image.{written}
use Rattle.segment_files.specs.Files.{is_open, IsWholeOrAbsent, then_shut}
use Rattle.segment_files.specs.Numbers.{four_at}
use Rattle.segment_files.specs.Parse.{Numbered, Part, Closed, Whole, first_wrong, descriptor_fields, described, is_rewritten, appended_part, rewritten_part, part_as, rule_as, rule_of, Framed, frame, is_next, frame_room, Walk, Ends, Fails, appended_walk, walk, parse, parse_open}
use Rattle.segment_set.specs.Growth.{grown}
use Rattle.segment_set.proofs.Walks.{walked, reach, extend, extended, one_frame, walk_shut}

abbrev the_part : FileId → List ℕ → Numbered → ℕ → Part
the_part id head entries gate = record { id = id; rewritten = false; last = id.base - 1 + length entries; cut = 0; floor = 0; size = four_at 56 head; entries = entries; gate = 64 + gate }

pub record Appended (id : FileId) (b : List ℕ) (tail : Part) : Type 0 where
  pub is_open : is_open b ≡ true
  pub right : first_wrong (descriptor_fields id (take 64 b)) (take 64 b) ≡ None
  pub plain : is_rewritten (take 64 b) ≡ false
  pub entries : Numbered
  pub gate : ℕ
  pub walk : appended_walk 0 (id.base - 1) (drop 64 b) ≡ Ends entries gate
  pub is : tail ≡ the_part id (take 64 b) entries gate

parse_opens : (id : FileId) (b : List ℕ) → is_open b ≡ true → parse id b ≡ described id (take 64 b) (drop 64 b) (first_wrong (descriptor_fields id (take 64 b)) (take 64 b))
unfolding parse_open
parse_opens id b is = ap (λ (t : Bool). if t then parse_open id (take 64 b) (drop 64 b) else Closed) is

pub parse_shut : (id : FileId) (b : List ℕ) → is_open b ≡ false → parse id b ≡ Closed
parse_shut id b is = ap (λ (t : Bool). if t then parse_open id (take 64 b) (drop 64 b) else Closed) is

-- what a part is by the kind of its file
abbrev by_kind : FileId → List ℕ → Part → Bool → Type 0
by_kind id b tail true = (tail.id ≡ id) × (tail.rewritten ≡ true)
by_kind id b tail false = Appended id b tail

-- what an open file was found to be
opened_as : (id : FileId) (b : List ℕ) (tail : Part) → parse id b ≡ Whole tail → (t : Bool) × by_kind id b tail t
opened_as id b tail whole = ⊎_elim
    (λ opens. wrong opens (first_wrong (descriptor_fields id H) H) refl (sym (parse_opens id b opens) ∙ whole))
    (λ shuts. absurd (cc (parse_shut id b shuts, whole)))
    (cases_Bool (is_open b))
  where
    F : List ℕ
    F = drop 64 b

    H : List ℕ
    H = take 64 b

    W : Walk
    W = walk (rule_of (take 64 b)) 0 (id.base - 1) (drop 64 b)

    ended : is_open b ≡ true → first_wrong (descriptor_fields id H) H ≡ None → is_rewritten H ≡ false → (w : Walk) → W ≡ w → appended_part id H w ≡ Whole tail → Appended id b tail
    ended opens right plain (Fails p) w_is is = absurd (cc)
    ended opens right plain (Ends es g) w_is is = record {
      is_open = opens;
      right = right;
      plain = plain;
      entries = es;
      gate = g;
      walk = sym (ap (λ (t : Bool). walk (rule_as t H) 0 (id.base - 1) F) plain) ∙ w_is;
      is = cc;
    }

    written : (w : Walk) → rewritten_part id H w ≡ Whole tail → (tail.id ≡ id) × (tail.rewritten ≡ true)
    written (Fails p) is = absurd (cc)
    written (Ends es g) is = (cc, cc)

    by : is_open b ≡ true → first_wrong (descriptor_fields id H) H ≡ None → (t : Bool) → is_rewritten H ≡ t → part_as id H t W ≡ Whole tail → (t : Bool) × by_kind id b tail t
    by opens right true t_is is = (true, written W is)
    by opens right false t_is is = (false, ended opens right t_is W refl is)

    wrong : is_open b ≡ true → (o : Option ℕ) → first_wrong (descriptor_fields id H) H ≡ o → described id H F o ≡ Whole tail → (t : Bool) × by_kind id b tail t
    wrong opens (Some p) o_is is = absurd (cc)
    wrong opens None o_is is = by opens o_is (is_rewritten H) refl is

-- a file that no compaction wrote
pub appended : (id : FileId) (b : List ℕ) (tail : Part) → parse id b ≡ Whole tail → tail.rewritten ≡ false → Appended id b tail
appended id b tail whole plain = at (opened_as id b tail whole)
  where
    at : (t : Bool) × by_kind id b tail t → Appended id b tail
    at (true, is) = absurd (cc (is.1, plain))
    at (false, is) = is

-- a part has the id of its file
pub parse_id : (id : FileId) (b : List ℕ) (q : Part) → parse id b ≡ Whole q → q.id ≡ id
parse_id id b q whole = at (opened_as id b q whole)
  where
    at : (t : Bool) × by_kind id b q t → q.id ≡ id
    at (true, is) = is.0
    at (false, is) = ap (λ (p : Part). p.id) is.is

-- Another file that is the same up to the gate is read the same up to the gate.
module _ (id : FileId) (b : List ℕ) (tail : Part) (a : Appended id b tail) where
  pub gate_in : 64 + a.gate < length b
  gate_in = let r = reach 0 (id.base - 1) (drop 64 b) a.entries a.gate (walked (drop 64 b) 0 (id.base - 1) a.entries a.gate a.walk) in omega (arith, r.within, length-drop 64 b)

  pub gate_shut : nat_eq (get_or b (64 + a.gate) 0) 1 ≡ false
  gate_shut = let r = reach 0 (id.base - 1) (drop 64 b) a.entries a.gate (walked (drop 64 b) 0 (id.base - 1) a.entries a.gate a.walk) in
      ap (λ (x : ℕ). nat_eq x 1) (sym (get_or-drop 64 b a.gate 0)) ∙ r.shut

  module _ (c rest : List ℕ) (is : c ≡ take (64 + a.gate) b ++ rest) (some : 0 < length rest) where
    abbrev L : List ℕ
    L = take (64 + a.gate) b

    long : length L ≡ 64 + a.gate
    long = omega (arith, length-take (64 + a.gate) b, gate_in)

    head_same : take 64 c ≡ take 64 b
    head_same = ap (λ (l : List ℕ). take 64 l) is ∙ take-append-le 64 L rest (omega (arith, long)) ∙ take-take 64 (64 + a.gate) b (omega arith)

    frames_same : drop 64 c ≡ take a.gate (drop 64 b) ++ rest
    frames_same = ap (λ (l : List ℕ). drop 64 l) is ∙ drop-append-le 64 L rest (omega (arith, long)) ∙ ap (λ (l : List ℕ). l ++ rest) (drop-take 64 a.gate b)

    opens : is_open c ≡ true
    opens =
        let parts = and_parts (nat_eq (get_or b 0 0) 1) (nat_le 2 (length b)) a.is_open in
        let byte : get_or c 0 0 ≡ get_or b 0 0 = sym (get_or-take 64 c 0 0 (omega arith)) ∙ ap (λ (l : List ℕ). get_or l 0 0) head_same ∙ get_or-take 64 b 0 0 (omega arith) in
        and_from (nat_eq (get_or c 0 0) 1) (nat_le 2 (length c)) (ap (λ (x : ℕ). nat_eq x 1) byte ∙ parts.0)
        (le-leb 2 (length c) (omega (arith, ap length is, length-append L rest, long)))

    pub ahead : parse id c ≡ appended_part id (take 64 b) (extended a.entries a.gate (appended_walk 0 (id.base - 1 + length a.entries) rest))
    ahead =
        parse_opens id c opens
        ∙ ap (λ (h : List ℕ). described id h (drop 64 c) (first_wrong (descriptor_fields id h) h)) head_same
        ∙ ap (λ (o : Option ℕ). described id (take 64 b) (drop 64 c) o) a.right
        ∙ ap (λ (t : Bool). part_as id (take 64 b) t (walk (rule_as t (take 64 b)) 0 (id.base - 1) (drop 64 c))) a.plain
        ∙ ap (λ (l : List ℕ). appended_part id (take 64 b) (appended_walk 0 (id.base - 1) l)) frames_same
        ∙ ap (appended_part id (take 64 b)) (extend 0 (id.base - 1) (drop 64 b) a.entries a.gate (walked (drop 64 b) 0 (id.base - 1) a.entries a.gate a.walk) rest)

  -- with a shut gate there
  pub without : (c : List ℕ) (x : ℕ) (l : List ℕ) → c ≡ take (64 + a.gate) b ++ x ∷ l → nat_eq x 1 ≡ false → parse id c ≡ Whole tail
  without c x l is shut =
      ahead c (x ∷ l) is (omega arith)
      ∙ ap (λ (w : Walk). appended_part id (take 64 b) (extended a.entries a.gate w)) (walk_shut (id.base - 1 + length a.entries) x l shut)
      ∙ ap (λ (es : Numbered). Whole (the_part id (take 64 b) es (a.gate + 0))) (append-nil a.entries)
      ∙ ap (λ (k : ℕ). Whole (the_part id (take 64 b) a.entries k)) (omega arith)
      ∙ ap Whole (sym a.is)

  -- with a frame and a shut gate there
  pub gaining : (fb : List ℕ) (new : Numbered) (c rest : List ℕ) → frame is_next frame_room tail.last fb ≡ Framed new (length fb) → c ≡ take (64 + a.gate) b ++ (1 ∷ fb ++ 0 ∷ rest) → parse id c ≡ Whole (grown tail new (1 + length fb))
  gaining fb new c rest is_frame is =
      let last_is : tail.last ≡ id.base - 1 + length a.entries = ap (λ (p : Part). p.last) a.is in
      let framed = subst (λ (k : ℕ). frame is_next frame_room k fb ≡ Framed new (length fb)) last_is is_frame in
      ahead c (1 ∷ fb ++ 0 ∷ rest) is (omega arith)
      ∙ ap (λ (w : Walk). appended_part id (take 64 b) (extended a.entries a.gate w)) (one_frame (id.base - 1 + length a.entries) fb new 0 rest framed refl)
      ∙ ap Whole (same ∙ ap (λ (p : Part). grown p new (1 + length fb)) (sym a.is))
    where
      same : the_part id (take 64 b) (a.entries ++ new) (a.gate + suc (length fb)) ≡ grown (the_part id (take 64 b) a.entries a.gate) new (1 + length fb)
      same =
          let last : id.base - 1 + length (a.entries ++ new) ≡ id.base - 1 + length a.entries + length new = omega (arith, length-append a.entries new) in
          let gate : 64 + (a.gate + suc (length fb)) ≡ 64 + a.gate + (1 + length fb) = omega arith in
          λ i. record { id = id; rewritten = false; last = last i; cut = 0; floor = 0; size = four_at 56 (take 64 b); entries = a.entries ++ new; gate = gate i }

-- a file with the frame whole or absent is the part with its entries or without
pub outcome : (id : FileId) (b : List ℕ) (tail : Part) (gate : ℕ) (fb : List ℕ) (new : Numbered) (c : List ℕ)
    → parse id b ≡ Whole tail → tail.rewritten ≡ false → tail.gate ≡ gate → frame is_next frame_room tail.last fb ≡ Framed new (length fb) → gate < length b
    → IsWholeOrAbsent b gate (then_shut fb) c → (parse id c ≡ Whole tail) ⊎ (parse id c ≡ Whole (grown tail new (1 + length fb)))
outcome id b tail gate fb new c whole plain gate_is is_frame lt alt = ⊎_elim absent present alt
  where
    a : Appended id b tail
    a = appended id b tail whole plain

    at : gate ≡ 64 + a.gate
    at = sym gate_is ∙ ap (λ (p : Part). p.gate) a.is

    absent : take (gate + 1) c ≡ take (gate + 1) b → (parse id c ≡ Whole tail) ⊎ (parse id c ≡ Whole (grown tail new (1 + length fb)))
    absent same =
        let long : gate < length c = omega (arith, lt, length-take (gate + 1) b, length-take (gate + 1) c, ap length same) in
        let front : take gate c ≡ take gate b = sym (take-take gate (gate + 1) c (omega arith)) ∙ ap (λ (l : List ℕ). take gate l) same ∙ take-take gate (gate + 1) b (omega arith) in
        let byte : get_or c gate 0 ≡ get_or b gate 0 = sym (get_or-take (gate + 1) c gate 0 (omega arith)) ∙ ap (λ (l : List ℕ). get_or l gate 0) same ∙ get_or-take (gate + 1) b gate 0 (omega arith) in
        let split : c ≡ take gate b ++ get_or c gate 0 ∷ drop (gate + 1) c =
        sym (take-append-drop gate c) ∙ ap (λ (l : List ℕ). l ++ drop gate c) front ∙ ap (λ (l : List ℕ). take gate b ++ l) (drop_more c gate 0 long) in
        let shut : nat_eq (get_or c gate 0) 1 ≡ false = ap (λ (x : ℕ). nat_eq x 1) (byte ∙ ap (λ (k : ℕ). get_or b k 0) at) ∙ gate_shut id b tail a in
        inl (without id b tail a c (get_or c gate 0) (drop (gate + 1) c) (split ∙ ap (λ (k : ℕ). take k b ++ get_or c gate 0 ∷ drop (gate + 1) c) at) shut)

    present : (x : ℕ) × (c ≡ written b gate (x ∷ then_shut fb)) → (parse id c ≡ Whole tail) ⊎ (parse id c ≡ Whole (grown tail new (1 + length fb)))
    present w =
        let D = drop (gate + length (w.0 ∷ then_shut fb)) b in
        let spread : c ≡ take (64 + a.gate) b ++ w.0 ∷ (then_shut fb ++ D) =
        w.1 ∙ append_assoc (take gate b) (w.0 ∷ then_shut fb) D ∙ ap (λ (k : ℕ). take k b ++ (w.0 ∷ then_shut fb ++ D)) at in
        ⊎_elim
        (λ one.
        let x_is : w.0 ≡ 1 = eqb-true w.0 1 one in
        let as_one : c ≡ take (64 + a.gate) b ++ (1 ∷ fb ++ 0 ∷ D) =
        spread ∙ ap (λ (x : ℕ). take (64 + a.gate) b ++ x ∷ (then_shut fb ++ D)) x_is ∙ ap (λ (l : List ℕ). take (64 + a.gate) b ++ 1 ∷ l) (append_assoc fb (0 ∷ []) D) in
        inr (gaining id b tail a fb new c D is_frame as_one))
        (λ other. inl (without id b tail a c w.0 (then_shut fb ++ D) spread other))
        (cases_Bool (nat_eq w.0 1))

-- with the frame whole it is the part with its entries
pub outcome_whole : (id : FileId) (b : List ℕ) (tail : Part) (gate : ℕ) (fb : List ℕ) (new : Numbered)
    → parse id b ≡ Whole tail → tail.rewritten ≡ false → tail.gate ≡ gate → frame is_next frame_room tail.last fb ≡ Framed new (length fb)
    → parse id (written b gate (1 ∷ then_shut fb)) ≡ Whole (grown tail new (1 + length fb))
outcome_whole id b tail gate fb new whole plain gate_is is_frame =
    let a = appended id b tail whole plain in
    let at : gate ≡ 64 + a.gate = sym gate_is ∙ ap (λ (p : Part). p.gate) a.is in
    let D = drop (gate + length (1 ∷ then_shut fb)) b in
    gaining id b tail a fb new (written b gate (1 ∷ then_shut fb)) D is_frame
    (append_assoc (take gate b) (1 ∷ then_shut fb) D ∙ ap (λ (k : ℕ). take k b ++ (1 ∷ then_shut fb ++ D)) at ∙ ap (λ (l : List ℕ). take (64 + a.gate) b ++ 1 ∷ l) (append_assoc fb (0 ∷ []) D))
