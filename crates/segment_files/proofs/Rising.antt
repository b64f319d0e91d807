-- The indexes of the entries of a file rise.
use Rattle.std.proofs.Common.{◌≡◌, ⊎_elim, ℕ, zero, suc, ◌+◌, ◌-◌, ◌<◌, Bool, true, false, not, ◌&&◌, nat_eq, nat_lt, nat_le, List, [], ◌∷◌, ◌++◌, length, take, drop, Option, Some, None, refl, sym, ap, subst, ◌∙◌, arith, if◌then◌else◌}
use Rattle.std.proofs.lemmas.Bool.{and_parts, cases_Bool, eqb-true, ltb-true}
use Rattle.host_types.specs.declared.entry.Entry.{Entry}
use Rattle.host_types.specs.Limits.{index_limit}
use Rattle.disk_model.specs.declared.file_id.FileId.{FileId}
use Rattle.entry_codec.specs.Reading.{Spelling, Spells, Spoils, spelling}
use Rattle.segment_files.specs.Files.{is_open}
use Rattle.segment_files.specs.Numbers.{four_at}
use Rattle.segment_files.specs.declared.rule.Rule.{Rule}
use Rattle.segment_files.specs.declared.rule.Rule.TheVariants.{Appended, Rewritten}
use Rattle.segment_files.specs.Parse.{Numbered, Part, Closed, Whole, Body, Holds, Breaks, with_entry, is_misplaced, spelled_first, first_of, first_wrong, descriptor_fields, described, is_rewritten, appended_part, rewritten_part, part_as, rule_as, body, Frame, Framed, Crooked, framed, frame, go_on, is_full, last_index, room, Walk, Ends, Fails, behind_byte, behind_frame, walk, parse, parse_open, at_shut, behind, index_behind, follows}
use Rattle.segment_files.proofs.Bodies.{next_follows}

-- strictly, from behind this index on
abbrev pub Up : ℕ → Numbered → Type 0
Up before [] = Unit {0}
Up before (e ∷ es) = (before < e.0) × Up e.0 es

pub up_join : (before : ℕ) (a b : Numbered) → Up before a → Up (last_index before a) b → Up before (a ++ b)
up_join before [] b up behind = behind
up_join before (e ∷ a) b up behind = (up.0, up_join e.0 a b up.1 behind)

-- and the rule tells the last of them
abbrev Rise : Rule → ℕ → Numbered → Type 0
Rise rule before es = Up before es × (index_behind rule before es ≡ last_index before es)

rise_none : (rule : Rule) (before : ℕ) → Rise rule before []
rise_none Appended before = (tt {0}, omega arith)
rise_none (Rewritten last left) before = (tt {0}, refl)

rise_more : (rule : Rule) (before index : ℕ) (entry : Entry) (es : Numbered) → follows rule before index ≡ true → Rise rule index es → Rise rule before ((index, entry) ∷ es)
rise_more Appended before index entry es next rise =
    let is : index ≡ before + 1 = eqb-true index (before + 1) (and_parts (nat_eq index (before + 1)) (nat_le index index_limit) next).0 in
    ((omega (arith, is), rise.0), omega (arith, is, rise.1))
rise_more (Rewritten last left) before index entry es next rise =
    ((ltb-true before index (and_parts (nat_lt before index) (nat_le index last) next).0, rise.0), refl)

module _ (rule : Rule) where
  body_none : (room before : ℕ) → body (follows rule) room before [] ≡ Holds []
  unfolding body
  body_none zero before = refl
  body_none (suc room) before = refl

  body_full : (before b : ℕ) (bytes : List ℕ) → body (follows rule) zero before (b ∷ bytes) ≡ Breaks 0
  unfolding body
  body_full before b bytes = refl

  body_one : (room before b : ℕ) (bytes : List ℕ) → body (follows rule) (suc room) before (b ∷ bytes) ≡ first_of (follows rule) before (b ∷ bytes) (λ index size. body (follows rule) room index (drop size (b ∷ bytes)))
  unfolding body
  body_one room before b bytes = refl

  body_rise : (room before : ℕ) (bytes : List ℕ) (es : Numbered) → body (follows rule) room before bytes ≡ Holds es → Rise rule before es
  body_rise room before [] es is =
      let both : Holds [] ≡ Holds es = sym (body_none room before) ∙ is in
      let none : [] ≡ es = cc in
      subst (Rise rule before) none (rise_none rule before)
  body_rise zero before (b ∷ bytes) es is = absurd (cc (body_full before b bytes, is))
  body_rise (suc room) before (b ∷ bytes) es is = placed (λ k m c. body_rise room k m c) (is_misplaced (follows rule) before (b ∷ bytes)) refl (sym (body_one room before b bytes) ∙ is)
    where
      All : Type 0
      All = (before : ℕ) (bytes : List ℕ) (es : Numbered) → body (follows rule) room before bytes ≡ Holds es → Rise rule before es

      rest : All → (index : ℕ) (entry : Entry) (size : ℕ) → follows rule before index ≡ true → (c : Body) → body (follows rule) room index (drop size (b ∷ bytes)) ≡ c → with_entry index entry size c ≡ Holds es → Rise rule before es
      rest all index entry size next (Breaks p) c_is is = absurd (cc)
      rest all index entry size next (Holds more) c_is is =
          let es_is : (index, entry) ∷ more ≡ es = cc in
          subst (Rise rule before) es_is (rise_more rule before index entry more next (all index (drop size (b ∷ bytes)) more c_is))

      first : All → is_misplaced (follows rule) before (b ∷ bytes) ≡ false → (s : Spelling) → spelling (b ∷ bytes) ≡ s → spelled_first s (λ index size. body (follows rule) room index (drop size (b ∷ bytes))) ≡ Holds es → Rise rule before es
      first all stands (Spoils p) s_is is = absurd (cc)
      first all stands (Spells index entry size) s_is is =
          rest all index entry size (next_follows (follows rule) (b ∷ bytes) before stands index entry size s_is) (body (follows rule) room index (drop size (b ∷ bytes))) refl is

      placed : All → (t : Bool) → is_misplaced (follows rule) before (b ∷ bytes) ≡ t
          → (if t then Breaks 0 else spelled_first (spelling (b ∷ bytes)) (λ index size. body (follows rule) room index (drop size (b ∷ bytes)))) ≡ Holds es → Rise rule before es
      placed all true t_is is = absurd (cc)
      placed all false t_is is = first all t_is (spelling (b ∷ bytes)) refl is

  frame_form : (room before : ℕ) (l : List ℕ) → frame (follows rule) room before l
      ≡ (if nat_lt (length l) 4 then Crooked (length l)
      else (if not (nat_le 17 (four_at 0 l) && nat_le (four_at 0 l) 8388608) then Crooked 0
      else framed (four_at 0 l) (length l) (body (follows rule) room before (take (four_at 0 l) (drop 4 l)))))
  unfolding frame
  frame_form room before l = refl

  frame_rise : (room before : ℕ) (l : List ℕ) (es : Numbered) (n : ℕ) → frame (follows rule) room before l ≡ Framed es n → Rise rule before es
  frame_rise room before l es n is = short (nat_lt (length l) 4) (sym (frame_form room before l) ∙ is)
    where
      size : ℕ
      size = four_at 0 l

      held : Body
      held = body (follows rule) room before (take (four_at 0 l) (drop 4 l))

      whole : (h : Numbered) → held ≡ Holds h → (t : Bool) → (if t then Crooked (length l) else Framed h (4 + size)) ≡ Framed es n → Rise rule before es
      whole h h_is true is = absurd (cc)
      whole h h_is false is = let es_is : h ≡ es = cc in subst (Rise rule before) es_is (body_rise room before (take (four_at 0 l) (drop 4 l)) h h_is)

      read : (c : Body) → held ≡ c → framed size (length l) c ≡ Framed es n → Rise rule before es
      read (Breaks p) c_is is = absurd (cc)
      read (Holds h) c_is is = whole h c_is (nat_lt (length l) (4 + size)) is

      long : (t : Bool) → (if t then Crooked 0 else framed size (length l) held) ≡ Framed es n → Rise rule before es
      long true is = absurd (cc)
      long false is = read held refl is

      short : (t : Bool) → (if t then Crooked (length l) else (if not (nat_le 17 size && nat_le size 8388608) then Crooked 0 else framed size (length l) held)) ≡ Framed es n → Rise rule before es
      short true is = absurd (cc)
      short false is = long (not (nat_le 17 size && nat_le size 8388608)) is

-- ---- ALL FRAMES

walk_end : (rule : Rule) (skip before : ℕ) → walk rule (suc skip) before [] ≡ Fails 0
unfolding walk
walk_end rule skip before = refl

walk_byte : (rule : Rule) (skip before b : ℕ) (l : List ℕ) → walk rule (suc skip) before (b ∷ l) ≡ behind_byte (walk rule skip before l)
unfolding walk
walk_byte rule skip before b l = refl

walk_last : (rule : Rule) (before : ℕ) → walk rule 0 before [] ≡ (if is_full rule then Ends [] 0 else Fails 0)
unfolding walk
walk_last rule before = refl

walk_gate : (rule : Rule) (before b : ℕ) (l : List ℕ) → walk rule 0 before (b ∷ l)
    ≡ (if is_full rule then Ends [] 0
    else (if nat_eq b 1 then go_on (frame (follows rule) (room rule) before l) (λ entries size. walk (behind rule (length entries)) size (index_behind rule before entries) l)
    else at_shut rule))
unfolding walk
walk_gate rule before b l = refl

none_up : (before : ℕ) (es : Numbered) (g : ℕ) → Ends [] 0 ≡ Ends es g → Up before es
none_up before es g is = let none : [] ≡ es = cc in subst (Up before) none (tt {0})

shut_up : (rule : Rule) (before : ℕ) (es : Numbered) (g : ℕ) → at_shut rule ≡ Ends es g → Up before es
shut_up Appended before es g is = none_up before es g is
shut_up (Rewritten last left) before es g is = absurd (cc)

end_up : (before : ℕ) (es : Numbered) (g : ℕ) (t : Bool) → (if t then Ends [] 0 else Fails 0) ≡ Ends es g → Up before es
end_up before es g true is = none_up before es g is
end_up before es g false is = absurd (cc)

byte_up : (before : ℕ) (es : Numbered) (g : ℕ) (w : Walk) → ((more : Numbered) (h : ℕ) → w ≡ Ends more h → Up before more) → behind_byte w ≡ Ends es g → Up before es
byte_up before es g (Fails p) all is = absurd (cc)
byte_up before es g (Ends more h) all is = let same : more ≡ es = cc in subst (Up before) same (all more h refl)

pub walk_up : (rule : Rule) (l : List ℕ) (skip before : ℕ) (es : Numbered) (g : ℕ) → walk rule skip before l ≡ Ends es g → Up before es
walk_up rule [] (suc skip) before es g is = absurd (cc (walk_end rule skip before, is))
walk_up rule [] zero before es g is = end_up before es g (is_full rule) (sym (walk_last rule before) ∙ is)
walk_up rule (b ∷ l) (suc skip) before es g is = byte_up before es g (walk rule skip before l) (λ more h w. walk_up rule l skip before more h w) (sym (walk_byte rule skip before b l) ∙ is)
walk_up rule (b ∷ l) zero before es g is = full (λ r k m fs h w. walk_up r l k m fs h w) (is_full rule) (sym (walk_gate rule before b l) ∙ is)
  where
    F : Frame
    F = frame (follows rule) (room rule) before l

    R : Numbered → ℕ → Walk
    R entries size = walk (behind rule (length entries)) size (index_behind rule before entries) l

    All : Type 0
    All = (rule : Rule) (skip before : ℕ) (es : Numbered) (g : ℕ) → walk rule skip before l ≡ Ends es g → Up before es

    later : All → (ahead : Numbered) (n : ℕ) → F ≡ Framed ahead n → (w : Walk) → R ahead n ≡ w → behind_frame ahead w ≡ Ends es g → Up before es
    later all ahead n f_is (Fails p) w_is is = absurd (cc)
    later all ahead n f_is (Ends more h) w_is is =
        let same : ahead ++ more ≡ es = cc in
        let rise = frame_rise rule (room rule) before l ahead n f_is in
        let up = all (behind rule (length ahead)) n (index_behind rule before ahead) more h w_is in
        subst (Up before) same (up_join before ahead more rise.0 (subst (λ (k : ℕ). Up k more) rise.1 up))

    framed_as : All → (c : Frame) → F ≡ c → go_on c R ≡ Ends es g → Up before es
    framed_as all (Crooked p) f_is is = absurd (cc)
    framed_as all (Framed ahead n) f_is is = later all ahead n f_is (R ahead n) refl is

    gate : All → (t : Bool) → (if t then go_on F R else at_shut rule) ≡ Ends es g → Up before es
    gate all true is = framed_as all F refl is
    gate all false is = shut_up rule before es g is

    full : All → (t : Bool) → (if t then Ends [] 0 else (if nat_eq b 1 then go_on F R else at_shut rule)) ≡ Ends es g → Up before es
    full all true is = none_up before es g is
    full all false is = gate all (nat_eq b 1) is

-- ---- A PART

parse_opens : (id : FileId) (b : List ℕ) → is_open b ≡ true → parse id b ≡ described id (take 64 b) (drop 64 b) (first_wrong (descriptor_fields id (take 64 b)) (take 64 b))
unfolding parse_open
parse_opens id b is = ap (λ (t : Bool). if t then parse_open id (take 64 b) (drop 64 b) else Closed) is

parse_shut : (id : FileId) (b : List ℕ) → is_open b ≡ false → parse id b ≡ Closed
parse_shut id b is = ap (λ (t : Bool). if t then parse_open id (take 64 b) (drop 64 b) else Closed) is

-- the indexes of its entries rise, from its base on
pub part_up : (id : FileId) (b : List ℕ) (p : Part) → parse id b ≡ Whole p → Up (id.base - 1) p.entries
part_up id b p whole = ⊎_elim
    (λ opens. wrong (first_wrong (descriptor_fields id H) H) (sym (parse_opens id b opens) ∙ whole))
    (λ shuts. absurd (cc (parse_shut id b shuts, whole)))
    (cases_Bool (is_open b))
  where
    H : List ℕ
    H = take 64 b

    written : (rule : Rule) (w : Walk) → walk rule 0 (id.base - 1) (drop 64 b) ≡ w → rewritten_part id H w ≡ Whole p → Up (id.base - 1) p.entries
    written rule (Fails at) w_is is = absurd (cc)
    written rule (Ends es g) w_is is =
        let same : es ≡ p.entries = cc in
        subst (Up (id.base - 1)) same (walk_up rule (drop 64 b) 0 (id.base - 1) es g w_is)

    plain : (rule : Rule) (w : Walk) → walk rule 0 (id.base - 1) (drop 64 b) ≡ w → appended_part id H w ≡ Whole p → Up (id.base - 1) p.entries
    plain rule (Fails at) w_is is = absurd (cc)
    plain rule (Ends es g) w_is is =
        let same : es ≡ p.entries = cc in
        subst (Up (id.base - 1)) same (walk_up rule (drop 64 b) 0 (id.base - 1) es g w_is)

    by : (t : Bool) → part_as id H t (walk (rule_as t H) 0 (id.base - 1) (drop 64 b)) ≡ Whole p → Up (id.base - 1) p.entries
    by true is = written (rule_as true H) (walk (rule_as true H) 0 (id.base - 1) (drop 64 b)) refl is
    by false is = plain (rule_as false H) (walk (rule_as false H) 0 (id.base - 1) (drop 64 b)) refl is

    wrong : (o : Option ℕ) → described id H (drop 64 b) o ≡ Whole p → Up (id.base - 1) p.entries
    wrong (Some at) is = absurd (cc)
    wrong None is = by (is_rewritten H) is
