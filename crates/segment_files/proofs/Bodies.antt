-- How the entries of a frame's body are read, one after the other.
use Rattle.std.proofs.Common.{◌≡◌, ℕ, zero, suc, ◌+◌, ◌-◌, ◌<◌, ◌≤◌, Bool, true, false, not, ◌&&◌, List, [], ◌∷◌, ◌++◌, length, take, drop, Some, None, refl, sym, ap, subst, ◌∙◌, arith, if◌then◌else◌, append_assoc, length-append, length-take, length-drop}
use Rattle.std.proofs.lemmas.List.{append-nil, drop-drop, drop_all, take_all}
use Rattle.std.proofs.lemmas.Bool.{le-leb}
use Rattle.host_types.specs.declared.entry.Entry.{Entry}
use Rattle.entry_codec.specs.Spelled.{IsSpelledBy, number_spelled, body_spelled, spelled}
use Rattle.std.specs.Int.{w64, to_be_bytes}
use Rattle.entry_codec.specs.Reading.{Spelling, Spells, Spoils, spelling}
use Rattle.segment_files.specs.Numbers.{Eight, number_at}
use Rattle.segment_files.specs.declared.rule.Rule.{Rule}
use Rattle.segment_files.specs.Parse.{Numbered, Body, Holds, Breaks, Follows, with_entry, is_misplaced, spelled_first, first_of, body, follows, room}
use Rattle.segment_files.specs.Contents.{AreIn, Gained, Offset_list, ReadsBody, ReadsNext, last_read}
use Rattle.segment_files.specs.declared.windows.EntryRead.{EntryRead}
use Rattle.segment_files.specs.declared.windows.EntryRead.TheVariants.{Whole as Is_entry, Damaged as Is_no_entry}
use Rattle.segment_files.proofs.Indexes.{index_read}
use Rattle.segment_files.proofs.Placing.{in_none, in_one, in_more}
use Rattle.segment_files.proofs.PuttingDown.{follows_above, gained_more, gained_none, gained_one, last_low, last_pushed, reaches_index}

-- entries ahead of a body, and how many bytes they take
abbrev pub in_front : Numbered → ℕ → Body → Body
in_front ahead size (Holds entries) = Holds (ahead ++ entries)
in_front ahead size (Breaks place) = Breaks (size + place)

in_front_none : (d : Body) → d ≡ in_front [] 0 d
in_front_none (Holds entries) = refl
in_front_none (Breaks place) = ap (λ (k : ℕ). Breaks k) (omega arith)

in_front_one : (index : ℕ) (entry : Entry) (size : ℕ) (d : Body) → with_entry index entry size d ≡ in_front ((index, entry) ∷ []) size d
in_front_one index entry size (Holds entries) = refl
in_front_one index entry size (Breaks place) = refl

in_front_more : (es fs : Numbered) (a b : ℕ) (d : Body) → in_front es a (in_front fs b d) ≡ in_front (es ++ fs) (a + b) d
in_front_more es fs a b (Holds entries) = ap (λ (x : Numbered). Holds x) (sym (append_assoc es fs entries))
in_front_more es fs a b (Breaks place) = ap (λ (k : ℕ). Breaks k) (omega arith)

module _ (f : Follows) where
  body_one : (room before x : ℕ) (l : List ℕ) → body f (suc room) before (x ∷ l) ≡ first_of f before (x ∷ l) (λ index size. body f room index (drop size (x ∷ l)))
  unfolding body
  body_one room before x l = refl

  body_full : (before x : ℕ) (l : List ℕ) → body f 0 before (x ∷ l) ≡ Breaks 0
  unfolding body
  body_full before x l = refl

  pub body_end : (room before : ℕ) → body f room before [] ≡ Holds []
  unfolding body
  body_end zero before = refl
  body_end (suc room) before = refl

  -- where there are bytes left, and room
  pub body_more : (room before : ℕ) (l : List ℕ) → 0 < length l → body f (suc room) before l ≡ first_of f before l (λ index size. body f room index (drop size l))
  body_more room before [] some = absurd (omega arith)
  body_more room before (x ∷ l) some = body_one room before x l

  -- where there is no room
  body_no_room : (before : ℕ) (l : List ℕ) → 0 < length l → body f 0 before l ≡ Breaks 0
  body_no_room before [] some = absurd (omega arith)
  body_no_room before (x ∷ l) some = body_full before x l

  -- a body that isn't empty has an entry
  pub some_entry : (room before : ℕ) (l : List ℕ) (es : Numbered) → 0 < length l → body f room before l ≡ Holds es → 1 ≤ length es
  some_entry zero before l es some is = absurd (cc (is, body_no_room before l some))
  some_entry (suc room) before l es some is = placed (is_misplaced f before l) (sym (body_more room before l some) ∙ is)
    where
      last : (index : ℕ) (entry : Entry) (size : ℕ) (d : Body) → with_entry index entry size d ≡ Holds es → 1 ≤ length es
      last index entry size (Holds more) is = let same : (index, entry) ∷ more ≡ es = cc in omega (arith, ap length same)
      last index entry size (Breaks place) is = absurd (cc)

      by : (s : Spelling) → spelled_first s (λ index size. body f room index (drop size l)) ≡ Holds es → 1 ≤ length es
      by (Spoils place) is = absurd (cc)
      by (Spells index entry size) is = last index entry size (body f room index (drop size l)) is

      placed : (t : Bool) → (if t then Breaks 0 else spelled_first (spelling l) (λ index size. body f room index (drop size l))) ≡ Holds es → 1 ≤ length es
      placed true is = absurd (cc)
      placed false is = by (spelling l) is

-- THE BODY, as far as it was read
pub record BodyPassed (rule : Rule) (base : ℕ) (bytes : List ℕ) (place count at : ℕ) (old new : Offset_list) : Type 0 where
  pub gained : Gained rule base old new
  pub few : count ≤ room rule
  pub long : length gained.more ≡ count
  pub within : at ≤ length bytes
  pub walk : body (follows rule) (room rule) (last_read base old) bytes ≡ in_front gained.more at (body (follows rule) (room rule - count) (last_read base new) (drop at bytes))
  pub laid : AreIn base bytes place gained.more gained.offsets at

module _ (rule : Rule) (base : ℕ) (bytes : List ℕ) (place : ℕ) where
  abbrev f : Follows
  f = follows rule

  pub body_start : (old : Offset_list) → BodyPassed rule base bytes place 0 0 old old
  body_start old = record {
    gained = gained_none rule base old;
    few = omega arith;
    long = refl;
    within = omega arith;
    walk = in_front_none (body f (room rule) (last_read base old) bytes) ∙ ap (λ (k : ℕ). in_front [] 0 (body f k (last_read base old) bytes)) {x = room rule} {y = room rule - 0} (omega arith);
    laid = in_none base bytes place;
  }

  module _ (count at : ℕ) (old new : Offset_list) (passed : BodyPassed rule base bytes place count at old new) where
    abbrev rest : List ℕ
    rest = drop at bytes

    -- the index before the next
    abbrev now : ℕ
    now = last_read base new

    left : at < length bytes → 0 < length rest
    left lt = omega (arith, length-drop at bytes)

    breaks_with : (behind : ℕ) → body f (room rule - count) now rest ≡ Breaks behind → body f (room rule) (last_read base old) bytes ≡ Breaks (at + behind)
    breaks_with behind broken = passed.walk ∙ ap (in_front passed.gained.more at) broken

    -- it goes on, and no entry may follow
    pub breaks_full : at < length bytes → count ≡ room rule → ReadsBody rule base bytes place old new (Some at)
    breaks_full lt full =
        let none : room rule - count ≡ 0 = omega (arith, full) in
        let broken : body f (room rule) (last_read base old) bytes ≡ Breaks (at + 0) = breaks_with 0 (ap (λ (k : ℕ). body f k now rest) none ∙ body_no_room f now rest (left lt)) in
        record { gained = passed.gained; is = (broken ∙ ap (λ (k : ℕ). Breaks k) (omega arith), passed.within) }

    -- room for one more
    one_less : count < room rule → room rule - count ≡ suc (room rule - (count + 1))
    one_less lt = omega arith

    at_entry : at < length bytes → count < room rule → body f (room rule - count) now rest ≡ first_of f now rest (λ index size. body f (room rule - (count + 1)) index (drop size rest))
    at_entry lt some = ap (λ (k : ℕ). body f k now rest) (one_less some) ∙ body_more f (room rule - (count + 1)) now rest (left lt)

    room_left : (count ≡ room rule → ⊥) → count < room rule
    room_left not_full = let few = passed.few in omega arith

    -- no entry follows
    pub breaks_next : at < length bytes → (count ≡ room rule → ⊥) → (next : Offset_list) (behind : ℕ) → ReadsNext rule base rest (place + at) new next (Is_no_entry behind) → ReadsBody rule base bytes place old next (Some (at + behind))
    breaks_next lt not_full next behind none = subst (λ (l : Offset_list). ReadsBody rule base bytes place old l (Some (at + behind))) (sym none.1) (record {
      gained = passed.gained;
      is = (
        breaks_with behind (at_entry lt (room_left not_full) ∙ none.0 (λ index size. body f (room rule - (count + 1)) index (drop size rest))),
        (let low = none.2 in omega (arith, low, length-drop at bytes, lt)),
      );
    })

    -- with the entry that follows
    pub one_more : at < length bytes → (count ≡ room rule → ⊥) → (next : Offset_list) (size : ℕ) → ReadsNext rule base rest (place + at) new next (Is_entry size) → BodyPassed rule base bytes place (count + 1) (at + size) old next
    one_more lt not_full next size (index, entry, reads, t, items, some, short, by) =
        let es : Numbered = (index, entry) ∷ [] in
        let os : Offset_list = (index - base, place + at) ∷ [] in
        let last : last_read base next ≡ index = ap (last_read base) items ∙ last_pushed base new (index - base, place + at) ∙ reaches_index rule base new index t in
        let D = body f (room rule - (count + 1)) index (drop size rest) in
        record {
          gained = gained_more rule base old new next passed.gained (gained_one rule base new next index (place + at) entry t items);
          few = let some_room = room_left not_full in omega arith;
          long = omega (arith, length-append passed.gained.more es, passed.long);
          within = omega (arith, short, length-drop at bytes, lt);
          walk = passed.walk
              ∙ ap (in_front passed.gained.more at)
              (at_entry lt (room_left not_full)
              ∙ reads (λ index size. body f (room rule - (count + 1)) index (drop size rest))
              ∙ in_front_one index entry size D)
              ∙ in_front_more passed.gained.more es at size D
              ∙ ap (λ (k : ℕ). in_front (passed.gained.more ++ es) (at + size) (body f (room rule - (count + 1)) k (drop size rest))) (sym last)
              ∙ ap (λ (l : List ℕ). in_front (passed.gained.more ++ es) (at + size) (body f (room rule - (count + 1)) (last_read base next) l)) (drop-drop size at bytes);
          laid = in_more base bytes place passed.gained.more passed.gained.offsets at passed.laid size es os passed.within
              (in_one base rest (place + at) size index entry (omega (arith, follows_above rule now index t, last_low base new)) short some by);
        }

    -- to its end
    pub holds_all : length bytes ≤ at → ReadsBody rule base bytes place old new None
    holds_all le =
        let end : at ≡ length bytes = omega (arith, le, passed.within) in
        record {
          gained = passed.gained;
          is = (
            passed.walk
                ∙ ap (λ (l : List ℕ). in_front passed.gained.more at (body f (room rule - count) now l)) (drop_all at bytes le)
                ∙ ap (in_front passed.gained.more at) (body_end f (room rule - count) now)
                ∙ ap (λ (l : Numbered). Holds l) (append-nil passed.gained.more),
            omega (arith, passed.long, passed.few),
            subst (λ (k : ℕ). AreIn base bytes place passed.gained.more passed.gained.offsets k) end passed.laid,
          );
        }

-- what an entry is that was read, behind an index
module _ (f : Follows) (bytes : List ℕ) (before : ℕ) where
  by_place : (t : Bool) → is_misplaced f before bytes ≡ t → (rest : ℕ → ℕ → Body) → first_of f before bytes rest ≡ (if t then Breaks 0 else spelled_first (spelling bytes) rest)
  by_place t is rest = ap (λ (x : Bool). if x then Breaks 0 else spelled_first (spelling bytes) rest) is

  module _ (placed : is_misplaced f before bytes ≡ false) where
    by_spelling : (rest : ℕ → ℕ → Body) (s : Spelling) → spelling bytes ≡ s → first_of f before bytes rest ≡ spelled_first s rest
    by_spelling rest s spells = by_place false placed rest ∙ ap (λ (x : Spelling). spelled_first x rest) spells

    -- its index may stand there
    pub next_follows : (index : ℕ) (entry : Entry) (size : ℕ) → spelling bytes ≡ Spells index entry size → f before index ≡ true
    next_follows index entry size spells =
        let has = index_read bytes index entry size spells in
        let t = f before (number_at Eight 0 bytes) in
        let misplaced : not t ≡ false = ap (λ (x : Bool). x && not t) (sym (le-leb 8 (length bytes) has.whole)) ∙ placed in
        ap (f before) (sym has.is) ∙ is_true t misplaced
      where
        is_true : (t : Bool) → not t ≡ false → t ≡ true
        is_true true is = refl
        is_true false is = absurd (cc)

module _ (rule : Rule) (base : ℕ) (bytes : List ℕ) (place : ℕ) (old : Offset_list) where
  -- one that may not stand there, whatever else it is
  pub misplaced_next : is_misplaced (follows rule) (last_read base old) bytes ≡ true → ReadsNext rule base bytes place old old (Is_no_entry 0)
  misplaced_next is = (by_place (follows rule) bytes (last_read base old) true is, refl, omega arith)

  module _ (placed : is_misplaced (follows rule) (last_read base old) bytes ≡ false) where
    pub spoils_next : (at : ℕ) → spelling bytes ≡ Spoils at → at ≤ length bytes → ReadsNext rule base bytes place old old (Is_no_entry at)
    spoils_next at spoils low = ((λ rest. by_spelling (follows rule) bytes (last_read base old) placed rest (Spoils at) spoils), refl, low)

    pub fit_next : (next : Offset_list) (index : ℕ) (entry : Entry) (size : ℕ) → spelling bytes ≡ Spells index entry size → next ≡ old ++ (index - base, place) ∷ [] → 1 ≤ size → size ≤ length bytes
        → IsSpelledBy (take size bytes) index entry → ReadsNext rule base bytes place old next (Is_entry size)
    fit_next next index entry size spells items some short by = (
      index,
      entry,
      (λ rest. by_spelling (follows rule) bytes (last_read base old) placed rest (Spells index entry size) spells),
      next_follows (follows rule) bytes (last_read base old) placed index entry size spells,
      items,
      some,
      short,
      by,
    )

some_spelled : (index : ℕ) (entry : Entry) → 1 ≤ length (spelled index entry)
unfolding spelled number_spelled
some_spelled index entry = omega (arith, length-append (to_be_bytes w64 index) (to_be_bytes w64 entry.time ++ body_spelled entry.body))

-- an entry takes bytes
pub some_bytes : (bytes : List ℕ) (index : ℕ) (entry : Entry) (size : ℕ) → IsSpelledBy (take size bytes) index entry → 1 ≤ size
some_bytes bytes index entry size by = omega (arith, ap length by.exact, length-take size bytes, some_spelled index entry)

-- all that stands behind a place
all_behind : (bytes : List ℕ) (at : ℕ) → take (length bytes - at) (drop at bytes) ≡ drop at bytes
all_behind bytes at = take_all (length bytes - at) (drop at bytes) (omega (arith, length-drop at bytes))

-- what was read of the bytes from a place on
pub next_at : (rule : Rule) (base : ℕ) (bytes : List ℕ) (at place : ℕ) (old new : Offset_list) (a b : EntryRead) → a ≡ b → ReadsNext rule base (take (length bytes - at) (drop at bytes)) place old new a → ReadsNext rule base (drop at bytes) place old new b
next_at rule base bytes at place old new a b is read =
    subst (λ (l : List ℕ). ReadsNext rule base l place old new b) (all_behind bytes at) (subst (λ (x : EntryRead). ReadsNext rule base (take (length bytes - at) (drop at bytes)) place old new x) is read)
