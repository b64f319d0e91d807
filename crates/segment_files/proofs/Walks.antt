-- How the walk over the frames goes on, from one frame to the next.
use Rattle.std.proofs.Common.{◌≡◌, ℕ, zero, suc, ◌+◌, ◌-◌, ◌*◌, ◌<◌, ◌≤◌, Bool, true, false, nat_eq, List, [], ◌∷◌, ◌++◌, length, take, drop, get_or, refl, sym, ap, subst, ◌∙◌, arith, if◌then◌else◌, append_assoc, length-append, length-drop}
use Rattle.std.proofs.lemmas.List.{append-nil, drop-drop, drop_more, drop-append-le, take_all}
use Rattle.std.proofs.lemmas.Bool.{eqb-true, ne_eqb}
use Rattle.segment_files.specs.declared.rule.Rule.{Rule}
use Rattle.segment_files.specs.declared.windows.Walked.TheVariants.{Gate, Rest, Damaged as Is_damaged}
use Rattle.segment_files.specs.declared.windows.FrameRead.{FrameRead}
use Rattle.segment_files.specs.declared.windows.FrameRead.TheVariants.{Whole as Is_whole, Cut as Is_cut, Damaged as Is_no_frame}
use Rattle.segment_files.specs.Parse.{Numbered, Frame, Framed, Crooked, frame, Appended, Rewritten, follows, room, is_full, behind, index_behind, Walk, Ends, Fails, behind_byte, behind_frame, go_on, at_shut, at_gate, walk}
use Rattle.segment_files.specs.Contents.{AreIn, Fills, Gained, HasRoom, IsPutDown, Offset_list, extended, frame_limit, last_read, ReadsFrame, ReadsWindow, walked_shut}
use Rattle.segment_files.proofs.Placing.{in_none, in_frame}
use Rattle.segment_files.proofs.PuttingDown.{behind_behind, gained_ahead, gained_length, gained_more, gained_none, index_same, room_behind}

pub extended_none : (w : Walk) → w ≡ extended [] 0 w
extended_none (Ends es g) = ap (λ (k : ℕ). Ends es k) (omega arith)
extended_none (Fails p) = ap (λ (k : ℕ). Fails k) (omega arith)

extended_byte : (es : Numbered) (g : ℕ) (w : Walk) → behind_byte (extended es g w) ≡ extended es (suc g) w
extended_byte es g (Ends more at) = ap (λ (k : ℕ). Ends (es ++ more) k) (omega arith)
extended_byte es g (Fails at) = ap (λ (k : ℕ). Fails k) (omega arith)

extended_frame : (ahead : Numbered) (g : ℕ) (w : Walk) → behind_frame ahead (extended [] g w) ≡ extended ahead (suc g) w
extended_frame ahead g (Ends more at) = ap (λ (k : ℕ). Ends (ahead ++ more) k) (omega arith)
extended_frame ahead g (Fails at) = ap (λ (k : ℕ). Fails k) (omega arith)

pub extended_more : (es fs : Numbered) (g h : ℕ) (w : Walk) → extended es g (extended fs h w) ≡ extended (es ++ fs) (g + h) w
extended_more es fs g h (Ends more at) = ap (λ (k : ℕ). Ends (es ++ (fs ++ more)) k) (omega arith) ∙ ap (λ (x : Numbered). Ends x (g + h + at)) (sym (append_assoc es fs more))
extended_more es fs g h (Fails at) = ap (λ (k : ℕ). Fails k) (omega arith)

walk_skip : (rule : Rule) (k before b : ℕ) (l : List ℕ) → walk rule (suc k) before (b ∷ l) ≡ behind_byte (walk rule k before l)
unfolding walk
walk_skip rule k before b l = refl

-- what goes on behind a frame
abbrev further : Rule → ℕ → List ℕ → Numbered → ℕ → Walk
further rule before l entries size = walk (behind rule (length entries)) size (index_behind rule before entries) l

-- what is at a byte in place of a gate
walk_one : (rule : Rule) (before b : ℕ) (l : List ℕ) → walk rule 0 before (b ∷ l) ≡ at_gate rule (if nat_eq b 1 then go_on (frame (follows rule) (room rule) before l) (further rule before l) else at_shut rule)
unfolding walk
walk_one rule before b l = refl

by_full : (rule : Rule) (t : Bool) (w : Walk) → is_full rule ≡ t → at_gate rule w ≡ (if t then Ends [] 0 else w)
by_full rule t w is = ap (λ (x : Bool). if x then Ends [] 0 else w) is

walk_open : (rule : Rule) (before : ℕ) (l : List ℕ) → is_full rule ≡ false → walk rule 0 before (1 ∷ l) ≡ go_on (frame (follows rule) (room rule) before l) (further rule before l)
walk_open rule before l more = walk_one rule before 1 l ∙ by_full rule false _ more

pub walk_shut : (rule : Rule) (before b : ℕ) (l : List ℕ) → is_full rule ≡ false → nat_eq b 1 ≡ false → walk rule 0 before (b ∷ l) ≡ at_shut rule
walk_shut rule before b l more is =
    walk_one rule before b l
    ∙ by_full rule false _ more
    ∙ ap (λ (t : Bool). if t then go_on (frame (follows rule) (room rule) before l) (further rule before l) else at_shut rule) is

pub walk_none : (rule : Rule) (before : ℕ) → walk rule 0 before [] ≡ at_gate rule (Fails 0)
unfolding walk
walk_none rule before = refl

-- all entries were read
pub walk_full : (rule : Rule) (before : ℕ) (l : List ℕ) → is_full rule ≡ true → walk rule 0 before l ≡ Ends [] 0
walk_full rule before [] full = walk_none rule before ∙ by_full rule true (Fails 0) full
walk_full rule before (b ∷ l) full = walk_one rule before b l ∙ by_full rule true _ full

pub fills : (rule : Rule) (n : ℕ) → HasRoom rule n → is_full (behind rule n) ≡ true → Fills rule n
fills Appended n has full = tt
fills (Rewritten last left) n has full = let none : left - n ≡ 0 = eqb-true (left - n) 0 full in omega (arith, none, has)

-- bytes that are passed
pass : (rule : Rule) (size before : ℕ) (l : List ℕ) → size ≤ length l → walk rule size before l ≡ extended [] size (walk rule 0 before (drop size l))
pass rule zero before l le = extended_none (walk rule 0 before l)
pass rule (suc size) before [] le = absurd (omega arith)
pass rule (suc size) before (b ∷ l) le = walk_skip rule size before b l ∙ ap behind_byte (pass rule size before l (omega arith)) ∙ extended_byte [] size (walk rule 0 before (drop size l))

-- over one whole frame
pub one_frame : (rule : Rule) (before size : ℕ) (es : Numbered) (l : List ℕ) → is_full rule ≡ false → size ≤ length l → frame (follows rule) (room rule) before l ≡ Framed es size
    → walk rule 0 before (1 ∷ l) ≡ extended es (suc size) (walk (behind rule (length es)) 0 (index_behind rule before es) (drop size l))
one_frame rule before size es l more le is =
    let r = behind rule (length es) in
    let k = index_behind rule before es in
    walk_open rule before l more
    ∙ ap (λ (f : Frame). go_on f (further rule before l)) is
    ∙ ap (behind_frame es) (pass r size k l le)
    ∙ extended_frame es size (walk r 0 k (drop size l))

-- behind an open gate that no frame follows
pub no_frame : (rule : Rule) (before place : ℕ) (l : List ℕ) → is_full rule ≡ false → frame (follows rule) (room rule) before l ≡ Crooked place → walk rule 0 before (1 ∷ l) ≡ Fails (suc place)
no_frame rule before place l more is = walk_open rule before l more ∙ ap (λ (f : Frame). go_on f (further rule before l)) is

-- THE WINDOW, as far as it was read: whole frames.
pub record Passed (rule : Rule) (base : ℕ) (window : List ℕ) (place : ℕ) (old new : Offset_list) (at : ℕ) : Type 0 where
  pub gained : Gained rule base old new
  pub within : at ≤ length window
  pub walk : (rest : List ℕ) → walk (behind rule (length old)) 0 (last_read base old) (window ++ rest) ≡ extended gained.more at (walk (behind rule (length new)) 0 (last_read base new) (drop at window ++ rest))
  pub laid : AreIn base window place gained.more gained.offsets at

pub passed_none : (rule : Rule) (base : ℕ) (window : List ℕ) (place : ℕ) (old : Offset_list) → Passed rule base window place old old 0
passed_none rule base window place old = record {
  gained = gained_none rule base old;
  within = omega arith;
  walk = λ rest. extended_none (walk (behind rule (length old)) 0 (last_read base old) (window ++ rest));
  laid = in_none base window place;
}

module _ (rule : Rule) (base : ℕ) (window : List ℕ) (is_end : Bool) (place : ℕ) (old new : Offset_list) (at : ℕ) (passed : Passed rule base window place old new at) where
  abbrev g : Gained rule base old new
  g = passed.gained

  abbrev start : Rule
  start = behind rule (length old)

  -- the rule, and the index before the next
  abbrev here : Rule
  here = behind rule (length new)

  abbrev now : ℕ
  now = last_read base new

  abbrev after : List ℕ
  after = drop (at + 1) window

  many : length new ≡ length old + length g.more
  many = gained_length rule base old new g

  -- what is left of the rule, as it is told from the start
  rule_left : behind start (length g.more) ≡ here
  rule_left = behind_behind rule (length old) (length g.more) ∙ ap (behind rule) (sym many)

  index_left : index_behind start (last_read base old) g.more ≡ now
  index_left = index_same rule (length old) (last_read base old) g.more ∙ sym g.last

  at_byte : (b : ℕ) → at < length window → get_or window at 0 ≡ b → drop at window ≡ b ∷ after
  at_byte b lt is = drop_more window at 0 lt ∙ ap (λ (x : ℕ). x ∷ after) is

  -- the walk from the byte that was come to
  from_byte : (b : ℕ) → at < length window → get_or window at 0 ≡ b → (rest : List ℕ) → walk start 0 (last_read base old) (window ++ rest) ≡ extended g.more at (walk here 0 now (b ∷ (after ++ rest)))
  from_byte b lt is rest = passed.walk rest ∙ ap (λ (l : List ℕ). extended g.more at (walk here 0 now (l ++ rest))) (at_byte b lt is)

  ends_here : (w : Walk) → w ≡ Ends [] 0 → extended g.more at w ≡ Ends g.more at
  ends_here w is = ap (extended g.more at) is ∙ ap (λ (l : Numbered). Ends l (at + 0)) (append-nil g.more) ∙ ap (λ (k : ℕ). Ends g.more k) (omega arith)

  -- all entries were read
  pub ends_full : HasRoom rule (length new) → is_full here ≡ true → ReadsWindow rule base window is_end place old new (Gate at)
  ends_full has full = record {
    gained = g;
    within = passed.within;
    walk = λ rest may. passed.walk rest ∙ ends_here (walk here 0 now (drop at window ++ rest)) (walk_full here now (drop at window ++ rest) full);
    full = fills rule (length new) has full;
    laid = passed.laid;
    all = tt;
  }

  -- a gate that isn't open
  pub ends_shut : is_full here ≡ false → at < length window → (get_or window at 0 ≡ 1 → ⊥) → ReadsWindow rule base window is_end place old new (walked_shut here at)
  ends_shut more lt shut = by rule refl
    where
      b : ℕ
      b = get_or window at 0

      byte : nat_eq (get_or window at 0) 1 ≡ false
      byte = ne_eqb (get_or window at 0) 1 shut

      walks : (rest : List ℕ) → walk start 0 (last_read base old) (window ++ rest) ≡ extended g.more at (at_shut here)
      walks rest = from_byte b lt refl rest ∙ ap (extended g.more at) (walk_shut here now b (after ++ rest) more byte)

      by : (r : Rule) → r ≡ rule → ReadsWindow rule base window is_end place old new (walked_shut (behind rule (length new)) at)
      by Appended is = subst (λ (r : Rule). ReadsWindow rule base window is_end place old new (walked_shut (behind r (length new)) at)) is (record {
        gained = g;
        within = passed.within;
        walk = λ rest may. walks rest ∙ ends_here (at_shut here) (ap (λ (r : Rule). at_shut (behind r (length new))) (sym is));
        full = subst (λ (r : Rule). Fills r (length new)) is tt;
        laid = passed.laid;
        all = tt;
      })
      by (Rewritten last left) is = subst (λ (r : Rule). ReadsWindow rule base window is_end place old new (walked_shut (behind r (length new)) at)) is (record {
        gained = g;
        within = passed.within;
        walk = λ rest may. walks rest ∙ ap (λ (r : Rule). extended g.more at (at_shut (behind r (length new)))) (sym is) ∙ ap (λ (k : ℕ). Fails k) (omega arith);
        full = tt;
        laid = tt;
        all = tt;
      })

  as_rest : (rest : List ℕ) → walk start 0 (last_read base old) (window ++ rest) ≡ extended g.more at (walk (behind start (length g.more)) 0 (index_behind start (last_read base old) g.more) (drop at (window ++ rest)))
  as_rest rest =
      passed.walk rest
      ∙ ap (λ (l : List ℕ). extended g.more at (walk here 0 now l)) (sym (drop-append-le at window rest passed.within))
      ∙ ap (λ (r : Rule). extended g.more at (walk r 0 now (drop at (window ++ rest)))) (sym rule_left)
      ∙ ap (λ (k : ℕ). extended g.more at (walk (behind start (length g.more)) 0 k (drop at (window ++ rest)))) (sym index_left)

  -- the end
  pub ends_all : length window ≤ at → ReadsWindow rule base window is_end place old new (Rest at)
  ends_all le = record { gained = g; within = passed.within; walk = λ rest may. as_rest rest; full = tt; laid = passed.laid; all = λ is. le }

  module _ (more : is_full here ≡ false) (lt : at < length window) (opened : get_or window at 0 ≡ 1) (next : Offset_list) where
    -- a frame
    pub passed_frame : (size : ℕ) → ReadsFrame here base after is_end (place + at + 1) new next (Is_whole size) → Passed rule base window place old next (at + (1 + size))
    passed_frame size r =
        let h = gained_ahead rule (length new) base new next r.gained in
        let es = h.more in
        let (framed, long, short, some, few, laid) = r.is in
        let all = gained_more rule base old new next g h in
        let rule_next : behind here (length es) ≡ behind rule (length next) = behind_behind rule (length new) (length es) ∙ ap (behind rule) (sym (gained_length rule base new next h)) in
        let last_next : index_behind here now es ≡ last_read base next = sym r.gained.last in
        record {
          gained = all;
          within = omega (arith, long, length-drop (at + 1) window, lt);
          walk = λ rest.
              from_byte 1 lt opened rest
              ∙ ap (extended g.more at) (one_frame here now size es (after ++ rest) more (omega (arith, long, length-append after rest)) (framed rest))
              ∙ extended_more g.more es at (suc size) (walk (behind here (length es)) 0 (index_behind here now es) (drop size (after ++ rest)))
              ∙ ap (λ (l : List ℕ). extended (g.more ++ es) (at + suc size) (walk (behind here (length es)) 0 (index_behind here now es) l))
              (drop-append-le size after rest long ∙ ap (λ (l : List ℕ). l ++ rest) (drop-drop size (at + 1) window ∙ ap (λ (j : ℕ). drop j window) (omega arith)))
              ∙ ap (λ (x : Rule). extended (g.more ++ es) (at + suc size) (walk x 0 (index_behind here now es) (drop (at + (1 + size)) window ++ rest))) rule_next
              ∙ ap (λ (j : ℕ). extended (g.more ++ es) (at + suc size) (walk (behind rule (length next)) 0 j (drop (at + (1 + size)) window ++ rest))) last_next
              ∙ ap (λ (j : ℕ). extended (g.more ++ es) j (walk (behind rule (length next)) 0 (last_read base next) (drop (at + (1 + size)) window ++ rest))) (omega arith);
          laid = in_frame base window place g.more g.offsets at passed.laid size es h.offsets lt laid;
        }

    pub room_frame : (size : ℕ) → HasRoom rule (length new) → ReadsFrame here base after is_end (place + at + 1) new next (Is_whole size) → HasRoom rule (length next)
    room_frame size has r =
        let (framed, long, short, some, few, laid) = r.is in
        subst (HasRoom rule) (sym (gained_length here base new next r.gained)) (room_behind rule (length new) (length r.gained.more) has few)

    pub passed_measured : (size : ℕ) → ReadsFrame here base after is_end (place + at + 1) new next (Is_whole size) → at + frame_limit * length old ≤ frame_limit * length new → at + (1 + size) + frame_limit * length old ≤ frame_limit * length next
    passed_measured size r so_far =
        let (framed, long, short, some, few, laid) = r.is in
        omega (arith, short, some, gained_length here base new next r.gained, so_far)

    -- too little of a frame
    cut_same : ReadsFrame here base after is_end (place + at + 1) new next Is_cut → new ≡ next
    cut_same r = sym (r.gained.items ∙ ap (λ (l : Offset_list). new ++ l) r.is.1 ∙ append-nil new)

    pub rests : ReadsFrame here base after is_end (place + at + 1) new next Is_cut → ReadsWindow rule base window is_end place old next (Rest at)
    rests r = subst (λ (l : Offset_list). ReadsWindow rule base window is_end place old l (Rest at)) (cut_same r)
        (record { gained = g; within = passed.within; walk = λ rest may. as_rest rest; full = tt; laid = passed.laid; all = λ is. absurd (cc (is, r.is.2)) })

    pub rests_measured : ReadsFrame here base after is_end (place + at + 1) new next Is_cut → at + frame_limit * length old ≤ frame_limit * length new → at + frame_limit * length old ≤ frame_limit * length next
    rests_measured r so_far = subst (λ (l : Offset_list). at + frame_limit * length old ≤ frame_limit * length l) (cut_same r) so_far

    pub rests_room : ReadsFrame here base after is_end (place + at + 1) new next Is_cut → HasRoom rule (length new) → HasRoom rule (length next)
    rests_room r has = subst (λ (l : Offset_list). HasRoom rule (length l)) (cut_same r) has

    pub rests_put : ReadsFrame here base after is_end (place + at + 1) new next Is_cut → IsPutDown rule base new (place + at) → IsPutDown rule base next (place + at)
    rests_put r put = subst (λ (l : Offset_list). IsPutDown rule base l (place + at)) (cut_same r) put

    -- a frame that isn't right
    pub breaks : (damage : ℕ) → ReadsFrame here base after is_end (place + at + 1) new next (Is_no_frame damage) → ReadsWindow rule base window is_end place old next (Is_damaged (at + 1 + damage))
    breaks damage r = record {
      gained = gained_more rule base old new next g (gained_ahead rule (length new) base new next r.gained);
      within = (let low = r.is.1 in omega (arith, low, length-drop (at + 1) window, lt));
      walk = λ rest may.
          from_byte 1 lt opened rest
          ∙ ap (extended g.more at) (no_frame here now damage (after ++ rest) more (r.is.0 rest may))
          ∙ ap (λ (j : ℕ). Fails j) (omega arith);
      full = tt;
      laid = tt;
      all = tt;
    }

-- what was read of the window behind a gate
pub frame_at : (rule : Rule) (base : ℕ) (window : List ℕ) (is_end : Bool) (at place : ℕ) (old new : Offset_list) (a b : FrameRead) → at < length window → a ≡ b
    → ReadsFrame rule base (take (length window - (at + 1)) (drop (at + 1) window)) is_end place old new a → ReadsFrame rule base (drop (at + 1) window) is_end place old new b
frame_at rule base window is_end at place old new a b lt is read =
    subst (λ (l : List ℕ). ReadsFrame rule base l is_end place old new b) (take_all (length window - (at + 1)) (drop (at + 1) window) (omega (arith, length-drop (at + 1) window)))
    (subst (λ (x : FrameRead). ReadsFrame rule base (take (length window - (at + 1)) (drop (at + 1) window)) is_end place old new x) is read)
