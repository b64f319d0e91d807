-- Which bytes behind an open gate are a frame.
use Rattle.std.proofs.Common.{◌≡◌, ◌⊎◌, inl, inr, ⊎_elim, ℕ, ◌+◌, ◌-◌, ◌<◌, ◌≤◌, min, Bool, true, false, not, ◌&&◌, nat_lt, nat_le, List, ◌++◌, length, take, drop, Some, None, refl, sym, ap, subst, ◌∙◌, arith, if◌then◌else◌, length-take, length-drop, length-append}
use Rattle.std.proofs.lemmas.List.{append-nil, take_all, take-append-le, drop-append-le, get_or_append_left}
use Rattle.std.proofs.lemmas.Bool.{and_from, cases_lt, le-ltb, le-leb, lt-ltb, lt-leb}
use Rattle.std.specs.Int.{w32, w64, from_be_bytes}
use Rattle.segment_files.specs.declared.numbers.Size.{Size}
use Rattle.segment_files.specs.Numbers.{One, Four, Eight, bytes_of, number_at}
use Rattle.segment_files.specs.declared.rule.Rule.{Rule}
use Rattle.segment_files.specs.Parse.{Numbered, Body, Holds, Follows, body, body_limit, Frame, Framed, Crooked, framed, frame, follows, room}
use Rattle.segment_files.specs.Contents.{AreIn, MayFollow, Offset_list, ReadsBody, ReadsFrame, last_read}
use Rattle.segment_files.specs.declared.windows.FrameRead.TheVariants.{Whole as Is_whole, Cut as Is_cut, Damaged as Is_no_frame}
use Rattle.segment_files.proofs.Bodies.{some_entry}
use Rattle.segment_files.proofs.Placing.{in_body}
use Rattle.segment_files.proofs.PuttingDown.{gained_none}

-- a number is the same where more follows
pub number_ahead : (size : Size) (at : ℕ) (b rest : List ℕ) → at + bytes_of size ≤ length b → number_at size at (b ++ rest) ≡ number_at size at b
unfolding number_at
number_ahead One at b rest le = get_or_append_left b rest 0 at (omega (arith, le))
number_ahead Four at b rest le = ap (λ (x : List ℕ). from_be_bytes w32 x)
    (ap (λ (x : List ℕ). take 4 x) (drop-append-le at b rest (omega (arith, le))) ∙ take-append-le 4 (drop at b) rest (omega (arith, le, length-drop at b)))
number_ahead Eight at b rest le = ap (λ (x : List ℕ). from_be_bytes w64 x)
    (ap (λ (x : List ℕ). take 8 x) (drop-append-le at b rest (omega (arith, le))) ∙ take-append-le 8 (drop at b) rest (omega (arith, le, length-drop at b)))

-- a length that a body may have
abbrev pub fits : ℕ → Bool
fits size = nat_le 17 size && nat_le size body_limit

-- a frame by its size, the bytes that are there, and its body
abbrev pub form : ℕ → ℕ → Body → Frame
form size long b =
    if nat_lt long 4 then Crooked long
    else if not (fits size) then Crooked 0
    else framed size long b

abbrev pub body_in : Follows → ℕ → ℕ → ℕ → List ℕ → Body
body_in follows room before size l = body follows room before (take size (drop 4 l))

pub frame_form : (follows : Follows) (room before : ℕ) (l : List ℕ) → frame follows room before l ≡ form (number_at Four 0 l) (length l) (body_in follows room before (number_at Four 0 l) l)
unfolding frame
frame_form follows room before l = refl

-- by the three tests
form_few : (size long : ℕ) (b : Body) → long < 4 → form size long b ≡ Crooked long
form_few size long b few = ap (λ (t : Bool). if t then Crooked long else if not (fits size) then Crooked 0 else framed size long b) (lt-ltb long 4 few)

form_size : (size long : ℕ) (b : Body) → 4 ≤ long → fits size ≡ false → form size long b ≡ Crooked 0
form_size size long b some unfit =
    ap (λ (t : Bool). if t then Crooked long else if not (fits size) then Crooked 0 else framed size long b) (le-ltb long 4 some)
    ∙ ap (λ (t : Bool). if not t then Crooked 0 else framed size long b) unfit

form_body : (size long : ℕ) (b : Body) → 4 ≤ long → fits size ≡ true → form size long b ≡ framed size long b
form_body size long b some fit =
    ap (λ (t : Bool). if t then Crooked long else if not (fits size) then Crooked 0 else framed size long b) (le-ltb long 4 some)
    ∙ ap (λ (t : Bool). if not t then Crooked 0 else framed size long b) fit

pub form_whole : (size long : ℕ) (es : Numbered) → 4 + size ≤ long → fits size ≡ true → form size long (Holds es) ≡ Framed es (4 + size)
form_whole size long es le fit =
    ap (λ (t : Bool). if t then Crooked long else if not (fits size) then Crooked 0 else framed size long (Holds es)) (le-ltb long 4 (omega (arith, le)))
    ∙ ap (λ (t : Bool). if not t then Crooked 0 else framed size long (Holds es)) fit
    ∙ ap (λ (t : Bool). if t then Crooked long else Framed es (4 + size)) (le-ltb long (4 + size) le)

pub size_fits : (size : ℕ) → 17 ≤ size → size ≤ body_limit → fits size ≡ true
size_fits size least most = and_from (nat_le 17 size) (nat_le size body_limit) (le-leb 17 size least) (le-leb size body_limit most)

size_small : (size : ℕ) → size < 17 → fits size ≡ false
size_small size small = ap (λ (t : Bool). t && nat_le size body_limit) (lt-leb 17 size small)

size_large : (size : ℕ) → body_limit < size → fits size ≡ false
size_large size large = ap (λ (t : Bool). nat_le 17 size && t) (lt-leb size body_limit large) ∙ of (nat_le 17 size)
  where
    of : (t : Bool) → (t && false) ≡ false
    of true = refl
    of false = refl

module _ (rule : Rule) (base place : ℕ) (behind : List ℕ) (old : Offset_list) where
  abbrev f : Follows
  f = follows rule

  -- the index before the first
  abbrev before : ℕ
  before = last_read base old

  abbrev size : ℕ
  size = number_at Four 0 behind

  -- where the file ends, nothing follows
  at_end : (is_end : Bool) → is_end ≡ true → (rest : List ℕ) → MayFollow is_end rest → behind ++ rest ≡ behind
  at_end is_end is rest may = ap (λ (l : List ℕ). behind ++ l) (may is) ∙ append-nil behind

  -- less than a length
  pub cut_length : (is_end : Bool) → length behind < 4 → ReadsFrame rule base behind is_end place old old (if is_end then Is_no_frame (length behind) else Is_cut)
  cut_length true few = record {
    gained = gained_none rule base old;
    is = (
      (λ rest may.
          ap (frame f (room rule) before) (at_end true refl rest may)
          ∙ frame_form f (room rule) before behind
          ∙ form_few size (length behind) (body_in f (room rule) before size behind) few),
      omega arith,
    );
  }
  cut_length false few = record { gained = gained_none rule base old; is = (refl, refl, refl) }

  -- less than a body, where the file may go on
  pub cut_body : (is_end : Bool) → is_end ≡ false → ReadsFrame rule base behind is_end place old old Is_cut
  cut_body is_end is = record { gained = gained_none rule base old; is = (refl, refl, is) }

  module _ (long : 4 ≤ length behind) where
    -- what is behind the gate, where more follows
    form_ahead : (rest : List ℕ) → frame f (room rule) before (behind ++ rest) ≡ form size (length (behind ++ rest)) (body_in f (room rule) before size (behind ++ rest))
    form_ahead rest = frame_form f (room rule) before (behind ++ rest) ∙ ap (λ (k : ℕ). form k (length (behind ++ rest)) (body_in f (room rule) before k (behind ++ rest))) (number_ahead Four 0 behind rest (omega (arith, long)))

    more_there : (rest : List ℕ) → 4 ≤ length (behind ++ rest)
    more_there rest = omega (arith, long, length-append behind rest)

    pub no_frame_size : (is_end : Bool) → (size < 17) ⊎ (body_limit < size) → ReadsFrame rule base behind is_end place old old (Is_no_frame 0)
    no_frame_size is_end out = record {
      gained = gained_none rule base old;
      is = ((λ rest may. form_ahead rest ∙ form_size size (length (behind ++ rest)) (body_in f (room rule) before size (behind ++ rest)) (more_there rest) (unfit out)), omega arith);
    }
      where
        unfit : (size < 17) ⊎ (body_limit < size) → fits size ≡ false
        unfit (inl small) = size_small size small
        unfit (inr large) = size_large size large

    -- A body of which so many bytes are there: all of them, or those up to the end of the file.
    module _ (is_end : Bool) (there : ℕ) (least : 17 ≤ size) (most : size ≤ body_limit) (there_is : there ≡ min size (length behind - 4)) (enough : there < size → is_end ≡ true) where
      by_body : (rest : List ℕ) → frame f (room rule) before (behind ++ rest) ≡ framed size (length (behind ++ rest)) (body_in f (room rule) before size (behind ++ rest))
      by_body rest = form_ahead rest ∙ form_body size (length (behind ++ rest)) (body_in f (room rule) before size (behind ++ rest)) (more_there rest) (size_fits size least most)

      -- what is there of the body is all that there is
      all_there : (rest : List ℕ) → MayFollow is_end rest → take size (drop 4 (behind ++ rest)) ≡ take there (drop 4 behind)
      all_there rest may = ⊎_elim
          (λ less.
          let end = at_end is_end (enough less) rest may in
          ap (λ (l : List ℕ). take size (drop 4 l)) end
          ∙ take_all size (drop 4 behind) (omega (arith, there_is, less, length-drop 4 behind))
          ∙ sym (take_all there (drop 4 behind) (omega (arith, there_is, less, length-drop 4 behind))))
          (λ all.
          let same : there ≡ size = omega (arith, there_is, all) in
          ap (take size) (drop-append-le 4 behind rest long)
          ∙ take-append-le size (drop 4 behind) rest (omega (arith, there_is, all, length-drop 4 behind))
          ∙ ap (λ (k : ℕ). take k (drop 4 behind)) (sym same))
          (cases_lt there size)

      body_there : (rest : List ℕ) → MayFollow is_end rest → body_in f (room rule) before size (behind ++ rest) ≡ body f (room rule) before (take there (drop 4 behind))
      body_there rest may = ap (body f (room rule) before) (all_there rest may)

      -- it breaks
      pub frame_broken : (new : Offset_list) (at : ℕ) → ReadsBody rule base (take there (drop 4 behind)) (place + 4) old new (Some at) → ReadsFrame rule base behind is_end place old new (Is_no_frame (4 + at))
      frame_broken new at r = record {
        gained = r.gained;
        is = (
          (λ rest may. by_body rest ∙ ap (framed size (length (behind ++ rest))) (body_there rest may ∙ r.is.0)),
          (let low = r.is.1 in omega (arith, low, length-take there (drop 4 behind), length-drop 4 behind, long)),
        );
      }

      -- it is entries, and cut by the end of the file
      frame_short : (new : Offset_list) → length behind < 4 + size → ReadsBody rule base (take there (drop 4 behind)) (place + 4) old new None → ReadsFrame rule base behind is_end place old new (Is_no_frame (length behind))
      frame_short new short r =
          let end : is_end ≡ true = enough (omega (arith, there_is, short)) in
          record {
            gained = r.gained;
            is = (
              (λ rest may.
                  by_body rest
                  ∙ ap (framed size (length (behind ++ rest))) (body_there rest may ∙ r.is.0)
                  ∙ ap (λ (l : List ℕ). if nat_lt (length l) (4 + size) then Crooked (length l) else Framed r.gained.more (4 + size)) (at_end is_end end rest may)
                  ∙ ap (λ (t : Bool). if t then Crooked (length behind) else Framed r.gained.more (4 + size)) (lt-ltb (length behind) (4 + size) short)),
              omega arith,
            );
          }

      -- it is entries, and whole
      frame_whole : (new : Offset_list) → 4 + size ≤ length behind → ReadsBody rule base (take there (drop 4 behind)) (place + 4) old new None → ReadsFrame rule base behind is_end place old new (Is_whole (4 + size))
      frame_whole new le r =
          let same : there ≡ size = omega (arith, there_is, le) in
          let bytes_are : (rest : List ℕ) → take size (drop 4 (behind ++ rest)) ≡ take there (drop 4 behind) =
          λ rest. ap (take size) (drop-append-le 4 behind rest long) ∙ take-append-le size (drop 4 behind) rest (omega (arith, le, length-drop 4 behind)) ∙ ap (λ (k : ℕ). take k (drop 4 behind)) (sym same) in
          record {
            gained = r.gained;
            is = (
              (λ rest.
                  by_body rest
                  ∙ ap (λ (l : List ℕ). framed size (length (behind ++ rest)) (body f (room rule) before l)) (bytes_are rest)
                  ∙ ap (framed size (length (behind ++ rest))) r.is.0
                  ∙ ap (λ (t : Bool). if t then Crooked (length (behind ++ rest)) else Framed r.gained.more (4 + size)) (le-ltb (length (behind ++ rest)) (4 + size) (omega (arith, le, length-append behind rest)))),
              le,
              omega (arith, most),
              some_entry f (room rule) before (take there (drop 4 behind)) r.gained.more (omega (arith, same, length-take there (drop 4 behind), length-drop 4 behind, le, least)) r.is.0,
              r.is.1,
              in_body base behind place there size r.gained.more r.gained.offsets long
                  (subst (λ (n : ℕ). AreIn base (take there (drop 4 behind)) (place + 4) r.gained.more r.gained.offsets n) (omega (arith, same, length-take there (drop 4 behind), length-drop 4 behind, le)) r.is.2),
            );
          }

      pub frame_right : (new : Offset_list) → ReadsBody rule base (take there (drop 4 behind)) (place + 4) old new None
          → ReadsFrame rule base behind is_end place old new (if nat_lt (length behind) (4 + size) then Is_no_frame (length behind) else Is_whole (4 + size))
      frame_right new r = ⊎_elim
          (λ less. subst (λ (t : Bool). ReadsFrame rule base behind is_end place old new (if t then Is_no_frame (length behind) else Is_whole (4 + size))) (sym (lt-ltb (length behind) (4 + size) less)) (frame_short new less r))
          (λ more. subst (λ (t : Bool). ReadsFrame rule base behind is_end place old new (if t then Is_no_frame (length behind) else Is_whole (4 + size))) (sym (le-ltb (length behind) (4 + size) more)) (frame_whole new more r))
          (cases_lt (length behind) (4 + size))
