-- What a file is by its bytes up to its shut gate, and with a frame behind it.
use Rattle.std.proofs.Common.{◌≡◌, ℕ, zero, suc, ◌+◌, ◌<◌, ◌≤◌, Bool, true, false, not, ◌&&◌, nat_eq, nat_lt, nat_le, List, [], ◌∷◌, ◌++◌, length, take, drop, get_or, refl, sym, ap, subst, ◌∙◌, arith, if◌then◌else◌, append_assoc, length-append, length-take}
use Rattle.std.proofs.lemmas.List.{take-take, take-append-le, drop-take, append-nil}
use Rattle.std.proofs.lemmas.Bool.{ltb-false, le-ltb, eqb-true}
use Rattle.std.specs.Int.{w32, from_be_bytes}
use Rattle.segment_files.specs.Numbers.{four_at, number_at}
use Rattle.segment_files.specs.Parse.{Numbered, Follows, Body, Holds, Breaks, body, Frame, Framed, Crooked, framed, frame, Walk, Ends, Fails, behind_byte, behind_frame, go_on, is_next, frame_room, appended_walk, walk}

-- a frame by its size, the bytes that are there, and its body
abbrev form : ℕ → ℕ → Body → Frame
form size long b =
    if nat_lt long 4 then Crooked long
    else if not (nat_le 17 size && nat_le size 8388608) then Crooked 0
    else framed size long b

pub frame_form : (follows : Follows) (room before : ℕ) (l : List ℕ) → frame follows room before l ≡ form (four_at 0 l) (length l) (body follows room before (take (four_at 0 l) (drop 4 l)))
unfolding frame
frame_form follows room before l = refl

record FilesFit (size long n : ℕ) (es : Numbered) (b : Body) : Type 0 where
  pub size_is : n ≡ 4 + size
  pub within : n ≤ long
  pub whole : (more : ℕ) → n ≤ more → form size more b ≡ Framed es n

fits : (size long n : ℕ) (es : Numbered) (b : Body) → form size long b ≡ Framed es n → FilesFit size long n es b
fits size long n es b is = first (nat_lt long 4) refl is
  where
    out : ℕ → Frame
    out more = if not (nat_le 17 size && nat_le size 8388608) then Crooked 0 else framed size more b

    third : (h : Numbered) → b ≡ Holds h → not (nat_le 17 size && nat_le size 8388608) ≡ false → (t : Bool) → nat_lt long (4 + size) ≡ t → (if t then Crooked long else Framed h (4 + size)) ≡ Framed es n → FilesFit size long n es b
    third h b_is right true t_is is = absurd (cc)
    third h b_is right false t_is is =
        let n_is : n ≡ 4 + size = cc in
        let es_is : h ≡ es = cc in
        let low = ltb-false long (4 + size) t_is in
        record {
          size_is = n_is;
          within = omega (arith, n_is, low);
          whole = λ more le.
              let a : nat_lt more 4 ≡ false = le-ltb more 4 (omega (arith, n_is, le)) in
              let c : nat_lt more (4 + size) ≡ false = le-ltb more (4 + size) (omega (arith, n_is, le)) in
              ap (λ (t : Bool). if t then Crooked more else (if not (nat_le 17 size && nat_le size 8388608) then Crooked 0 else framed size more b)) a
              ∙ ap (λ (t : Bool). if t then Crooked 0 else framed size more b) right
              ∙ ap (λ (d : Body). framed size more d) b_is
              ∙ ap (λ (t : Bool). if t then Crooked more else Framed h (4 + size)) c
              ∙ is;
        }

    second : (t : Bool) → not (nat_le 17 size && nat_le size 8388608) ≡ t → (if t then Crooked 0 else framed size long b) ≡ Framed es n → FilesFit size long n es b
    second true t_is is = absurd (cc)
    second false t_is is = held b refl is
      where
        held : (d : Body) → b ≡ d → framed size long d ≡ Framed es n → FilesFit size long n es b
        held (Breaks p) d_is is = absurd (cc)
        held (Holds h) d_is is = third h d_is t_is (nat_lt long (4 + size)) refl is

    first : (t : Bool) → nat_lt long 4 ≡ t → (if t then Crooked long else (if not (nat_le 17 size && nat_le size 8388608) then Crooked 0 else framed size long b)) ≡ Framed es n → FilesFit size long n es b
    first true t_is is = absurd (cc)
    first false t_is is = second (not (nat_le 17 size && nat_le size 8388608)) refl is

-- a list that agrees with another up to there
agrees_long : (n : ℕ) (l c : List ℕ) → n ≤ length l → take n c ≡ take n l → n ≤ length c
agrees_long n l c le same = omega (arith, le, length-take n l, length-take n c, ap length same)

narrower : (m n : ℕ) (l c : List ℕ) → m ≤ n → take n c ≡ take n l → take m c ≡ take m l
narrower m n l c le same = sym (take-take m n c le) ∙ ap (λ (x : List ℕ). take m x) same ∙ take-take m n l le

numbers : (x y : List ℕ) → take 4 x ≡ take 4 y → four_at 0 x ≡ four_at 0 y
unfolding number_at
numbers x y same = ap (λ (k : List ℕ). from_be_bytes w32 k) same

-- A frame is read the same wherever its bytes stand.
pub frame_same : (follows : Follows) (room before n : ℕ) (es : Numbered) (l c : List ℕ) → frame follows room before l ≡ Framed es n → take n c ≡ take n l → frame follows room before c ≡ Framed es n
frame_same follows room before n es l c is same =
    let size = four_at 0 l in
    let f = fits size (length l) n es (body follows room before (take size (drop 4 l))) (sym (frame_form follows room before l) ∙ is) in
    let long : n ≤ length c = agrees_long n l c f.within same in
    let four : take 4 c ≡ take 4 l = narrower 4 n l c (omega (arith, f.size_is)) same in
    let n_at : take (4 + size) c ≡ take (4 + size) l = subst (λ (k : ℕ). take k c ≡ take k l) f.size_is same in
    let behind : take size (drop 4 c) ≡ take size (drop 4 l) = sym (drop-take 4 size c) ∙ ap (λ (x : List ℕ). drop 4 x) n_at ∙ drop-take 4 size l in
    frame_form follows room before c
    ∙ ap (λ (k : ℕ). form k (length c) (body follows room before (take k (drop 4 c)))) (numbers c l four)
    ∙ ap (λ (x : List ℕ). form size (length c) (body follows room before x)) behind
    ∙ f.whole (length c) long

pub frame_within : (follows : Follows) (room before n : ℕ) (es : Numbered) (l : List ℕ) → frame follows room before l ≡ Framed es n → n ≤ length l
frame_within follows room before n es l is =
    (fits (four_at 0 l) (length l) n es (body follows room before (take (four_at 0 l) (drop 4 l))) (sym (frame_form follows room before l) ∙ is)).within

-- THE WALK. What stands ahead of its shut gate, and what stands there.
abbrev pub extended : Numbered → ℕ → Walk → Walk
extended entries gate (Ends more at) = Ends (entries ++ more) (gate + at)
extended entries gate (Fails at) = Fails (gate + at)

extended_none : (w : Walk) → w ≡ extended [] 0 w
extended_none (Ends es g) = ap (λ (k : ℕ). Ends es k) (omega arith)
extended_none (Fails p) = ap (λ (k : ℕ). Fails k) (omega arith)

extended_byte : (es : Numbered) (g : ℕ) (w : Walk) → behind_byte (extended es g w) ≡ extended es (suc g) w
extended_byte es g (Ends more at) = ap (λ (k : ℕ). Ends (es ++ more) k) (omega arith)
extended_byte es g (Fails at) = ap (λ (k : ℕ). Fails k) (omega arith)

extended_frame : (ahead es : Numbered) (g : ℕ) (w : Walk) → behind_frame ahead (extended es g w) ≡ extended (ahead ++ es) (suc g) w
extended_frame ahead es g (Ends more at) = ap (λ (k : ℕ). Ends (ahead ++ (es ++ more)) k) (omega arith) ∙ ap (λ (x : Numbered). Ends x (suc g + at)) (sym (append_assoc ahead es more))
extended_frame ahead es g (Fails at) = ap (λ (k : ℕ). Fails k) (omega arith)

walk_skip : (k before b : ℕ) (l : List ℕ) → appended_walk (suc k) before (b ∷ l) ≡ behind_byte (appended_walk k before l)
unfolding walk
walk_skip k before b l = refl

walk_open : (before : ℕ) (l : List ℕ) → appended_walk 0 before (1 ∷ l) ≡ go_on (frame is_next frame_room before l) (λ entries size. appended_walk size (before + length entries) l)
unfolding walk
walk_open before l = refl

pub walk_shut : (before b : ℕ) (l : List ℕ) → nat_eq b 1 ≡ false → appended_walk 0 before (b ∷ l) ≡ Ends [] 0
unfolding walk
walk_shut before b l is = ap (λ (t : Bool). if t then go_on (frame is_next frame_room before l) (λ entries size. appended_walk size (before + length entries) l) else Ends [] 0) is

walk_none : (skip before : ℕ) → appended_walk skip before [] ≡ Fails 0
unfolding walk
walk_none zero before = refl
walk_none (suc skip) before = refl

-- what a walk that ends goes through: more bytes, a shut gate, or a frame
pub data Walked : ℕ → ℕ → List ℕ → Numbered → ℕ → Type 0 where
  By_byte : (skip before b : ℕ) (l : List ℕ) (es : Numbered) (g : ℕ) → Walked skip before l es g → Walked (suc skip) before (b ∷ l) es (suc g)
  At_gate : (before b : ℕ) (l : List ℕ) → nat_eq b 1 ≡ false → Walked 0 before (b ∷ l) [] 0
  By_frame : (before n : ℕ) (l : List ℕ) (ahead es : Numbered) (g : ℕ) → frame is_next frame_room before l ≡ Framed ahead n → Walked n (before + length ahead) l es g → Walked 0 before (1 ∷ l) (ahead ++ es) (suc g)

-- the same of all walks over these bytes
abbrev AllWalked : List ℕ → Type 0
AllWalked l = (skip before : ℕ) (es : Numbered) (g : ℕ) → appended_walk skip before l ≡ Ends es g → Walked skip before l es g

pub walked : (l : List ℕ) (skip before : ℕ) (es : Numbered) (g : ℕ) → appended_walk skip before l ≡ Ends es g → Walked skip before l es g
walked [] skip before es g is = absurd (cc (walk_none skip before, is))
walked (b ∷ l) (suc skip) before es g is = go (λ k m e j h. walked l k m e j h) (appended_walk skip before l) refl (sym (walk_skip skip before b l) ∙ is)
  where
    go : AllWalked l → (w : Walk) → appended_walk skip before l ≡ w → behind_byte w ≡ Ends es g → Walked (suc skip) before (b ∷ l) es g
    go all (Fails p) w_is is = absurd (cc)
    go all (Ends e k) w_is is =
        let e_is : e ≡ es = cc in
        let k_is : suc k ≡ g = cc in
        subst (λ (x : ℕ). Walked (suc skip) before (b ∷ l) es x) k_is
        (subst (λ (x : Numbered). Walked (suc skip) before (b ∷ l) x (suc k)) e_is
        (By_byte skip before b l e k (all skip before e k w_is)))
walked (b ∷ l) zero before es g is = gate (λ k m e j h. walked l k m e j h) (nat_eq b 1) refl
  where
    K : Numbered → ℕ → Walk
    K entries size = appended_walk size (before + length entries) l

    ending : AllWalked l → (ahead : Numbered) (n : ℕ) → frame is_next frame_room before l ≡ Framed ahead n → (w : Walk) → appended_walk n (before + length ahead) l ≡ w → behind_frame ahead w ≡ Ends es g → Walked 0 before (1 ∷ l) es g
    ending all ahead n f (Fails p) w_is is = absurd (cc)
    ending all ahead n f (Ends e k) w_is is =
        let e_is : ahead ++ e ≡ es = cc in
        let k_is : suc k ≡ g = cc in
        subst (λ (x : ℕ). Walked 0 before (1 ∷ l) es x) k_is
        (subst (λ (x : Numbered). Walked 0 before (1 ∷ l) x (suc k)) e_is
        (By_frame before n l ahead e k f (all n (before + length ahead) e k w_is)))

    framing : AllWalked l → (f : Frame) → frame is_next frame_room before l ≡ f → go_on f K ≡ Ends es g → Walked 0 before (1 ∷ l) es g
    framing all (Crooked p) f_is is = absurd (cc)
    framing all (Framed ahead n) f_is is = ending all ahead n f_is (K ahead n) refl is

    gate : AllWalked l → (t : Bool) → nat_eq b 1 ≡ t → Walked 0 before (b ∷ l) es g
    gate all true t_is =
        let one : b ≡ 1 = eqb-true b 1 t_is in
        let at_one : appended_walk 0 before (1 ∷ l) ≡ Ends es g = ap (λ (x : ℕ). appended_walk 0 before (x ∷ l)) (sym one) ∙ is in
        subst (λ (x : ℕ). Walked 0 before (x ∷ l) es g) (sym one) (framing all (frame is_next frame_room before l) refl (sym (walk_open before l) ∙ at_one))
    gate all false t_is =
        let both : Ends [] 0 ≡ Ends es g = sym (walk_shut before b l t_is) ∙ is in
        let es_is : [] ≡ es = cc in
        let g_is : 0 ≡ g = cc in
        subst (λ (x : ℕ). Walked 0 before (b ∷ l) es x) g_is (subst (λ (x : Numbered). Walked 0 before (b ∷ l) x 0) es_is (At_gate before b l t_is))

pub record Reach (skip g : ℕ) (l : List ℕ) : Type 0 where
  pub passed : skip ≤ g
  pub within : g < length l
  pub shut : nat_eq (get_or l g 0) 1 ≡ false

pub reach : (skip before : ℕ) (l : List ℕ) (es : Numbered) (g : ℕ) → Walked skip before l es g → Reach skip g l
reach _ _ _ _ _ (By_byte skip before b l es g w) = let r = reach skip before l es g w in record { passed = omega (arith, r.passed); within = omega (arith, r.within); shut = r.shut }
reach _ _ _ _ _ (At_gate before b l is) = record { passed = omega arith; within = omega arith; shut = is }
reach _ _ _ _ _ (By_frame before n l ahead es g f w) = let r = reach n (before + length ahead) l es g w in record { passed = omega arith; within = omega (arith, r.within); shut = r.shut }

pub extend : (skip before : ℕ) (l : List ℕ) (es : Numbered) (g : ℕ) → Walked skip before l es g → (rest : List ℕ)
    → appended_walk skip before (take g l ++ rest) ≡ extended es g (appended_walk 0 (before + length es) rest)
extend _ _ _ _ _ (By_byte skip before b l es g w) rest =
    walk_skip skip before b (take g l ++ rest)
    ∙ ap behind_byte (extend skip before l es g w rest)
    ∙ extended_byte es g (appended_walk 0 (before + length es) rest)
extend _ _ _ _ _ (At_gate before b l is) rest =
    extended_none (appended_walk 0 before rest)
    ∙ ap (λ (k : ℕ). extended [] 0 (appended_walk 0 k rest)) (omega arith)
extend _ _ _ _ _ (By_frame before n l ahead es g f w) rest =
    let r = reach n (before + length ahead) l es g w in
    let long : n ≤ length l = omega (arith, r.passed, r.within) in
    let n_same : take n (take g l ++ rest) ≡ take n l =
    take-append-le n (take g l) rest (omega (arith, r.passed, r.within, length-take g l)) ∙ take-take n g l r.passed in
    walk_open before (take g l ++ rest)
    ∙ ap (λ (x : Frame). go_on x (λ entries size. appended_walk size (before + length entries) (take g l ++ rest))) (frame_same is_next frame_room before n ahead l (take g l ++ rest) f n_same)
    ∙ ap (behind_frame ahead) (extend n (before + length ahead) l es g w rest)
    ∙ extended_frame ahead es g (appended_walk 0 (before + length ahead + length es) rest)
    ∙ ap (λ (k : ℕ). extended (ahead ++ es) (suc g) (appended_walk 0 k rest)) (omega (arith, length-append ahead es))

-- bytes that are passed
pass : (fb : List ℕ) (before : ℕ) (rest : List ℕ) → appended_walk (length fb) before (fb ++ rest) ≡ extended [] (length fb) (appended_walk 0 before rest)
pass [] before rest = extended_none (appended_walk 0 before rest)
pass (b ∷ fb) before rest = walk_skip (length fb) before b (fb ++ rest) ∙ ap behind_byte (pass fb before rest) ∙ extended_byte [] (length fb) (appended_walk 0 before rest)

-- one frame and a shut gate
pub one_frame : (before : ℕ) (fb : List ℕ) (new : Numbered) (x : ℕ) (rest : List ℕ) → frame is_next frame_room before fb ≡ Framed new (length fb) → nat_eq x 1 ≡ false
    → appended_walk 0 before (1 ∷ fb ++ x ∷ rest) ≡ Ends new (suc (length fb))
one_frame before fb new x rest is shut =
    walk_open before (fb ++ x ∷ rest)
    ∙ ap (λ (f : Frame). go_on f (λ entries size. appended_walk size (before + length entries) (fb ++ x ∷ rest))) (frame_same is_next frame_room before (length fb) new fb (fb ++ x ∷ rest) is (take-append-le (length fb) fb (x ∷ rest) (omega arith)))
    ∙ ap (behind_frame new) (pass fb (before + length new) (x ∷ rest) ∙ ap (extended [] (length fb)) (walk_shut (before + length new) x rest shut))
    ∙ ap (λ (e : Numbered). Ends e (suc (length fb + 0))) (append-nil new)
    ∙ ap (λ (k : ℕ). Ends new k) (omega arith)
