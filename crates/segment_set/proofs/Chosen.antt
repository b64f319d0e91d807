-- The files that are kept are the parts of their folder, or the first of them that stands apart is the first part that does.
use Rattle.std.proofs.Common.{◌≡◌, ◌≢◌, ◌⊎◌, inl, inr, ⊎_elim, ℕ, ◌+◌, ◌-◌, ◌≤◌, ◌<◌, List, [], ◌∷◌, ◌++◌, refl, sym, ap, subst, ◌∙◌, arith, Contains}
use Rattle.std.proofs.lemmas.Bool.{cases_lt}
use Rattle.std.proofs.lemmas.List.Elements.{Contains-append_right, Contains-append_left, Contains-append_cases, Contains-push_cases, Contains-push}
use Rattle.disk_model.specs.declared.file_id.FileId.{FileId}
use Rattle.disk_model.specs.Image.{IsBelow}
use Rattle.segment_files.specs.Parse.{Part, Found, Closed, Whole, Damaged}
use Rattle.segment_files.specs.Folder.{Folder, Tiles}
use Rattle.segment_set.specs.declared.opened.Opened.{Opened}
use Rattle.segment_set.specs.Fits.{part_list, parts_of}
use Rattle.segment_files.specs.Folder.{Span, span, LiesIn, IsChoice, IsPart, IsUntiled}
use Rattle.segment_set.specs.Sifting.{opened_span, IsOpenedAs, AreOpen, Ends, AreStacked, Sifted, IsFirstApart, IsLastEmpty}
use Rattle.segment_set.proofs.Images.{nothing, one_of, here, only_one}
use Rattle.segment_set.proofs.Lying.{further, stack_front, not_in_itself, hardly_empty, there}
use Rattle.segment_set.proofs.Picking.{below_apart, below_not}

-- ---- STACKED files

-- what is right before another one and empty lies in it
empty_lies : (b c : Opened) → IsBelow b.id c.id → c.id.base ≡ b.part.last + 1 → b.id.base ≡ c.id.base → LiesIn (opened_span b) (opened_span c)
empty_lies b c below at same =
    record { newer = newer below; base = omega (arith, same); last = omega (arith, at, hardly_empty c); touches = inr same }
  where
    newer : IsBelow b.id c.id → b.id.generation < c.id.generation
    newer (inl less) = absurd (omega (arith, less, same))
    newer (inr is) = is.1

base_below : (a b : FileId) → IsBelow a b → a.base ≤ b.base
base_below a b (inl less) = omega (arith, less)
base_below a b (inr is) = omega (arith, is.0)

-- None of those that stand end to end lies in any of the stack, nor does the one behind them.
pub none_in : (from : ℕ) (front : List Opened) (next : ℕ) (one : Opened) (rest : List Opened) → AreStacked (front ++ one ∷ rest) → Ends from front next
    → (x y : Opened) → Contains (front ++ one ∷ []) x → Contains (front ++ one ∷ rest) y → LiesIn (opened_span x) (opened_span y) → ⊥
none_in from [] next one rest s ends x y has_x has_y lies = ⊎_elim
    (λ is. not_in_itself (opened_span y) (subst (λ (o : Opened). LiesIn (opened_span o) (opened_span y)) (sym (only_one one x has_x) ∙ is) lies))
    (λ later. (s.0 y later).1 (subst (λ (o : Opened). LiesIn (opened_span o) (opened_span y)) (sym (only_one one x has_x)) lies))
    (one_of one rest y has_y)
none_in from (b ∷ front) next one rest s ends x y has_x has_y lies = ⊎_elim
    (λ is_x. ⊎_elim
    (λ is_y. not_in_itself (opened_span y) (subst (λ (o : Opened). LiesIn (opened_span o) (opened_span y)) (sym is_x ∙ is_y) lies))
    (λ later_y. (s.0 y later_y).1 (subst (λ (o : Opened). LiesIn (opened_span o) (opened_span y)) (sym is_x) lies))
    (one_of b (front ++ one ∷ rest) y has_y))
    (λ later_x. ⊎_elim
    (λ is_y. back front s ends.1 later_x (subst (λ (o : Opened). LiesIn (opened_span x) (opened_span o)) (sym is_y) lies))
    (λ later_y. none_in (b.part.last + 1) front next one rest s.2 ends.1 x y later_x later_y lies)
    (one_of b (front ++ one ∷ rest) y has_y))
    (one_of b (front ++ one ∷ []) x has_x)
  where
    in_rest : (front : List Opened) → Contains (front ++ one ∷ []) x → Contains (front ++ one ∷ rest) x
    in_rest front has = ⊎_elim
        (λ old. Contains-append_left front (one ∷ rest) x old)
        (λ is. Contains-append_right front (one ∷ rest) x (subst (λ (o : Opened). Contains (one ∷ rest) o) is (here one rest)))
        (Contains-push_cases front one x has)

    -- it begins behind the end of the first one
    back : (front : List Opened) → AreStacked (b ∷ front ++ one ∷ rest) → Ends (b.part.last + 1) front next → Contains (front ++ one ∷ []) x → LiesIn (opened_span x) (opened_span b) → ⊥
    back [] s ends has lies = s.1 (subst (λ (o : Opened). LiesIn (opened_span o) (opened_span b)) (sym (only_one one x has)) lies)
    back (c ∷ front) s ends has lies = ⊎_elim
        (λ is. s.1 (subst (λ (o : Opened). LiesIn (opened_span o) (opened_span b)) (sym is) lies))
        (λ later. let low = base_below c.id x.id (s.2.0 x (in_rest front later)).0 in
        ⊎_elim
        (λ within. omega (arith, within, low, ends.0))
        (λ same. let first = s.0 c (here c (front ++ one ∷ rest)) in
        first.1 (empty_lies b c first.0 ends.0 (omega (arith, same, low, ends.0, base_below b.id c.id first.0))))
        lies.touches)
        (one_of c (front ++ one ∷ []) x has)

-- where one stands among them
pub ahead : (front : List Opened) (one : Opened) (rest : List Opened) → AreStacked (front ++ one ∷ rest) → (o : Opened) → Contains front o → IsBelow o.id one.id
ahead [] one rest s o has = absurd (nothing o has)
ahead (b ∷ front) one rest s o has = ⊎_elim
    (λ is. subst (λ (p : Opened). IsBelow p.id one.id) is (s.0 one (Contains-append_right front (one ∷ rest) one (here one rest))).0)
    (λ later. ahead front one rest s.2 o later)
    (one_of b front o has)

pub behind : (front : List Opened) (one : Opened) (rest : List Opened) → AreStacked (front ++ one ∷ rest) → (o : Opened) → Contains rest o → IsBelow one.id o.id
behind [] one rest s o has = (s.0 o has).0
behind (b ∷ front) one rest s o has = behind front one rest s.2 o has

pub ends_some : (from : ℕ) (xs : List Opened) (to : ℕ) → 1 ≤ from → Ends from xs to → 1 ≤ to
ends_some from [] to some is = omega (arith, some, is)
ends_some from (o ∷ xs) to some is = ends_some (o.part.last + 1) xs to (omega arith) is.1

-- ---- PARTS of a folder

whole_of : (f : Found) (p : Part) → Contains (part_list f) p → f ≡ Whole p
whole_of Closed p has = absurd (nothing p has)
whole_of (Whole q) p has = ap Whole (only_one q p has)
whole_of (Damaged at) p has = absurd (nothing p has)

pub parts_from : (files : Folder) (os : List Opened) (p : Part) → Contains (parts_of files os) p → (o : Opened) × Contains os o × (files o.id ≡ Whole p)
parts_from files [] p has = absurd (nothing p has)
parts_from files (x ∷ os) p has = ⊎_elim
    (λ first. (x, here x os, whole_of (files x.id) p first))
    (λ later. let o = parts_from files os p later in (o.0, there x os o.0 o.1, o.2))
    (Contains-append_cases (part_list (files x.id)) (parts_of files os) p has)

pub parts_has : (files : Folder) (os : List Opened) (o : Opened) (p : Part) → Contains os o → files o.id ≡ Whole p → Contains (parts_of files os) p
parts_has files [] o p has whole = absurd (nothing o has)
parts_has files (x ∷ os) o p has whole = ⊎_elim
    (λ is. Contains-append_left (part_list (files x.id)) (parts_of files os) p (subst (λ (f : Found). Contains (part_list f) p) (sym whole ∙ ap (λ (b : Opened). files b.id) (sym is)) (here p [])))
    (λ later. Contains-append_right (part_list (files x.id)) (parts_of files os) p (parts_has files os o p later whole))
    (one_of x os o has)

-- files that stand end to end, as parts
pub tiles_of : (files : Folder) (from : ℕ) (os : List Opened) (last : ℕ) → AreStacked os → Ends from os (last + 1) → ((o : Opened) → Contains os o → IsOpenedAs files o) → Tiles from (parts_of files os) last
tiles_of files from [] last s ends each = ends
tiles_of files from (o ∷ os) last s ends each =
    let e = each o (here o os) in
    let base : e.0.id.base ≡ o.id.base = ap (λ (t : Span). t.id.base) e.2 in
    let end : e.0.last ≡ o.part.last = ap (λ (t : Span). t.last) e.2 in
    let rest = tiles_of files (o.part.last + 1) os last s.2 ends.1 (λ x has. each x (there o os x has)) in
    subst (λ (l : List Part). Tiles from (l ++ parts_of files os) last) (sym (ap part_list e.1))
    (base ∙ ends.0, either e.0 base end os s ends.1, subst (λ (n : ℕ). Tiles (n + 1) (parts_of files os) last) (sym end) rest)
  where
    either : (p : Part) → p.id.base ≡ o.id.base → p.last ≡ o.part.last → (os : List Opened) → AreStacked (o ∷ os) → Ends (o.part.last + 1) os (last + 1) → (p.id.base ≤ p.last) ⊎ ((p.last + 1 ≡ p.id.base) × (parts_of files os ≡ []))
    either p base end [] s ends = ⊎_elim (λ empty. inr (omega (arith, empty, base, end, hardly_empty o), refl)) (λ full. inl full) (cases_lt p.last p.id.base)
    either p base end (c ∷ os) s ends = ⊎_elim
        (λ empty. let first = s.0 c (here c os) in
        absurd (first.1 (empty_lies o c first.0 ends.0 (omega (arith, empty, base, end, ends.0, base_below o.id c.id first.0)))))
        (λ full. inl full)
        (cases_lt p.last p.id.base)

-- ---- WHAT WAS KEPT

module _ (files : Folder) (opened kept : List Opened) (covered : List FileId) (s : Sifted opened kept covered kept) (a : AreOpen files opened) where
  -- an open file is among those that were opened
  of_whole : (id : FileId) (q : Part) → files id ≡ Whole q → (o : Opened) × Contains opened o × (o.id ≡ id) × (files o.id ≡ Whole q) × (span q ≡ opened_span o)
  of_whole id q whole = ⊎_elim
      (λ closed. absurd (cc (closed, whole)))
      (λ one. let e = a.each one.0 one.1 in
      let same_file : files one.0.id ≡ Whole q = ap files one.2 ∙ whole in
      let same : e.0 ≡ q = cc (e.1, same_file) in
      (one.0, one.1, one.2, same_file, ap span (sym same) ∙ e.2))
      (a.all id)

  kept_as : (o : Opened) → Contains kept o → IsOpenedAs files o
  kept_as o has = a.each o (s.among o has)

  -- what stands at a kept file
  at_kept : (o : Opened) (p : Part) → Contains kept o → files o.id ≡ Whole p → (span p ≡ opened_span o) × (files p.id ≡ Whole p)
  at_kept o p has whole =
      let e = kept_as o has in
      let same : e.0 ≡ p = cc (e.1, whole) in
      let is : span p ≡ opened_span o = ap span (sym same) ∙ e.2 in
      (is, ap (λ (t : Span). files t.id) is ∙ whole)

  none_damaged : (id : FileId) (at : ℕ) → files id ≡ Damaged at → ⊥
  none_damaged id at bad = ⊎_elim
      (λ closed. absurd (cc (closed, bad)))
      (λ one. let e = a.each one.0 one.1 in absurd (cc (ap files one.2, e.1, bad)))
      (a.all id)

  pub lies_as : (p q : Part) (o k : Opened) → span p ≡ opened_span o → span q ≡ opened_span k → LiesIn (opened_span o) (opened_span k) → LiesIn (span p) (span q)
  lies_as p q o k is_p is_q lies = subst (λ (t : Span). LiesIn t (span q)) (sym is_p) (subst (λ (t : Span). LiesIn (opened_span o) t) (sym is_q) lies)

  pub choice : IsChoice files (parts_of files kept)
  choice = record {
    stand = λ p has. let o = parts_from files kept p has in (at_kept o.0 p o.1 o.2).1;
    cover = λ id q whole. let o = of_whole id q whole in
        ⊎_elim
        (λ has. inl (parts_has files kept o.0 q has o.3))
        (λ c. let e = kept_as c.1.0 c.1.1 in inr (e.0, parts_has files kept c.1.0 e.0 c.1.1 e.1, lies_as q e.0 o.0 c.1.0 o.4 e.2 c.1.2))
        (s.each o.0 o.1);
    undamaged = none_damaged;
  }

  pub tiles : (last : ℕ) → Ends 1 kept (last + 1) → Tiles 1 (parts_of files kept) last
  tiles last ends = tiles_of files 1 kept last s.stacked ends kept_as

-- the first one that stands apart
module _ (files : Folder) (opened : List Opened) (covered : List FileId) (front : List Opened) (one : Opened) (rest : List Opened) (next : ℕ)
    (s : Sifted opened (front ++ one ∷ rest) covered (front ++ one ∷ rest)) (a : AreOpen files opened) (ends : Ends 1 front next) where
  abbrev kept : List Opened
  kept = front ++ one ∷ rest

  in_kept : (o : Opened) → Contains (front ++ one ∷ []) o → Contains kept o
  in_kept o has = ⊎_elim
      (λ old. Contains-append_left front (one ∷ rest) o old)
      (λ is. Contains-append_right front (one ∷ rest) o (subst (λ (b : Opened). Contains (one ∷ rest) b) is (here one rest)))
      (Contains-push_cases front one o has)

  -- each of them is a part
  is_part : (o : Opened) (p : Part) → Contains (front ++ one ∷ []) o → files o.id ≡ Whole p → IsPart files p
  is_part o p has whole = record {
    whole = (at_kept files opened kept covered s a o p (in_kept o has) whole).1;
    top = λ id q whole_q lies.
        let q' = of_whole files opened kept covered s a id q whole_q in
        let up : LiesIn (opened_span o) (opened_span q'.0) = as_opened p q o q'.0 (at_kept files opened kept covered s a o p (in_kept o has) whole).0 q'.4 lies in
        ⊎_elim
        (λ k. none_in 1 front next one rest s.stacked ends o q'.0 has k up)
        (λ c. none_in 1 front next one rest s.stacked ends o c.1.0 has c.1.1 (further (opened_span o) (opened_span q'.0) (opened_span c.1.0) up c.1.2))
        (s.each q'.0 q'.1);
  }
    where
      as_opened : (p q : Part) (o k : Opened) → span p ≡ opened_span o → span q ≡ opened_span k → LiesIn (span p) (span q) → LiesIn (opened_span o) (opened_span k)
      as_opened p q o k is_p is_q lies = subst (λ (t : Span). LiesIn t (opened_span k)) is_p (subst (λ (t : Span). LiesIn (span p) t) is_q lies)

  id_of : (o : Opened) (p : Part) → Contains kept o → files o.id ≡ Whole p → p.id ≡ o.id
  id_of o p has whole = ap (λ (t : Span). t.id) (at_kept files opened kept covered s a o p has whole).0

  -- and those before it are all that are below it
  before_from : (p : Part) → Contains (parts_of files front) p → IsPart files p × IsBelow p.id one.id
  before_from p has =
      let o = parts_from files front p has in
      let among = Contains-append_left front (one ∷ []) o.0 o.1 in (
        is_part o.0 p among o.2,
        subst (λ (i : FileId). IsBelow i one.id) (sym (id_of o.0 p (in_kept o.0 among) o.2)) (ahead front one rest s.stacked o.0 o.1),
      )

  before_has : (p : Part) → IsPart files p → IsBelow p.id one.id → Contains (parts_of files front) p
  before_has p part below =
      let o = of_whole files opened kept covered s a p.id p part.whole in
      let low : IsBelow o.0.id one.id = subst (λ (i : FileId). IsBelow i one.id) (sym o.2) below in
      ⊎_elim
      (λ k. ⊎_elim
      (λ first. parts_has files front o.0 p first o.3)
      (λ others. ⊎_elim
      (λ is. absurd (below_apart o.0.id one.id low (ap (λ (b : Opened). b.id) (sym is))))
      (λ later. absurd (below_not one.id o.0.id (behind front one rest s.stacked o.0 later) low))
      (one_of one rest o.0 others))
      (Contains-append_cases front (one ∷ rest) o.0 k))
      (λ c. let e = kept_as files opened kept covered s a c.1.0 c.1.1 in
      absurd (part.top c.1.0.id e.0 e.1 (lies_as files opened kept covered s a p e.0 o.0 c.1.0 o.4 e.2 c.1.2)))
      (s.each o.0 o.1)

  pub untiled_at : one.id.base ≢ next → IsUntiled files one.id
  untiled_at apart =
      let last = Contains-push front one in
      let e = kept_as files opened kept covered s a one (in_kept one last) in
      let some : next ≡ next - 1 + 1 = omega (arith, ends_some 1 front next (omega arith) ends) in
      record {
        undamaged = none_damaged files opened kept covered s a;
        earlier = parts_of files front;
        are = λ p. (λ has. before_from p has, λ is. before_has p is.0 is.1);
        last = next - 1;
        tile = tiles_of files 1 front (next - 1) (stack_front front (one ∷ rest) s.stacked) (subst (λ (n : ℕ). Ends 1 front n) some ends)
            (λ o has. kept_as files opened kept covered s a o (Contains-append_left front (one ∷ rest) o has));
        part = e.0;
        is_part = is_part one e.0 last e.1;
        id_is = ap (λ (t : Span). t.id) e.2;
        untiled = λ at. apart (sym (ap (λ (t : Span). t.id.base) e.2) ∙ at ∙ sym some);
      }

-- what stands behind an empty one doesn't begin where that one ends
behind_empty : (from : ℕ) (front : List Opened) (e one : Opened) (rest : List Opened) (next : ℕ) → AreStacked ((front ++ e ∷ []) ++ one ∷ rest) → Ends from (front ++ e ∷ []) next → e.part.last < e.id.base → one.id.base ≢ next
behind_empty from [] e one rest next s ends empty at =
    let first = s.0 one (here one rest) in
    first.1 (empty_lies e one first.0 (at ∙ sym ends.1) (omega (arith, at, ends.1, empty, hardly_empty e)))
behind_empty from (o ∷ front) e one rest next s ends empty at = behind_empty (o.part.last + 1) front e one rest next s.2 ends.1 empty at

apart_from : (front : List Opened) (one : Opened) (rest : List Opened) (next : ℕ) → AreStacked (front ++ one ∷ rest) → Ends 1 front next → (one.id.base ≢ next) ⊎ IsLastEmpty front → one.id.base ≢ next
apart_from front one rest next s ends (inl apart) = apart
apart_from front one rest next s ends (inr empty) =
    behind_empty 1 empty.0 empty.1 one rest next (subst (λ (l : List Opened). AreStacked (l ++ one ∷ rest)) empty.2 s) (subst (λ (l : List Opened). Ends 1 l next) empty.2 ends) empty.3

pub untiled : (files : Folder) (opened kept : List Opened) (covered : List FileId) (id : FileId) → Sifted opened kept covered kept → AreOpen files opened → IsFirstApart kept id → IsUntiled files id
untiled files opened sifted covered id s a f = subst (IsUntiled files) f.id_is
    (let sifted_at = subst (λ (l : List Opened). Sifted opened l covered l) f.are s in
    untiled_at files opened covered f.earlier f.one f.later f.next sifted_at a f.ends (apart_from f.earlier f.one f.later f.next sifted_at.stacked f.ends f.apart))
