-- Parts that stand end to end.
use Rattle.std.proofs.Common.{◌≡◌, ◌⊎◌, inl, ⊎_elim, ℕ, ◌+◌, ◌<◌, ◌≤◌, List, [], ◌∷◌, ◌++◌, refl, sym, ap, subst, ◌∙◌, arith, Contains}
use Rattle.disk_model.specs.Image.{IsBelow}
use Rattle.segment_files.specs.Parse.{Part}
use Rattle.segment_files.specs.Folder.{Tiles}
use Rattle.segment_files.specs.Folder.{span, LiesIn}
use Rattle.segment_set.specs.ChoiceLaws.{Replaces}
use Rattle.segment_set.proofs.Images.{nothing, one_of, here}
use Rattle.segment_set.proofs.Lying.{there}
use Rattle.segment_set.proofs.Picking.{below_apart}

-- the first part begins at the next index, and the others behind it
pub from_next : (next : ℕ) (parts : List Part) (last : ℕ) (p : Part) → Tiles next parts last → Contains parts p → next ≤ p.id.base
from_next next [] last p tile has = absurd (nothing p has)
from_next next (q ∷ parts) last p tile has = ⊎_elim
    (λ is. subst (λ (r : Part). next ≤ r.id.base) is (omega (arith, tile.0)))
    (λ later. let behind = from_next (q.last + 1) parts last p tile.2 later in
    ⊎_elim (λ full. omega (arith, tile.0, full, behind)) (λ empty. omega (arith, tile.0, empty.0, behind)) tile.1)
    (one_of q parts p has)

pub to_last : (next : ℕ) (parts : List Part) (last : ℕ) (p : Part) → Tiles next parts last → Contains parts p → p.last ≤ last
to_last next [] last p tile has = absurd (nothing p has)
to_last next (q ∷ parts) last p tile has = ⊎_elim
    (λ is. subst (λ (r : Part). r.last ≤ last) is (rest q parts tile.2))
    (λ later. to_last (q.last + 1) parts last p tile.2 later)
    (one_of q parts p has)
  where
    rest : (q : Part) (parts : List Part) → Tiles (q.last + 1) parts last → q.last ≤ last
    rest q [] is = omega (arith, is)
    rest q (r ∷ rs) is = let low : q.last + 1 ≤ r.id.base = omega (arith, is.0) in
        let high : r.last ≤ last = rest r rs is.2 in
        ⊎_elim (λ full. omega (arith, low, high, full)) (λ empty. omega (arith, low, high, empty.0)) is.1

-- none of them lies in another
pub apart : (next : ℕ) (parts : List Part) (last : ℕ) (p q : Part) → Tiles next parts last → Contains parts p → Contains parts q → LiesIn (span p) (span q) → ⊥
apart next [] last p q tile has_p has_q lies = nothing p has_p
apart next (r ∷ parts) last p q tile has_p has_q lies = ⊎_elim
    (λ is_p. ⊎_elim
    (λ is_q. let same : p ≡ q = sym is_p ∙ is_q in let newer = subst (λ (s : Part). s.id.generation < q.id.generation) same lies.newer in omega (arith, newer))
    (λ later_q. let low = from_next (r.last + 1) parts last q tile.2 later_q in
    let base = subst (λ (s : Part). q.id.base ≤ s.id.base) (sym is_p) lies.base in
    ⊎_elim (λ full. omega (arith, low, base, full)) (λ empty. nothing q (subst (λ (l : List Part). Contains l q) empty.1 later_q)) tile.1)
    (one_of r parts q has_q))
    (λ later_p. ⊎_elim
    (λ is_q. let low = from_next (r.last + 1) parts last p tile.2 later_p in
    let touches = subst (λ (s : Part). (p.id.base ≤ s.last) ⊎ (p.id.base ≡ s.id.base)) (sym is_q) lies.touches in
    ⊎_elim (λ full. ⊎_elim (λ within. omega (arith, low, within)) (λ at. omega (arith, low, at, full)) touches)
    (λ empty. nothing p (subst (λ (l : List Part). Contains l p) empty.1 later_p)) tile.1)
    (λ later_q. apart (r.last + 1) parts last p q tile.2 later_p later_q lies)
    (one_of r parts q has_q))
    (one_of r parts p has_p)

-- what stands behind a run
behind_run : (next : ℕ) (run back : List Part) (mid last : ℕ) → Tiles next run mid → Tiles next (run ++ back) last → Tiles (mid + 1) back last
behind_run next [] back mid last tile all = subst (λ (n : ℕ). Tiles n back last) tile all
behind_run next (p ∷ run) back mid last tile all = behind_run (p.last + 1) run back mid last tile.2 all.2

-- one part in place of a run of the same range
pub put_in : (next : ℕ) (front run back : List Part) (new : Part) (last : ℕ) → Replaces new run → Tiles next (front ++ run ++ back) last → Tiles next (front ++ new ∷ back) last
put_in next [] run back new last replaces tile = (first run replaces.range tile, inl replaces.nonempty, behind_run new.id.base run back new.last last replaces.range (subst (λ (n : ℕ). Tiles n (run ++ back) last) (sym (first run replaces.range tile)) tile))
  where
    first : (rs : List Part) → Tiles new.id.base rs new.last → Tiles next (rs ++ back) last → new.id.base ≡ next
    first [] is all = let long = replaces.nonempty in absurd (omega (arith, is, long))
    first (r ∷ rs) is all = omega (arith, is.0, all.0)
put_in next (p ∷ front) run back new last replaces tile = (tile.0, kept, put_in (p.last + 1) front run back new last replaces tile.2)
  where
    some : (rs : List Part) → Tiles new.id.base rs new.last → front ++ rs ++ back ≡ [] → ⊥
    some [] is none = let long = replaces.nonempty in absurd (omega (arith, is, long))
    some (r ∷ rs) is none = gone front none
      where
        gone : (f : List Part) → f ++ (r ∷ rs) ++ back ≡ [] → ⊥
        gone [] is = absurd (cc)
        gone (x ∷ xs) is = absurd (cc)

    kept : (p.id.base ≤ p.last) ⊎ ((p.last + 1 ≡ p.id.base) × (front ++ new ∷ back ≡ []))
    kept = ⊎_elim (λ full. inl full) (λ empty. absurd (some run replaces.range empty.1)) tile.1

-- a part of the rest begins further behind than the first
again : (next : ℕ) (f : Part) (rest : List Part) (last : ℕ) (r : Part) → Tiles next (f ∷ rest) last → f ≡ r → Contains rest r → ⊥
again next f rest last r tile is has =
    let low = from_next (f.last + 1) rest last r tile.2 has in
    ⊎_elim
    (λ full. omega (arith, low, full, ap (λ (s : Part). s.id.base) is))
    (λ empty. nothing r (subst (λ (l : List Part). Contains l r) empty.1 has))
    tile.1

before : (q : Part) (rest : List Part) (r : Part) (last : ℕ) → Tiles (q.last + 1) rest last → (q.id.base ≤ q.last) ⊎ ((q.last + 1 ≡ q.id.base) × (rest ≡ [])) → Contains rest r → IsBelow q.id r.id
before q rest r last tile either has =
    let low = from_next (q.last + 1) rest last r tile has in
    ⊎_elim (λ full. inl (omega (arith, low, full))) (λ empty. absurd (nothing r (subst (λ (l : List Part). Contains l r) empty.1 has))) either

-- the one that begins at the next index is the first
same_first : (next : ℕ) (q : Part) (rest : List Part) (e : Part) (last : ℕ) → Tiles next (q ∷ rest) last → e.id.base ≡ next → Contains (q ∷ rest) e → q ≡ e
same_first next q rest e last tile at has = ⊎_elim
    (λ is. is)
    (λ later. let low = from_next (q.last + 1) rest last e tile.2 later in
    ⊎_elim (λ full. absurd (omega (arith, low, full, at, tile.0))) (λ empty. absurd (nothing e (subst (λ (l : List Part). Contains l e) empty.1 later))) tile.1)
    (one_of q rest e has)

-- Parts that stand end to end are determined by what they are.
pub same_parts : (next : ℕ) (xs ys : List Part) (a b : ℕ) → Tiles next xs a → Tiles next ys b → ((p : Part) → Contains xs p → Contains ys p) → ((p : Part) → Contains ys p → Contains xs p) → xs ≡ ys
same_parts next [] [] a b tx ty to from = refl
same_parts next [] (q ∷ ys) a b tx ty to from = absurd (nothing q (from q (here q ys)))
same_parts next (p ∷ xs) [] a b tx ty to from = absurd (nothing p (to p (here p xs)))
same_parts next (p ∷ xs) (q ∷ ys) a b tx ty to from =
    let same : q ≡ p = same_first next q ys p b ty tx.0 (to p (here p xs)) in
    let tails : xs ≡ ys = same_parts (p.last + 1) xs ys a b tx.2 (subst (λ (r : Part). Tiles (r.last + 1) ys b) same ty.2)
    (λ r has. ⊎_elim (λ is. absurd (again next p xs a r tx (sym same ∙ is) has)) (λ more. more) (one_of q ys r (to r (there p xs r has))))
    (λ r has. ⊎_elim (λ is. absurd (again next q ys b r ty (same ∙ is) has)) (λ more. more) (one_of p xs r (from r (there q ys r has)))) in
    λ i. sym same i ∷ tails i

-- and they end at one index
pub same_last : (next : ℕ) (parts : List Part) (a b : ℕ) → Tiles next parts a → Tiles next parts b → a ≡ b
same_last next [] a b ta tb = omega (arith, ta, tb)
same_last next (p ∷ parts) a b ta tb = same_last (p.last + 1) parts a b ta.2 tb.2

-- Some of the parts stand end to end, and all parts below one that comes next are among them: then this one begins where they end.
pub next_begins : (next : ℕ) (parts earlier : List Part) (one : Part) (last mid : ℕ) → Tiles next parts last → Tiles next earlier mid
    → ((p : Part) → Contains earlier p → Contains parts p × IsBelow p.id one.id) → Contains parts one
    → ((p : Part) → Contains parts p → IsBelow p.id one.id → Contains earlier p) → one.id.base ≡ mid + 1
next_begins next [] earlier one last mid tile tile_e are has all = absurd (nothing one has)
next_begins next (q ∷ parts) [] one last mid tile tile_e are has all = ⊎_elim
    (λ is. ap (λ (p : Part). p.id.base) (sym is) ∙ tile.0 ∙ tile_e)
    (λ later. absurd (nothing q (all q (here q parts) (before q parts one last tile.2 tile.1 later))))
    (one_of q parts one has)
next_begins next (q ∷ parts) (e ∷ earlier) one last mid tile tile_e are has all =
    let first : q ≡ e = same_first next q parts e last tile tile_e.0 (are e (here e earlier)).0 in
    next_begins (q.last + 1) parts earlier one last mid tile.2 (subst (λ (p : Part). Tiles (p.last + 1) earlier mid) (sym first) tile_e.2)
    (λ p in_e. (
      ⊎_elim (λ is. absurd (again next e earlier mid p tile_e (sym first ∙ is) in_e)) (λ later. later) (one_of q parts p (are p (there e earlier p in_e)).0),
      (are p (there e earlier p in_e)).1,
    ))
    (⊎_elim (λ is. absurd (below_apart e.id one.id (are e (here e earlier)).1 (ap (λ (p : Part). p.id) (sym first ∙ is)))) (λ later. later) (one_of q parts one has))
    (λ p in_p below. ⊎_elim (λ is. absurd (again next q parts last p tile (first ∙ is) in_p)) (λ later. later) (one_of e earlier p (all p (there q parts p in_p) below)))
