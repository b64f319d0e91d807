-- Places are in a total order, in which only equal places tie; and what stands at a place after each change.
use Rattle.std.proofs.Common.{◌≡◌, ℕ, zero, suc, List, [], refl, sym, ap, ◌∙◌, Ordering, Less, Equal, Greater}
use Rattle.std.specs.FinMap.{IsAntisymmetric, nat_cmp-IsAntisymmetric, slice_cmp-IsAntisymmetric}
use Rattle.std.specs.Ordering.{nat_cmp, ordering_then}
use Rattle.std.specs.Cmp.{IsTotalOrder, on_total, then_total, nat_cmp_total}
use Rattle.host_types.specs.declared.entry.Cell.{Cell}
use Rattle.host_types.specs.declared.entry.Cell.TheVariants.{One, Named, Member, Pair, At, Waiter, Of}
use Rattle.host_types.specs.Cells.{Place, Name_at, Cell_at, Register_at, Alive_at, text_cmp, cell_parts, cell_cmp, place_parts, place_cmp}
use Rattle.host_types.specs.CellOrder.{cell_total}

then_equal : (a b : Ordering) → ordering_then a b ≡ Equal → (a ≡ Equal) × (b ≡ Equal)
then_equal Less b e = absurd (cc)
then_equal Equal b e = (refl, e)
then_equal Greater b e = absurd (cc)

pub exact_texts : IsAntisymmetric text_cmp
exact_texts = slice_cmp-IsAntisymmetric nat_cmp-IsAntisymmetric

pub place_total : IsTotalOrder place_cmp
place_total = then_total (on_total (λ p. (place_parts p).0) nat_cmp_total) (then_total (on_total (λ p. (place_parts p).1) nat_cmp_total) (on_total (λ p. (place_parts p).2) cell_total))

cell_of : ℕ → List ℕ → List ℕ → ℕ → ℕ → Cell
cell_of zero a b m n = One
cell_of (suc zero) a b m n = Named a
cell_of (suc (suc zero)) a b m n = Member a
cell_of (suc (suc (suc zero))) a b m n = Pair a b
cell_of (suc (suc (suc (suc zero)))) a b m n = At m
cell_of (suc (suc (suc (suc (suc zero))))) a b m n = Waiter m n
cell_of (suc (suc (suc (suc (suc (suc k)))))) a b m n = Of m

cell_back : (c : Cell) → cell_of (cell_parts c).0 (cell_parts c).1 (cell_parts c).2 (cell_parts c).3 (cell_parts c).4 ≡ c
unfolding cell_of
cell_back One = refl
cell_back (Named key) = refl
cell_back (Member word) = refl
cell_back (Pair key word) = refl
cell_back (At index) = refl
cell_back (Waiter session id) = refl
cell_back (Of session) = refl

pub tie : {A : Type 0} {R : A → A → Ordering} → IsAntisymmetric R → (x y : A) (rest : Ordering) → ordering_then (R x y) rest ≡ Equal → (x ≡ y) × (rest ≡ Equal)
tie {R = R} exact x y rest e = let b = then_equal (R x y) rest e in (exact x y b.0, b.1)

same_parts : (c d : ℕ × List ℕ × List ℕ × ℕ × ℕ) → ordering_then (nat_cmp c.0 d.0) (ordering_then (text_cmp c.1 d.1) (ordering_then (text_cmp c.2 d.2) (ordering_then (nat_cmp c.3 d.3) (nat_cmp c.4 d.4)))) ≡ Equal → c ≡ d
same_parts c d e =
    let a = tie nat_cmp-IsAntisymmetric c.0 d.0 (ordering_then (text_cmp c.1 d.1) (ordering_then (text_cmp c.2 d.2) (ordering_then (nat_cmp c.3 d.3) (nat_cmp c.4 d.4)))) e in
    let b = tie exact_texts c.1 d.1 (ordering_then (text_cmp c.2 d.2) (ordering_then (nat_cmp c.3 d.3) (nat_cmp c.4 d.4))) a.1 in
    let x = tie exact_texts c.2 d.2 (ordering_then (nat_cmp c.3 d.3) (nat_cmp c.4 d.4)) b.1 in
    let y = tie nat_cmp-IsAntisymmetric c.3 d.3 (nat_cmp c.4 d.4) x.1 in
    let z = nat_cmp-IsAntisymmetric c.4 d.4 y.1 in
    λ i. (a.0 i, b.0 i, x.0 i, y.0 i, z i)

pub exact_cells : IsAntisymmetric cell_cmp
exact_cells c d e =
    let same = same_parts (cell_parts c) (cell_parts d) e in
    sym (cell_back c) ∙ ap (λ (p : ℕ × List ℕ × List ℕ × ℕ × ℕ). cell_of p.0 p.1 p.2 p.3 p.4) same ∙ cell_back d

text_of : Cell → List ℕ
text_of (Named key) = key
text_of _ = []

place_of : ℕ → ℕ → Cell → Place
place_of zero n c = Name_at (text_of c)
place_of (suc zero) n c = Cell_at n c
place_of (suc (suc zero)) n c = Register_at n
place_of (suc (suc (suc k))) n c = Alive_at n

place_back : (p : Place) → place_of (place_parts p).0 (place_parts p).1 (place_parts p).2 ≡ p
unfolding place_of text_of
place_back (Name_at name) = refl
place_back (Cell_at instance cell) = refl
place_back (Register_at session) = refl
place_back (Alive_at session) = refl

pub exact_places : IsAntisymmetric place_cmp
exact_places p q e =
    let x = place_parts p in
    let y = place_parts q in
    let a = tie nat_cmp-IsAntisymmetric x.0 y.0 (ordering_then (nat_cmp x.1 y.1) (cell_cmp x.2 y.2)) e in
    let b = tie nat_cmp-IsAntisymmetric x.1 y.1 (cell_cmp x.2 y.2) a.1 in
    let c = exact_cells x.2 y.2 b.1 in
    sym (place_back p) ∙ (λ i. place_of (a.0 i) (b.0 i) (c i)) ∙ place_back q
