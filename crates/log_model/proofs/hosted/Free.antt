-- An index that isn't past is free. For `next_index_is_free`.
use Rattle.std.proofs.Common.{◌≡◌, ℕ, ◌+◌, ◌<◌, true, false, cond, ◌==◌, [], ◌∷◌, Some, count_by, refl, sym, ap, ◌∙◌, arith, eqb-true}
use Rattle.std.proofs.lemmas.Bool.{false_from_ne_true}
use Rattle.std.proofs.lemmas.List.Sums.{sum_by-cons}
use Rattle.std.specs.List.{list_any}
use Rattle.host_types.specs.Cells.{Place, Name_at, Cell_at, Register_at, Alive_at, Held, Cells, at, is_in_instance}
use Rattle.log_model.specs.hosted.Hosted.{Hosted, machine_cells}
use Rattle.log_model.specs.hosted.Sound.{IsSound, IsFree}
use Rattle.host_types.proofs.Places.{place_total, exact_places}
use Rattle.log_model.proofs.Lookups.{T_from, found_from_any}
use Rattle.log_model.proofs.hosted.Parts.{at_machine, sorted_machine}

pub none_counted : (i : ℕ) (c : Cells) → list_any (λ (y : Place × Held). y.1.index == i) c ≡ false → count_by (λ (y : Place × Held). y.1.index == i) c ≡ 0
none_counted i [] e = refl
none_counted i (x ∷ c) e =
    let p = Rattle.std.proofs.lemmas.Bool.or_parts (x.1.index == i) (list_any (λ (y : Place × Held). y.1.index == i) c) e in
    let rest = none_counted i c p.1 in
    sum_by-cons (λ (y : Place × Held). cond (y.1.index == i) 1 0) x c
    ∙ ap (λ b. cond b 1 0 + count_by (λ (y : Place × Held). y.1.index == i) c) p.0
    ∙ omega arith

pub index_free : (s : Hosted) (i : ℕ) → IsSound s → s.last < i → IsFree s i
index_free s i h low = record {
  unheld = none_counted i s.cells (false_from_ne_true (list_any (λ (y : Place × Held). y.1.index == i) s.cells) (λ t.
      (let r = found_from_any place_total exact_places (λ (y : Place × Held). y.1.index == i) s.cells (T_from _ h.cells_rise) t in
      let l = h.cells_are_past r.0 r.1 r.2 in
      let same = eqb-true r.1.index i r.3 in
      absurd (omega arith))));
  empty = false_from_ne_true (list_any (is_in_instance i) (machine_cells s.cells)) (λ t.
      (let r = found_from_any place_total exact_places (is_in_instance i) (machine_cells s.cells) (sorted_machine s.cells (T_from _ h.cells_rise)) t in
      no_cell r.0 r.1 r.2 r.3));
}
  where
    no_cell : (p : Place) (held : Held) → at (machine_cells s.cells) p ≡ Some held → is_in_instance i (p, held) ≡ true → ⊥
    no_cell (Cell_at m cell) held f t =
        let l = h.instances_are_past m cell held (sym (at_machine s.cells (Cell_at m cell)) ∙ f) in
        let same = eqb-true i m t in
        absurd (omega arith)
    no_cell (Name_at n) held f t = absurd (cc)
    no_cell (Register_at id) held f t = absurd (cc)
    no_cell (Alive_at id) held f t = absurd (cc)
