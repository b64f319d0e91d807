use Rattle.std.proofs.Common.{◌≡◌, ◌==◌, ◌||◌, ℕ, ◌+◌, ◌-◌, ◌<◌, ◌≤◌, Bool, true, false, nat_le, length, Option, None, refl, sym, ap, subst, ◌∙◌, arith, All}
use Rattle.std.proofs.lemmas.Bool.{eq-eqb}
use Rattle.std.proofs.lemmas.List.Elements.{All-nil}
use Rattle.segment_files.specs.Contents.{Offset_list, last_read}
use Rattle.segment_set.specs.declared.parts.Parts.{Parts}
use Rattle.segment_set.specs.declared.tail.Tail.{Tail}
use Rattle.segment_set.specs.Joined.{end_of, has_end, last_has_last, last_index_of}
use Rattle.segment_set.proofs.Beginning.{nothing_noted}
use Rattle.segment_set.proofs.Joining.{end_is_last}
use Rattle.segment_set.proofs.parts.Parts.take.Goals as goal

-- the last entry is there
ended_before : (old : Parts) → old.tail ≡ None → last_has_last old.sealed.items ≡ true
ended_before old none = sym (ap (λ (o : Option Tail). has_end o old.sealed.items) none) ∙ old.ended

or_true : (t : Bool) → (t || true) ≡ true
or_true true = refl
or_true false = refl

end_before : (old : Parts) → old.tail ≡ None → end_of 1 old.sealed.items ≡ last_index_of old.tail old.sealed.items + 1
end_before old none = end_is_last old.sealed.items ∙ sym (ap (λ (o : Option Tail). last_index_of o old.sealed.items + 1) none)

pub invariant_of-self : goal.invariant_of-self
invariant_of-self c =
    let old = c.args.self.now in
    let none = c.requires.none in
    let tail = c.args.tail in
    let empty = c.requires.empty in
    let nothing = nothing_noted old none in
    record {
      in_range = omega (arith, c.requires.generation);
      joined = old.joined;
      from = eq-eqb tail.id.base (end_of 1 old.sealed.items) (omega (arith, empty, c.requires.behind, end_before old none));
      full = refl;
      ended = ap (λ (t : Bool). nat_le tail.id.base tail.last || t) (ended_before old none) ∙ or_true (nat_le tail.id.base tail.last);
      counted = ap length nothing ∙ omega (arith, empty);
      read = ap (λ (l : Offset_list). last_read tail.id.base l == tail.last) nothing ∙ eq-eqb (tail.id.base - 1) tail.last (omega (arith, empty));
      below = subst (All (λ (p : ℕ × ℕ). (tail.id.base + p.0 ≤ tail.last) × (p.1 < tail.gate))) (sym nothing) (All-nil (λ (p : ℕ × ℕ). (tail.id.base + p.0 ≤ tail.last) × (p.1 < tail.gate)));
    }
