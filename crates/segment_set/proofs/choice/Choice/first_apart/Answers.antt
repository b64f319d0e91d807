use Rattle.std.proofs.Common.{◌≡◌, inl, inr, ◌+◌, ◌-◌, ℕ, List, [], ◌∷◌, ◌++◌, take, ap, sym, subst, ◌∙◌, arith, true}
use Rattle.std.proofs.lemmas.Bool.{leb-false, leb-true}
use Rattle.std.proofs.lemmas.List.{take_all, take_more}
use Rattle.segment_set.specs.declared.opened.Opened.{Opened}
use Rattle.segment_set.specs.Joined.{are_joined, are_tiled}
use Rattle.segment_set.specs.Sifting.{Ends}
use Rattle.segment_set.proofs.Lying.{first_apart, ends_next, joined_more, tiled_more}
use Rattle.segment_set.proofs.choice.Choice.first_apart.Goals.{then-not-full-via-then-not-full, then-not-full-via-else-not-full+then-one-next}
use Rattle.segment_set.proofs.choice.Choice.first_apart.Goals as goal

pub returns-then-not-full-clause-some : goal.returns-then-not-full-clause-some
returns-then-not-full-clause-some c =
    first_apart c.args.self.now.kept.items c.deref-one-items.result.now c.loop-one.one-index c.loop-one.next c.one-item.result c.deref-one-items.ensures.value
    c.loop-one-test.true c.one-item.is c.loop-one.invariant.ends
    (elim c.then-not-full.branch [
      | then-not-full-via-then-not-full w ↦ inr (c.loop-one.invariant.empty w.if-not-full.true)
      | then-not-full-via-else-not-full+then-one-next w ↦ inl w.if-one-next.true
    ])

pub loop-one-preserved : goal.loop-one-preserved
loop-one-preserved c =
    let items = c.deref-one-items.result.now in
    let n = c.loop-one.one-index in
    let x = c.one-item.result in
    let next = c.loop-one.next in
    let lt = c.loop-one-test.true in
    let more : take (n + 1) items ≡ take n items ++ x ∷ [] = take_more items n x lt ∙ ap (λ (o : Opened). take n items ++ o ∷ []) (sym c.one-item.is) in
    let joined = c.loop-one.invariant.joined c.if-not-full.false in
    let ends = c.loop-one.invariant.ends in
    let at = c.if-one-next.false in
    record {
      ends = ends_next items n next x lt c.one-item.is ends at;
      some = omega arith;
      tiled = subst (λ (l : List Opened). are_tiled 1 l ≡ true) (sym more) (tiled_more 1 (take n items) next x joined ends at);
      joined = λ full. subst (λ (l : List Opened). are_joined 1 l ≡ true) (sym more) (joined_more 1 (take n items) next x joined ends at (leb-true next x.part.last full));
      empty = λ short. (take n items, x, more, omega (arith, leb-false next x.part.last short, at));
    }

pub returns-clause-none : goal.returns-clause-none
returns-clause-none c =
    let items = c.deref-one-items.result.now in
    let all : take c.loop-one.one-index items ≡ c.args.self.now.kept.items = take_all c.loop-one.one-index items (omega (arith, c.loop-one-test.false)) ∙ c.deref-one-items.ensures.value in
    let last : c.loop-one.next ≡ c.loop-one.next - 1 + 1 = omega (arith, c.loop-one.invariant.some) in
    (c.loop-one.next - 1, subst (λ (l : List Opened). Ends 1 l (c.loop-one.next - 1 + 1)) all (subst (λ (n : ℕ). Ends 1 (take c.loop-one.one-index items) n) last c.loop-one.invariant.ends))

pub returns-clause-tiled : goal.returns-clause-tiled
returns-clause-tiled c =
    let items = c.deref-one-items.result.now in
    let all : take c.loop-one.one-index items ≡ c.args.self.now.kept.items = take_all c.loop-one.one-index items (omega (arith, c.loop-one-test.false)) ∙ c.deref-one-items.ensures.value in
    subst (λ (l : List Opened). are_tiled 1 l ≡ true) all c.loop-one.invariant.tiled
