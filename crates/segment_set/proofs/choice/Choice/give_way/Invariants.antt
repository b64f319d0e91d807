-- What lies in the file has gone so far, and the file lies in none that is last.
use Rattle.std.proofs.Common.{List, [], ◌∷◌, ◌++◌, length}
use Rattle.segment_set.specs.declared.opened.Opened.{Opened}
use Rattle.segment_set.specs.Sifting.{AreStacked, LiesInLast, Sifted}
use Rattle.segment_set.proofs.choice.Choice.give_way.Given as goal

abbrev pub invariant-loop-self : goal.invariant-loop-self
invariant-loop-self l = record {
  sifted : (files : List Opened) → Sifted files l.initial.self.kept.items l.initial.self.covered.items (l.initial.self.kept.items ++ l.one ∷ []) → Sifted files l.self.kept.items l.self.covered.items (l.self.kept.items ++ l.one ∷ []);
  still : AreStacked l.initial.self.kept.items → (LiesInLast l.initial.self.kept.items l.one → ⊥) → AreStacked l.self.kept.items × (LiesInLast l.self.kept.items l.one → ⊥);
}

abbrev pub decreases-loop-self : goal.decreases-loop-self
decreases-loop-self l = length l.self.kept.items
