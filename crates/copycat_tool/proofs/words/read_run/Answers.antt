use Rattle.std.proofs.Common.{◌≡◌, ℕ, ◌≤◌, List, [], ◌∷◌, length, map, None, refl, arith}
use Rattle.copycat_tool.specs.Words.{run_of}
use Rattle.copycat_tool.proofs.words.read_run.Goals as goal

-- four words and more ask nothing
too_many : {A : Type 0} (f : A → List ℕ) (words : List A) → 4 ≤ length words → None ≡ run_of (map f words)
too_many f [] many = absurd (omega arith)
too_many f (a ∷ []) many = absurd (omega arith)
too_many f (a ∷ b ∷ []) many = absurd (omega arith)
too_many f (a ∷ b ∷ c ∷ []) many = absurd (omega arith)
too_many f (a ∷ b ∷ c ∷ d ∷ more) many = refl

pub returns-in_default-clause-asked : goal.returns-in_default-clause-asked
returns-in_default-clause-asked c = too_many (λ w. w.items) c.args.words.now c.in_default.len_at_least
