use Rattle.std.proofs.Common.{◌≡◌, ◌≤◌, ◌+◌, ◌-◌, ◌*◌, [], ◌∷◌, ◌++◌, OnOk, arith, ap, subst, ◌∙◌}
use Rattle.std.proofs.lemmas.Grind.{common_steps}
use Rattle.segment_files.specs.Contents.{last_read}
use Rattle.segment_files.proofs.PuttingDown.{last_pushed}
use Rattle.library_tests.proofs.choice_tests.offsets_of.Goals as goal

pub loop-k-preserved : goal.loop-k-preserved
loop-k-preserved g c =
    let next : last_read c.args.base (c.loop-k.offsets.items ++ (c.loop-k.k, 64 + 10 * c.loop-k.k) ∷ []) ≡ c.args.base + c.loop-k.k = last_pushed c.args.base c.loop-k.offsets.items (c.loop-k.k, 64 + 10 * c.loop-k.k) in
    let first : 1 ≤ c.args.base = c.requires.first in
    let sum : c.args.base + c.loop-k.k ≡ c.args.base - 1 + (c.loop-k.k + 1) = omega (arith, first) in
    let pushed : c.push.new.self.items ≡ c.loop-k.offsets.items ++ (c.loop-k.k, 64 + 10 * c.loop-k.k) ∷ [] = subst (λ r. OnOk r (c.push.new.self.items ≡ c.loop-k.offsets.items ++ (c.loop-k.k, 64 + 10 * c.loop-k.k) ∷ [])) c.expect.ensures c.push.ensures.ok in
    record { count = grind (arith, common_steps); below = grind (arith, common_steps); ended = ap (last_read c.args.base) pushed ∙ next ∙ sum }
