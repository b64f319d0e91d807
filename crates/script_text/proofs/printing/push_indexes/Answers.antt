use Rattle.std.proofs.Common.{◌≡◌, ◌++◌, ◌∷◌, [], get_or, rules}
use Rattle.std.specs.Prelude.{codes}
use Rattle.std.specs.Fmt.{decimal}
use Rattle.script_text.proofs.PrintLemmas.{index_more}
use Rattle.script_text.proofs.printing.push_indexes.Goals as goal

-- one index more is appended, with its space
pub loop-index-preserved : goal.loop-index-preserved
loop-index-preserved c =
    let written : c.extend_from_slice-in-loop-index.new.self.items ≡ c.push.new.self.items ++ c.as_bytes.result.now = search rules in
    let parted : c.push.new.self.items ≡ c.loop-index.text.items ++ 32 ∷ [] = search rules in
    let digits : c.as_bytes.result.now ≡ decimal (get_or c.args.indexes.now c.loop-index.index-index 0) = search rules in
    let so_far = c.loop-index.invariant in
    rw (written, parted, digits, so_far) (index_more (c.args.text.now.items ++ codes "indexes") c.args.indexes.now c.loop-index.index-index c.loop-index-test.true)
