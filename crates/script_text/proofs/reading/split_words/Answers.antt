use Rattle.std.proofs.Common.{ap, ◌∙◌, map, List, ℕ, Bor, lit<}
use Rattle.std.specs.Str.Iter.{split_text, split_has_more, split_pattern}
use Rattle.std.proofs.lemmas.Iterator.Consumers.{YieldsList-end}
use Rattle.std.proofs.lemmas.Iterator.Splits.{YieldsList-from_str_split}
use Rattle.script_text.proofs.reading.split_words.Goals as goal

-- the words that came are all that are split off
pub returns : goal.returns
returns c =
    let from = c.into_iter-word-iterator.ensures.into_iter_gives in
    let all = YieldsList-end (YieldsList-from_str_split 32 c.args.line.now (lit< tt) (ap split_text from ∙ c.split-word-items.ensures.text) (ap split_has_more from ∙ c.split-word-items.ensures.has_more) (ap split_pattern from ∙ c.split-word-items.ensures.pattern)) c.loop-word.yielded _ c.loop-word.yielded_by _ _ c.in-None.is c.next.ensures.steps in
    ap (λ (words : List (Bor (List ℕ))). map (λ word. word.now) words) c.loop-word.invariant ∙ all.0
