use Rattle.std.proofs.Common.{ℕ, List, length, take, ap, ◌∙◌, arith}
use Rattle.copycat_tool.specs.Script.{has_feed}
use Rattle.copycat_tool.proofs.ReadingLemmas.{taken_further, taken_none, takes_further}
use Rattle.copycat_tool.proofs.reader.LineReader.next_piece.Goals as goal

pub loop-piece-preserved : goal.loop-piece-preserved
loop-piece-preserved g c = record {
  takes = λ left is.
      let far = c.loop-piece.invariant.takes left is in
      let more = c.in_ok-n.ensures.bytes far.0 far.2 in
      (more.0, takes_further left far.0 more.0 _ _ _ _ _ _ far.1 more.1, more.2);
  taken = omega (arith, c.loop-piece.invariant.taken, c.in_ok-n.ensures.count);
  consumed = omega (arith, c.loop-piece.invariant.consumed, c.in_ok-n.ensures.count, c.in_ok-n.ensures.longer);
  later = omega (arith, c.loop-piece.invariant.later, c.fill.ensures.later);
  searched = omega (arith, ap length c.bytes-searched.ensures, c.in_ok-n.ensures.longer);
  none = ap (λ (l : List ℕ). has_feed (take (length l) c.fill.new.self.held)) c.bytes-searched.ensures ∙ ap has_feed c.in_ok-n.ensures.front ∙ c.in_default.ensures.none.none;
}

pub returns-in-Some-clause-front : goal.returns-in-Some-clause-front
returns-in-Some-clause-front g c = λ left is.
    let far = c.loop-piece.invariant.takes left is in
    taken_further left _ _ far.0 _ _ _ far.1 (taken_none _ far.0 _ (omega (arith, c.loop-piece.self.limit)) far.2)

pub returns-then-self-ge-SCRIPT_LIMIT-clause-front : goal.returns-then-self-ge-SCRIPT_LIMIT-clause-front
returns-then-self-ge-SCRIPT_LIMIT-clause-front g c = λ left is.
    let far = c.loop-piece.invariant.takes left is in
    taken_further left _ _ far.0 _ _ _ far.1 (c.probe.ensures.taken far.0 far.2)

pub returns-in_err-n-clause-front : goal.returns-in_err-n-clause-front
returns-in_err-n-clause-front g c = λ left is.
    let far = c.loop-piece.invariant.takes left is in
    taken_further left _ _ far.0 _ _ _ far.1 (c.fill.ensures.taken far.0 far.2)

pub returns-then-n-eq0-clause-front : goal.returns-then-n-eq0-clause-front
returns-then-n-eq0-clause-front g c = λ left is.
    let far = c.loop-piece.invariant.takes left is in
    taken_further left _ _ far.0 _ _ _ far.1 (c.fill.ensures.taken far.0 far.2)
