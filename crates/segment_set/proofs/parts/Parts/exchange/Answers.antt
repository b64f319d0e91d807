use Rattle.std.proofs.Common.{◌≡◌, ◌+◌, List, set, ap, ◌∙◌, rules}
use Rattle.std.specs.List.{remove_range}
use Rattle.segment_set.specs.declared.opened.Opened.{Opened}
use Rattle.segment_set.specs.Joined.{are_joined, begins_at, end_of, has_end, has_tail_or_full}
use Rattle.segment_set.proofs.Exchanging.{end_now, exchanged, full_now, joined_now}
use Rattle.segment_set.proofs.parts.Parts.exchange.Goals as goal

pub invariant_of-self : goal.invariant_of-self
invariant_of-self c =
    let old = c.args.self.now in
    let new = c.args.new in
    let run = c.requires.run in
    let r = run.3 in
    let left : c.drop-drain.new.self.0.items ≡ remove_range (set old.sealed.items c.args.from new) (c.args.from + 1) c.args.to = search rules in
    let is = left ∙ exchanged old new run.0 run.1 run.2 r c.args.from c.args.to run.4 run.5 in
    record {
      in_range = old.in_range;
      joined = ap (are_joined 1) is ∙ joined_now old new run.0 run.1 run.2 r;
      from = ap (λ (l : List Opened). begins_at old.tail (end_of 1 l)) is ∙ ap (begins_at old.tail) (end_now old new run.0 run.1 run.2 r) ∙ old.from;
      full = ap (has_tail_or_full old.tail) is ∙ full_now old new run.0 run.1 run.2 r;
      ended = ap (has_end old.tail) is ∙ r.ended;
      counted = old.counted;
      read = old.read;
      below = old.below;
    }

pub returns-clause-sealed : goal.returns-clause-sealed
returns-clause-sealed c = λ front run back r at_from at_to.
    let left : c.drop-drain.new.self.0.items ≡ remove_range (set c.args.self.now.sealed.items c.args.from c.args.new) (c.args.from + 1) c.args.to = search rules in
    left ∙ exchanged c.args.self.now c.args.new front run back r c.args.from c.args.to at_from at_to
