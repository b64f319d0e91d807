use Rattle.std.proofs.Common.{◌+◌, length, ap, ◌∙◌, arith}
use Rattle.std.proofs.lemmas.List.{take_all}
use Rattle.copycat_tool.specs.Script.{has_feed}
use Rattle.copycat_tool.proofs.ReadingLemmas.{slice_is, ends_further, none_further}
use Rattle.copycat_tool.proofs.reader.LineReader.find.Goals as goal

pub returns-then-length-le-LINE_LIMIT-clause-found : goal.returns-then-length-le-LINE_LIMIT-clause-found
returns-then-length-le-LINE_LIMIT-clause-found c = (
  ends_further c.args.self.now.held _ c.args.searched c.in-Some.more c.requires.none (slice_is c.bytes-held.result.now c.args.self.now.held c.args.searched c.bytes-held.ensures) c.in-Some.ensures,
  c.if-length-le-LINE_LIMIT.true,
)

pub returns-in-Some-clause-found : goal.returns-in-Some-clause-found
returns-in-Some-clause-found c =
    let at = ends_further c.args.self.now.held _ c.args.searched c.in-Some.more c.requires.none (slice_is c.bytes-held.result.now c.args.self.now.held c.args.searched c.bytes-held.ensures) c.in-Some.ensures in
    record { front = c.args.searched + c.in-Some.more; within = omega (arith, at.within); long = omega (arith, c.if-length-le-LINE_LIMIT.false); none = at.none_before }

pub returns-then-held-gt-LINE_LIMIT-clause-found : goal.returns-then-held-gt-LINE_LIMIT-clause-found
returns-then-held-gt-LINE_LIMIT-clause-found c =
    let none = none_further c.args.self.now.held _ c.args.searched c.requires.none (slice_is c.bytes-held.result.now c.args.self.now.held c.args.searched c.bytes-held.ensures) c.in_default.ensures in
    record {
      front = length c.args.self.now.held;
      within = omega arith;
      long = omega (arith, c.if-held-gt-LINE_LIMIT.true, ap length c.bytes-held.ensures);
      none = ap has_feed (take_all (length c.args.self.now.held) c.args.self.now.held (omega arith)) ∙ none;
    }

pub returns-clause-none : goal.returns-clause-none
returns-clause-none c = record {
  none = none_further c.args.self.now.held _ c.args.searched c.requires.none (slice_is c.bytes-held.result.now c.args.self.now.held c.args.searched c.bytes-held.ensures) c.in_default.ensures;
  short = omega (arith, c.if-held-gt-LINE_LIMIT.false, ap length c.bytes-held.ensures);
}
