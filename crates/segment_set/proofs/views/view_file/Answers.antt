use Rattle.std.proofs.Common.{arith}
use Rattle.segment_set.proofs.Viewing.{few}
use Rattle.segment_set.proofs.views.view_file.Goals as goal

pub returns-clause-range : goal.returns-clause-range
returns-clause-range c =
    let one = c.args.one.now in
    record {
      kept = omega (arith, few one.id.base one.part.last one.part.gate one.part.offsets.items c.in_order.ensures one.bounds.below one.bounds.from, c.count.ensures);
      last = one.bounds.last_in_range;
    }
