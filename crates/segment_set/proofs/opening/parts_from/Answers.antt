use Rattle.segment_set.proofs.Splitting.{split_below, split_counted, split_ended, split_from, split_full, split_joined, split_read}
use Rattle.segment_set.proofs.opening.parts_from.Goals as goal

pub invariant_of-result : goal.invariant_of-result
invariant_of-result c =
    let files = c.args.files.items in
    let sealed = c.split-sealed.result.0.items in
    let tail = c.split-sealed.result.1 in
    let offsets = c.split-sealed.result.2.items in
    let s = c.split-sealed.ensures in
    record {
      in_range = c.requires.greatest;
      joined = split_joined files sealed tail offsets s c.requires.tiled;
      from = split_from files sealed tail offsets s c.requires.tiled;
      full = split_full files sealed tail offsets s;
      ended = split_ended files sealed tail offsets s c.requires.tiled c.requires.ended;
      counted = split_counted files sealed tail offsets s;
      read = split_read files sealed tail offsets s;
      below = split_below files sealed tail offsets s;
    }
