use Rattle.std.proofs.Common.{◌∷◌, [], arith, length-append}
use Rattle.std.proofs.lemmas.Result.{err_from_is_err_and}
use Rattle.entry_codec.specs.Reading.{indexes_behind}
use Rattle.entry_codec.proofs.Lists.{indexes_go_on, indexes_end, indexes_done}
use Rattle.entry_codec.proofs.reading.indexes_behind_count.Goals as goal

pub returns-in_err-index : goal.returns-in_err-index
returns-in_err-index c =
    let p = err_from_is_err_and c.from_residual.result c.from_residual.ensures.1 in
    rw (p.1, p.2) (indexes_end c.in_err-index.field-0.0 c.loop.indexes c.args.count c.loop.counter c.loop.rest.now (indexes_behind c.args.count c.args.bytes.now) c.loop-test.true c.in_err-index.ensures c.loop.invariant.read)

pub loop-preserved : goal.loop-preserved
loop-preserved c =
    let pushed = c.in_ok-push.ensures.ok in
    record {
      read = rw pushed (indexes_go_on c.loop.indexes c.args.count c.loop.counter c.loop.rest.now c.in_ok-index.index c.in_ok-index.after.now (indexes_behind c.args.count c.args.bytes.now) c.loop-test.true c.in_ok-index.ensures c.loop.invariant.read);
      counted = rw pushed (omega (arith, length-append c.loop.indexes (c.in_ok-index.index ∷ []), c.loop.invariant.counted));
    }

pub returns : goal.returns
returns c = indexes_done c.loop.indexes c.args.count c.loop.counter c.loop.rest.now (indexes_behind c.args.count c.args.bytes.now) c.loop-test.false c.loop.invariant.read
