use Rattle.std.proofs.Common.{◌∷◌, [], arith, length-append}
use Rattle.std.proofs.lemmas.Result.{err_from_is_err_and}
use Rattle.entry_codec.specs.Reading.{words_behind}
use Rattle.entry_codec.proofs.Lists.{words_go_on, words_end, words_done}
use Rattle.entry_codec.proofs.reading.words_behind_count.Goals as goal

pub returns-in_err-word : goal.returns-in_err-word
returns-in_err-word c =
    let p = err_from_is_err_and c.from_residual.result c.from_residual.ensures.1 in
    rw (p.1, p.2) (words_end c.in_err-word.field-0.0 c.loop.words c.args.count c.loop.counter c.loop.rest.now (words_behind c.args.count c.args.bytes.now) c.loop-test.true c.in_err-word.ensures c.loop.invariant.read)

pub loop-preserved : goal.loop-preserved
loop-preserved c =
    let pushed = c.in_ok-push.ensures.ok in
    record {
      read = rw pushed (words_go_on c.loop.words c.args.count c.loop.counter c.loop.rest.now c.in_ok-word.word c.in_ok-word.after.now (words_behind c.args.count c.args.bytes.now) c.loop-test.true c.in_ok-word.ensures c.loop.invariant.read);
      counted = rw pushed (omega (arith, length-append c.loop.words (c.in_ok-word.word ∷ []), c.loop.invariant.counted));
    }

pub returns : goal.returns
returns c = words_done c.loop.words c.args.count c.loop.counter c.loop.rest.now (words_behind c.args.count c.args.bytes.now) c.loop-test.false c.loop.invariant.read
