use Rattle.std.proofs.Common.{◌∙◌, ◌-◌, ap, sym, arith}
use Rattle.std.specs.List.{slice_get}
use Rattle.event_batches.proofs.Queues.{last_is}
use Rattle.event_batches.proofs.Searching.{lent_by}
use Rattle.event_batches.proofs.queue.last_index.Goals as goal

pub returns-in-Some : goal.returns-in-Some
returns-in-Some c =
    let items = c.args.kept.now.items in
    let at = lent_by items (c.args.kept.now.len - 1) c.in-Some.batch (omega (arith, c.args.kept.now.ok.0, c.in-Some.ensures.item.3.0)) c.in-Some.ensures.item.1 in
    last_is c.args.acked items c.in-Some.batch.now (ap (λ n. slice_get items (n - 1)) (sym c.args.kept.now.ok.0) ∙ at)
