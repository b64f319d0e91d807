use Rattle.std.proofs.Common.{subst, ◌∙◌}
use Rattle.log_model.proofs.kinds.Listings.{AreOf}
use Rattle.multimap_resource.proofs.Walking.{count_are}
use Rattle.multimap_resource.proofs.words.count.Goals as goal

pub returns : goal.returns
returns c =
    let x = c.args.table.now in
    c.count_from-count.ensures ∙ count_are x.instance c.args.key.now x.cells c.in_order.ensures.rise (subst (λ k. AreOf k x.instance x.cells) c.requires c.in_order.ensures.own)
