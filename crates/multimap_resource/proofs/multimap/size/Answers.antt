use Rattle.std.proofs.Common.{ap, sym, subst, ◌∙◌}
use Rattle.log_model.specs.plain.Rows.{count_reply}
use Rattle.log_model.proofs.kinds.Listings.{AreOf, multimap_size}
use Rattle.multimap_resource.proofs.multimap.size.Goals as goal

pub returns : goal.returns
returns c =
    let x = c.args.table.now in
    c.count.ensures ∙ ap count_reply (c.len.ensures ∙ sym (multimap_size x.instance x.cells c.in_order.ensures.rise (subst (λ k. AreOf k x.instance x.cells) c.requires c.in_order.ensures.own)))
