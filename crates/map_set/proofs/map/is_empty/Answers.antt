use Rattle.std.proofs.Common.{◌≡◌, ◌==◌, length, ap, sym, subst, ◌∙◌}
use Rattle.log_model.proofs.kinds.Listings.{AreOf, map_size, any_there}
use Rattle.map_set.specs.Reading.{pairs_of}
use Rattle.map_set.proofs.map.is_empty.Goals as goal

pub returns : goal.returns
returns c =
    let x = c.args.table.now in
    let many : c.len.result ≡ length (pairs_of x) = c.len.ensures ∙ sym (map_size x.instance x.cells c.in_order.ensures.rise (subst (λ k. AreOf k x.instance x.cells) c.requires c.in_order.ensures.own)) in
    ap (λ n. n == 0) many ∙ sym (any_there (pairs_of x))
