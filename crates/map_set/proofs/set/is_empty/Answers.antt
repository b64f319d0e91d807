use Rattle.std.proofs.Common.{◌≡◌, ◌==◌, length, ap, sym, subst, ◌∙◌}
use Rattle.log_model.proofs.kinds.Listings.{AreOf, set_size, any_there}
use Rattle.map_set.specs.Reading.{words_of}
use Rattle.map_set.proofs.set.is_empty.Goals as goal

pub returns : goal.returns
returns c =
    let x = c.args.table.now in
    let many : c.len.result ≡ length (words_of x) = c.len.ensures ∙ sym (set_size x.instance x.cells c.in_order.ensures.rise (subst (λ k. AreOf k x.instance x.cells) c.requires c.in_order.ensures.own)) in
    ap (λ n. n == 0) many ∙ sym (any_there (words_of x))
