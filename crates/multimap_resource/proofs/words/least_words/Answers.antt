use Rattle.std.proofs.Common.{rules, ◌≡◌, take, ap, subst, ◌∙◌}
use Rattle.log_model.proofs.kinds.Listings.{AreOf}
use Rattle.multimap_resource.specs.Reading.{words_of}
use Rattle.multimap_resource.proofs.Walking.{words_are}
use Rattle.multimap_resource.proofs.words.least_words.Goals as goal

pub returns : goal.returns
returns c =
    let x = c.args.table.now in
    let copied : c.copy_from-done.new.words ≡ take 16 (words_of c.args.key.now x.cells) = search rules in
    copied ∙ ap (take 16) (words_are x.instance c.args.key.now x.cells c.in_order.ensures.rise (subst (λ k. AreOf k x.instance x.cells) c.requires c.in_order.ensures.own))
