use Rattle.std.proofs.Common.{Option, sym, ap, ◌∙◌}
use Rattle.segment_set.specs.declared.tail.Tail.{Tail}
use Rattle.segment_set.specs.Joined.{last_index_of, last_of_files}
use Rattle.segment_set.proofs.Joining.{last_more}
use Rattle.segment_set.proofs.Lying.{last_is}
use Rattle.segment_set.proofs.parts.Parts.last.Goals as goal

pub returns-in-Some-last : goal.returns-in-Some-last
returns-in-Some-last c =
    let files = c.args.self.now.sealed.items in
    let one = c.in-Some-last.one.now in
    let f = last_is files c.deref.result.now one c.deref.ensures.value c.in-Some-last.ensures.item.3 in
    sym (ap (λ (o : Option Tail). last_index_of o files) c.in-None.is ∙ ap last_of_files f.1 ∙ last_more f.0 one)
