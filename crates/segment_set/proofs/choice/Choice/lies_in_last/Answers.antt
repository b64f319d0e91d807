use Rattle.segment_set.specs.declared.opened.Opened.{Opened}
use Rattle.segment_files.specs.Folder.{LiesIn}
use Rattle.segment_set.specs.Sifting.{opened_span}
use Rattle.segment_set.proofs.Lying.{last_is, some_last}
use Rattle.segment_set.proofs.choice.Choice.lies_in_last.Goals as goal

pub returns-in-Some : goal.returns-in-Some
returns-in-Some c =
    let is = last_is c.args.self.now.kept.items c.deref.result.now c.in-Some.last.now c.deref.ensures.value c.in-Some.ensures.item.3 in (
      λ yes. (is.0, c.in-Some.last.now, is.1, c.lies_in.ensures.0 yes),
      λ lies. c.lies_in.ensures.1 (some_last c.args.self.now.kept.items c.in-Some.last.now (λ (o : Opened). LiesIn (opened_span c.args.one.now) (opened_span o)) is lies.0 lies.1 lies.2 lies.3),
    )
