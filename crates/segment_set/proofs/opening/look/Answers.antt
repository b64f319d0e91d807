use Rattle.std.proofs.Common.{refl, subst}
use Rattle.segment_files.specs.declared.reading.Found.{Found}
use Rattle.segment_files.specs.Contents.{IsFound}
use Rattle.segment_files.specs.Parse.{parse}
use Rattle.segment_set.proofs.Turns.{part_in}
use Rattle.segment_set.proofs.opening.look.Goals as goal

pub returns-in-Ok-Part-clause-looked : goal.returns-in-Ok-Part-clause-looked
returns-in-Ok-Part-clause-looked g c = λ t.
    let reads = c.requires.listed t in (
      refl,
      part_in c.args.name.now (g.D.Disk.view c.args.disk.now).reading c.args.id reads.0 c.in-Ok-Part.part reads.1
          (subst (λ (f : Found). IsFound reads.0 f (parse c.args.id reads.0)) c.in-Ok-Part.field-0-is (c.in-Ok-Part.ensures.found t reads.0 reads.1)),
    )
