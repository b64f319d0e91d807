use Rattle.std.proofs.Common.{◌≡◌, subst}
use Rattle.segment_files.specs.Parse.{base_place}
use Rattle.segment_set.specs.declared.opening.OpenError.TheVariants.{Damaged}
use Rattle.segment_files.specs.Folder.{IsUntiled}
use Rattle.segment_set.proofs.Turns.{found_id}
use Rattle.segment_set.proofs.Chosen.{choice, tiles, untiled}
use Rattle.segment_set.proofs.choice.choose.Goals as goal

pub returns-in-Some-clause-untiled : goal.returns-in-Some-clause-untiled
returns-in-Some-clause-untiled c = λ base generation at is.
    let id = c.in-Some.id in
    let told : Damaged id.base id.generation base_place ≡ Damaged base generation at = cc in
    let base_is : base ≡ id.base = cc in
    let generation_is : generation ≡ id.generation = cc in
    let at_is : at ≡ base_place = cc in
    let found = c.in-Ok.choice in (
      at_is,
      λ rise folder are. subst (IsUntiled folder) (found_id base generation id base_is generation_is)
          (untiled folder c.args.files.items found.kept.items found.covered.items id (c.in-Ok.ensures rise) are c.in-Some.ensures.some),
    )

pub returns-in-None-clause-choice : goal.returns-in-None-clause-choice
returns-in-None-clause-choice c = λ rise folder are. choice folder c.args.files.items c.in-Ok.choice.kept.items c.in-Ok.choice.covered.items (c.in-Ok.ensures rise) are

pub returns-in-None-clause-tile : goal.returns-in-None-clause-tile
returns-in-None-clause-tile c = λ rise folder are.
    let ends = c.in-None.ensures.none in
    (ends.0, tiles folder c.args.files.items c.in-Ok.choice.kept.items c.in-Ok.choice.covered.items (c.in-Ok.ensures rise) are ends.0 ends.1)
