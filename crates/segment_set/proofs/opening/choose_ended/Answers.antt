use Rattle.std.proofs.Common.{◌≡◌, inl, inr, List, Err, ap, sym, subst, ◌∙◌}
use Rattle.segment_files.specs.Parse.{last_place}
use Rattle.segment_files.specs.Folder.{IsUnended, folder}
use Rattle.segment_set.specs.declared.opening.OpenError.TheVariants.{Damaged}
use Rattle.segment_set.specs.declared.opened.Opened.{Opened}
use Rattle.segment_set.specs.Split.{IsUnendedFile}
use Rattle.segment_set.proofs.Ending.{are_open, unended}
use Rattle.segment_set.proofs.Turns.{found_id}
use Rattle.segment_set.proofs.opening.choose_ended.Goals as goal

pub returns-in-Err : goal.returns-in-Err
returns-in-Err c = record {
  chosen = tt;
  damaged = λ base generation at is rise name image are.
      let e : c.in-Err.error ≡ Damaged base generation at = cc in
      let told = c.choose.ensures.untiled base generation at (c.in-Err.is ∙ ap Err e) in
      inr (inl (told.1 rise (folder name image) (are_open name image c.args.files.items are), told.0));
  disk = λ is. c.choose.ensures.disk (c.in-Err.is ∙ ap Err cc);
}

pub returns-in-Some : goal.returns-in-Some
returns-in-Some c = record {
  chosen = tt;
  damaged = λ base generation at is rise name image are.
      let e : c.damaged.result ≡ Damaged base generation at = cc in
      let id = c.in-Some.id in
      let told : Damaged id.base id.generation last_place ≡ Damaged base generation at = sym c.damaged.ensures ∙ e in
      let base_is : base ≡ id.base = cc in
      let generation_is : generation ≡ id.generation = cc in
      let at_is : at ≡ last_place = cc in
      let kept = c.in-Ok.choice.kept.items in
      let opens = are_open name image c.args.files.items are in
      let tile = c.in-Ok.ensures.tile rise (folder name image) opens in
      inr (inr (
        subst (IsUnended (folder name image)) (found_id base generation id base_is generation_is)
            (unended name image kept (λ one has. are.each one ((c.in-Ok.ensures.sifted rise).among one has)) tile.0 id (c.in-Ok.ensures.choice rise (folder name image) opens) tile.1 (subst (λ (l : List Opened). IsUnendedFile l id) c.deref.ensures.value c.in-Some.ensures.some)),
        at_is,
      ));
  disk = λ is. absurd (cc (c.damaged.ensures, is));
}
