use Rattle.std.proofs.Common.{ℕ, ◌≤◌, List, Option, sym, subst, Contains}
use Rattle.disk_model.specs.Image.{place}
use Rattle.disk_model.specs.View.{View, IsListed}
use Rattle.segment_files.specs.Contents.{Offset_list}
use Rattle.segment_set.specs.declared.opened.Opened.{Opened}
use Rattle.segment_set.specs.declared.parts.Parts.{Parts}
use Rattle.segment_set.specs.declared.tail.Tail.{Tail}
use Rattle.segment_set.specs.Fits.{Fits, IsAsBefore, IsOpenIn, TailIs}
use Rattle.library_tests.proofs.many_files_tests.put_all.Goals as goal

-- room is no matter of the disk
fits_with_room : (v : View) (old new : Parts) → IsAsBefore old new → Fits v old → Fits v new
fits_with_room v old new same fits = record {
  sealed = λ one has. subst (λ (n : List ℕ). IsOpenIn n v.reading one) (sym same.name) (fits.sealed one (subst (λ (l : List Opened). Contains l one) same.sealed has));
  tail = subst (λ (x : List ℕ × Option Tail × Offset_list). TailIs v x.0 x.1 x.2) (λ i. (sym same.name i, sym same.tail i, sym same.offsets i)) fits.tail;
  generations = λ id listed. subst (λ (k : ℕ). id.generation ≤ k) (sym same.greatest) (fits.generations id (subst (λ (n : List ℕ). IsListed v (place n id)) same.name listed));
}

pub append-requires-clause-fits : goal.append-requires-clause-fits
append-requires-clause-fits g c = λ t. fits_with_room (g.D.Disk.view c.args.disk.now) c.args.parts.now c.prepare_append.new.self c.prepare_append.ensures.same (c.requires.fits t)
