-- A host that is opened again stands at the log that it stood at.
use Rattle.std.proofs.Common.{◌≡◌, ℕ, false, List, length, sym, subst, arith}
use Rattle.std.proofs.lemmas.List.{take_all}
use Rattle.host_types.specs.Cells.{Cells}
use Rattle.host_types.specs.Decision.{MachineDecision, MachineIsLawful, MachineHasOneOwner}
use Rattle.disk_model.specs.declared.file_id.FileId.{FileId}
use Rattle.disk_model.specs.Image.{Image}
use Rattle.disk_model.specs.View.{View, LeavesOnly, IsSound}
use Rattle.disk_model.proofs.Moments.{weaker}
use Rattle.segment_files.specs.Folder.{AreParts, IsFault, entries_of, folder}
use Rattle.segment_set.specs.declared.parts.Parts.{Parts}
use Rattle.segment_set.specs.Fits.{Fits, IsAlone, IsHeld, cut_by, last_of, parts_in}
use Rattle.segment_set.specs.Load.{IsGreatestListed, IsLikeBefore}
use Rattle.segment_set.proofs.LawProofs.{no_fault}
use Rattle.log_model.specs.plain.Admission.{Item}
use Rattle.log_model.specs.hosted.Hosted.{hosted_told}
use Rattle.log_model.specs.cleaning.Layout.{alone as alone_by}
use Rattle.log_model.specs.replay.Replay.{replayed}
use Rattle.host_core.specs.CoreState.{hosted}
use Rattle.host_core.specs.Marking.{AreMarksOf}
use Rattle.host_recovery.specs.HostState.{HostState}
use Rattle.host_recovery.specs.Logs.{HasPrefix, IsInOrder, StandsFor, hosted_form}
use Rattle.host_recovery.specs.Standing.{StandsAt, layout_in}
use Rattle.host_recovery.proofs.Growing.{stands_for}
use Rattle.host_recovery.proofs.Laying.{is_laid_out, lie_alike, lies_so, parts_are}
use Rattle.host_recovery.proofs.Lengthening.{AreWhole}
use Rattle.host_recovery.proofs.Openings.{has_prefix_too, opens_at}
use Rattle.host_recovery.proofs.Stores.{stays_empty}

-- what stands for all items at least stands for them
whole_prefix : (d : MachineDecision) (name : List ℕ) (items : List Item) (image : Image) → HasPrefix (hosted_form d) name items (length items) image → StandsFor (hosted_form d) name image items
whole_prefix d name items image has = subst (StandsFor (hosted_form d) name image) (take_all has.count items has.enough) has.stands

module _ {D M : Type 0} (d : MachineDecision) (view : D → View) (cells : M → Cells) (old : HostState D M) (items : List Item) (at : StandsAt d view cells old items)
    (fits : Fits (view old.disk) old.parts) (whole : AreWhole (parts_in (view old.disk).reading old.parts) (length items)) where
  -- its folder is in order for all of the log
  stays_in_order : IsInOrder (hosted_form d) (view old.disk) old.parts.name items (length items)
  stays_in_order = record {
    log = at.log;
    each = λ image may. record {
      count = length items;
      enough = omega arith;
      within = omega arith;
      stands = subst (StandsFor (hosted_form d) old.parts.name image) (sym (take_all (length items) items (omega arith))) (stands_for d view cells old items at whole image may);
    };
    empty = stays_empty (view old.disk) old.parts fits at.held;
  }

  -- so the host that is opened on it stands at all of the log
  pub stands_again : (new : HostState D M) → MachineIsLawful d → MachineHasOneOwner d → IsSound (view old.disk) → new.parts.name ≡ old.parts.name → new.stopped ≡ false
      → Fits (view new.disk) new.parts
      → AreParts (folder old.parts.name (view old.disk).reading) (parts_in (view new.disk).reading new.parts) (last_of new.parts)
      → IsHeld (view new.disk) new.parts
      → hosted cells new.core ≡ replayed (hosted_told d) (cut_by new.parts.sealed.items) (entries_of (parts_in (view new.disk).reading new.parts))
      → AreMarksOf (entries_of (parts_in (view new.disk).reading new.parts)) new.core.marks
      → StandsAt d view cells new items
  stands_again new lawful owner sound named runs new_fits are held state marks =
      let is = sym named in
      let opened = opens_at d view cells (view old.disk) new items (length items) lawful owner sound
      (subst (λ (n : List ℕ). IsInOrder (hosted_form d) (view old.disk) n items (length items)) is stays_in_order) runs
      new_fits
      (subst (λ (n : List ℕ). AreParts (folder n (view old.disk).reading) (parts_in (view new.disk).reading new.parts) (last_of new.parts)) is are)
      held
      state
      marks in
      subst (StandsAt d view cells new) (take_all opened.count items opened.enough) opened.stands

  -- and whatever a crash leaves on the way stands for it
  pub leaves_whole : (w : View) → LeavesOnly (view old.disk) w (IsLikeBefore (view old.disk) old.parts.name) → LeavesOnly (view old.disk) w (λ (image : Image). StandsFor (hosted_form d) old.parts.name image items)
  leaves_whole w leaves =
      weaker (view old.disk) w (IsLikeBefore (view old.disk) old.parts.name) (λ (image : Image). StandsFor (hosted_form d) old.parts.name image items) leaves
      (λ image like. whole_prefix d old.parts.name items image (has_prefix_too d old.parts.name items (length items) like.before image like.same (stays_in_order.each like.before like.may)))

-- the files lie as they lay, with no others beside them
pub lie_as_before : (v w : View) (old new : Parts) → Fits v old → IsAlone v old
    → AreParts (folder old.name v.reading) (parts_in w.reading new) (last_of new) → IsGreatestListed v old.name new.greatest
    → layout_in w new ≡ alone_by (layout_in v old)
lie_as_before v w old new fits alone are great =
    lie_alike old.name v.reading (layout_in w new) (alone_by (layout_in v old)) (lies_so v w old.name new (last_of new) are great) (is_laid_out v old fits alone).lies

-- a folder that fits what is remembered of it has no fault
pub fits_no_fault : (v : View) (parts : Parts) (id : FileId) (at : ℕ) → Fits v parts → IsAlone v parts → IsFault (folder parts.name v.reading) id at → ⊥
fits_no_fault v parts id at fits alone fault = no_fault (folder parts.name v.reading) (parts_in v.reading parts) (last_of parts) (parts_are v parts fits alone) id at fault
