-- What an opening gives, by what was loaded.
use Rattle.std.proofs.Common.{◌≡◌, ℕ, Bool, false, IsTrue, List, Result, Ok, Err, refl, sym, subst, arith}
use Rattle.host_types.specs.Cells.{Cells}
use Rattle.host_types.specs.Decision.{MachineDecision, MachineIsLawful, MachineHasOneOwner}
use Rattle.disk_model.specs.View.{View, LeavesOnly, IsSound}
use Rattle.disk_model.proofs.Moments.{weaker}
use Rattle.segment_files.specs.Folder.{AreParts, folder, entries_of}
use Rattle.segment_set.specs.declared.opening.OpenError.{OpenError}
use Rattle.segment_set.specs.declared.opening.OpenError.TheVariants.{Damaged as Is_damaged}
use Rattle.segment_set.specs.declared.parts.Parts.{Parts}
use Rattle.segment_set.specs.Fits.{cut_by, last_of, parts_in}
use Rattle.segment_set.specs.Load.{IsLikeBefore, Loads}
use Rattle.log_model.specs.plain.Admission.{Item}
use Rattle.log_model.specs.hosted.Hosted.{hosted_told}
use Rattle.log_model.specs.replay.Replay.{replayed}
use Rattle.session_table.specs.Table.{ConfirmsAcked}
use Rattle.host_core.specs.CoreState.{CoreState, hosted}
use Rattle.host_core.specs.Marking.{AreMarksOf}
use Rattle.host_recovery.specs.HostState.{HostState}
use Rattle.host_recovery.specs.Logs.{HasPrefix, IsInOrder, hosted_form}
use Rattle.host_recovery.specs.Opening.{Opens}
use Rattle.host_recovery.proofs.Laying.{lies_so}
use Rattle.segment_set.proofs.LawProofs.{no_fault}
use Rattle.host_recovery.proofs.Loading.{cause_as, error_as}
use Rattle.host_recovery.proofs.Openings.{has_prefix_too, opens_at}

module _ {D M : Type 0} (d : MachineDecision) (tells : Bool) (view : D → View) (faults : D → ℕ) (cells : M → Cells) (before now : D) (name : List ℕ) (size : ℕ) where
  -- a crash leaves a prefix of the log
  leaves_prefix : (result : Result Parts OpenError) → Loads tells (view before) (view now) (faults before) (faults now) name result → IsTrue tells
      → (items : List Item) (least : ℕ) → IsInOrder (hosted_form d) (view before) name items least → LeavesOnly (view before) (view now) (HasPrefix (hosted_form d) name items least)
  leaves_prefix result loads t items least order =
      weaker (view before) (view now) (IsLikeBefore (view before) name) (HasPrefix (hosted_form d) name items least) (loads.leaves t).any_moment
      (λ image like. has_prefix_too d name items least like.before image like.same (order.each like.before like.may))

  abbrev host : Parts → CoreState M → HostState D M
  host parts core = record { disk = now; parts = parts; core = core; size = size; stopped = false }

  pub opens_so : (parts : Parts) (core : CoreState M) → MachineIsLawful d → MachineHasOneOwner d → (IsTrue tells → IsSound (view before)) → Loads tells (view before) (view now) (faults before) (faults now) name (Ok parts)
      → (IsTrue tells → hosted cells core ≡ replayed (hosted_told d) (cut_by parts.sealed.items) (entries_of (parts_in (view now).reading parts)))
      → (IsTrue tells → AreMarksOf (entries_of (parts_in (view now).reading parts)) core.marks) → ConfirmsAcked core.sessions
      → Opens d tells view faults cells before now name size (Ok (host parts core))
  opens_so parts core lawful owner sound loads state marks confirmed = record {
    runs = (loads.name_is, refl, refl);
    confirmed = confirmed;
    told = λ t.
        let found = loads.found t in
        let leaves = loads.leaves t in
        let named = sym loads.name_is in
        record {
          stands = λ items least order.
              opens_at d view cells (view before) (host parts core) items least lawful owner (sound t)
              (subst (λ (n : List ℕ). IsInOrder (hosted_form d) (view before) n items least) named order) refl
              found.fits
              (subst (λ (n : List ℕ). AreParts (folder n (view before).reading) (parts_in (view now).reading parts) (last_of parts)) named found.are)
              (found.held order.empty)
              (state t)
              (marks t);
          any_moment = leaves_prefix (Ok parts) loads t;
          faultless = λ id at fault. no_fault (folder name (view before).reading) (parts_in (view now).reading parts) (last_of parts) found.are id at fault;
          lies = lies_so (view before) (view now) name parts (last_of parts) found.are found.greatest;
          leaves = record {
            damaged = λ base generation at is. absurd (cc);
            unharmed = leaves.unharmed;
            any_moment = leaves.any_moment;
            empty = leaves.empty;
            others = leaves.others;
          };
        };
    cause = record { later = loads.cause.later; failed = λ is. absurd (cc) };
  }

  pub opens_not : (error : OpenError) → Loads tells (view before) (view now) (faults before) (faults now) name (Err error) → Opens d tells view faults cells before now name size (Err error)
  opens_not error loads = record {
    runs = tt;
    confirmed = tt;
    told = λ t.
        let leaves = loads.leaves t in
        record {
          stands = λ items least order. tt;
          any_moment = leaves_prefix (Err error) loads t;
          faultless = tt;
          lies = tt;
          leaves = record {
            damaged = λ base generation at is. leaves.damaged base generation at (error_as (HostState D M) Parts error (Is_damaged base generation at) is);
            unharmed = leaves.unharmed;
            any_moment = leaves.any_moment;
            empty = leaves.empty;
            others = leaves.others;
          };
        };
    cause = cause_as Parts (HostState D M) (faults before) (faults before) (faults now) error (omega arith) loads.cause;
  }
