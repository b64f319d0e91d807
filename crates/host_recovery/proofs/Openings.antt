-- What is replayed when a host is opened, and the prefix of its log that was read.
use Rattle.std.proofs.Common.{◌≡◌, inl, ℕ, zero, suc, Bool, true, false, ◌&&◌, IsTrue, List, [], ◌∷◌, length, take, Option, Some, None, refl, sym, ap, subst, ◌∙◌, arith}
use Rattle.host_types.specs.Decision.{MachineDecision, MachineIsLawful, MachineHasOneOwner}
use Rattle.host_types.specs.Cells.{Cells}
use Rattle.disk_model.specs.Image.{Image}
use Rattle.disk_model.specs.View.{View, MayHold, MayLeave, IsSound}
use Rattle.segment_files.specs.Parse.{Part}
use Rattle.segment_files.specs.Folder.{AreParts, folder, entries_of}
use Rattle.segment_set.specs.Fits.{Fits, IsHeld, cut_by, cut_of, floor_of, last_of, parts_in}
use Rattle.segment_set.proofs.LawProofs.{one_list}
use Rattle.segment_set.proofs.Tiles.{cut_is}
use Rattle.log_model.specs.plain.Admission.{Item}
use Rattle.log_model.specs.plain.Fitting.{ItemsFit}
use Rattle.log_model.specs.hosted.Hosted.{Hosted, hosted_nothing, hosted_step, hosted_stored, hosted_told, is_hosted_admitted, is_hosted_log_from}
use Rattle.log_model.specs.replay.Replay.{replayed}
use Rattle.log_model.proofs.hosted.HostedLogs.{marks_of_machines, whole}
use Rattle.log_model.proofs.replay.WholeFold.{gives_hosted_fold}
use Rattle.host_core.specs.CoreState.{hosted}
use Rattle.host_core.specs.Marking.{AreMarksOf}
use Rattle.host_core.proofs.Telling.{replay_tells}
use Rattle.host_recovery.specs.HostState.{HostState}
use Rattle.host_recovery.specs.Logs.{AreOf, HasPrefix, IsInOrder, IsLog, hosted_form}
use Rattle.host_recovery.specs.Opening.{OpensAt}

-- ---- prefixes of a log

and_further : (b : Bool) {x y : Bool} → (IsTrue x → IsTrue y) → IsTrue (b && x) → IsTrue (b && y)
and_further true f is = f is
and_further false f is = is

log_take : (d : MachineDecision) (s : Hosted) (items : List Item) (n : ℕ) → IsTrue (is_hosted_log_from d s items) → IsTrue (is_hosted_log_from d s (take n items))
log_take d s items zero is = refl
log_take d s [] (suc n) is = refl
log_take d s (item ∷ items) (suc n) is = and_further (is_hosted_admitted d s item) (log_take d (hosted_step d s item) items n) is

fit_take : (items : List Item) (n : ℕ) → ItemsFit items → ItemsFit (take n items)
fit_take items zero fit = tt
fit_take [] (suc n) fit = tt
fit_take (item ∷ items) (suc n) fit = (fit.0, fit_take items n fit.1)

-- a prefix of a log is a log
pub log_prefix : (d : MachineDecision) (items : List Item) (n : ℕ) → IsLog (hosted_form d) items → IsLog (hosted_form d) (take n items)
log_prefix d items n log = record { admitted = log_take d hosted_nothing items n log.admitted; fits = fit_take items n log.fits }

-- what is read is one of the images that a crash now may leave
pub read_is_left : (v : View) → IsSound v → MayLeave v v.reading
read_is_left v sound p = at (v.reading p) refl
  where
    at : (o : Option (List ℕ)) → v.reading p ≡ o → MayHold v p o
    at None is = sound.absent p is
    at (Some bytes) is = inl (sound.listed p bytes is)

-- an image with the same parts stands for the same prefix
pub has_prefix_too : (d : MachineDecision) (name : List ℕ) (items : List Item) (least : ℕ) (before image : Image) → ((parts : List Part) (last : ℕ) → AreParts (folder name before) parts last → AreParts (folder name image) parts last)
    → HasPrefix (hosted_form d) name items least before → HasPrefix (hosted_form d) name items least image
has_prefix_too d name items least before image same has = record {
  count = has.count;
  enough = has.enough;
  within = has.within;
  stands = record { parts = has.stands.parts; are = same has.stands.parts (length (take has.count items)) has.stands.are; of = has.stands.of };
}

-- ---- the host that was opened

pub opens_at : {D M : Type 0} (d : MachineDecision) (view : D → View) (cells : M → Cells) (v0 : View) (h : HostState D M) (items : List Item) (least : ℕ)
    → MachineIsLawful d → MachineHasOneOwner d → IsSound v0 → IsInOrder (hosted_form d) v0 h.parts.name items least → h.stopped ≡ false
    → Fits (view h.disk) h.parts
    → AreParts (folder h.parts.name v0.reading) (parts_in (view h.disk).reading h.parts) (last_of h.parts)
    → IsHeld (view h.disk) h.parts
    → hosted cells h.core ≡ replayed (hosted_told d) (cut_by h.parts.sealed.items) (entries_of (parts_in (view h.disk).reading h.parts))
    → AreMarksOf (entries_of (parts_in (view h.disk).reading h.parts)) h.core.marks
    → OpensAt d view cells v0 items least h
opens_at d view cells v0 h items least lawful owner sound order runs fits are held state marks =
    let ps = parts_in (view h.disk).reading h.parts in
    let read = order.each v0.reading (read_is_left v0 sound) in
    let prefix : List Item = take read.count items in
    let log = log_prefix d items read.count order.log in
    let same : read.stands.parts ≡ ps = (one_list (folder h.parts.name v0.reading) read.stands.parts ps (length prefix) (last_of h.parts) read.stands.are are).0 in
    let of : AreOf (hosted_form d) ps prefix = subst (λ (l : List Part). AreOf (hosted_form d) l prefix) same read.stands.of in
    record {
      count = read.count;
      enough = read.enough;
      within = read.within;
      read = read.stands;
      stands = record {
        runs = runs;
        log = log;
        of = of;
        held = held;
        state = state
            ∙ ap (λ (k : ℕ). replayed (hosted_told d) k (entries_of ps)) (sym (cut_is (view h.disk) h.parts fits))
            ∙ gives_hosted_fold d prefix (entries_of ps) (cut_of ps) (floor_of ps) lawful owner log.fits log.admitted of;
        marks = replay_tells (entries_of ps) (hosted_stored d prefix) (cut_of ps) h.core.marks
            (λ j e there cut low high. (let long = (whole d prefix).length in marks_of_machines d prefix (entries_of ps) (cut_of ps) (floor_of ps) lawful owner log.fits log.admitted of j e there cut low (omega (arith, long, high))))
            marks;
      };
    }
