-- From the opening of a log to the end of the run over it.
use Rattle.std.proofs.Common.{◌≡◌, ◌⊎◌, inl, inr, ⊎_elim, refl, subst, ℕ, ◌≤◌, List, length, take, Option, refl, sym}
use Rattle.disk_model.specs.Image.{Image}
use Rattle.disk_model.specs.View.{View, GoesOn, IsSound, LeavesOnly}
use Rattle.disk_model.proofs.Moments.{has_now, weaker}
use Rattle.segment_files.specs.Folder.{folder, IsFault}
use Rattle.segment_set.specs.Fits.{IsEmptyWhereNone}
use Rattle.segment_set.specs.declared.opening.OpenError.{OpenError}
use Rattle.segment_set.specs.declared.opening.OpenError.TheVariants as errors
use Rattle.segment_set.specs.Load.{id_from}
use Rattle.log_model.specs.plain.Admission.{Item}
use Rattle.log_model.specs.hosted.PlainMachine.{HostsArePlain}
use Rattle.log_model.specs.plain.Step.{folded}
use Rattle.log_model.specs.serving.Positions.{acked_positions}
use Rattle.resource_catalog.specs.Catalog.{catalog_decision}
use Rattle.copycat_tool.specs.Report.{Run}
use Rattle.host_recovery.specs.FileLayout.{Lies}
use Rattle.host_recovery.specs.Logs.{HasPrefix, IsInOrder, IsLog, StandsFor, hosted_form, plain_form}
use Rattle.copycat_tool.specs.declared.ending.Ending.{Ending}
use Rattle.copycat_tool.specs.declared.ending.Ending.TheVariants.{Damaged, DiskFault, ReadFault, WriteFault}
use Rattle.copycat_tool.specs.Closing.{EndsRun}
use Rattle.copycat_tool.specs.Endings.{ending_of}
use Rattle.copycat_tool.specs.Runs.{BeginsAcked, BeginsAtPoints, Files, RanSo}
use Rattle.copycat_tool.specs.Programs.{IsUnopened, OpensAndRuns, StaysUnopened}
use Rattle.copycat_tool.proofs.CallLemmas.{as_hosted, hosted_files, plain_files}
use Rattle.copycat_tool.proofs.LogLemmas.{logged_front}

-- PLAIN LOGS AND THOSE OF THE HOST

module _ (law : HostsArePlain catalog_decision) (name : List ℕ) (log : List Item) (least : ℕ) (logged : IsLog plain_form log) where
  hosted_prefix : (image : Image) → HasPrefix plain_form name log least image → HasPrefix (hosted_form catalog_decision) name log least image
  hosted_prefix image p = record { count = p.count; enough = p.enough; within = p.within; stands = hosted_files law name (take p.count log) (logged_front p.count log logged) image p.stands }

  plain_prefix : (image : Image) → HasPrefix (hosted_form catalog_decision) name log least image → HasPrefix plain_form name log least image
  plain_prefix image p = record { count = p.count; enough = p.enough; within = p.within; stands = plain_files law name name (take p.count log) (logged_front p.count log logged) refl image p.stands }

  -- a folder that is in order is so for the host
  pub to_hosted : (v : View) → IsInOrder plain_form v name log least → IsInOrder (hosted_form catalog_decision) v name log least
  to_hosted v order = record { log = as_hosted law log logged; each = λ image may. hosted_prefix image (order.each image may); empty = order.empty }

  -- and what is left of the log stands for a prefix of it
  pub left_plain : (v w : View) → LeavesOnly v w (HasPrefix (hosted_form catalog_decision) name log least) → LeavesOnly v w (HasPrefix plain_form name log least)
  left_plain v w only = weaker v w _ _ only plain_prefix

  -- so it is still in order
  pub still_in_order : (v w : View) → IsSound w → LeavesOnly v w (HasPrefix plain_form name log least) → IsEmptyWhereNone w name → IsInOrder plain_form w name log least
  still_in_order v w sound only empty = record { log = logged; each = λ image may. has_now v w (HasPrefix plain_form name log least) sound only image may; empty = empty }

-- AN OPENING THAT FAILED

-- why the log isn't open, as its error tells
pub why_unopened : (name : List ℕ) (v : View) (disk_failed : Type 0) (error : OpenError) → (error ≡ errors.Disk → disk_failed)
    → ((base generation at : ℕ) → error ≡ errors.Damaged base generation at → IsFault (folder name v.reading) (id_from base generation) at) → IsUnopened name v disk_failed (ending_of error)
why_unopened name v disk_failed errors.Disk failed damaged = failed refl
why_unopened name v disk_failed (errors.Damaged base generation at) failed damaged = damaged base generation at refl
why_unopened name v disk_failed errors.NoMemory failed damaged = tt

-- it is told in one line
pub stays_unopened : (name : List ℕ) (script left : Option (List ℕ)) (v : View) (disk_failed : Type 0) (ending : Ending) → IsUnopened name v disk_failed ending → (written written' : Option (List ℕ)) (sink sink' status : ℕ)
    → (e : EndsRun name ending written written' sink sink' status) → left ≡ script → StaysUnopened name script left v e.text status disk_failed
stays_unopened name script left v disk_failed ending why written written' sink sink' status e unread = record {
  ending = e.told;
  why = elim e.why [
    | inl same ↦ subst (IsUnopened name v disk_failed) (sym same) why
    | inr numbered ↦ subst (IsUnopened name v disk_failed) (sym numbered.1) tt
  ];
  closes = e.closes;
  unread = unread;
}

pub unopened_of : (name : List ℕ) (v : View) (disk_failed : Type 0) (error : OpenError) (ending : Ending) → ending ≡ ending_of error → (error ≡ errors.Disk → disk_failed)
    → ((base generation at : ℕ) → error ≡ errors.Damaged base generation at → IsFault (folder name v.reading) (id_from base generation) at) → IsUnopened name v disk_failed ending
unopened_of name v disk_failed error ending is failed damaged = subst (IsUnopened name v disk_failed) (sym is) (why_unopened name v disk_failed error failed damaged)

-- which error an ending tells
pub damage_from : (error : OpenError) (base generation at : ℕ) → ending_of error ≡ Damaged base generation at → error ≡ errors.Damaged base generation at
damage_from errors.Disk base generation at is = absurd (cc is)
damage_from (errors.Damaged b g a) base generation at is = cc is
damage_from errors.NoMemory base generation at is = absurd (cc is)

pub fault_from : (error : OpenError) → ending_of error ≡ DiskFault → error ≡ errors.Disk
fault_from errors.Disk is = refl
fault_from (errors.Damaged base generation at) is = absurd (cc is)
fault_from errors.NoMemory is = absurd (cc is)

pub of_calls : (error : OpenError) → ((ending_of error ≡ ReadFault) ⊎ (ending_of error ≡ WriteFault)) → ⊥
of_calls errors.Disk (inl is) = cc is
of_calls errors.Disk (inr is) = cc is
of_calls (errors.Damaged base generation at) (inl is) = cc is
of_calls (errors.Damaged base generation at) (inr is) = cc is
of_calls errors.NoMemory (inl is) = cc is
of_calls errors.NoMemory (inr is) = cc is

-- AN OPENING, AND THEN A RUN

-- up to the moment when it was open a crash leaves what the log was in order for
pub opens_and_runs : (files : Files) (log : List Item) (least : ℕ) (script : List ℕ) (left : Option (List ℕ)) (v m w : View) (text : List ℕ) (status : ℕ) (read_failed failed failed' : Type 0) (run : Run) (count : ℕ) → least ≤ count → count ≤ length log
    → run.log ≡ take count log → StandsFor plain_form files.name v.reading run.log → Lies files.name v.reading run.layout → run.confirmed ≡ acked_positions (folded run.log).sessions → BeginsAcked run → BeginsAtPoints run → LeavesOnly v m (HasPrefix plain_form files.name log least) → GoesOn m w → (failed → failed')
    → RanSo files run script left m.moment w text status read_failed failed → OpensAndRuns files log least script left v w text status read_failed failed'
opens_and_runs files log least script left v m w text status read_failed failed failed' run count enough within log_is read lies confirmed clients points opening time fails ran = record {
  run = run;
  count = count;
  enough = enough;
  within = within;
  log_is = log_is;
  read = read;
  lies = lies;
  confirmed = confirmed;
  clients = clients;
  points = points;
  opened = m.moment;
  later = opening.time.later;
  before = λ image left. ⊎_elim (λ was. inl (opening.each image was)) (λ since. inr since) (time.nothing_else v.moment image opening.time.later left);
  ran = record {
    ending = ran.ending;
    body = ran.body;
    last = ran.last;
    text_is = ran.text_is;
    ended = ran.ended;
    clients = ran.clients;
    read_fault = ran.read_fault;
    disk_fault = λ is. fails (ran.disk_fault is);
    closes = ran.closes;
  };
}
