-- The last line of a run, and its status.
use Rattle.std.specs.Prelude.{◌≡◌, ◌⊎◌, ℕ, Bool, true, false, List, Option}
use Rattle.disk_model.specs.View.{View, GoesOn}
use Rattle.script_io.specs.Streams.{Rose}
use Rattle.copycat_tool.specs.declared.ending.Ending.{Ending}
use Rattle.copycat_tool.specs.declared.ending.Ending.TheVariants.{Fault, NoMemory, WriteFault, Damaged}
use Rattle.copycat_tool.specs.Programs.{IsStatus}
use Rattle.copycat_tool.specs.Report.{Run}
use Rattle.copycat_tool.specs.Runs.{ClosesAs, Files, RanSo, Wrote}

-- its last line has a number in it, and takes memory
abbrev pub is_numbered : Ending → Bool
is_numbered (Fault n) = true
is_numbered (Damaged base generation at) = true
is_numbered _ = false

-- The last line of this ending was written. Where no memory was left for one with a number in it, that is told in its stead.
pub record EndsRun (name : List ℕ) (ending : Ending) (written written' : Option (List ℕ)) (sink sink' status : ℕ) : Type 0 where
  pub told : Ending
  pub why : (told ≡ ending) ⊎ ((is_numbered ending ≡ true) × (told ≡ NoMemory))
  pub text : List ℕ
  pub wrote : Wrote written written' text
  pub closes : ClosesAs name told status text
  pub sink_fault : status ≡ 5 → (ending ≡ WriteFault) ⊎ Rose sink sink'

-- a run over a log that was opened: what was written in all
pub record HasClosed (files : Files) (run : Run) (script : List ℕ) (left : Option (List ℕ)) (old new : View) (written written' : Option (List ℕ)) (status : ℕ) (read_failed disk_failed : Type 0) : Type 0 where
  pub time : GoesOn old new
  pub text : List ℕ
  pub wrote : Wrote written written' text
  pub ran : RanSo files run script left old.moment new text status read_failed disk_failed

-- What is so of every status, over any disk, source and sink.
pub record HasCauses (read_failed write_failed disk_failed : Type 0) (status : ℕ) : Type 0 where
  pub read : status ≡ 4 → read_failed
  pub write : status ≡ 5 → write_failed
  pub disk : status ≡ 6 → disk_failed
  pub no_usage : status ≡ 2 → ⊥
  pub is : IsStatus status
