-- What every part of a run keeps, part after part.
use Rattle.std.proofs.Common.{◌≡◌, ◌∙◌, ℕ, ◌≤◌, List, Bool, Result, refl, arith}
use Rattle.disk_model.specs.View.{View}
use Rattle.script_io.specs.Streams.{Rose}
use Rattle.segment_set.specs.Fits.{KeepsNames}
use Rattle.host_recovery.specs.HostState.{HostState}
use Rattle.resource_catalog.specs.Parts.{Parts}
use Rattle.copycat_tool.specs.declared.ending.Ending.{Ending}
use Rattle.copycat_tool.specs.Turning.{KeepsRun, goes_on}

others_further : (old mid new : View) (name name' : List ℕ) → name' ≡ name → KeepsNames old mid name → KeepsNames mid new name' → KeepsNames old new name
others_further old mid new name name' is first more = record {
  reading = λ q isnt. more.reading q (λ same. isnt (same ∙ is)) ∙ first.reading q isnt;
  left = λ q o isnt held. first.left q o isnt (more.left q o (λ same. isnt (same ∙ is)) held);
}

-- a count that rose later has risen
pub rose_later : (a b c : ℕ) → a ≤ b → Rose b c → Rose a c
rose_later a b c le rose = omega (arith, le, rose)

-- and one that rose is no less later on
pub rose_before : (a b c : ℕ) → Rose a b → b ≤ c → Rose a c
rose_before a b c rose le = omega (arith, rose, le)

module _ {D : Type 0} (tells : Bool) (view : D → View) (faults : D → ℕ) where
  -- before the first part
  pub keeps_first : (h : HostState D Parts) (sink : ℕ) → KeepsRun tells view faults h h sink sink ⊥ goes_on
  keeps_first h sink = record {
    others = λ t. record { reading = λ q isnt. refl; left = λ q o isnt held. held };
    name_is = refl;
    disk_later = omega arith;
    sink_later = omega arith;
    disk_fault = λ is. absurd (cc is);
    sink_fault = λ is. absurd (cc is);
    read_fault = λ is. cc is;
    undamaged = λ t base generation at is. cc is;
  }

  -- a call on the host, and a line
  pub keeps_on : (old new : HostState D Parts) (read_failed : Type 0) {T : Type 0} (result : Result T Ending) → KeepsRun tells view faults old new 0 0 read_failed result → (sink sink' : ℕ) → sink ≤ sink' → KeepsRun tells view faults old new sink sink' ⊥ goes_on
  keeps_on old new read_failed result keeps sink sink' later = record {
    others = keeps.others;
    name_is = keeps.name_is;
    disk_later = keeps.disk_later;
    sink_later = later;
    disk_fault = λ is. absurd (cc is);
    sink_fault = λ is. absurd (cc is);
    read_fault = λ is. cc is;
    undamaged = λ t base generation at is. cc is;
  }

  -- a part more
  pub keeps_further : (old mid new : HostState D Parts) (sink sink' sink'' : ℕ) → KeepsRun tells view faults old mid sink sink' ⊥ goes_on → (read_failed read_failed' : Type 0) → (read_failed → read_failed') → {T : Type 0} (result : Result T Ending)
      → KeepsRun tells view faults mid new sink' sink'' read_failed result → KeepsRun tells view faults old new sink sink'' read_failed' result
  keeps_further old mid new sink sink' sink'' first read_failed read_failed' reads result more = record {
    others = λ t. others_further (view old.disk) (view mid.disk) (view new.disk) old.parts.name mid.parts.name first.name_is (first.others t) (more.others t);
    name_is = more.name_is ∙ first.name_is;
    disk_later = omega (arith, first.disk_later, more.disk_later);
    sink_later = omega (arith, first.sink_later, more.sink_later);
    disk_fault = λ is. omega (arith, first.disk_later, more.disk_fault is);
    sink_fault = λ is. rose_later sink sink' sink'' first.sink_later (more.sink_fault is);
    read_fault = λ is. reads (more.read_fault is);
    undamaged = more.undamaged;
  }
