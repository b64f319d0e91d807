use Rattle.std.proofs.Common.{◌≡◌, ◌⊎◌, inl, inr, ⊎_elim, ℕ, true, List, [], ◌∷◌, ◌++◌, Option, refl, sym, ◌∙◌, subst, arith}
use Rattle.std.proofs.lemmas.List.{append-nil}
use Rattle.script_io.specs.Streams.{Rose}
use Rattle.copycat_tool.specs.Report.{damaged_text, fault_text, last_line, printed_lines, status_of}
use Rattle.copycat_tool.specs.declared.ending.Ending.{Ending}
use Rattle.copycat_tool.specs.declared.ending.Ending.TheVariants.{Done, Fault, TooLong, ReadFault, WriteFault, DiskFault, NoMemory, Damaged}
use Rattle.copycat_tool.specs.Runs.{Closes, Wrote}
use Rattle.copycat_tool.specs.Closing.{EndsRun, is_numbered}
use Rattle.copycat_tool.proofs.RunLemmas.{quiet}
use Rattle.copycat_tool.proofs.Writing.{wrote_none}
use Rattle.copycat_tool.proofs.closing.close_run.Goals as goal

-- no line is printed
module _ (name : List ℕ) (ending : Ending) (written : Option (List ℕ)) (sink : ℕ) where
  silent : (told : Ending) → told ≡ ending → printed_lines (last_line name told) ≡ [] → (status_of told ≡ 5 → ending ≡ WriteFault) → EndsRun name ending written written sink sink (status_of told)
  silent told is none five = record {
    told = told;
    why = inl is;
    text = [];
    wrote = wrote_none written;
    closes = subst (λ (l : List ℕ). Closes l (status_of told) (status_of told) []) (sym none) (quiet (status_of told));
    sink_fault = λ is. inl (five is);
  }

-- a line was printed
module _ (name : List ℕ) (ending : Ending) (written written' : Option (List ℕ)) (sink sink' status : ℕ) where
  spoken : (told : Ending) → (told ≡ ending) ⊎ ((is_numbered ending ≡ true) × (told ≡ NoMemory)) → (line : List ℕ) → line ≡ printed_lines (last_line name told)
      → ((text : List ℕ) × Wrote written written' text × Closes line (status_of told) status text) → (status ≡ 5 → (status_of told ≡ 5) ⊎ Rose sink sink') → (status_of told ≡ 5 → ending ≡ WriteFault) → EndsRun name ending written written' sink sink' status
  spoken told why line is put failed five = record {
    told = told;
    why = why;
    text = put.0;
    wrote = put.1;
    closes = subst (λ (l : List ℕ). Closes l (status_of told) status put.0) is put.2;
    sink_fault = λ is. ⊎_elim (λ five'. inl (five five')) (λ rose. inr rose) (failed is);
  }

pub returns-in-Done-clause-ends : goal.returns-in-Done-clause-ends
returns-in-Done-clause-ends g c = silent _ _ _ _ Done (sym c.in-Done.is) refl (λ no. absurd (omega (arith, no)))

pub returns-in-WriteFault-clause-ends : goal.returns-in-WriteFault-clause-ends
returns-in-WriteFault-clause-ends g c = silent _ _ _ _ WriteFault (sym c.in-WriteFault.is) refl (λ five. c.in-WriteFault.is)

pub returns-in-TooLong-clause-ends : goal.returns-in-TooLong-clause-ends
returns-in-TooLong-clause-ends g c = spoken _ _ _ _ _ _ _ TooLong (inl (sym c.in-TooLong.is)) _ refl c.put_last-in-TooLong.ensures.closes c.put_last-in-TooLong.ensures.sink (λ no. absurd (omega (arith, no)))

pub returns-in-ReadFault-clause-ends : goal.returns-in-ReadFault-clause-ends
returns-in-ReadFault-clause-ends g c = spoken _ _ _ _ _ _ _ ReadFault (inl (sym c.in-ReadFault.is)) _ refl c.put_last-in-ReadFault.ensures.closes c.put_last-in-ReadFault.ensures.sink (λ no. absurd (omega (arith, no)))

pub returns-in-DiskFault-clause-ends : goal.returns-in-DiskFault-clause-ends
returns-in-DiskFault-clause-ends g c = spoken _ _ _ _ _ _ _ DiskFault (inl (sym c.in-DiskFault.is)) _ refl c.put_last-in-DiskFault.ensures.closes c.put_last-in-DiskFault.ensures.sink (λ no. absurd (omega (arith, no)))

pub returns-in-NoMemory-clause-ends : goal.returns-in-NoMemory-clause-ends
returns-in-NoMemory-clause-ends g c = spoken _ _ _ _ _ _ _ NoMemory (inl (sym c.in-NoMemory.is)) _ refl c.put_last-in-NoMemory.ensures.closes c.put_last-in-NoMemory.ensures.sink (λ no. absurd (omega (arith, no)))

numbered_as : (ending told : Ending) → ending ≡ told → is_numbered told ≡ true → is_numbered ending ≡ true
numbered_as ending told is numbered = subst (λ (x : Ending). is_numbered x ≡ true) (sym is) numbered

pub returns-in-Ok-clause-ends : goal.returns-in-Ok-clause-ends
returns-in-Ok-clause-ends g c = spoken _ _ _ _ _ _ _ (Fault c.in-Fault.line) (inl (sym c.in-Fault.is)) _ (c.as_bytes.ensures.value ∙ c.in-Ok.ensures ∙ sym (append-nil (fault_text c.in-Fault.line ++ 10 ∷ [])))
    c.put_last.ensures.closes c.put_last.ensures.sink (λ no. absurd (omega (arith, no)))

pub returns-in-Err-clause-ends : goal.returns-in-Err-clause-ends
returns-in-Err-clause-ends g c = spoken _ _ _ _ _ _ _ NoMemory (inr (numbered_as _ _ c.in-Fault.is refl, refl)) _ refl c.put_last-in-Err.ensures.closes c.put_last-in-Err.ensures.sink (λ no. absurd (omega (arith, no)))

pub returns-in-Ok-damaged_line-clause-ends : goal.returns-in-Ok-damaged_line-clause-ends
returns-in-Ok-damaged_line-clause-ends g c =
    let text = damaged_text c.args.name.now c.in-Damaged.base c.in-Damaged.generation c.in-Damaged.at in
    spoken _ _ _ _ _ _ _ (Damaged c.in-Damaged.base c.in-Damaged.generation c.in-Damaged.at) (inl (sym c.in-Damaged.is)) _ (c.deref.ensures.value ∙ c.in-Ok-damaged_line.ensures ∙ sym (append-nil (text ++ 10 ∷ [])))
    c.put_last-in-Ok-damaged_line.ensures.closes c.put_last-in-Ok-damaged_line.ensures.sink (λ no. absurd (omega (arith, no)))

pub returns-in-Err-damaged_line-clause-ends : goal.returns-in-Err-damaged_line-clause-ends
returns-in-Err-damaged_line-clause-ends g c = spoken _ _ _ _ _ _ _ NoMemory (inr (numbered_as _ _ c.in-Damaged.is refl, refl)) _ refl c.put_last-in-Err-damaged_line.ensures.closes c.put_last-in-Err-damaged_line.ensures.sink (λ no. absurd (omega (arith, no)))
