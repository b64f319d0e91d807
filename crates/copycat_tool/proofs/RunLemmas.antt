-- The last line of a run, and its status.
use Rattle.std.proofs.Common.{◌≡◌, ◌⊎◌, inl, inr, ⊎_elim, ℕ, true, List, [], ◌++◌, take, Option, refl, sym, ap, ◌∙◌, subst, arith}
use Rattle.disk_model.specs.View.{View}
use Rattle.script_io.specs.Streams.{Rose}
use Rattle.copycat_tool.specs.Report.{Run, Report, status_of}
use Rattle.copycat_tool.specs.declared.ending.Ending.{Ending}
use Rattle.copycat_tool.specs.declared.ending.Ending.TheVariants.{Done, Fault, TooLong, ReadFault, WriteFault, DiskFault, NoMemory, Damaged}
use Rattle.copycat_tool.specs.Runs.{Files, EndsAs, Ended, Closes, ClosesAs, Wrote, all_reported}
use Rattle.copycat_tool.specs.Programs.{IsStatus}
use Rattle.copycat_tool.specs.Closing.{EndsRun, HasCauses, HasClosed, is_numbered}
use Rattle.copycat_tool.specs.Turning.{HasRun}
use Rattle.copycat_tool.proofs.Offering.{took_runs}
use Rattle.copycat_tool.proofs.Writing.{wrote_more}

-- ---- no memory for a last line with a number in it

instead : (files : Files) (run : Run) (told : Report) (old new : View) (text : List ℕ) (ending : Ending) → is_numbered ending ≡ true → Ended files run told old new text ending → Ended files run told old new text NoMemory
instead files run told old new text ending numbered e = record {
  time = e.time;
  so = record {
    whole = e.so.whole;
    part = e.so.part;
    text_is = e.so.text_is;
    sure = e.so.sure;
    stored = e.so.stored;
    not_behind = e.so.not_behind;
    perhaps = e.so.perhaps;
    one_ahead = e.so.one_ahead;
    ends_as = inl (no_part ending numbered e.so.ends_as);
    until = e.so.until;
    by_now = e.so.by_now;
    follows = e.so.follows;
    since_then = e.so.since_then;
    at_exit = e.so.at_exit;
    layout = λ is. absurd (cc is);
  };
  offered = e.offered;
}
  where
    no_part : (x : Ending) → is_numbered x ≡ true → EndsAs x told e.so.whole e.so.sure e.so.part → e.so.part ≡ []
    no_part (Fault n) is ends = ends.no_part
    no_part (Damaged base generation at) is ends = absurd ends
    no_part Done is ends = absurd (cc is)
    no_part TooLong is ends = absurd (cc is)
    no_part ReadFault is ends = absurd (cc is)
    no_part WriteFault is ends = absurd (cc is)
    no_part DiskFault is ends = absurd (cc is)
    no_part NoMemory is ends = absurd (cc is)

-- ---- the run, and its last line

module _ (files : Files) (run : Run) (script : List ℕ) (left : Option (List ℕ)) (old new : View) (written written' written'' : Option (List ℕ)) (read_failed disk_failed : Type 0) where
  closed : (ending : Ending) → (ending ≡ ReadFault → read_failed) → (ending ≡ DiskFault → disk_failed) → (body last : List ℕ) → Wrote written written' body → Wrote written' written'' last
      → Ended files run (all_reported files.size ending run script left) old new body ending → (status : ℕ) → ClosesAs files.name ending status last
      → HasClosed files run script left old new written written'' status read_failed disk_failed
  closed ending read_fault disk_fault body last first more e status closes = record {
    time = e.time;
    text = body ++ last;
    wrote = wrote_more written written' written'' body last first more;
    ran = record { ending = ending; body = body; last = last; text_is = refl; ended = e.so; clients = took_runs files run (take e.so.sure (all_reported files.size ending run script left).acts) e.offered; read_fault = read_fault; disk_fault = disk_fault; closes = closes };
  }

  reported_same : (ending : Ending) → is_numbered ending ≡ true → all_reported files.size ending run script left ≡ all_reported files.size NoMemory run script left
  reported_same (Fault n) is = refl
  reported_same (Damaged base generation at) is = refl
  reported_same Done is = absurd (cc is)
  reported_same TooLong is = absurd (cc is)
  reported_same ReadFault is = absurd (cc is)
  reported_same WriteFault is = absurd (cc is)
  reported_same DiskFault is = absurd (cc is)
  reported_same NoMemory is = absurd (cc is)

  -- the lines were answered, and the last line was written
  pub ran : (ending : Ending) → (ending ≡ ReadFault → read_failed) → (ending ≡ DiskFault → disk_failed) → HasRun files (all_reported files.size ending run script left) old new run written written' ending
      → (sink sink' status : ℕ) → EndsRun files.name ending written' written'' sink sink' status → HasClosed files run script left old new written written'' status read_failed disk_failed
  ran ending read_fault disk_fault r sink sink' status e = elim e.why [
    | inl same ↦ closed ending read_fault disk_fault r.text e.text r.wrote e.wrote r.ended status (subst (λ (x : Ending). ClosesAs files.name x status e.text) same e.closes)
    | inr numbered ↦ closed NoMemory (λ is. absurd (cc is)) (λ is. absurd (cc is)) r.text e.text r.wrote e.wrote
        (subst (λ (t : Report). Ended files run t old new r.text NoMemory) (reported_same ending numbered.0) (instead files run _ old new r.text ending numbered.0 r.ended))
        status (subst (λ (x : Ending). ClosesAs files.name x status e.text) numbered.1 e.closes)
  ]

-- ---- statuses

-- nothing is written at the end of some runs
pub quiet : (status : ℕ) → Closes [] status status []
quiet status = record { how = inl (refl, refl) }

-- the status is that of what is told, or 5
status_told : (name : List ℕ) (ending : Ending) (written written' : Option (List ℕ)) (sink sink' status : ℕ) (e : EndsRun name ending written written' sink sink' status) → (status ≡ status_of e.told) ⊎ (status ≡ 5)
status_told name ending written written' sink sink' status e = elim e.closes.how [ inl all ↦ inl all.0 | inr part ↦ inr part.1 ]

-- where no memory was left for the line, it is 8
told_of : (name : List ℕ) (ending : Ending) (written written' : Option (List ℕ)) (sink sink' status : ℕ) → EndsRun name ending written written' sink sink' status → (status ≡ status_of ending) ⊎ (status ≡ 8) ⊎ (status ≡ 5)
told_of name ending written written' sink sink' status e = elim (status_told name ending written written' sink sink' status e) [
  | inl is ↦ elim e.why [
    | inl same ↦ inl (is ∙ ap status_of same)
    | inr numbered ↦ inr (inl (is ∙ ap status_of numbered.1))
  ]
  | inr five ↦ inr (inr five)
]

is_status : (ending : Ending) → IsStatus (status_of ending)
is_status Done = inl refl
is_status (Fault n) = inr (inr (inl refl))
is_status TooLong = inr (inr (inl refl))
is_status ReadFault = inr (inr (inr (inl refl)))
is_status WriteFault = inr (inr (inr (inr (inl refl))))
is_status DiskFault = inr (inr (inr (inr (inr (inl refl)))))
is_status (Damaged base generation at) = inr (inr (inr (inr (inr (inr (inl refl))))))
is_status NoMemory = inr (inr (inr (inr (inr (inr (inr refl))))))

-- which ending a status tells
pub read_of : (ending : Ending) → status_of ending ≡ 4 → ending ≡ ReadFault
read_of ReadFault is = refl
read_of Done is = absurd (omega (arith, is))
read_of (Fault n) is = absurd (omega (arith, is))
read_of TooLong is = absurd (omega (arith, is))
read_of WriteFault is = absurd (omega (arith, is))
read_of DiskFault is = absurd (omega (arith, is))
read_of (Damaged base generation at) is = absurd (omega (arith, is))
read_of NoMemory is = absurd (omega (arith, is))

pub disk_of : (ending : Ending) → status_of ending ≡ 6 → ending ≡ DiskFault
disk_of DiskFault is = refl
disk_of Done is = absurd (omega (arith, is))
disk_of (Fault n) is = absurd (omega (arith, is))
disk_of TooLong is = absurd (omega (arith, is))
disk_of ReadFault is = absurd (omega (arith, is))
disk_of WriteFault is = absurd (omega (arith, is))
disk_of (Damaged base generation at) is = absurd (omega (arith, is))
disk_of NoMemory is = absurd (omega (arith, is))

pub damage_of : (ending : Ending) → status_of ending ≡ 7 → (base : ℕ) × (generation : ℕ) × (at : ℕ) × (ending ≡ Damaged base generation at)
damage_of (Damaged base generation at) is = (base, generation, at, refl)
damage_of Done is = absurd (omega (arith, is))
damage_of (Fault n) is = absurd (omega (arith, is))
damage_of TooLong is = absurd (omega (arith, is))
damage_of ReadFault is = absurd (omega (arith, is))
damage_of WriteFault is = absurd (omega (arith, is))
damage_of DiskFault is = absurd (omega (arith, is))
damage_of NoMemory is = absurd (omega (arith, is))

two_of : (ending : Ending) → status_of ending ≡ 2 → ⊥
two_of Done is = omega (arith, is)
two_of (Fault n) is = omega (arith, is)
two_of TooLong is = omega (arith, is)
two_of ReadFault is = omega (arith, is)
two_of WriteFault is = omega (arith, is)
two_of DiskFault is = omega (arith, is)
two_of (Damaged base generation at) is = omega (arith, is)
two_of NoMemory is = omega (arith, is)

module _ (name : List ℕ) (ending : Ending) (written written' : Option (List ℕ)) (sink sink' status : ℕ) (e : EndsRun name ending written written' sink sink' status) where
  -- a status other than 5 and 8 is the ending's
  own : (n : ℕ) → status ≡ n → (n ≡ 8 → ⊥) → (n ≡ 5 → ⊥) → status_of ending ≡ n
  own n is no_eight no_five = elim (told_of name ending written written' sink sink' status e) [
    | inl same ↦ sym same ∙ is
    | inr other ↦ elim other [ inl eight ↦ absurd (no_eight (sym is ∙ eight)) | inr five ↦ absurd (no_five (sym is ∙ five)) ]
  ]

  pub tells_damage : status ≡ 7 → (base : ℕ) × (generation : ℕ) × (at : ℕ) × (ending ≡ Damaged base generation at)
  tells_damage is = damage_of ending (own 7 is (λ no. omega (arith, no)) (λ no. omega (arith, no)))

  pub causes : (read_failed write_failed disk_failed : Type 0) → (ending ≡ ReadFault → read_failed) → (ending ≡ WriteFault → write_failed) → (Rose sink sink' → write_failed) → (ending ≡ DiskFault → disk_failed)
      → HasCauses read_failed write_failed disk_failed status
  causes read_failed write_failed disk_failed read write put disk = record {
    read = λ is. read (read_of ending (own 4 is (λ no. omega (arith, no)) (λ no. omega (arith, no))));
    write = λ is. ⊎_elim write put (e.sink_fault is);
    disk = λ is. disk (disk_of ending (own 6 is (λ no. omega (arith, no)) (λ no. omega (arith, no))));
    no_usage = λ is. two_of ending (own 2 is (λ no. omega (arith, no)) (λ no. omega (arith, no)));
    is = elim (told_of name ending written written' sink sink' status e) [
      | inl same ↦ subst IsStatus (sym same) (is_status ending)
      | inr other ↦ elim other [ inl eight ↦ subst IsStatus (sym eight) (is_status NoMemory) | inr five ↦ subst IsStatus (sym five) (is_status WriteFault) ]
    ];
  }
