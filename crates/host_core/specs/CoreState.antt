-- What callers see of a core: the state of a host, and the parts that it is made of.
use Rattle.std.specs.Prelude.{◌≡◌, ℕ, ◌≤◌, ◌<◌, true, [], ◌++◌, refl}
use Rattle.std.specs.Coded.{Coded, code_by, coded×, coded_ℕ}
use Rattle.host_types.specs.declared.entry.Body.{Body}
use Rattle.host_types.specs.declared.entry.Effect.{Effect}
use Rattle.host_types.specs.Cells.{Cells, places_of}
use Rattle.host_types.specs.Decision.{MachineDecision}
use Rattle.commit_lending.specs.Lent.{Lent, lent_code, tokens}
use Rattle.session_table.specs.Table.{Table}
use Rattle.session_table.specs.Places.{table_cells}
use Rattle.log_model.specs.hosted.Hosted.{Hosted, machine_cells}
use Rattle.log_model.specs.hosted.Parts.{session_cells}
use Rattle.log_model.specs.hosted.Sound.{IsSound}
use Rattle.host_core.specs.Batching.{AreBatchesOf, Batches, HaveBatchRoom, ended_by, told_above, told_by}
use Rattle.released_marks.specs.Marks.{Marks, is_unmarked, marks_code}
use Rattle.host_core.specs.Entering.{HasRoomFor}
use Rattle.host_core.specs.Marking.{HasMarks, IsAdded}

pub record CoreState (M : Type 0) : Type 0 where
  pub machine : M
  pub sessions : Table
  pub lender : Lent
  pub marks : Marks
  pub last : ℕ
  pub time : ℕ

abbrev pub core_code : {M : Type 0} → Coded M → Coded Table → Coded (CoreState M)
core_code {M} code table_code =
    code_by (M × (Table × (Lent × (Marks × (ℕ × ℕ))))) (coded× code (coded× table_code (coded× lent_code (coded× marks_code (coded× coded_ℕ coded_ℕ)))))
    (λ s. (s.machine, (s.sessions, (s.lender, (s.marks, (s.last, s.time))))))
    (λ p. record { machine = p.0; sessions = p.1.0; lender = p.1.1.0; marks = p.1.1.1.0; last = p.1.1.1.1.0; time = p.1.1.1.1.1 })
    (λ _. refl)

-- the state that it stands at, where this is what a machine's cells are
abbrev pub hosted : {M : Type 0} → (M → Cells) → CoreState M → Hosted
hosted cells s = record { last = s.last; now = s.time; sessions = s.sessions.sessions; cells = cells s.machine ++ table_cells s.sessions }

-- ---- what a core keeps

-- The state is a host's; its cells are the machine's and those of the sessions; exactly what holds a cell is out at the lender; and what
-- holds one has no mark.
pub record IsKept {M : Type 0} (cells : M → Cells) (s : CoreState M) : Type 0 where
  pub sound : IsSound (hosted cells s)
  pub machine : machine_cells (hosted cells s).cells ≡ cells s.machine
  pub sessions : session_cells (hosted cells s).cells ≡ table_cells s.sessions
  pub out : (j : ℕ) → tokens s.lender j ≡ places_of (hosted cells s).cells j
  pub closed : s.lender.closed ≡ []
  pub marks : HasMarks s.last (hosted cells s).cells s.marks

-- A core of these parts awaits the entry with this index: it is behind the last one, and added to the marks.
pub record Awaits {M : Type 0} (cells : M → Cells) (index : ℕ) (machine : M) (sessions : Table) (lender : Lent) (marks : Marks) : Type 0 where
  pub last : ℕ
  pub time : ℕ
  pub before : Marks
  pub kept : IsKept cells (record { machine = machine; sessions = sessions; lender = lender; marks = before; last = last; time = time })
  pub behind : last < index
  pub added : IsAdded index (cells machine ++ table_cells sessions) marks

-- ---- room

-- There is room for the commit of one more entry, and for all that it puts, where this says what a machine is ready for. These are the
-- batches that the entry makes above the cut, and there is room for each.
pub record HasRoom {M : Type 0} (cells : M → Cells) (ready : M → Effect → ℕ → Type 0) (d : MachineDecision) (s : CoreState M) (cut index : ℕ) (body : Body) (batches : Batches) : Type 0 where
  pub commit : 1 ≤ s.lender.spare
  pub entry : HasRoomFor (ready s.machine) s.sessions index body
  pub batches_are : AreBatchesOf (told_above cut index (told_by d (cells s.machine) index body)) (ended_by body) s.sessions.sessions batches
  pub batch_room : HaveBatchRoom (ended_by body) s.sessions batches

-- the same, and the entry's index was added to the marks, without a mark
pub record IsPrepared {M : Type 0} (cells : M → Cells) (ready : M → Effect → ℕ → Type 0) (d : MachineDecision) (s : CoreState M) (cut index : ℕ) (body : Body) (batches : Batches) : Type 0 where
  pub room : HasRoom cells ready d s cut index body batches
  pub added : is_unmarked index s.marks ≡ true
