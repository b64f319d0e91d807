use Rattle.std.proofs.Common.{◌≡◌, ◌+◌, false, IsTrue, List, Ok, ap, sym, subst, ◌∙◌}
use Rattle.host_types.specs.Ranges.{IsInRange}
use Rattle.host_types.specs.declared.entry.Entry.{Entry}
use Rattle.disk_model.specs.View.{LeavesOnly}
use Rattle.segment_set.specs.Fits.{IsEmptyWhereNone}
use Rattle.log_model.specs.plain.Admission.{Admission, Item, Offered, Admitted, Refused}
use Rattle.log_model.specs.hosted.Hosted.{hosted_admits, hosted_entry, hosted_told}
use Rattle.log_model.specs.replay.Replay.{replay_entry}
use Rattle.host_core.specs.declared.deciding.Decided.{Decided}
use Rattle.host_core.specs.declared.deciding.DecideError.{DecideError}
use Rattle.host_core.specs.Answers.{Decides_as, IsWhy}
use Rattle.session_table.specs.Table.{confirmed_positions}
use Rattle.host_core.specs.Entering.{confirmed_by}
use Rattle.host_recovery.proofs.Confirmed.{confirmed_item}
use Rattle.host_core.specs.CoreState.{hosted}
use Rattle.host_core.specs.Marking.{HasMarks}
use Rattle.host_recovery.specs.HostState.{HostState}
use Rattle.host_recovery.specs.Standing.{IsKept, StandsAt, StandsOrTakes}
use Rattle.host_recovery.specs.Answers.{admits_stored}
use Rattle.host_recovery.proofs.Stores.{stays_empty}
use Rattle.host_recovery.proofs.Growing.{whole_at, answered, by_files, by_state, item_in_range, leaves_more, offer_admitted, stands_more, stays_untaken}
use Rattle.host_recovery.proofs.host.Host.offer.Goals as goal

pub returns-in-Ok-Repeat-clause-any_moment : goal.returns-in-Ok-Repeat-clause-any_moment
returns-in-Ok-Repeat-clause-any_moment g c =
    subst (λ (h : HostState g.row.D.Denot g.row.M.Denot). IsTrue g.D.Disk.tells → (items : List Item) → StandsAt g.M.Machine.decides g.D.Disk.view g.M.Machine.cells h items → LeavesOnly (g.D.Disk.view h.disk) (g.D.Disk.view h.disk) (StandsOrTakes g.M.Machine.decides h.parts.name items (Offered c.args.one.now) (admits_stored (hosted_admits g.M.Machine.decides (hosted g.M.Machine.cells h.core) c.args.one.now) h.parts))) c.self.view_is
    (λ t items at. stays_untaken g.M.Machine.decides g.D.Disk.view g.M.Machine.cells (record { disk = c.self.inside.disk; parts = c.self.inside.parts; core = c.self.inside.core; size = c.self.inside.size; stopped = c.self.inside.stopped }) items (Offered c.args.one.now) (admits_stored (hosted_admits g.M.Machine.decides (hosted g.M.Machine.cells c.self.inside.core) c.args.one.now) c.self.inside.parts) (g.met.D.Disk.sound c.self.inside.disk t) at (whole_at g.M.Machine.decides g.D.Disk.tells g.D.Disk.view g.M.Machine.cells (record { disk = c.self.inside.disk; parts = c.self.inside.parts; core = c.self.inside.core; size = c.self.inside.size; stopped = c.self.inside.stopped }) items c.self.invariant t at))

pub returns-in-Ok-Repeat-clause-empty : goal.returns-in-Ok-Repeat-clause-empty
returns-in-Ok-Repeat-clause-empty g c =
    subst (λ (h : HostState g.row.D.Denot g.row.M.Denot). IsTrue g.D.Disk.tells → (items : List Item) → StandsAt g.M.Machine.decides g.D.Disk.view g.M.Machine.cells h items → IsEmptyWhereNone (g.D.Disk.view h.disk) h.parts.name) c.self.view_is
    (λ t items at. stays_empty (g.D.Disk.view c.self.inside.disk) c.self.inside.parts (c.self.invariant.fits c.if-self.false t) at.held)

pub returns-in-Err-Refused-clause-any_moment : goal.returns-in-Err-Refused-clause-any_moment
returns-in-Err-Refused-clause-any_moment g c =
    subst (λ (h : HostState g.row.D.Denot g.row.M.Denot). IsTrue g.D.Disk.tells → (items : List Item) → StandsAt g.M.Machine.decides g.D.Disk.view g.M.Machine.cells h items → LeavesOnly (g.D.Disk.view h.disk) (g.D.Disk.view h.disk) (StandsOrTakes g.M.Machine.decides h.parts.name items (Offered c.args.one.now) (admits_stored (hosted_admits g.M.Machine.decides (hosted g.M.Machine.cells h.core) c.args.one.now) h.parts))) c.self.view_is
    (λ t items at. stays_untaken g.M.Machine.decides g.D.Disk.view g.M.Machine.cells (record { disk = c.self.inside.disk; parts = c.self.inside.parts; core = c.self.inside.core; size = c.self.inside.size; stopped = c.self.inside.stopped }) items (Offered c.args.one.now) (admits_stored (hosted_admits g.M.Machine.decides (hosted g.M.Machine.cells c.self.inside.core) c.args.one.now) c.self.inside.parts) (g.met.D.Disk.sound c.self.inside.disk t) at (whole_at g.M.Machine.decides g.D.Disk.tells g.D.Disk.view g.M.Machine.cells (record { disk = c.self.inside.disk; parts = c.self.inside.parts; core = c.self.inside.core; size = c.self.inside.size; stopped = c.self.inside.stopped }) items c.self.invariant t at))

pub returns-in-Err-Refused-clause-empty : goal.returns-in-Err-Refused-clause-empty
returns-in-Err-Refused-clause-empty g c =
    subst (λ (h : HostState g.row.D.Denot g.row.M.Denot). IsTrue g.D.Disk.tells → (items : List Item) → StandsAt g.M.Machine.decides g.D.Disk.view g.M.Machine.cells h items → IsEmptyWhereNone (g.D.Disk.view h.disk) h.parts.name) c.self.view_is
    (λ t items at. stays_empty (g.D.Disk.view c.self.inside.disk) c.self.inside.parts (c.self.invariant.fits c.if-self.false t) at.held)

pub returns-in-Err-NoMemory-clause-any_moment : goal.returns-in-Err-NoMemory-clause-any_moment
returns-in-Err-NoMemory-clause-any_moment g c =
    subst (λ (h : HostState g.row.D.Denot g.row.M.Denot). IsTrue g.D.Disk.tells → (items : List Item) → StandsAt g.M.Machine.decides g.D.Disk.view g.M.Machine.cells h items → LeavesOnly (g.D.Disk.view h.disk) (g.D.Disk.view h.disk) (StandsOrTakes g.M.Machine.decides h.parts.name items (Offered c.args.one.now) (admits_stored (hosted_admits g.M.Machine.decides (hosted g.M.Machine.cells h.core) c.args.one.now) h.parts))) c.self.view_is
    (λ t items at. stays_untaken g.M.Machine.decides g.D.Disk.view g.M.Machine.cells (record { disk = c.self.inside.disk; parts = c.self.inside.parts; core = c.self.inside.core; size = c.self.inside.size; stopped = c.self.inside.stopped }) items (Offered c.args.one.now) (admits_stored (hosted_admits g.M.Machine.decides (hosted g.M.Machine.cells c.self.inside.core) c.args.one.now) c.self.inside.parts) (g.met.D.Disk.sound c.self.inside.disk t) at (whole_at g.M.Machine.decides g.D.Disk.tells g.D.Disk.view g.M.Machine.cells (record { disk = c.self.inside.disk; parts = c.self.inside.parts; core = c.self.inside.core; size = c.self.inside.size; stopped = c.self.inside.stopped }) items c.self.invariant t at))

pub returns-in-Err-NoMemory-clause-empty : goal.returns-in-Err-NoMemory-clause-empty
returns-in-Err-NoMemory-clause-empty g c =
    subst (λ (h : HostState g.row.D.Denot g.row.M.Denot). IsTrue g.D.Disk.tells → (items : List Item) → StandsAt g.M.Machine.decides g.D.Disk.view g.M.Machine.cells h items → IsEmptyWhereNone (g.D.Disk.view h.disk) h.parts.name) c.self.view_is
    (λ t items at. stays_empty (g.D.Disk.view c.self.inside.disk) c.self.inside.parts (c.self.invariant.fits c.if-self.false t) at.held)

pub returns-in-Some-clause-any_moment : goal.returns-in-Some-clause-any_moment
returns-in-Some-clause-any_moment g c =
    subst (λ (h : HostState g.row.D.Denot g.row.M.Denot). IsTrue g.D.Disk.tells → (items : List Item) → StandsAt g.M.Machine.decides g.D.Disk.view g.M.Machine.cells h items → LeavesOnly (g.D.Disk.view h.disk) (g.D.Disk.view h.disk) (StandsOrTakes g.M.Machine.decides h.parts.name items (Offered c.args.one.now) (admits_stored (hosted_admits g.M.Machine.decides (hosted g.M.Machine.cells h.core) c.args.one.now) h.parts))) c.self.view_is
    (λ t items at. stays_untaken g.M.Machine.decides g.D.Disk.view g.M.Machine.cells (record { disk = c.self.inside.disk; parts = c.self.inside.parts; core = c.self.inside.core; size = c.self.inside.size; stopped = c.self.inside.stopped }) items (Offered c.args.one.now) (admits_stored (hosted_admits g.M.Machine.decides (hosted g.M.Machine.cells c.self.inside.core) c.args.one.now) c.self.inside.parts) (g.met.D.Disk.sound c.self.inside.disk t) at (whole_at g.M.Machine.decides g.D.Disk.tells g.D.Disk.view g.M.Machine.cells (record { disk = c.self.inside.disk; parts = c.self.inside.parts; core = c.self.inside.core; size = c.self.inside.size; stopped = c.self.inside.stopped }) items c.self.invariant t at))

pub returns-in-Some-clause-empty : goal.returns-in-Some-clause-empty
returns-in-Some-clause-empty g c =
    subst (λ (h : HostState g.row.D.Denot g.row.M.Denot). IsTrue g.D.Disk.tells → (items : List Item) → StandsAt g.M.Machine.decides g.D.Disk.view g.M.Machine.cells h items → IsEmptyWhereNone (g.D.Disk.view h.disk) h.parts.name) c.self.view_is
    (λ t items at. stays_empty (g.D.Disk.view c.self.inside.disk) c.self.inside.parts (c.self.invariant.fits c.if-self.false t) at.held)

pub returns-in-Err-clause-any_moment : goal.returns-in-Err-clause-any_moment
returns-in-Err-clause-any_moment g c =
    subst (λ (h : HostState g.row.D.Denot g.row.M.Denot). IsTrue g.D.Disk.tells → (items : List Item) → StandsAt g.M.Machine.decides g.D.Disk.view g.M.Machine.cells h items → LeavesOnly (g.D.Disk.view h.disk) (g.D.Disk.view h.disk) (StandsOrTakes g.M.Machine.decides h.parts.name items (Offered c.args.one.now) (admits_stored (hosted_admits g.M.Machine.decides (hosted g.M.Machine.cells h.core) c.args.one.now) h.parts))) c.self.view_is
    (λ t items at. stays_untaken g.M.Machine.decides g.D.Disk.view g.M.Machine.cells (record { disk = c.self.inside.disk; parts = c.self.inside.parts; core = c.self.inside.core; size = c.self.inside.size; stopped = c.self.inside.stopped }) items (Offered c.args.one.now) (admits_stored (hosted_admits g.M.Machine.decides (hosted g.M.Machine.cells c.self.inside.core) c.args.one.now) c.self.inside.parts) (g.met.D.Disk.sound c.self.inside.disk t) at (whole_at g.M.Machine.decides g.D.Disk.tells g.D.Disk.view g.M.Machine.cells (record { disk = c.self.inside.disk; parts = c.self.inside.parts; core = c.self.inside.core; size = c.self.inside.size; stopped = c.self.inside.stopped }) items c.self.invariant t at))

pub returns-in-Err-clause-empty : goal.returns-in-Err-clause-empty
returns-in-Err-clause-empty g c =
    subst (λ (h : HostState g.row.D.Denot g.row.M.Denot). IsTrue g.D.Disk.tells → (items : List Item) → StandsAt g.M.Machine.decides g.D.Disk.view g.M.Machine.cells h items → IsEmptyWhereNone (g.D.Disk.view h.disk) h.parts.name) c.self.view_is
    (λ t items at. stays_empty (g.D.Disk.view c.self.inside.disk) c.self.inside.parts (c.self.invariant.fits c.if-self.false t) at.held)

pub returns-in-Err-Refused-clause-answer : goal.returns-in-Err-Refused-clause-answer
returns-in-Err-Refused-clause-answer g c = (
  sym (ap (λ (h : HostState g.row.D.Denot g.row.M.Denot). h.stopped) c.self.view_is) ∙ c.if-self.false,
  subst (λ (h : HostState g.row.D.Denot g.row.M.Denot). admits_stored (hosted_admits g.M.Machine.decides (hosted g.M.Machine.cells h.core) c.args.one.now) h.parts ≡ Refused c.in-Err-Refused.why) c.self.view_is
      (by_state (hosted_admits g.M.Machine.decides (hosted g.M.Machine.cells c.self.inside.core) c.args.one.now) c.self.inside.parts c.in-Err-Refused.why
      (subst (λ (e : DecideError). IsWhy (hosted_admits g.M.Machine.decides (hosted g.M.Machine.cells c.self.inside.core) c.args.one.now) e) c.in-Err-Refused.field-0-is c.in-Err-Refused.ensures.decided)) ∙ ap Refused (sym c.in-Err-Refused.why-is),
)

pub returns-in-Some-clause-answer : goal.returns-in-Some-clause-answer
returns-in-Some-clause-answer g c =
    let decided = (subst (λ (x : Decided). Decides_as (hosted_admits g.M.Machine.decides (hosted g.M.Machine.cells c.self.inside.core) c.args.one.now) (hosted_entry g.M.Machine.decides (hosted g.M.Machine.cells c.self.inside.core) (Offered c.args.one.now)) (Ok x)) c.in-Ok-Store.field-0-is c.in-Ok-Store.ensures.decided) in
    subst (λ (h : HostState g.row.D.Denot g.row.M.Denot). (h.stopped ≡ false) × (admits_stored (hosted_admits g.M.Machine.decides (hosted g.M.Machine.cells h.core) c.args.one.now) h.parts ≡ Refused c.in-Some.why)) c.self.view_is
    (c.if-self.false, by_files (hosted_admits g.M.Machine.decides (hosted g.M.Machine.cells c.self.inside.core) c.args.one.now) (Refused c.in-Some.why) c.self.inside.parts decided.0 c.in-Some.ensures)

pub store-requires-clause-fits : goal.store-requires-clause-fits
store-requires-clause-fits g c =
    let decided = (subst (λ (x : Decided). Decides_as (hosted_admits g.M.Machine.decides (hosted g.M.Machine.cells c.self.inside.core) c.args.one.now) (hosted_entry g.M.Machine.decides (hosted g.M.Machine.cells c.self.inside.core) (Offered c.args.one.now)) (Ok x)) c.in-Ok-Store.field-0-is c.in-Ok-Store.ensures.decided) in
    (item_in_range g.M.Machine.decides (hosted g.M.Machine.cells c.self.inside.core) (Offered c.args.one.now) c.in-Ok-Store.entry g.met.M.Machine.lawful c.keeps.ensures.sound c.fits.ensures (offer_admitted g.M.Machine.decides (hosted g.M.Machine.cells c.self.inside.core) c.args.one.now decided.0) decided.1).0

pub store-requires-clause-range : goal.store-requires-clause-range
store-requires-clause-range g c =
    let decided = (subst (λ (x : Decided). Decides_as (hosted_admits g.M.Machine.decides (hosted g.M.Machine.cells c.self.inside.core) c.args.one.now) (hosted_entry g.M.Machine.decides (hosted g.M.Machine.cells c.self.inside.core) (Offered c.args.one.now)) (Ok x)) c.in-Ok-Store.field-0-is c.in-Ok-Store.ensures.decided) in
    subst (λ (h : HostState g.row.D.Denot g.row.M.Denot). IsInRange (h.core.last + 1) c.in-Ok-Store.entry) c.self.view_is
    (item_in_range g.M.Machine.decides (hosted g.M.Machine.cells c.self.inside.core) (Offered c.args.one.now) c.in-Ok-Store.entry g.met.M.Machine.lawful c.keeps.ensures.sound c.fits.ensures (offer_admitted g.M.Machine.decides (hosted g.M.Machine.cells c.self.inside.core) c.args.one.now decided.0) decided.1).1

pub returns-in-Ok-store-clause-stands : goal.returns-in-Ok-store-clause-stands
returns-in-Ok-store-clause-stands g c = λ t items at.
    let decided = (subst (λ (h : HostState g.row.D.Denot g.row.M.Denot). (hosted_admits g.M.Machine.decides (hosted g.M.Machine.cells h.core) c.args.one.now ≡ Admitted) × (c.in-Ok-Store.entry ≡ hosted_entry g.M.Machine.decides (hosted g.M.Machine.cells h.core) (Offered c.args.one.now))) c.self.view_is (subst (λ (x : Decided). Decides_as (hosted_admits g.M.Machine.decides (hosted g.M.Machine.cells c.self.inside.core) c.args.one.now) (hosted_entry g.M.Machine.decides (hosted g.M.Machine.cells c.self.inside.core) (Offered c.args.one.now)) (Ok x)) c.in-Ok-Store.field-0-is c.in-Ok-Store.ensures.decided)) in
    answered (c.last.result + 1) c.in-Ok-Store.entry.body c.in-Ok.answer _ _ c.in-Ok.ensures
    (stands_more g.M.Machine.decides g.D.Disk.tells g.D.Disk.view g.M.Machine.cells c.args.self.now items (Offered c.args.one.now) c.in-Ok-Store.entry (subst (IsKept g.D.Disk.tells g.D.Disk.view g.M.Machine.cells) c.self.view_is c.self.invariant) t c.store.new.self g.met.M.Machine.lawful at c.fits.ensures (offer_admitted g.M.Machine.decides (hosted g.M.Machine.cells c.args.self.now.core) c.args.one.now decided.0) decided.1
    c.in-Ok-store.ensures.runs c.in-Ok-store.ensures.state (c.in-Ok-store.ensures.parts t) (c.in-Ok-store.ensures.held t at.held)
    (subst (λ (h : HostState g.row.D.Denot g.row.M.Denot). HasMarks h.core.last (hosted g.M.Machine.cells h.core).cells h.core.marks) c.self.view_is c.keeps.ensures.marks) c.in-Ok-store.ensures.marks)

pub returns-in-Ok-store-clause-any_moment : goal.returns-in-Ok-store-clause-any_moment
returns-in-Ok-store-clause-any_moment g c = λ t items at.
    let decided = (subst (λ (h : HostState g.row.D.Denot g.row.M.Denot). (hosted_admits g.M.Machine.decides (hosted g.M.Machine.cells h.core) c.args.one.now ≡ Admitted) × (c.in-Ok-Store.entry ≡ hosted_entry g.M.Machine.decides (hosted g.M.Machine.cells h.core) (Offered c.args.one.now))) c.self.view_is (subst (λ (x : Decided). Decides_as (hosted_admits g.M.Machine.decides (hosted g.M.Machine.cells c.self.inside.core) c.args.one.now) (hosted_entry g.M.Machine.decides (hosted g.M.Machine.cells c.self.inside.core) (Offered c.args.one.now)) (Ok x)) c.in-Ok-Store.field-0-is c.in-Ok-Store.ensures.decided)) in
    let stored = subst (λ (h : HostState g.row.D.Denot g.row.M.Denot). admits_stored (hosted_admits g.M.Machine.decides (hosted g.M.Machine.cells h.core) c.args.one.now) h.parts ≡ Admitted) c.self.view_is
    (by_files (hosted_admits g.M.Machine.decides (hosted g.M.Machine.cells c.self.inside.core) c.args.one.now) Admitted c.self.inside.parts (sym (ap (λ (h : HostState g.row.D.Denot g.row.M.Denot). hosted_admits g.M.Machine.decides (hosted g.M.Machine.cells h.core) c.args.one.now) (sym c.self.view_is)) ∙ decided.0) c.in_default.ensures) in
    subst (λ (a : Admission). LeavesOnly (g.D.Disk.view c.args.self.now.disk) (g.D.Disk.view c.store.new.self.disk) (StandsOrTakes g.M.Machine.decides c.args.self.now.parts.name items (Offered c.args.one.now) a)) (sym stored)
    (leaves_more g.M.Machine.decides g.D.Disk.tells g.D.Disk.view g.M.Machine.cells c.args.self.now items (Offered c.args.one.now) c.in-Ok-Store.entry (subst (IsKept g.D.Disk.tells g.D.Disk.view g.M.Machine.cells) c.self.view_is c.self.invariant) t (g.D.Disk.view c.store.new.self.disk) at decided.1 (c.store.ensures.any_moment t at.held))

pub returns-in-Err-store-clause-any_moment : goal.returns-in-Err-store-clause-any_moment
returns-in-Err-store-clause-any_moment g c = λ t items at.
    let decided = (subst (λ (h : HostState g.row.D.Denot g.row.M.Denot). (hosted_admits g.M.Machine.decides (hosted g.M.Machine.cells h.core) c.args.one.now ≡ Admitted) × (c.in-Ok-Store.entry ≡ hosted_entry g.M.Machine.decides (hosted g.M.Machine.cells h.core) (Offered c.args.one.now))) c.self.view_is (subst (λ (x : Decided). Decides_as (hosted_admits g.M.Machine.decides (hosted g.M.Machine.cells c.self.inside.core) c.args.one.now) (hosted_entry g.M.Machine.decides (hosted g.M.Machine.cells c.self.inside.core) (Offered c.args.one.now)) (Ok x)) c.in-Ok-Store.field-0-is c.in-Ok-Store.ensures.decided)) in
    let stored = subst (λ (h : HostState g.row.D.Denot g.row.M.Denot). admits_stored (hosted_admits g.M.Machine.decides (hosted g.M.Machine.cells h.core) c.args.one.now) h.parts ≡ Admitted) c.self.view_is
    (by_files (hosted_admits g.M.Machine.decides (hosted g.M.Machine.cells c.self.inside.core) c.args.one.now) Admitted c.self.inside.parts (sym (ap (λ (h : HostState g.row.D.Denot g.row.M.Denot). hosted_admits g.M.Machine.decides (hosted g.M.Machine.cells h.core) c.args.one.now) (sym c.self.view_is)) ∙ decided.0) c.in_default.ensures) in
    subst (λ (a : Admission). LeavesOnly (g.D.Disk.view c.args.self.now.disk) (g.D.Disk.view c.store.new.self.disk) (StandsOrTakes g.M.Machine.decides c.args.self.now.parts.name items (Offered c.args.one.now) a)) (sym stored)
    (leaves_more g.M.Machine.decides g.D.Disk.tells g.D.Disk.view g.M.Machine.cells c.args.self.now items (Offered c.args.one.now) c.in-Ok-Store.entry (subst (IsKept g.D.Disk.tells g.D.Disk.view g.M.Machine.cells) c.self.view_is c.self.invariant) t (g.D.Disk.view c.store.new.self.disk) at decided.1 (c.store.ensures.any_moment t at.held))

pub returns-in-Ok-store-clause-state : goal.returns-in-Ok-store-clause-state
returns-in-Ok-store-clause-state g c =
    let decided = (subst (λ (h : HostState g.row.D.Denot g.row.M.Denot). (hosted_admits g.M.Machine.decides (hosted g.M.Machine.cells h.core) c.args.one.now ≡ Admitted) × (c.in-Ok-Store.entry ≡ hosted_entry g.M.Machine.decides (hosted g.M.Machine.cells h.core) (Offered c.args.one.now))) c.self.view_is (subst (λ (x : Decided). Decides_as (hosted_admits g.M.Machine.decides (hosted g.M.Machine.cells c.self.inside.core) c.args.one.now) (hosted_entry g.M.Machine.decides (hosted g.M.Machine.cells c.self.inside.core) (Offered c.args.one.now)) (Ok x)) c.in-Ok-Store.field-0-is c.in-Ok-Store.ensures.decided)) in
    let old = hosted g.M.Machine.cells c.args.self.now.core in
    answered (c.last.result + 1) c.in-Ok-Store.entry.body c.in-Ok.answer _ _ c.in-Ok.ensures
    (c.in-Ok-store.ensures.state ∙ ap (λ (e : Entry). replay_entry (hosted_told g.M.Machine.decides) 0 old (old.last + 1, e)) decided.1)

pub returns-in-Ok-store-clause-confirmed : goal.returns-in-Ok-store-clause-confirmed
returns-in-Ok-store-clause-confirmed g c =
    let decided = (subst (λ (h : HostState g.row.D.Denot g.row.M.Denot). (hosted_admits g.M.Machine.decides (hosted g.M.Machine.cells h.core) c.args.one.now ≡ Admitted) × (c.in-Ok-Store.entry ≡ hosted_entry g.M.Machine.decides (hosted g.M.Machine.cells h.core) (Offered c.args.one.now))) c.self.view_is (subst (λ (x : Decided). Decides_as (hosted_admits g.M.Machine.decides (hosted g.M.Machine.cells c.self.inside.core) c.args.one.now) (hosted_entry g.M.Machine.decides (hosted g.M.Machine.cells c.self.inside.core) (Offered c.args.one.now)) (Ok x)) c.in-Ok-Store.field-0-is c.in-Ok-Store.ensures.decided)) in
    let old = hosted g.M.Machine.cells c.args.self.now.core in
    answered (c.last.result + 1) c.in-Ok-Store.entry.body c.in-Ok.answer _ _ c.in-Ok.ensures
    (c.in-Ok-store.ensures.confirmed
    ∙ ap (λ (e : Entry). confirmed_by (old.last + 1) e.body (confirmed_positions c.args.self.now.core.sessions.beside)) decided.1
    ∙ confirmed_item g.M.Machine.decides old (old.last + 1) (Offered c.args.one.now) (confirmed_positions c.args.self.now.core.sessions.beside))
