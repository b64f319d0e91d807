use Rattle.std.proofs.Common.{◌≡◌, ◌+◌, IsTrue, List, ap, sym, subst, ◌∙◌, arith}
use Rattle.host_types.specs.Ranges.{IsInRange}
use Rattle.disk_model.specs.View.{LeavesOnly}
use Rattle.segment_set.specs.Fits.{IsEmptyWhereNone}
use Rattle.log_model.specs.plain.Admission.{Item, Admitted, Expired, Expiry, Expires, due_in}
use Rattle.log_model.specs.hosted.Hosted.{hosted_expires}
use Rattle.session_table.specs.Table.{Table}
use Rattle.host_core.specs.CoreState.{hosted}
use Rattle.host_core.specs.Marking.{HasMarks}
use Rattle.host_recovery.specs.HostState.{HostState}
use Rattle.host_recovery.specs.Standing.{IsKept, StandsAt, StandsOrExpires}
use Rattle.host_recovery.proofs.Stores.{stays_empty}
use Rattle.host_recovery.specs.Answers.{admits_file, expiry_stored}
use Rattle.host_recovery.proofs.Growing.{whole_at, expires_by, expires_so, expiry_admitted, item_in_range, leaves_more, stands_more, stays_unexpired}
use Rattle.host_recovery.proofs.host.Host.expire.Goals as goal

pub returns-then-time-now-clause-any_moment : goal.returns-then-time-now-clause-any_moment
returns-then-time-now-clause-any_moment g c =
    subst (λ (h : HostState g.row.D.Denot g.row.M.Denot). IsTrue g.D.Disk.tells → (items : List Item) → StandsAt g.M.Machine.decides g.D.Disk.view g.M.Machine.cells h items → LeavesOnly (g.D.Disk.view h.disk) (g.D.Disk.view h.disk) (StandsOrExpires g.M.Machine.decides h.parts.name items c.args.time (expiry_stored (hosted_expires (hosted g.M.Machine.cells h.core) c.args.time) h.parts))) c.self.view_is
    (λ t items at. stays_unexpired g.M.Machine.decides g.D.Disk.view g.M.Machine.cells (record { disk = c.self.inside.disk; parts = c.self.inside.parts; core = c.self.inside.core; size = c.self.inside.size; stopped = c.self.inside.stopped }) items c.args.time (expiry_stored (hosted_expires (hosted g.M.Machine.cells c.self.inside.core) c.args.time) c.self.inside.parts) (g.met.D.Disk.sound c.self.inside.disk t) at (whole_at g.M.Machine.decides g.D.Disk.tells g.D.Disk.view g.M.Machine.cells (record { disk = c.self.inside.disk; parts = c.self.inside.parts; core = c.self.inside.core; size = c.self.inside.size; stopped = c.self.inside.stopped }) items c.self.invariant t at))

pub returns-then-time-now-clause-empty : goal.returns-then-time-now-clause-empty
returns-then-time-now-clause-empty g c =
    subst (λ (h : HostState g.row.D.Denot g.row.M.Denot). IsTrue g.D.Disk.tells → (items : List Item) → StandsAt g.M.Machine.decides g.D.Disk.view g.M.Machine.cells h items → IsEmptyWhereNone (g.D.Disk.view h.disk) h.parts.name) c.self.view_is
    (λ t items at. stays_empty (g.D.Disk.view c.self.inside.disk) c.self.inside.parts (c.self.invariant.fits c.if-self.false t) at.held)

pub returns-in_default-clause-any_moment : goal.returns-in_default-clause-any_moment
returns-in_default-clause-any_moment g c =
    subst (λ (h : HostState g.row.D.Denot g.row.M.Denot). IsTrue g.D.Disk.tells → (items : List Item) → StandsAt g.M.Machine.decides g.D.Disk.view g.M.Machine.cells h items → LeavesOnly (g.D.Disk.view h.disk) (g.D.Disk.view h.disk) (StandsOrExpires g.M.Machine.decides h.parts.name items c.args.time (expiry_stored (hosted_expires (hosted g.M.Machine.cells h.core) c.args.time) h.parts))) c.self.view_is
    (λ t items at. stays_unexpired g.M.Machine.decides g.D.Disk.view g.M.Machine.cells (record { disk = c.self.inside.disk; parts = c.self.inside.parts; core = c.self.inside.core; size = c.self.inside.size; stopped = c.self.inside.stopped }) items c.args.time (expiry_stored (hosted_expires (hosted g.M.Machine.cells c.self.inside.core) c.args.time) c.self.inside.parts) (g.met.D.Disk.sound c.self.inside.disk t) at (whole_at g.M.Machine.decides g.D.Disk.tells g.D.Disk.view g.M.Machine.cells (record { disk = c.self.inside.disk; parts = c.self.inside.parts; core = c.self.inside.core; size = c.self.inside.size; stopped = c.self.inside.stopped }) items c.self.invariant t at))

pub returns-in_default-clause-empty : goal.returns-in_default-clause-empty
returns-in_default-clause-empty g c =
    subst (λ (h : HostState g.row.D.Denot g.row.M.Denot). IsTrue g.D.Disk.tells → (items : List Item) → StandsAt g.M.Machine.decides g.D.Disk.view g.M.Machine.cells h items → IsEmptyWhereNone (g.D.Disk.view h.disk) h.parts.name) c.self.view_is
    (λ t items at. stays_empty (g.D.Disk.view c.self.inside.disk) c.self.inside.parts (c.self.invariant.fits c.if-self.false t) at.held)

pub returns-then-last-ge-LAST_LIMIT-clause-any_moment : goal.returns-then-last-ge-LAST_LIMIT-clause-any_moment
returns-then-last-ge-LAST_LIMIT-clause-any_moment g c =
    subst (λ (h : HostState g.row.D.Denot g.row.M.Denot). IsTrue g.D.Disk.tells → (items : List Item) → StandsAt g.M.Machine.decides g.D.Disk.view g.M.Machine.cells h items → LeavesOnly (g.D.Disk.view h.disk) (g.D.Disk.view h.disk) (StandsOrExpires g.M.Machine.decides h.parts.name items c.args.time (expiry_stored (hosted_expires (hosted g.M.Machine.cells h.core) c.args.time) h.parts))) c.self.view_is
    (λ t items at. stays_unexpired g.M.Machine.decides g.D.Disk.view g.M.Machine.cells (record { disk = c.self.inside.disk; parts = c.self.inside.parts; core = c.self.inside.core; size = c.self.inside.size; stopped = c.self.inside.stopped }) items c.args.time (expiry_stored (hosted_expires (hosted g.M.Machine.cells c.self.inside.core) c.args.time) c.self.inside.parts) (g.met.D.Disk.sound c.self.inside.disk t) at (whole_at g.M.Machine.decides g.D.Disk.tells g.D.Disk.view g.M.Machine.cells (record { disk = c.self.inside.disk; parts = c.self.inside.parts; core = c.self.inside.core; size = c.self.inside.size; stopped = c.self.inside.stopped }) items c.self.invariant t at))

pub returns-then-last-ge-LAST_LIMIT-clause-empty : goal.returns-then-last-ge-LAST_LIMIT-clause-empty
returns-then-last-ge-LAST_LIMIT-clause-empty g c =
    subst (λ (h : HostState g.row.D.Denot g.row.M.Denot). IsTrue g.D.Disk.tells → (items : List Item) → StandsAt g.M.Machine.decides g.D.Disk.view g.M.Machine.cells h items → IsEmptyWhereNone (g.D.Disk.view h.disk) h.parts.name) c.self.view_is
    (λ t items at. stays_empty (g.D.Disk.view c.self.inside.disk) c.self.inside.parts (c.self.invariant.fits c.if-self.false t) at.held)

pub returns-in-Some-no_file-clause-any_moment : goal.returns-in-Some-no_file-clause-any_moment
returns-in-Some-no_file-clause-any_moment g c =
    subst (λ (h : HostState g.row.D.Denot g.row.M.Denot). IsTrue g.D.Disk.tells → (items : List Item) → StandsAt g.M.Machine.decides g.D.Disk.view g.M.Machine.cells h items → LeavesOnly (g.D.Disk.view h.disk) (g.D.Disk.view h.disk) (StandsOrExpires g.M.Machine.decides h.parts.name items c.args.time (expiry_stored (hosted_expires (hosted g.M.Machine.cells h.core) c.args.time) h.parts))) c.self.view_is
    (λ t items at. stays_unexpired g.M.Machine.decides g.D.Disk.view g.M.Machine.cells (record { disk = c.self.inside.disk; parts = c.self.inside.parts; core = c.self.inside.core; size = c.self.inside.size; stopped = c.self.inside.stopped }) items c.args.time (expiry_stored (hosted_expires (hosted g.M.Machine.cells c.self.inside.core) c.args.time) c.self.inside.parts) (g.met.D.Disk.sound c.self.inside.disk t) at (whole_at g.M.Machine.decides g.D.Disk.tells g.D.Disk.view g.M.Machine.cells (record { disk = c.self.inside.disk; parts = c.self.inside.parts; core = c.self.inside.core; size = c.self.inside.size; stopped = c.self.inside.stopped }) items c.self.invariant t at))

pub returns-in-Some-no_file-clause-empty : goal.returns-in-Some-no_file-clause-empty
returns-in-Some-no_file-clause-empty g c =
    subst (λ (h : HostState g.row.D.Denot g.row.M.Denot). IsTrue g.D.Disk.tells → (items : List Item) → StandsAt g.M.Machine.decides g.D.Disk.view g.M.Machine.cells h items → IsEmptyWhereNone (g.D.Disk.view h.disk) h.parts.name) c.self.view_is
    (λ t items at. stays_empty (g.D.Disk.view c.self.inside.disk) c.self.inside.parts (c.self.invariant.fits c.if-self.false t) at.held)

pub store-requires-clause-range : goal.store-requires-clause-range
store-requires-clause-range g c =
    let expires = (expires_so (hosted g.M.Machine.cells c.self.inside.core) c.args.time c.in-Some.session (omega (arith, c.if-time-now.false, c.now.ensures))
    (ap (λ (t : Table). due_in c.args.time t.sessions) (sym c.sessions.ensures) ∙ sym c.due.ensures ∙ c.in-Some.is) (omega (arith, c.if-last-ge-LAST_LIMIT.false, c.last.ensures))) in
    subst (λ (h : HostState g.row.D.Denot g.row.M.Denot). IsInRange (h.core.last + 1) c.end_of.result) c.self.view_is
    (item_in_range g.M.Machine.decides (hosted g.M.Machine.cells c.self.inside.core) (Expired c.args.time c.in-Some.session) c.end_of.result g.met.M.Machine.lawful c.keeps.ensures.sound c.end_of.ensures.fits (expiry_admitted g.M.Machine.decides (hosted g.M.Machine.cells c.self.inside.core) c.args.time c.in-Some.session expires) c.end_of.ensures.entry).1

pub store-requires-clause-fits : goal.store-requires-clause-fits
store-requires-clause-fits g c =
    let expires = (expires_so (hosted g.M.Machine.cells c.self.inside.core) c.args.time c.in-Some.session (omega (arith, c.if-time-now.false, c.now.ensures))
    (ap (λ (t : Table). due_in c.args.time t.sessions) (sym c.sessions.ensures) ∙ sym c.due.ensures ∙ c.in-Some.is) (omega (arith, c.if-last-ge-LAST_LIMIT.false, c.last.ensures))) in
    (item_in_range g.M.Machine.decides (hosted g.M.Machine.cells c.self.inside.core) (Expired c.args.time c.in-Some.session) c.end_of.result g.met.M.Machine.lawful c.keeps.ensures.sound c.end_of.ensures.fits (expiry_admitted g.M.Machine.decides (hosted g.M.Machine.cells c.self.inside.core) c.args.time c.in-Some.session expires) c.end_of.ensures.entry).0

pub returns-in-Ok-clause-stands : goal.returns-in-Ok-clause-stands
returns-in-Ok-clause-stands g c = λ t items at.
    let expires = (subst (λ (h : HostState g.row.D.Denot g.row.M.Denot). hosted_expires (hosted g.M.Machine.cells h.core) c.args.time ≡ Expires c.in-Some.session) c.self.view_is
    (expires_so (hosted g.M.Machine.cells c.self.inside.core) c.args.time c.in-Some.session (omega (arith, c.if-time-now.false, c.now.ensures))
    (ap (λ (t : Table). due_in c.args.time t.sessions) (sym c.sessions.ensures) ∙ sym c.due.ensures ∙ c.in-Some.is) (omega (arith, c.if-last-ge-LAST_LIMIT.false, c.last.ensures)))) in
    stands_more g.M.Machine.decides g.D.Disk.tells g.D.Disk.view g.M.Machine.cells c.args.self.now items (Expired c.args.time c.in-Some.session) c.end_of.result (subst (IsKept g.D.Disk.tells g.D.Disk.view g.M.Machine.cells) c.self.view_is c.self.invariant) t c.store.new.self g.met.M.Machine.lawful at c.end_of.ensures.fits (expiry_admitted g.M.Machine.decides (hosted g.M.Machine.cells c.args.self.now.core) c.args.time c.in-Some.session expires) c.end_of.ensures.entry
    c.in-Ok.ensures.runs c.in-Ok.ensures.state (c.in-Ok.ensures.parts t) (c.in-Ok.ensures.held t at.held)
    (subst (λ (h : HostState g.row.D.Denot g.row.M.Denot). HasMarks h.core.last (hosted g.M.Machine.cells h.core).cells h.core.marks) c.self.view_is c.keeps.ensures.marks) c.in-Ok.ensures.marks

pub returns-in-Ok-clause-empty : goal.returns-in-Ok-clause-empty
returns-in-Ok-clause-empty g c = λ t items at. c.store.ensures.empty t at.held

pub returns-in-Ok-clause-any_moment : goal.returns-in-Ok-clause-any_moment
returns-in-Ok-clause-any_moment g c = λ t items at.
    let expires = (subst (λ (h : HostState g.row.D.Denot g.row.M.Denot). hosted_expires (hosted g.M.Machine.cells h.core) c.args.time ≡ Expires c.in-Some.session) c.self.view_is
    (expires_so (hosted g.M.Machine.cells c.self.inside.core) c.args.time c.in-Some.session (omega (arith, c.if-time-now.false, c.now.ensures))
    (ap (λ (t : Table). due_in c.args.time t.sessions) (sym c.sessions.ensures) ∙ sym c.due.ensures ∙ c.in-Some.is) (omega (arith, c.if-last-ge-LAST_LIMIT.false, c.last.ensures)))) in
    let files = subst (λ (h : HostState g.row.D.Denot g.row.M.Denot). admits_file h.parts ≡ Admitted) c.self.view_is c.in_default-no_file.ensures in
    subst (λ (e : Expiry). LeavesOnly (g.D.Disk.view c.args.self.now.disk) (g.D.Disk.view c.store.new.self.disk) (StandsOrExpires g.M.Machine.decides c.args.self.now.parts.name items c.args.time e))
    (sym (expires_by (hosted_expires (hosted g.M.Machine.cells c.args.self.now.core) c.args.time) c.args.self.now.parts c.in-Some.session expires files))
    (leaves_more g.M.Machine.decides g.D.Disk.tells g.D.Disk.view g.M.Machine.cells c.args.self.now items (Expired c.args.time c.in-Some.session) c.end_of.result (subst (IsKept g.D.Disk.tells g.D.Disk.view g.M.Machine.cells) c.self.view_is c.self.invariant) t (g.D.Disk.view c.store.new.self.disk) at c.end_of.ensures.entry (c.store.ensures.any_moment t at.held))

pub returns-in-Err-clause-any_moment : goal.returns-in-Err-clause-any_moment
returns-in-Err-clause-any_moment g c = λ t items at.
    let expires = (subst (λ (h : HostState g.row.D.Denot g.row.M.Denot). hosted_expires (hosted g.M.Machine.cells h.core) c.args.time ≡ Expires c.in-Some.session) c.self.view_is
    (expires_so (hosted g.M.Machine.cells c.self.inside.core) c.args.time c.in-Some.session (omega (arith, c.if-time-now.false, c.now.ensures))
    (ap (λ (t : Table). due_in c.args.time t.sessions) (sym c.sessions.ensures) ∙ sym c.due.ensures ∙ c.in-Some.is) (omega (arith, c.if-last-ge-LAST_LIMIT.false, c.last.ensures)))) in
    let files = subst (λ (h : HostState g.row.D.Denot g.row.M.Denot). admits_file h.parts ≡ Admitted) c.self.view_is c.in_default-no_file.ensures in
    subst (λ (e : Expiry). LeavesOnly (g.D.Disk.view c.args.self.now.disk) (g.D.Disk.view c.store.new.self.disk) (StandsOrExpires g.M.Machine.decides c.args.self.now.parts.name items c.args.time e))
    (sym (expires_by (hosted_expires (hosted g.M.Machine.cells c.args.self.now.core) c.args.time) c.args.self.now.parts c.in-Some.session expires files))
    (leaves_more g.M.Machine.decides g.D.Disk.tells g.D.Disk.view g.M.Machine.cells c.args.self.now items (Expired c.args.time c.in-Some.session) c.end_of.result (subst (IsKept g.D.Disk.tells g.D.Disk.view g.M.Machine.cells) c.self.view_is c.self.invariant) t (g.D.Disk.view c.store.new.self.disk) at c.end_of.ensures.entry (c.store.ensures.any_moment t at.held))
