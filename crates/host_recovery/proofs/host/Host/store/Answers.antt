use Rattle.std.proofs.Common.{ℕ, ◌≡◌, ◌+◌, ◌<◌, [], ◌∷◌, length, Option, None, Ok, is_none, IsTrue, ap, sym, subst, ◌∙◌, arith}
use Rattle.std.specs.FinMap.{insert}
use Rattle.host_types.specs.Cells.{Cells}
use Rattle.host_types.specs.Limits.{index_limit}
use Rattle.host_types.specs.Ranges.{IsInRange}
use Rattle.disk_model.specs.View.{LeavesOnly}
use Rattle.segment_set.specs.declared.parts.Parts.{Parts}
use Rattle.segment_set.specs.declared.tail.Tail.{Tail}
use Rattle.segment_set.specs.Fits.{IsEmptyWhereNone, IsHeld, IsPrepared, KeepsNames, last_of, parts_in}
use Rattle.segment_set.specs.Growth.{HasOrGains, IsFrameFor, gained, greatest_after}
use Rattle.log_model.specs.hosted.Hosted.{Hosted, hosted_told}
use Rattle.log_model.specs.cleaning.Layout.{with_entry}
use Rattle.log_model.specs.replay.Replay.{replay_entry}
use Rattle.session_table.specs.Table.{confirmed_positions}
use Rattle.released_marks.specs.Marks.{Marks}
use Rattle.host_core.specs.Entering.{confirmed_by}
use Rattle.host_core.specs.CoreState.{hosted}
use Rattle.host_core.specs.Marking.{AreMarked}
use Rattle.host_recovery.specs.HostState.{HostState}
use Rattle.host_recovery.specs.Standing.{layout_in}
use Rattle.host_recovery.proofs.Files.{lies_more}
use Rattle.host_recovery.proofs.Staying.{appends_from, same_alone, same_fits, same_last}
use Rattle.host_recovery.proofs.Stores.{file_left, frame_for, not_yet, stays_empty}
use Rattle.host_recovery.proofs.host.Host.store.Goals as goal

pub returns-in-Err-clause-any_moment : goal.returns-in-Err-clause-any_moment
returns-in-Err-clause-any_moment g c =
    subst (λ (h : HostState g.row.D.Denot g.row.M.Denot). IsTrue g.D.Disk.tells → IsHeld (g.D.Disk.view h.disk) h.parts → LeavesOnly (g.D.Disk.view h.disk) (g.D.Disk.view c.self.inside.disk) (HasOrGains h.parts.name h.size h.parts.greatest (parts_in (g.D.Disk.view h.disk).reading h.parts) (c.args.entry ∷ []))) c.self.view_is
    (λ t held. not_yet (g.D.Disk.view c.self.inside.disk) c.self.inside.parts c.self.inside.size c.args.entry (g.met.D.Disk.sound c.self.inside.disk t) held)

pub returns-in-Err-clause-empty : goal.returns-in-Err-clause-empty
returns-in-Err-clause-empty g c =
    subst (λ (h : HostState g.row.D.Denot g.row.M.Denot). IsTrue g.D.Disk.tells → IsHeld (g.D.Disk.view h.disk) h.parts → IsEmptyWhereNone (g.D.Disk.view c.self.inside.disk) h.parts.name) c.self.view_is
    (λ t held. stays_empty (g.D.Disk.view c.self.inside.disk) c.self.inside.parts (c.self.invariant.fits (ap (λ (h : HostState g.row.D.Denot g.row.M.Denot). h.stopped) c.self.view_is ∙ c.requires.runs) t) held)

pub returns-in-Err-prepare_append-clause-any_moment : goal.returns-in-Err-prepare_append-clause-any_moment
returns-in-Err-prepare_append-clause-any_moment g c =
    subst (λ (h : HostState g.row.D.Denot g.row.M.Denot). IsTrue g.D.Disk.tells → IsHeld (g.D.Disk.view h.disk) h.parts → LeavesOnly (g.D.Disk.view h.disk) (g.D.Disk.view c.self.inside.disk) (HasOrGains h.parts.name h.size h.parts.greatest (parts_in (g.D.Disk.view h.disk).reading h.parts) (c.args.entry ∷ []))) c.self.view_is
    (λ t held. not_yet (g.D.Disk.view c.self.inside.disk) c.self.inside.parts c.self.inside.size c.args.entry (g.met.D.Disk.sound c.self.inside.disk t) held)

pub returns-in-Err-prepare_append-clause-empty : goal.returns-in-Err-prepare_append-clause-empty
returns-in-Err-prepare_append-clause-empty g c =
    subst (λ (h : HostState g.row.D.Denot g.row.M.Denot). IsTrue g.D.Disk.tells → IsHeld (g.D.Disk.view h.disk) h.parts → IsEmptyWhereNone (g.D.Disk.view c.self.inside.disk) h.parts.name) c.self.view_is
    (λ t held. stays_empty (g.D.Disk.view c.self.inside.disk) c.self.inside.parts (c.self.invariant.fits (ap (λ (h : HostState g.row.D.Denot g.row.M.Denot). h.stopped) c.self.view_is ∙ c.requires.runs) t) held)

pub returns-in-Err-reserve-clause-any_moment : goal.returns-in-Err-reserve-clause-any_moment
returns-in-Err-reserve-clause-any_moment g c =
    subst (λ (h : HostState g.row.D.Denot g.row.M.Denot). IsTrue g.D.Disk.tells → IsHeld (g.D.Disk.view h.disk) h.parts → LeavesOnly (g.D.Disk.view h.disk) (g.D.Disk.view c.self.inside.disk) (HasOrGains h.parts.name h.size h.parts.greatest (parts_in (g.D.Disk.view h.disk).reading h.parts) (c.args.entry ∷ []))) c.self.view_is
    (λ t held. not_yet (g.D.Disk.view c.self.inside.disk) c.self.inside.parts c.self.inside.size c.args.entry (g.met.D.Disk.sound c.self.inside.disk t) held)

pub returns-in-Err-reserve-clause-empty : goal.returns-in-Err-reserve-clause-empty
returns-in-Err-reserve-clause-empty g c =
    subst (λ (h : HostState g.row.D.Denot g.row.M.Denot). IsTrue g.D.Disk.tells → IsHeld (g.D.Disk.view h.disk) h.parts → IsEmptyWhereNone (g.D.Disk.view c.self.inside.disk) h.parts.name) c.self.view_is
    (λ t held. stays_empty (g.D.Disk.view c.self.inside.disk) c.self.inside.parts (c.self.invariant.fits (ap (λ (h : HostState g.row.D.Denot g.row.M.Denot). h.stopped) c.self.view_is ∙ c.requires.runs) t) held)

pub returns-in-Ok-append-clause-any_moment : goal.returns-in-Ok-append-clause-any_moment
returns-in-Ok-append-clause-any_moment g c =
    subst (λ (h : HostState g.row.D.Denot g.row.M.Denot). IsTrue g.D.Disk.tells → IsHeld (g.D.Disk.view h.disk) h.parts → LeavesOnly (g.D.Disk.view h.disk) (g.D.Disk.view c.append.new.disk) (HasOrGains h.parts.name h.size h.parts.greatest (parts_in (g.D.Disk.view h.disk).reading h.parts) (c.args.entry ∷ []))) c.self.view_is
    (λ t held. (appends_from c.self.inside.parts c.prepare_append.new.self c.prepare_append.ensures.same (g.D.Disk.view c.self.inside.disk) (g.D.Disk.view c.append.new.disk) c.append.new.self c.deref.result.now c.self.inside.size c.append.result (c.append.ensures.told t)).any_moment held (c.args.entry ∷ [])
    (frame_for (last_of c.self.inside.parts) c.last-index.result c.deref.result.now c.args.entry (c.last-index.ensures ∙ c.self.invariant.last (ap (λ (h : HostState g.row.D.Denot g.row.M.Denot). h.stopped) c.self.view_is ∙ c.requires.runs))
    (subst (λ (n : ℕ). IsInRange (n + 1) c.args.entry) (sym (c.last-index.ensures ∙ ap (λ (h : HostState g.row.D.Denot g.row.M.Denot). h.core.last) c.self.view_is)) c.requires.range) c.requires.fits (c.deref.ensures.value ∙ c.in-Ok.ensures.frame)))

pub returns-in-Ok-append-clause-empty : goal.returns-in-Ok-append-clause-empty
returns-in-Ok-append-clause-empty g c =
    subst (λ (h : HostState g.row.D.Denot g.row.M.Denot). IsTrue g.D.Disk.tells → IsHeld (g.D.Disk.view h.disk) h.parts → IsEmptyWhereNone (g.D.Disk.view c.append.new.disk) h.parts.name) c.self.view_is
    (λ t held. (appends_from c.self.inside.parts c.prepare_append.new.self c.prepare_append.ensures.same (g.D.Disk.view c.self.inside.disk) (g.D.Disk.view c.append.new.disk) c.append.new.self c.deref.result.now c.self.inside.size c.append.result (c.append.ensures.told t)).empty held)

pub returns-in-Ok-append-clause-others : goal.returns-in-Ok-append-clause-others
returns-in-Ok-append-clause-others g c =
    subst (λ (h : HostState g.row.D.Denot g.row.M.Denot). IsTrue g.D.Disk.tells → KeepsNames (g.D.Disk.view h.disk) (g.D.Disk.view c.append.new.disk) h.parts.name) c.self.view_is
    (λ t. (appends_from c.self.inside.parts c.prepare_append.new.self c.prepare_append.ensures.same (g.D.Disk.view c.self.inside.disk) (g.D.Disk.view c.append.new.disk) c.append.new.self c.deref.result.now c.self.inside.size c.append.result (c.append.ensures.told t)).others)

pub returns-in-Ok-append-clause-name : goal.returns-in-Ok-append-clause-name
returns-in-Ok-append-clause-name g c =
    c.append.ensures.name ∙ c.prepare_append.ensures.same.name ∙ ap (λ (h : HostState g.row.D.Denot g.row.M.Denot). h.parts.name) c.self.view_is

pub returns-in-Err-append-clause-any_moment : goal.returns-in-Err-append-clause-any_moment
returns-in-Err-append-clause-any_moment g c =
    subst (λ (h : HostState g.row.D.Denot g.row.M.Denot). IsTrue g.D.Disk.tells → IsHeld (g.D.Disk.view h.disk) h.parts → LeavesOnly (g.D.Disk.view h.disk) (g.D.Disk.view c.append.new.disk) (HasOrGains h.parts.name h.size h.parts.greatest (parts_in (g.D.Disk.view h.disk).reading h.parts) (c.args.entry ∷ []))) c.self.view_is
    (λ t held. (appends_from c.self.inside.parts c.prepare_append.new.self c.prepare_append.ensures.same (g.D.Disk.view c.self.inside.disk) (g.D.Disk.view c.append.new.disk) c.append.new.self c.deref.result.now c.self.inside.size c.append.result (c.append.ensures.told t)).any_moment held (c.args.entry ∷ [])
    (frame_for (last_of c.self.inside.parts) c.last-index.result c.deref.result.now c.args.entry (c.last-index.ensures ∙ c.self.invariant.last (ap (λ (h : HostState g.row.D.Denot g.row.M.Denot). h.stopped) c.self.view_is ∙ c.requires.runs))
    (subst (λ (n : ℕ). IsInRange (n + 1) c.args.entry) (sym (c.last-index.ensures ∙ ap (λ (h : HostState g.row.D.Denot g.row.M.Denot). h.core.last) c.self.view_is)) c.requires.range) c.requires.fits (c.deref.ensures.value ∙ c.in-Ok.ensures.frame)))

pub returns-in-Err-append-clause-empty : goal.returns-in-Err-append-clause-empty
returns-in-Err-append-clause-empty g c =
    subst (λ (h : HostState g.row.D.Denot g.row.M.Denot). IsTrue g.D.Disk.tells → IsHeld (g.D.Disk.view h.disk) h.parts → IsEmptyWhereNone (g.D.Disk.view c.append.new.disk) h.parts.name) c.self.view_is
    (λ t held. (appends_from c.self.inside.parts c.prepare_append.new.self c.prepare_append.ensures.same (g.D.Disk.view c.self.inside.disk) (g.D.Disk.view c.append.new.disk) c.append.new.self c.deref.result.now c.self.inside.size c.append.result (c.append.ensures.told t)).empty held)

pub returns-in-Err-append-clause-others : goal.returns-in-Err-append-clause-others
returns-in-Err-append-clause-others g c =
    subst (λ (h : HostState g.row.D.Denot g.row.M.Denot). IsTrue g.D.Disk.tells → KeepsNames (g.D.Disk.view h.disk) (g.D.Disk.view c.append.new.disk) h.parts.name) c.self.view_is
    (λ t. (appends_from c.self.inside.parts c.prepare_append.new.self c.prepare_append.ensures.same (g.D.Disk.view c.self.inside.disk) (g.D.Disk.view c.append.new.disk) c.append.new.self c.deref.result.now c.self.inside.size c.append.result (c.append.ensures.told t)).others)

pub returns-in-Err-append-clause-name : goal.returns-in-Err-append-clause-name
returns-in-Err-append-clause-name g c =
    c.append.ensures.name ∙ c.prepare_append.ensures.same.name ∙ ap (λ (h : HostState g.row.D.Denot g.row.M.Denot). h.parts.name) c.self.view_is

pub returns-in-Ok-append-clause-state : goal.returns-in-Ok-append-clause-state
returns-in-Ok-append-clause-state g c =
    let state = c.reserve.ensures.state ∙ ap (λ (h : HostState g.row.D.Denot g.row.M.Denot). hosted g.M.Machine.cells h.core) c.self.view_is in
    let index = (c.last-index.ensures ∙ ap (λ (h : HostState g.row.D.Denot g.row.M.Denot). h.core.last) c.self.view_is) in
    c.apply.ensures.state ∙ (λ i. replay_entry (hosted_told g.M.Machine.decides) 0 (state i) (index i + 1, c.args.entry))

pub returns-in-Ok-append-clause-marks : goal.returns-in-Ok-append-clause-marks
returns-in-Ok-append-clause-marks g c =
    let before : hosted g.M.Machine.cells c.reserve.new.self ≡ hosted g.M.Machine.cells c.args.self.now.core = c.reserve.ensures.state ∙ ap (λ (h : HostState g.row.D.Denot g.row.M.Denot). hosted g.M.Machine.cells h.core) c.self.view_is in
    let index = (c.last-index.ensures ∙ ap (λ (h : HostState g.row.D.Denot g.row.M.Denot). h.core.last) c.self.view_is) in
    let added = c.in-Ok-reserve.ensures.marks ∙ (λ i. insert (c.self.view_is i).core.marks (c.last-index.result + 1) None) in
    subst (λ (x : ℕ × Cells × Marks). AreMarked (x.0 + 1) x.1 (hosted g.M.Machine.cells c.apply.new.self).cells x.2 c.apply.new.self.marks) (λ i. (index i, (before i).cells, (added ∙ (λ j. insert c.args.self.now.core.marks (index j + 1) None)) i)) c.apply.ensures.marks

pub returns-in-Ok-append-clause-parts : goal.returns-in-Ok-append-clause-parts
returns-in-Ok-append-clause-parts g c =
    subst (λ (h : HostState g.row.D.Denot g.row.M.Denot). IsTrue g.D.Disk.tells → parts_in (g.D.Disk.view c.append.new.disk).reading c.append.new.self ≡ gained h.size h.parts.greatest (parts_in (g.D.Disk.view h.disk).reading h.parts) (c.args.entry ∷ [])) c.self.view_is
    (λ t. (appends_from c.self.inside.parts c.prepare_append.new.self c.prepare_append.ensures.same (g.D.Disk.view c.self.inside.disk) (g.D.Disk.view c.append.new.disk) c.append.new.self c.deref.result.now c.self.inside.size (Ok tt) (c.in-Ok-append.ensures.told t)).parts (c.args.entry ∷ [])
    (frame_for (last_of c.self.inside.parts) c.last-index.result c.deref.result.now c.args.entry (c.last-index.ensures ∙ c.self.invariant.last (ap (λ (h : HostState g.row.D.Denot g.row.M.Denot). h.stopped) c.self.view_is ∙ c.requires.runs))
    (subst (λ (n : ℕ). IsInRange (n + 1) c.args.entry) (sym (c.last-index.ensures ∙ ap (λ (h : HostState g.row.D.Denot g.row.M.Denot). h.core.last) c.self.view_is)) c.requires.range) c.requires.fits (c.deref.ensures.value ∙ c.in-Ok.ensures.frame)))

pub returns-in-Ok-append-clause-layout : goal.returns-in-Ok-append-clause-layout
returns-in-Ok-append-clause-layout g c =
    subst (λ (h : HostState g.row.D.Denot g.row.M.Denot). IsTrue g.D.Disk.tells → layout_in (g.D.Disk.view c.append.new.disk) c.append.new.self ≡ with_entry h.size (layout_in (g.D.Disk.view h.disk) h.parts)) c.self.view_is
    (λ t. lies_more (g.D.Disk.view c.self.inside.disk) (g.D.Disk.view c.append.new.disk) c.self.inside.parts c.append.new.self c.self.inside.size c.args.entry (c.self.invariant.fits (ap (λ (h : HostState g.row.D.Denot g.row.M.Denot). h.stopped) c.self.view_is ∙ c.requires.runs) t)
    ((appends_from c.self.inside.parts c.prepare_append.new.self c.prepare_append.ensures.same (g.D.Disk.view c.self.inside.disk) (g.D.Disk.view c.append.new.disk) c.append.new.self c.deref.result.now c.self.inside.size (Ok tt) (c.in-Ok-append.ensures.told t)).parts (c.args.entry ∷ [])
    (frame_for (last_of c.self.inside.parts) c.last-index.result c.deref.result.now c.args.entry (c.last-index.ensures ∙ c.self.invariant.last (ap (λ (h : HostState g.row.D.Denot g.row.M.Denot). h.stopped) c.self.view_is ∙ c.requires.runs))
    (subst (λ (n : ℕ). IsInRange (n + 1) c.args.entry) (sym (c.last-index.ensures ∙ ap (λ (h : HostState g.row.D.Denot g.row.M.Denot). h.core.last) c.self.view_is)) c.requires.range) c.requires.fits (c.deref.ensures.value ∙ c.in-Ok.ensures.frame)))
    (c.in-Ok-append.ensures.greatest ∙ (λ i. greatest_after (is_none (c.prepare_append.ensures.same.tail i)) (c.prepare_append.ensures.same.greatest i))))

pub returns-in-Ok-append-clause-held : goal.returns-in-Ok-append-clause-held
returns-in-Ok-append-clause-held g c =
    subst (λ (h : HostState g.row.D.Denot g.row.M.Denot). IsTrue g.D.Disk.tells → IsHeld (g.D.Disk.view h.disk) h.parts → IsHeld (g.D.Disk.view c.append.new.disk) c.append.new.self) c.self.view_is
    (λ t held. (appends_from c.self.inside.parts c.prepare_append.new.self c.prepare_append.ensures.same (g.D.Disk.view c.self.inside.disk) (g.D.Disk.view c.append.new.disk) c.append.new.self c.deref.result.now c.self.inside.size (Ok tt) (c.in-Ok-append.ensures.told t)).held held)

pub returns-in-Ok-append-clause-confirmed : goal.returns-in-Ok-append-clause-confirmed
returns-in-Ok-append-clause-confirmed g c =
    let beside = c.reserve.ensures.sessions.beside ∙ ap (λ (h : HostState g.row.D.Denot g.row.M.Denot). h.core.sessions.beside) c.self.view_is in
    let index = (c.last-index.ensures ∙ ap (λ (h : HostState g.row.D.Denot g.row.M.Denot). h.core.last) c.self.view_is) in
    c.apply.ensures.positions ∙ (λ i. confirmed_by (index i + 1) c.args.entry.body (confirmed_positions (beside i)))

pub returns-in-Err-reserve-clause-name : goal.returns-in-Err-reserve-clause-name
returns-in-Err-reserve-clause-name g c =
    c.prepare_append.ensures.same.name ∙ ap (λ (h : HostState g.row.D.Denot g.row.M.Denot). h.parts.name) c.self.view_is

pub invariant_of-self-in-Err-reserve : goal.invariant_of-self-in-Err-reserve
invariant_of-self-in-Err-reserve g c = record {
  size_first = c.self.invariant.size_first;
  size_last = c.self.invariant.size_last;
  last = λ runs. ap (λ (s : Hosted). s.last) c.reserve.ensures.state ∙ c.self.invariant.last runs ∙ sym (same_last c.self.inside.parts c.prepare_append.new.self c.prepare_append.ensures.same);
  fits = λ runs t. same_fits c.self.inside.parts c.prepare_append.new.self c.prepare_append.ensures.same (g.D.Disk.view c.self.inside.disk) (c.self.invariant.fits runs t);
  alone = λ runs t. same_alone c.self.inside.parts c.prepare_append.new.self c.prepare_append.ensures.same (g.D.Disk.view c.self.inside.disk) (c.self.invariant.alone runs t);
}

pub invariant_of-self-in-Err-prepare_append : goal.invariant_of-self-in-Err-prepare_append
invariant_of-self-in-Err-prepare_append g c = record {
  size_first = c.self.invariant.size_first;
  size_last = c.self.invariant.size_last;
  last = λ runs. c.self.invariant.last runs ∙ sym (same_last c.self.inside.parts c.prepare_append.new.self c.prepare_append.ensures.same);
  fits = λ runs t. same_fits c.self.inside.parts c.prepare_append.new.self c.prepare_append.ensures.same (g.D.Disk.view c.self.inside.disk) (c.self.invariant.fits runs t);
  alone = λ runs t. same_alone c.self.inside.parts c.prepare_append.new.self c.prepare_append.ensures.same (g.D.Disk.view c.self.inside.disk) (c.self.invariant.alone runs t);
}

pub append-requires-clause-fits : goal.append-requires-clause-fits
append-requires-clause-fits g c = λ t. same_fits c.self.inside.parts c.prepare_append.new.self c.prepare_append.ensures.same (g.D.Disk.view c.self.inside.disk) (c.self.invariant.fits (ap (λ (h : HostState g.row.D.Denot g.row.M.Denot). h.stopped) c.self.view_is ∙ c.requires.runs) t)

-- its frame has one entry
pub append-requires-clause-room : goal.append-requires-clause-room
append-requires-clause-room g c =
    let last : last_of c.prepare_append.new.self ≡ c.self.inside.core.last = same_last c.self.inside.parts c.prepare_append.new.self c.prepare_append.ensures.same ∙ sym (c.self.invariant.last (ap (λ (h : HostState g.row.D.Denot g.row.M.Denot). h.stopped) c.self.view_is ∙ c.requires.runs)) in
    let was : c.self.inside.core.last ≡ c.args.self.now.core.last = ap (λ (h : HostState g.row.D.Denot g.row.M.Denot). h.core.last) c.self.view_is in
    let room = c.requires.room in
    omega (arith, last, was, room, ap length (c.deref-2.ensures.value ∙ c.in-Ok.ensures.places))

pub append-requires-clause-prepared : goal.append-requires-clause-prepared
append-requires-clause-prepared g c = subst (λ (k : ℕ). IsPrepared k c.prepare_append.new.self) (sym (ap length (c.deref-2.ensures.value ∙ c.in-Ok.ensures.places))) c.in-Ok-prepare_append.ensures.ok

pub append-requires-clause-generation : goal.append-requires-clause-generation
append-requires-clause-generation g c =
    subst (λ (x : Option Tail × ℕ). x.0 ≡ None → x.1 < index_limit) (λ i. (sym c.prepare_append.ensures.same.tail i, sym c.prepare_append.ensures.same.greatest i))
    (subst (λ (p : Parts). p.tail ≡ None → p.greatest < index_limit) (sym (ap (λ (h : HostState g.row.D.Denot g.row.M.Denot). h.parts) c.self.view_is)) (file_left c.args.self.now.parts c.requires.file))

pub append-requires-clause-frame : goal.append-requires-clause-frame
append-requires-clause-frame g c = (
  c.args.entry ∷ [],
  subst (λ (k : ℕ). IsFrameFor k c.deref.result.now (c.args.entry ∷ [])) (sym (same_last c.self.inside.parts c.prepare_append.new.self c.prepare_append.ensures.same))
      (frame_for (last_of c.self.inside.parts) c.last-index.result c.deref.result.now c.args.entry (c.last-index.ensures ∙ c.self.invariant.last (ap (λ (h : HostState g.row.D.Denot g.row.M.Denot). h.stopped) c.self.view_is ∙ c.requires.runs))
      (subst (λ (n : ℕ). IsInRange (n + 1) c.args.entry) (sym (c.last-index.ensures ∙ ap (λ (h : HostState g.row.D.Denot g.row.M.Denot). h.core.last) c.self.view_is)) c.requires.range) c.requires.fits (c.deref.ensures.value ∙ c.in-Ok.ensures.frame)),
  c.deref-2.ensures.value ∙ c.in-Ok.ensures.places,
)

pub invariant_of-self-in-Ok-append : goal.invariant_of-self-in-Ok-append
invariant_of-self-in-Ok-append g c = record {
  size_first = c.self.invariant.size_first;
  size_last = c.self.invariant.size_last;
  last = λ runs.
      let now : c.apply.new.self.last ≡ c.last-index.result + 1 = ap (λ (s : Hosted). s.last) c.apply.ensures.state in
      let before : c.last-index.result ≡ last_of c.prepare_append.new.self = c.last-index.ensures ∙ c.self.invariant.last runs ∙ sym (same_last c.self.inside.parts c.prepare_append.new.self c.prepare_append.ensures.same) in
      now ∙ ap (λ (k : ℕ). k + 1) before ∙ ap (λ (k : ℕ). last_of c.prepare_append.new.self + k) (sym (ap length (c.deref-2.ensures.value ∙ c.in-Ok.ensures.places))) ∙ sym c.in-Ok-append.ensures.last;
  fits = λ runs t. (c.in-Ok-append.ensures.told t).fits;
  alone = λ runs t. (appends_from c.self.inside.parts c.prepare_append.new.self c.prepare_append.ensures.same (g.D.Disk.view c.self.inside.disk) (g.D.Disk.view c.append.new.disk) c.append.new.self c.deref.result.now c.self.inside.size (Ok tt) (c.in-Ok-append.ensures.told t)).alone (c.self.invariant.alone (ap (λ (h : HostState g.row.D.Denot g.row.M.Denot). h.stopped) c.self.view_is ∙ c.requires.runs) t);
}
