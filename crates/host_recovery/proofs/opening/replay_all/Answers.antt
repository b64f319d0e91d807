use Rattle.std.proofs.Common.{◌≡◌, inl, inr, ⊎_elim, ℕ, ◌≤◌, List, Option, Some, None, Contains, refl, ap, subst, ◌∙◌, arith}
use Rattle.host_types.specs.declared.entry.Entry.{Entry}
use Rattle.disk_model.specs.Image.{Image}
use Rattle.disk_model.specs.View.{View}
use Rattle.segment_files.specs.Folder.{entries_of}
use Rattle.segment_set.specs.declared.parts.Parts.{Parts}
use Rattle.segment_set.specs.Fits.{Fits, IsEntryAt, IsNextIn, cut_by, last_of, parts_in, present}
use Rattle.segment_set.proofs.Present.{entries_rise, entries_within, last_is_present, none_behind_last, present_are}
use Rattle.segment_set.proofs.Entries.{has_index}
use Rattle.log_model.specs.hosted.Hosted.{Hosted, hosted_told}
use Rattle.log_model.specs.replay.Replay.{replay_entry}
use Rattle.host_core.specs.CoreState.{hosted}
use Rattle.segment_files.proofs.Looking.{looks_not, looks_then}
use Rattle.host_recovery.proofs.Replaying.{RiseFrom, none_yet, replayed_all, replayed_next, rises}
use Rattle.host_recovery.proofs.Staying.{parts_stay}
use Rattle.host_recovery.proofs.opening.replay_all.Goals as goal

-- the entries of files rise
rise_of : (v : View) (parts : Parts) → Fits v parts → RiseFrom 0 (entries_of (parts_in v.reading parts))
rise_of v parts fits = rises (entries_of (parts_in v.reading parts)) (entries_rise v parts fits) (λ x has. (entries_within v parts fits x.0 x.1 has).0)

-- and each is present
among : (v : View) (parts : Parts) → Fits v parts → (x : ℕ × Entry) → Contains (entries_of (parts_in v.reading parts)) x → Contains (present parts) x.0
among v parts fits x has = subst (λ (l : List ℕ). Contains l x.0) (present_are v parts fits) (has_index (entries_of (parts_in v.reading parts)) x.0 x.1 has)

next_is : (parts : Parts) (index next : ℕ) (o : Option ℕ) → o ≡ Some next → IsNextIn (present parts) index o → IsNextIn (present parts) index (Some next)
next_is parts index next o is n = subst (IsNextIn (present parts) index) is n

pub loop-next-init : goal.loop-next-init
loop-next-init g c = record {
  last = ap (λ (s : Hosted). s.last) c.requires.fresh;
  there = inl refl;
  looks = λ t. looks_not (g.D.Disk.view c.args.disk.now) (g.met.D.Disk.sound c.args.disk.now t);
  faults = omega arith;
  confirmed = λ is. is;
  replayed = λ t.
      let v = g.D.Disk.view c.args.disk.now in
      none_yet (hosted_told g.M.Machine.decides) _ (hosted g.M.Machine.cells c.args.core.now) (entries_of (parts_in v.reading c.args.parts.now)) (rise_of v c.args.parts.now (c.requires.fits t)) (ap (λ (s : Hosted). s.cells) c.requires.fresh)
      c.args.core.now.marks c.requires.unmarked;
}

pub read-requires : goal.read-requires
read-requires g c = record {
  fits = λ t. parts_stay (g.D.Disk.view c.args.disk.now) (g.D.Disk.view c.loop-next.disk) c.args.parts.now (c.loop-next.invariant.looks t).stays (c.requires.fits t);
}

pub loop-next-smaller-in-Ok-replay : goal.loop-next-smaller-in-Ok-replay
loop-next-smaller-in-Ok-replay g c =
    let parts = c.args.parts.now in
    let next = next_is parts c.loop-next.index c.in-Some.next c.next_present.result c.in-Some.is c.next_present.ensures in
    let within = none_behind_last parts c.in-Some.next next.0 in
    let above = next.1 in
    omega (arith, within.1, above)

pub loop-next-preserved-in-Ok-replay : goal.loop-next-preserved-in-Ok-replay
loop-next-preserved-in-Ok-replay g c =
    let v0 = g.D.Disk.view c.args.disk.now in
    let v = g.D.Disk.view c.loop-next.disk in
    let w = g.D.Disk.view c.read.new.disk in
    let parts = c.args.parts.now in
    let next = next_is parts c.loop-next.index c.in-Some.next c.next_present.result c.in-Some.is c.next_present.ensures in
    record {
      last = ap (λ (s : Hosted). s.last) c.in-Ok-replay.ensures.ok;
      there = inr next.0;
      looks = λ t. looks_then v0 v w (g.met.D.Disk.sound c.args.disk.now t) (c.loop-next.invariant.looks t) (c.read.ensures.looks t);
      faults = omega (arith, c.loop-next.invariant.faults, c.read.ensures.cause.later);
      confirmed = λ is. c.in-Ok-replay.ensures.confirmed (c.loop-next.invariant.confirmed is);
      replayed = λ t.
          let reading = (c.loop-next.invariant.looks t).stays.reading in
          let fits = c.requires.fits t in
          replayed_next (hosted_told g.M.Machine.decides) (cut_by parts.sealed.items) (hosted g.M.Machine.cells c.args.core.now) (entries_of (parts_in v0.reading parts)) (rise_of v0 parts fits) (ap (λ (s : Hosted). s.cells) c.requires.fresh)
          c.loop-next.index c.in-Some.next c.in-Some-found.entry
          (hosted g.M.Machine.cells c.loop-next.core) (hosted g.M.Machine.cells c.replay.new.self) c.loop-next.core.marks c.replay.new.self.marks
          (c.loop-next.invariant.replayed t)
          (subst (λ (r : Image). Contains (entries_of (parts_in r parts)) (c.in-Some.next, c.in-Some-found.entry)) reading
          (subst (IsEntryAt (entries_of (parts_in v.reading parts)) c.in-Some.next) c.in-Some-found.is (c.in-Ok.ensures.entry t)))
          next.1
          (λ x has behind. next.2 x.0 (among v0 parts fits x has) behind)
          (c.in-Ok-replay.ensures.ok ∙ ap (λ (k : ℕ). replay_entry (hosted_told g.M.Machine.decides) k (hosted g.M.Machine.cells c.loop-next.core) (c.in-Some.next, c.in-Some-found.entry)) c.cut-cut.ensures.cut)
          c.in-Ok-replay.ensures.marks;
    }

-- no entry is behind
none_behind : (parts : Parts) (index : ℕ) (o : Option ℕ) → o ≡ None → IsNextIn (present parts) index o → (j : ℕ) → Contains (present parts) j → j ≤ index
none_behind parts index o is n = subst (IsNextIn (present parts) index) is n

pub returns-clause-state : goal.returns-clause-state
returns-clause-state g c = λ t.
    (replayed_all (λ x has. none_behind c.args.parts.now c.loop-next.index c.next_present.result c.in_default.is c.next_present.ensures x.0 (among (g.D.Disk.view c.args.disk.now) c.args.parts.now (c.requires.fits t) x has))
    (c.loop-next.invariant.replayed t)).0

pub returns-clause-marks : goal.returns-clause-marks
returns-clause-marks g c = λ t.
    (replayed_all (λ x has. none_behind c.args.parts.now c.loop-next.index c.next_present.result c.in_default.is c.next_present.ensures x.0 (among (g.D.Disk.view c.args.disk.now) c.args.parts.now (c.requires.fits t) x has))
    (c.loop-next.invariant.replayed t)).1

pub returns-clause-last : goal.returns-clause-last
returns-clause-last g c =
    let parts = c.args.parts.now in
    let least : last_of parts ≤ c.loop-next.index = ⊎_elim
    (λ zero. omega (arith, zero))
    (λ there. none_behind parts c.loop-next.index c.next_present.result c.in_default.is c.next_present.ensures (last_of parts) there)
    (last_is_present parts) in
    let most : c.loop-next.index ≤ last_of parts = ⊎_elim
    (λ zero. omega (arith, zero))
    (λ there. (none_behind_last parts c.loop-next.index there).1)
    c.loop-next.invariant.there in
    omega (arith, c.loop-next.invariant.last, least, most)
