use Rattle.std.proofs.Common.{◌≡◌, ◌≢◌, ◌+◌, ℕ, List, ◌∷◌, ◌++◌, length, None, refl, sym, ap, subst, ◌∙◌, arith, rules, Contains}
use Rattle.std.specs.List.{slice_range}
use Rattle.disk_model.specs.declared.file_id.FileId.{FileId}
use Rattle.disk_model.specs.Image.{Place, place}
use Rattle.disk_model.specs.View.{LeavesAt}
use Rattle.segment_set.specs.declared.opened.Opened.{Opened}
use Rattle.segment_set.specs.declared.parts.Parts.{Parts}
use Rattle.segment_set.specs.Exchange.{HasRun, ids_of}
use Rattle.segment_set.specs.Finding.{IsFirstReaching}
use Rattle.segment_set.specs.Joined.{last_index_of}
use Rattle.segment_set.specs.Load.{AreListed, OrGone}
use Rattle.segment_set.proofs.Exchanging.{from_is, last_now, run_within, slice_is, to_is}
use Rattle.segment_set.proofs.Exchanged.{alone_now, any_moment, fits_now, held_now, listed, parts_now, still_some}
use Rattle.segment_set.proofs.Names.{names_removed}
use Rattle.segment_set.proofs.parts.Parts.replace.Goals as goal

-- where the run lies, as it was looked for
module _ (old : Parts) (new : Opened) (front run back : List Opened) (r : HasRun old.sealed.items old.tail new front run back) (files others : List Opened) (from n : ℕ)
    (is : files ≡ old.sealed.items) (also : others ≡ old.sealed.items) (first : IsFirstReaching new.id.base files from) (last : IsFirstReaching new.part.last others n) where
  begins : from ≡ length front
  begins = from_is old new front run back r from (subst (λ (l : List Opened). IsFirstReaching new.id.base l from) is first)

  ends : n + 1 ≡ length (front ++ run)
  ends = to_is old new front run back r n (subst (λ (l : List Opened). IsFirstReaching new.part.last l n) also last)

  removed : (third : List Opened) → third ≡ old.sealed.items → slice_range third from (n + 1) ≡ run
  removed third too = slice_is old new front run back r third from n too begins ends

pub slice_bounds-remove_files-end : goal.slice_bounds-remove_files-end
slice_bounds-remove_files-end g c =
    let old = c.args.self.now in
    let run = c.requires.run in
    let at_end = ends old c.args.new run.0 run.1 run.2 run.3 c.deref.result.now c.deref-2.result.now c.first_reaching-from.result c.first_reaching-to.result c.deref.ensures.value c.deref-2.ensures.value c.first_reaching-from.ensures c.first_reaching-to.ensures in
    omega (arith, at_end, run_within old c.args.new run.0 run.1 run.2 run.3, ap length c.deref-3.ensures.value)

pub remove_files-requires : goal.remove_files-requires
remove_files-requires g c =
    let old = c.args.self.now in
    let run = c.requires.run in
    let are = removed old c.args.new run.0 run.1 run.2 run.3 c.deref.result.now c.deref-2.result.now c.first_reaching-from.result c.first_reaching-to.result c.deref.ensures.value c.deref-2.ensures.value c.first_reaching-from.ensures c.first_reaching-to.ensures c.deref-3.result.now c.deref-3.ensures.value in
    record {
      listed = λ t. subst (λ (l : List Opened). AreListed (g.D.Disk.view c.args.disk.now) old.name (ids_of l)) (sym are)
          (listed (g.D.Disk.view c.args.disk.now) old (c.requires.fits t) c.args.new (c.requires.open t) run.0 run.1 run.2 run.3);
    }

pub exchange-requires : goal.exchange-requires
exchange-requires g c =
    let old = c.args.self.now in
    let run = c.requires.run in
    let at_from = begins old c.args.new run.0 run.1 run.2 run.3 c.deref.result.now c.deref-2.result.now c.first_reaching-from.result c.first_reaching-to.result c.deref.ensures.value c.deref-2.ensures.value c.first_reaching-from.ensures c.first_reaching-to.ensures in
    let at_end = ends old c.args.new run.0 run.1 run.2 run.3 c.deref.result.now c.deref-2.result.now c.first_reaching-from.result c.first_reaching-to.result c.deref.ensures.value c.deref-2.ensures.value c.first_reaching-from.ensures c.first_reaching-to.ensures in
    record { run = (run.0, run.1, run.2, run.3, sym at_from, sym at_end) }

pub returns-in-Ok : goal.returns-in-Ok
returns-in-Ok g c =
    let v = g.D.Disk.view c.args.disk.now in
    let w = g.D.Disk.view c.remove_files.new.disk in
    let old = c.args.self.now in
    let new = c.args.new in
    let now = c.exchange.new.self in
    let run_is = c.requires.run in
    let sealed_is : (front run back : List Opened) → HasRun old.sealed.items old.tail new front run back → now.sealed.items ≡ front ++ new ∷ back =
    λ front run back r. c.exchange.ensures.sealed front run back r
    (sym (begins old new front run back r c.deref.result.now c.deref-2.result.now c.first_reaching-from.result c.first_reaching-to.result c.deref.ensures.value c.deref-2.ensures.value c.first_reaching-from.ensures c.first_reaching-to.ensures))
    (sym (ends old new front run back r c.deref.result.now c.deref-2.result.now c.first_reaching-from.result c.first_reaching-to.result c.deref.ensures.value c.deref-2.ensures.value c.first_reaching-from.ensures c.first_reaching-to.ensures)) in
    record {
      sealed = sealed_is;
      tail = c.exchange.ensures.tail;
      offsets = c.exchange.ensures.offsets;
      last = (λ i. last_index_of (c.exchange.ensures.tail i) (sealed_is run_is.0 run_is.1 run_is.2 run_is.3 i)) ∙ last_now old new run_is.0 run_is.1 run_is.2 run_is.3;
      greatest = c.exchange.ensures.greatest;
      name = c.exchange.ensures.name;
      told = λ t front run back r.
          let fits = c.requires.fits t in
          let it = c.requires.open t in
          let are = removed old new front run back r c.deref.result.now c.deref-2.result.now c.first_reaching-from.result c.first_reaching-to.result c.deref.ensures.value c.deref-2.ensures.value c.first_reaching-from.ensures c.first_reaching-to.ensures c.deref-3.result.now c.deref-3.ensures.value in
          let sound = g.met.D.Disk.sound c.args.disk.now t in
          let sound_w = g.met.D.Disk.sound c.remove_files.new.disk t in
          let only : LeavesAt v w (OrGone v old.name (ids_of run)) = subst (λ (l : List Opened). LeavesAt v w (OrGone v old.name (ids_of l))) are (c.remove_files.ensures.any_moment t) in
          let others : (q : Place) → ((id : FileId) → Contains (ids_of run) id → q ≢ place old.name id) → w.reading q ≡ v.reading q =
          subst (λ (l : List Opened). (q : Place) → ((id : FileId) → Contains (ids_of l) id → q ≢ place old.name id) → w.reading q ≡ v.reading q) are (c.remove_files.ensures.others t) in
          let gone : (id : FileId) → Contains (ids_of run) id → w.reading (place old.name id) ≡ None =
          subst (λ (l : List Opened). (id : FileId) → Contains (ids_of l) id → w.reading (place old.name id) ≡ None) are (c.in-Ok.ensures.gone t) in
          let sealed = sealed_is front run back r in
          record {
            fits = fits_now v old fits new it front run back r w sound sound_w only others gone now sealed c.exchange.ensures.tail c.exchange.ensures.offsets c.exchange.ensures.greatest c.exchange.ensures.name;
            parts = parts_now v old fits new it front run back r w sound sound_w only others gone now sealed c.exchange.ensures.tail c.exchange.ensures.offsets c.exchange.ensures.greatest c.exchange.ensures.name;
            alone = alone_now v old fits new it front run back r w sound sound_w only others gone now sealed c.exchange.ensures.tail c.exchange.ensures.offsets c.exchange.ensures.greatest c.exchange.ensures.name;
            any_moment = any_moment v old fits new it front run back r w sound sound_w only others;
            held = held_now v old fits new it front run back r w sound sound_w only others gone now sealed c.exchange.ensures.tail c.exchange.ensures.offsets c.exchange.ensures.greatest c.exchange.ensures.name;
            empty = still_some v old fits new it front run back r w sound sound_w only others;
            others = names_removed v w old.name (ids_of run) sound_w others only;
          };
      cause = search rules;
    }

pub returns-in-Err : goal.returns-in-Err
returns-in-Err g c =
    let v = g.D.Disk.view c.args.disk.now in
    let w = g.D.Disk.view c.remove_files.new.disk in
    let old = c.args.self.now in
    let new = c.args.new in
    record {
      sealed = tt;
      tail = refl;
      offsets = refl;
      last = tt;
      greatest = refl;
      name = refl;
      told = λ t front run back r.
          let fits = c.requires.fits t in
          let it = c.requires.open t in
          let are = removed old new front run back r c.deref.result.now c.deref-2.result.now c.first_reaching-from.result c.first_reaching-to.result c.deref.ensures.value c.deref-2.ensures.value c.first_reaching-from.ensures c.first_reaching-to.ensures c.deref-3.result.now c.deref-3.ensures.value in
          let sound = g.met.D.Disk.sound c.args.disk.now t in
          let sound_w = g.met.D.Disk.sound c.remove_files.new.disk t in
          let only : LeavesAt v w (OrGone v old.name (ids_of run)) = subst (λ (l : List Opened). LeavesAt v w (OrGone v old.name (ids_of l))) are (c.remove_files.ensures.any_moment t) in
          let others : (q : Place) → ((id : FileId) → Contains (ids_of run) id → q ≢ place old.name id) → w.reading q ≡ v.reading q =
          subst (λ (l : List Opened). (q : Place) → ((id : FileId) → Contains (ids_of l) id → q ≢ place old.name id) → w.reading q ≡ v.reading q) are (c.remove_files.ensures.others t) in
          record {
            fits = tt;
            parts = tt;
            alone = tt;
            any_moment = any_moment v old fits new it front run back r w sound sound_w only others;
            held = tt;
            empty = still_some v old fits new it front run back r w sound sound_w only others;
            others = names_removed v w old.name (ids_of run) sound_w others only;
          };
      cause = search rules;
    }
