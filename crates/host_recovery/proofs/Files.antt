-- The log that the files of a host hold, where a disk fits what is remembered of them, and an entry more.
use Rattle.std.proofs.Common.{◌≡◌, ℕ, ◌+◌, ◌≤◌, true, Bool, is_none, List, [], ◌∷◌, ◌++◌, length, Option, Some, None, refl, sym, ap, subst, ◌∙◌, arith, length-append, Contains}
use Rattle.std.specs.FinMap.{insert}
use Rattle.host_types.specs.Cells.{Cells}
use Rattle.host_types.specs.declared.entry.Entry.{Entry}
use Rattle.host_types.specs.Decision.{MachineDecision}
use Rattle.disk_model.specs.Image.{Image}
use Rattle.disk_model.specs.View.{View}
use Rattle.segment_files.specs.Parse.{Numbered, Part}
use Rattle.segment_files.specs.Folder.{AreParts, IsChoice, entries_of, folder}
use Rattle.segment_set.specs.declared.parts.Parts.{Parts}
use Rattle.segment_set.specs.declared.tail.Tail.{Tail}
use Rattle.segment_set.specs.Growth.{begun, gained, greatest_after, needs_file}
use Rattle.segment_set.specs.Fits.{Fits, cut_of, floor_of, last_of, parts_in}
use Rattle.segment_set.proofs.Known.{sealed_full}
use Rattle.segment_set.proofs.Tiles.{ended_by, tail_has_room, tiles_by}
use Rattle.log_model.specs.cleaning.Cells.{after, cells, is_held}
use Rattle.log_model.specs.cleaning.Cleaning.{Cleaned, numbered}
use Rattle.log_model.specs.cleaning.Layout.{with_entry}
use Rattle.log_model.specs.hosted.Hosted.{Hosted, hosted_entry, hosted_folded, hosted_quiet, hosted_stored}
use Rattle.log_model.specs.plain.Admission.{Item}
use Rattle.log_model.proofs.cleaning.Appends.{append_keeps}
use Rattle.log_model.proofs.hosted.HostedLogs.{grown, quiet_grows_hosted, whole}
use Rattle.log_model.proofs.hosted.OfMachines.{quiet_within}
use Rattle.released_marks.specs.Marks.{Marks}
use Rattle.host_core.specs.Marking.{AreMarked, HasMarks, TellReleased}
use Rattle.host_core.proofs.Telling.{entry_tells}
use Rattle.host_recovery.specs.Logs.{AreOf, StandsFor, hosted_form}
use Rattle.host_recovery.specs.Standing.{layout_in}
use Rattle.host_recovery.proofs.Lengthening.{AreWhole, begun_cut, begun_ended, begun_entries, begun_floor, begun_tiles, gained_cut, gained_ended, gained_entries, gained_floor, gained_lies, gained_tiles, layout}

-- the parts stand end to end up to the last index, with the last entry
pub parts_whole : (v : View) (parts : Parts) → Fits v parts → AreWhole (parts_in v.reading parts) (last_of parts)
parts_whole v parts fits = record {
  tile = tiles_by v parts fits;
  ended = ended_by v parts fits;
  full = λ needs p has. by parts.tail refl (sym (tail_has_room v parts fits) ∙ needs) p has;
}
  where
    by : (o : Option Tail) → parts.tail ≡ o → is_none parts.tail ≡ true → (p : Part) → Contains (parts_in v.reading parts) p → p.id.base ≤ p.last
    by None none needs p has = sealed_full v parts fits none p has
    by (Some tail) some needs p has = absurd (cc (ap is_none some, needs))

-- ---- an image that has parts which hold what is left of a log

pub stands : (d : MachineDecision) (name : List ℕ) (image : Image) (items : List Item) (ps : List Part) (last : ℕ) → IsChoice (folder name image) ps → AreWhole ps last → last ≡ length items → AreOf (hosted_form d) ps items
    → StandsFor (hosted_form d) name image items
stands d name image items ps last choice whole is of = record {
  parts = ps;
  are = subst (AreParts (folder name image) ps) is (record { choice = choice; tile = whole.tile; ended = whole.ended });
  of = of;
}

module _ (d : MachineDecision) (items : List Item) (item : Item) (entry : Entry) (size greatest : ℕ) (ps : List Part) (least : 2 ≤ size) (whole_ps : AreWhole ps (length items)) (of : AreOf (hosted_form d) ps items) where
  abbrev q : ℕ
  q = hosted_quiet (hosted_folded d items)

  -- a file that has room holds nothing more
  of_begun : AreOf (hosted_form d) (begun size greatest ps) items
  of_begun = subst (λ (x : Numbered × ℕ × ℕ). Cleaned x.0 (hosted_stored d items) (hosted_quiet (hosted_folded d items)) x.1 x.2)
      (λ i. (sym (begun_entries size greatest ps (length items) least whole_ps) i, sym (begun_cut size greatest ps (length items) least whole_ps) i, sym (begun_floor size greatest ps (length items) least whole_ps) i)) of

  pub stands_begun : (name : List ℕ) (image : Image) → IsChoice (folder name image) (begun size greatest ps) → StandsFor (hosted_form d) name image items
  stands_begun name image choice = record {
    parts = begun size greatest ps;
    are = record { choice = choice; tile = begun_tiles size greatest ps (length items) least whole_ps; ended = begun_ended size greatest ps (length items) least whole_ps };
    of = of_begun;
  }

  -- the entry that is stored of the item
  module _ (is : entry ≡ hosted_entry d (hosted_folded d items) item) where
    later : q ≤ hosted_quiet (hosted_folded d (items ++ item ∷ []))
    later = quiet_grows_hosted d items (item ∷ [])

    low : cut_of ps ≤ length (hosted_stored d items)
    low =
        let w = whole d items in
        let quiet = of.is_quiet in
        omega (arith, quiet, quiet_within (hosted_folded d items), w.last, w.length)

    more : Cleaned (entries_of ps ++ (length (hosted_stored d items) + 1, entry) ∷ []) (hosted_stored d items ++ entry ∷ []) (hosted_quiet (hosted_folded d (items ++ item ∷ []))) (cut_of ps) (floor_of ps)
    more = append_keeps (entries_of ps) (hosted_stored d items) q (hosted_quiet (hosted_folded d (items ++ item ∷ []))) (cut_of ps) (floor_of ps) entry of low
        (let quiet = of.is_quiet in omega (arith, quiet, later))

    entries_more : entries_of ps ++ (length (hosted_stored d items) + 1, entry) ∷ [] ≡ entries_of (gained size greatest ps (entry ∷ []))
    entries_more = ap (λ (n : ℕ). entries_of ps ++ (n + 1, entry) ∷ []) (whole d items).length ∙ sym (gained_entries size greatest ps (length items) least whole_ps entry)

    stored_more : hosted_stored d items ++ entry ∷ [] ≡ hosted_stored d (items ++ item ∷ [])
    stored_more = ap (λ (e : Entry). hosted_stored d items ++ e ∷ []) is ∙ sym (grown d items item).stored

    -- with the entry they hold what is left of the log with the item
    pub of_gained : AreOf (hosted_form d) (gained size greatest ps (entry ∷ [])) (items ++ item ∷ [])
    of_gained =
        subst (λ (x : Numbered × List Entry × ℕ × ℕ). Cleaned x.0 x.1 (hosted_quiet (hosted_folded d (items ++ item ∷ []))) x.2 x.3)
        (λ i. (entries_more i, stored_more i, sym (gained_cut size greatest ps (length items) least whole_ps entry) i, sym (gained_floor size greatest ps (length items) least whole_ps entry) i)) more

    -- and the marks tell what the log with the item has released, where they told it of the log and the entry was marked
    pub marks_gained : (before now : Hosted) (marks marks' : Marks) → before ≡ hosted_folded d items → now.cells ≡ after before.cells (before.last + 1) entry
        → TellReleased (entries_of ps) (hosted_stored d items) (cut_of ps) marks → HasMarks before.last before.cells marks
        → AreMarked (before.last + 1) before.cells now.cells (insert marks (before.last + 1) None) marks'
        → TellReleased (entries_of (gained size greatest ps (entry ∷ []))) (hosted_stored d (items ++ item ∷ [])) (cut_of (gained size greatest ps (entry ∷ []))) marks'
    marks_gained before now marks marks' at next tell has step =
        let w = whole d items in
        let held : before.cells ≡ cells (numbered (hosted_stored d items)) = ap (λ (s : Hosted). s.cells) at ∙ w.cells in
        let index : before.last + 1 ≡ length (hosted_stored d items) + 1 = ap (λ (s : Hosted). s.last + 1) at ∙ ap (λ (n : ℕ). n + 1) (w.last ∙ sym w.length) in
        let told : TellReleased (entries_of ps ++ (length (hosted_stored d items) + 1, entry) ∷ []) (hosted_stored d items ++ entry ∷ []) (cut_of ps) marks' =
        entry_tells (hosted_stored d items) entry (entries_of ps) q (cut_of ps) (floor_of ps) marks marks' of low tell
        (λ j h. has.held j (ap (λ (c : Cells). is_held c j) held ∙ h))
        (subst (λ (x : ℕ × Cells × Cells). AreMarked x.0 x.1 x.2 (insert marks x.0 None) marks') (λ i. (index i, held i, (next ∙ (λ j. after (held j) (index j) entry)) i)) step) in
        subst (λ (x : Numbered × List Entry × ℕ). TellReleased x.0 x.1 x.2 marks') (λ i. (entries_more i, stored_more i, sym (gained_cut size greatest ps (length items) least whole_ps entry) i)) told

    pub stands_gained : (name : List ℕ) (image : Image) → IsChoice (folder name image) (gained size greatest ps (entry ∷ [])) → StandsFor (hosted_form d) name image (items ++ item ∷ [])
    stands_gained name image choice =
        let long : length items + 1 ≡ length (items ++ item ∷ []) = omega (arith, length-append items (item ∷ [])) in
        record {
          parts = gained size greatest ps (entry ∷ []);
          are = subst (AreParts (folder name image) (gained size greatest ps (entry ∷ []))) long
              (record { choice = choice; tile = gained_tiles size greatest ps (length items) least whole_ps entry; ended = gained_ended size greatest ps (length items) least whole_ps entry });
          of = of_gained;
        }

-- how the files lie once an entry was appended
pub lies_more : (v w : View) (old new : Parts) (size : ℕ) (entry : Entry) → Fits v old → parts_in w.reading new ≡ gained size old.greatest (parts_in v.reading old) (entry ∷ []) → new.greatest ≡ greatest_after (is_none old.tail) old.greatest
    → layout_in w new ≡ with_entry size (layout_in v old)
lies_more v w old new size entry fits parts greatest =
    let needs : needs_file (parts_in v.reading old) ≡ is_none old.tail = tail_has_room v old fits in
    (λ i. layout (parts i) ((greatest ∙ ap (λ (t : Bool). greatest_after t old.greatest) (sym needs)) i))
    ∙ gained_lies size old.greatest (parts_in v.reading old) entry
