-- What is read of one file is said of the whole log.
use Rattle.std.proofs.Common.{◌≡◌, ◌↔◌, ℕ, List, [], Option, Some, None, Result, Ok, Err, IfOk, IsSome, Contains, sym, subst, ap, ◌∙◌}
use Rattle.host_types.specs.declared.entry.Entry.{Entry}
use Rattle.disk_model.specs.declared.file_id.FileId.{FileId}
use Rattle.disk_model.specs.Image.{place}
use Rattle.disk_model.specs.View.{View, Reads}
use Rattle.segment_files.specs.Contents.{Offset_list, StandAt}
use Rattle.segment_files.specs.Folder.{entries_of, folder}
use Rattle.segment_files.specs.Parse.{Part}
use Rattle.std.proofs.lemmas.List.Elements.{Contains-append_left, Contains-append_right}
use Rattle.segment_set.specs.declared.opened.Opened.{Opened}
use Rattle.segment_set.specs.declared.parts.Parts.{Parts}
use Rattle.segment_set.specs.declared.tail.Tail.{Tail}
use Rattle.segment_set.specs.Fits.{Fits, IsEntryAt, TailFits, TailIs, part_list, parts_in, parts_of, present, tail_parts}
use Rattle.segment_set.proofs.Entries.{has_index}
use Rattle.segment_set.proofs.Images.{here, own_id}
use Rattle.segment_set.proofs.Fitting.{bytes_at, entry_of_part, part_among, present_are}

-- an entry is read exactly where one is present, in one list of indexes or in another
pub some_as : (E : Type 0) (a b : List ℕ) (index : ℕ) → (Contains b index → Contains a index) → (Contains a index → Contains b index)
    → (r : Result (Option Entry) E) → IfOk r (λ o. IsSome o ↔ Contains a index) → IfOk r (λ o. IsSome o ↔ Contains b index)
some_as E a b index to from (Ok o) same = (λ s. from (same.0 s), λ has. same.1 (to has))
some_as E a b index to from (Err e) same = same

-- a file in which an entry was looked for: its part is one of the log, and its entries stand where the offsets say
pub record IsFileOf (v : View) (parts : Parts) (id : FileId) (gate : ℕ) (os : Offset_list) : Type 0 where
  pub part : Part
  pub among : Contains (parts_in v.reading parts) part
  pub based : part.id.base ≡ id.base
  pub gate_is : part.gate ≡ gate
  pub bytes : List ℕ
  pub reads : Reads v (place parts.name id) bytes
  pub placed : StandAt bytes part os

module _ (v : View) (parts : Parts) (fits : Fits v parts) where
  pub file_of : (one : Opened) → Contains parts.sealed.items one → IsFileOf v parts one.id one.part.gate one.part.offsets.items
  file_of one has =
      let o = fits.sealed one has in
      let b = bytes_at parts.name v.reading one.id o.0 o.1 in
      record {
        part = o.0;
        among = Contains-append_left (parts_of (folder parts.name v.reading) parts.sealed.items) (tail_parts (folder parts.name v.reading) parts.tail) o.0 (part_among parts.name v.reading parts.sealed.items one o.0 has o.1);
        based = ap (λ (i : FileId). i.base) (own_id parts.name v.reading one.id o.0 o.1);
        gate_is = sym o.2.gate;
        bytes = b.0;
        reads = b.1;
        placed = o.3 b.0 b.1;
      }

  pub file_of_tail : (tail : Tail) → parts.tail ≡ Some tail → IsFileOf v parts tail.id tail.gate parts.offsets.items
  file_of_tail tail is =
      let t : TailFits v parts.name tail parts.offsets.items = subst (λ (o : Option Tail). TailIs v parts.name o parts.offsets.items) is fits.tail in
      let b = bytes_at parts.name v.reading tail.id t.part t.at.whole in
      let list = ap (tail_parts (folder parts.name v.reading)) is ∙ ap part_list t.at.whole in
      record {
        part = t.part;
        among = Contains-append_right (parts_of (folder parts.name v.reading) parts.sealed.items) (tail_parts (folder parts.name v.reading) parts.tail) t.part (subst (λ (l : List Part). Contains l t.part) (sym list) (here t.part []));
        based = ap (λ (i : FileId). i.base) (own_id parts.name v.reading tail.id t.part t.at.whole);
        gate_is = t.at.gate_is;
        bytes = b.0;
        reads = b.1;
        placed = t.placed b.0 b.1;
      }

  -- where no index is present, no entry is
  pub no_entry : (index : ℕ) → (Contains (present parts) index → ⊥) → IsEntryAt (entries_of (parts_in v.reading parts)) index None
  no_entry index none entry has =
      none (subst (λ (l : List ℕ). Contains l index) (present_are v parts fits) (has_index (entries_of (parts_in v.reading parts)) index entry has))

-- the entry of a file is that of the log, on a disk that tells
pub entry_as : (E : Type 0) (v : View) (parts : Parts) (T : Type 0) → (T → Fits v parts) → (id : FileId) (gate : ℕ) (os : Offset_list) → (T → IsFileOf v parts id gate os) → (index : ℕ)
    → (r : Result (Option Entry) E) → IfOk r (λ o. IsSome o ↔ Contains (present parts) index)
    → IfOk r (λ o. T → (bytes : List ℕ) (part : Part) → Reads v (place parts.name id) bytes → StandAt bytes part os → part.id.base ≡ id.base → part.gate ≡ gate → IsEntryAt part.entries index o)
    → IfOk r (λ o. T → IsEntryAt (entries_of (parts_in v.reading parts)) index o)
entry_as E v parts T fits id gate os file index (Ok None) same at = λ t. no_entry v parts (fits t) index (λ has. absurd (cc (same.1 has)))
entry_as E v parts T fits id gate os file index (Ok (Some entry)) same at = λ t.
    let f = file t in
    entry_of_part (parts_in v.reading parts) f.part (index, entry) f.among (at t f.bytes f.part f.reads f.placed f.based f.gate_is)
entry_as E v parts T fits id gate os file index (Err e) same at = at
