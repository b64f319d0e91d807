-- Reading a file changes nothing of what is known of a disk.
use Rattle.std.proofs.Common.{◌≡◌, inl, inr, ℕ, ◌≤◌, List, ◌++◌, Option, Some, None, Result, sym, ap, subst, ◌∙◌, Contains}
use Rattle.std.proofs.lemmas.Result.{on_ok_weaker}
use Rattle.host_types.specs.declared.entry.Entry.{Entry}
use Rattle.disk_model.specs.declared.disk.DiskFault.{DiskFault}
use Rattle.disk_model.specs.declared.file_id.FileId.{FileId}
use Rattle.disk_model.specs.Image.{Image, Place, place}
use Rattle.disk_model.specs.View.{View, MayHold, IsListed, IsSound, LeavesAt, LeavesOnly}
use Rattle.disk_model.specs.Calls.{Stays}
use Rattle.disk_model.proofs.Moments.{goes_further, has_now, weaker}
use Rattle.disk_model.proofs.Places.{stays_at}
use Rattle.segment_files.specs.Files.{IsAtGate}
use Rattle.segment_files.specs.Parse.{Part}
use Rattle.segment_files.specs.Folder.{EachHas, folder, IsChoice}
use Rattle.segment_files.specs.Contents.{Offset_list}
use Rattle.segment_set.specs.declared.opened.Opened.{Opened}
use Rattle.segment_set.specs.declared.parts.Parts.{Parts}
use Rattle.segment_set.specs.declared.tail.Tail.{Tail}
use Rattle.segment_set.specs.Appends.{AppendsOn}
use Rattle.segment_set.specs.Fits.{Fits, HasFile, IsAlone, IsAsBefore, IsEmptyWhereNone, IsHeld, IsOpenIn, IsTailOf, KeepsNames, TailIs, last_of, parts_in, parts_of, tail_parts}
use Rattle.segment_set.specs.Growth.{HasOrGains, IsFrameFor, gained}
use Rattle.segment_set.specs.Joined.{last_index_of}

gate_stays : (v w : View) (p : Place) (gate : ℕ) → Stays v w → IsAtGate v p gate → IsAtGate w p gate
gate_stays v w p gate stays at = record {
  bytes = at.bytes;
  reads = ap (λ (r : Image). r p) stays.reading ∙ at.reads;
  within = at.within;
  settled = λ o may. at.settled o (stays_at v w stays p o may) ∙ sym (ap (λ (r : Image). r p) stays.reading);
  shut = at.shut;
}

was_listed : (v w : View) (name : List ℕ) (id : FileId) → Stays v w → IsListed w (place name id) → IsListed v (place name id)
was_listed v w name id stays listed = (listed.0, sym (ap (λ (r : Image). r (place name id)) stays.reading) ∙ listed.1)

open_stays : (v w : View) (name : List ℕ) (one : Opened) → Stays v w → IsOpenIn name v.reading one → IsOpenIn name w.reading one
open_stays v w name one stays it = subst (λ (r : Image). IsOpenIn name r one) (sym stays.reading) it

tail_stays : (v w : View) (name : List ℕ) (tail : Option Tail) (offsets : Offset_list) → Stays v w → TailIs v name tail offsets → TailIs w name tail offsets
tail_stays v w name None offsets stays t = t
tail_stays v w name (Some tail) offsets stays t = record {
  part = t.part;
  at = record {
    whole = ap (λ (r : Image). folder name r tail.id) stays.reading ∙ t.at.whole;
    plain = t.at.plain;
    last_is = t.at.last_is;
    gate_is = t.at.gate_is;
    size_is = t.at.size_is;
    at_gate = gate_stays v w (place name tail.id) tail.gate stays t.at.at_gate;
  };
  placed = λ bytes reads. t.placed bytes (sym (ap (λ (r : Image). r (place name tail.id)) stays.reading) ∙ reads);
}

pub parts_stay : (v w : View) (parts : Parts) → Stays v w → Fits v parts → Fits w parts
parts_stay v w parts stays fits = record {
  sealed = λ one has. open_stays v w parts.name one stays (fits.sealed one has);
  tail = tail_stays v w parts.name parts.tail parts.offsets.items stays fits.tail;
  generations = λ id listed. fits.generations id (was_listed v w parts.name id stays listed);
}

pub alone_stays : (v w : View) (parts : Parts) → Stays v w → IsAlone v parts → IsAlone w parts
alone_stays v w parts stays alone id listed = alone id (was_listed v w parts.name id stays listed)

pub held_stays : (v w : View) (parts : Parts) → Stays v w → IsHeld v parts → IsHeld w parts
held_stays v w parts stays held c may =
    subst (λ (r : Image). IsChoice (folder parts.name c) (parts_in r parts)) (sym stays.reading)
    (held c (λ q. stays_at v w stays q (c q) (may q)))

-- ---- ROOM is no matter of the disk

module _ (old new : Parts) (same : IsAsBefore old new) where
  pub same_parts : (image : Image) → parts_in image new ≡ parts_in image old
  same_parts image = λ i. parts_of (folder (same.name i) image) (same.sealed i) ++ tail_parts (folder (same.name i) image) (same.tail i)

  pub same_last : last_of new ≡ last_of old
  same_last = λ i. last_index_of (same.tail i) (same.sealed i)

  pub same_fits : (v : View) → Fits v old → Fits v new
  same_fits v fits = record {
    sealed = λ one has. subst (λ (n : List ℕ). IsOpenIn n v.reading one) (sym same.name) (fits.sealed one (subst (λ (l : List Opened). Contains l one) same.sealed has));
    tail = subst (λ (x : List ℕ × Option Tail × Offset_list). TailIs v x.0 x.1 x.2) (λ i. (sym same.name i, sym same.tail i, sym same.offsets i)) fits.tail;
    generations = λ id listed. subst (λ (k : ℕ). id.generation ≤ k) (sym same.greatest) (fits.generations id (subst (λ (n : List ℕ). IsListed v (place n id)) same.name listed));
  }

  pub same_held : (v : View) → IsHeld v old → IsHeld v new
  same_held v held = subst (λ (x : List ℕ × List Part). EachHas v x.0 x.1) (λ i. (sym same.name i, sym (same_parts v.reading) i)) held

  has_file : (id : FileId) → HasFile old id → HasFile new id
  has_file id (inl f) = inl (f.0, subst (λ (l : List Opened). Contains l f.0) (sym same.sealed) f.1, f.2)
  has_file id (inr t) = inr (subst (λ (o : Option Tail). IsTailOf o id) (sym same.tail) t)

  pub same_alone : (v : View) → IsAlone v old → IsAlone v new
  same_alone v alone id listed = has_file id (alone id (subst (λ (n : List ℕ). IsListed v (place n id)) same.name listed))

  -- an append after room was made
  pub appends_from : (v w : View) (after : Parts) (frame : List ℕ) (size : ℕ) {T : Type 0} (result : Result T DiskFault) → AppendsOn v w new after frame size result → AppendsOn v w old after frame size result
  appends_from v w after frame size result a = record {
    fits = a.fits;
    parts = on_ok_weaker result (λ parts entries f. parts entries (frame_at entries f) ∙ (λ i. gained size (same.greatest i) (same_parts v.reading i) entries)) a.parts;
    alone = on_ok_weaker result (λ then alone. then (same_alone v alone)) a.alone;
    held = on_ok_weaker result (λ then held. then (same_held v held)) a.held;
    any_moment = λ held entries f.
        subst (λ (x : List ℕ × ℕ × List Part). LeavesOnly v w (HasOrGains x.0 size x.1 x.2 entries)) (λ i. (same.name i, same.greatest i, same_parts v.reading i))
        (a.any_moment (same_held v held) entries (frame_at entries f));
    empty = λ held. subst (IsEmptyWhereNone w) same.name (a.empty (same_held v held));
    others = subst (KeepsNames v w) same.name a.others;
  }
    where
      frame_at : (entries : List Entry) → IsFrameFor (last_of old) frame entries → IsFrameFor (last_of new) frame entries
      frame_at entries f = subst (λ (k : ℕ). IsFrameFor k frame entries) (sym same_last) f

-- what was left on the way, and then while a file was read
pub left_then : (v0 v w : View) (P : Image → Type 0) → IsSound v → LeavesOnly v0 v P → LeavesAt v w (MayHold v) → LeavesOnly v0 w P
left_then v0 v w P sound so_far more =
    goes_further v0 v w P so_far (weaker v w (λ c. (q : Place) → MayHold v q (c q)) P more (λ c may. has_now v0 v P sound so_far c may))
