-- A frame is appended to the tail.
use Rattle.std.proofs.Common.{◌≡◌, ℕ, ◌+◌, ◌-◌, false, List, [], ◌∷◌, ◌++◌, length, sym, ap, subst, ◌∙◌, arith}
use Rattle.std.proofs.lemmas.List.FromFn.{length-enumerate_from}
use Rattle.host_types.specs.declared.entry.Entry.{Entry}
use Rattle.disk_model.specs.Image.{Place, place}
use Rattle.disk_model.specs.View.{View, Reads, IsSound, LeavesAt, LeavesOnly}
use Rattle.segment_files.specs.Files.{IsAtGate, OrFrame, Becomes, appended, then_shut}
use Rattle.segment_files.specs.Parse.{Part, Whole}
use Rattle.segment_files.specs.Folder.{folder, EachHas}
use Rattle.segment_set.specs.declared.tail.Tail.{Tail}
use Rattle.segment_set.specs.Advance.{noted}
use Rattle.segment_set.specs.Growth.{AreApart, HasOrGrows, IsFrameFor, frame_size, grown, numbered, with_entries}
use Rattle.segment_files.specs.Contents.{AreAt, Offset_list, places_from}
use Rattle.segment_files.proofs.Extending.{stands_more}
use Rattle.disk_model.specs.declared.file_id.FileId.{FileId}
use Rattle.segment_set.specs.Fits.{ArePlaced, TailFits}
use Rattle.segment_set.proofs.Growing.{Appendable, appending, reads_after, held_after, gate_after}
use Rattle.segment_set.proofs.Frames.{appendable, are_next, behind}

module _ (v e : View) (name : List ℕ) (tail : Tail) (part : Part) (bytes : List ℕ) (entries : List Entry)
    (sound : IsSound v) (fits : (offsets : Offset_list) × TailFits v name tail offsets) (whole : folder name v.reading tail.id ≡ Whole part) (f : IsFrameFor tail.last bytes entries) where
  a : Appendable v name part tail.gate (behind tail.last entries) (numbered part.last entries) × (part.id ≡ tail.id) × (part.last ≡ tail.last) × (part.size ≡ tail.size)
  a = appendable v name tail part bytes entries fits whole f

  at : place name tail.id ≡ place name part.id
  at = ap (place name) (sym (appendable v name tail part bytes entries fits whole f).1)

  -- its frame's size
  long_is : 1 + length (behind tail.last entries) ≡ frame_size (numbered part.last entries)
  long_is =
      let long : 1 + length (behind tail.last entries) ≡ frame_size (numbered tail.last entries) = omega arith in
      long ∙ sym (ap (λ (k : ℕ). frame_size (numbered k entries)) (appendable v name tail part bytes entries fits whole f).2)

  apart_from : (front : List Part) → AreApart front tail.id → AreApart front part.id
  apart_from front apart = subst (AreApart front) (sym (appendable v name tail part bytes entries fits whole f).1) apart

  pub push_left : (front : List Part) → AreApart front tail.id → EachHas v name (front ++ part ∷ []) → LeavesAt v e (OrFrame v (place name tail.id) tail.gate (then_shut (behind tail.last entries)))
      → LeavesOnly v e (HasOrGrows name front part (numbered part.last entries) (frame_size (numbered part.last entries)))
  push_left front apart each left = subst (λ (k : ℕ). LeavesOnly v e (HasOrGrows name front part (numbered part.last entries) k)) long_is
      (appending v name part tail.gate (behind tail.last entries) (numbered part.last entries) sound (appendable v name tail part bytes entries fits whole f).0 e front (apart_from front apart) each
      (subst (λ (p : Place). LeavesAt v e (OrFrame v p tail.gate (then_shut (behind tail.last entries)))) at left))

  -- what the call leaves of the bytes that were read
  abbrev Done : Type 0
  Done = (b : List ℕ) → Reads v (place name tail.id) b → Becomes v e (place name tail.id) (appended b tail.gate (then_shut (behind tail.last entries)))

  abbrev g : Appendable v name part tail.gate (behind tail.last entries) (numbered part.last entries)
  g = (appendable v name tail part bytes entries fits whole f).0

  becomes : Done → Becomes v e (place name part.id) (appended g.at_gate.bytes tail.gate (then_shut (behind tail.last entries)))
  becomes done = subst (λ (p : Place). Becomes v e p (appended g.at_gate.bytes tail.gate (then_shut (behind tail.last entries)))) at
      (done g.at_gate.bytes (subst (λ (p : Place). Reads v p g.at_gate.bytes) (sym at) g.at_gate.reads))

  pub push_held : (front : List Part) → AreApart front tail.id → EachHas v name (front ++ part ∷ []) → Done → EachHas e name (front ++ with_entries part entries ∷ [])
  push_held front apart each done = subst (λ (k : ℕ). EachHas e name (front ++ grown part (numbered part.last entries) k ∷ [])) long_is
      (held_after v name part tail.gate (behind tail.last entries) (numbered part.last entries) sound g e front (apart_from front apart) each (becomes done))

  pub push_reads : Done → folder name e.reading tail.id ≡ Whole (with_entries part entries)
  push_reads done =
      ap (folder name e.reading) (sym (appendable v name tail part bytes entries fits whole f).1)
      ∙ reads_after v name part tail.gate (behind tail.last entries) (numbered part.last entries) sound g e (becomes done)
      ∙ ap (λ (k : ℕ). Whole (grown part (numbered part.last entries) k)) long_is

  pub push_gate : Done → IsAtGate e (place name tail.id) (tail.gate + frame_size (numbered tail.last entries))
  push_gate done =
      let long : 1 + length (behind tail.last entries) ≡ frame_size (numbered tail.last entries) = omega arith in
      subst (λ (p : Place). IsAtGate e p (tail.gate + frame_size (numbered tail.last entries))) (sym at)
      (subst (λ (k : ℕ). IsAtGate e (place name part.id) (tail.gate + k)) long (gate_after v name part tail.gate (behind tail.last entries) (numbered part.last entries) sound g e (becomes done)))

  pub push_last : (with_entries part entries).last ≡ tail.last + length entries
  push_last = omega (arith, length-enumerate_from (part.last + 1) entries, (appendable v name tail part bytes entries fits whole f).2)

  pub push_size : (with_entries part entries).size ≡ tail.size
  push_size = (appendable v name tail part bytes entries fits whole f).3

  pub push_plain : (with_entries part entries).rewritten ≡ false
  push_plain = g.plain

  pub push_end : (with_entries part entries).gate ≡ tail.gate + frame_size (numbered tail.last entries)
  push_end = ap (λ (k : ℕ). k + frame_size (numbered part.last entries)) g.gate_is ∙ ap (λ (k : ℕ). tail.gate + frame_size (numbered k entries)) (appendable v name tail part bytes entries fits whole f).2

  -- and each entry stands where the offsets say
  pub push_placed : Done → (offsets : Offset_list) → ArePlaced v name tail.id part offsets → ArePlaced e name tail.id (with_entries part entries) (noted offsets tail (places_from 5 (numbered tail.last entries)))
  push_placed done offsets placed c reads =
      let h = appendable v name tail part bytes entries fits whole f in
      let b = g.at_gate.bytes in
      let old : Reads v (place name tail.id) b = subst (λ (p : Place). Reads v p b) (sym at) g.at_gate.reads in
      let became = done b old in
      let same : appended b tail.gate (then_shut (behind tail.last entries)) ≡ c = cc (became.reads, reads) in
      let gate : part.gate ≡ tail.gate = g.gate_is in
      let last : tail.last ≡ part.last = sym h.2 in
      let base : part.id.base ≡ tail.id.base = ap (λ (i : FileId). i.base) h.1 in
      let before = subst (λ (k : ℕ). AreAt part.id.base b 64 part.entries offsets k) gate (placed b old) in
      let within = g.at_gate.within in
      let now : Offset_list = noted offsets tail (places_from 5 (numbered tail.last entries)) in
      let more = stands_more part.id.base b tail.gate part.entries offsets tail.last (tail.last + 1 - tail.id.base) (numbered tail.last entries) (omega (arith, within)) (are_next tail.last bytes entries f) (omega (arith, base, tail.from)) before in
      subst (λ (k : ℕ). AreAt part.id.base c 64 (part.entries ++ numbered k entries) now (part.gate + frame_size (numbered k entries))) last
      (subst (λ (k : ℕ). AreAt part.id.base c 64 (part.entries ++ numbered tail.last entries) now (k + frame_size (numbered tail.last entries))) (sym gate)
      (subst (λ (l : List ℕ). AreAt part.id.base l 64 (part.entries ++ numbered tail.last entries) now (tail.gate + frame_size (numbered tail.last entries))) same more))
