-- An append over the images that a crash may leave.
use Rattle.std.proofs.Common.{◌≡◌, ◌≢◌, inl, inr, ⊎_elim, ℕ, ◌+◌, ◌<◌, ◌≤◌, false, List, [], ◌∷◌, ◌++◌, length, take, drop, get_or, Some, refl, sym, ap, subst, ◌∙◌, arith, append_assoc, length-append, length-take}
use Rattle.std.proofs.lemmas.List.{get_or_at}
use Rattle.disk_model.specs.Image.{Place, Image, place}
use Rattle.disk_model.specs.View.{View, MayHold, MayLeave, Reads, IsSound, LeavesAt, LeavesOnly}
use Rattle.disk_model.proofs.Moments.{weaker}
use Rattle.segment_files.specs.Files.{IsAtGate, OrFrame, IsWholeOrAbsent, Becomes, appended, then_shut}
use Rattle.segment_files.specs.Parse.{Numbered, Part, Whole, Framed, frame, is_next, frame_room, parse}
use Rattle.segment_files.specs.Folder.{found, folder, IsChoice, EachHas}
use Rattle.segment_set.specs.Growth.{AreApart, grown, HasOrGrows}
use Rattle.segment_set.proofs.Images.{as_read, as_read_may, changed, differ, kept_at, own_id}
use Rattle.segment_set.proofs.Appended.{outcome, outcome_whole}

-- what is to be appended: a frame with these entries, behind the gate of the tail
pub record Appendable (v : View) (name : List ℕ) (tail : Part) (gate : ℕ) (fb : List ℕ) (new : Numbered) : Type 0 where
  pub gate_is : tail.gate ≡ gate
  pub is_frame : frame is_next frame_room tail.last fb ≡ Framed new (length fb)
  pub at_gate : IsAtGate v (place name tail.id) gate
  pub whole : folder name v.reading tail.id ≡ Whole tail
  pub plain : tail.rewritten ≡ false

pub then_shut_long : (fb : List ℕ) → length (then_shut fb) ≡ 1 + length fb
then_shut_long fb = omega (arith, length-append fb (0 ∷ []))

module _ (v : View) (name : List ℕ) (tail : Part) (gate : ℕ) (fb : List ℕ) (new : Numbered) (sound : IsSound v) (a : Appendable v name tail gate fb new) where
  P : Place
  P = place name tail.id

  abbrev more : Part
  more = grown tail new (1 + length fb)

  bytes_whole : (b : List ℕ) → Reads v (place name tail.id) b → parse tail.id b ≡ Whole tail
  bytes_whole b reads = sym (ap (found tail.id) reads) ∙ a.whole

  -- an image of before but for the file
  module _ (front : List Part) (apart : AreApart front tail.id) (each : EachHas v name (front ++ tail ∷ [])) (c : Image) (d : List ℕ) (others : (q : Place) → q ≢ place name tail.id → MayHold v q (c q)) (is : c (place name tail.id) ≡ Some d) where
    abbrev was : Image
    was = as_read v (place name tail.id) c

    choice : IsChoice (folder name (as_read v (place name tail.id) c)) (front ++ tail ∷ [])
    choice = each (as_read v (place name tail.id) c) (as_read_may v (place name tail.id) c sound others)

    -- the file is this part now
    becomes_part : (now : Part) → parse tail.id d ≡ Whole now → now.id ≡ tail.id → tail.last ≤ now.last → IsChoice (folder name c) (front ++ now ∷ [])
    becomes_part now whole same longer =
        changed (folder name (as_read v (place name tail.id) c)) (folder name c) tail.id (differ v name tail.id c) front tail now (own_id name (as_read v (place name tail.id) c))
        (ap (found tail.id) is ∙ whole) refl same longer apart choice

    same_part : parse tail.id d ≡ Whole tail → IsChoice (folder name c) (front ++ tail ∷ [])
    same_part absent = becomes_part tail absent refl (omega arith)

    more_entries : parse tail.id d ≡ Whole (grown tail new (1 + length fb)) → IsChoice (folder name c) (front ++ grown tail new (1 + length fb) ∷ [])
    more_entries present = becomes_part (grown tail new (1 + length fb)) present refl (omega arith)

    with_frame : (b : List ℕ) → Reads v (place name tail.id) b → gate < length b → IsWholeOrAbsent b gate (then_shut fb) d → HasOrGrows name front tail new (1 + length fb) c
    with_frame b reads lt alt = ⊎_elim (λ absent. inl (same_part absent)) (λ present. inr (more_entries present))
        (outcome tail.id b tail gate fb new d (bytes_whole b reads) a.plain a.gate_is a.is_frame lt alt)

  same_place_left : (c : Image) → MayHold v (place name tail.id) (c (place name tail.id)) → ((q : Place) → OrFrame v (place name tail.id) gate (then_shut fb) q (c q)) → MayLeave v c
  same_place_left c held left q = ⊎_elim (λ was. was) (λ torn. subst (λ (r : Place). MayHold v r (c r)) (sym torn.2) held) (left q)

  -- at any moment
  pub during : (front : List Part) → AreApart front tail.id → EachHas v name (front ++ tail ∷ []) → (c : Image) → ((q : Place) → OrFrame v (place name tail.id) gate (then_shut fb) q (c q)) → HasOrGrows name front tail new (1 + length fb) c
  during front apart each c left = ⊎_elim
      (λ held. inl (each c (same_place_left c held left)))
      (λ torn. with_frame front apart each c torn.1
      (λ q ne. ⊎_elim (λ was. was) (λ here. absurd (ne here.2)) (left q))
      torn.4 torn.0 torn.3
      (let is : torn.0 ≡ a.at_gate.bytes = cc (torn.3, a.at_gate.reads) in subst (λ (l : List ℕ). gate < length l) (sym is) a.at_gate.within)
      torn.5)
      (left (place name tail.id))

  pub appending : (e : View) (front : List Part) → AreApart front tail.id → EachHas v name (front ++ tail ∷ []) → LeavesAt v e (OrFrame v (place name tail.id) gate (then_shut fb)) → LeavesOnly v e (HasOrGrows name front tail new (1 + length fb))
  appending e front apart each left = weaker v e (λ c. (q : Place) → OrFrame v (place name tail.id) gate (then_shut fb) q (c q)) (HasOrGrows name front tail new (1 + length fb)) left (during front apart each)

  -- in the end
  whole_after : parse tail.id (appended a.at_gate.bytes gate (then_shut fb)) ≡ Whole (grown tail new (1 + length fb))
  whole_after = outcome_whole tail.id a.at_gate.bytes tail gate fb new (bytes_whole a.at_gate.bytes a.at_gate.reads) a.plain a.gate_is a.is_frame

  pub reads_after : (e : View) → Becomes v e (place name tail.id) (appended a.at_gate.bytes gate (then_shut fb)) → folder name e.reading tail.id ≡ Whole (grown tail new (1 + length fb))
  reads_after e becomes = ap (found tail.id) becomes.reads ∙ whole_after

  pub held_after : (e : View) (front : List Part) → AreApart front tail.id → EachHas v name (front ++ tail ∷ []) → Becomes v e (place name tail.id) (appended a.at_gate.bytes gate (then_shut fb)) → EachHas e name (front ++ grown tail new (1 + length fb) ∷ [])
  held_after e front apart each becomes c may = more_entries front apart each c (appended a.at_gate.bytes gate (then_shut fb)) (λ q ne. kept_at v e (place name tail.id) becomes.others q (c q) ne (may q))
      (becomes.settled (c (place name tail.id)) (may (place name tail.id)) ∙ becomes.reads) whole_after

  -- the gate at the end is shut
  pub gate_after : (e : View) → Becomes v e (place name tail.id) (appended a.at_gate.bytes gate (then_shut fb)) → IsAtGate e (place name tail.id) (gate + (1 + length fb))
  gate_after e becomes =
      let b = a.at_gate.bytes in
      let D = drop (gate + length (1 ∷ then_shut fb)) b in
      let front_long : length (take gate b ++ (1 ∷ fb)) ≡ gate + (1 + length fb) = omega (arith, length-append (take gate b) (1 ∷ fb), length-take gate b, a.at_gate.within) in
      let spread : appended b gate (then_shut fb) ≡ (take gate b ++ (1 ∷ fb)) ++ (0 ∷ D) =
      append_assoc (take gate b) (1 ∷ then_shut fb) D ∙ ap (λ (l : List ℕ). take gate b ++ (1 ∷ l)) (append_assoc fb (0 ∷ []) D) ∙ sym (append_assoc (take gate b) (1 ∷ fb) (0 ∷ D)) in
      record {
        bytes = appended b gate (then_shut fb);
        reads = becomes.reads;
        within = omega (arith, ap length spread, length-append (take gate b ++ (1 ∷ fb)) (0 ∷ D), front_long);
        settled = becomes.settled;
        shut = λ one. let zero_is : get_or (appended b gate (then_shut fb)) (gate + (1 + length fb)) 0 ≡ 0 =
            ap (λ (l : List ℕ). get_or l (gate + (1 + length fb)) 0) spread ∙ get_or_at (take gate b ++ (1 ∷ fb)) 0 D 0 (gate + (1 + length fb)) front_long in absurd (omega (arith, one, zero_is));
      }
