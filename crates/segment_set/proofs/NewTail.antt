-- A new tail over the images that a crash may leave.
use Rattle.std.proofs.Common.{◌≡◌, ◌≢◌, inl, inr, ⊎_elim, ℕ, ◌+◌, List, [], ◌∷◌, ◌++◌, length, get_or, Some, None, sym, ap, subst, ◌∙◌, arith, length-append}
use Rattle.std.proofs.lemmas.List.{get_or_at}
use Rattle.disk_model.specs.declared.file_id.FileId.{FileId}
use Rattle.disk_model.specs.Image.{Place, Image, place}
use Rattle.disk_model.specs.View.{View, MayHold, MayLeave, IsSound, LeavesAt, LeavesOnly}
use Rattle.disk_model.proofs.Moments.{has_now, weaker}
use Rattle.segment_files.specs.Files.{OrClosed, OrWhole, Becomes, IsAtGate, then_shut}
use Rattle.segment_files.specs.Parse.{Part, Closed, Whole, parse}
use Rattle.segment_files.specs.Folder.{found, folder, IsChoice, EachHas}
use Rattle.segment_set.specs.Growth.{AreApart, HasOrNew}
use Rattle.segment_set.proofs.Images.{added, as_read, as_read_at, as_read_may, differ, kept_at, still}
use Rattle.segment_set.proofs.Appended.{parse_id, parse_shut}

module _ (v : View) (name : List ℕ) (id : FileId) (behind : List ℕ) (new : Part) (sound : IsSound v) (fresh : v.reading (place name id) ≡ None) (whole : parse id (1 ∷ behind) ≡ Whole new) (parts : List Part) where
  new_id : new.id ≡ id
  new_id = parse_id id (1 ∷ behind) new whole

  pub reads_new : (e : View) → Becomes v e (place name id) (1 ∷ behind) → folder name e.reading id ≡ Whole new
  reads_new e becomes = ap (found id) becomes.reads ∙ whole

  module _ (each : EachHas v name parts) (c : Image) (others : (q : Place) → q ≢ place name id → MayHold v q (c q)) where
    abbrev was : Image
    was = as_read v (place name id) c

    choice : IsChoice (folder name (as_read v (place name id) c)) parts
    choice = each (as_read v (place name id) c) (as_read_may v (place name id) c sound others)

    -- where it isn't listed it is no part
    apart : AreApart parts id
    apart p has is =
        let closed : folder name (as_read v (place name id) c) id ≡ Closed = ap (found id) (as_read_at v (place name id) c ∙ fresh) in
        cc (choice.stand p has, ap (folder name (as_read v (place name id) c)) is, closed)

    still_shut : folder name c id ≡ Closed → IsChoice (folder name c) parts
    still_shut shut = still (folder name (as_read v (place name id) c)) (folder name c) id (differ v name id c) parts shut apart choice

    gains : c (place name id) ≡ Some (1 ∷ behind) → IsChoice (folder name c) (parts ++ new ∷ [])
    gains is = added (folder name (as_read v (place name id) c)) (folder name c) id (differ v name id c) parts new (ap (found id) is ∙ whole) new_id apart choice

  stands : EachHas v name parts → (c : Image) → ((q : Place) → OrWhole v (place name id) (1 ∷ behind) q (c q)) → HasOrNew name parts new c
  stands each c left = at (left (place name id))
    where
      others : (q : Place) → q ≢ place name id → MayHold v q (c q)
      others q ne = ⊎_elim (λ closed. ⊎_elim (λ was. was) (λ here. absurd (ne here.1)) closed) (λ here. absurd (ne here.0)) (left q)

      all : MayHold v (place name id) (c (place name id)) → MayLeave v c
      all held q = ⊎_elim
          (λ closed. ⊎_elim (λ was. was) (λ here. subst (λ (s : Place). MayHold v s (c s)) (sym here.1) held) closed)
          (λ here. subst (λ (s : Place). MayHold v s (c s)) (sym here.0) held) (left q)

      at : OrWhole v (place name id) (1 ∷ behind) (place name id) (c (place name id)) → HasOrNew name parts new c
      at (inl (inl held)) = inl (each c (all held))
      at (inl (inr shut)) = inl (still_shut each c others (ap (found id) shut.2 ∙ parse_shut id shut.0 shut.3))
      at (inr opens) = inr (gains each c others opens.1)

  pub tailing : (e : View) → EachHas v name parts → LeavesAt v e (OrWhole v (place name id) (1 ∷ behind)) → LeavesOnly v e (HasOrNew name parts new)
  tailing e each only = weaker v e (λ c. (q : Place) → OrWhole v (place name id) (1 ∷ behind) q (c q)) (HasOrNew name parts new) only (stands each)

  -- a crash left nothing but closed files
  pub still_none : (e : View) → IsSound e → EachHas v name parts → LeavesAt v e (OrClosed v (place name id)) → EachHas e name parts
  still_none e sound_e each only c may = at (left (place name id))
    where
      left : (q : Place) → OrClosed v (place name id) q (c q)
      left = has_now v e (λ d. (q : Place) → OrClosed v (place name id) q (d q)) sound_e only c may

      others : (q : Place) → q ≢ place name id → MayHold v q (c q)
      others q ne = ⊎_elim (λ was. was) (λ here. absurd (ne here.1)) (left q)

      all : MayHold v (place name id) (c (place name id)) → MayLeave v c
      all held q = ⊎_elim (λ was. was) (λ here. subst (λ (s : Place). MayHold v s (c s)) (sym here.1) held) (left q)

      at : OrClosed v (place name id) (place name id) (c (place name id)) → IsChoice (folder name c) parts
      at (inl held) = each c (all held)
      at (inr shut) = still_shut each c others (ap (found id) shut.2 ∙ parse_shut id shut.0 shut.3)

  pub tailed : (e : View) → EachHas v name parts → Becomes v e (place name id) (1 ∷ behind) → EachHas e name (parts ++ new ∷ [])
  tailed e each becomes c may = gains each c (λ q ne. kept_at v e (place name id) becomes.others q (c q) ne (may q)) (becomes.settled (c (place name id)) (may (place name id)) ∙ becomes.reads)

-- its gate is shut
pub tail_gate : (v e : View) (p : Place) (rest : List ℕ) → Becomes v e p (1 ∷ then_shut rest) → IsAtGate e p (1 + length rest)
tail_gate v e p rest becomes = record {
  bytes = 1 ∷ then_shut rest;
  reads = becomes.reads;
  within = omega (arith, length-append rest (0 ∷ []));
  settled = becomes.settled;
  shut = λ one. let zero_is : get_or (1 ∷ then_shut rest) (1 + length rest) 0 ≡ 0 = get_or_at (1 ∷ rest) 0 [] 0 (1 + length rest) (omega arith) in absurd (omega (arith, one, zero_is));
}
