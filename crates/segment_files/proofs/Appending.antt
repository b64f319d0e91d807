-- What a crash leaves at each moment of an append.
use Rattle.std.proofs.Common.{◌≡◌, ◌≢◌, inl, inr, ⊎_elim, ℕ, ◌+◌, ◌<◌, List, [], ◌∷◌, length, get_or, Option, Some, Result, refl, sym, ◌∙◌, ap, subst}
use Rattle.disk_model.specs.declared.disk.DiskFault.{DiskFault}
use Rattle.disk_model.specs.Image.{Place, Image, written}
use Rattle.disk_model.specs.View.{View, MayHold, Reads, IsSound, LeavesAt}
use Rattle.disk_model.specs.Calls.{Writes}
use Rattle.disk_model.proofs.Moments.{started, goes_on, goes_further, weaker}
use Rattle.disk_model.proofs.Places.{writes_at}
use Rattle.segment_files.specs.Files.{IsShut, IsAtGate, OrGate, OrFrame, KeepsOthers, Becomes, appended}
use Rattle.segment_files.proofs.Bytes.{gate_kept, staged_long, through_gate}

same : (b c : List ℕ) (o : Option (List ℕ)) → o ≡ Some b → o ≡ Some c → b ≡ c
same b c o here there = cc

module _ {T : Type 0} (v0 w : View) (p : Place) (gate : ℕ) (behind : List ℕ) (at_gate : IsAtGate v0 p gate) (r : Result T DiskFault) (writes : Writes v0 w p (gate + 1) behind r) where
  abbrev P : Image → Type 0
  P c = (q : Place) → OrFrame v0 p gate behind q (c q)

  write_left : (q : Place) (o : Option (List ℕ)) → MayHold w q o → OrFrame v0 p gate behind q o
  write_left q o held =
      ⊎_elim
      (λ was. inl was)
      (λ torn. inr (torn.0, torn.1, torn.2, sym (at_gate.settled (Some torn.0) (inl torn.4)), torn.3, inl torn.5.before))
      (writes_at v0 w p (gate + 1) behind r writes q o held)

  pub writing : IsSound v0 → LeavesAt v0 w (OrFrame v0 p gate behind)
  writing sound = goes_on v0 v0 w P (started v0 P sound (λ c may q. inl (may q))) writes.time (λ c may q. write_left q (c q) (may q))

  others : KeepsOthers v0 w p
  others = record {
    reading = writes.others;
    bytes_left = λ q c ne held. ⊎_elim (λ was. was) (λ torn. absurd (ne torn.1)) (writes.bytes_left q c held);
    else_left = λ q o ne held. writes.else_left q o held;
  }

  module _ (done : (b : List ℕ) → Reads v0 p b → Reads w p (written b (gate + 1) behind)) where
    pub is_shut : IsShut w p gate
    is_shut = record {
      bytes = written at_gate.bytes (gate + 1) behind;
      reads = done at_gate.bytes at_gate.reads;
      within = staged_long at_gate.bytes behind gate at_gate.within;
      shut = λ c held. ⊎_elim
          (λ was. subst (λ (l : List ℕ). get_or l gate 0 ≢ 1) (same at_gate.bytes c _ at_gate.reads (sym (at_gate.settled (Some c) was))) at_gate.shut)
          (λ torn.
          let b_is : torn.0 ≡ at_gate.bytes = same torn.0 at_gate.bytes _ (sym (at_gate.settled (Some torn.0) (inl torn.4))) at_gate.reads in
          let c_is : c ≡ torn.1 = same c torn.1 (Some c) refl torn.3 in
          let byte : get_or at_gate.bytes gate 0 ≡ get_or c gate 0 =
          ap (λ (l : List ℕ). get_or l gate 0) (sym b_is) ∙ sym (gate_kept gate (length behind) torn.0 torn.1 torn.5) ∙ ap (λ (l : List ℕ). get_or l gate 0) (sym c_is) in
          subst (λ (x : ℕ). x ≢ 1) byte at_gate.shut)
          (writes_at v0 w p (gate + 1) behind r writes p (Some c) held);
    }

    gate_left : (q : Place) (o : Option (List ℕ)) → OrGate w p gate q o → OrFrame v0 p gate behind q o
    gate_left q o (inl held) = write_left q o held
    gate_left q o (inr moved) =
        let is : moved.0 ≡ written at_gate.bytes (gate + 1) behind = same moved.0 _ _ moved.3 (done at_gate.bytes at_gate.reads) in
        let whole = ap (λ (l : List ℕ). written l gate (moved.1 ∷ [])) is ∙ through_gate at_gate.bytes behind gate at_gate.within moved.1 in
        inr (at_gate.bytes, written moved.0 gate (moved.1 ∷ []), moved.2, at_gate.reads, moved.4, inr (moved.1, whole))

    pub all_along : (e : View) → IsSound v0 → LeavesAt w e (OrGate w p gate) → LeavesAt v0 e (OrFrame v0 p gate behind)
    all_along e sound then = goes_further v0 w e P (writing sound) (weaker w e (λ c. (q : Place) → OrGate w p gate q (c q)) P then (λ c left q. gate_left q (c q) (left q)))

    pub becomes : (e : View) (b : List ℕ) → Reads v0 p b → ((l : List ℕ) → Reads w p l → Becomes w e p (written l gate (1 ∷ []))) → Becomes v0 e p (appended b gate behind)
    becomes e b reads then =
        let is : b ≡ at_gate.bytes = same b at_gate.bytes _ reads at_gate.reads in
        let lt = subst (λ (l : List ℕ). gate < length l) (sym is) at_gate.within in
        let end = then (written b (gate + 1) behind) (done b reads) in
        record {
          reads = end.reads ∙ ap (λ (l : List ℕ). Some l) (through_gate b behind gate lt 1);
          settled = end.settled;
          others = record {
            reading = λ q ne. end.others.reading q ne ∙ others.reading q ne;
            bytes_left = λ q c ne held. others.bytes_left q c ne (end.others.bytes_left q c ne held);
            else_left = λ q o ne held. others.else_left q o ne (end.others.else_left q o ne held);
          };
          names = end.names;
        }
