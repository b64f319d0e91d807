-- A closed file changes nothing of what an image stands for.
use Rattle.std.proofs.Common.{◌≡◌, ◌≢◌, inl, inr, ⊎_elim, ℕ, ◌+◌, ◌≤◌, false, nat_le, List, [], ◌∷◌, ◌++◌, length, get_or, Option, Some, None, Result, Ok, refl, sym, ◌∙◌, ap, subst, arith}
use Rattle.std.proofs.lemmas.List.{get_or-take, drop_all, append-nil}
use Rattle.std.proofs.lemmas.Bool.{and_left, and_right, ne_eqb, cases_eq}
use Rattle.std.proofs.lemmas.Bool.Decides.{nat_tests}
use Rattle.disk_model.specs.declared.disk.DiskFault.{DiskFault}
use Rattle.disk_model.specs.Image.{Place, Image, written}
use Rattle.disk_model.specs.View.{View, MayHold, MayLeave, Reads, IsSound, LeavesAt, LeavesOnly}
use Rattle.disk_model.specs.Calls.{Creates, Writes, Syncs}
use Rattle.disk_model.proofs.Moments.{started, goes_on, goes_further, weaker}
use Rattle.disk_model.proofs.Places.{own, stays_at, writes_at, settles}
use Rattle.disk_model.proofs.Names.{holds_now}
use Rattle.segment_files.specs.Files.{IsShut, OrGate, OrClosed, OrWhole, KeepsOthers, Becomes, IsLike, is_open, open_bytes, opened}

pub closed_short : (c : List ℕ) → length c ≤ 1 → is_open c ≡ false
closed_short c short = let few : nat_le 2 (length c) ≡ false = grind (arith, nat_tests) in and_right _ _ few

pub closed_byte : (c : List ℕ) → get_or c 0 0 ≢ 1 → is_open c ≡ false
closed_byte c ne = and_left _ _ (ne_eqb (get_or c 0 0) 1 ne)

-- For each image of the call there is one of before that differs from it by a closed file alone.
pub like : (v : View) (p : Place) (c : Image) → IsSound v → open_bytes (v.reading p) ≡ None → ((q : Place) → OrClosed v p q (c q)) → IsLike v c
like v p c sound none left =
    let was : (q : Place) → (o : Option (List ℕ)) × MayHold v q o × (open_bytes (c q) ≡ open_bytes o) =
    λ q. ⊎_elim
    (λ held. (c q, held, refl))
    (λ new. (v.reading q, own v sound q, ap open_bytes new.2 ∙ shut new.0 new.3 ∙ sym none ∙ ap (λ (r : Place). open_bytes (v.reading r)) (sym new.1)))
    (left q) in
    (λ q. (was q).0, λ q. (was q).1, λ i q. (was q).2 i)
  where
    shut : (b : List ℕ) → is_open b ≡ false → open_bytes (Some b) ≡ None
    shut b is = grind (arith, nat_tests)

-- so what holds of each image of before, closed files left out, holds of each image of the call
pub stands_on : (v new : View) (p : Place) (S : Image → Type 0) → IsSound v → open_bytes (v.reading p) ≡ None → LeavesAt v new (OrClosed v p) → ((d : Image) → MayLeave v d → S (opened d)) → LeavesOnly v new (λ c. S (opened c))
stands_on v new p S sound none only all =
    weaker v new (λ c. (q : Place) → OrClosed v p q (c q)) (λ c. S (opened c)) only (λ c left. let alike = like v p c sound none left in subst S (sym alike.2) (all alike.0 alike.1))

module _ {T : Type 0} (v0 a : View) (p : Place) (none : v0.reading p ≡ None) (sound : IsSound v0) (r : Result T DiskFault) (creates : Creates v0 a p r) where
  abbrev P : Image → Type 0
  P c = (q : Place) → OrClosed v0 p q (c q)

  created_left : (q : Place) (o : Option (List ℕ)) → MayHold a q o → OrClosed v0 p q o
  created_left q None held = ⊎_elim (λ was. inl was) (λ new. absurd (cc new.1)) (creates.else_left q None held)
  created_left q (Some c) (inl held) = ⊎_elim (λ was. inl (inl was)) (λ new. inr (c, new.0, refl, closed_short c (omega (arith, ap length new.1)))) (creates.bytes_left q c held)
  created_left q (Some c) (inr held) = ⊎_elim
      (λ was. inl (inr was))
      (λ new. let empty : c ≡ [] = cc new.1 in inr (c, new.0, refl, closed_short c (omega (arith, ap length empty))))
      (creates.else_left q (Some c) held)

  pub creating : LeavesAt v0 a (OrClosed v0 p)
  creating = goes_on v0 v0 a P (started v0 P sound (λ c may q. inl (may q))) creates.time (λ c may q. created_left q (c q) (may q))

  module _ {U : Type 0} (w : View) (r' : Result U DiskFault) (writes : Writes a w p 0 (0 ∷ []) r') where
    written_left : (q : Place) (o : Option (List ℕ)) → MayHold w q o → OrClosed v0 p q o
    written_left q o held =
        ⊎_elim
        (λ was. created_left q o was)
        (λ torn. ⊎_elim
        (λ was. absurd (sound.unlisted p none torn.0 was))
        (λ new. inr (torn.1, torn.2, torn.3, closed_short torn.1 (omega (arith, torn.5.no_longer, ap length new.1))))
        (creates.bytes_left p torn.0 torn.4))
        (writes_at a w p 0 (0 ∷ []) r' writes q o held)

    pub gating : LeavesAt v0 w (OrClosed v0 p)
    gating = goes_on v0 a w P creating writes.time (λ c may q. written_left q (c q) (may q))

    pub gated : {V : Type 0} (e : View) (r'' : Result V DiskFault) → Syncs w e p r'' → LeavesAt v0 e (OrClosed v0 p)
    gated e r'' last = goes_on v0 w e P gating last.time (λ c may q. written_left q (c q) (stays_at w e last.stays q (c q) (may q)))

module _ {T : Type 0} (v w : View) (p : Place) (at : ℕ) (bytes : List ℕ) (behind : 1 ≤ at) (shut : IsShut v p 0) (r : Result T DiskFault) (writes : Writes v w p at bytes r) where
  filled_left : (q : Place) (o : Option (List ℕ)) → MayHold w q o → OrClosed v p q o
  filled_left q o held =
      ⊎_elim
      (λ was. inl was)
      (λ torn.
      let byte : get_or torn.0 0 0 ≡ get_or torn.1 0 0 =
      sym (get_or-take at torn.0 0 0 behind) ∙ ap (λ (l : List ℕ). get_or l 0 0) (sym torn.5.before) ∙ get_or-take at torn.1 0 0 behind in
      inr (torn.1, torn.2, torn.3, closed_byte torn.1 (subst (λ (x : ℕ). x ≢ 1) byte (shut.shut torn.0 (inl torn.4)))))
      (writes_at v w p at bytes r writes q o held)

  pub filling : IsSound v → LeavesAt v w (OrClosed v p)
  filling sound = let P : Image → Type 0 = λ c. (q : Place) → OrClosed v p q (c q) in
      goes_on v v w P (started v P sound (λ c may q. inl (may q))) writes.time (λ c may q. filled_left q (c q) (may q))

-- a file that is made whole
module _ (v0 a : View) (p : Place) (rest : List ℕ) (made : LeavesAt v0 a (OrClosed v0 p)) where
  abbrev W : Image → Type 0
  W c = (q : Place) → OrWhole v0 p (1 ∷ rest) q (c q)

  pub making : LeavesAt v0 a (OrWhole v0 p (1 ∷ rest))
  making = weaker v0 a (λ c. (q : Place) → OrClosed v0 p q (c q)) W made (λ c left q. inl (left q))

  further : (b : View) → IsSound a → (q : Place) (o : Option (List ℕ)) → OrClosed a p q o → OrClosed v0 p q o
  further b sound q o (inl held) = holds_now v0 a (OrClosed v0 p) sound made q o held
  further b sound q o (inr new) = inr new

  pub stuffing : (f : View) → IsSound a → LeavesAt a f (OrClosed a p) → LeavesAt v0 f (OrWhole v0 p (1 ∷ rest))
  stuffing f sound filled = goes_further v0 a f W making (weaker a f (λ c. (q : Place) → OrClosed a p q (c q)) W filled (λ c left q. inl (further f sound q (c q) (left q))))

  whole_bytes : written (0 ∷ []) 1 rest ≡ 0 ∷ rest
  whole_bytes = ap (λ (l : List ℕ). (0 ∷ rest) ++ l) (drop_all (1 + length rest) (0 ∷ []) (omega arith)) ∙ append-nil (0 ∷ rest)

  module _ (f : View) (sound : IsSound a) (sound_f : IsSound f) (filled : LeavesAt a f (OrClosed a p)) (reads : Reads f p (written (0 ∷ []) 1 rest)) where
    gate_at : (b : List ℕ) (x : ℕ) → Reads f p b → written b 0 (x ∷ []) ≡ x ∷ rest
    gate_at b x here = let is : b ≡ 0 ∷ rest = cc (here, reads, whole_bytes) in ap (λ (l : List ℕ). written l 0 (x ∷ [])) is

    gate_left : (q : Place) (o : Option (List ℕ)) → OrGate f p 0 q o → OrWhole v0 p (1 ∷ rest) q o
    gate_left q o (inl held) = inl (further f sound q o (holds_now a f (OrClosed a p) sound_f filled q o held))
    gate_left q o (inr moved) =
        let is = moved.4 ∙ ap (λ (l : List ℕ). Some l) (gate_at moved.0 moved.1 moved.3) in
        elim (cases_eq moved.1 1) [
          | inl one ↦ inr (moved.2, is ∙ ap (λ (x : ℕ). Some (x ∷ rest)) one)
          | inr other ↦ inl (inr (moved.1 ∷ rest, moved.2, is, closed_byte (moved.1 ∷ rest) other))
        ]

    pub all_along : (e : View) → LeavesAt f e (OrGate f p 0) → LeavesAt v0 e (OrWhole v0 p (1 ∷ rest))
    all_along e last = goes_further v0 f e W (stuffing f sound filled) (weaker f e (λ c. (q : Place) → OrGate f p 0 q (c q)) W last (λ c left q. gate_left q (c q) (left q)))

    pub becomes : (e : View) → KeepsOthers v0 a p → KeepsOthers a f p → Becomes f e p (written (written (0 ∷ []) 1 rest) 0 (1 ∷ [])) → Becomes v0 e p (1 ∷ rest)
    becomes e first second end = record {
      reads = end.reads ∙ ap (λ (l : List ℕ). Some l) (gate_at (written (0 ∷ []) 1 rest) 1 reads);
      settled = end.settled;
      others = record {
        reading = λ q ne. end.others.reading q ne ∙ second.reading q ne ∙ first.reading q ne;
        bytes_left = λ q c ne held. first.bytes_left q c ne (second.bytes_left q c ne (end.others.bytes_left q c ne held));
        else_left = λ q o ne held. first.else_left q o ne (second.else_left q o ne (end.others.else_left q o ne held));
      };
      names = end.names;
    }

-- a file of one shut byte
pub shut_after : (v0 a : View) (p : Place) → Becomes v0 a p (0 ∷ []) → IsShut a p 0
shut_after v0 a p made = record {
  bytes = 0 ∷ [];
  reads = made.reads;
  within = omega arith;
  shut = λ c held. let is : c ≡ 0 ∷ [] = cc (made.settled (Some c) held, made.reads) in subst (λ (l : List ℕ). get_or l 0 0 ≢ 1) (sym is) (omega arith);
}

-- the calls that make it
pub closed_by : {T U V : Type 0} (v0 a w e : View) (p : Place) (x : T) (y : U) (z : V) → Creates v0 a p (Ok x) → Writes a w p 0 (0 ∷ []) (Ok y) → Syncs w e p (Ok z) → Becomes v0 e p (0 ∷ [])
closed_by v0 a w e p x y z creates writes syncs = record {
  reads = ap (λ (i : Image). i p) syncs.stays.reading ∙ writes.done [] creates.done;
  settled = settles w e p z syncs;
  others = record {
    reading = λ q ne. ap (λ (i : Image). i q) syncs.stays.reading ∙ writes.others q ne ∙ creates.others q ne;
    bytes_left = λ q c ne held. ⊎_elim
        (λ was. ⊎_elim (λ old. old) (λ new. absurd (ne new.0)) (creates.bytes_left q c was))
        (λ torn. absurd (ne torn.1))
        (writes.bytes_left q c (syncs.stays.bytes_left q c held));
    else_left = λ q o ne held. ⊎_elim (λ was. was) (λ new. absurd (ne new.0)) (creates.else_left q o (writes.else_left q o (syncs.stays.else_left q o held)));
  };
  names = syncs.names;
}
