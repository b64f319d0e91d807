-- What a crash leaves at each moment of the calls on a gate.
use Rattle.std.proofs.Common.{◌≡◌, inl, inr, ⊎_elim, ℕ, ◌<◌, List, [], ◌∷◌, length, get_or, Option, Some, Result, Ok, sym, ◌∙◌, ap, subst}
use Rattle.disk_model.specs.declared.disk.DiskFault.{DiskFault}
use Rattle.disk_model.specs.Image.{Place, Image}
use Rattle.disk_model.specs.View.{View, MayHold, Reads, IsSound, LeavesAt}
use Rattle.disk_model.specs.Calls.{Writes, Syncs}
use Rattle.disk_model.proofs.Moments.{started, goes_on}
use Rattle.disk_model.proofs.Places.{stays_at, writes_at}
use Rattle.segment_files.specs.Files.{IsShut, OrGate}
use Rattle.segment_files.proofs.Bytes.{torn_one}

same_bytes : (v : View) (p : Place) (b c : List ℕ) → Reads v p b → Reads v p c → b ≡ c
same_bytes v p b c here there = cc

module _ (v0 s : View) (p : Place) (at : ℕ) (shut : IsShut v0 p at) (sound : IsSound v0) where
  abbrev P : Image → Type 0
  P c = (q : Place) → OrGate v0 p at q (c q)

  pub synced : {T : Type 0} (r : Result T DiskFault) → Syncs v0 s p r → LeavesAt v0 s (OrGate v0 p at)
  synced r syncs = goes_on v0 v0 s P (started v0 P sound (λ c may q. inl (may q))) syncs.time (λ c may q. inl (stays_at v0 s syncs.stays q (c q) (may q)))

  module _ {T U : Type 0} (w : View) (x : T) (syncs : Syncs v0 s p (Ok x)) (r : Result U DiskFault) (writes : Writes s w p at (1 ∷ []) r) where
    gate_left : (q : Place) (o : Option (List ℕ)) → MayHold w q o → OrGate v0 p at q o
    gate_left q o held =
        ⊎_elim
        (λ was. inl (stays_at v0 s syncs.stays q o was))
        (λ torn.
        let reads : Reads v0 p torn.0 = sym (ap (λ (i : Image). i p) syncs.stays.reading) ∙ syncs.bytes torn.0 torn.4 in
        let is : torn.0 ≡ shut.bytes = same_bytes v0 p torn.0 shut.bytes reads shut.reads in
        let lt = subst (λ (l : List ℕ). at < length l) (sym is) shut.within in
        inr (torn.0, get_or torn.1 at 0, torn.2, reads, torn.3 ∙ ap (λ (l : List ℕ). Some l) (torn_one at torn.0 torn.1 lt torn.5)))
        (writes_at s w p at (1 ∷ []) r writes q o held)

    pub opening : LeavesAt v0 w (OrGate v0 p at)
    opening = goes_on v0 s w P (synced (Ok x) syncs) writes.time (λ c may q. gate_left q (c q) (may q))

    pub opened : {V : Type 0} (e : View) (r' : Result V DiskFault) → Syncs w e p r' → LeavesAt v0 e (OrGate v0 p at)
    opened e r' last = goes_on v0 w e P opening last.time (λ c may q. gate_left q (c q) (stays_at w e last.stays q (c q) (may q)))
