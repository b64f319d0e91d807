-- Syncs, one after the other.
use Rattle.std.proofs.Common.{⊎_elim, ℕ, ◌<◌, List, [], ◌∷◌, ◌++◌, Result, Ok, Contains, sym, ◌∙◌, ap, subst, arith}
use Rattle.std.proofs.lemmas.List.Elements.{Contains-push_cases}
use Rattle.disk_model.specs.declared.disk.DiskFault.{DiskFault}
use Rattle.disk_model.specs.declared.file_id.FileId.{FileId}
use Rattle.disk_model.specs.Image.{Place, Image, place}
use Rattle.disk_model.specs.View.{View, MayHold, IsSound, LeavesAt}
use Rattle.disk_model.specs.Calls.{Looks, Syncs}
use Rattle.disk_model.proofs.Moments.{started, goes_on}
use Rattle.disk_model.proofs.Places.{stays_at, settles}
use Rattle.segment_files.specs.Files.{SettledSoFar}

nothing : {X : Type 0} (x : X) → Contains [] x → ⊥
nothing x h = let lt : h.0 < 0 = h.1 in omega arith

module _ (v0 v : View) (name : List ℕ) where
  abbrev P : Image → Type 0
  P c = (q : Place) → MayHold v0 q (c q)

  -- after the listing
  pub listed : IsSound v0 → Looks v0 v → SettledSoFar v0 v name []
  listed sound looks = record {
    reading = looks.stays.reading;
    narrower = stays_at v0 v looks.stays;
    settled = λ id has. absurd (nothing id has);
    left = goes_on v0 v0 v P (started v0 P sound (λ c may. may)) looks.time (λ c may q. stays_at v0 v looks.stays q (c q) (may q));
    names = λ id has. absurd (nothing id has);
  }

  module _ (w : View) (ids : List FileId) (so_far : SettledSoFar v0 v name ids) where
    -- after one sync more, however it went
    pub left_after : {T : Type 0} (p : Place) (r : Result T DiskFault) → Syncs v w p r → LeavesAt v0 w (MayHold v0)
    left_after p r syncs = goes_on v0 v w P so_far.left syncs.time (λ c may q. so_far.narrower q (c q) (stays_at v w syncs.stays q (c q) (may q)))

    pub one_more : {T : Type 0} (id : FileId) (x : T) → Syncs v w (place name id) (Ok x) → SettledSoFar v0 w name (ids ++ id ∷ [])
    one_more id x syncs = record {
      reading = syncs.stays.reading ∙ so_far.reading;
      narrower = λ q o held. so_far.narrower q o (stays_at v w syncs.stays q o held);
      settled = λ i has o held. ⊎_elim
          (λ old. so_far.settled i old o (stays_at v w syncs.stays (place name i) o held) ∙ ap (λ (r : Image). r (place name i)) (sym syncs.stays.reading))
          (λ new. settles v w (place name i) x (subst (λ (j : FileId). Syncs v w (place name j) (Ok x)) new syncs) o held)
          (Contains-push_cases ids id i has);
      left = left_after (place name id) (Ok x) syncs;
      names = λ i has. syncs.names;
    }
