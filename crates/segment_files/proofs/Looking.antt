-- Calls that only look, one after the other.
use Rattle.std.proofs.Common.{inl, inr, ⊎_elim, ℕ, List, sym, ap, ◌∙◌, arith}
use Rattle.disk_model.specs.Image.{Place, Image}
use Rattle.disk_model.specs.View.{View, MayHold, Reads, IsListed, IsSound, LeavesAt}
use Rattle.disk_model.specs.Calls.{Looks}
use Rattle.disk_model.proofs.Moments.{started, goes_on}
use Rattle.disk_model.proofs.Places.{stays_at, stays_not, elapses_not}

pub looks_not : (v : View) → IsSound v → Looks v v
looks_not v sound = record { stays = stays_not v; time = elapses_not v sound }

pub looks_then : (a b c : View) → IsSound a → Looks a b → Looks b c → Looks a c
looks_then a b c sound first then = record {
  stays = record {
    reading = then.stays.reading ∙ first.stays.reading;
    bytes_left = λ q x held. first.stays.bytes_left q x (then.stays.bytes_left q x held);
    else_left = λ q o held. first.stays.else_left q o (then.stays.else_left q o held);
  };
  time = record {
    later = omega (arith, first.time.later, then.time.later);
    nothing_else = λ t x le left. ⊎_elim
        (λ was. ⊎_elim (λ old. inl old) (λ mid. inl (sound.counts_now t x le (λ q. stays_at a b first.stays q (x q) (mid q)))) (first.time.nothing_else t x le was))
        (λ now. inr now)
        (then.time.nothing_else t x (omega (arith, le, first.time.later)) left);
    keeps = λ t x le left. then.time.keeps t x (omega (arith, le, first.time.later)) (first.time.keeps t x le left);
    counts = λ t x le may. then.time.counts t x (omega (arith, le, first.time.later)) may;
  };
}

-- a crash meanwhile leaves what it might have left before
pub only_looked : (old new : View) → IsSound old → Looks old new → LeavesAt old new (MayHold old)
only_looked old new sound looks =
    let P : Image → Type 0 = λ c. (q : Place) → MayHold old q (c q) in
    goes_on old old new P (started old P sound (λ c may. may)) looks.time (λ c may q. stays_at old new looks.stays q (c q) (may q))

pub reads_still : (old new : View) (p : Place) (bytes : List ℕ) → Looks old new → Reads old p bytes → Reads new p bytes
reads_still old new p bytes looks reads = ap (λ (i : Image). i p) looks.stays.reading ∙ reads

-- what is read now was read before
pub read_before : (old new : View) (p : Place) (bytes : List ℕ) → Looks old new → Reads new p bytes → Reads old p bytes
read_before old new p bytes looks reads = sym (ap (λ (i : Image). i p) looks.stays.reading) ∙ reads

pub listed_still : (old new : View) (p : Place) → Looks old new → IsListed old p → IsListed new p
listed_still old new p looks listed = (listed.0, reads_still old new p listed.0 looks listed.1)
