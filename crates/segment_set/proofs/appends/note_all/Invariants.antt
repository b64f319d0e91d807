-- So many places are noted, and the next ones are above them.
use Rattle.std.proofs.Common.{◌≡◌, ◌++◌, ◌+◌, ◌<◌, ◌≤◌, ℕ, All, drop, length, take}
use Rattle.segment_set.specs.Advance.{PlacesRise, offsets_from}
use Rattle.segment_set.proofs.appends.note_all.Given as goal

abbrev pub invariant-loop-place : goal.invariant-loop-place
invariant-loop-place l = record {
  next : l.next ≡ l.first + l.place-index;
  items : l.offsets.items ≡ l.fn.offsets.items ++ offsets_from l.first l.gate (take l.place-index l.places);
  room : length l.places ≤ l.place-index + l.offsets.spare;
  rise : (low : ℕ) × All (λ (p : ℕ × ℕ). (p.0 < l.next) × (p.1 < l.gate + low)) l.offsets.items × PlacesRise low (drop l.place-index l.places);
}
