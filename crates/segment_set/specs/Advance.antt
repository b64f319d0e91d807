-- The tail gets entries more, as it is remembered.
use Rattle.std.specs.Prelude.{◌≡◌, ◌≤◌, ◌⊎◌, ◌+◌, ◌-◌, ℕ, List, [], ◌∷◌, ◌++◌, length, map, Some, None}
use Rattle.std.specs.List.{enumerate_from}
use Rattle.segment_files.specs.Contents.{Offset_list, appended_descriptor}
use Rattle.segment_set.specs.declared.opened.Opened.{Opened}
use Rattle.segment_set.specs.declared.parts.Parts.{Parts}
use Rattle.segment_set.specs.declared.tail.Tail.{Tail}

-- each of these places is above the one before it, from one on
abbrev pub PlacesRise : ℕ → List ℕ → Type 0
PlacesRise from [] = Unit {0}
PlacesRise from (place ∷ places) = (from ≤ place) × PlacesRise (place + 1) places

-- offsets from this one on, at places that are counted from a gate
abbrev pub offsets_from : ℕ → ℕ → List ℕ → Offset_list
offsets_from first gate places = enumerate_from first (map (λ (place : ℕ). gate + place) places)

-- with entries behind, at these places of a frame at the tail's gate
abbrev pub noted : Offset_list → Tail → List ℕ → Offset_list
noted offsets tail places = offsets ++ offsets_from (tail.last + 1 - tail.id.base) tail.gate places

-- it still has room
pub record Lengthens (old new : Parts) (tail : Tail) (gate : ℕ) (places : List ℕ) : Type 0 where
  pub next : Tail
  pub is : new.tail ≡ Some next
  pub id : next.id ≡ tail.id
  pub last : next.last ≡ tail.last + length places
  pub gate_is : next.gate ≡ gate
  pub size : next.size ≡ tail.size
  pub sealed : new.sealed.items ≡ old.sealed.items
  pub offsets : new.offsets.items ≡ noted old.offsets.items tail places

-- it has its size or more, and is sealed
pub record Seals (old new : Parts) (tail : Tail) (gate : ℕ) (places : List ℕ) : Type 0 where
  pub none : new.tail ≡ None
  pub one : Opened
  pub sealed : new.sealed.items ≡ old.sealed.items ++ one ∷ []
  pub id : one.id ≡ tail.id
  pub descriptor : one.part.descriptor ≡ appended_descriptor tail.id tail.size
  pub last : one.part.last ≡ tail.last + length places
  pub gate_is : one.part.gate ≡ gate
  pub offsets : one.part.offsets.items ≡ noted old.offsets.items tail places
  pub fresh : new.offsets.items ≡ []

pub record Advances (old new : Parts) (tail : Tail) (gate : ℕ) (places : List ℕ) : Type 0 where
  pub name : new.name ≡ old.name
  pub greatest : new.greatest ≡ old.greatest
  pub either : Lengthens old new tail gate places ⊎ Seals old new tail gate places
