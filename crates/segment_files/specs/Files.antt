-- What calls on one file leave of it at each moment, and what they leave in the end.
use Rattle.std.specs.Prelude.{◌≡◌, ◌≢◌, ◌<◌, ◌⊎◌, ℕ, ◌+◌, List, [], ◌∷◌, ◌++◌, length, take, get_or, Option, Some, None, Bool, false, nat_eq, nat_le, ◌&&◌, if◌then◌else◌, Contains}
use Rattle.disk_model.specs.Image.{Place, Image, place, written}
use Rattle.disk_model.specs.declared.file_id.FileId.{FileId}
use Rattle.disk_model.specs.View.{View, MayHold, MayLeave, Reads, IsSettled, LeavesAt}

-- a byte of the file that a crash never leaves open
pub record IsShut (v : View) (p : Place) (at : ℕ) : Type 0 where
  pub bytes : List ℕ
  pub reads : Reads v p bytes
  pub within : at < length bytes
  pub shut : (c : List ℕ) → MayHold v p (Some c) → get_or c at 0 ≢ 1

-- at each place what might have been left before, but at p perhaps the file as it read, with any byte at its gate
abbrev pub OrGate : View → Place → ℕ → Place → Option (List ℕ) → Type 0
OrGate v p at q o = MayHold v q o ⊎ ((b : List ℕ) × (x : ℕ) × (q ≡ p) × Reads v p b × (o ≡ Some (written b at (x ∷ []))))

-- the other places read as before, and a crash leaves there what it might have left before
pub record KeepsOthers (old new : View) (p : Place) : Type 0 where
  pub reading : (q : Place) → q ≢ p → new.reading q ≡ old.reading q
  pub bytes_left : (q : Place) (c : List ℕ) → q ≢ p → new.bytes_left q c → old.bytes_left q c
  pub else_left : (q : Place) (o : Option (List ℕ)) → q ≢ p → new.else_left q o → old.else_left q o

-- each creation and removal is settled
abbrev pub HasNames : View → Type 0
HasNames v = (q : Place) (o : Option (List ℕ)) → v.else_left q o → (o ≡ None) × (v.reading q ≡ None)

-- the file is these bytes, and all of it and each name is on the disk
pub record Becomes (old new : View) (p : Place) (bytes : List ℕ) : Type 0 where
  pub reads : Reads new p bytes
  pub settled : IsSettled new p
  pub others : KeepsOthers old new p
  pub names : HasNames new

-- the file stands as it reads in each image, and its gate is shut
pub record IsAtGate (v : View) (p : Place) (gate : ℕ) : Type 0 where
  pub bytes : List ℕ
  pub reads : Reads v p bytes
  pub within : gate < length bytes
  pub settled : IsSettled v p
  pub shut : get_or bytes gate 0 ≢ 1

-- the file with what stands behind an open gate
abbrev pub appended : List ℕ → ℕ → List ℕ → List ℕ
appended b gate behind = written b gate (1 ∷ behind)

-- what stands behind the gate of a frame, and a shut gate
abbrev pub then_shut : List ℕ → List ℕ
then_shut rest = rest ++ 0 ∷ []

-- The frame isn't there, and all up to the shut gate is as before; or it is whole, behind a gate with any byte.
abbrev pub IsWholeOrAbsent : List ℕ → ℕ → List ℕ → List ℕ → Type 0
IsWholeOrAbsent b gate behind c = (take (gate + 1) c ≡ take (gate + 1) b) ⊎ ((x : ℕ) × (c ≡ written b gate (x ∷ behind)))

-- at each place what might have been left before, but at p perhaps the file with the frame whole or absent
abbrev pub OrFrame : View → Place → ℕ → List ℕ → Place → Option (List ℕ) → Type 0
OrFrame v p gate behind q o = MayHold v q o ⊎ ((b : List ℕ) × (c : List ℕ) × (q ≡ p) × Reads v p b × (o ≡ Some c) × IsWholeOrAbsent b gate behind c)

-- the file's gate is open
abbrev pub is_open : List ℕ → Bool
is_open c = nat_eq (get_or c 0 0) 1 && nat_le 2 (length c)

-- an image without its closed files, and all that it stands for
abbrev pub open_bytes : Option (List ℕ) → Option (List ℕ)
open_bytes None = None
open_bytes (Some c) = if is_open c then Some c else None

abbrev pub opened : Image → Image
opened image q = open_bytes (image q)

-- at each place what might have been left before, but at p perhaps a closed file
abbrev pub OrClosed : View → Place → Place → Option (List ℕ) → Type 0
OrClosed v p q o = MayHold v q o ⊎ ((c : List ℕ) × (q ≡ p) × (o ≡ Some c) × (is_open c ≡ false))

-- the same, but at p perhaps a closed file or this one
abbrev pub OrWhole : View → Place → List ℕ → Place → Option (List ℕ) → Type 0
OrWhole v p whole q o = OrClosed v p q o ⊎ ((q ≡ p) × (o ≡ Some whole))

-- with its closed files left out it is one of the images of before
abbrev pub IsLike : View → Image → Type 0
IsLike v c = (d : Image) × MayLeave v d × (opened c ≡ opened d)

-- what syncs have done so far: it reads as before, leaves nothing new, and these files of the name are settled
pub record SettledSoFar (old new : View) (name : List ℕ) (ids : List FileId) : Type 0 where
  pub reading : new.reading ≡ old.reading
  pub narrower : (q : Place) (o : Option (List ℕ)) → MayHold new q o → MayHold old q o
  pub settled : (id : FileId) → Contains ids id → IsSettled new (place name id)
  pub left : LeavesAt old new (MayHold old)
  pub names : (id : FileId) → Contains ids id → HasNames new
