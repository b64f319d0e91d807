-- The files that were kept, as the parts of a log.
use Rattle.std.specs.Prelude.{◌≡◌, ◌≤◌, ◌<◌, ◌⊎◌, ◌&&◌, ℕ, Bool, true, false, not, nat_lt, List, [], ◌∷◌, ◌++◌, length, Option, Some, None, Contains, Result, IfOk, IsErrOf}
use Rattle.disk_model.specs.declared.file_id.FileId.{FileId}
use Rattle.disk_model.specs.Image.{Image}
use Rattle.segment_files.specs.Contents.{Offset_list}
use Rattle.segment_files.specs.Parse.{Closed}
use Rattle.segment_files.specs.Folder.{Folder, folder, IsChoice, IsFault, Tiles}
use Rattle.segment_set.specs.declared.choice.Choice.{Choice}
use Rattle.segment_set.specs.declared.opened.Opened.{Opened}
use Rattle.segment_set.specs.declared.opening.OpenError.{OpenError}
use Rattle.segment_set.specs.declared.opening.OpenError.TheVariants.{Disk as Is_disk, Damaged as Is_damaged}
use Rattle.segment_set.specs.declared.tail.Tail.{Tail}
use Rattle.segment_set.specs.Fits.{IsOpenIn, parts_of}
use Rattle.segment_set.specs.Joined.{are_tiled, has_last, last_is_full}
use Rattle.segment_set.specs.Load.{id_from}
use Rattle.segment_set.specs.Sifting.{AreOpen, Rise, Sifted}

-- the next entry may be appended to it
abbrev pub has_room : Opened → Bool
has_room one = not one.part.descriptor.rewritten && nat_lt (length one.part.offsets.items) one.part.descriptor.size

-- these have empty ranges
abbrev pub AreEmpty : List Opened → Type 0
AreEmpty files = (one : Opened) → Contains files one → one.part.last < one.id.base

-- of the last one whose range isn't empty the last entry isn't there
pub record IsUnendedFile (files : List Opened) (id : FileId) : Type 0 where
  pub front : List Opened
  pub one : Opened
  pub back : List Opened
  pub are : files ≡ front ++ one ∷ back
  pub filled : one.id.base ≤ one.part.last
  pub empty : AreEmpty back
  pub unended : has_last one ≡ false
  pub id_is : one.id ≡ id

-- it is there
abbrev pub AreEndedFiles : List Opened → Type 0
AreEndedFiles files = (front : List Opened) (one : Opened) (back : List Opened) → files ≡ front ++ one ∷ back → one.id.base ≤ one.part.last → AreEmpty back → has_last one ≡ true

-- a file becomes the tail
pub record IsTakenAs (one : Opened) (tail : Tail) (offsets : Offset_list) : Type 0 where
  pub room : has_room one ≡ true
  pub id : tail.id ≡ one.id
  pub last : tail.last ≡ one.part.last
  pub gate : tail.gate ≡ one.part.gate
  pub size : tail.size ≡ one.part.descriptor.size
  pub offsets_are : offsets ≡ one.part.offsets.items

-- the last file is the tail where it has room
abbrev pub Splits : List Opened → List Opened → Option Tail → Offset_list → Type 0
Splits files sealed None offsets = (sealed ≡ files) × (offsets ≡ []) × (last_is_full files ≡ true)
Splits files sealed (Some tail) offsets = (one : Opened) × (files ≡ sealed ++ one ∷ []) × IsTakenAs one tail offsets

-- ---- THE CHOICE, with its last entry

-- these are the open files of an image
pub record AreOpenIn (name : List ℕ) (image : Image) (opened : List Opened) : Type 0 where
  pub each : (one : Opened) → Contains opened one → IsOpenIn name image one
  pub all : (id : FileId) → (folder name image id ≡ Closed) ⊎ ((one : Opened) × Contains opened one × (one.id ≡ id))

-- they come by rising id, and these are kept
pub record IsChosen (files kept : List Opened) (covered : List FileId) : Type 0 where
  pub sifted : Rise files → Sifted files kept covered kept
  pub choice : Rise files → (folder : Folder) → AreOpen folder files → IsChoice folder (parts_of folder kept)
  pub tile : Rise files → (folder : Folder) → AreOpen folder files → (last : ℕ) × Tiles 1 (parts_of folder kept) last
  -- whatever the disk tells
  pub tiled : are_tiled 1 kept ≡ true
  pub ended : AreEndedFiles kept

pub record Chooses (files : List Opened) (result : Result Choice OpenError) : Type 0 where
  pub chosen : IfOk result (λ choice. IsChosen files choice.kept.items choice.covered.items)
  pub damaged : (base generation at : ℕ) → IsErrOf result (Is_damaged base generation at) → Rise files → (name : List ℕ) (image : Image) → AreOpenIn name image files → IsFault (folder name image) (id_from base generation) at
  pub disk : IsErrOf result Is_disk → ⊥
