-- How the files of a name lie.
use Rattle.std.specs.Prelude.{◌≡◌, ◌≤◌, ◌⊎◌, ℕ, List, map, Some, Contains}
use Rattle.disk_model.specs.declared.file_id.FileId.{FileId}
use Rattle.disk_model.specs.Image.{Image, place}
use Rattle.segment_files.specs.Parse.{Part}
use Rattle.segment_files.specs.Folder.{AreParts, folder}
use Rattle.log_model.specs.cleaning.Layout.{PartLayout, Layout}
use Rattle.host_recovery.specs.Standing.{part_layout}

-- a file of the name is there
abbrev pub IsThere : Image → List ℕ → FileId → Type 0
IsThere image name id = (bytes : List ℕ) × (image (place name id) ≡ Some bytes)

-- the greatest generation of a file of the name, or 0
pub record IsGreatest (image : Image) (name : List ℕ) (greatest : ℕ) : Type 0 where
  pub above : (id : FileId) → IsThere image name id → id.generation ≤ greatest
  pub taken : (greatest ≡ 0) ⊎ ((id : FileId) × IsThere image name id × (id.generation ≡ greatest))

-- under this name an image has files that lie so
pub record Lies (name : List ℕ) (image : Image) (layout : Layout) : Type 0 where
  pub parts : List Part
  pub last : ℕ
  pub are : AreParts (folder name image) parts last
  pub parts_are : layout.parts ≡ map part_layout parts
  pub greatest : IsGreatest image name layout.greatest

-- and no others are there
pub record LiesAlone (name : List ℕ) (image : Image) (layout : Layout) : Type 0 where
  pub lies : Lies name image layout
  pub only : (id : FileId) → IsThere image name id → (p : PartLayout) × Contains layout.parts p × (p.base ≡ id.base) × (p.generation ≡ id.generation)
