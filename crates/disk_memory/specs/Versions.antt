-- Files as a list of versions, the newest last.
use Rattle.std.specs.Prelude.{ℕ, ◌&&◌, Bool, nat_eq, List, reverse, Option, Some, None, find, option_and_then, Vec}
use Rattle.std.specs.declared.alloc.Global.{Global}
use Rattle.disk_model.specs.Image.{Place, Image, place, same_place}
use Rattle.disk_model.specs.declared.file_id.FileId.{FileId}
use Rattle.disk_memory.specs.declared.steps.Step.{Step}

abbrev pub same_id : FileId → FileId → Bool
same_id a b = nat_eq a.base b.base && nat_eq a.generation b.generation

abbrev pub version_place : Step → Place
version_place v = place v.name v.id

abbrev pub bytes_of : Option (Vec ℕ Global) → Option (List ℕ)
bytes_of None = None
bytes_of (Some b) = Some b.items

abbrev pub version_bytes : Step → Option (List ℕ)
version_bytes v = bytes_of v.bytes

-- the newest version at a place
abbrev pub newest : List Step → Place → Option Step
newest vs p = find (λ v. same_place (version_place v) p) (reverse vs)

-- what stands at each place after these versions
abbrev pub image_of : List Step → Image
image_of vs p = option_and_then version_bytes (newest vs p)
