-- What a disk holds, file by file, and what a write that a crash cuts short makes of a file's bytes.
use Rattle.std.specs.Prelude.{◌≡◌, ◌<◌, ◌≤◌, ◌⊎◌, ℕ, ◌+◌, max, List, ◌++◌, length, take, drop, Option, Bool, ◌&&◌, nat_eq}
use Rattle.std.specs.Str.{bytes_eq}
use Rattle.disk_model.specs.declared.file_id.FileId.{FileId}

-- the greatest base, and the greatest generation
abbrev pub id_limit : ℕ
id_limit = 281474976710655

-- the numbers that stand in the name of a file
pub record IsFileId (id : FileId) : Type 0 where
  pub base_first : 1 ≤ id.base
  pub base_last : id.base ≤ id_limit
  pub generation_first : 1 ≤ id.generation
  pub generation_last : id.generation ≤ id_limit

-- the order of the files of a name: by base, and then by generation
abbrev pub IsBelow : FileId → FileId → Type 0
IsBelow a b = (a.base < b.base) ⊎ ((a.base ≡ b.base) × (a.generation < b.generation))

-- a file is named by the bytes of a name and by an id
pub record Place : Type 0 where
  pub name : List ℕ
  pub base : ℕ
  pub generation : ℕ

abbrev pub place : List ℕ → FileId → Place
place name id = record { name = name; base = id.base; generation = id.generation }

abbrev pub same_place : Place → Place → Bool
same_place p q = bytes_eq p.name q.name && (nat_eq p.base q.base && nat_eq p.generation q.generation)

-- what stands at each place: the bytes of its file, or no file
abbrev pub Image : Type 0
Image = Place → Option (List ℕ)

-- old with these bytes at this offset
abbrev pub written : List ℕ → ℕ → List ℕ → List ℕ
written old at bytes = take at old ++ bytes ++ drop (at + length bytes) old

-- after a write of n bytes that a crash cuts short: any bytes in the range and past the old end, the same elsewhere
pub record Torn (at n : ℕ) (old new : List ℕ) : Type 0 where
  pub before : take at new ≡ take at old
  pub after : drop (at + n) new ≡ drop (at + n) old
  pub no_shorter : length old ≤ length new
  pub no_longer : length new ≤ max (length old) (at + n)
