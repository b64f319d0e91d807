-- What each call does to a disk that tells.
use Rattle.std.specs.Prelude.{◌≡◌, ◌≢◌, ◌≤◌, ◌⊎◌, ◌↔◌, ◌-◌, ℕ, min, List, [], ◌++◌, length, take, drop, Option, Some, None, Result, IsErrOf, IfOk, OnOk, Contains}
use Rattle.std.specs.List.{AllPairs}
use Rattle.disk_model.specs.declared.file_id.FileId.{FileId}
use Rattle.disk_model.specs.declared.disk.DiskFault.{DiskFault}
use Rattle.disk_model.specs.declared.disk.DiskFault.TheVariants.{NoMemory}
use Rattle.disk_model.specs.Image.{Place, place, IsBelow, Torn, written}
use Rattle.disk_model.specs.View.{View, MayHold, Reads, IsListed, Elapses}

-- it reads as before, and a crash leaves nothing new
pub record Stays (old new : View) : Type 0 where
  pub reading : new.reading ≡ old.reading
  pub bytes_left : (q : Place) (c : List ℕ) → new.bytes_left q c → old.bytes_left q c
  pub else_left : (q : Place) (o : Option (List ℕ)) → new.else_left q o → old.else_left q o

-- a call that only looks
pub record Looks (old new : View) : Type 0 where
  pub stays : Stays old new
  pub time : Elapses old new

-- the files of this name, rising by base and then generation
pub record Lists (v : View) (name : List ℕ) (ids : List FileId) : Type 0 where
  pub each : (id : FileId) → Contains ids id ↔ IsListed v (place name id)
  pub rising : AllPairs IsBelow ids

pub record Writes {T : Type 0} (old new : View) (p : Place) (at : ℕ) (bytes : List ℕ) (result : Result T DiskFault) : Type 0 where
  pub others : (q : Place) → q ≢ p → new.reading q ≡ old.reading q
  pub torn : (b : List ℕ) → Reads old p b → (c : List ℕ) × Reads new p c × Torn at (length bytes) b c
  pub done : OnOk result ((b : List ℕ) → Reads old p b → Reads new p (written b at bytes))
  pub bytes_left : (q : Place) (c : List ℕ) → new.bytes_left q c → old.bytes_left q c ⊎ ((b : List ℕ) × (q ≡ p) × old.bytes_left p b × Torn at (length bytes) b c)
  pub else_left : (q : Place) (o : Option (List ℕ)) → new.else_left q o → old.else_left q o
  pub no_memory : IsErrOf result NoMemory → Stays old new
  pub time : Elapses old new

pub record Creates {T : Type 0} (old new : View) (p : Place) (result : Result T DiskFault) : Type 0 where
  pub others : (q : Place) → q ≢ p → new.reading q ≡ old.reading q
  pub either : (new.reading p ≡ None) ⊎ Reads new p []
  pub done : OnOk result (Reads new p [])
  pub bytes_left : (q : Place) (c : List ℕ) → new.bytes_left q c → old.bytes_left q c ⊎ ((q ≡ p) × (c ≡ []))
  -- where it failed it may have happened: an empty file may be there after a crash, also where none is listed
  pub else_left : (q : Place) (o : Option (List ℕ)) → new.else_left q o → old.else_left q o ⊎ ((q ≡ p) × (o ≡ Some []))
  pub no_memory : IsErrOf result NoMemory → Stays old new
  pub time : Elapses old new

pub record Removes {T : Type 0} (old new : View) (p : Place) (result : Result T DiskFault) : Type 0 where
  pub others : (q : Place) → q ≢ p → new.reading q ≡ old.reading q
  pub either : (new.reading p ≡ None) ⊎ (new.reading p ≡ old.reading p)
  pub done : OnOk result (new.reading p ≡ None)
  pub bytes_left : (q : Place) (c : List ℕ) → new.bytes_left q c → old.bytes_left q c
  pub else_left : (q : Place) (o : Option (List ℕ)) → new.else_left q o → old.else_left q o ⊎ ((q ≡ p) × ((o ≡ None) ⊎ MayHold old p o))
  pub no_memory : IsErrOf result NoMemory → Stays old new
  pub time : Elapses old new

pub record Syncs {T : Type 0} (old new : View) (p : Place) (result : Result T DiskFault) : Type 0 where
  pub stays : Stays old new
  -- the bytes of its file, and each creation and removal
  pub bytes : OnOk result ((c : List ℕ) → new.bytes_left p c → Reads new p c)
  pub names : OnOk result ((q : Place) (o : Option (List ℕ)) → new.else_left q o → (o ≡ None) × (new.reading q ≡ None))
  pub time : Elapses old new

-- what a read of so many bytes puts to the front of a buffer
pub record ReadsInto (bytes : List ℕ) (at : ℕ) (before after : List ℕ) (n : ℕ) : Type 0 where
  pub count : n ≡ min (length before) (length bytes - at)
  pub front : take n after ≡ take n (drop at bytes)
  pub rest : drop n after ≡ drop n before
