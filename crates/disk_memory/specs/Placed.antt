-- A file that is set from outside, settled.
use Rattle.std.specs.Prelude.{◌≡◌, ◌≢◌, ℕ, List, Option}
use Rattle.disk_model.specs.Image.{Place}
use Rattle.disk_model.specs.View.{View, Reads, EachSettled, IsSettled, Elapses}

pub record Places (old new : View) (p : Place) (bytes : List ℕ) : Type 0 where
  pub here : Reads new p bytes
  pub others : (q : Place) → q ≢ p → new.reading q ≡ old.reading q
  pub settled : IsSettled new p
  pub bytes_left : (q : Place) (c : List ℕ) → q ≢ p → new.bytes_left q c → old.bytes_left q c
  pub else_left : (q : Place) (o : Option (List ℕ)) → q ≢ p → new.else_left q o → old.else_left q o
  pub all_settled : EachSettled old → EachSettled new
  pub time : Elapses old new
