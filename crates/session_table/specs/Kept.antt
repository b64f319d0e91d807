-- What the table sees of one open session.
use Rattle.std.specs.Prelude.{ℕ, ◌++◌, List, map}
use Rattle.log_model.specs.plain.Plain.{Kept_batch, Session}
use Rattle.session_table.specs.Replies.{reply_indexes}

-- the session as the model has it, the event that was confirmed last, and for how many more replies and batches there is room
pub record Kept_session : Type 0 where
  pub session : Session
  pub confirmed : ℕ
  pub reply_room : ℕ
  pub batch_room : ℕ

abbrev pub batch_indexes : List Kept_batch → List ℕ
batch_indexes bs = map (λ b. b.index) bs

-- the indexes at which it keeps a reply or a batch
abbrev pub session_indexes : Session → List ℕ
session_indexes x = reply_indexes x.replies ++ batch_indexes x.batches
