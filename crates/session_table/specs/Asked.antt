-- What is asked of one session of the table, and what it has to be given.
use Rattle.std.specs.Prelude.{ℕ, ◌<◌, Bool, false, map, Option, Some, None}
use Rattle.log_model.specs.plain.Plain.{Session}
use Rattle.log_model.specs.serving.Batches as model
use Rattle.event_batches.specs.Kept.{served, has_batch, can_confirm}
use Rattle.event_batches.specs.Rising.{AreBelow}
use Rattle.session_table.specs.Table.{Table, session_at, confirmed_of}

-- the sequence is above the last one, and the index above those of the kept replies
abbrev pub NewerReply : ℕ → ℕ → Option Session → Type 0
NewerReply seq index None = Unit {0}
NewerReply seq index (Some x) = (x.seq < seq) × AreBelow index (map (λ r. r.index) x.replies)

-- the index is above those of the kept batches
abbrev pub NewerBatch : ℕ → Option Session → Type 0
NewerBatch index None = Unit {0}
NewerBatch index (Some x) = AreBelow index (map (λ b. b.index) x.batches)

abbrev pub served_in : ℕ → Option Session → Option model.Batch
served_in confirmed None = None
served_in confirmed (Some x) = served x.acked_event confirmed x.batches

-- the batch to be served: the first kept one above the confirmed event, with its previous index
abbrev pub batch_at : ℕ → Table → Option model.Batch
batch_at id t = served_in (confirmed_of id t) (session_at id t)

abbrev pub keeps_batch : ℕ → Option Session → Bool
keeps_batch event None = false
keeps_batch event (Some x) = has_batch event x.batches

abbrev pub batch_is_kept : ℕ → ℕ → Table → Bool
batch_is_kept id event t = keeps_batch event (session_at id t)

abbrev pub confirms_in : ℕ → ℕ → Option Session → Bool
confirms_in event confirmed None = false
confirms_in event confirmed (Some x) = can_confirm event x.acked_event confirmed x.batches

-- the event is that of the batch to be served, or was confirmed last
abbrev pub confirms : ℕ → ℕ → Table → Bool
confirms id event t = confirms_in event (confirmed_of id t) (session_at id t)
