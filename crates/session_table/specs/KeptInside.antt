-- How an open session is kept.
use Rattle.std.specs.Prelude.{◌+◌}
use Rattle.event_batches.specs.Rising.{AreBelow}
use Rattle.session_table.specs.Replies.{reply_seqs}
use Rattle.session_table.specs.Kept.{Kept_session}
use Rattle.session_table.specs.declared.open_session.OpenSession.TheInside.{Inside}

abbrev pub session_shown : Inside → Kept_session
session_shown a = record {
  session = record { id = a.id; timeout = a.timeout; last_time = a.last_time; seq = a.seq; acked_seq = a.acked_seq; acked_event = a.batches.acked; replies = a.replies.replies; batches = a.batches.batches };
  confirmed = a.batches.confirmed;
  reply_room = a.replies.room;
  batch_room = a.batches.room;
}

-- no kept reply has a later sequence
abbrev pub SeqIsLast : Inside → Type 0
SeqIsLast a = AreBelow (a.seq + 1) (reply_seqs a.replies.replies)
