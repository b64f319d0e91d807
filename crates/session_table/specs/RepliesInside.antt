-- How the replies of a session are kept.
use Rattle.std.specs.Prelude.{◌-◌, map}
use Rattle.std.specs.VecDeque.{deque_len, deque_capacity}
use Rattle.log_model.specs.plain.Plain.{Kept_reply}
use Rattle.event_batches.specs.Rising.{Rises}
use Rattle.session_table.specs.Replies.{Kept_replies}
use Rattle.session_table.specs.declared.replies.KeptReply.{KeptReply}
use Rattle.session_table.specs.declared.replies.Replies.TheInside.{Inside}

abbrev pub as_reply : KeptReply → Kept_reply
as_reply r = record { seq = r.seq; index = r.index; reply = r.reply }

abbrev pub replies_shown : Inside → Kept_replies
replies_shown a = record { replies = map as_reply a.kept.items; room = deque_capacity a.kept - deque_len a.kept }

-- sequences and indexes rise
pub record AreRising (a : Inside) : Type 0 where
  pub seqs : Rises 0 (map (λ r. r.seq) a.kept.items)
  pub indexes : Rises 0 (map (λ r. r.index) a.kept.items)
