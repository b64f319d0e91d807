-- What callers see of a session's replies.
use Rattle.std.specs.Prelude.{ℕ, ◌==◌, List, map, Option}
use Rattle.std.specs.List.{find}
use Rattle.log_model.specs.plain.Plain.{Kept_reply}

-- the kept replies, and for how many more there is room
pub record Kept_replies : Type 0 where
  pub replies : List Kept_reply
  pub room : ℕ

abbrev pub with_seq : ℕ → List Kept_reply → Option Kept_reply
with_seq seq rs = find (λ r. r.seq == seq) rs

abbrev pub reply_seqs : List Kept_reply → List ℕ
reply_seqs rs = map (λ r. r.seq) rs

abbrev pub reply_indexes : List Kept_reply → List ℕ
reply_indexes rs = map (λ r. r.index) rs
