use Rattle.std.proofs.Common.{◌≡◌, ℕ, ◌≤◌, map, length}
use Rattle.log_model.specs.replay.Replay.{pushed}
use Rattle.session_table.specs.Table.{reply_room}
use Rattle.host_core.specs.Batching.{CanTakeAll, events_in}
use Rattle.host_core.proofs.batching.push_all.Given as goal

abbrev pub invariant-loop-session : goal.invariant-loop-session
invariant-loop-session l =
    (map (λ x. pushed l.index (events_in x.id l.batches.entries) x) l.sessions.sessions ≡ map (λ x. pushed l.index (events_in x.id l.fn.batches.entries) x) l.fn.sessions.sessions)
    × CanTakeAll l.index l.sessions l.batches.entries
    × (l.sessions.beside ≡ l.fn.sessions.beside)
    × ((other : ℕ) → reply_room other l.fn.sessions ≤ reply_room other l.sessions)

abbrev pub decreases-loop-session : goal.decreases-loop-session
decreases-loop-session l = length l.batches.entries
