use Rattle.std.proofs.Common.{◌≡◌, ℕ, cond, []}
use Rattle.log_model.specs.plain.Step.{events_of}
use Rattle.session_table.specs.Table.{IsSame, KeepsRoom}
use Rattle.host_core.specs.Batching.{HaveBatchRoom, batch_at, hears, some_events}
use Rattle.host_core.proofs.batching.gather.Given as goal

abbrev pub invariant-loop-session : goal.invariant-loop-session
invariant-loop-session l =
    ((id : ℕ) → batch_at id l.batches.entries ≡ some_events (cond (hears l.ended l.fn.sessions.sessions id) (events_of id l.yielded) []))
    × HaveBatchRoom l.ended l.sessions l.batches.entries
    × IsSame l.fn.sessions l.sessions
    × ((other : ℕ) → KeepsRoom other l.fn.sessions l.sessions)
    × (l.sessions.spare ≡ l.fn.sessions.spare)
