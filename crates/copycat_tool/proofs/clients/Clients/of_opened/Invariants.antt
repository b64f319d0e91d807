-- The clients of the sessions that were looked at are there.
use Rattle.std.proofs.Common.{◌≡◌, ℕ, ◌==◌, false}
use Rattle.std.specs.List.{list_any}
use Rattle.std.specs.Vec.Iter.{into_iter_items}
use Rattle.log_model.specs.serving.Positions.{acked_positions, event_at}
use Rattle.copycat_tool.specs.ClientTakes.{client_of}
use Rattle.copycat_tool.proofs.clients.Clients.of_opened.Given as goal

abbrev pub invariant-loop-id : goal.invariant-loop-id
invariant-loop-id g l = record {
  next : (goal.iterator-loop-id g).can_next l.id-iterator;
  finite : (goal.iterator-loop-id g).is_finite l.id-iterator;
  are : (id : ℕ) → list_any (λ other. other == id) (into_iter_items l.id-iterator) ≡ false → client_of l.clients id ≡ event_at id id (acked_positions l.fn.host.core.sessions.sessions);
}
