-- What is decided where a session asks to listen, or to listen no more.
use Rattle.std.specs.Prelude.{ℕ, true, false, cond, List, Some}
use Rattle.std.specs.Ordering.{nat_cmp}
use Rattle.host_types.specs.declared.entry.Cell.TheVariants.{Of}
use Rattle.host_types.specs.declared.entry.Content.TheVariants.{Mark}
use Rattle.host_types.specs.declared.entry.Effect.TheVariants.{Nothing, Put, Drop}
use Rattle.host_types.specs.declared.entry.Reply.TheVariants.{Truth}
use Rattle.machine.specs.declared.decision.Decision.{Decision}
use Rattle.log_model.specs.plain.Plain.{has_item}

abbrev pub listen_decision : ℕ → ℕ → List ℕ → Decision
listen_decision m session listeners = cond (has_item nat_cmp session listeners) (record { effect = Nothing; reply = Truth false }) (record { effect = Put m (Of session) Mark (Some session); reply = Truth true })

abbrev pub unlisten_decision : ℕ → ℕ → List ℕ → Decision
unlisten_decision m session listeners = cond (has_item nat_cmp session listeners) (record { effect = Drop m (Of session); reply = Truth true }) (record { effect = Nothing; reply = Truth false })
