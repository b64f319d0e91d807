-- The cells of a host are the machine's, and behind them the places of sessions.
use Rattle.std.specs.Prelude.{ℕ}
use Rattle.host_types.specs.declared.entry.Body.TheVariants.{Tick, Command}
use Rattle.host_types.specs.declared.entry.Entry.{Entry}
use Rattle.host_types.specs.Cells.{Cells}
use Rattle.log_model.specs.cleaning.Cells.{after}

-- what the entry i makes of the places of sessions
abbrev pub sessions_after : ℕ → Entry → Cells → Cells
sessions_after i e table = elim e.body [ Tick ↦ table | Command session seq effect reply ↦ table | _ ↦ after table i e ]
