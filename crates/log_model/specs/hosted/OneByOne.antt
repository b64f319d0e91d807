-- Sessions that are changed one by one, as a table of sessions does it.
use Rattle.std.specs.Prelude.{◌≡◌, ℕ, List}
use Rattle.log_model.specs.plain.Plain.{Session}
use Rattle.log_model.specs.plain.Step.{changed}

-- two changes of one session are one
abbrev pub ChangesCompose : Type 0
ChangesCompose =
    (id : ℕ) (first second : Session → Session) (sessions : List Session)
    → ((x : Session) → (first x).id ≡ x.id)
    → changed id second (changed id first sessions) ≡ changed id (λ x. second (first x)) sessions
