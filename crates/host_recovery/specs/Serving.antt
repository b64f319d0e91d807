-- What a host answers to an acknowledgement.
use Rattle.std.specs.Prelude.{◌≡◌, ℕ, true, false, None, Result, Ok, Err}
use Rattle.session_table.specs.Asked.{confirms}
use Rattle.session_table.specs.Table.{IsOpen, Table, confirmed_of, session_at}
use Rattle.host_recovery.specs.declared.serving.AckError.{AckError}
use Rattle.host_recovery.specs.declared.serving.AckError.TheVariants as errors

-- it is confirmed exactly where it is served or was confirmed last
abbrev pub IsAcknowledged : ℕ → ℕ → Table → Result (Unit {0}) AckError → Type 0
IsAcknowledged session event t (Ok done) = IsOpen session t × (confirms session event t ≡ true)
IsAcknowledged session event t (Err errors.NoSession) = session_at session t ≡ None
IsAcknowledged session event t (Err (errors.NotServed confirmed)) = IsOpen session t × (confirms session event t ≡ false) × (confirmed ≡ confirmed_of session t)
