-- What callers see of a host: its disk, what it remembers of the log's files, its core, the size of a new file, and whether it is
-- stopped.
use Rattle.std.specs.Prelude.{ℕ, Bool, refl}
use Rattle.std.specs.Coded.{Coded, code_by, coded×, coded_ℕ, coded_bool}
use Rattle.segment_set.specs.declared.parts.Parts.{Parts}
use Rattle.host_core.specs.CoreState.{CoreState}

pub record HostState (D M : Type 0) : Type 0 where
  pub disk : D
  pub parts : Parts
  pub core : CoreState M
  pub size : ℕ
  pub stopped : Bool

abbrev pub host_code : {D M : Type 0} → Coded D → Coded Parts → Coded (CoreState M) → Coded (HostState D M)
host_code {D} {M} disk parts core =
    code_by (D × (Parts × (CoreState M × (ℕ × Bool)))) (coded× disk (coded× parts (coded× core (coded× coded_ℕ coded_bool))))
    (λ h. (h.disk, (h.parts, (h.core, (h.size, h.stopped)))))
    (λ p. record { disk = p.0; parts = p.1.0; core = p.1.1.0; size = p.1.1.1.0; stopped = p.1.1.1.1 })
    (λ _. refl)
