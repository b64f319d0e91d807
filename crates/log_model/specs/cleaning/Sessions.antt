-- The parts of a session that are read off the cells: those of its register entry and of its last keep-alive.
use Rattle.std.specs.Prelude.{◌≡◌, ℕ, ◌≤◌, List, [], Option, Some, None, IsTrue, length}
use Rattle.host_types.specs.declared.entry.Body.{Body}
use Rattle.host_types.specs.declared.entry.Body.TheVariants.{Register, Alive}
use Rattle.host_types.specs.declared.entry.Entry.{Entry}
use Rattle.host_types.specs.Cells.{Place, Register_at, Alive_at, Held, at}
use Rattle.log_model.specs.cleaning.Cells.{Numbered, cells, up_to}
use Rattle.log_model.specs.cleaning.Cleaning.{numbered, entry_at, Cleaned, is_lawful_from, HasOneOwner}

pub record Fields : Type 0 where
  pub timeout : ℕ
  pub last_time : ℕ
  pub acked_seq : ℕ
  pub acked_event : ℕ

abbrev pub entry_of_held : Numbered → Option Held → Option Entry
entry_of_held entries None = None
entry_of_held entries (Some held) = entry_at entries held.index

-- the entry that is held at a place
abbrev pub entry_held : Numbered → Place → Option Entry
entry_held entries place = entry_of_held entries (at (cells entries) place)

abbrev pub alive_fields : ℕ → Fields → ℕ → Body → Fields
alive_fields id fields time (Alive session seq event) = record { timeout = fields.timeout; last_time = time; acked_seq = seq; acked_event = event }
alive_fields id fields time _ = fields

abbrev pub with_alive : ℕ → Fields → Option Entry → Fields
with_alive id fields None = fields
with_alive id fields (Some e) = alive_fields id fields e.time e.body

abbrev pub register_fields : ℕ → ℕ → Body → Option Entry → Option Fields
register_fields id time (Register timeout) last = Some (with_alive id (record { timeout = timeout; last_time = time; acked_seq = 0; acked_event = id }) last)
register_fields id time _ last = None

abbrev pub open_fields : ℕ → Option Entry → Option Entry → Option Fields
open_fields id None last = None
open_fields id (Some e) last = register_fields id e.time e.body last

-- a session's fields, or none where it isn't open
abbrev pub fields_of : Numbered → ℕ → Option Fields
fields_of entries id = open_fields id (entry_held entries (Register_at id)) (entry_held entries (Alive_at id))

-- what is left of a lawful log gives its sessions' fields, at each moment from the cut on
abbrev pub SessionsLaw : Type 0
SessionsLaw =
    (left : Numbered) (all : List Entry) (quiet k f : ℕ) (owner_of : Place → Option ℕ)
    → IsTrue (is_lawful_from [] (numbered all))
    → HasOneOwner owner_of (numbered all)
    → Cleaned left all quiet k f
    → (m : ℕ) → k ≤ m → m ≤ length all
    → (id : ℕ) → fields_of (up_to m left) id ≡ fields_of (up_to m (numbered all)) id
