-- What callers see of the fields of the table.
use Rattle.std.specs.Prelude.{ℕ, ◌-◌, min, cond, nat_le, length, map}
use Rattle.std.specs.VecDeque.{deque_len, deque_capacity}
use Rattle.slab.specs.Slab.{slab_len}
use Rattle.event_batches.specs.Rising.{Rises}
use Rattle.session_table.specs.Table.{Table}
use Rattle.session_table.specs.Rows.{seats, AreSeated, AreTimely, beside_of, room_of}
use Rattle.session_table.specs.declared.sessions.Sessions.TheInside.{Inside}

-- for how many more sessions there is room, if each key has a place for its deadline
abbrev pub spare_of : ℕ → ℕ → ℕ → ℕ → ℕ
spare_of keys places rows slots = cond (nat_le keys places) (min rows slots) 0

abbrev pub table : Inside → Table
table a = record {
  sessions = map (λ seat. seat.kept.session) (seats a.order.items a.slots);
  beside = map beside_of (seats a.order.items a.slots);
  rooms = map room_of (seats a.order.items a.slots);
  spare = spare_of a.slots.capacity (length a.deadlines) (deque_capacity a.order - deque_len a.order) (a.slots.capacity - slab_len a.slots);
}

-- the rows rise by id, and each has its session; each session has its deadline
pub record IsInOrder (a : Inside) : Type 0 where
  pub rising : Rises 0 (map (λ row. row.register) a.order.items)
  pub seated : AreSeated a.order.items a.slots
  pub timely : AreTimely a.slots a.deadlines
