-- Which offers are admitted, and who expires. What is refused changes nothing; the first cause of a refusal is told.
use Rattle.std.specs.Prelude.{ℕ, ◌+◌, ◌-◌, Bool, cond, not, ◌&&◌, ◌||◌, nat_le, nat_lt, ◌==◌, List, [], ◌∷◌, length, Option, Some, None}
use Rattle.std.specs.List.{list_any, find}
use Rattle.host_types.specs.Limits.{index_limit}
use Rattle.host_types.specs.declared.entry.Offer.{Offer}
use Rattle.host_types.specs.declared.entry.Ask.{Ask}
use Rattle.host_types.specs.declared.entry.Ask.TheVariants.{Register, Alive, Unregister, Tick, Command}
use Rattle.host_types.specs.declared.entry.Op.{Op}
use Rattle.host_types.specs.declared.entry.Reply.{Reply}
use Rattle.host_types.specs.declared.entry.Refusal.{Refusal}
use Rattle.host_types.specs.declared.entry.Refusal.TheVariants.{Time, Due, NoSession, Forgotten, Gap, Ack, Sessions, LogEnd}
use Rattle.log_model.specs.plain.Plain.{Kept_reply, Session, State, session_in}
use Rattle.log_model.specs.plain.Commands.{Outcome, outcome, Decided, Declined}

-- an offer, or the end of a session that is due
pub data Item : Type 0 where
  Offered : Offer → Item
  Expired : ℕ → ℕ → Item

-- how many sessions are open at most
abbrev pub session_limit : ℕ
session_limit = 1024

-- it is admitted; or it repeats a command whose reply is kept; or it is refused
pub data Admission : Type 0 where
  Admitted : Admission
  Repeats : Reply → Admission
  Refused : Refusal → Admission

-- the first of these that isn't Admitted
abbrev pub first_refusal : List Admission → Admission
first_refusal [] = Admitted
first_refusal (Admitted ∷ rest) = first_refusal rest
first_refusal (Repeats reply ∷ rest) = Repeats reply
first_refusal (Refused refusal ∷ rest) = Refused refusal

abbrev pub refused_if : Bool → Refusal → Admission
refused_if b refusal = cond b (Refused refusal) Admitted

-- its time has passed its last sign of life by more than its timeout
abbrev pub is_due : ℕ → Session → Bool
is_due time x = nat_lt x.last_time time && nat_lt x.timeout (time - x.last_time)

-- the due session with the least id
abbrev pub due_in : ℕ → List Session → Option ℕ
due_in time sessions = elim (find (is_due time) sessions) [ None ↦ None | Some x ↦ Some x.id ]

abbrev pub due : ℕ → State → Option ℕ
due time s = due_in time s.sessions

abbrev pub refused_due : Option ℕ → Admission
refused_due None = Admitted
refused_due (Some id) = Refused (Due id)

abbrev pub refused_outcome : Outcome → Admission
refused_outcome (Decided effect reply names told) = Admitted
refused_outcome (Declined refusal) = Refused refusal

abbrev pub reply_kept : ℕ → Session → Option Kept_reply
reply_kept seq x = find (λ r. r.seq == seq) x.replies

abbrev pub repeat_or_forgotten : Session → Option Kept_reply → Admission
repeat_or_forgotten x None = Refused (Forgotten x.acked_seq)
repeat_or_forgotten x (Some r) = Repeats r.reply

-- a command under this sequence: one that was acknowledged is forgotten, one that was stored repeats, and none is left out
abbrev pub admits_seq : ℕ → Session → Admission
admits_seq seq x = cond (nat_le seq x.acked_seq) (Refused (Forgotten x.acked_seq)) (cond (nat_le seq x.seq) (repeat_or_forgotten x (reply_kept seq x)) (refused_if (nat_lt (x.seq + 1) seq || nat_lt index_limit seq) (Gap (x.seq + 1))))

abbrev pub is_event_of : ℕ → Session → Bool
is_event_of event x = event == x.acked_event || list_any (λ b. b.index == event) x.batches

-- a keep-alive: its sequence is from the acknowledged to the last, its event is the acknowledged or one of the kept batches
abbrev pub admits_alive : ℕ → ℕ → Session → Admission
admits_alive seq event x = refused_if (nat_lt seq x.acked_seq || nat_lt x.seq seq || not (is_event_of event x)) (Ack x.acked_seq x.acked_event)

abbrev pub of_session : ℕ → Option Session → (Session → Admission) → Admission
of_session id None rest = Refused (NoSession id)
of_session id (Some x) rest = rest x

-- what is asked of these sessions, where it is known of each command whether its operation is declined
abbrev pub admits_asked : List Session → (ℕ → List ℕ → Op → Admission) → Ask → Admission
admits_asked sessions declined (Register timeout) = refused_if (nat_le session_limit (length sessions)) Sessions
admits_asked sessions declined (Alive session seq event) = of_session session (session_in session sessions) (admits_alive seq event)
admits_asked sessions declined (Unregister session) = of_session session (session_in session sessions) (λ _. Admitted)
admits_asked sessions declined Tick = Admitted
admits_asked sessions declined (Command session seq name op) = first_refusal (of_session session (session_in session sessions) (admits_seq seq) ∷ declined session name op ∷ [])

-- the time isn't below the log's
abbrev pub admits_time : ℕ → ℕ → Admission
admits_time now time = refused_if (nat_lt time now) (Time now)

-- the log isn't at its end
abbrev pub admits_more : ℕ → Admission
admits_more last = refused_if (nat_le index_limit last) LogEnd

-- an offer: the time, who is due, the ask itself, the end of the log, in this order
abbrev pub admits_offer : ℕ → ℕ → List Session → (ℕ → List ℕ → Op → Admission) → Offer → Admission
admits_offer last now sessions declined o = first_refusal (admits_time now o.time ∷ refused_due (due_in o.time sessions) ∷ admits_asked sessions declined o.ask ∷ admits_more last ∷ [])

-- whether the state declines a command
abbrev pub declined_by : State → ℕ → List ℕ → Op → Admission
declined_by s session name op = refused_outcome (outcome s name session op)

-- what is asked of the plain state
abbrev pub admits_ask : State → Ask → Admission
admits_ask s ask = admits_asked s.sessions (declined_by s) ask

-- an offer to the plain state
abbrev pub admits : State → Offer → Admission
admits s o = admits_offer s.last s.now s.sessions (declined_by s) o

-- who expires at a time
pub data Expiry : Type 0 where
  Expires : ℕ → Expiry
  Nobody : Expiry
  Not_now : Refusal → Expiry

abbrev pub expires_due : ℕ → Option ℕ → Expiry
expires_due last None = Nobody
expires_due last (Some id) = cond (nat_le index_limit last) (Not_now LogEnd) (Expires id)

-- who of these sessions expires
abbrev pub expires_in : ℕ → ℕ → List Session → ℕ → Expiry
expires_in last now sessions time = cond (nat_lt time now) (Not_now (Time now)) (expires_due last (due_in time sessions))

-- who of the plain state does
abbrev pub expires : State → ℕ → Expiry
expires s time = expires_in s.last s.now s.sessions time
