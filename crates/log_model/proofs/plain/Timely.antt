-- What admission says of the sequences of an entry. For `admitted_is_replayed`.
use Rattle.std.proofs.Common.{◌≡◌, ℕ, ◌+◌, ◌<◌, ◌≤◌, Bool, true, false, cond, not, ◌||◌, nat_le, nat_lt, List, [], ◌∷◌, Option, Some, None, refl, leb-false, ltb-false}
use Rattle.std.proofs.lemmas.Bool.{or_parts}
use Rattle.host_types.specs.declared.entry.Ask.{Ask}
use Rattle.host_types.specs.declared.entry.Ask.TheVariants.{Register, Alive, Unregister, Tick, Command}
use Rattle.host_types.specs.declared.entry.Op.{Op}
use Rattle.host_types.specs.declared.entry.Body.{Body}
use Rattle.host_types.specs.declared.entry.Body.TheVariants.{Alive as Kept_alive, Command as Commanded}
use Rattle.host_types.specs.declared.entry.Refusal.{Refusal}
use Rattle.host_types.specs.declared.entry.Refusal.TheVariants.{Ack, Forgotten, Gap}
use Rattle.log_model.specs.plain.Plain.{Session, State, Kept_reply, session_in}
use Rattle.log_model.specs.plain.Admission.{Item, Offered, Expired, Admission, Admitted, Refused, refused_if, repeat_or_forgotten, reply_kept, admits_seq, admits_alive, admits_asked, declined_by, is_event_of, of_session}
use Rattle.host_types.specs.Limits.{index_limit}
use Rattle.log_model.specs.plain.Commands.{Outcome, Decided, Declined, outcome}
use Rattle.log_model.specs.plain.Stored.{decided_body, body_of, command_body, entry_of, is_admitted}
use Rattle.log_model.specs.hosted.Hosted.{Hosted, hosted_choice, hosted_declined, is_hosted_admitted, choice_body, hosted_command, hosted_entry}
use Rattle.host_types.specs.Decision.{Choice, Decides, Declines, MachineDecision}
use Rattle.log_model.proofs.plain.Tracks.{found_session, refusals, passed}

-- the sequences and the event of an entry, for its session
pub record AliveFits (seq event : ℕ) (x : Session) : Type 0 where
  pub rises : x.acked_seq ≤ seq
  pub heard : seq ≤ x.seq
  pub known : is_event_of event x ≡ true

pub record SeqFits (seq : ℕ) (x : Session) : Type 0 where
  pub rises : x.seq < seq
  pub ranged : seq ≤ index_limit

abbrev pub Timely : List Session → Body → Type 0
Timely ss (Kept_alive session seq event) = (x : Session) × (found_session session ss ≡ Some x) × AliveFits seq event x
Timely ss (Commanded session seq effect reply) = (x : Session) × (found_session session ss ≡ Some x) × SeqFits seq x
Timely ss _ = Unit {0}

pub unrefused : (b : Bool) (r : Refusal) → refused_if b r ≡ Admitted → b ≡ false
unrefused true r e = absurd (cc)
unrefused false r e = refl

pub there : (id : ℕ) (o : Option Session) (rest : Session → Admission) → of_session id o rest ≡ Admitted → (x : Session) × (o ≡ Some x) × (rest x ≡ Admitted)
there id None rest e = absurd (cc)
there id (Some x) rest e = (x, refl, e)

alive_fits : (seq event : ℕ) (x : Session) → admits_alive seq event x ≡ Admitted → AliveFits seq event x
alive_fits seq event x e =
    let a = or_parts (nat_lt seq x.acked_seq || nat_lt x.seq seq) (not (is_event_of event x)) (unrefused (nat_lt seq x.acked_seq || nat_lt x.seq seq || not (is_event_of event x)) (Ack x.acked_seq x.acked_event) e) in
    let b = or_parts (nat_lt seq x.acked_seq) (nat_lt x.seq seq) a.0 in
    record { rises = ltb-false seq x.acked_seq b.0; heard = ltb-false x.seq seq b.1; known = positive (is_event_of event x) a.1 }
  where
    positive : (b : Bool) → not b ≡ false → b ≡ true
    positive true e = refl
    positive false e = absurd (cc)

pub seq_fits : (seq : ℕ) (x : Session) → admits_seq seq x ≡ Admitted → SeqFits seq x
seq_fits seq x e = go (nat_le seq x.acked_seq) refl e
  where
    never : (o : Option Kept_reply) → repeat_or_forgotten x o ≡ Admitted → ⊥
    never None e = absurd (cc)
    never (Some r) e = absurd (cc)

    rest : (b : Bool) → nat_le seq x.seq ≡ b → cond b (repeat_or_forgotten x (reply_kept seq x)) (refused_if (nat_lt (x.seq + 1) seq || nat_lt index_limit seq) (Gap (x.seq + 1))) ≡ Admitted → SeqFits seq x
    rest true t e = absurd (never (reply_kept seq x) e)
    rest false t e =
        let l = leb-false seq x.seq t in
        let a = or_parts (nat_lt (x.seq + 1) seq) (nat_lt index_limit seq) (unrefused (nat_lt (x.seq + 1) seq || nat_lt index_limit seq) (Gap (x.seq + 1)) e) in
        let b = ltb-false index_limit seq a.1 in
        record { rises = l; ranged = b }

    go : (b : Bool) → nat_le seq x.acked_seq ≡ b → cond b (Refused (Forgotten x.acked_seq)) (cond (nat_le seq x.seq) (repeat_or_forgotten x (reply_kept seq x)) (refused_if (nat_lt (x.seq + 1) seq || nat_lt index_limit seq) (Gap (x.seq + 1)))) ≡ Admitted → SeqFits seq x
    go true t e = absurd (cc)
    go false t e = rest (nat_le seq x.seq) refl e

-- what admission says of the body of an entry
body_timely : (ss : List Session) (declined : ℕ → List ℕ → Op → Admission) (commanded : ℕ → ℕ → List ℕ → Op → Body) → ((session seq : ℕ) (name : List ℕ) (op : Op) → (x : Session) × (found_session session ss ≡ Some x) × SeqFits seq x → Timely ss (commanded session seq name op)) → (a : Ask) → admits_asked ss declined a ≡ Admitted → Timely ss (body_of commanded a)
body_timely ss declined commanded commands (Register timeout) ok = tt
body_timely ss declined commanded commands (Alive session seq event) ok =
    let x = there session (session_in session ss) (admits_alive seq event) ok in
    (x.0, x.1, alive_fits seq event x.0 x.2)
body_timely ss declined commanded commands (Unregister session) ok = tt
body_timely ss declined commanded commands Tick ok = tt
body_timely ss declined commanded commands (Command session seq name op) ok =
    let r = refusals (of_session session (session_in session ss) (admits_seq seq)) (declined session name op ∷ []) ok in
    let x = there session (session_in session ss) (admits_seq seq) r.0 in
    commands session seq name op (x.0, x.1, seq_fits seq x.0 x.2)

pub timely : (s : State) (item : Item) → is_admitted s item ≡ true → Timely s.sessions (entry_of s item).body
timely s (Expired time session) ok = tt
timely s (Offered o) ok = body_timely s.sessions (declined_by s) (command_body s) (λ session seq name op. decided session seq (outcome s name session op)) o.ask (passed s.last s.now s.sessions (declined_by s) o.time o.ask ok).ask
  where
    decided : (session seq : ℕ) (out : Outcome) → (x : Session) × (found_session session s.sessions ≡ Some x) × SeqFits seq x → Timely s.sessions (decided_body session seq out)
    decided session seq (Decided effect reply ns told) h = h
    decided session seq (Declined refusal) h = tt

pub hosted_timely : (d : MachineDecision) (s : Hosted) (item : Item) → is_hosted_admitted d s item ≡ true → Timely s.sessions (hosted_entry d s item).body
hosted_timely d s (Expired time session) ok = tt
hosted_timely d s (Offered o) ok = body_timely s.sessions (hosted_declined d s) (hosted_command d s) (λ session seq name op. decided session seq (hosted_choice d s session name op)) o.ask (passed s.last s.now s.sessions (hosted_declined d s) o.time o.ask ok).ask
  where
    decided : (session seq : ℕ) (c : Choice) → (x : Session) × (found_session session s.sessions ≡ Some x) × SeqFits seq x → Timely s.sessions (choice_body session seq c)
    decided session seq (Decides effect reply) h = h
    decided session seq (Declines refusal) h = tt
