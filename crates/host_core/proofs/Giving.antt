-- The batches of one entry: how they are given to the sessions.
use Rattle.std.proofs.Common.{◌≡◌, ◌≢◌, ℕ, ◌≤◌, ◌<◌, Bool, true, false, cond, ◌==◌, nat_le, nat_lt, List, [], ◌∷◌, ◌++◌, map, length, Option, Some, None, is_some, unwrap_or, refl, sym, ap, subst, ◌∙◌, arith, append-nil, eqb-true, eq-eqb}
use Rattle.std.proofs.lemmas.Bool.{false_from_ne_true}
use Rattle.std.specs.List.{filter, AllByRecursion}
use Rattle.std.specs.Ordering.{nat_cmp, is_eq}
use Rattle.std.specs.BTreeMap.{is_at}
use Rattle.host_types.specs.declared.entry.Event.{Event}
use Rattle.log_model.specs.plain.Plain.{Session, session_in}
use Rattle.log_model.specs.plain.Step.{changed, events_of}
use Rattle.log_model.specs.replay.Replay.{pushed, replay_batches}
use Rattle.log_model.proofs.plain.OneSession.{changed_found}
use Rattle.log_model.proofs.replay.Rising.{push_id}
use Rattle.session_table.specs.Asked.{NewerBatch}
use Rattle.session_table.specs.Table.{Table, batch_room, session_at}
use Rattle.host_core.specs.Batching.{AreBatchesOf, Batches, CanTake, CanTakeAll, batch_at, events_in, hears, some_events, told_above}

-- ---- one batch

-- no events make no batch
pub pushed_nothing : (i : ℕ) (x : Session) → pushed i [] x ≡ x
pushed_nothing i x = elim (nat_le i x.acked_event) as (λ b. cond b x (record x { batches = x.batches ++ [] }) ≡ x) [ true ↦ refl | false ↦ ap (λ bs. record x { batches = bs }) (append-nil x.batches) ]

at_id : (a b : ℕ) → is_at (nat_cmp a) b ≡ (a == b)
at_id a b = grind (arith, Rattle.std.proofs.lemmas.Bool.Decides.nat_tests)

-- ---- one batch after another

abbrev pub given : ℕ → Batches → List Session → List Session
given i batches ss = map (λ x. pushed i (events_in x.id batches) x) ss

-- what is left to be given, when the batch of one session was
abbrev IsLeft : ℕ → Batches → Batches → Type 0
IsLeft id old new = (q : ℕ) → batch_at q new ≡ cond (is_at (nat_cmp id) q) None (batch_at q old)

left_at : (id : ℕ) (old new : Batches) → IsLeft id old new → (q : ℕ) → batch_at q new ≡ cond (id == q) None (batch_at q old)
left_at id old new left q = left q ∙ ap (λ b. cond b None (batch_at q old)) (at_id id q)

pub given_one : (i id : ℕ) (es : List Event) (old new : Batches) → batch_at id old ≡ Some es → IsLeft id old new → (ss : List Session) → given i new (changed id (pushed i es) ss) ≡ given i old ss
given_one i id es old new has left [] = refl
given_one i id es old new has left (x ∷ ss) = λ j. one j ∷ given_one i id es old new has left ss j
  where
    events : List Event → Option (List Event) → List Event
    events d o = unwrap_or o d

    one : pushed i (events_in (cond (x.id == id) (pushed i es x) x).id new) (cond (x.id == id) (pushed i es x) x) ≡ pushed i (events_in x.id old) x
    one = elim (x.id == id) as (λ b. (x.id == id) ≡ b → pushed i (events_in (cond b (pushed i es x) x).id new) (cond b (pushed i es x) x) ≡ pushed i (events_in x.id old) x) [
      | true ↦ λ t.
          let same : x.id ≡ id = eqb-true x.id id t in
          let none : batch_at (pushed i es x).id new ≡ None = ap (λ n. batch_at n new) (push_id i es x ∙ same) ∙ left_at id old new left id ∙ ap (λ b. cond b None (batch_at id old)) (eq-eqb id id refl) in
          let some : batch_at x.id old ≡ Some es = ap (λ n. batch_at n old) same ∙ has in
          ap (λ o. pushed i (unwrap_or o []) (pushed i es x)) none ∙ pushed_nothing i (pushed i es x) ∙ ap (λ o. pushed i (unwrap_or o []) x) (sym some)
      | false ↦ λ t.
          ap (λ o. pushed i (unwrap_or o []) x) (left_at id old new left x.id ∙ ap (λ b. cond b None (batch_at x.id old)) (false_from_ne_true (id == x.id) (λ u. let yes = eq-eqb x.id id (sym (eqb-true id x.id u)) in absurd (cc))))
    ] refl

-- nothing is left to be given
given_none : (i : ℕ) (ss : List Session) → given i [] ss ≡ ss
given_none i [] = refl
given_none i (x ∷ ss) = λ j. pushed_nothing i x j ∷ given_none i ss j

pub given_all : (i : ℕ) (batches : Batches) → (0 < length batches → ⊥) → (ss : List Session) → given i batches ss ≡ ss
given_all i [] none ss = given_none i ss
given_all i (b ∷ batches) none ss = absurd (none (omega arith))

-- the others can take theirs still
pub can_take_rest : (i id : ℕ) (es : List Event) (old new : Batches) (table table' : Table) → IsLeft id old new → CanTakeAll i table old → table'.sessions ≡ changed id (pushed i es) table.sessions
    → ((other : ℕ) → other ≢ id → batch_room other table ≤ batch_room other table') → CanTakeAll i table' new
can_take_rest i id es old new table table' left can sessions rooms q has = go (id == q) refl
  where
    go : (b : Bool) → (id == q) ≡ b → CanTake i table' q
    go true t = let none = left_at id old new left q ∙ ap (λ b. cond b None (batch_at q old)) t in absurd (cc)
    go false t =
        let same : batch_at q new ≡ batch_at q old = left_at id old new left q ∙ ap (λ b. cond b None (batch_at q old)) t in
        let before = can q (ap is_some (sym same) ∙ has) in
        let other : q ≢ id = λ e. (let yes = eq-eqb id q (sym e) in absurd (cc)) in
        let found : session_at q table' ≡ session_at q table =
        ap (session_in q) sessions ∙ changed_found q id (pushed i es) (push_id i es) table.sessions
        ∙ ap (λ b. cond b (Rattle.std.specs.Option.option_map (pushed i es) (session_at q table)) (session_at q table)) (false_from_ne_true (q == id) (λ u. other (eqb-true q id u))) in
        let room = rooms q other in
        record {
          opened = ap is_some found ∙ before.opened;
          room = (let enough = before.room in omega (arith, enough, room));
          newer = subst (NewerBatch i) (sym found) before.newer;
        }

-- ---- all batches

-- each session that hears has its events
pub given_as_told : (i : ℕ) (told : List (ℕ × Event)) (ended : Option ℕ) (sessions : List Session) (batches : Batches) → AreBatchesOf told ended sessions batches
    → (ss : List Session) → AllByRecursion (λ (x : Session). hears ended sessions x.id ≡ true) ss → given i batches ss ≡ map (λ x. pushed i (events_of x.id told) x) ss
given_as_told i told ended sessions batches are [] hear = refl
given_as_told i told ended sessions batches are (x ∷ ss) hear = λ j. pushed i (one j) x ∷ given_as_told i told ended sessions batches are ss hear.1 j
  where
    some : (es : List Event) → unwrap_or (some_events es) [] ≡ es
    some [] = refl
    some (e ∷ es) = refl

    one : events_in x.id batches ≡ events_of x.id told
    one = ap (λ o. unwrap_or o []) (are x.id) ∙ some (cond (hears ended sessions x.id) (events_of x.id told) []) ∙ ap (λ b. cond b (events_of x.id told) []) hear.0

-- above the cut, and none at or below it
pub given_above : (cut i : ℕ) (told : List (ℕ × Event)) (ended : Option ℕ) (sessions : List Session) (batches : Batches) → AreBatchesOf (told_above cut i told) ended sessions batches
    → (ss : List Session) → AllByRecursion (λ (x : Session). hears ended sessions x.id ≡ true) ss → given i batches ss ≡ replay_batches cut i told ss
given_above cut i told ended sessions batches are ss hear =
    given_as_told i (told_above cut i told) ended sessions batches are ss hear
    ∙ elim (nat_lt cut i) as (λ b. map (λ x. pushed i (events_of x.id (cond b told [])) x) ss ≡ cond b (map (λ x. pushed i (events_of x.id told) x) ss) ss) [ true ↦ refl | false ↦ given_none i ss ]
