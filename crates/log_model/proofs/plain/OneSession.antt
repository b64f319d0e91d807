-- One session among the sessions of a state. For `keeps_the_rest`, `replay_law`.
use Rattle.std.proofs.Common.{◌≡◌, ◌⊎◌, ℕ, true, false, cond, not, ◌==◌, List, [], ◌∷◌, ◌++◌, Option, Some, None, refl, sym, ap, ◌∙◌, inl, inr, eq-eqb, eqb-true}
use Rattle.std.proofs.lemmas.Bool.{cases_eq, false_from_ne_true}
use Rattle.std.specs.List.{filter}
use Rattle.std.specs.Option.{option_map}
use Rattle.host_types.specs.declared.entry.Event.{Event}
use Rattle.log_model.specs.plain.Plain.{Session}
use Rattle.log_model.specs.plain.Step.{with_batches, one_batch, events_of, changed}
use Rattle.log_model.proofs.plain.Tracks.{find_passes, find_map, find_without, find_beside, changed_id, found_session}

abbrev pub or_new : Option Session → Option Session → Option Session
or_new None new = new
or_new (Some x) new = Some x

abbrev pub no_session : Option Session
no_session = None

abbrev pub with_batch : ℕ → List (ℕ × Event) → Session → Session
with_batch i told x = record x { batches = x.batches ++ one_batch i (events_of x.id told) }

pub push_found : (id : ℕ) (y : Session) (xs : List Session) → found_session id (xs ++ y ∷ []) ≡ or_new (found_session id xs) (cond (y.id == id) (Some y) None)
push_found id y [] = refl
push_found id y (x ∷ xs) =
    elim (x.id == id) as (λ b. cond b (Some x) (found_session id (xs ++ y ∷ [])) ≡ or_new (cond b (Some x) (found_session id xs)) (cond (y.id == id) (Some y) None)) [
      | true ↦ refl
      | false ↦ push_found id y xs
    ]

pub changed_found : (id session : ℕ) (f : Session → Session) → ((x : Session) → (f x).id ≡ x.id) → (xs : List Session) → found_session id (changed session f xs) ≡ cond (id == session) (option_map f (found_session id xs)) (found_session id xs)
changed_found id session f same xs =
    find_map (λ x. x.id == id) (λ x. cond (x.id == session) (f x) x) (λ y. ap (λ n. n == id) (changed_id session f same y)) xs
    ∙ go (found_session id xs) refl
  where
    go : (o : Option Session) → found_session id xs ≡ o → option_map (λ x. cond (x.id == session) (f x) x) o ≡ cond (id == session) (option_map f o) o
    go None e = elim (id == session) as (λ b. no_session ≡ cond b no_session no_session) [ true ↦ refl | false ↦ refl ]
    go (Some x) e =
        let is : x.id ≡ id = eqb-true x.id id (find_passes (λ x. x.id == id) xs x e) in
        ap (λ n. Some (cond (n == session) (f x) x)) is
        ∙ elim (id == session) as (λ b. Some (cond b (f x) x) ≡ cond b (Some (f x)) (Some x)) [ true ↦ refl | false ↦ refl ]

pub closed_found : (id session : ℕ) (xs : List Session) → found_session id (filter (λ x. not (x.id == session)) xs) ≡ cond (id == session) None (found_session id xs)
closed_found id session xs = go (cases_eq id session)
  where
    go : (id ≡ session) ⊎ (id ≡ session → ⊥) → found_session id (filter (λ x. not (x.id == session)) xs) ≡ cond (id == session) None (found_session id xs)
    go (inl same) =
        find_without (λ x. x.id == id) (λ x. x.id == session) (λ y t. eq-eqb y.id session (eqb-true y.id id t ∙ same)) xs
        ∙ ap (λ b. cond b None (found_session id xs)) (sym (eq-eqb id session same))
    go (inr ne) =
        find_beside (λ x. x.id == id) (λ x. x.id == session) (λ y t. false_from_ne_true (y.id == session) (λ u. ne (sym (eqb-true y.id id t) ∙ eqb-true y.id session u))) xs
        ∙ ap (λ b. cond b None (found_session id xs)) (sym (false_from_ne_true (id == session) (λ u. ne (eqb-true id session u))))

pub batched_found : (id i : ℕ) (told : List (ℕ × Event)) (ss : List Session) → found_session id (with_batches i told ss) ≡ option_map (with_batch i told) (found_session id ss)
batched_found id i told ss = find_map (λ x. x.id == id) (with_batch i told) (λ y. refl) ss

pub open_is : (id : ℕ) (ss : List Session) (x : Session) → found_session id ss ≡ Some x → x.id ≡ id
open_is id ss x e = eqb-true x.id id (find_passes (λ x. x.id == id) ss x e)
