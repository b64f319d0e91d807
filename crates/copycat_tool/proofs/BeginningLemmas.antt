-- The clients that a run begins with.
use Rattle.std.proofs.Common.{◌≡◌, ◌∙◌, ℕ, ◌==◌, ◌||◌, cond, Bool, true, false, List, [], ◌∷◌, map, Option, Some, None, refl, ap, sym, eqb-true}
use Rattle.std.specs.BTreeMap.{BTreeMap, get}
use Rattle.std.specs.List.{find, list_any}
use Rattle.std.specs.Map.{lookup}
use Rattle.std.specs.Option.{option_map, option_map_or}
use Rattle.std.specs.Ordering.{is_eq, nat_cmp}
use Rattle.event_batches.specs.declared.client.Client.{Client}
use Rattle.log_model.specs.plain.Plain.{Session}
use Rattle.log_model.specs.serving.Positions.{acked_positions, event_at}
use Rattle.session_table.specs.Table.{Table, confirmed_of, session_at, view_at, view_of}
use Rattle.session_table.specs.declared.view.SessionView.{SessionView}
use Rattle.copycat_tool.proofs.Offering.{acked_event_at}

-- nobody of these
none_of : (id : ℕ) (xs : List Session) → list_any (λ other. other == id) (map (λ x. x.id) xs) ≡ false → event_at id id (acked_positions xs) ≡ id
none_of id [] none = refl
none_of id (x ∷ xs) none = elim (x.id == id) as (λ q. (q || list_any (λ other. other == id) (map (λ x. x.id) xs)) ≡ false → option_map_or (λ p. p.event) (cond q (Some (record { session = x.id; event = x.acked_event })) (find (λ p. p.session == id) (acked_positions xs))) id ≡ id) [
  | true ↦ λ no. absurd (cc no)
  | false ↦ λ more. none_of id xs more
] none

pub begins_empty : (m : BTreeMap ℕ Client) → m.entries ≡ [] → (id : ℕ) (xs : List Session) → list_any (λ other. other == id) (map (λ x. x.id) xs) ≡ false → option_map_or (λ c. c.last) (get nat_cmp m id) id ≡ event_at id id (acked_positions xs)
begins_empty m empty id xs none = ap (λ (es : List (ℕ × Client)). option_map_or (λ c. c.last) (lookup (λ k. is_eq (nat_cmp id k)) es) id) empty ∙ sym (none_of id xs none)

-- what is told of a session tells what it acknowledged
of_view : (id c : ℕ) (o : Option Session) (v : SessionView) → option_map (view_of c) o ≡ Some v → v.acked_event ≡ option_map_or (λ x. x.acked_event) o id
of_view id c None v is = absurd (cc is)
of_view id c (Some x) v is = let same : view_of c x ≡ v = cc is in sym (ap (λ (v : SessionView). v.acked_event) same)

pub acked_of_view : (id : ℕ) (t : Table) (v : SessionView) → view_at id t ≡ Some v → v.acked_event ≡ event_at id id (acked_positions t.sessions)
acked_of_view id t v is = of_view id (confirmed_of id t) (session_at id t) v is ∙ acked_event_at id t.sessions

of_none : (id c : ℕ) (o : Option Session) → option_map (view_of c) o ≡ None → id ≡ option_map_or (λ x. x.acked_event) o id
of_none id c None is = refl
of_none id c (Some x) is = absurd (cc is)

pub none_seen : (id : ℕ) (t : Table) → view_at id t ≡ None → id ≡ event_at id id (acked_positions t.sessions)
none_seen id t is = of_none id (confirmed_of id t) (session_at id t) is ∙ acked_event_at id t.sessions

-- one more of them was looked at
pub keeps_next : (id x last : ℕ) (xs : List Session) (rest : List ℕ) (new old : ℕ) → new ≡ cond (x == id) last old → last ≡ event_at x x (acked_positions xs)
    → (list_any (λ other. other == id) (x ∷ rest) ≡ false → old ≡ event_at id id (acked_positions xs)) → list_any (λ other. other == id) rest ≡ false → new ≡ event_at id id (acked_positions xs)
keeps_next id x last xs rest new old is begins before none = by (x == id) refl is before
  where
    by : (q : Bool) → (x == id) ≡ q → new ≡ cond q last old → ((q || list_any (λ other. other == id) rest) ≡ false → old ≡ event_at id id (acked_positions xs)) → new ≡ event_at id id (acked_positions xs)
    by true t is before = is ∙ begins ∙ ap (λ (n : ℕ). event_at n n (acked_positions xs)) (eqb-true x id t)
    by false t is before = is ∙ before none
