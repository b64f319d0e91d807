-- The cells of a log have the names and sessions of its plain state, so that whatever is stored fits. For `central_law_of_logs`.
use Rattle.std.proofs.Common.{◌≡◌, ◌⊎◌, ℕ, ◌+◌, Bool, true, false, cond, not, ◌||◌, ◌==◌, nat_le, List, [], ◌∷◌, ◌++◌, map, length, Option, Some, None, is_some, refl, sym, ap, subst, ◌∙◌, inl, inr, eqb-true, eq-eqb}
use Rattle.std.proofs.lemmas.Bool.{and_from, or_right, false_from_ne_true, cases_eq}
use Rattle.std.specs.List.{filter, find, list_any, enumerate_from}
use Rattle.std.specs.Ordering.{nat_cmp, eq_by_cmp}
use Rattle.std.specs.Cmp.Lexicographic.{nat_list_cmp_total}
use Rattle.std.specs.Option.{option_map}
use Rattle.host_types.specs.declared.entry.Kind.{Kind}
use Rattle.host_types.specs.declared.entry.Cell.{Cell}
use Rattle.host_types.specs.declared.entry.Cell.TheVariants.{One, Named, Member, Pair, At, Waiter, Of}
use Rattle.host_types.specs.declared.entry.Content.{Content}
use Rattle.host_types.specs.declared.entry.Effect.{Effect}
use Rattle.host_types.specs.declared.entry.Effect.TheVariants.{Nothing, Create, Delete, Put}
use Rattle.host_types.specs.declared.entry.Body.{Body}
use Rattle.host_types.specs.declared.entry.Body.TheVariants.{Register as Registered, Alive as Kept_alive, Close as Closed, Tick as Ticked, Command as Commanded}
use Rattle.host_types.specs.declared.entry.Ask.{Ask}
use Rattle.host_types.specs.declared.entry.Ask.TheVariants.{Register, Alive, Unregister, Tick, Command}
use Rattle.host_types.specs.declared.entry.Op.{Op}
use Rattle.host_types.specs.declared.entry.Op.TheVariants as op
use Rattle.host_types.specs.declared.entry.Entry.{Entry}
use Rattle.host_types.specs.declared.entry.Event.{Event}
use Rattle.host_types.specs.declared.entry.Reply.{Reply}
use Rattle.host_types.specs.Cells.{Place, Name_at, Cell_at, Register_at, Alive_at, Held, is_text, place_cmp, Cells, at, marked, named as held_name, filled, effect_puts, is_owned_by, effect_covers, stands, is_name_for, is_of_kind}
use Rattle.log_model.specs.cleaning.Cells.{puts, covers, owner_stands, fits_with_owner, fits, after}
use Rattle.host_types.specs.Cells.{deletes_standing}
use Rattle.log_model.specs.cleaning.Cleaning.{closes_standing}
use Rattle.log_model.specs.plain.Plain.{Plain, kind_of, new_plain, Session, Named_resource, State, session_of}
use Rattle.log_model.specs.plain.Rows.{Row, Does, Out_of_range, Of_no_kind, Call, row}
use Rattle.log_model.specs.plain.Admission.{Item, Offered, Expired, Admission, Admitted, Repeats, Refused, first_refusal, admits_time, admits_more, refused_due, refused_outcome, due_in, of_session, admits_alive, admits_seq, admits_asked, admits_offer, declined_by, admits_ask}
use Rattle.log_model.specs.plain.Commands.{name_limit, with_plain, row_outcome, outcome_there, outcome_new, outcome_at, outcome, Outcome, Decided, Declined}
use Rattle.log_model.specs.plain.Step.{with_batches, changed, kept_alive, with_reply, new_session, closed_name, commanded, step}
use Rattle.log_model.specs.plain.Stored.{is_admission, is_admitted, decided_body, entry_of}
use Rattle.host_types.proofs.Places.{place_total, exact_places, exact_texts}
use Rattle.log_model.proofs.Lookups.{tied_true, tied_same, any_from_found}
use Rattle.log_model.proofs.cleaning.Changes.{Change, Written, Taken, Left, change}
use Rattle.log_model.proofs.cleaning.Entries.{single, covers_puts, effect_register, effect_covers_register}
use Rattle.log_model.specs.kinds.LawfulRows.{OwnerSuits}
use Rattle.log_model.proofs.plain.RowEffects.{Suits, RowSuits, row_suits, closing_kind}

module _ {A : Type 0} (p : A → Bool) where
  pub find_passes : (xs : List A) (x : A) → find p xs ≡ Some x → p x ≡ true
  find_passes [] x e = absurd (cc)
  find_passes (y ∷ xs) x e =
      elim (p y) as (λ b. p y ≡ b → cond b (Some y) (find p xs) ≡ Some x → p x ≡ true) [
        | true ↦ λ t e. let same : y ≡ x = (cc) in ap p (sym same) ∙ t
        | false ↦ λ t e. find_passes xs x e
      ] refl e

  pub find_map : (f : A → A) → ((y : A) → p (f y) ≡ p y) → (xs : List A) → find p (map f xs) ≡ option_map f (find p xs)
  find_map f same [] = refl
  find_map f same (y ∷ xs) =
      ap (λ b. cond b (Some (f y)) (find p (map f xs))) (same y)
      ∙ elim (p y) as (λ b. cond b (Some (f y)) (find p (map f xs)) ≡ option_map f (cond b (Some y) (find p xs))) [ true ↦ refl | false ↦ find_map f same xs ]

  pub some_map : (f : A → A) → ((y : A) → p (f y) ≡ p y) → (xs : List A) → is_some (find p (map f xs)) ≡ is_some (find p xs)
  some_map f same xs = ap is_some (find_map f same xs) ∙ elim (find p xs) as (λ o. is_some (option_map f o) ≡ is_some o) [ None ↦ refl | Some x ↦ refl ]

  pub find_push : (y : A) (xs : List A) → find p xs ≡ None → find p (xs ++ y ∷ []) ≡ cond (p y) (Some y) None
  find_push y [] e = refl
  find_push y (x ∷ xs) e =
      elim (p x) as (λ b. cond b (Some x) (find p xs) ≡ None → cond b (Some x) (find p (xs ++ y ∷ [])) ≡ cond (p y) (Some y) None) [
        | true ↦ λ e. absurd (cc)
        | false ↦ λ e. find_push y xs e
      ] e

  pub find_push_other : (y : A) (xs : List A) → p y ≡ false → find p (xs ++ y ∷ []) ≡ find p xs
  find_push_other y [] e = ap (λ b. cond b (Some y) None) e
  find_push_other y (x ∷ xs) e = ap (λ o. cond (p x) (Some x) o) (find_push_other y xs e)

  pub find_without : (r : A → Bool) → ((y : A) → p y ≡ true → r y ≡ true) → (xs : List A) → find p (filter (λ y. not (r y)) xs) ≡ None
  find_without r all [] = refl
  find_without r all (y ∷ xs) =
      elim (r y) as (λ b. r y ≡ b → find p (cond (not b) (y ∷ filter (λ y. not (r y)) xs) (filter (λ y. not (r y)) xs)) ≡ None) [
        | true ↦ λ t. find_without r all xs
        | false ↦ λ t. ap (λ b. cond b (Some y) (find p (filter (λ y. not (r y)) xs))) (false_from_ne_true (p y) (λ e. let no = all y e in absurd (cc))) ∙ find_without r all xs
      ] refl

  pub find_beside : (r : A → Bool) → ((y : A) → p y ≡ true → r y ≡ false) → (xs : List A) → find p (filter (λ y. not (r y)) xs) ≡ find p xs
  find_beside r none [] = refl
  find_beside r none (y ∷ xs) =
      elim (r y) as (λ b. r y ≡ b → find p (cond (not b) (y ∷ filter (λ y. not (r y)) xs) (filter (λ y. not (r y)) xs)) ≡ cond (p y) (Some y) (find p xs)) [
        | true ↦ λ t. find_beside r none xs ∙ ap (λ b. cond b (Some y) (find p xs)) (sym (false_from_ne_true (p y) (λ e. let no = none y e in absurd (cc))))
        | false ↦ λ t. ap (λ o. cond (p y) (Some y) o) (find_beside r none xs)
      ] refl

pub same_text : (x y : List ℕ) → is_text x y ≡ true → x ≡ y
same_text x y e = tied_same nat_list_cmp_total exact_texts x y e

pub text_itself : (x : List ℕ) → is_text x x ≡ true
text_itself x = tied_true nat_list_cmp_total exact_texts x

-- what an entry neither puts nor covers stays
pub untouched : (c : Cells) (i : ℕ) (e : Entry) (q : Place) → at (puts i e.body) q ≡ None → ((h : Held) → at c q ≡ Some h → covers e.body q h ≡ false) → at (after c i e) q ≡ at c q
untouched c i e q none kept = go (change c i e q)
  where
    go : Change c i e q → at (after c i e) q ≡ at c q
    go (Written h f w a) = absurd (cc)
    go (Taken h w v a) = let no = kept h w in absurd (cc)
    go (Left u v s) = s

pub written : (c : Cells) (i : ℕ) (e : Entry) (q : Place) (h : Held) → fits c e.body ≡ true → at (puts i e.body) q ≡ Some h → at (after c i e) q ≡ Some h
written c i e q h f w = go (change c i e q)
  where
    go : Change c i e q → at (after c i e) q ≡ Some h
    go (Written g f' w' a) = let same : g ≡ h = (cc) in a ∙ ap Some same
    go (Taken g w' v a) = let no = covers_puts i e.body q g q v in absurd (cc)
    go (Left u v s) = let no = u f in absurd (cc)

pub emptied : (c : Cells) (i : ℕ) (e : Entry) (q : Place) → at (puts i e.body) q ≡ None → ((h : Held) → at c q ≡ Some h → covers e.body q h ≡ true) → at (after c i e) q ≡ None
emptied c i e q none all = go (change c i e q)
  where
    some : (o : Option Held) → at c q ≡ o → ((h : Held) → at c q ≡ Some h → covers e.body q h ≡ false) → at c q ≡ None
    some None f v = f
    some (Some h) f v = let yes = all h f in let no = v h f in absurd (cc)

    go : Change c i e q → at (after c i e) q ≡ None
    go (Written h f w a) = absurd (cc)
    go (Taken h w v a) = a
    go (Left u v s) = s ∙ some (at c q) refl v

-- what stands at a name
abbrev pub held_of : Option Named_resource → Option Held
held_of None = None
held_of (Some n) = Some (held_name n.instance (kind_of n.plain))

abbrev pub found_name : List ℕ → List Named_resource → Option Named_resource
found_name x names = find (λ n. is_text x n.name) names

abbrev pub found_session : ℕ → List Session → Option Session
found_session id sessions = find (λ x. x.id == id) sessions

pub record Tracks (ss : List Session) (ns : List Named_resource) (c : Cells) : Type 0 where
  pub by_name : (x : List ℕ) → at c (Name_at x) ≡ held_of (found_name x ns)
  pub by_session : (id : ℕ) → at c (Register_at id) ≡ cond (is_some (found_session id ss)) (Some (marked id)) None

pub some_push : {A : Type 0} (p : A → Bool) (y : A) (xs : List A) → is_some (find p (xs ++ y ∷ [])) ≡ (is_some (find p xs) || p y)
some_push p y [] = elim (p y) as (λ b. is_some (cond b (Some y) None) ≡ b) [ true ↦ refl | false ↦ refl ]
some_push p y (x ∷ xs) = elim (p x) as (λ b. is_some (cond b (Some x) (find p (xs ++ y ∷ []))) ≡ (is_some (cond b (Some x) (find p xs)) || p y)) [ true ↦ refl | false ↦ some_push p y xs ]

name_owner : (o : Option Named_resource) (h : Held) → held_of o ≡ Some h → h.owner ≡ None
name_owner None h e = absurd (cc)
name_owner (Some n) h e = let same : held_name n.instance (kind_of n.plain) ≡ h = (cc) in ap (λ (g : Held). g.owner) (sym same)

pub register_is : (b : Bool) (id : ℕ) (h : Held) → cond b (Some (marked id)) None ≡ Some h → marked id ≡ h
register_is true id h e = (cc)
register_is false id h e = absurd (cc)

pub other_place : (p q : Place) → (p ≡ q → ⊥) → eq_by_cmp place_cmp p q ≡ false
other_place p q ne = false_from_ne_true (eq_by_cmp place_cmp p q) (λ e. ne (tied_same place_total exact_places p q e))

registered : (ss : List Session) (ns : List Named_resource) (c : Cells) (i t timeout : ℕ) → Tracks ss ns c → Tracks (ss ++ new_session i t timeout ∷ []) ns (after c i (record { time = t; body = Registered timeout }))
registered ss ns c i t timeout k = record {
  by_name = λ x. untouched c i e (Name_at x) refl (λ h _. refl) ∙ k.by_name x;
  by_session = λ id. go id (cases_eq id i);
}
  where
    e : Entry
    e = record { time = t; body = Registered timeout }

    new : Session
    new = new_session i t timeout

    there : (id : ℕ) → is_some (found_session id (ss ++ new ∷ [])) ≡ (is_some (found_session id ss) || (i == id))
    there id = some_push (λ x. x.id == id) new ss

    go : (id : ℕ) → (id ≡ i) ⊎ (id ≡ i → ⊥) → at (after c i e) (Register_at id) ≡ cond (is_some (found_session id (ss ++ new ∷ []))) (Some (marked id)) None
    go id (inl same) =
        subst (λ j. at (after c i e) (Register_at j) ≡ cond (is_some (found_session j (ss ++ new ∷ []))) (Some (marked j)) None) (sym same)
        (written c i e (Register_at i) (marked i) refl (ap (λ b. cond b (Some (marked i)) None) (tied_true place_total exact_places (Register_at i)))
        ∙ ap (λ b. cond b (Some (marked i)) None) (sym (there i ∙ or_right (is_some (found_session i ss)) (i == i) (eq-eqb i i refl))))
    go id (inr ne) =
        let none : at (puts i e.body) (Register_at id) ≡ None = ap (λ b. cond b (Some (marked i)) None) (other_place (Register_at id) (Register_at i) (λ s. let same : id ≡ i = (cc) in ne same)) in
        let out : (i == id) ≡ false = false_from_ne_true (i == id) (λ t. ne (sym (eqb-true i id t))) in
        untouched c i e (Register_at id) none (λ h _. refl) ∙ k.by_session id
        ∙ elim (is_some (found_session id ss)) as (λ b. is_some (found_session id ss) ≡ b → cond b (Some (marked id)) None ≡ cond (is_some (found_session id (ss ++ new ∷ []))) (Some (marked id)) None) [
          | true ↦ λ f. ap (λ b. cond b (Some (marked id)) None) (sym (there id ∙ ap (λ b. b || (i == id)) f))
          | false ↦ λ f. ap (λ b. cond b (Some (marked id)) None) (sym (there id ∙ ap (λ b. b || (i == id)) f ∙ out))
        ] refl

-- sessions that are changed, but not in their ids
pub same_sessions : (ss : List Session) (f : Session → Session) → ((x : Session) → (f x).id ≡ x.id) → (id : ℕ) → cond (is_some (found_session id ss)) (Some (marked id)) None ≡ cond (is_some (found_session id (map f ss))) (Some (marked id)) None
same_sessions ss f same id = ap (λ b. cond b (Some (marked id)) None) (sym (some_map (λ x. x.id == id) f (λ y. ap (λ n. n == id) (same y)) ss))

pub changed_id : (id : ℕ) (change : Session → Session) → ((x : Session) → (change x).id ≡ x.id) → (x : Session) → (cond (x.id == id) (change x) x).id ≡ x.id
changed_id id change same x = elim (x.id == id) as (λ b. (cond b (change x) x).id ≡ x.id) [ true ↦ same x | false ↦ refl ]

alive : (ss : List Session) (ns : List Named_resource) (c : Cells) (i t session seq event : ℕ) → Tracks ss ns c → Tracks (changed session (kept_alive t seq event) ss) ns (after c i (record { time = t; body = Kept_alive session seq event }))
alive ss ns c i t session seq event k = record {
  by_name = λ x. untouched c i (record { time = t; body = Kept_alive session seq event }) (Name_at x) refl (λ h _. refl) ∙ k.by_name x;
  by_session = λ id. untouched c i (record { time = t; body = Kept_alive session seq event }) (Register_at id) refl (λ h _. refl) ∙ k.by_session id
      ∙ same_sessions ss (λ x. cond (x.id == session) (kept_alive t seq event x) x) (changed_id session (kept_alive t seq event) (λ x. refl)) id;
}

ticked : (ss : List Session) (ns : List Named_resource) (c : Cells) (i t : ℕ) → Tracks ss ns c → Tracks ss ns (after c i (record { time = t; body = Ticked }))
ticked ss ns c i t k = record {
  by_name = λ x. untouched c i (record { time = t; body = Ticked }) (Name_at x) refl (λ h _. refl) ∙ k.by_name x;
  by_session = λ id. untouched c i (record { time = t; body = Ticked }) (Register_at id) refl (λ h _. refl) ∙ k.by_session id;
}

held_map : (f : Named_resource → Named_resource) → ((n : Named_resource) → (held_name (f n).instance (kind_of (f n).plain)) ≡ held_name n.instance (kind_of n.plain)) → (o : Option Named_resource) → held_of (option_map f o) ≡ held_of o
held_map f same None = refl
held_map f same (Some n) = ap Some (same n)

closing : (ss : List Session) (ns : List Named_resource) (c : Cells) (i t session : ℕ) (expired : Bool) (told : List (ℕ × Event)) → Tracks ss ns c → Tracks (with_batches i told (filter (λ x. not (x.id == session)) ss)) (map (closed_name session) ns) (after c i (record { time = t; body = Closed session expired }))
closing ss ns c i t session expired told k = record { by_name = by_name; by_session = λ id. by_session id (cases_eq id session) }
  where
    e : Entry
    e = record { time = t; body = Closed session expired }

    left : List Session
    left = filter (λ x. not (x.id == session)) ss

    by_name : (x : List ℕ) → at (after c i e) (Name_at x) ≡ held_of (found_name x (map (closed_name session) ns))
    by_name x =
        untouched c i e (Name_at x) refl (λ h f. ap (is_owned_by session) (name_owner (found_name x ns) h (sym (k.by_name x) ∙ f)))
        ∙ k.by_name x
        ∙ sym (ap held_of (find_map (λ n. is_text x n.name) (closed_name session) (λ y. refl) ns)
        ∙ held_map (closed_name session) (λ n. ap (held_name n.instance) (closing_kind n.name session n.plain)) (found_name x ns))

    batched : (id : ℕ) → is_some (found_session id (with_batches i told left)) ≡ is_some (found_session id left)
    batched id = some_map (λ x. x.id == id) _ (λ y. refl) left

    by_session : (id : ℕ) → (id ≡ session) ⊎ (id ≡ session → ⊥) → at (after c i e) (Register_at id) ≡ cond (is_some (found_session id (with_batches i told left))) (Some (marked id)) None
    by_session id (inl same) =
        let gone : found_session id left ≡ None = find_without (λ x. x.id == id) (λ x. x.id == session) (λ y t. eq-eqb y.id session (eqb-true y.id id t ∙ same)) ss in
        emptied c i e (Register_at id) refl (λ h f. ap (λ b. b || is_owned_by session h.owner) (eq-eqb session id (sym same)))
        ∙ ap (λ b. cond b (Some (marked id)) None) (sym (batched id ∙ ap is_some gone))
    by_session id (inr ne) =
        let beside : found_session id left ≡ found_session id ss = find_beside (λ x. x.id == id) (λ x. x.id == session) (λ y t. false_from_ne_true (y.id == session) (λ u. ne (sym (eqb-true y.id id t) ∙ eqb-true y.id session u))) ss in
        untouched c i e (Register_at id) refl (λ h f.
        ap (λ b. b || is_owned_by session h.owner) (false_from_ne_true (session == id) (λ u. ne (sym (eqb-true session id u))))
        ∙ ap (λ (g : Held). is_owned_by session g.owner) (sym (register_is (is_some (found_session id ss)) id h (sym (k.by_session id) ∙ f))))
        ∙ k.by_session id
        ∙ ap (λ b. cond b (Some (marked id)) None) (sym (batched id ∙ ap is_some beside))

-- the owner that a place has; that of an arrival is its entry's
abbrev pub OwnerRule : ℕ → Place → Option ℕ → Type 0
OwnerRule i (Cell_at m (At j)) owner = j ≡ i
OwnerRule i (Cell_at m (Waiter session id)) owner = owner ≡ Some session
OwnerRule i (Cell_at m (Of session)) owner = owner ≡ Some session
OwnerRule i _ owner = owner ≡ None

abbrev pub EntryOwns : ℕ → Body → Type 0
EntryOwns i body = (p : Place) (h : Held) → at (puts i body) p ≡ Some h → OwnerRule i p h.owner

cell_owner : (i session m : ℕ) (cell : Cell) (owner : Option ℕ) → OwnerSuits i session cell owner → OwnerRule i (Cell_at m cell) owner
cell_owner i session m (At j) owner h = h.0
cell_owner i session m (Waiter other id) owner h = h.1 ∙ ap Some (sym h.0)
cell_owner i session m (Of other) owner h = h.1 ∙ ap Some (sym h.0)
cell_owner i session m One owner h = h
cell_owner i session m (Named key) owner h = h
cell_owner i session m (Member word) owner h = h
cell_owner i session m (Pair key word) owner h = h

put_owns : (i session m : ℕ) (cell : Cell) (content : Content) (owner : Option ℕ) → OwnerSuits i session cell owner → (p : Place) (h : Held) → at (effect_puts i (Put m cell content owner)) p ≡ Some h → OwnerRule i p h.owner
put_owns i session m cell content owner suits p h e =
    let is = single (Cell_at m cell) (filled i content owner) p h e in
    subst (λ (x : Place × Held). OwnerRule i x.0 x.1.owner) (λ k. (sym is.0 k, is.1 k)) (cell_owner i session m cell owner suits)

marked_owns : (i : ℕ) (q : Place) (g : Held) → OwnerRule i q g.owner → (p : Place) (h : Held) → at ((q, g) ∷ []) p ≡ Some h → OwnerRule i p h.owner
marked_owns i q g rule p h e = let is = single q g p h e in subst (λ (x : Place × Held). OwnerRule i x.0 x.1.owner) (λ k. (sym is.0 k, is.1 k)) rule

-- commands

abbrev pub command_entry : ℕ → ℕ → ℕ → Effect → Reply → Entry
command_entry t session seq effect reply = record { time = t; body = Commanded session seq effect reply }

-- the effect fits, deletes what stands, and leaves these names
record Good (c : Cells) (i t session seq : ℕ) (effect : Effect) (reply : Reply) (ns : List Named_resource) : Type 0 where
  fitting : fits_with_owner c effect ≡ true
  standing : deletes_standing c effect ≡ true
  owns : (p : Place) (h : Held) → at (effect_puts i effect) p ≡ Some h → OwnerRule i p h.owner
  by_name : (x : List ℕ) → at (after c i (command_entry t session seq effect reply)) (Name_at x) ≡ held_of (found_name x ns)

abbrev GoodOutcome : Cells → ℕ → ℕ → ℕ → ℕ → Outcome → Type 0
GoodOutcome c i t session seq (Decided effect reply ns told) = Good c i t session seq effect reply ns
GoodOutcome c i t session seq (Declined refusal) = Unit {0}

module _ (ss : List Session) (ns : List Named_resource) (c : Cells) (i t session seq : ℕ) (k : Tracks ss ns c) (open_session : stands c (Register_at session) ≡ true) where
  nothing_good : (reply : Reply) → Good c i t session seq Nothing reply ns
  nothing_good reply = record { fitting = refl; standing = refl; owns = λ p h e. absurd (cc); by_name = λ x. untouched c i (command_entry t session seq Nothing reply) (Name_at x) refl (λ h _. refl) ∙ k.by_name x }

  suits_owner : (cell : Cell) (owner : Option ℕ) → OwnerSuits i session cell owner → (owner ≡ None) ⊎ (owner ≡ Some session)
  suits_owner (At j) owner h = h.1
  suits_owner (Waiter other id) owner h = inr h.1
  suits_owner (Of other) owner h = inr h.1
  suits_owner One owner h = inl h
  suits_owner (Named key) owner h = inl h
  suits_owner (Member word) owner h = inl h
  suits_owner (Pair key word) owner h = inl h

  owner_good : (owner : Option ℕ) → (owner ≡ None) ⊎ (owner ≡ Some session) → owner_stands c owner ≡ true
  owner_good owner (inl e) = ap (owner_stands c) e
  owner_good owner (inr e) = ap (owner_stands c) e ∙ open_session

  record Quietly (effect : Effect) : Type 0 where
    fitting : fits_with_owner c effect ≡ true
    standing : deletes_standing c effect ≡ true
    owns : (p : Place) (h : Held) → at (effect_puts i effect) p ≡ Some h → OwnerRule i p h.owner
    unput : (x : List ℕ) → at (effect_puts i effect) (Name_at x) ≡ None
    uncovered : (x : List ℕ) → effect_covers effect (Name_at x) ≡ false

  module _ (name : List ℕ) (n : Named_resource) (here : found_name name ns ≡ Some n) where
    n_named : name ≡ n.name
    n_named = same_text name n.name (find_passes (λ m. is_text name m.name) ns n here)

    there : found_name n.name ns ≡ Some n
    there = subst (λ x. found_name x ns ≡ Some n) n_named here

    standing_name : at c (Name_at n.name) ≡ Some (held_name n.instance (kind_of n.plain))
    standing_name = k.by_name n.name ∙ ap held_of there

    call : Call
    call = record { name = n.name; instance = n.instance; session = session; index = i }

    effect_good : (effect : Effect) → Suits call (kind_of n.plain) effect → Quietly effect
    unfolding call
    effect_good (Put instance cell content owner) h = record {
      fitting = and_from (list_any (is_name_for instance cell content) c) (owner_stands c owner)
          (any_from_found place_total exact_places (is_name_for instance cell content) c (Name_at n.name) (held_name n.instance (kind_of n.plain)) standing_name (and_from (n.instance == instance) (is_of_kind (kind_of n.plain) cell content) (eq-eqb n.instance instance (sym h.0)) h.1))
          (owner_good owner (suits_owner cell owner h.2));
      standing = refl;
      owns = put_owns i session instance cell content owner h.2;
      unput = λ x. refl;
      uncovered = λ x. refl;
    }
    effect_good (Create other kind) h = absurd h
    effect_good (Delete other instance) h = absurd h
    effect_good _ h = record { fitting = refl; standing = refl; owns = λ p h e. absurd (cc); unput = λ x. refl; uncovered = λ x. refl }

    with_next : (next : Plain) → Named_resource → Named_resource
    with_next next m = cond (is_text n.name m.name) (record { name = m.name; instance = m.instance; plain = next }) m

    same_names : (next : Plain) → kind_of next ≡ kind_of n.plain → (x : List ℕ) → held_of (found_name x (with_plain n.name next ns)) ≡ held_of (found_name x ns)
    unfolding with_next
    same_names next same x =
        ap held_of (find_map (λ m. is_text x m.name) (with_next next) (λ m. ap (is_text x) (named_so m)) ns) ∙ go (found_name x ns) refl
      where
        named_so : (m : Named_resource) → (with_next next m).name ≡ m.name
        named_so m = elim (is_text n.name m.name) as (λ b. (cond b (record { name = m.name; instance = m.instance; plain = next }) m).name ≡ m.name) [ true ↦ refl | false ↦ refl ]

        go : (o : Option Named_resource) → found_name x ns ≡ o → held_of (option_map (with_next next) o) ≡ held_of o
        go None f = refl
        go (Some m) f =
            elim (is_text n.name m.name) as (λ b. is_text n.name m.name ≡ b → held_of (Some (cond b (record { name = m.name; instance = m.instance; plain = next }) m)) ≡ held_of (Some m)) [
              | true ↦ λ u.
                  let x_is : x ≡ n.name = same_text x m.name (find_passes (λ m. is_text x m.name) ns m f) ∙ sym (same_text n.name m.name u) in
                  let f' : found_name n.name ns ≡ Some m = subst (λ y. found_name y ns ≡ Some m) x_is f in
                  let m_is : n ≡ m = (let both : Some n ≡ Some m = sym there ∙ f' in (cc)) in
                  ap (λ q. Some (held_name m.instance q)) (same ∙ ap (λ (y : Named_resource). kind_of y.plain) m_is)
              | false ↦ λ u. refl
            ] refl

    row_good : (r : Row) → RowSuits call (kind_of n.plain) r → GoodOutcome c i t session seq (row_outcome ns n r)
    row_good (Does effect reply next told) h =
        let q = effect_good effect h.0 in
        record {
          fitting = q.fitting;
          standing = q.standing;
          owns = q.owns;
          by_name = λ x. untouched c i (command_entry t session seq effect reply) (Name_at x) (q.unput x) (λ g _. q.uncovered x) ∙ k.by_name x ∙ sym (same_names next h.1 x);
        }
    row_good (Out_of_range cur) h = tt
    row_good Of_no_kind h = tt

    delete_good : Good c i t session seq (Delete n.name n.instance) Rattle.host_types.specs.declared.entry.Reply.TheVariants.None (filter (λ m. not (is_text n.name m.name)) ns)
    delete_good = record {
      fitting = refl;
      standing = ap (λ o. Rattle.std.specs.Option.option_map_or (λ (held : Held). held.index == n.instance) o false) standing_name ∙ eq-eqb n.instance n.instance refl;
      owns = λ p h e. absurd (cc);
      by_name = λ x. go x (is_text n.name x) refl;
    }
      where
        e : Entry
        e = command_entry t session seq (Delete n.name n.instance) Rattle.host_types.specs.declared.entry.Reply.TheVariants.None

        go : (x : List ℕ) (b : Bool) → is_text n.name x ≡ b → at (after c i e) (Name_at x) ≡ held_of (found_name x (filter (λ m. not (is_text n.name m.name)) ns))
        go x true u =
            emptied c i e (Name_at x) refl (λ h _. u)
            ∙ ap held_of (sym (find_without (λ m. is_text x m.name) (λ m. is_text n.name m.name) (λ y v. subst (λ z. is_text n.name z ≡ true) (same_text x y.name v) u) ns))
        go x false u =
            untouched c i e (Name_at x) refl (λ h _. u) ∙ k.by_name x
            ∙ ap held_of (sym (find_beside (λ m. is_text x m.name) (λ m. is_text n.name m.name) (λ y v. subst (λ z. is_text n.name z ≡ false) (same_text x y.name v) u) ns))

    there_good : (o : Op) → GoodOutcome c i t session seq (outcome_there ns n session i o)
    unfolding call
    there_good (op.Create kind) =
        elim (Rattle.log_model.specs.plain.Commands.kind_number kind == Rattle.log_model.specs.plain.Commands.kind_number (kind_of n.plain)) as (λ b. GoodOutcome c i t session seq (cond b (Decided Nothing (Rattle.host_types.specs.declared.entry.Reply.TheVariants.Index n.instance) ns []) (Declined (Rattle.host_types.specs.declared.entry.Refusal.TheVariants.Kind (kind_of n.plain))))) [ true ↦ nothing_good _ | false ↦ tt ]
    there_good op.Delete = delete_good
    there_good o = row_good (row call n.plain o) (row_suits call n.plain o)

  create_good : (name : List ℕ) (kind : Kind) → found_name name ns ≡ None → Good c i t session seq (Create name kind) (Rattle.host_types.specs.declared.entry.Reply.TheVariants.Index i) (ns ++ record { name = name; instance = i; plain = new_plain kind } ∷ [])
  create_good name kind none = record {
    fitting = ap (λ o. not (is_some o)) (k.by_name name ∙ ap held_of none);
    standing = refl;
    owns = marked_owns i (Name_at name) (held_name i kind) refl;
    by_name = λ x. go x (is_text x name) refl;
  }
    where
      e : Entry
      e = command_entry t session seq (Create name kind) (Rattle.host_types.specs.declared.entry.Reply.TheVariants.Index i)

      new : Named_resource
      new = record { name = name; instance = i; plain = new_plain kind }

      kind_back : (kind : Kind) → kind_of (new_plain kind) ≡ kind
      kind_back Rattle.host_types.specs.declared.entry.Kind.TheVariants.Value = refl
      kind_back _ = refl

      fitting : fits_with_owner c (Create name kind) ≡ true
      fitting = ap (λ o. not (is_some o)) (k.by_name name ∙ ap held_of none)

      new_here : at (after c i e) (Name_at name) ≡ held_of (found_name name (ns ++ new ∷ []))
      new_here =
          written c i e (Name_at name) (held_name i kind) fitting (ap (λ b. cond b (Some (held_name i kind)) None) (tied_true place_total exact_places (Name_at name)))
          ∙ ap (λ q. Some (held_name i q)) (sym (kind_back kind))
          ∙ ap held_of (sym (find_push (λ m. is_text name m.name) new ns none ∙ ap (λ b. cond b (Some new) None) (text_itself name)))

      go : (x : List ℕ) (b : Bool) → is_text x name ≡ b → at (after c i e) (Name_at x) ≡ held_of (found_name x (ns ++ new ∷ []))
      go x true u = subst (λ y. at (after c i e) (Name_at y) ≡ held_of (found_name y (ns ++ new ∷ []))) (sym (same_text x name u)) new_here
      go x false u =
          let unput : at (puts i e.body) (Name_at x) ≡ None = ap (λ b. cond b (Some (held_name i kind)) None) (other_place (Name_at x) (Name_at name) (λ s. let same : x ≡ name = (cc) in let yes = ap (λ y. is_text y name) same ∙ text_itself name in absurd (cc))) in
          untouched c i e (Name_at x) unput (λ h _. refl) ∙ k.by_name x ∙ ap held_of (sym (find_push_other (λ m. is_text x m.name) new ns u))

  new_good : (name : List ℕ) → found_name name ns ≡ None → (o : Op) → GoodOutcome c i t session seq (outcome_new ns name i o)
  new_good name none (op.Create kind) =
      elim (nat_le name_limit (length ns)) as (λ b. GoodOutcome c i t session seq (cond b (Declined Rattle.host_types.specs.declared.entry.Refusal.TheVariants.Names) (Decided (Create name kind) (Rattle.host_types.specs.declared.entry.Reply.TheVariants.Index i) (ns ++ record { name = name; instance = i; plain = new_plain kind } ∷ []) []))) [ true ↦ tt | false ↦ create_good name kind none ]
  new_good name none _ = tt

  outcome_good : (name : List ℕ) (o : Op) → GoodOutcome c i t session seq (outcome_at ns (found_name name ns) name session i o)
  outcome_good name o = go (found_name name ns) refl
    where
      go : (found : Option Named_resource) → found_name name ns ≡ found → GoodOutcome c i t session seq (outcome_at ns found name session i o)
      go None f = new_good name f o
      go (Some n) f = there_good name n f o

-- the cells after a command have the sessions as before
command_sessions : (ss : List Session) (ns : List Named_resource) (c : Cells) (i t session seq : ℕ) (effect : Effect) (reply : Reply) (told : List (ℕ × Event)) → Tracks ss ns c → (id : ℕ) → at (after c i (command_entry t session seq effect reply)) (Register_at id) ≡ cond (is_some (found_session id (changed session (with_reply seq i reply) (with_batches i told ss)))) (Some (marked id)) None
command_sessions ss ns c i t session seq effect reply told k id =
    untouched c i (command_entry t session seq effect reply) (Register_at id) (effect_register i effect id) (λ h _. effect_covers_register effect id)
    ∙ k.by_session id
    ∙ same_sessions ss _ (λ x. refl) id
    ∙ same_sessions (with_batches i told ss) _ (changed_id session (with_reply seq i reply) (λ x. refl)) id

-- what admission says
pub refusals : (a : Admission) (rest : List Admission) → first_refusal (a ∷ rest) ≡ Admitted → (a ≡ Admitted) × (first_refusal rest ≡ Admitted)
refusals Admitted rest e = (refl, e)
refusals (Repeats reply) rest e = absurd (cc)
refusals (Refused refusal) rest e = absurd (cc)

pub session_open : (id : ℕ) (o : Option Session) (rest : Session → Admission) → of_session id o rest ≡ Admitted → is_some o ≡ true
session_open id None rest e = absurd (cc)
session_open id (Some x) rest e = refl

pub is_admission_true : (x : Admission) → is_admission x ≡ true → x ≡ Admitted
is_admission_true Admitted e = refl
is_admission_true (Repeats reply) e = absurd (cc)
is_admission_true (Refused refusal) e = absurd (cc)

-- each test of an offer that was admitted
pub record Passed (last now : ℕ) (sessions : List Session) (declined : ℕ → List ℕ → Op → Admission) (t : ℕ) (a : Ask) : Type 0 where
  pub on_time : admits_time now t ≡ Admitted
  pub nobody_due : refused_due (due_in t sessions) ≡ Admitted
  pub ask : admits_asked sessions declined a ≡ Admitted
  pub more : admits_more last ≡ Admitted

pub passed : (last now : ℕ) (sessions : List Session) (declined : ℕ → List ℕ → Op → Admission) (t : ℕ) (a : Ask) → is_admission (admits_offer last now sessions declined (record { time = t; ask = a })) ≡ true → Passed last now sessions declined t a
passed last now sessions declined t a e =
    let late = admits_asked sessions declined a ∷ admits_more last ∷ [] in
    let r = refusals (admits_time now t) (refused_due (due_in t sessions) ∷ late) (is_admission_true (admits_offer last now sessions declined (record { time = t; ask = a })) e) in
    let q = refusals (refused_due (due_in t sessions)) late r.1 in
    let p = refusals (admits_asked sessions declined a) (admits_more last ∷ []) q.1 in
    record { on_time = r.0; nobody_due = q.0; ask = p.0; more = (refusals (admits_more last) [] p.1).0 }

pub offered_admitted : (s : State) (t : ℕ) (a : Ask) → is_admitted s (Offered (record { time = t; ask = a })) ≡ true → admits_ask s a ≡ Admitted
offered_admitted s t a e = (passed s.last s.now s.sessions (declined_by s) t a e).ask

-- one item: what is stored of it fits, deletes what stands, has its owner, and leaves the names and sessions of the step
pub record Tracked (s : State) (c : Cells) (item : Item) : Type 0 where
  pub fitting : fits c (entry_of s item).body ≡ true
  pub standing : closes_standing c (entry_of s item).body ≡ true
  pub owns : EntryOwns (s.last + 1) (entry_of s item).body
  pub tracks : Tracks (step s item).sessions (step s item).names (after c (s.last + 1) (entry_of s item))

pub tracked : (s : State) (c : Cells) (item : Item) → Tracks s.sessions s.names c → is_admitted s item ≡ true → Tracked s c item
tracked s c (Expired t session) k ok = record { fitting = refl; standing = refl; owns = λ p h e. absurd (cc); tracks = closing s.sessions s.names c (s.last + 1) t session true _ k }
tracked s c (Offered o) k ok = go o.time o.ask ok
  where
    i : ℕ
    i = s.last + 1

    open_in : (session : ℕ) → is_some (session_of session s) ≡ true → stands c (Register_at session) ≡ true
    open_in session e = ap is_some (k.by_session session) ∙ ap (λ b. is_some (cond b (Some (marked session)) None)) e

    commands : (t session seq : ℕ) (name : List ℕ) (op : Op) → (out : Outcome) → outcome s name session op ≡ out → GoodOutcome c i t session seq out → Tracked s c (Offered (record { time = t; ask = Command session seq name op }))
    commands t session seq name op (Decided effect reply ns told) is g =
        record {
          fitting = ap (λ out. fits c (decided_body session seq out)) is ∙ g.fitting;
          standing = ap (λ out. closes_standing c (decided_body session seq out)) is ∙ g.standing;
          owns = subst (λ out. EntryOwns i (decided_body session seq out)) (sym is) g.owns;
          tracks = subst (λ out. Tracks (commanded s t session seq out).sessions (commanded s t session seq out).names (after c i (record { time = t; body = decided_body session seq out }))) (sym is)
              (record { by_name = g.by_name; by_session = command_sessions s.sessions s.names c i t session seq effect reply told k });
        }
    commands t session seq name op (Declined refusal) is g =
        record {
          fitting = ap (λ out. fits c (decided_body session seq out)) is;
          standing = ap (λ out. closes_standing c (decided_body session seq out)) is;
          owns = subst (λ out. EntryOwns i (decided_body session seq out)) (sym is) (λ p h e. absurd (cc));
          tracks = subst (λ out. Tracks (commanded s t session seq out).sessions (commanded s t session seq out).names (after c i (record { time = t; body = decided_body session seq out }))) (sym is) (ticked s.sessions s.names c i t k);
        }

    go : (t : ℕ) (a : Ask) → is_admitted s (Offered (record { time = t; ask = a })) ≡ true → Tracked s c (Offered (record { time = t; ask = a }))
    go t (Register timeout) ok = record { fitting = refl; standing = refl; owns = marked_owns i (Register_at i) (marked i) refl; tracks = registered s.sessions s.names c i t timeout k }
    go t (Alive session seq event) ok =
        let admitted = offered_admitted s t (Alive session seq event) ok in
        record { fitting = open_in session (session_open session (session_of session s) (admits_alive seq event) admitted); standing = refl; owns = marked_owns i (Alive_at session) (marked i) refl; tracks = alive s.sessions s.names c i t session seq event k }
    go t (Unregister session) ok = record { fitting = refl; standing = refl; owns = λ p h e. absurd (cc); tracks = closing s.sessions s.names c i t session false _ k }
    go t Tick ok = record { fitting = refl; standing = refl; owns = λ p h e. absurd (cc); tracks = ticked s.sessions s.names c i t k }
    go t (Command session seq name op) ok =
        let admitted = offered_admitted s t (Command session seq name op) ok in
        let r = refusals (of_session session (session_of session s) (admits_seq seq)) (refused_outcome (outcome s name session op) ∷ []) admitted in
        let there = open_in session (session_open session (session_of session s) (admits_seq seq) r.0) in
        commands t session seq name op (outcome s name session op) refl (outcome_good s.sessions s.names c i t session seq k there name op)
