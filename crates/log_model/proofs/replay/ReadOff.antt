-- In every replay a session's fields are those that the cells show. For `replay_law`.
use Rattle.std.proofs.Common.{◌≡◌, ◌⊎◌, ℕ, ◌<◌, Bool, true, false, cond, ◌||◌, ◌==◌, nat_le, T, List, [], ◌∷◌, ◌++◌, Option, Some, None, is_some, refl, sym, ap, subst, ◌∙◌, inl, inr, arith, eq-eqb, eqb-true}
use Rattle.std.proofs.lemmas.Bool.{cases_eq, false_from_ne_true}
use Rattle.std.specs.FinMap.{is_sorted}
use Rattle.std.specs.Option.{option_map}
use Rattle.std.specs.Ordering.{nat_cmp}
use Rattle.host_types.specs.declared.entry.Body.{Body}
use Rattle.host_types.specs.declared.entry.Body.TheVariants.{Register, Alive, Close, Tick, Command}
use Rattle.host_types.specs.declared.entry.Entry.{Entry}
use Rattle.host_types.specs.declared.entry.Event.{Event}
use Rattle.host_types.specs.declared.entry.Reply.{Reply}
use Rattle.host_types.specs.Cells.{Register_at, Alive_at, Held, Cells, at, marked, is_owned_by}
use Rattle.log_model.specs.cleaning.Cells.{puts, fits, after, Numbered, cells_from}
use Rattle.log_model.specs.cleaning.Cleaning.{entry_at}
use Rattle.log_model.specs.replay.Replay.{Telling}
use Rattle.log_model.proofs.replay.Freely.{freely_alive, freely_reply}
use Rattle.log_model.specs.plain.Plain.{Session}
use Rattle.log_model.specs.plain.Step.{new_session}
use Rattle.log_model.specs.cleaning.Sessions.{Fields, entry_of_held, with_alive, register_fields, open_fields}
use Rattle.host_types.proofs.Places.{place_total, exact_places}
use Rattle.log_model.proofs.Lookups.{tied_true}
use Rattle.log_model.proofs.cleaning.Joined.{Below}
use Rattle.log_model.proofs.cleaning.Changes.{Change, Written, Taken, Left, change}
use Rattle.log_model.proofs.cleaning.Entries.{effect_register, effect_covers_register}
use Rattle.log_model.proofs.hosted.Sounds.{effect_alive, effect_covers_alive}
use Rattle.log_model.proofs.cleaning.Indexed.{Each, sorted_parts}
use Rattle.log_model.proofs.plain.Tracks.{untouched, written, emptied, other_place}
use Rattle.log_model.proofs.replay.Run.{batched, session_after, one, run}
use Rattle.log_model.proofs.plain.OneSession.{or_new, with_batch}

abbrev pub fields_in : Session → Fields
fields_in x = record { timeout = x.timeout; last_time = x.last_time; acked_seq = x.acked_seq; acked_event = x.acked_event }

-- what the cells show of the session id, before the entries xs
pub record Reads (E : Numbered) (id : ℕ) (c : Cells) (o : Option Session) (xs : Numbered) : Type 0 where
  pub opened : at c (Register_at id) ≡ cond (is_some o) (Some (marked id)) None
  pub still : is_some o ≡ false → at c (Alive_at id) ≡ None
  pub unowned : (h : Held) → at c (Alive_at id) ≡ Some h → h.owner ≡ None
  pub fields : open_fields id (entry_of_held E (at c (Register_at id))) (entry_of_held E (at c (Alive_at id))) ≡ option_map fields_in o
  pub older : is_some o ≡ true → Below id xs

abbrev shown : Numbered → ℕ → Option Held → Option Held → Option Fields
shown E id r a = open_fields id (entry_of_held E r) (entry_of_held E a)

-- nothing of the session changes that is read
kept : (E : Numbered) (id : ℕ) (c d : Cells) (o p : Option Session) (x : ℕ × Entry) (xs : Numbered) → at d (Register_at id) ≡ at c (Register_at id) → at d (Alive_at id) ≡ at c (Alive_at id) → is_some p ≡ is_some o → option_map fields_in p ≡ option_map fields_in o → Reads E id c o (x ∷ xs) → Reads E id d p xs
kept E id c d o p x xs r a s f k = record {
  opened = r ∙ k.opened ∙ ap (λ b. cond b (Some (marked id)) None) (sym s);
  still = λ e. a ∙ k.still (sym s ∙ e);
  unowned = λ h e. k.unowned h (sym a ∙ e);
  fields = (λ j. shown E id (r j) (a j)) ∙ k.fields ∙ sym f;
  older = λ e. (k.older (sym s ∙ e)).1;
}

fields_of_map : (f : Session → Session) → ((x : Session) → fields_in (f x) ≡ fields_in x) → (o : Option Session) → option_map fields_in (option_map f o) ≡ option_map fields_in o
fields_of_map f same None = refl
fields_of_map f same (Some x) = ap Some (same x)

some_of_map : (f : Session → Session) → (o : Option Session) → is_some (option_map f o) ≡ is_some o
some_of_map f None = refl
some_of_map f (Some x) = refl

batched_some : (cut i : ℕ) (told : List (ℕ × Event)) (o : Option Session) → is_some (batched cut i told o) ≡ is_some o
batched_some cut i told o = elim (nat_le i cut) as (λ b. is_some (cond b o (option_map (with_batch i told) o)) ≡ is_some o) [ true ↦ refl | false ↦ some_of_map (with_batch i told) o ]

batched_fields : (cut i : ℕ) (told : List (ℕ × Event)) (o : Option Session) → option_map fields_in (batched cut i told o) ≡ option_map fields_in o
batched_fields cut i told o = elim (nat_le i cut) as (λ b. option_map fields_in (cond b o (option_map (with_batch i told) o)) ≡ option_map fields_in o) [ true ↦ refl | false ↦ fields_of_map (with_batch i told) (λ x. refl) o ]

reply_fields : (cut seq i : ℕ) (reply : Reply) (x : Session) → fields_in (freely_reply cut seq i reply x) ≡ fields_in x
reply_fields cut seq i reply x = elim (nat_le i cut) as (λ b. fields_in (cond b x (record x { replies = x.replies ++ record { seq = seq; index = i; reply = reply } ∷ [] })) ≡ fields_in x) [ true ↦ refl | false ↦ refl ]

timeout_kept : (id : ℕ) (f : Fields) (a : Option Entry) → (with_alive id f a).timeout ≡ f.timeout
timeout_kept id f None = refl
timeout_kept id f (Some e) = go e.time e.body
  where
    go : (t : ℕ) (b : Body) → (with_alive id f (Some (record { time = t; body = b }))).timeout ≡ f.timeout
    go t (Alive session seq event) = refl
    go t (Register timeout) = refl
    go t _ = refl

-- a keep-alive of a session that stands
alive_over : (id : ℕ) (r a : Option Entry) (f : Fields) (t session seq event : ℕ) → open_fields id r a ≡ Some f → open_fields id r (Some (record { time = t; body = Alive session seq event })) ≡ Some (record { timeout = f.timeout; last_time = t; acked_seq = seq; acked_event = event })
alive_over id None a f t session seq event e = absurd (cc)
alive_over id (Some x) a f t session seq event e = go x.time x.body e
  where
    go : (time : ℕ) (b : Body) → register_fields id time b a ≡ Some f → register_fields id time b (Some (record { time = t; body = Alive session seq event })) ≡ Some (record { timeout = f.timeout; last_time = t; acked_seq = seq; acked_event = event })
    go time (Register timeout) e =
        let start : Fields = record { timeout = timeout; last_time = time; acked_seq = 0; acked_event = id } in
        let same : with_alive id start a ≡ f = (cc) in
        let is : timeout ≡ f.timeout = sym (timeout_kept id start a) ∙ ap (λ (g : Fields). g.timeout) same in
        ap (λ n. Some (record { timeout = n; last_time = t; acked_seq = seq; acked_event = event })) is
    go time (Alive s q v) e = absurd (cc)
    go time _ e = absurd (cc)

differs : (n m : ℕ) → (n ≡ m → ⊥) → (n == m) ≡ false
differs n m ne = false_from_ne_true (n == m) (λ u. ne (eqb-true n m u))

module _ (E : Numbered) (c : Cells) (i t : ℕ) (xs : Numbered) (o : Option Session) where
  registered : (timeout : ℕ) → entry_at E i ≡ Some (record { time = t; body = Register timeout }) → Below i xs → Reads E i c o ((i, record { time = t; body = Register timeout }) ∷ xs) → Reads E i (after c i (record { time = t; body = Register timeout })) (or_new o (cond (i == i) (Some (new_session i t timeout)) None)) xs
  registered timeout there low k = go o refl
    where
      e : Entry
      e = record { time = t; body = Register timeout }

      new : Option Session
      new = Some (new_session i t timeout)

      go : (p : Option Session) → o ≡ p → Reads E i (after c i e) (or_new o (cond (i == i) new None)) xs
      go (Some x) f = let b : Below i ((i, e) ∷ xs) = k.older (ap is_some f) in let l : i < i = b.0 in absurd (omega arith)
      go None f =
          let r : at (after c i e) (Register_at i) ≡ Some (marked i) = written c i e (Register_at i) (marked i) refl (ap (λ b. cond b (Some (marked i)) None) (tied_true place_total exact_places (Register_at i))) in
          let a : at (after c i e) (Alive_at i) ≡ None = untouched c i e (Alive_at i) refl (λ h _. refl) ∙ k.still (ap is_some f) in
          subst (λ p. Reads E i (after c i e) p xs) (sym (ap (λ o. or_new o (cond (i == i) new None)) f ∙ ap (λ b. cond b new None) (eq-eqb i i refl)))
          (record {
            opened = r;
            still = λ z. absurd (cc);
            unowned = λ h z. absurd (cc);
            fields = (λ j. shown E i (r j) (a j)) ∙ ap (λ z. open_fields i z None) there;
            older = λ _. low;
          })

  kept_alive : (id seq event : ℕ) → entry_at E i ≡ Some (record { time = t; body = Alive id seq event }) → Reads E id c o ((i, record { time = t; body = Alive id seq event }) ∷ xs) → Reads E id (after c i (record { time = t; body = Alive id seq event })) (option_map (freely_alive t seq event) o) xs
  kept_alive id seq event there k = go o refl
    where
      e : Entry
      e = record { time = t; body = Alive id seq event }

      r : at (after c i e) (Register_at id) ≡ at c (Register_at id)
      r = untouched c i e (Register_at id) refl (λ h _. refl)

      unfit : at c (Register_at id) ≡ None → Change c i e (Alive_at id) → at (after c i e) (Alive_at id) ≡ at c (Alive_at id)
      unfit n (Written h f w a) = let no : fits c e.body ≡ false = ap is_some n in absurd (cc)
      unfit n (Taken h w v a) = absurd (cc)
      unfit n (Left u v s) = s

      go : (p : Option Session) → o ≡ p → Reads E id (after c i e) (option_map (freely_alive t seq event) o) xs
      go None f =
          let a = unfit (k.opened ∙ ap (λ p. cond (is_some p) (Some (marked id)) None) f) (change c i e (Alive_at id)) in
          kept E id c (after c i e) o (option_map (freely_alive t seq event) o) (i, e) xs r a (some_of_map (freely_alive t seq event) o)
          (ap (λ p. option_map fields_in (option_map (freely_alive t seq event) p)) f ∙ sym (ap (option_map fields_in) f)) k
      go (Some x) f =
          let fit : fits c e.body ≡ true = ap is_some (k.opened ∙ ap (λ p. cond (is_some p) (Some (marked id)) None) f) in
          let a : at (after c i e) (Alive_at id) ≡ Some (marked i) = written c i e (Alive_at id) (marked i) fit (ap (λ b. cond b (Some (marked i)) None) (tied_true place_total exact_places (Alive_at id))) in
          let before = k.fields ∙ ap (option_map fields_in) f in
          subst (λ p. Reads E id (after c i e) p xs) (sym (ap (option_map (freely_alive t seq event)) f))
          (record {
            opened = r ∙ k.opened ∙ ap (λ p. cond (is_some p) (Some (marked id)) None) f;
            still = λ z. absurd (cc);
            unowned = λ h z. ap (λ (g : Held). g.owner) (let same : h ≡ marked i = (cc) in same);
            fields = (λ j. shown E id (r j) (a j)) ∙ ap (open_fields id (entry_of_held E (at c (Register_at id)))) there
                ∙ alive_over id (entry_of_held E (at c (Register_at id))) (entry_of_held E (at c (Alive_at id))) (fields_in x) t id seq event before;
            older = λ _. (k.older (ap is_some f)).1;
          })

pub reads_next : (E : Numbered) (cut id : ℕ) (told : List (ℕ × Event)) (c : Cells) (x : ℕ × Entry) (xs : Numbered) (o : Option Session) → entry_at E x.0 ≡ Some x.1 → Below x.0 xs → Reads E id c o (x ∷ xs) → Reads E id (after c x.0 x.1) (session_after cut id x.0 x.1.time told x.1.body o) xs
reads_next E cut id told c x xs o there low k = go x.1.time x.1.body there k
  where
    i : ℕ
    i = x.0

    go : (t : ℕ) (b : Body) → entry_at E i ≡ Some (record { time = t; body = b }) → Reads E id c o ((i, record { time = t; body = b }) ∷ xs) → Reads E id (after c i (record { time = t; body = b })) (session_after cut id i t told b o) xs
    go t (Register timeout) there k = here (cases_eq id i)
      where
        e : Entry
        e = record { time = t; body = Register timeout }

        new : Option Session
        new = Some (new_session i t timeout)

        here : (id ≡ i) ⊎ (id ≡ i → ⊥) → Reads E id (after c i e) (or_new o (cond (i == id) new None)) xs
        here (inl same) =
            subst (λ j. Reads E j c o ((i, e) ∷ xs) → Reads E j (after c i e) (or_new o (cond (i == j) new None)) xs) (sym same) (registered E c i t xs o timeout there low) k
        here (inr ne) =
            let none : at (puts i e.body) (Register_at id) ≡ None = ap (λ b. cond b (Some (marked i)) None) (other_place (Register_at id) (Register_at i) (λ s. let same : id ≡ i = (cc) in ne same)) in
            let out : or_new o (cond (i == id) new None) ≡ o = ap (λ b. or_new o (cond b new None)) (differs i id (λ s. ne (sym s))) ∙ elim o as (λ o. or_new o None ≡ o) [ None ↦ refl | Some y ↦ refl ] in
            kept E id c (after c i e) o (or_new o (cond (i == id) new None)) (i, e) xs (untouched c i e (Register_at id) none (λ h _. refl)) (untouched c i e (Alive_at id) refl (λ h _. refl)) (ap is_some out) (ap (option_map fields_in) out) k
    go t (Alive session seq event) there k = here (cases_eq id session)
      where
        e : Entry
        e = record { time = t; body = Alive session seq event }

        f : Session → Session
        f = freely_alive t seq event

        here : (id ≡ session) ⊎ (id ≡ session → ⊥) → Reads E id (after c i e) (cond (id == session) (option_map f o) o) xs
        here (inl same) =
            subst (λ s. entry_at E i ≡ Some (record { time = t; body = Alive s seq event }) → Reads E id c o ((i, record { time = t; body = Alive s seq event }) ∷ xs) → Reads E id (after c i (record { time = t; body = Alive s seq event })) (cond (id == s) (option_map f o) o) xs) same
            (λ there k. subst (λ p. Reads E id (after c i (record { time = t; body = Alive id seq event })) p xs) (ap (λ b. cond b (option_map f o) o) (sym (eq-eqb id id refl))) (kept_alive E c i t xs o id seq event there k)) there k
        here (inr ne) =
            let none : at (puts i e.body) (Alive_at id) ≡ None = ap (λ b. cond b (Some (marked i)) None) (other_place (Alive_at id) (Alive_at session) (λ s. let same : id ≡ session = (cc) in ne same)) in
            let out : cond (id == session) (option_map f o) o ≡ o = ap (λ b. cond b (option_map f o) o) (differs id session ne) in
            kept E id c (after c i e) o (cond (id == session) (option_map f o) o) (i, e) xs (untouched c i e (Register_at id) refl (λ h _. refl)) (untouched c i e (Alive_at id) none (λ h _. refl)) (ap is_some out) (ap (option_map fields_in) out) k
    go t (Close session expired) there k = here (cases_eq id session)
      where
        e : Entry
        e = record { time = t; body = Close session expired }

        here : (id ≡ session) ⊎ (id ≡ session → ⊥) → Reads E id (after c i e) (cond (id == session) None (batched cut i told o)) xs
        here (inl same) =
            let covered : (session == id) ≡ true = eq-eqb session id (sym same) in
            let r : at (after c i e) (Register_at id) ≡ None = emptied c i e (Register_at id) refl (λ h f. ap (λ b. b || is_owned_by session h.owner) covered) in
            let a : at (after c i e) (Alive_at id) ≡ None = emptied c i e (Alive_at id) refl (λ h f. ap (λ b. b || is_owned_by session h.owner) covered) in
            subst (λ p. Reads E id (after c i e) p xs) (ap (λ b. cond b None (batched cut i told o)) (sym (eq-eqb id session same)))
            (record { opened = r; still = λ _. a; unowned = λ h z. absurd (cc); fields = (λ j. shown E id (r j) (a j)); older = λ z. absurd (cc) })
        here (inr ne) =
            let other : (session == id) ≡ false = differs session id (λ s. ne (sym s)) in
            let out : cond (id == session) None (batched cut i told o) ≡ batched cut i told o = ap (λ b. cond b None (batched cut i told o)) (differs id session ne) in
            let free : (h : Held) → h.owner ≡ None → (q : Bool) → q ≡ false → (q || is_owned_by session h.owner) ≡ false = λ h n q z. ap (λ b. b || is_owned_by session h.owner) z ∙ ap (is_owned_by session) n in
            let r = untouched c i e (Register_at id) refl (λ h f. free h (no_owner (is_some o) h (sym k.opened ∙ f)) (session == id) other) in
            let a = untouched c i e (Alive_at id) refl (λ h f. free h (k.unowned h f) (session == id) other) in
            kept E id c (after c i e) o (cond (id == session) None (batched cut i told o)) (i, e) xs r a (ap is_some out ∙ batched_some cut i told o) (ap (option_map fields_in) out ∙ batched_fields cut i told o) k
          where
            no_owner : (b : Bool) (h : Held) → cond b (Some (marked id)) None ≡ Some h → h.owner ≡ None
            no_owner true h z = let same : marked id ≡ h = (cc) in ap (λ (g : Held). g.owner) (sym same)
            no_owner false h z = absurd (cc)
    go t Tick there k =
        let e : Entry = record { time = t; body = Tick } in
        kept E id c (after c i e) o o (i, e) xs (untouched c i e (Register_at id) refl (λ h _. refl)) (untouched c i e (Alive_at id) refl (λ h _. refl)) refl refl k
    go t (Command session seq effect reply) there k =
        kept E id c (after c i e) o (session_after cut id i t told (Command session seq effect reply) o) (i, e) xs
        (untouched c i e (Register_at id) (effect_register i effect id) (λ h _. effect_covers_register effect id))
        (untouched c i e (Alive_at id) (effect_alive i effect id) (λ h _. effect_covers_alive effect id))
        (elim (id == session) as (λ b. is_some (cond b (option_map (freely_reply cut seq i reply) (batched cut i told o)) (batched cut i told o)) ≡ is_some o) [
          | true ↦ some_of_map (freely_reply cut seq i reply) (batched cut i told o) ∙ batched_some cut i told o
          | false ↦ batched_some cut i told o
        ])
        (elim (id == session) as (λ b. option_map fields_in (cond b (option_map (freely_reply cut seq i reply) (batched cut i told o)) (batched cut i told o)) ≡ option_map fields_in o) [
          | true ↦ fields_of_map (freely_reply cut seq i reply) (reply_fields cut seq i reply) (batched cut i told o) ∙ batched_fields cut i told o
          | false ↦ batched_fields cut i told o
        ]) k
      where
        e : Entry
        e = record { time = t; body = Command session seq effect reply }

pub reads_run : (telling : Telling) (cut id : ℕ) (E : Numbered) (c : Cells) (xs : Numbered) (o : Option Session) → T (is_sorted nat_cmp xs) → Each (λ i e. entry_at E i ≡ Some e) xs → Reads E id c o xs → Reads E id (cells_from c xs) (run telling cut id c xs o) []
reads_run telling cut id E c [] o s k r = r
reads_run telling cut id E c (x ∷ xs) o s k r =
    let p = sorted_parts x xs s in
    reads_run telling cut id E (after c x.0 x.1) xs (one telling cut id c x o) p.1 k.1 (reads_next E cut id (telling c x.0 x.1.body) c x xs o k.0 p.0 r)

pub reads_start : (E : Numbered) (id : ℕ) (xs : Numbered) → Reads E id [] None xs
reads_start E id xs = record { opened = refl; still = λ _. refl; unowned = λ h z. absurd (cc); fields = refl; older = λ z. absurd (cc) }
