-- The sessions of a replay stand by rising id, so that look-ups determine the list. For `replay_law`.
use Rattle.std.proofs.Common.{◌≡◌, ◌⊎◌, ℕ, ◌<◌, Bool, true, false, cond, not, ◌&&◌, ◌==◌, nat_le, nat_lt, T, List, [], ◌∷◌, ◌++◌, map, Some, refl, sym, ap, subst, ◌∙◌, inl, inr, arith, eq-eqb, eqb-true, lt-ltb, Less, Equal, Greater}
use Rattle.std.proofs.lemmas.Bool.{cases_eq, false_from_ne_true}
use Rattle.std.specs.List.{filter}
use Rattle.std.specs.FinMap.{find, is_sorted, nat_cmp-IsAntisymmetric}
use Rattle.std.specs.FinMap.Entries.{below_all, same_entries}
use Rattle.std.specs.Ordering.{nat_cmp, eq_by_cmp, is_lt}
use Rattle.std.specs.Cmp.{nat_cmp_total}
use Rattle.host_types.specs.declared.entry.Body.{Body}
use Rattle.host_types.specs.declared.entry.Body.TheVariants.{Register, Alive, Close, Tick, Command}
use Rattle.host_types.specs.declared.entry.Entry.{Entry}
use Rattle.host_types.specs.declared.entry.Event.{Event}
use Rattle.host_types.specs.declared.entry.Reply.{Reply}
use Rattle.log_model.specs.cleaning.Cells.{Numbered}
use Rattle.log_model.specs.plain.Plain.{Kept_reply, Kept_batch, Session}
use Rattle.log_model.specs.plain.Step.{one_batch, events_of, changed, with_reply}
use Rattle.log_model.specs.replay.Replay.{noted, trimmed, pushed, replay_alive, replay_reply, replay_sessions}
use Rattle.log_model.specs.hosted.Sound.{Above, Rises}
use Rattle.log_model.proofs.Lookups.{tied_true, tied_same}
use Rattle.log_model.proofs.cleaning.Joined.{Below}
use Rattle.log_model.proofs.plain.Tracks.{changed_id, found_session}

-- each id is below all indexes of the entries
abbrev pub Ready : Numbered → List Session → Type 0
Ready es [] = Unit {0}
Ready es (x ∷ xs) = Below x.id es × Ready es xs

module _ (f : Session → Session) (same : (x : Session) → (f x).id ≡ x.id) where
  above_map : (n : ℕ) (xs : List Session) → Above n xs → Above n (map f xs)
  above_map n [] a = tt
  above_map n (x ∷ xs) a = (subst (λ m. n < m) (sym (same x)) a.0, above_map n xs a.1)

  pub rises_map : (xs : List Session) → Rises xs → Rises (map f xs)
  rises_map [] r = tt
  rises_map (x ∷ xs) r = (subst (λ m. Above m (map f xs)) (sym (same x)) (above_map x.id xs r.0), rises_map xs r.1)

  ready_map : (es : Numbered) (xs : List Session) → Ready es xs → Ready es (map f xs)
  ready_map es [] r = tt
  ready_map es (x ∷ xs) r = (subst (λ m. Below m es) (sym (same x)) r.0, ready_map es xs r.1)

above_filter : (p : Session → Bool) (n : ℕ) (xs : List Session) → Above n xs → Above n (filter p xs)
above_filter p n [] a = tt
above_filter p n (x ∷ xs) a = elim (p x) as (λ b. Above n (cond b (x ∷ filter p xs) (filter p xs))) [ true ↦ (a.0, above_filter p n xs a.1) | false ↦ above_filter p n xs a.1 ]

rises_filter : (p : Session → Bool) (xs : List Session) → Rises xs → Rises (filter p xs)
rises_filter p [] r = tt
rises_filter p (x ∷ xs) r = elim (p x) as (λ b. Rises (cond b (x ∷ filter p xs) (filter p xs))) [ true ↦ (above_filter p x.id xs r.0, rises_filter p xs r.1) | false ↦ rises_filter p xs r.1 ]

ready_filter : (p : Session → Bool) (es : Numbered) (xs : List Session) → Ready es xs → Ready es (filter p xs)
ready_filter p es [] r = tt
ready_filter p es (x ∷ xs) r = elim (p x) as (λ b. Ready es (cond b (x ∷ filter p xs) (filter p xs))) [ true ↦ (r.0, ready_filter p es xs r.1) | false ↦ ready_filter p es xs r.1 ]

above_push : (n : ℕ) (xs : List Session) (y : Session) → n < y.id → Above n xs → Above n (xs ++ y ∷ [])
above_push n [] y l a = (l, tt)
above_push n (x ∷ xs) y l a = (a.0, above_push n xs y l a.1)

pub rises_push : (i : ℕ) (e : Entry) (es : Numbered) (xs : List Session) (y : Session) → y.id ≡ i → Ready ((i, e) ∷ es) xs → Rises xs → Rises (xs ++ y ∷ [])
rises_push i e es [] y s d r = (tt, tt)
rises_push i e es (x ∷ xs) y s d r = let l : x.id < i = d.0.0 in (above_push x.id xs y (omega (arith, s)) r.0, rises_push i e es xs y s d.1 r.1)

pub ready_push : (es : Numbered) (xs : List Session) (y : Session) → Below y.id es → Ready es xs → Ready es (xs ++ y ∷ [])
ready_push es [] y b r = (b, tt)
ready_push es (x ∷ xs) y b r = (r.0, ready_push es xs y b r.1)

pub ready_next : (e : ℕ × Entry) (es : Numbered) (xs : List Session) → Ready (e ∷ es) xs → Ready es xs
ready_next e es [] r = tt
ready_next e es (x ∷ xs) r = (r.0.1, ready_next e es xs r.1)

pub both_mapped : (f : Session → Session) → ((x : Session) → (f x).id ≡ x.id) → (es : Numbered) (xs : List Session) → Ready es xs × Rises xs → Ready es (map f xs) × Rises (map f xs)
both_mapped f same es xs h = (ready_map f same es xs h.0, rises_map f same xs h.1)

both_cond : (b : Bool) (f : Session → Session) → ((x : Session) → (f x).id ≡ x.id) → (es : Numbered) (xs : List Session) → Ready es xs × Rises xs → Ready es (cond b (map f xs) xs) × Rises (cond b (map f xs) xs)
both_cond true f same es xs h = both_mapped f same es xs h
both_cond false f same es xs h = h

pub both_changed : (session : ℕ) (f : Session → Session) → ((x : Session) → (f x).id ≡ x.id) → (es : Numbered) (xs : List Session) → Ready es xs × Rises xs → Ready es (changed session f xs) × Rises (changed session f xs)
both_changed session f same es xs h =
    let ids = changed_id session f same in
    (ready_map (λ x. cond (x.id == session) (f x) x) ids es xs h.0, rises_map (λ x. cond (x.id == session) (f x) x) ids xs h.1)

pub both_filtered : (p : Session → Bool) (es : Numbered) (xs : List Session) → Ready es xs × Rises xs → Ready es (filter p xs) × Rises (filter p xs)
both_filtered p es xs h = (ready_filter p es xs h.0, rises_filter p xs h.1)

trimmed_id : (event : ℕ) (x : Session) → (trimmed event x).id ≡ x.id
trimmed_id event x = elim (nat_lt event x.acked_event) as (λ b. (cond b x (record x { acked_event = event; batches = filter (λ (k : Kept_batch). nat_lt event k.index) x.batches })).id ≡ x.id) [ true ↦ refl | false ↦ refl ]

pub alive_id : (t seq event : ℕ) (x : Session) → (replay_alive t seq event x).id ≡ x.id
alive_id t seq event x = trimmed_id event (record x { last_time = t; acked_seq = seq; replies = filter (λ (r : Kept_reply). nat_lt seq r.seq) x.replies })

pub push_id : (i : ℕ) (es : List Event) (x : Session) → (pushed i es x).id ≡ x.id
push_id i es x = elim (nat_le i x.acked_event) as (λ b. (cond b x (record x { batches = x.batches ++ one_batch i es })).id ≡ x.id) [ true ↦ refl | false ↦ refl ]

pub reply_id : (cut seq i : ℕ) (reply : Reply) (x : Session) → (replay_reply cut seq i reply x).id ≡ x.id
reply_id cut seq i reply x = elim (nat_lt cut i && nat_lt x.seq seq) as (λ b. (cond b (with_reply seq i reply x) (noted seq x)).id ≡ x.id) [ true ↦ refl | false ↦ refl ]

abbrev pub pushing : ℕ → List (ℕ × Event) → Session → Session
pushing i told x = pushed i (events_of x.id told) x

pub rising_next : (cut t : ℕ) (told : List (ℕ × Event)) (b : Body) (i : ℕ) (e : Entry) (es : Numbered) (ss : List Session) → Below i es → Ready ((i, e) ∷ es) ss → Rises ss → Ready es (replay_sessions cut i t told b ss) × Rises (replay_sessions cut i t told b ss)
rising_next cut t told (Register timeout) i e es ss low d r = (ready_push es ss _ low (ready_next (i, e) es ss d), rises_push i e es ss _ refl d r)
rising_next cut t told (Alive session seq event) i e es ss low d r = both_changed session (replay_alive t seq event) (alive_id t seq event) es ss (ready_next (i, e) es ss d, r)
rising_next cut t told (Close session expired) i e es ss low d r =
    both_cond (nat_lt cut i) (pushing i told) (λ x. push_id i (events_of x.id told) x) es _ (both_filtered (λ x. not (x.id == session)) es ss (ready_next (i, e) es ss d, r))
rising_next cut t told Tick i e es ss low d r = (ready_next (i, e) es ss d, r)
rising_next cut t told (Command session seq effect reply) i e es ss low d r =
    both_changed session (replay_reply cut seq i reply) (reply_id cut seq i reply) es _ (both_cond (nat_lt cut i) (pushing i told) (λ x. push_id i (events_of x.id told) x) es ss (ready_next (i, e) es ss d, r))

-- lists by rising id with the same look-ups

abbrev pairs : List Session → List (ℕ × Session)
pairs ss = map (λ x. (x.id, x)) ss

either_way : (q n : ℕ) → eq_by_cmp nat_cmp q n ≡ (n == q)
either_way q n = go (cases_eq q n)
  where
    go : (q ≡ n) ⊎ (q ≡ n → ⊥) → eq_by_cmp nat_cmp q n ≡ (n == q)
    go (inl same) = subst (λ m. eq_by_cmp nat_cmp q m ≡ (m == q)) same (tied_true nat_cmp_total nat_cmp-IsAntisymmetric q ∙ sym (eq-eqb q q refl))
    go (inr ne) =
        false_from_ne_true (eq_by_cmp nat_cmp q n) (λ t. ne (tied_same nat_cmp_total nat_cmp-IsAntisymmetric q n t))
        ∙ sym (false_from_ne_true (n == q) (λ t. ne (sym (eqb-true n q t))))

found_pair : (q : ℕ) (ss : List Session) → find nat_cmp q (pairs ss) ≡ found_session q ss
found_pair q [] = refl
found_pair q (x ∷ ss) = (λ j. cond (either_way q x.id j) (Some x) (found_pair q ss j))

both : (a b : Bool) → T a → T b → T (a && b)
both true b h k = k
both false b h k = absurd h

below_pairs : (n : ℕ) (ss : List Session) → Above n ss → T (below_all nat_cmp n (pairs ss))
below_pairs n [] a = tt
below_pairs n (x ∷ ss) a = both _ _ (subst (λ t. T (is_lt (cond t Less (cond (n == x.id) Equal Greater)))) (sym (lt-ltb n x.id a.0)) tt) (below_pairs n ss a.1)

sorted_pairs : (ss : List Session) → Rises ss → T (is_sorted nat_cmp (pairs ss))
sorted_pairs [] r = tt
sorted_pairs (x ∷ ss) r = both _ _ (below_pairs x.id ss r.0) (sorted_pairs ss r.1)

unpaired : (ss : List Session) → map (λ (p : ℕ × Session). p.1) (pairs ss) ≡ ss
unpaired [] = refl
unpaired (x ∷ ss) = ap (λ l. x ∷ l) (unpaired ss)

pub same_list : (xs ys : List Session) → Rises xs → Rises ys → ((id : ℕ) → found_session id xs ≡ found_session id ys) → xs ≡ ys
same_list xs ys r s same =
    let e = same_entries nat_cmp nat_cmp_total nat_cmp-IsAntisymmetric (pairs xs) (pairs ys) (sorted_pairs xs r) (sorted_pairs ys s) (λ q. found_pair q xs ∙ same q ∙ sym (found_pair q ys)) in
    sym (unpaired xs) ∙ ap (map (λ (p : ℕ × Session). p.1)) e ∙ unpaired ys
