-- The machine's part of the cells is changed as a machine changes its own. For `machine_part_follows`, `places_are_parted`.
use Rattle.std.proofs.Common.{◌≡◌, ℕ, ◌+◌, Bool, true, false, cond, not, ◌&&◌, ◌||◌, ◌==◌, T, List, [], ◌∷◌, Option, Some, None, is_some, count_by, refl, sym, ap, ◌∙◌, arith}
use Rattle.std.proofs.lemmas.List.Sums.{sum_by-cons}
use Rattle.std.specs.List.{list_any}
use Rattle.std.specs.FinMap.{find, is_sorted}
use Rattle.std.specs.FinMap.Entries.{find-where_key, is_sorted-where_key, same_entries}
use Rattle.host_types.specs.declared.entry.Cell.{Cell}
use Rattle.host_types.specs.declared.entry.Content.{Content}
use Rattle.host_types.specs.declared.entry.Effect.{Effect}
use Rattle.host_types.specs.declared.entry.Effect.TheVariants.{Create, Delete, Put, Drop, Wipe, WipeKey, Nothing, Tell}
use Rattle.host_types.specs.declared.entry.Body.{Body}
use Rattle.host_types.specs.declared.entry.Body.TheVariants.{Register, Alive, Close, Tick, Command}
use Rattle.host_types.specs.declared.entry.Reply.{Reply}
use Rattle.host_types.specs.declared.entry.Entry.{Entry}
use Rattle.host_types.specs.Cells.{Place, Name_at, Cell_at, Register_at, Alive_at, Held, place_cmp, Cells, at, places_of, effect_puts, effect_covers, effect_fits, is_name_for, is_met, is_owned_by, without_owner, put_all, after_effect, deletes_standing}
use Rattle.log_model.specs.cleaning.Cells.{puts, covers, owner_stands, fits_with_owner, fits, is_covered, uncovered, after}
use Rattle.log_model.specs.hosted.Hosted.{is_machine_place, machine_cells}
use Rattle.log_model.specs.hosted.Parts.{put_owner_stands, machine_after, session_cells}
use Rattle.host_types.proofs.Places.{place_total, exact_places}
use Rattle.log_model.proofs.Lookups.{T_from}
use Rattle.log_model.proofs.cleaning.Changes.{or_else, at-put_all, at-uncovered, sorted-put_all, sorted-after}

pub at_machine : (c : Cells) (p : Place) → at (machine_cells c) p ≡ cond (is_machine_place p) (at c p) None
at_machine c p = find-where_key place_cmp is_machine_place p (λ x t. ap is_machine_place (sym (exact_places p x t))) c

pub sorted_machine : (c : Cells) → T (is_sorted place_cmp c) → T (is_sorted place_cmp (machine_cells c))
sorted_machine c s = is_sorted-where_key place_cmp is_machine_place c s

-- what fits
any_machine : (f : Place × Held → Bool) → ((x : Place × Held) → is_machine_place x.0 ≡ false → f x ≡ false) → (c : Cells) → list_any f (machine_cells c) ≡ list_any f c
any_machine f none [] = refl
any_machine f none (x ∷ c) =
    elim (is_machine_place x.0) as (λ b. is_machine_place x.0 ≡ b → list_any f (cond b (x ∷ machine_cells c) (machine_cells c)) ≡ (f x || list_any f c)) [
      | true ↦ λ t. ap (λ b. f x || b) (any_machine f none c)
      | false ↦ λ t. any_machine f none c ∙ ap (λ b. b || list_any f c) (sym (none x t))
    ] refl

names_only : (instance : ℕ) (cell : Cell) (content : Content) (x : Place × Held) → is_machine_place x.0 ≡ false → is_name_for instance cell content x ≡ false
names_only instance cell content (Name_at name, held) e = absurd (cc)
names_only instance cell content (Cell_at other c, held) e = refl
names_only instance cell content (Register_at session, held) e = refl
names_only instance cell content (Alive_at session, held) e = refl

pub fits_machine : (c : Cells) (f : Effect) → effect_fits (machine_cells c) f ≡ effect_fits c f
fits_machine c (Create name kind) = ap (λ o. not (is_some o)) (at_machine c (Name_at name))
fits_machine c (Put instance cell content owner) = any_machine (is_name_for instance cell content) (names_only instance cell content) c
fits_machine c _ = refl

pub deletes_machine : (c : Cells) (f : Effect) → deletes_standing (machine_cells c) f ≡ deletes_standing c f
deletes_machine c (Delete name instance) = ap (λ o. Rattle.std.specs.Option.option_map_or (λ (held : Held). held.index == instance) o false) (at_machine c (Name_at name))
deletes_machine c _ = refl

-- cells that are the machine's part of others
is_part : (c d : Cells) → T (is_sorted place_cmp c) → T (is_sorted place_cmp d) → ((p : Place) → cond (is_machine_place p) (at c p) None ≡ at d p) → machine_cells c ≡ d
is_part c d s t same = same_entries place_cmp place_total exact_places (machine_cells c) d (sorted_machine c s) t (λ p. at_machine c p ∙ same p)

-- what stands at a place where some may be put
pub put_or_not : (b : Bool) (ws : List (Place × Held)) (u : Cells) (p : Place) → at (cond b (put_all ws u) u) p ≡ or_else (cond b (at ws p) None) (at u p)
put_or_not true ws u p = at-put_all ws u p
put_or_not false ws u p = refl

sorted_either : (b : Bool) (ws : List (Place × Held)) (u : Cells) → T (is_sorted place_cmp u) → T (is_sorted place_cmp (cond b (put_all ws u) u))
sorted_either true ws u s = sorted-put_all ws u s
sorted_either false ws u s = s

sorted_uncovered : (b : Body) (c : Cells) → T (is_sorted place_cmp c) → T (is_sorted place_cmp (uncovered b c))
sorted_uncovered b c s = is_sorted-where_key place_cmp (λ q. not (is_covered b q (at c q))) c s

pub at-without_owner : (session : ℕ) (c : Cells) (p : Place) → at (without_owner session c) p ≡ cond (not (is_met (λ place held. is_owned_by session held.owner) p (at c p))) (at c p) None
at-without_owner session c p =
    find-where_key place_cmp (λ q. not (is_met (λ place held. is_owned_by session held.owner) q (at c q))) p
    (λ x t. ap (λ q. not (is_met (λ place held. is_owned_by session held.owner) q (at c q))) (sym (exact_places p x t))) c

sorted_without_owner : (session : ℕ) (c : Cells) → T (is_sorted place_cmp c) → T (is_sorted place_cmp (without_owner session c))
sorted_without_owner session c s = is_sorted-where_key place_cmp (λ q. not (is_met (λ place held. is_owned_by session held.owner) q (at c q))) c s

no_session_puts : (i : ℕ) (f : Effect) (p : Place) → is_machine_place p ≡ false → at (effect_puts i f) p ≡ None
no_session_puts i (Create name kind) (Name_at n) e = absurd (cc)
no_session_puts i (Create name kind) (Cell_at m cell) e = refl
no_session_puts i (Create name kind) (Register_at session) e = refl
no_session_puts i (Create name kind) (Alive_at session) e = refl
no_session_puts i (Put instance cell content owner) (Name_at n) e = refl
no_session_puts i (Put instance cell content owner) (Cell_at m c) e = absurd (cc)
no_session_puts i (Put instance cell content owner) (Register_at session) e = refl
no_session_puts i (Put instance cell content owner) (Alive_at session) e = refl
no_session_puts i _ p e = refl

abbrev no_held : Option Held
no_held = None

module _ (c : Cells) (i t : ℕ) (s : T (is_sorted place_cmp c)) where
  abbrev m : Cells
  m = machine_cells c

  sorted_there : (e : Entry) → T (is_sorted place_cmp (after c i e))
  sorted_there e = sorted-after c i e s

  -- an entry that neither puts nor covers at a machine's places
  stays : (e : Entry) → ((p : Place) → is_machine_place p ≡ true → at (after c i e) p ≡ at c p) → machine_cells (after c i e) ≡ m
  stays e same = is_part (after c i e) m (sorted_there e) (sorted_machine c s) (λ p.
      elim (is_machine_place p) as (λ b. is_machine_place p ≡ b → cond b (at (after c i e) p) None ≡ cond b (at c p) None) [
        | true ↦ λ q. same p q
        | false ↦ λ q. refl
      ] refl
      ∙ sym (at_machine c p))

  -- a command whose owner stands
  module _ (session seq : ℕ) (f : Effect) (reply : Reply) where
    abbrev e : Entry
    e = record { time = t; body = Command session seq f reply }

    abbrev ws : List (Place × Held)
    ws = effect_puts i f

    abbrev u : Cells → Cells
    u d = uncovered (Command session seq f reply) d

    u_alike : (p : Place) (d : Cells) → at d p ≡ at c p → at (u d) p ≡ at (u c) p
    u_alike p d same =
        at-uncovered (Command session seq f reply) d p
        ∙ ap (λ o. cond (not (is_covered (Command session seq f reply) p o)) o no_held) same
        ∙ sym (at-uncovered (Command session seq f reply) c p)

    u_none : (p : Place) (d : Cells) → at d p ≡ None → at (u d) p ≡ None
    u_none p d same = at-uncovered (Command session seq f reply) d p ∙ ap (λ o. cond (not (is_covered (Command session seq f reply) p o)) o no_held) same

    applied : fits_with_owner c f ≡ effect_fits c f → machine_cells (after c i e) ≡ after_effect m i f
    applied whole =
        is_part (after c i e) (after_effect m i f) (sorted_there e) (sorted_either (effect_fits m f) ws (u m) (sorted_uncovered (Command session seq f reply) m (sorted_machine c s))) (λ p.
        elim (is_machine_place p) as (λ b. is_machine_place p ≡ b → cond b (at (after c i e) p) None ≡ at (after_effect m i f) p) [
          | true ↦ λ q.
              let same : at m p ≡ at c p = at_machine c p ∙ ap (λ b. cond b (at c p) None) q in
              put_or_not (fits_with_owner c f) ws (u c) p
              ∙ (λ j. or_else (cond ((whole ∙ sym (fits_machine c f)) j) (at ws p) None) (sym (u_alike p m same) j))
              ∙ sym (put_or_not (effect_fits m f) ws (u m) p)
          | false ↦ λ q.
              let none : at m p ≡ None = at_machine c p ∙ ap (λ b. cond b (at c p) None) q in
              sym (put_or_not (effect_fits m f) ws (u m) p
              ∙ (λ j. or_else (cond (effect_fits m f) (no_session_puts i f p q j) None) (u_none p m none j))
              ∙ elim (effect_fits m f) as (λ b. or_else (cond b no_held no_held) no_held ≡ no_held) [ true ↦ refl | false ↦ refl ])
        ] refl)

    left_out : fits_with_owner c f ≡ false → ((p : Place) → effect_covers f p ≡ false) → machine_cells (after c i e) ≡ m
    left_out unfit uncovering = stays e (λ p q.
        put_or_not (fits_with_owner c f) ws (u c) p
        ∙ ap (λ b. or_else (cond b (at ws p) None) (at (u c) p)) unfit
        ∙ at-uncovered (Command session seq f reply) c p
        ∙ elim (at c p) as (λ o. cond (not (is_covered (Command session seq f reply) p o)) o no_held ≡ o) [
          | None ↦ refl
          | Some h ↦ ap (λ b. cond (not b) (Some h) no_held) (uncovering p)
        ])

  command_part : (session seq : ℕ) (f : Effect) (reply : Reply) → machine_cells (after c i (record { time = t; body = Command session seq f reply })) ≡ cond (put_owner_stands c f) (after_effect m i f) m
  command_part session seq (Put instance cell content owner) reply =
      elim (owner_stands c owner) as (λ b. owner_stands c owner ≡ b → machine_cells (after c i (record { time = t; body = Command session seq f reply })) ≡ cond b (after_effect m i f) m) [
        | true ↦ λ q. applied session seq f reply (ap (λ b. effect_fits c f && b) q ∙ all (effect_fits c f))
        | false ↦ λ q. left_out session seq f reply (ap (λ b. effect_fits c f && b) q ∙ nothing (effect_fits c f)) (λ p. refl)
      ] refl
    where
      f : Effect
      f = Put instance cell content owner

      all : (b : Bool) → (b && true) ≡ b
      all true = refl
      all false = refl

      nothing : (b : Bool) → (b && false) ≡ false
      nothing true = refl
      nothing false = refl
  command_part session seq (Create name kind) reply = applied session seq (Create name kind) reply refl
  command_part session seq (Delete name instance) reply = applied session seq (Delete name instance) reply refl
  command_part session seq (Drop instance cell) reply = applied session seq (Drop instance cell) reply refl
  command_part session seq (Wipe instance) reply = applied session seq (Wipe instance) reply refl
  command_part session seq (WipeKey instance key) reply = applied session seq (WipeKey instance key) reply refl
  command_part session seq Nothing reply = applied session seq Nothing reply refl
  command_part session seq (Tell instance word) reply = applied session seq (Tell instance word) reply refl

  close_part : (session : ℕ) (expired : Bool) → machine_cells (after c i (record { time = t; body = Close session expired })) ≡ without_owner session m
  close_part session expired =
      is_part (after c i e) (without_owner session m) (sorted_there e) (sorted_without_owner session m (sorted_machine c s)) (λ p. go p)
    where
      e : Entry
      e = record { time = t; body = Close session expired }

      test : Place → Option Held → Bool
      test p o = is_met (λ place held. is_owned_by session held.owner) p o

      owned : (p : Place) → at m p ≡ at c p → ((o : Option Held) → is_covered (Close session expired) p o ≡ test p o) → at (after c i e) p ≡ at (without_owner session m) p
      owned p same alike =
          at-uncovered (Close session expired) c p
          ∙ ap (λ b. cond (not b) (at c p) no_held) (alike (at c p))
          ∙ ap (λ o. cond (not (test p o)) o no_held) (sym same)
          ∙ sym (at-without_owner session m p)

      gone : (p : Place) → at m p ≡ None → no_held ≡ at (without_owner session m) p
      gone p none = sym (at-without_owner session m p ∙ ap (λ o. cond (not (test p o)) o no_held) none)

      named : (n : List ℕ) (o : Option Held) → is_covered (Close session expired) (Name_at n) o ≡ test (Name_at n) o
      named n None = refl
      named n (Some h) = refl

      celled : (k : ℕ) (cell : Cell) (o : Option Held) → is_covered (Close session expired) (Cell_at k cell) o ≡ test (Cell_at k cell) o
      celled k cell None = refl
      celled k cell (Some h) = refl

      go : (p : Place) → cond (is_machine_place p) (at (after c i e) p) None ≡ at (without_owner session m) p
      go (Name_at n) = owned (Name_at n) (at_machine c (Name_at n)) (named n)
      go (Cell_at k cell) = owned (Cell_at k cell) (at_machine c (Cell_at k cell)) (celled k cell)
      go (Register_at id) = gone (Register_at id) (at_machine c (Register_at id))
      go (Alive_at id) = gone (Alive_at id) (at_machine c (Alive_at id))

uncovering_stays : (b : Body) (c : Cells) (p : Place) → ((h : Held) → covers b p h ≡ false) → at (uncovered b c) p ≡ at c p
uncovering_stays b c p none =
    at-uncovered b c p ∙ elim (at c p) as (λ o. cond (not (is_covered b p o)) o no_held ≡ o) [ None ↦ refl | Some h ↦ ap (λ q. cond (not q) (Some h) no_held) (none h) ]

pub part_follows : (c : Cells) (i : ℕ) (e : Entry) → is_sorted place_cmp c ≡ true → machine_cells (after c i e) ≡ machine_after c i e.body (machine_cells c)
part_follows c i e s = go e.time e.body
  where
    k : T (is_sorted place_cmp c)
    k = T_from _ s

    go : (t : ℕ) (b : Body) → machine_cells (after c i (record { time = t; body = b })) ≡ machine_after c i b (machine_cells c)
    go t (Register timeout) = stays c i t k (record { time = t; body = Register timeout }) (λ p q. there p q)
      where
        there : (p : Place) → is_machine_place p ≡ true → at (after c i (record { time = t; body = Register timeout })) p ≡ at c p
        there (Name_at n) q = at-put_all (puts i (Register timeout)) (uncovered (Register timeout) c) (Name_at n) ∙ uncovering_stays (Register timeout) c (Name_at n) (λ h. refl)
        there (Cell_at m cell) q = at-put_all (puts i (Register timeout)) (uncovered (Register timeout) c) (Cell_at m cell) ∙ uncovering_stays (Register timeout) c (Cell_at m cell) (λ h. refl)
        there (Register_at id) q = absurd (cc)
        there (Alive_at id) q = absurd (cc)
    go t (Alive session seq event) = stays c i t k (record { time = t; body = Alive session seq event }) (λ p q. there p q)
      where
        b : Body
        b = Alive session seq event

        there : (p : Place) → is_machine_place p ≡ true → at (after c i (record { time = t; body = b })) p ≡ at c p
        there (Name_at n) q =
            put_or_not (fits c b) (puts i b) (uncovered b c) (Name_at n)
            ∙ elim (fits c b) as (λ z. or_else (cond z no_held no_held) (at (uncovered b c) (Name_at n)) ≡ at (uncovered b c) (Name_at n)) [ true ↦ refl | false ↦ refl ]
            ∙ uncovering_stays b c (Name_at n) (λ h. refl)
        there (Cell_at m cell) q =
            put_or_not (fits c b) (puts i b) (uncovered b c) (Cell_at m cell)
            ∙ elim (fits c b) as (λ z. or_else (cond z no_held no_held) (at (uncovered b c) (Cell_at m cell)) ≡ at (uncovered b c) (Cell_at m cell)) [ true ↦ refl | false ↦ refl ]
            ∙ uncovering_stays b c (Cell_at m cell) (λ h. refl)
        there (Register_at id) q = absurd (cc)
        there (Alive_at id) q = absurd (cc)
    go t (Close session expired) = close_part c i t k session expired
    go t Tick = stays c i t k (record { time = t; body = Tick }) (λ p q. uncovering_stays Tick c p (λ h. refl))
    go t (Command session seq effect reply) = command_part c i t k session seq effect reply

abbrev count_at : ℕ → Cells → ℕ
count_at j c = count_by (λ (y : Place × Held). y.1.index == j) c

one_more : (j : ℕ) (x : Place × Held) (c : Cells) → count_at j (x ∷ c) ≡ cond (x.1.index == j) 1 0 + count_at j c
one_more j x c = sum_by-cons (λ (y : Place × Held). cond (y.1.index == j) 1 0) x c

pub places_parted : (c : Cells) (j : ℕ) → places_of c j ≡ places_of (machine_cells c) j + places_of (session_cells c) j
places_parted [] j = refl
places_parted (x ∷ c) j =
    let rest : count_at j c ≡ count_at j (machine_cells c) + count_at j (session_cells c) = places_parted c j in
    let one = one_more j x c in
    let in_machine = one_more j x (machine_cells c) in
    let in_sessions = one_more j x (session_cells c) in
    elim (is_machine_place x.0) as (λ b. count_at j (x ∷ c) ≡ count_at j (cond b (x ∷ machine_cells c) (machine_cells c)) + count_at j (cond (not b) (x ∷ session_cells c) (session_cells c))) [
      | true ↦ omega (arith, rest, one, in_machine)
      | false ↦ omega (arith, rest, one, in_sessions)
    ]
