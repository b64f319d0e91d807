-- Each part of a host's cells follows an entry by itself.
use Rattle.std.proofs.Common.{◌≡◌, ℕ, Bool, true, false, cond, not, ◌&&◌, T, List, [], ◌∷◌, ◌++◌, Option, Some, None, is_some, refl, sym, ap, ◌∙◌}
use Rattle.std.specs.FinMap.{is_sorted}
use Rattle.std.specs.FinMap.Entries.{below_all, find-where_key, is_sorted-where_key, same_entries}
use Rattle.std.specs.Ordering.{is_lt}
use Rattle.host_types.specs.declared.entry.Effect.{Effect}
use Rattle.host_types.specs.declared.entry.Effect.TheVariants.{Nothing, Create, Delete, Put, Drop, Wipe, WipeKey, Tell}
use Rattle.host_types.specs.declared.entry.Reply.{Reply}
use Rattle.host_types.specs.declared.entry.Body.{Body}
use Rattle.host_types.specs.declared.entry.Body.TheVariants.{Register, Alive, Close, Tick, Command}
use Rattle.host_types.specs.declared.entry.Entry.{Entry}
use Rattle.host_types.specs.Cells.{Place, Name_at, Cell_at, Register_at, Alive_at, Held, place_cmp, Cells, at, put_all}
use Rattle.log_model.specs.cleaning.Cells.{puts, covers, is_covered, uncovered, fits, after}
use Rattle.log_model.specs.hosted.Hosted.{is_machine_place, machine_cells}
use Rattle.log_model.specs.hosted.Parts.{machine_after, session_cells}
use Rattle.host_types.proofs.Places.{place_total, exact_places}
use Rattle.log_model.proofs.Lookups.{T_from}
use Rattle.log_model.proofs.cleaning.Changes.{or_else, at-put_all, at-uncovered, sorted-after}
use Rattle.log_model.proofs.hosted.Parts.{part_follows}
use Rattle.host_core.specs.CoreParts.{sessions_after}

both : (a b : Bool) → T (a && b) → T a × T b
both true b t = (tt, t)
both false b t = absurd t

-- a place of a session stands behind each of a machine
not_before : (p q : Place) → is_machine_place p ≡ false → is_machine_place q ≡ true → T (is_lt (place_cmp p q)) → ⊥
not_before (Name_at n) q e f t = absurd (cc)
not_before (Cell_at m c) q e f t = absurd (cc)
not_before (Register_at id) (Name_at n) e f t = t
not_before (Register_at id) (Cell_at m c) e f t = t
not_before (Register_at id) (Register_at other) e f t = absurd (cc)
not_before (Register_at id) (Alive_at other) e f t = absurd (cc)
not_before (Alive_at id) (Name_at n) e f t = t
not_before (Alive_at id) (Cell_at m c) e f t = t
not_before (Alive_at id) (Register_at other) e f t = absurd (cc)
not_before (Alive_at id) (Alive_at other) e f t = absurd (cc)

-- behind a place of a session there are only such
all_sessions : (p : Place) → is_machine_place p ≡ false → (c : Cells) → T (below_all place_cmp p c) → (machine_cells c ≡ []) × (session_cells c ≡ c)
all_sessions p e [] t = (refl, refl)
all_sessions p e (x ∷ c) t =
    let here = both _ _ t in
    let rest = all_sessions p e c here.1 in
    elim (is_machine_place x.0) as (λ b. is_machine_place x.0 ≡ b → (cond b (x ∷ machine_cells c) (machine_cells c) ≡ []) × (cond (not b) (x ∷ session_cells c) (session_cells c) ≡ x ∷ c)) [
      | true ↦ λ q. absurd (not_before p x.0 e q here.0)
      | false ↦ λ q. (rest.0, ap (λ (d : Cells). x ∷ d) rest.1)
    ] refl

pub parts_make : (c : Cells) → T (is_sorted place_cmp c) → machine_cells c ++ session_cells c ≡ c
parts_make [] t = refl
parts_make (x ∷ c) t =
    let here = both _ _ t in
    elim (is_machine_place x.0) as (λ b. is_machine_place x.0 ≡ b → cond b (x ∷ machine_cells c) (machine_cells c) ++ cond (not b) (x ∷ session_cells c) (session_cells c) ≡ x ∷ c) [
      | true ↦ λ q. ap (λ (d : Cells). x ∷ d) (parts_make c here.1)
      | false ↦ λ q. let only = all_sessions x.0 q c here.0 in ap (λ (d : Cells). d ++ x ∷ session_cells c) only.0 ∙ ap (λ (d : Cells). x ∷ d) only.1
    ] refl

pub at_sessions : (c : Cells) (p : Place) → at (session_cells c) p ≡ cond (not (is_machine_place p)) (at c p) None
at_sessions c p = find-where_key place_cmp (λ q. not (is_machine_place q)) p (λ x t. ap (λ q. not (is_machine_place q)) (sym (exact_places p x t))) c

sorted_sessions : (c : Cells) → T (is_sorted place_cmp c) → T (is_sorted place_cmp (session_cells c))
sorted_sessions c t = is_sorted-where_key place_cmp (λ q. not (is_machine_place q)) c t

abbrev no_held : Option Held
no_held = None

abbrev in_sessions : Cells → Place → Option Held → Option Held
in_sessions c p found = cond (not (is_machine_place p)) found None

uncovering_stays : (b : Body) (c : Cells) (p : Place) → ((h : Held) → covers b p h ≡ false) → at (uncovered b c) p ≡ at c p
uncovering_stays b c p none =
    at-uncovered b c p ∙ elim (at c p) as (λ o. cond (not (is_covered b p o)) o no_held ≡ o) [ None ↦ refl | Some h ↦ ap (λ q. cond (not q) (Some h) no_held) (none h) ]

put_or_not : (b : Bool) (ws : List (Place × Held)) (u : Cells) (p : Place) → at (cond b (put_all ws u) u) p ≡ or_else (cond b (at ws p) None) (at u p)
put_or_not true ws u p = at-put_all ws u p
put_or_not false ws u p = refl

or_nothing : (b : Bool) (o : Option Held) → or_else (cond b no_held no_held) o ≡ o
or_nothing true o = refl
or_nothing false o = refl

module _ (c : Cells) (i time : ℕ) (sorted : T (is_sorted place_cmp c)) where
  abbrev s : Cells
  s = session_cells c

  -- two lists of places of sessions that agree on each
  same_sessions : (b : Body) (d : Cells) → T (is_sorted place_cmp d) → ((p : Place) → in_sessions c p (at (after c i (record { time = time; body = b })) p) ≡ at d p) → session_cells (after c i (record { time = time; body = b })) ≡ d
  same_sessions b d t same =
      same_entries place_cmp place_total exact_places (session_cells (after c i e)) d (sorted_sessions (after c i e) (sorted-after c i e sorted)) t (λ p. at_sessions (after c i e) p ∙ same p)
    where
      e : Entry
      e = record { time = time; body = b }

  -- an entry that changes no place of a session
  sessions_stay : (b : Body) → ((p : Place) → is_machine_place p ≡ false → (at (puts i b) p ≡ None) × ((h : Held) → covers b p h ≡ false)) → session_cells (after c i (record { time = time; body = b })) ≡ s
  sessions_stay b none = same_sessions b s (sorted_sessions c sorted) (λ p.
      elim (is_machine_place p) as (λ m. is_machine_place p ≡ m → cond (not m) (at (after c i (record { time = time; body = b })) p) no_held ≡ cond (not m) (at c p) no_held) [
        | true ↦ λ q. refl
        | false ↦ λ q.
            put_or_not (fits c b) (puts i b) (uncovered b c) p
            ∙ ap (λ o. or_else (cond (fits c b) o no_held) (at (uncovered b c) p)) (none p q).0
            ∙ or_nothing (fits c b) (at (uncovered b c) p)
            ∙ uncovering_stays b c p (none p q).1
      ] refl
      ∙ sym (at_sessions c p))

  -- an entry that fits the places of sessions as it fits all, and puts at these alone
  sessions_follow : (b : Body) → fits c b ≡ fits s b → ((p : Place) → is_machine_place p ≡ true → at (puts i b) p ≡ None) → session_cells (after c i (record { time = time; body = b })) ≡ after s i (record { time = time; body = b })
  sessions_follow b same only = same_sessions b (after s i e) (sorted-after s i e (sorted_sessions c sorted)) (λ p.
      elim (is_machine_place p) as (λ m. is_machine_place p ≡ m → cond (not m) (at (after c i e) p) no_held ≡ at (after s i e) p) [
        | true ↦ λ q.
            let none : at s p ≡ None = at_sessions c p ∙ ap (λ m. cond (not m) (at c p) no_held) q in
            sym (put_or_not (fits s b) (puts i b) (uncovered b s) p
            ∙ ap (λ o. or_else (cond (fits s b) o no_held) (at (uncovered b s) p)) (only p q)
            ∙ or_nothing (fits s b) (at (uncovered b s) p)
            ∙ at-uncovered b s p
            ∙ ap (λ o. cond (not (is_covered b p o)) o no_held) none)
        | false ↦ λ q.
            let there : at s p ≡ at c p = at_sessions c p ∙ ap (λ m. cond (not m) (at c p) no_held) q in
            put_or_not (fits c b) (puts i b) (uncovered b c) p
            ∙ (λ j. or_else (cond (same j) (at (puts i b) p) no_held) (at (uncovered b c) p))
            ∙ ap (λ o. or_else (cond (fits s b) (at (puts i b) p) no_held) o)
            (at-uncovered b c p ∙ ap (λ o. cond (not (is_covered b p o)) o no_held) (sym there) ∙ sym (at-uncovered b s p))
            ∙ sym (put_or_not (fits s b) (puts i b) (uncovered b s) p)
      ] refl)
    where
      e : Entry
      e = record { time = time; body = b }

registers_alone : (i timeout : ℕ) (p : Place) → is_machine_place p ≡ true → at (puts i (Register timeout)) p ≡ None
registers_alone i timeout (Name_at n) e = refl
registers_alone i timeout (Cell_at m c) e = refl
registers_alone i timeout (Register_at id) e = absurd (cc)
registers_alone i timeout (Alive_at id) e = absurd (cc)

alives_alone : (i session seq event : ℕ) (p : Place) → is_machine_place p ≡ true → at (puts i (Alive session seq event)) p ≡ None
alives_alone i session seq event (Name_at n) e = refl
alives_alone i session seq event (Cell_at m c) e = refl
alives_alone i session seq event (Register_at id) e = absurd (cc)
alives_alone i session seq event (Alive_at id) e = absurd (cc)

commands_elsewhere : (i session seq : ℕ) (f : Effect) (reply : Reply) (p : Place) → is_machine_place p ≡ false → (at (puts i (Command session seq f reply)) p ≡ None) × ((h : Held) → covers (Command session seq f reply) p h ≡ false)
commands_elsewhere i session seq (Create name kind) reply (Register_at id) e = (refl, λ h. refl)
commands_elsewhere i session seq (Create name kind) reply (Alive_at id) e = (refl, λ h. refl)
commands_elsewhere i session seq (Delete name instance) reply (Register_at id) e = (refl, λ h. refl)
commands_elsewhere i session seq (Delete name instance) reply (Alive_at id) e = (refl, λ h. refl)
commands_elsewhere i session seq (Put instance cell content owner) reply (Register_at id) e = (refl, λ h. refl)
commands_elsewhere i session seq (Put instance cell content owner) reply (Alive_at id) e = (refl, λ h. refl)
commands_elsewhere i session seq (Drop instance cell) reply (Register_at id) e = (refl, λ h. refl)
commands_elsewhere i session seq (Drop instance cell) reply (Alive_at id) e = (refl, λ h. refl)
commands_elsewhere i session seq (Wipe instance) reply (Register_at id) e = (refl, λ h. refl)
commands_elsewhere i session seq (Wipe instance) reply (Alive_at id) e = (refl, λ h. refl)
commands_elsewhere i session seq (WipeKey instance key) reply (Register_at id) e = (refl, λ h. refl)
commands_elsewhere i session seq (WipeKey instance key) reply (Alive_at id) e = (refl, λ h. refl)
commands_elsewhere i session seq Nothing reply p e = (refl, λ h. refl)
commands_elsewhere i session seq (Tell instance word) reply p e = (refl, λ h. refl)
commands_elsewhere i session seq f reply (Name_at n) e = absurd (cc)
commands_elsewhere i session seq f reply (Cell_at m c) e = absurd (cc)

module _ (c : Cells) (i : ℕ) (sorted : T (is_sorted place_cmp c)) where
  pub session_part : (time : ℕ) (b : Body) → session_cells (after c i (record { time = time; body = b })) ≡ sessions_after i (record { time = time; body = b }) (session_cells c)
  session_part time (Register timeout) = sessions_follow c i time sorted (Register timeout) refl (registers_alone i timeout)
  session_part time (Alive session seq event) = sessions_follow c i time sorted (Alive session seq event) (ap is_some (sym (at_sessions c (Register_at session)))) (alives_alone i session seq event)
  session_part time (Close session expired) = sessions_follow c i time sorted (Close session expired) refl (λ p e. refl)
  session_part time Tick = sessions_stay c i time sorted Tick (λ p e. (refl, λ h. refl))
  session_part time (Command session seq f reply) = sessions_stay c i time sorted (Command session seq f reply) (commands_elsewhere i session seq f reply)

pub parts_follow : (machine table : Cells) (i : ℕ) (e : Entry)
    → is_sorted place_cmp (machine ++ table) ≡ true
    → machine_cells (machine ++ table) ≡ machine
    → session_cells (machine ++ table) ≡ table
    → after (machine ++ table) i e ≡ machine_after (machine ++ table) i e.body machine ++ sessions_after i e table
parts_follow machine table i e sorted is_machine is_table =
    let t = T_from _ sorted in
    sym (parts_make (after (machine ++ table) i e) (sorted-after (machine ++ table) i e t))
    ∙ (λ j. part_follows (machine ++ table) i e sorted j ++ session_part (machine ++ table) i t e.time e.body j)
    ∙ (λ j. machine_after (machine ++ table) i e.body (is_machine j) ++ sessions_after i e (is_table j))
