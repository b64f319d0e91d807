-- The places of sessions hold the register entry and the last keep-alive of each open session. For `session_places_are`.
use Rattle.std.proofs.Common.{◌≡◌, ◌⊎◌, ℕ, ◌+◌, ◌<◌, Bool, true, false, cond, not, ◌==◌, T, List, [], ◌∷◌, map, Option, Some, None, is_some, count_by, refl, sym, ap, subst, ◌∙◌, inl, inr, arith, eq-eqb, eqb-true, Less, Equal, Greater}
use Rattle.std.proofs.lemmas.Bool.{cases_eq, false_from_ne_true}
use Rattle.std.proofs.lemmas.List.Sums.{sum_by-cons}
use Rattle.std.specs.Option.{option_map}
use Rattle.std.specs.FinMap.{is_sorted}
use Rattle.std.specs.FinMap.Entries.{put, find-put, find-where_key, is_sorted-put, is_sorted-where_key, same_entries, by_order}
use Rattle.std.specs.Ordering.{eq_by_cmp, is_eq}
use Rattle.host_types.specs.Cells.{Place, Name_at, Cell_at, Register_at, Alive_at, Held, place_cmp, Cells, at, marked, places_of}
use Rattle.log_model.specs.plain.Plain.{Session}
use Rattle.log_model.specs.hosted.Hosted.{Hosted, is_machine_place}
use Rattle.log_model.specs.hosted.Parts.{alive_index, session_cells, commits_of, alive_places, commit_places}
use Rattle.log_model.specs.hosted.Sound.{IsSound, Above, Rises}
use Rattle.host_types.proofs.Places.{place_total, exact_places}
use Rattle.log_model.proofs.Lookups.{T_from, tied_true}
use Rattle.log_model.proofs.plain.Tracks.{found_session, other_place}
use Rattle.log_model.proofs.plain.OneSession.{open_is}
use Rattle.log_model.proofs.hosted.Sounds.{each_found, is_open}

abbrev count_at : ℕ → Cells → ℕ
count_at j c = count_by (λ (y : Place × Held). y.1.index == j) c

one_more : (j : ℕ) (x : Place × Held) (c : Cells) → count_at j (x ∷ c) ≡ cond (x.1.index == j) 1 0 + count_at j c
one_more j x c = sum_by-cons (λ (y : Place × Held). cond (y.1.index == j) 1 0) x c

some_none : (h : Held) → Some h ≡ None → ⊥
some_none h e = absurd (cc)

-- one place more
count_put : (j : ℕ) (p : Place) (h : Held) (c : Cells) → at c p ≡ None → count_at j (put place_cmp p h c) ≡ cond (h.index == j) 1 0 + count_at j c
count_put j p h [] none = one_more j (p, h) []
count_put j p h (e ∷ c) none =
    elim (place_cmp p e.0) as (λ r. place_cmp p e.0 ≡ r → cond (is_eq r) (Some e.1) (at c p) ≡ None → count_at j (by_order r ((p, h) ∷ e ∷ c) ((e.0, h) ∷ c) (e ∷ put place_cmp p h c)) ≡ cond (h.index == j) 1 0 + count_at j (e ∷ c)) [
      | Less ↦ λ q n. one_more j (p, h) (e ∷ c)
      | Equal ↦ λ q n. absurd (some_none e.1 n)
      | Greater ↦ λ q n. (let rest = count_put j p h c n in let a = one_more j e (put place_cmp p h c) in let b = one_more j e c in omega arith)
    ] refl none

abbrev put_some : Place → Option Held → Cells → Cells
put_some p None c = c
put_some p (Some h) c = put place_cmp p h c

-- the places of these sessions
abbrev built : Cells → List Session → Cells
built c [] = []
built c (x ∷ ss) = put place_cmp (Register_at x.id) (marked x.id) (put_some (Alive_at x.id) (at c (Alive_at x.id)) (built c ss))

abbrev some_of : Option Held → Option Held → Option Held
some_of None o = o
some_of (Some h) o = Some h

at-put_some : (p q : Place) (o : Option Held) (c : Cells) → at (put_some q o c) p ≡ cond (eq_by_cmp place_cmp p q) (some_of o (at c p)) (at c p)
at-put_some p q None c = elim (eq_by_cmp place_cmp p q) as (λ b. at c p ≡ cond b (at c p) (at c p)) [ true ↦ refl | false ↦ refl ]
at-put_some p q (Some h) c = find-put place_cmp place_total p q h c

sorted_some : (q : Place) (o : Option Held) (c : Cells) → T (is_sorted place_cmp c) → T (is_sorted place_cmp (put_some q o c))
sorted_some q None c s = s
sorted_some q (Some h) c s = is_sorted-put place_cmp place_total q h c s

sorted_built : (c : Cells) (ss : List Session) → T (is_sorted place_cmp (built c ss))
sorted_built c [] = tt
sorted_built c (x ∷ ss) = is_sorted-put place_cmp place_total (Register_at x.id) (marked x.id) (put_some (Alive_at x.id) (at c (Alive_at x.id)) (built c ss)) (sorted_some (Alive_at x.id) (at c (Alive_at x.id)) (built c ss) (sorted_built c ss))

open_head : (x : Session) (ss : List Session) → is_open x.id (x ∷ ss) ≡ true
open_head x ss = ap (λ b. is_some (cond b (Some x) (found_session x.id ss))) (eq-eqb x.id x.id refl)

open_rest : (x : Session) (ss : List Session) (id : ℕ) → (x.id ≡ id → ⊥) → is_open id (x ∷ ss) ≡ is_open id ss
open_rest x ss id ne = ap (λ b. is_some (cond b (Some x) (found_session id ss))) (false_from_ne_true (x.id == id) (λ u. ne (eqb-true x.id id u)))

-- what stands at each
at_register : (c : Cells) (ss : List Session) (id : ℕ) → at (built c ss) (Register_at id) ≡ cond (is_open id ss) (Some (marked id)) None
at_register c [] id = refl
at_register c (x ∷ ss) id =
    find-put place_cmp place_total (Register_at id) (Register_at x.id) (marked x.id) (put_some (Alive_at x.id) (at c (Alive_at x.id)) (built c ss)) ∙ go (at_register c ss id) (cases_eq x.id id)
  where
    d : Cells
    d = put_some (Alive_at x.id) (at c (Alive_at x.id)) (built c ss)

    beside : at (put_some (Alive_at x.id) (at c (Alive_at x.id)) (built c ss)) (Register_at id) ≡ at (built c ss) (Register_at id)
    beside =
        at-put_some (Register_at id) (Alive_at x.id) (at c (Alive_at x.id)) (built c ss)
        ∙ ap (λ b. cond b (some_of (at c (Alive_at x.id)) (at (built c ss) (Register_at id))) (at (built c ss) (Register_at id))) (other_place (Register_at id) (Alive_at x.id) (λ e. absurd (cc)))

    go : at (built c ss) (Register_at id) ≡ cond (is_open id ss) (Some (marked id)) None → (x.id ≡ id) ⊎ (x.id ≡ id → ⊥) → cond (eq_by_cmp place_cmp (Register_at id) (Register_at x.id)) (Some (marked x.id)) (at (put_some (Alive_at x.id) (at c (Alive_at x.id)) (built c ss)) (Register_at id)) ≡ cond (is_open id (x ∷ ss)) (Some (marked id)) None
    go rest (inl same) =
        subst (λ n. cond (eq_by_cmp place_cmp (Register_at n) (Register_at x.id)) (Some (marked x.id)) (at (put_some (Alive_at x.id) (at c (Alive_at x.id)) (built c ss)) (Register_at n)) ≡ cond (is_open n (x ∷ ss)) (Some (marked n)) None) same
        (ap (λ b. cond b (Some (marked x.id)) (at (put_some (Alive_at x.id) (at c (Alive_at x.id)) (built c ss)) (Register_at x.id))) (tied_true place_total exact_places (Register_at x.id))
        ∙ ap (λ b. cond b (Some (marked x.id)) None) (sym (open_head x ss)))
    go rest (inr ne) =
        ap (λ b. cond b (Some (marked x.id)) (at (put_some (Alive_at x.id) (at c (Alive_at x.id)) (built c ss)) (Register_at id))) (other_place (Register_at id) (Register_at x.id) (λ e. let same : id ≡ x.id = (cc) in ne (sym same)))
        ∙ beside ∙ rest ∙ ap (λ b. cond b (Some (marked id)) None) (sym (open_rest x ss id ne))

at_alive : (c : Cells) (ss : List Session) (id : ℕ) → at (built c ss) (Alive_at id) ≡ cond (is_open id ss) (at c (Alive_at id)) None
at_alive c [] id = refl
at_alive c (x ∷ ss) id =
    find-put place_cmp place_total (Alive_at id) (Register_at x.id) (marked x.id) (put_some (Alive_at x.id) (at c (Alive_at x.id)) (built c ss))
    ∙ ap (λ b. cond b (Some (marked x.id)) (at (put_some (Alive_at x.id) (at c (Alive_at x.id)) (built c ss)) (Alive_at id))) (other_place (Alive_at id) (Register_at x.id) (λ e. absurd (cc)))
    ∙ at-put_some (Alive_at id) (Alive_at x.id) (at c (Alive_at x.id)) (built c ss)
    ∙ go (at_alive c ss id) (cases_eq x.id id)
  where
    one : (o p : Option Held) → p ≡ None ⊎ (p ≡ o) → some_of o p ≡ o
    one None p (inl e) = e
    one None p (inr e) = e
    one (Some h) p e = refl

    either : (b : Bool) (o : Option Held) → (cond b o None ≡ None) ⊎ (cond b o None ≡ o)
    either true o = inr refl
    either false o = inl refl

    go : at (built c ss) (Alive_at id) ≡ cond (is_open id ss) (at c (Alive_at id)) None → (x.id ≡ id) ⊎ (x.id ≡ id → ⊥) → cond (eq_by_cmp place_cmp (Alive_at id) (Alive_at x.id)) (some_of (at c (Alive_at x.id)) (at (built c ss) (Alive_at id))) (at (built c ss) (Alive_at id)) ≡ cond (is_open id (x ∷ ss)) (at c (Alive_at id)) None
    go rest (inl same) =
        ap (λ n. cond (eq_by_cmp place_cmp (Alive_at id) (Alive_at n)) (some_of (at c (Alive_at n)) (at (built c ss) (Alive_at id))) (at (built c ss) (Alive_at id))) same
        ∙ ap (λ b. cond b (some_of (at c (Alive_at id)) (at (built c ss) (Alive_at id))) (at (built c ss) (Alive_at id))) (tied_true place_total exact_places (Alive_at id))
        ∙ ap (some_of (at c (Alive_at id))) rest
        ∙ one (at c (Alive_at id)) (cond (is_open id ss) (at c (Alive_at id)) None) (either (is_open id ss) (at c (Alive_at id)))
        ∙ ap (λ b. cond b (at c (Alive_at id)) None) (sym (ap (λ n. is_open n (x ∷ ss)) (sym same) ∙ open_head x ss))
    go rest (inr ne) =
        ap (λ b. cond b (some_of (at c (Alive_at x.id)) (at (built c ss) (Alive_at id))) (at (built c ss) (Alive_at id))) (other_place (Alive_at id) (Alive_at x.id) (λ e. let same : id ≡ x.id = (cc) in ne (sym same)))
        ∙ rest ∙ ap (λ b. cond b (at c (Alive_at id)) None) (sym (open_rest x ss id ne))

at_machine_place : (c : Cells) (ss : List Session) (p : Place) → is_machine_place p ≡ true → at (built c ss) p ≡ None
at_machine_place c [] p m = refl
at_machine_place c (x ∷ ss) p m =
    find-put place_cmp place_total p (Register_at x.id) (marked x.id) (put_some (Alive_at x.id) (at c (Alive_at x.id)) (built c ss))
    ∙ ap (λ b. cond b (Some (marked x.id)) (at (put_some (Alive_at x.id) (at c (Alive_at x.id)) (built c ss)) p)) (other_place p (Register_at x.id) (λ e. let no = ap is_machine_place e in absurd (cc)))
    ∙ at-put_some p (Alive_at x.id) (at c (Alive_at x.id)) (built c ss)
    ∙ ap (λ b. cond b (some_of (at c (Alive_at x.id)) (at (built c ss) p)) (at (built c ss) p)) (other_place p (Alive_at x.id) (λ e. let no = ap is_machine_place e in absurd (cc)))
    ∙ at_machine_place c ss p m

-- the next session is none of the later ones
shut_later : (x : Session) (ss : List Session) → Above x.id ss → is_open x.id ss ≡ false
shut_later x ss above = go (found_session x.id ss) refl
  where
    go : (o : Option Session) → found_session x.id ss ≡ o → is_some (found_session x.id ss) ≡ false
    go None e = ap is_some e
    go (Some y) e =
        let l : x.id < y.id = each_found (λ (z : Session). x.id < z.id) ss above x.id y e in
        let is = open_is x.id ss y e in
        absurd (omega arith)

count_some : (j : ℕ) (p : Place) (o : Option Held) (c : Cells) → at c p ≡ None → count_at j (put_some p o c) ≡ alive_places (option_map (λ (h : Held). h.index) o) j + count_at j c
count_some j p None c none = omega arith
count_some j p (Some h) c none = count_put j p h c none

count_built : (j : ℕ) (c : Cells) (ss : List Session) → Rises ss → count_at j (built c ss) ≡ commit_places (map (λ (x : Session). (x.id, alive_index c x.id)) ss) j
count_built j c [] r = refl
count_built j c (x ∷ ss) r =
    let rest = count_built j c ss r.1 in
    let shut = shut_later x ss r.0 in
    let no_alive : at (built c ss) (Alive_at x.id) ≡ None = at_alive c ss x.id ∙ ap (λ b. cond b (at c (Alive_at x.id)) None) shut in
    let no_register : at (put_some (Alive_at x.id) (at c (Alive_at x.id)) (built c ss)) (Register_at x.id) ≡ None =
    at-put_some (Register_at x.id) (Alive_at x.id) (at c (Alive_at x.id)) (built c ss)
    ∙ ap (λ b. cond b (some_of (at c (Alive_at x.id)) (at (built c ss) (Register_at x.id))) (at (built c ss) (Register_at x.id))) (other_place (Register_at x.id) (Alive_at x.id) (λ e. absurd (cc)))
    ∙ at_register c ss x.id ∙ ap (λ b. cond b (Some (marked x.id)) None) shut in
    let first = count_put j (Register_at x.id) (marked x.id) (put_some (Alive_at x.id) (at c (Alive_at x.id)) (built c ss)) no_register in
    let second = count_some j (Alive_at x.id) (at c (Alive_at x.id)) (built c ss) no_alive in
    omega arith

at_sessions : (c : Cells) (p : Place) → at (session_cells c) p ≡ cond (not (is_machine_place p)) (at c p) None
at_sessions c p = find-where_key place_cmp (λ q. not (is_machine_place q)) p (λ x t. ap (λ q. not (is_machine_place q)) (sym (exact_places p x t))) c

pub session_places : (s : Hosted) (j : ℕ) → IsSound s → places_of (session_cells s.cells) j ≡ commit_places (commits_of s) j
session_places s j h = ap (count_at j) same ∙ count_built j s.cells s.sessions h.sessions_rise
  where
    no_alive : (id : ℕ) → is_open id s.sessions ≡ false → at s.cells (Alive_at id) ≡ None
    no_alive id shut = go (at s.cells (Alive_at id)) refl
      where
        go : (o : Option Held) → at s.cells (Alive_at id) ≡ o → at s.cells (Alive_at id) ≡ None
        go None e = e
        go (Some held) e = let yes = (h.heard id held e).0 in absurd (cc)

    each : (p : Place) → cond (not (is_machine_place p)) (at s.cells p) None ≡ at (built s.cells s.sessions) p
    each (Name_at name) = sym (at_machine_place s.cells s.sessions (Name_at name) refl)
    each (Cell_at instance cell) = sym (at_machine_place s.cells s.sessions (Cell_at instance cell) refl)
    each (Register_at id) = h.opened id ∙ sym (at_register s.cells s.sessions id)
    each (Alive_at id) =
        elim (is_open id s.sessions) as (λ b. is_open id s.sessions ≡ b → at s.cells (Alive_at id) ≡ cond b (at s.cells (Alive_at id)) None) [ true ↦ λ q. refl | false ↦ λ q. no_alive id q ] refl
        ∙ sym (at_alive s.cells s.sessions id)

    same : session_cells s.cells ≡ built s.cells s.sessions
    same =
        same_entries place_cmp place_total exact_places (session_cells s.cells) (built s.cells s.sessions)
        (is_sorted-where_key place_cmp (λ q. not (is_machine_place q)) s.cells (T_from _ h.cells_rise)) (sorted_built s.cells s.sessions)
        (λ p. at_sessions s.cells p ∙ each p)
