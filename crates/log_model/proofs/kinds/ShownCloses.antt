-- After a session is closed, the cells show each resource without it. For `closes_show`, `others_show`.
use Rattle.std.proofs.Common.{◌≡◌, ℕ, Bool, true, false, cond, not, ◌&&◌, ◌||◌, ◌==◌, List, [], ◌∷◌, Option, Some, None, is_some, refl, sym, ap, ◌∙◌, eq-eqb, eqb-true}
use Rattle.std.proofs.lemmas.Bool.{false_from_ne_true}
use Rattle.std.specs.List.{filter, list_any}
use Rattle.std.specs.Option.{option_map, option_map_or}
use Rattle.std.specs.FinMap.{find, is_sorted, nat_cmp-IsAntisymmetric}
use Rattle.std.specs.Ordering.{nat_cmp, eq_by_cmp}
use Rattle.std.specs.Cmp.{nat_cmp_total}
use Rattle.host_types.specs.declared.entry.Body.TheVariants.{Close}
use Rattle.host_types.specs.declared.entry.Cell.{Cell}
use Rattle.host_types.specs.declared.entry.Cell.TheVariants.{One, Named, Member as Member_cell, Pair, At, Waiter, Of}
use Rattle.host_types.specs.declared.entry.Content.{Content}
use Rattle.host_types.specs.declared.entry.Entry.{Entry}
use Rattle.host_types.specs.Cells.{Cell_at, Held, Cells, at, is_owned_by}
use Rattle.log_model.specs.cleaning.Cells.{after}
use Rattle.log_model.specs.plain.Plain.{Member as Group_member, Plain, Value_is, Counter_is, Map_is, Multimap_is, Set_is, Queue_is, Lock_is, Group_is, Topic_is, without_item}
use Rattle.log_model.specs.plain.Rows.{is_waiter, without_session}
use Rattle.log_model.specs.kinds.Shows.{Shows, OwnersSuit, CloseShows, OthersShow, number_of, index_at, member_cell, by_index, by_holding, Listens}
use Rattle.log_model.proofs.cleaning.Changes.{at-uncovered}
use Rattle.log_model.proofs.Sets.{has_filter, sorted_filter, sorted_where, any_filter, passing, find_where}

content : Option Held → Option Content
content = option_map (λ (h : Held). h.content)

member_here : Option Held → Option (Content × Option ℕ)
member_here = option_map (λ (h : Held). (h.content, h.owner))

cells_of : Option Group_member → Option (Content × Option ℕ)
cells_of = option_map member_cell

index_of : Option Held → ℕ
index_of o = option_map_or (λ (h : Held). h.index) o 0

holding_same : (m : ℕ) (c d : Cells) (ws : List (ℕ × ℕ)) → ((w : ℕ × ℕ) → list_any (is_waiter w) ws ≡ true → at d (Cell_at m (Waiter w.0 w.1)) ≡ at c (Cell_at m (Waiter w.0 w.1))) → by_holding m d ws ≡ by_holding m c ws
unfolding index_of
holding_same m c d [] same = refl
holding_same m c d (w ∷ ws) same =
    let here = ap index_of (same w (ap (λ b. b || list_any (is_waiter w) ws) (itself w))) in
    let rest = holding_same m c d ws (λ x u. same x (Rattle.std.proofs.lemmas.Bool.or_right (is_waiter x w) (list_any (is_waiter x) ws) u)) in
    λ k. (here k, w) ∷ rest k
  where
    itself : (w : ℕ × ℕ) → is_waiter w w ≡ true
    itself w = Rattle.std.proofs.lemmas.Bool.and_from (w.0 == w.0) (w.1 == w.1) (eq-eqb w.0 w.0 refl) (eq-eqb w.1 w.1 refl)

holding_filter : (m : ℕ) (c : Cells) (p : ℕ × ℕ → Bool) (ws : List (ℕ × ℕ)) → by_holding m c (filter p ws) ≡ filter (λ e. p e.1) (by_holding m c ws)
unfolding index_of
holding_filter m c p [] = refl
holding_filter m c p (x ∷ ws) =
    elim (p x) as (λ b. by_holding m c (cond b (x ∷ filter p ws) (filter p ws)) ≡ cond b ((index_at c (Cell_at m (Waiter x.0 x.1)), x) ∷ filter (λ e. p e.1) (by_holding m c ws)) (filter (λ e. p e.1) (by_holding m c ws))) [
      | true ↦ ap (λ es. (index_at c (Cell_at m (Waiter x.0 x.1)), x) ∷ es) (holding_filter m c p ws)
      | false ↦ holding_filter m c p ws
    ]

index_filter : (p : Group_member → Bool) (ms : List Group_member) → by_index (filter p ms) ≡ filter (λ e. p e.1) (by_index ms)
index_filter p [] = refl
index_filter p (x ∷ ms) =
    elim (p x) as (λ b. by_index (cond b (x ∷ filter p ms) (filter p ms)) ≡ cond b ((x.index, x) ∷ filter (λ e. p e.1) (by_index ms)) (filter (λ e. p e.1) (by_index ms))) [
      | true ↦ ap (λ es. (x.index, x) ∷ es) (index_filter p ms)
      | false ↦ index_filter p ms
    ]

pub others_shown : OthersShow
unfolding content member_here
others_shown c d m (Value_is cur) same s = ap content (same One) ∙ s
others_shown c d m (Counter_is number) same s = ap (λ o. number_of (content o)) (same One) ∙ s
others_shown c d m (Map_is pairs) same s = (s.0, λ k. ap content (same (Named k)) ∙ s.1 k)
others_shown c d m (Multimap_is pairs) same s = (s.0, λ k w. ap is_some (same (Pair k w)) ∙ s.1 k w)
others_shown c d m (Set_is words) same s = (s.0, λ w. ap is_some (same (Member_cell w)) ∙ s.1 w)
others_shown c d m (Queue_is items) same s = (s.0, λ j. ap content (same (At j)) ∙ s.1 j)
others_shown c d m (Lock_is ws) same s = (ap (is_sorted nat_cmp) (holding_same m c d ws (λ w u. same (Waiter w.0 w.1))) ∙ s.0, λ a b. ap is_some (same (Waiter a b)) ∙ s.1 a b)
others_shown c d m (Group_is ms ls) same s = (s.0, λ j. ap member_here (same (At j)) ∙ s.1 j, (s.2.0, λ q. ap is_some (same (Of q)) ∙ s.2.1 q))
others_shown c d m (Topic_is ls) same s = (s.0, λ q. ap is_some (same (Of q)) ∙ s.1 q)

module _ (c : Cells) (m i t session : ℕ) (expired : Bool) where
  e : Entry
  e = record { time = t; body = Close session expired }

  d : Cells
  d = after c i e

  keeps : Option Held → Option Held
  keeps None = None
  keeps (Some h) = cond (not (is_owned_by session h.owner)) (Some h) None

  place_closed : (cell : Cell) → at d (Cell_at m cell) ≡ keeps (at c (Cell_at m cell))
  unfolding e d keeps
  place_closed cell = at-uncovered (Close session expired) c (Cell_at m cell) ∙ go (at c (Cell_at m cell))
    where
      go : (o : Option Held) → cond (not (Rattle.log_model.specs.cleaning.Cells.is_covered (Close session expired) (Cell_at m cell) o)) o None ≡ keeps o
      go None = refl
      go (Some h) = refl

  -- a cell with this owner
  owned_by : (o : Option Held) (s : ℕ) → ((h : Held) → o ≡ Some h → h.owner ≡ Some s) → is_some (keeps o) ≡ (not (session == s) && is_some o)
  unfolding keeps
  owned_by None s own = sym (Rattle.std.proofs.lemmas.Bool.and_right (not (session == s)) false refl)
  owned_by (Some h) s own =
      ap (λ o. is_some (cond (not (is_owned_by session o)) (Some h) None)) (own h refl)
      ∙ elim (session == s) as (λ b. is_some (cond (not b) (Some h) None) ≡ (not b && true)) [ true ↦ refl | false ↦ refl ]

  unowned : (o : Option Held) → ((h : Held) → o ≡ Some h → h.owner ≡ None) → keeps o ≡ o
  unfolding keeps
  unowned None own = refl
  unowned (Some h) own = ap (λ o. cond (not (is_owned_by session o)) (Some h) None) (own h refl)

  kept_by : (o : Option Held) (s : ℕ) → (session == s) ≡ false → ((h : Held) → o ≡ Some h → h.owner ≡ Some s) → keeps o ≡ o
  unfolding keeps
  kept_by None s ne own = refl
  kept_by (Some h) s ne own = ap (λ o. cond (not (is_owned_by session o)) (Some h) None) (own h refl) ∙ ap (λ b. cond (not b) (Some h) None) ne

  listeners_left : (ls : List ℕ) → Listens m c ls → ((q : ℕ) (h : Held) → at c (Cell_at m (Of q)) ≡ Some h → h.owner ≡ Some q) → Listens m d (without_item nat_cmp session ls)
  listeners_left ls s own = (
    sorted_filter nat_cmp_total nat_cmp-IsAntisymmetric (λ y. not (eq_by_cmp nat_cmp session y)) ls s.0,
    λ q.
        ap is_some (place_closed (Of q))
        ∙ owned_by (at c (Cell_at m (Of q))) q (own q)
        ∙ (λ k. not (sym (nat_tie session q) k) && s.1 q k)
        ∙ sym (has_filter nat_cmp_total nat_cmp-IsAntisymmetric (λ y. not (eq_by_cmp nat_cmp session y)) q ls),
  )
    where
      nat_tie : (a b : ℕ) → eq_by_cmp nat_cmp a b ≡ (a == b)
      nat_tie a b =
          elim (a == b) as (λ y. (a == b) ≡ y → eq_by_cmp nat_cmp a b ≡ y) [
            | true ↦ λ e. ap (λ x. eq_by_cmp nat_cmp a x) (sym (eqb-true a b e)) ∙ Rattle.log_model.proofs.Lookups.tied_true nat_cmp_total nat_cmp-IsAntisymmetric a
            | false ↦ λ e. false_from_ne_true (eq_by_cmp nat_cmp a b) (λ u. let yes = eq-eqb a b (Rattle.log_model.proofs.Lookups.tied_same nat_cmp_total nat_cmp-IsAntisymmetric a b u) in absurd (cc))
          ] refl

  turned : (a b : ℕ) → (a == b) ≡ (b == a)
  turned a b =
      elim (b == a) as (λ y. (b == a) ≡ y → (a == b) ≡ y) [
        | true ↦ λ e. eq-eqb a b (sym (eqb-true b a e))
        | false ↦ λ e. false_from_ne_true (a == b) (λ u. let yes = eq-eqb b a (sym (eqb-true a b u)) in absurd (cc))
      ] refl

  member_left : (o : Option Held) (f : Option Group_member) → member_here o ≡ cells_of f → member_here (keeps o) ≡ cells_of (passing (λ x. not (x.session == session)) f)
  unfolding member_here cells_of keeps
  member_left None None s = refl
  member_left None (Some x) s = absurd (cc)
  member_left (Some h) None s = absurd (cc)
  member_left (Some h) (Some x) s =
      let own : h.owner ≡ Some x.session = ap (λ (o : Option (Content × Option ℕ)). option_map_or (λ (p : Content × Option ℕ). p.1) o None) s in
      ap (λ o. member_here (cond (not (is_owned_by session o)) (Some h) None)) own
      ∙ elim (session == x.session) as (λ b. (session == x.session) ≡ b → member_here (cond (not b) (Some h) None) ≡ cells_of (cond (not (x.session == session)) (Some x) None)) [
        | true ↦ λ u. ap (λ b. cells_of (cond (not b) (Some x) None)) (sym (turned x.session session ∙ u))
        | false ↦ λ u. s ∙ ap (λ b. cells_of (cond (not b) (Some x) None)) (sym (turned x.session session ∙ u))
      ] refl

  closed_shown : (name : List ℕ) (plain : Plain) → Shows m c plain → OwnersSuit m c plain → Shows m d (without_session name session plain).0
  unfolding member_here cells_of
  closed_shown name (Lock_is ws) s own = (
    ap (is_sorted nat_cmp) (kept ∙ holding_filter m c left ws) ∙ sorted_where nat_cmp (λ e. left e.1) (by_holding m c ws) s.0,
    λ a b. ap is_some (place_closed (Waiter a b))
        ∙ owned_by (at c (Cell_at m (Waiter a b))) a (own a b)
        ∙ (λ k. not (turned session a k) && s.1 a b k)
        ∙ sym (any_filter (is_waiter (a, b)) left (not (a == session)) (λ x u. ap (λ n. not (n == session)) (sym (eqb-true a x.0 (first (a == x.0) (b == x.1) u)))) ws),
  )
    where
      left : ℕ × ℕ → Bool
      left w = not (w.0 == session)

      first : (x y : Bool) → (x && y) ≡ true → x ≡ true
      first true y u = refl
      first false y u = absurd (cc)

      second : (x y : Bool) → (x && y) ≡ true → y ≡ true
      second true y u = u
      second false y u = absurd (cc)

      not_true : (x : Bool) → not x ≡ true → x ≡ false
      not_true true u = absurd (cc)
      not_true false u = refl

      same_first : (w x : ℕ × ℕ) → is_waiter w x ≡ true → w.0 ≡ x.0
      same_first w x u = eqb-true w.0 x.0 (first (w.0 == x.0) (w.1 == x.1) u)

      outside : (w : ℕ × ℕ) → list_any (is_waiter w) (filter left ws) ≡ true → (session == w.0) ≡ false
      outside w u =
          let both = sym (any_filter (is_waiter w) left (left w) (λ x v. ap (λ n. not (n == session)) (sym (same_first w x v))) ws) ∙ u in
          turned session w.0 ∙ not_true (w.0 == session) (first (left w) (list_any (is_waiter w) ws) both)

      kept : by_holding m d (filter left ws) ≡ by_holding m c (filter left ws)
      kept = holding_same m c d (filter left ws) (λ w u. place_closed (Waiter w.0 w.1) ∙ kept_by (at c (Cell_at m (Waiter w.0 w.1))) w.0 (outside w u) (own w.0 w.1))
  closed_shown name (Group_is ms ls) s own = (
    ap (is_sorted nat_cmp) (index_filter left ms) ∙ sorted_where nat_cmp (λ e. left e.1) (by_index ms) s.0,
    λ j. ap member_here (place_closed (At j))
        ∙ member_left (at c (Cell_at m (At j))) (find nat_cmp j (by_index ms)) (s.1 j)
        ∙ ap cells_of (sym (ap (find nat_cmp j) (index_filter left ms) ∙ find_where nat_cmp_total nat_cmp-IsAntisymmetric left j (by_index ms) s.0)),
    listeners_left ls s.2 own,
  )
    where
      left : Group_member → Bool
      left x = not (x.session == session)
  closed_shown name (Topic_is ls) s own = listeners_left ls s own
  closed_shown name (Value_is cur) s own = others_shown c d m (Value_is cur) (λ cell. place_closed cell ∙ unowned (at c (Cell_at m cell)) (own cell)) s
  closed_shown name (Counter_is number) s own = others_shown c d m (Counter_is number) (λ cell. place_closed cell ∙ unowned (at c (Cell_at m cell)) (own cell)) s
  closed_shown name (Map_is pairs) s own = others_shown c d m (Map_is pairs) (λ cell. place_closed cell ∙ unowned (at c (Cell_at m cell)) (own cell)) s
  closed_shown name (Multimap_is pairs) s own = others_shown c d m (Multimap_is pairs) (λ cell. place_closed cell ∙ unowned (at c (Cell_at m cell)) (own cell)) s
  closed_shown name (Set_is words) s own = others_shown c d m (Set_is words) (λ cell. place_closed cell ∙ unowned (at c (Cell_at m cell)) (own cell)) s
  closed_shown name (Queue_is items) s own = others_shown c d m (Queue_is items) (λ cell. place_closed cell ∙ unowned (at c (Cell_at m cell)) (own cell)) s

pub closes_shown : CloseShows
unfolding d e
closes_shown c m i time session expired name plain s own = closed_shown c m i time session expired name plain s own
