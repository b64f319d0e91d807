-- What the cells of one resource show after a row, and after a session's close. For `resource_rows_show`, `resource_closes_show`.
use Rattle.std.proofs.Common.{◌<◌, ◌≡◌, ◌⊎◌, ℕ, Bool, true, false, cond, not, ◌&&◌, ◌||◌, ◌==◌, List, [], ◌∷◌, Option, Some, None, is_some, refl, sym, ap, subst, ◌∙◌, ⊎_elim, eq-eqb}
use Rattle.std.proofs.lemmas.Bool.{and_from}
use Rattle.std.specs.List.{list_any}
use Rattle.std.specs.FinMap.Entries.{put, find-put}
use Rattle.std.specs.Ordering.{eq_by_cmp}
use Rattle.host_types.specs.declared.entry.Body.{Body}
use Rattle.host_types.specs.declared.entry.Body.TheVariants.{Close, Command}
use Rattle.host_types.specs.declared.entry.Cell.{Cell}
use Rattle.host_types.specs.declared.entry.Cell.TheVariants.{One, Named, Member as Member_cell, Pair, At, Waiter, Of}
use Rattle.host_types.specs.declared.entry.Effect.{Effect}
use Rattle.host_types.specs.declared.entry.Effect.TheVariants.{Nothing, Create, Delete, Put, Drop, Wipe, WipeKey, Tell}
use Rattle.host_types.specs.declared.entry.Kind.{Kind}
use Rattle.host_types.specs.declared.entry.Reply.{Reply}
use Rattle.host_types.specs.Cells.{Place, Name_at, Cell_at, Register_at, Held, place_cmp, Cells, at, stands, marked, named, effect_puts, is_name_for, is_of_kind, instance_fits, instance_after, is_met, is_owned_by, without_owner}
use Rattle.log_model.specs.cleaning.Cells.{owner_stands, fits_with_owner, is_covered, uncovered, after}
use Rattle.log_model.specs.plain.Plain.{kind_of}
use Rattle.log_model.specs.plain.Rows.{Does, Call, without_session}
use Rattle.log_model.specs.kinds.Shows.{IsFresh, ResourceRowsShow, ResourceClosesShow}
use Rattle.host_types.proofs.Places.{place_total, exact_places}
use Rattle.log_model.proofs.Lookups.{tied_true, any_from_found}
use Rattle.log_model.proofs.cleaning.Changes.{or_else, at-uncovered}
use Rattle.log_model.proofs.hosted.Parts.{put_or_not, at-without_owner}
use Rattle.log_model.specs.kinds.LawfulRows.{OwnerSuits}
use Rattle.log_model.proofs.plain.RowEffects.{Suits, RowSuits, row_suits}
use Rattle.log_model.proofs.plain.Tracks.{other_place}
use Rattle.log_model.proofs.kinds.ShownRows.{rows_shown}
use Rattle.log_model.proofs.kinds.ShownCloses.{others_shown, closes_shown}

-- who owns what a row puts
row_owner : (index session : ℕ) (cell : Cell) (owner : Option ℕ) → OwnerSuits index session cell owner → (owner ≡ None) ⊎ (owner ≡ Some session)
row_owner index session (At j) owner h = h.1
row_owner index session (Waiter other id) owner h = Rattle.std.proofs.Common.inr h.1
row_owner index session (Of other) owner h = Rattle.std.proofs.Common.inr h.1
row_owner index session One owner h = Rattle.std.proofs.Common.inl h
row_owner index session (Named key) owner h = Rattle.std.proofs.Common.inl h
row_owner index session (Member_cell word) owner h = Rattle.std.proofs.Common.inl h
row_owner index session (Pair key word) owner h = Rattle.std.proofs.Common.inl h

module _ (c : Cells) (m i session : ℕ) (k : Kind) where
  -- the same cells with a name for the resource, where the session is open
  abbrev lodged : Cells
  lodged = put place_cmp (Name_at []) (named m k) (put place_cmp (Register_at session) (marked session) c)

  lodged_cell : (n : ℕ) (cell : Cell) → at lodged (Cell_at n cell) ≡ at c (Cell_at n cell)
  lodged_cell n cell =
      find-put place_cmp place_total (Cell_at n cell) (Name_at []) (named m k) (put place_cmp (Register_at session) (marked session) c)
      ∙ ap (λ b. cond b (Some (named m k)) (at (put place_cmp (Register_at session) (marked session) c) (Cell_at n cell))) (other_place (Cell_at n cell) (Name_at []) (λ e. absurd (cc)))
      ∙ find-put place_cmp place_total (Cell_at n cell) (Register_at session) (marked session) c
      ∙ ap (λ b. cond b (Some (marked session)) (at c (Cell_at n cell))) (other_place (Cell_at n cell) (Register_at session) (λ e. absurd (cc)))

  lodged_name : at lodged (Name_at []) ≡ Some (named m k)
  lodged_name =
      find-put place_cmp place_total (Name_at []) (Name_at []) (named m k) (put place_cmp (Register_at session) (marked session) c)
      ∙ ap (λ b. cond b (Some (named m k)) (at (put place_cmp (Register_at session) (marked session) c) (Name_at []))) (tied_true place_total exact_places (Name_at []))

  lodged_session : stands lodged (Register_at session) ≡ true
  lodged_session = ap is_some (
      find-put place_cmp place_total (Register_at session) (Name_at []) (named m k) (put place_cmp (Register_at session) (marked session) c)
      ∙ ap (λ b. cond b (Some (named m k)) (at (put place_cmp (Register_at session) (marked session) c) (Register_at session))) (other_place (Register_at session) (Name_at []) (λ e. absurd (cc)))
      ∙ find-put place_cmp place_total (Register_at session) (Register_at session) (marked session) c
      ∙ ap (λ b. cond b (Some (marked session)) (at c (Register_at session))) (tied_true place_total exact_places (Register_at session)))

  -- what a row puts fits there, and to the resource by itself
  fits_lodged : (name : List ℕ) (effect : Effect) → Suits (record { name = name; instance = m; session = session; index = i }) k effect → fits_with_owner lodged effect ≡ true
  fits_lodged name (Put instance cell content owner) h =
      let known : is_name_for instance cell content (Name_at [], named m k) ≡ true = and_from (m == instance) (is_of_kind k cell content) (eq-eqb m instance (sym h.0)) h.1 in
      let there = any_from_found place_total exact_places (is_name_for instance cell content) lodged (Name_at []) (named m k) lodged_name known in
      and_from (list_any (is_name_for instance cell content) lodged) (owner_stands lodged owner) there
      (⊎_elim (λ (n : owner ≡ None). ap (owner_stands lodged) n) (λ (n : owner ≡ Some session). ap (owner_stands lodged) n ∙ lodged_session) (row_owner i session cell owner h.2))
  fits_lodged name (Create other kind) h = absurd h
  fits_lodged name (Delete other instance) h = absurd h
  fits_lodged name (Drop instance cell) h = refl
  fits_lodged name (Wipe instance) h = refl
  fits_lodged name (WipeKey instance key) h = refl
  fits_lodged name Nothing h = refl
  fits_lodged name (Tell instance word) h = refl

  -- what is put by itself, whether it fits or not
  abbrev put_or_none : Bool → Effect → Place → Option Held
  put_or_none b effect p = cond b (at (effect_puts i effect) p) None

  put_by_itself : (name : List ℕ) (effect : Effect) (p : Place) → Suits (record { name = name; instance = m; session = session; index = i }) k effect → put_or_none (instance_fits k m effect) effect p ≡ at (effect_puts i effect) p
  put_by_itself name (Put instance cell content owner) p h =
      ap (λ b. cond b (at (effect_puts i (Put instance cell content owner)) p) None) (and_from (m == instance) (is_of_kind k cell content) (eq-eqb m instance (sym h.0)) h.1)
  put_by_itself name (Create other kind) p h = absurd h
  put_by_itself name (Delete other instance) p h = absurd h
  put_by_itself name (Drop instance cell) p h = refl
  put_by_itself name (Wipe instance) p h = refl
  put_by_itself name (WipeKey instance key) p h = refl
  put_by_itself name Nothing p h = refl
  put_by_itself name (Tell instance word) p h = refl

  same_cells : (name : List ℕ) (effect : Effect) (reply : Reply) (cell : Cell) → Suits (record { name = name; instance = m; session = session; index = i }) k effect
      → at (instance_after k m c i effect) (Cell_at m cell) ≡ at (after lodged i (record { time = 0; body = Command session 0 effect reply })) (Cell_at m cell)
  same_cells name effect reply cell h =
      put_or_not (instance_fits k m effect) (effect_puts i effect) (uncovered b c) p
      ∙ (λ j. or_else (put_by_itself name effect p h j) (left j))
      ∙ ap (λ q. or_else (cond q (at (effect_puts i effect) p) None) (at (uncovered b lodged) p)) (sym (fits_lodged name effect h))
      ∙ sym (put_or_not (fits_with_owner lodged effect) (effect_puts i effect) (uncovered b lodged) p)
    where
      p : Place
      p = Cell_at m cell

      b : Body
      b = Command session 0 effect reply

      left : at (uncovered (Command session 0 effect reply) c) (Cell_at m cell) ≡ at (uncovered (Command session 0 effect reply) lodged) (Cell_at m cell)
      left =
          at-uncovered (Command session 0 effect reply) c (Cell_at m cell)
          ∙ ap (λ o. cond (not (is_covered (Command session 0 effect reply) (Cell_at m cell) o)) o None) (sym (lodged_cell m cell))
          ∙ sym (at-uncovered (Command session 0 effect reply) lodged (Cell_at m cell))

  lodged_fresh : IsFresh m i c → IsFresh m i lodged
  lodged_fresh h = (
    λ j st. h.0 j (sym (ap is_some (lodged_cell m (At j))) ∙ st),
    λ a id st.
        subst (λ o. Rattle.std.specs.Option.option_map_or (λ (g : Held). g.index) o 0 < i) (sym (lodged_cell m (Waiter a id))) (h.1 a id (sym (ap is_some (lodged_cell m (Waiter a id))) ∙ st)),
  )

pub resource_rows_shown : ResourceRowsShow
resource_rows_shown c m i session name plain next op effect reply told s fresh e =
    let k = kind_of plain in
    let call : Call = record { name = name; instance = m; session = session; index = i } in
    let suits : RowSuits (record { name = name; instance = m; session = session; index = i }) (kind_of plain) (Does effect reply next told) = subst (RowSuits (record { name = name; instance = m; session = session; index = i }) (kind_of plain)) e (row_suits (record { name = name; instance = m; session = session; index = i }) plain op) in
    let there = lodged c m i session k in
    let shown = others_shown c (lodged c m i session k) m plain (λ cell. lodged_cell c m i session k m cell) s in
    let after_row = rows_shown (lodged c m i session k) m i 0 session 0 name plain next op effect reply told shown (lodged_fresh c m i session k fresh) e (fits_lodged c m i session k name effect suits.0) in
    others_shown (after (lodged c m i session k) i (record { time = 0; body = Command session 0 effect reply })) (instance_after k m c i effect) m next (λ cell. same_cells c m i session k name effect reply cell suits.0) after_row

pub resource_closes_shown : ResourceClosesShow
resource_closes_shown c m session name plain s owners =
    others_shown (after c 0 (record { time = 0; body = Close session false })) (without_owner session c) m (without_session name session plain).0 same
    (closes_shown c m 0 0 session false name plain s owners)
  where
    covered : (cell : Cell) (o : Option Held) → is_covered (Close session false) (Cell_at m cell) o ≡ is_met (λ place held. is_owned_by session held.owner) (Cell_at m cell) o
    covered cell None = refl
    covered cell (Some h) = refl

    same : (cell : Cell) → at (without_owner session c) (Cell_at m cell) ≡ at (after c 0 (record { time = 0; body = Close session false })) (Cell_at m cell)
    same cell =
        at-without_owner session c (Cell_at m cell)
        ∙ ap (λ b. cond (not b) (at c (Cell_at m cell)) None) (sym (covered cell (at c (Cell_at m cell))))
        ∙ sym (at-uncovered (Close session false) c (Cell_at m cell))
