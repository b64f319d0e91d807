-- After what a row stores, the cells show the row's resource: value, counter, map and set. For `rows_show`.
use Rattle.std.proofs.Common.{◌≡◌, ◌⊎◌, ℕ, ℤ, pos, Bool, true, false, cond, not, ◌&&◌, ◌||◌, ◌==◌, ◌<◌, arith, eqb-true, List, [], ◌∷◌, ◌++◌, map, Option, Some, None, is_some, refl, sym, ap, subst, ◌∙◌, inl, inr, eq-eqb, Ordering, Less, Equal, Greater}
use Rattle.std.proofs.lemmas.Bool.{and_from, false_from_ne_true, true_from_ne_false}
use Rattle.std.specs.List.{filter, list_any, find as find_first}
use Rattle.std.specs.Option.{option_map, option_map_or}
use Rattle.std.specs.FinMap.{IsAntisymmetric, nat_cmp-IsAntisymmetric, find, put, is_sorted}
use Rattle.std.specs.FinMap.Entries.{find-put, find-where_key, find-append, where_key}
use Rattle.std.specs.Ordering.{nat_cmp, ordering_then, is_eq, eq_by_cmp}
use Rattle.std.specs.Cmp.{IsTotalOrder, on_total, then_total, nat_cmp_total}
use Rattle.std.specs.Cmp.Lexicographic.{nat_list_cmp_total}
use Rattle.host_types.specs.declared.entry.Cell.{Cell}
use Rattle.host_types.specs.declared.entry.Cell.TheVariants.{One, Named, Member as Member_cell, Pair, At, Waiter, Of}
use Rattle.host_types.specs.declared.entry.Content.{Content}
use Rattle.host_types.specs.declared.entry.Content.TheVariants.{Mark, Text, Number}
use Rattle.host_types.specs.declared.entry.Effect.{Effect}
use Rattle.host_types.specs.declared.entry.Effect.TheVariants.{Nothing, Put, Drop, Wipe, WipeKey, Tell}
use Rattle.host_types.specs.declared.entry.Reply.{Reply}
use Rattle.host_types.specs.declared.entry.Reply.TheVariants.{None as No_reply, Text as Text_reply, Truth}
use Rattle.host_types.specs.declared.entry.Op.{Op}
use Rattle.host_types.specs.declared.entry.Op.TheVariants as op
use Rattle.host_types.specs.Cells.{Place, Cell_at, Held, filled, is_text, text_cmp, cell_cmp, Cells, at, stands}
use Rattle.log_model.specs.cleaning.Cells.{fits_with_owner, after}
use Rattle.log_model.specs.plain.Plain.{Plain, Member as Group_member, head_of, keyed, with_item, has_item, without_item, pair_cmp, Value_is, Counter_is, Map_is, Multimap_is, Set_is, Queue_is, Lock_is, Group_is, Topic_is}
use Rattle.log_model.specs.plain.Rows.{Row, Does, Call, either, value_row, counter_row, map_row, multimap_row, set_row, takes_out, queue_row, is_waiter, lock_row, group_row, topic_row, row, fits_i64}
use Rattle.log_model.specs.kinds.Shows.{content_at, number_of, index_at, member_cell, by_index, Shows, IsFresh, RowsShow}
use Rattle.host_types.specs.CellOrder.{cell_total}
use Rattle.host_types.proofs.Places.{tie as text_tie, place_total, exact_places, exact_texts, exact_cells}
use Rattle.log_model.proofs.Lookups.{tied_true, tied_same}
use Rattle.log_model.proofs.Sets.{put_sorted, where_sorted, has_with, has_filter, sorted_with, sorted_filter, sorted_push, sorted_where, any_push, any_filter}
use Rattle.log_model.proofs.plain.Tracks.{untouched, written, emptied, other_place, same_text, text_itself, command_entry}

module _ (c : Cells) (m i t session seq : ℕ) where
  -- the cells do not depend on the reply
  abbrev then : Effect → Cells
  then effect = after c i (command_entry t session seq effect No_reply)

  put_here : (cell : Cell) (content : Content) (owner : Option ℕ) → fits_with_owner c (Put m cell content owner) ≡ true → at (then (Put m cell content owner)) (Cell_at m cell) ≡ Some (filled i content owner)
  put_here cell content owner f = written c i (command_entry t session seq (Put m cell content owner) No_reply) (Cell_at m cell) (filled i content owner) f (ap (λ b. cond b (Some (filled i content owner)) None) (tied_true place_total exact_places (Cell_at m cell)))

  put_beside : (cell other : Cell) (content : Content) (owner : Option ℕ) → (other ≡ cell → ⊥) → at (then (Put m cell content owner)) (Cell_at m other) ≡ at c (Cell_at m other)
  put_beside cell other content owner ne =
      untouched c i (command_entry t session seq (Put m cell content owner) No_reply) (Cell_at m other)
      (ap (λ b. cond b (Some (filled i content owner)) None) (other_place (Cell_at m other) (Cell_at m cell) (λ e. let same : other ≡ cell = (cc) in ne same)))
      (λ h _. refl)

  drop_here : (cell : Cell) → at (then (Drop m cell)) (Cell_at m cell) ≡ None
  drop_here cell = emptied c i (command_entry t session seq (Drop m cell) No_reply) (Cell_at m cell) refl (λ h _. and_from (m == m) (eq_by_cmp cell_cmp cell cell) (eq-eqb m m refl) (tied_true cell_total exact_cells cell))

  drop_beside : (cell other : Cell) → (other ≡ cell → ⊥) → at (then (Drop m cell)) (Cell_at m other) ≡ at c (Cell_at m other)
  drop_beside cell other ne =
      untouched c i (command_entry t session seq (Drop m cell) No_reply) (Cell_at m other) refl
      (λ h _. ap (λ b. (m == m) && b) (false_from_ne_true (eq_by_cmp cell_cmp cell other) (λ e. ne (sym (tied_same cell_total exact_cells cell other e)))) ∙ Rattle.std.proofs.lemmas.Bool.and_right (m == m) false refl)

  wiped : (cell : Cell) → at (then (Wipe m)) (Cell_at m cell) ≡ None
  wiped cell = emptied c i (command_entry t session seq (Wipe m) No_reply) (Cell_at m cell) refl (λ h _. eq-eqb m m refl)

  nothing : (q : Place) → at (then Nothing) q ≡ at c q
  nothing q = untouched c i (command_entry t session seq Nothing No_reply) q refl (λ h _. refl)

  -- the row's effect, where it fits, shows the row's resource
  abbrev RowShows : Row → Type 0
  RowShows (Does effect reply next told) = fits_with_owner c effect ≡ true → Shows m (then effect) next
  RowShows _ = Unit {0}

  either_shows : (b : Bool) (r s : Row) → (b ≡ true → RowShows r) → (b ≡ false → RowShows s) → RowShows (either b r s)
  either_shows true r s h k = h refl
  either_shows false r s h k = k refl

  abbrev call : List ℕ → Call
  call name = record { name = name; instance = m; session = session; index = i }

  value_shows : (name : List ℕ) (cur : Option (List ℕ)) → Shows m c (Value_is cur) → (o : Op) → RowShows (value_row (call name) cur o)
  value_shows name cur s (op.Set word) = λ f. ap (option_map (λ (h : Held). h.content)) (put_here One (Text word) None f)
  value_shows name cur s (op.GetSet word) = λ f. ap (option_map (λ (h : Held). h.content)) (put_here One (Text word) None f)
  value_shows name cur s (op.Cas old new) = either_shows (option_map_or (is_text old) cur false) _ _ (λ _ f. ap (option_map (λ (h : Held). h.content)) (put_here One (Text new) None f)) (λ _ f. ap (option_map (λ (h : Held). h.content)) (nothing (Cell_at m One)) ∙ s)
  value_shows name cur s op.Unset = either_shows (is_some cur) _ _ (λ _ f. ap (option_map (λ (h : Held). h.content)) (drop_here One)) (λ _ f. ap (option_map (λ (h : Held). h.content)) (nothing (Cell_at m One)) ∙ s)
  value_shows name cur s op.Get = λ f. ap (option_map (λ (h : Held). h.content)) (nothing (Cell_at m One)) ∙ s
  value_shows name cur s _ = tt

  content : Option Held → Option Content
  content = option_map (λ (h : Held). h.content)

  counter_shows : (name : List ℕ) (cur : ℤ) → Shows m c (Counter_is cur) → (o : Op) → RowShows (counter_row (call name) cur o)
  unfolding content
  counter_shows name cur s (op.Reset number) = λ f. ap (λ o. number_of (content o)) (put_here One (Number number) None f)
  counter_shows name cur s (op.Add number) = either_shows (fits_i64 (Rattle.std.proofs.Common.◌+ℤ◌ cur number)) _ _ (λ _ f. ap (λ o. number_of (content o)) (put_here One (Number (Rattle.std.proofs.Common.◌+ℤ◌ cur number)) None f)) (λ _. tt)
  counter_shows name cur s op.Get = λ f. ap (λ o. number_of (content o)) (nothing (Cell_at m One)) ∙ s
  counter_shows name cur s _ = tt

  put_named : (key word : List ℕ) (owner : Option ℕ) → fits_with_owner c (Put m (Named key) (Text word) owner) ≡ true → (k : List ℕ) → content_at (then (Put m (Named key) (Text word) owner)) (Cell_at m (Named k)) ≡ cond (is_text k key) (Some (Text word)) (content_at c (Cell_at m (Named k)))
  unfolding content
  put_named key word owner f k =
      elim (is_text k key) as (λ b. is_text k key ≡ b → content_at (then (Put m (Named key) (Text word) owner)) (Cell_at m (Named k)) ≡ cond b (Some (Text word)) (content_at c (Cell_at m (Named k)))) [
        | true ↦ λ t. subst (λ x. content_at (then (Put m (Named key) (Text word) owner)) (Cell_at m (Named x)) ≡ Some (Text word)) (sym (same_text k key t)) (ap content (put_here (Named key) (Text word) owner f))
        | false ↦ λ t. ap content (put_beside (Named key) (Named k) (Text word) owner (λ e. let same : k ≡ key = (cc) in let yes = ap (λ x. is_text x key) same ∙ text_itself key in absurd (cc)))
      ] refl

  drop_named : (key k : List ℕ) → content_at (then (Drop m (Named key))) (Cell_at m (Named k)) ≡ cond (is_text k key) None (content_at c (Cell_at m (Named k)))
  unfolding content
  drop_named key k =
      elim (is_text k key) as (λ b. is_text k key ≡ b → content_at (then (Drop m (Named key))) (Cell_at m (Named k)) ≡ cond b None (content_at c (Cell_at m (Named k)))) [
        | true ↦ λ t. subst (λ x. content_at (then (Drop m (Named key))) (Cell_at m (Named x)) ≡ None) (sym (same_text k key t)) (ap content (drop_here (Named key)))
        | false ↦ λ t. ap content (drop_beside (Named key) (Named k) (λ e. let same : k ≡ key = (cc) in let yes = ap (λ x. is_text x key) same ∙ text_itself key in absurd (cc)))
      ] refl

  texts : Option (List ℕ) → Option Content
  texts = option_map Text

  map_put : (pairs : List (List ℕ × List ℕ)) → Shows m c (Map_is pairs) → (key word : List ℕ) → fits_with_owner c (Put m (Named key) (Text word) None) ≡ true → Shows m (then (Put m (Named key) (Text word) None)) (Map_is (put text_cmp key word pairs))
  unfolding texts
  map_put pairs s key word f = (
    put_sorted text_cmp nat_list_cmp_total key word pairs s.0,
    λ k.
        put_named key word None f k ∙ ap (cond (is_text k key) (Some (Text word))) (s.1 k)
        ∙ elim (is_text k key) as (λ b. cond b (Some (Text word)) (texts (find text_cmp k pairs)) ≡ texts (cond b (Some word) (find text_cmp k pairs))) [ true ↦ refl | false ↦ refl ]
        ∙ ap texts (sym (find-put text_cmp nat_list_cmp_total k key word pairs)),
  )

  map_drop : (pairs : List (List ℕ × List ℕ)) → Shows m c (Map_is pairs) → (key : List ℕ) → Shows m (then (Drop m (Named key))) (Map_is (Rattle.std.specs.FinMap.Entries.where_key text_cmp (λ x. not (is_text key x)) pairs))
  unfolding texts
  map_drop pairs s key = (
    where_sorted text_cmp (λ x. not (is_text key x)) pairs s.0,
    λ k.
        drop_named key k ∙ ap (cond (is_text k key) None) (s.1 k)
        ∙ elim (is_text k key) as (λ b. is_text k key ≡ b → cond b None (texts (find text_cmp k pairs)) ≡ texts (cond (not (is_text key k)) (find text_cmp k pairs) None)) [
          | true ↦ λ t. ap (λ b. texts (cond (not b) (find text_cmp k pairs) None)) (sym (ap (is_text key) (same_text k key t) ∙ text_itself key))
          | false ↦ λ t. ap (λ b. texts (cond (not b) (find text_cmp k pairs) None)) (sym (false_from_ne_true (is_text key k) (λ u. let yes = ap (λ x. is_text k x) (same_text key k u) ∙ text_itself k in absurd (cc))))
        ] refl
        ∙ ap texts (sym (find-where_key text_cmp (λ x. not (is_text key x)) k (λ x u. ap (λ y. not (is_text key y)) (sym (exact_texts k x u))) pairs)),
  )

  map_shows : (name : List ℕ) (pairs : List (List ℕ × List ℕ)) → Shows m c (Map_is pairs) → (o : Op) → RowShows (map_row (call name) pairs o)
  unfolding content
  map_shows name pairs s (op.Put key word) = map_put pairs s key word
  map_shows name pairs s (op.PutIf key word) = either_shows (is_some (find text_cmp key pairs)) _ _ (λ _ f. (s.0, λ k. ap content (nothing (Cell_at m (Named k))) ∙ s.1 k)) (λ _. map_put pairs s key word)
  map_shows name pairs s (op.Replace key word) = either_shows (is_some (find text_cmp key pairs)) _ _ (λ _. map_put pairs s key word) (λ _ f. (s.0, λ k. ap content (nothing (Cell_at m (Named k))) ∙ s.1 k))
  map_shows name pairs s (op.Remove key) = either_shows (is_some (find text_cmp key pairs)) _ _ (λ _ f. map_drop pairs s key) (λ _ f. (s.0, λ k. ap content (nothing (Cell_at m (Named k))) ∙ s.1 k))
  map_shows name pairs s op.Clear = either_shows (is_some (head_of pairs)) _ _ (λ _ f. (refl, λ k. ap content (wiped (Named k)))) (λ _ f. (s.0, λ k. ap content (nothing (Cell_at m (Named k))) ∙ s.1 k))
  map_shows name pairs s (op.GetOf key) = λ f. (s.0, λ k. ap content (nothing (Cell_at m (Named k))) ∙ s.1 k)
  map_shows name pairs s op.Size = λ f. (s.0, λ k. ap content (nothing (Cell_at m (Named k))) ∙ s.1 k)
  map_shows name pairs s _ = tt

  -- one place after a Put or a Drop of a cell
  place_put : (cell other : Cell) (content : Content) (owner : Option ℕ) → fits_with_owner c (Put m cell content owner) ≡ true → at (then (Put m cell content owner)) (Cell_at m other) ≡ cond (eq_by_cmp cell_cmp other cell) (Some (filled i content owner)) (at c (Cell_at m other))
  place_put cell other content owner f =
      elim (eq_by_cmp cell_cmp other cell) as (λ b. eq_by_cmp cell_cmp other cell ≡ b → at (then (Put m cell content owner)) (Cell_at m other) ≡ cond b (Some (filled i content owner)) (at c (Cell_at m other))) [
        | true ↦ λ t. ap (λ x. at (then (Put m cell content owner)) (Cell_at m x)) (tied_same cell_total exact_cells other cell t) ∙ put_here cell content owner f
        | false ↦ λ t. put_beside cell other content owner (λ e. let yes = ap (λ x. eq_by_cmp cell_cmp x cell) e ∙ tied_true cell_total exact_cells cell in absurd (cc))
      ] refl

  place_drop : (cell other : Cell) → at (then (Drop m cell)) (Cell_at m other) ≡ cond (eq_by_cmp cell_cmp other cell) None (at c (Cell_at m other))
  place_drop cell other =
      elim (eq_by_cmp cell_cmp other cell) as (λ b. eq_by_cmp cell_cmp other cell ≡ b → at (then (Drop m cell)) (Cell_at m other) ≡ cond b None (at c (Cell_at m other))) [
        | true ↦ λ t. ap (λ x. at (then (Drop m cell)) (Cell_at m x)) (tied_same cell_total exact_cells other cell t) ∙ drop_here cell
        | false ↦ λ t. drop_beside cell other (λ e. let yes = ap (λ x. eq_by_cmp cell_cmp x cell) e ∙ tied_true cell_total exact_cells cell in absurd (cc))
      ] refl

  some_cond : (b : Bool) (h : Held) (o : Option Held) → is_some (cond b (Some h) o) ≡ (b || is_some o)
  some_cond true h o = refl
  some_cond false h o = refl

  none_cond : (b : Bool) (o : Option Held) → is_some (cond b None o) ≡ (not b && is_some o)
  none_cond true o = refl
  none_cond false o = refl

  stands_put : (cell other : Cell) (content : Content) (owner : Option ℕ) → fits_with_owner c (Put m cell content owner) ≡ true → stands (then (Put m cell content owner)) (Cell_at m other) ≡ (eq_by_cmp cell_cmp other cell || stands c (Cell_at m other))
  stands_put cell other content owner f = ap is_some (place_put cell other content owner f) ∙ some_cond (eq_by_cmp cell_cmp other cell) (filled i content owner) (at c (Cell_at m other))

  stands_drop : (cell other : Cell) → stands (then (Drop m cell)) (Cell_at m other) ≡ (not (eq_by_cmp cell_cmp other cell) && stands c (Cell_at m other))
  stands_drop cell other = ap is_some (place_drop cell other) ∙ none_cond (eq_by_cmp cell_cmp other cell) (at c (Cell_at m other))

  told : (word : List ℕ) (q : Place) → at (then (Tell m word)) q ≡ at c q
  told word q = untouched c i (command_entry t session seq (Tell m word) No_reply) q refl (λ h _. refl)

  -- sets of cells: the set's members, the multimap's pairs, the listeners
  module _ {K : Type 0} {R : K → K → Ordering} (total : IsTotalOrder R) (exact : IsAntisymmetric R) (cell_of : K → Cell) (tie : (a b : K) → eq_by_cmp cell_cmp (cell_of a) (cell_of b) ≡ eq_by_cmp R a b) where
    abbrev Has : Cells → List K → Type 0
    Has d xs = (is_sorted R (keyed xs) ≡ true) × ((q : K) → stands d (Cell_at m (cell_of q)) ≡ has_item R q xs)

    has_put : (xs : List K) → Has c xs → (x : K) (content : Content) (owner : Option ℕ) → fits_with_owner c (Put m (cell_of x) content owner) ≡ true → Has (then (Put m (cell_of x) content owner)) (with_item R x xs)
    has_put xs s x content owner f = (
      sorted_with total exact x xs s.0,
      λ q.
          stands_put (cell_of x) (cell_of q) content owner f
          ∙ ap (λ b. b || stands c (Cell_at m (cell_of q))) (tie q x)
          ∙ ap (λ b. eq_by_cmp R q x || b) (s.1 q)
          ∙ sym (has_with total exact q x xs),
    )

    turned : (a b : K) → eq_by_cmp R a b ≡ eq_by_cmp R b a
    turned a b =
        elim (eq_by_cmp R b a) as (λ y. eq_by_cmp R b a ≡ y → eq_by_cmp R a b ≡ y) [
          | true ↦ λ e. ap (λ x. eq_by_cmp R a x) (tied_same total exact b a e) ∙ tied_true total exact a
          | false ↦ λ e. false_from_ne_true (eq_by_cmp R a b) (λ u. let yes = ap (λ x. eq_by_cmp R x a) (sym (tied_same total exact a b u)) ∙ tied_true total exact a in absurd (cc))
        ] refl

    has_drop : (xs : List K) → Has c xs → (x : K) → Has (then (Drop m (cell_of x))) (without_item R x xs)
    has_drop xs s x = (
      sorted_filter total exact (λ y. not (eq_by_cmp R x y)) xs s.0,
      λ q.
          stands_drop (cell_of x) (cell_of q)
          ∙ ap (λ b. not b && stands c (Cell_at m (cell_of q))) (tie q x ∙ turned q x)
          ∙ ap (λ b. not (eq_by_cmp R x q) && b) (s.1 q)
          ∙ sym (has_filter total exact (λ y. not (eq_by_cmp R x y)) q xs),
    )

    has_nothing : (xs : List K) → Has c xs → Has (then Nothing) xs
    has_nothing xs s = (s.0, λ q. ap is_some (nothing (Cell_at m (cell_of q))) ∙ s.1 q)

    has_wiped : Has (then (Wipe m)) []
    has_wiped = (refl, λ q. ap is_some (wiped (cell_of q)))

  then_end : (o : Ordering) → ordering_then o Equal ≡ o
  then_end Less = refl
  then_end Equal = refl
  then_end Greater = refl

  word_tie : (a b : List ℕ) → eq_by_cmp cell_cmp (Member_cell a) (Member_cell b) ≡ eq_by_cmp text_cmp a b
  word_tie a b = ap is_eq (then_end (text_cmp a b))

  of_tie : (a b : ℕ) → eq_by_cmp cell_cmp (Of a) (Of b) ≡ eq_by_cmp nat_cmp a b
  of_tie a b = ap is_eq (then_end (nat_cmp a b))

  at_tie : (a b : ℕ) → eq_by_cmp cell_cmp (At a) (At b) ≡ eq_by_cmp nat_cmp a b
  at_tie a b = ap is_eq (then_end (nat_cmp a b))

  pair_cell : List ℕ × List ℕ → Cell
  pair_cell p = Pair p.0 p.1

  pair_tie : (a b : List ℕ × List ℕ) → eq_by_cmp cell_cmp (pair_cell a) (pair_cell b) ≡ eq_by_cmp pair_cmp a b
  unfolding pair_cell
  pair_tie a b = ap (λ o. is_eq (ordering_then (text_cmp a.0 b.0) o)) (then_end (text_cmp a.1 b.1))

  pair_total : IsTotalOrder pair_cmp
  pair_total = then_total (on_total (λ p. p.0) nat_list_cmp_total) (on_total (λ p. p.1) nat_list_cmp_total)

  exact_pairs : IsAntisymmetric pair_cmp
  exact_pairs a b e = let both = text_tie exact_texts a.0 b.0 (text_cmp a.1 b.1) e in let second = exact_texts a.1 b.1 both.1 in λ k. (both.0 k, second k)

  set_shows : (name : List ℕ) (words : List (List ℕ)) → Shows m c (Set_is words) → (o : Op) → RowShows (set_row (call name) words o)
  set_shows name words s (op.Insert word) = either_shows (has_item text_cmp word words) _ _ (λ _ f. has_nothing nat_list_cmp_total exact_texts Member_cell word_tie words s) (λ _ f. has_put nat_list_cmp_total exact_texts Member_cell word_tie words s word Mark None f)
  set_shows name words s (op.Discard word) = either_shows (has_item text_cmp word words) _ _ (λ _ f. has_drop nat_list_cmp_total exact_texts Member_cell word_tie words s word) (λ _ f. has_nothing nat_list_cmp_total exact_texts Member_cell word_tie words s)
  set_shows name words s (op.Has word) = λ f. has_nothing nat_list_cmp_total exact_texts Member_cell word_tie words s
  set_shows name words s op.Size = λ f. has_nothing nat_list_cmp_total exact_texts Member_cell word_tie words s
  set_shows name words s op.Clear = either_shows (is_some (head_of words)) _ _ (λ _ f. has_wiped nat_list_cmp_total exact_texts Member_cell word_tie) (λ _ f. has_nothing nat_list_cmp_total exact_texts Member_cell word_tie words s)
  set_shows name words s _ = tt

  key_gone : (key k word : List ℕ) → stands (then (WipeKey m key)) (Cell_at m (Pair k word)) ≡ (not (is_text key k) && stands c (Cell_at m (Pair k word)))
  key_gone key k word =
      elim (is_text key k) as (λ b. is_text key k ≡ b → stands (then (WipeKey m key)) (Cell_at m (Pair k word)) ≡ (not b && stands c (Cell_at m (Pair k word)))) [
        | true ↦ λ u. ap is_some (emptied c i (command_entry t session seq (WipeKey m key) No_reply) (Cell_at m (Pair k word)) refl (λ h _. and_from (m == m) (is_text key k) (eq-eqb m m refl) u))
        | false ↦ λ u. ap is_some (untouched c i (command_entry t session seq (WipeKey m key) No_reply) (Cell_at m (Pair k word)) refl (λ h _. ap (λ b. (m == m) && b) u ∙ Rattle.std.proofs.lemmas.Bool.and_right (m == m) false refl))
      ] refl

  abbrev Pairs : Cells → List (List ℕ × List ℕ) → Type 0
  Pairs d pairs = (is_sorted pair_cmp (keyed pairs) ≡ true) × ((key word : List ℕ) → stands d (Cell_at m (Pair key word)) ≡ has_item pair_cmp (key, word) pairs)

  as_pairs : (d : Cells) (pairs : List (List ℕ × List ℕ)) → Has pair_total exact_pairs pair_cell pair_tie d pairs → Pairs d pairs
  unfolding pair_cell
  as_pairs d pairs s = (s.0, λ key word. s.1 (key, word))

  from_pairs : (pairs : List (List ℕ × List ℕ)) → Pairs c pairs → Has pair_total exact_pairs pair_cell pair_tie c pairs
  unfolding pair_cell
  from_pairs pairs s = (s.0, λ p. s.1 p.0 p.1)

  multimap_shows : (name : List ℕ) (pairs : List (List ℕ × List ℕ)) → Shows m c (Multimap_is pairs) → (o : Op) → RowShows (multimap_row (call name) pairs o)
  unfolding pair_cell
  multimap_shows name pairs s o = go o
    where
      same : Pairs (then Nothing) pairs
      same = as_pairs (then Nothing) pairs (has_nothing pair_total exact_pairs pair_cell pair_tie pairs (from_pairs pairs s))

      go : (o : Op) → RowShows (multimap_row (call name) pairs o)
      go (op.Put key word) = either_shows (has_item pair_cmp (key, word) pairs) _ _ (λ _ f. same) (λ _ f. as_pairs (then (Put m (Pair key word) Mark None)) (with_item pair_cmp (key, word) pairs) (has_put pair_total exact_pairs pair_cell pair_tie pairs (from_pairs pairs s) (key, word) Mark None f))
      go (op.RemoveOne key word) = either_shows (has_item pair_cmp (key, word) pairs) _ _ (λ _ f. as_pairs (then (Drop m (Pair key word))) (without_item pair_cmp (key, word) pairs) (has_drop pair_total exact_pairs pair_cell pair_tie pairs (from_pairs pairs s) (key, word))) (λ _ f. same)
      go (op.Remove key) = either_shows (list_any (λ p. is_text key p.0) pairs) _ _ (λ _ f. (sorted_filter pair_total exact_pairs (λ p. not (is_text key p.0)) pairs s.0, λ k word. key_gone key k word ∙ ap (λ b. not (is_text key k) && b) (s.1 k word) ∙ sym (has_filter pair_total exact_pairs (λ p. not (is_text key p.0)) (k, word) pairs))) (λ _ f. same)
      go (op.GetOf key) = λ f. same
      go (op.Count key) = λ f. same
      go op.Size = λ f. same
      go op.Clear = either_shows (is_some (head_of pairs)) _ _ (λ _ f. as_pairs (then (Wipe m)) [] (has_wiped pair_total exact_pairs pair_cell pair_tie)) (λ _ f. same)
      go _ = tt

  topic_shows : (name : List ℕ) (listeners : List ℕ) → Shows m c (Topic_is listeners) → (o : Op) → RowShows (topic_row (call name) listeners o)
  topic_shows name ls s (op.Publish word) = λ f. (s.0, λ q. ap is_some (told word (Cell_at m (Of q))) ∙ s.1 q)
  topic_shows name ls s op.Listen = either_shows (has_item nat_cmp session ls) _ _ (λ _ f. has_nothing nat_cmp_total nat_cmp-IsAntisymmetric Of of_tie ls s) (λ _ f. has_put nat_cmp_total nat_cmp-IsAntisymmetric Of of_tie ls s session Mark (Some session) f)
  topic_shows name ls s op.Unlisten = either_shows (has_item nat_cmp session ls) _ _ (λ _ f. has_drop nat_cmp_total nat_cmp-IsAntisymmetric Of of_tie ls s session) (λ _ f. has_nothing nat_cmp_total nat_cmp-IsAntisymmetric Of of_tie ls s)
  topic_shows name ls s op.Size = λ f. has_nothing nat_cmp_total nat_cmp-IsAntisymmetric Of of_tie ls s
  topic_shows name ls s _ = tt

  abbrev Fresh : Type 0
  Fresh = IsFresh m i c

  content_cond : (b : Bool) (o p : Option Held) → content (cond b o p) ≡ cond b (content o) (content p)
  content_cond true o p = refl
  content_cond false o p = refl

  texts_cond : (b : Bool) (o p : Option (List ℕ)) → texts (cond b o p) ≡ cond b (texts o) (texts p)
  texts_cond true o p = refl
  texts_cond false o p = refl

  some_content : (o : Option Held) (x : Content) → content o ≡ Some x → is_some o ≡ true
  unfolding content
  some_content None x e = absurd (cc)
  some_content (Some h) x e = refl

  not_below : (j : ℕ) → j < j → ⊥
  not_below j h = omega arith

  nat_tie : (a b : ℕ) → eq_by_cmp nat_cmp a b ≡ (a == b)
  nat_tie a b =
      elim (a == b) as (λ y. (a == b) ≡ y → eq_by_cmp nat_cmp a b ≡ y) [
        | true ↦ λ e. ap (λ x. eq_by_cmp nat_cmp a x) (sym (eqb-true a b e)) ∙ tied_true nat_cmp_total nat_cmp-IsAntisymmetric a
        | false ↦ λ e. false_from_ne_true (eq_by_cmp nat_cmp a b) (λ u. let yes = eq-eqb a b (tied_same nat_cmp_total nat_cmp-IsAntisymmetric a b u) in absurd (cc))
      ] refl

  module _ (items : List (ℕ × List ℕ)) (s : Shows m c (Queue_is items)) where
    queue_same : Shows m (then Nothing) (Queue_is items)
    unfolding content
    queue_same = (s.0, λ j. ap content (nothing (Cell_at m (At j))) ∙ s.1 j)

    queue_put : Fresh → (word : List ℕ) → fits_with_owner c (Put m (At i) (Text word) None) ≡ true → Shows m (then (Put m (At i) (Text word) None)) (Queue_is (items ++ (i, word) ∷ []))
    unfolding content texts
    queue_put fresh word f = (
      sorted_push i word items s.0 below,
      λ j.
          ap content (place_put (At i) (At j) (Text word) None f)
          ∙ ap (λ b. content (cond b (Some (filled i (Text word) None)) (at c (Cell_at m (At j))))) (at_tie j i)
          ∙ content_cond (eq_by_cmp nat_cmp j i) (Some (filled i (Text word) None)) (at c (Cell_at m (At j)))
          ∙ ap (cond (eq_by_cmp nat_cmp j i) (Some (Text word))) (s.1 j)
          ∙ sym (texts_cond (eq_by_cmp nat_cmp j i) (Some word) (find nat_cmp j items))
          ∙ ap texts (sym (find-append nat_cmp nat_cmp_total items i word j (none (find nat_cmp i items) refl))),
    )
      where
        below : (j : ℕ) (y : List ℕ) → find nat_cmp j items ≡ Some y → j < i
        below j y g = fresh.0 j (some_content (at c (Cell_at m (At j))) (Text y) (s.1 j ∙ ap texts g))

        none : (o : Option (List ℕ)) → find nat_cmp i items ≡ o → find nat_cmp i items ≡ None
        none None g = g
        none (Some y) g = absurd (not_below i (below i y g))

    queue_drop : (k : ℕ) → Shows m (then (Drop m (At k))) (Queue_is (filter (λ x. not (x.0 == k)) items))
    unfolding content texts
    queue_drop k = (
      where_sorted nat_cmp (λ j. not (j == k)) items s.0,
      λ j.
          ap content (place_drop (At k) (At j))
          ∙ ap (λ b. content (cond b None (at c (Cell_at m (At j))))) (at_tie j k ∙ nat_tie j k)
          ∙ content_cond (j == k) None (at c (Cell_at m (At j)))
          ∙ ap (cond (j == k) None) (s.1 j)
          ∙ sym (texts_cond (j == k) None (find nat_cmp j items))
          ∙ ap texts (not_cond (j == k) (find nat_cmp j items) ∙ sym (find-where_key nat_cmp (λ x. not (x == k)) j (λ x u. ap (λ y. not (y == k)) (sym (nat_cmp-IsAntisymmetric j x u))) items)),
    )
      where
        not_cond : (b : Bool) (o : Option (List ℕ)) → cond b None o ≡ cond (not b) o None
        not_cond true o = refl
        not_cond false o = refl

    taken : (name : List ℕ) (o : Option (ℕ × List ℕ)) (found : List ℕ → Reply) (missing : Reply) → RowShows (takes_out (call name) items o found missing)
    taken name None found missing = λ f. queue_same
    taken name (Some item) found missing = λ f. queue_drop item.0

    queue_shows : (name : List ℕ) → Fresh → (o : Op) → RowShows (queue_row (call name) items o)
    unfolding content
    queue_shows name fresh (op.Enqueue word) = queue_put fresh word
    queue_shows name fresh op.Poll = taken name (head_of items) Text_reply No_reply
    queue_shows name fresh op.Peek = λ f. queue_same
    queue_shows name fresh (op.RemoveWord word) = taken name (find_first (λ x. is_text word x.1) items) (λ _. Truth true) (Truth false)
    queue_shows name fresh op.Size = λ f. queue_same
    queue_shows name fresh op.Clear = either_shows (is_some (head_of items)) _ _ (λ _ f. (refl, λ j. ap content (wiped (At j)))) (λ _ f. queue_same)
    queue_shows name fresh _ = tt

  member_here : Option Held → Option (Content × Option ℕ)
  member_here = option_map (λ (h : Held). (h.content, h.owner))

  member_cond : (b : Bool) (o p : Option Held) → member_here (cond b o p) ≡ cond b (member_here o) (member_here p)
  member_cond true o p = refl
  member_cond false o p = refl

  cells_of : Option Group_member → Option (Content × Option ℕ)
  cells_of = option_map member_cell

  cells_cond : (b : Bool) (o p : Option Group_member) → cells_of (cond b o p) ≡ cond b (cells_of o) (cells_of p)
  cells_cond true o p = refl
  cells_cond false o p = refl

  some_member : (o : Option Held) (x : Content × Option ℕ) → member_here o ≡ Some x → is_some o ≡ true
  unfolding member_here
  some_member None x e = absurd (cc)
  some_member (Some h) x e = refl

  members_push : (ms : List Group_member) (x : Group_member) → by_index (ms ++ x ∷ []) ≡ by_index ms ++ (x.index, x) ∷ []
  members_push [] x = refl
  members_push (y ∷ ms) x = ap (λ es. (y.index, y) ∷ es) (members_push ms x)

  members_filter : (k : ℕ) (ms : List Group_member) → by_index (filter (λ x. not (x.index == k)) ms) ≡ where_key nat_cmp (λ j. not (j == k)) (by_index ms)
  members_filter k [] = refl
  members_filter k (y ∷ ms) =
      elim (y.index == k) as (λ b. by_index (cond (not b) (y ∷ filter (λ x. not (x.index == k)) ms) (filter (λ x. not (x.index == k)) ms)) ≡ cond (not b) ((y.index, y) ∷ where_key nat_cmp (λ j. not (j == k)) (by_index ms)) (where_key nat_cmp (λ j. not (j == k)) (by_index ms))) [
        | true ↦ members_filter k ms
        | false ↦ ap (λ es. (y.index, y) ∷ es) (members_filter k ms)
      ]

  module _ (ms : List Group_member) (ls : List ℕ) (s : Shows m c (Group_is ms ls)) where
    group_same : Shows m (then Nothing) (Group_is ms ls)
    unfolding member_here
    group_same = (s.0, λ j. ap member_here (nothing (Cell_at m (At j))) ∙ s.1 j, has_nothing nat_cmp_total nat_cmp-IsAntisymmetric Of of_tie ls s.2)

    group_join : Fresh → (word : List ℕ) → fits_with_owner c (Put m (At i) (Text word) (Some session)) ≡ true → Shows m (then (Put m (At i) (Text word) (Some session))) (Group_is (ms ++ record { index = i; session = session; word = word } ∷ []) ls)
    unfolding member_here cells_of
    group_join fresh word f = (
      ap (is_sorted nat_cmp) (members_push ms new) ∙ sorted_push i new (by_index ms) s.0 below,
      λ j. ap member_here (place_put (At i) (At j) (Text word) (Some session) f)
          ∙ ap (λ b. member_here (cond b (Some (filled i (Text word) (Some session))) (at c (Cell_at m (At j))))) (at_tie j i)
          ∙ member_cond (eq_by_cmp nat_cmp j i) (Some (filled i (Text word) (Some session))) (at c (Cell_at m (At j)))
          ∙ ap (cond (eq_by_cmp nat_cmp j i) (Some (Text word, Some session))) (s.1 j)
          ∙ sym (cells_cond (eq_by_cmp nat_cmp j i) (Some new) (find nat_cmp j (by_index ms)))
          ∙ ap cells_of (sym (ap (find nat_cmp j) (members_push ms new) ∙ find-append nat_cmp nat_cmp_total (by_index ms) i new j (none (find nat_cmp i (by_index ms)) refl))),
      (s.2.0, λ q. ap is_some (place_put (At i) (Of q) (Text word) (Some session) f) ∙ s.2.1 q),
    )
      where
        new : Group_member
        new = record { index = i; session = session; word = word }

        below : (j : ℕ) (y : Group_member) → find nat_cmp j (by_index ms) ≡ Some y → j < i
        below j y g = fresh.0 j (some_member (at c (Cell_at m (At j))) (member_cell y) (s.1 j ∙ ap cells_of g))

        none : (o : Option Group_member) → find nat_cmp i (by_index ms) ≡ o → find nat_cmp i (by_index ms) ≡ None
        none None g = g
        none (Some y) g = absurd (not_below i (below i y g))

    group_leave : (k : ℕ) → Shows m (then (Drop m (At k))) (Group_is (filter (λ x. not (x.index == k)) ms) ls)
    unfolding member_here cells_of
    group_leave k = (
      ap (is_sorted nat_cmp) (members_filter k ms) ∙ where_sorted nat_cmp (λ j. not (j == k)) (by_index ms) s.0,
      λ j. ap member_here (place_drop (At k) (At j))
          ∙ ap (λ b. member_here (cond b None (at c (Cell_at m (At j))))) (at_tie j k ∙ nat_tie j k)
          ∙ member_cond (j == k) None (at c (Cell_at m (At j)))
          ∙ ap (cond (j == k) None) (s.1 j)
          ∙ sym (cells_cond (j == k) None (find nat_cmp j (by_index ms)))
          ∙ ap cells_of (not_cond (j == k) (find nat_cmp j (by_index ms)) ∙ sym (ap (find nat_cmp j) (members_filter k ms) ∙ find-where_key nat_cmp (λ x. not (x == k)) j (λ x u. ap (λ y. not (y == k)) (sym (nat_cmp-IsAntisymmetric j x u))) (by_index ms))),
      (s.2.0, λ q. ap is_some (place_drop (At k) (Of q)) ∙ s.2.1 q),
    )
      where
        not_cond : (b : Bool) (o : Option Group_member) → cond b None o ≡ cond (not b) o None
        not_cond true o = refl
        not_cond false o = refl

    group_listen : fits_with_owner c (Put m (Of session) Mark (Some session)) ≡ true → Shows m (then (Put m (Of session) Mark (Some session))) (Group_is ms (with_item nat_cmp session ls))
    unfolding member_here
    group_listen f = (s.0, λ j. ap member_here (place_put (Of session) (At j) Mark (Some session) f) ∙ s.1 j, has_put nat_cmp_total nat_cmp-IsAntisymmetric Of of_tie ls s.2 session Mark (Some session) f)

    group_unlisten : Shows m (then (Drop m (Of session))) (Group_is ms (without_item nat_cmp session ls))
    unfolding member_here
    group_unlisten = (s.0, λ j. ap member_here (place_drop (Of session) (At j)) ∙ s.1 j, has_drop nat_cmp_total nat_cmp-IsAntisymmetric Of of_tie ls s.2 session)

    group_shows : (name : List ℕ) → Fresh → (o : Op) → RowShows (group_row (call name) ms ls o)
    group_shows name fresh (op.Join word) = group_join fresh word
    group_shows name fresh (op.Leave member) = either_shows (list_any (λ x. x.index == member && x.session == session) ms) _ _ (λ _ f. group_leave member) (λ _ f. group_same)
    group_shows name fresh op.Members = λ f. group_same
    group_shows name fresh op.Leader = λ f. group_same
    group_shows name fresh op.Listen = either_shows (has_item nat_cmp session ls) _ _ (λ _ f. group_same) (λ _. group_listen)
    group_shows name fresh op.Unlisten = either_shows (has_item nat_cmp session ls) _ _ (λ _ f. group_unlisten) (λ _ f. group_same)
    group_shows name fresh op.Size = λ f. group_same
    group_shows name fresh _ = tt

  -- the lock

  waiter_cell : ℕ × ℕ → Cell
  waiter_cell w = Waiter w.0 w.1

  both_equal : (a b : Ordering) → is_eq (ordering_then a b) ≡ (is_eq a && is_eq b)
  both_equal Less b = refl
  both_equal Equal b = refl
  both_equal Greater b = refl

  waiter_tie : (a b : ℕ × ℕ) → eq_by_cmp cell_cmp (waiter_cell a) (waiter_cell b) ≡ is_waiter a b
  unfolding waiter_cell
  waiter_tie a b = both_equal (nat_cmp a.0 b.0) (nat_cmp a.1 b.1) ∙ (λ k. nat_tie a.0 b.0 k && nat_tie a.1 b.1 k)

  same_waiter : (a b : ℕ × ℕ) → is_waiter a b ≡ true → a ≡ b
  same_waiter a b e = let x = both_true (a.0 == b.0) (a.1 == b.1) e in let first = eqb-true a.0 b.0 x.0 in let second = eqb-true a.1 b.1 x.1 in λ k. (first k, second k)
    where
      both_true : (x y : Bool) → (x && y) ≡ true → (x ≡ true) × (y ≡ true)
      both_true true y e = (refl, e)
      both_true false y e = absurd (cc)

  waiter_itself : (a : ℕ × ℕ) → is_waiter a a ≡ true
  waiter_itself a = and_from (a.0 == a.0) (a.1 == a.1) (eq-eqb a.0 a.0 refl) (eq-eqb a.1 a.1 refl)

  waiter_turned : (a b : ℕ × ℕ) → is_waiter a b ≡ is_waiter b a
  waiter_turned a b =
      elim (is_waiter b a) as (λ y. is_waiter b a ≡ y → is_waiter a b ≡ y) [
        | true ↦ λ e. ap (is_waiter a) (same_waiter b a e) ∙ waiter_itself a
        | false ↦ λ e. false_from_ne_true (is_waiter a b) (λ u. let yes = ap (λ x. is_waiter x a) (sym (same_waiter a b u)) ∙ waiter_itself a in absurd (cc))
      ] refl

  holds_at : Cells → ℕ × ℕ → ℕ
  holds_at d w = index_at d (Cell_at m (waiter_cell w))

  by_holding_of : Cells → List (ℕ × ℕ) → List (ℕ × (ℕ × ℕ))
  by_holding_of d ws = map (λ w. (holds_at d w, w)) ws

  holding_same : (d e : Cells) (ws : List (ℕ × ℕ)) → ((w : ℕ × ℕ) → list_any (is_waiter w) ws ≡ true → holds_at d w ≡ holds_at e w) → by_holding_of d ws ≡ by_holding_of e ws
  unfolding by_holding_of
  holding_same d e [] same = refl
  holding_same d e (w ∷ ws) same =
      let here = same w (ap (λ b. b || list_any (is_waiter w) ws) (waiter_itself w)) in
      let rest = holding_same d e ws (λ x u. same x (Rattle.std.proofs.lemmas.Bool.or_right (is_waiter x w) (list_any (is_waiter x) ws) u)) in
      λ k. (here k, w) ∷ rest k

  holding_push : (d : Cells) (ws : List (ℕ × ℕ)) (w : ℕ × ℕ) → by_holding_of d (ws ++ w ∷ []) ≡ by_holding_of d ws ++ (holds_at d w, w) ∷ []
  unfolding by_holding_of
  holding_push d [] w = refl
  holding_push d (x ∷ ws) w = ap (λ es. (holds_at d x, x) ∷ es) (holding_push d ws w)

  holding_filter : (d : Cells) (p : ℕ × ℕ → Bool) (ws : List (ℕ × ℕ)) → by_holding_of d (filter p ws) ≡ filter (λ e. p e.1) (by_holding_of d ws)
  unfolding by_holding_of
  holding_filter d p [] = refl
  holding_filter d p (x ∷ ws) =
      elim (p x) as (λ b. by_holding_of d (cond b (x ∷ filter p ws) (filter p ws)) ≡ cond b ((holds_at d x, x) ∷ filter (λ e. p e.1) (by_holding_of d ws)) (filter (λ e. p e.1) (by_holding_of d ws))) [
        | true ↦ ap (λ es. (holds_at d x, x) ∷ es) (holding_filter d p ws)
        | false ↦ holding_filter d p ws
      ]

  -- a waiter that is found at an index has its cell held there
  held_found : (ws : List (ℕ × ℕ)) (j : ℕ) (w : ℕ × ℕ) → find nat_cmp j (by_holding_of c ws) ≡ Some w → (j ≡ holds_at c w) × (list_any (is_waiter w) ws ≡ true)
  unfolding by_holding_of
  held_found [] j w e = absurd (cc)
  held_found (x ∷ ws) j w e =
      elim (eq_by_cmp nat_cmp j (holds_at c x)) as (λ b. eq_by_cmp nat_cmp j (holds_at c x) ≡ b → cond b (Some x) (find nat_cmp j (by_holding_of c ws)) ≡ Some w → (j ≡ holds_at c w) × (list_any (is_waiter w) (x ∷ ws) ≡ true)) [
        | true ↦ λ u g.
            let same : x ≡ w = (cc) in
            (tied_same nat_cmp_total nat_cmp-IsAntisymmetric j (holds_at c x) u ∙ ap (holds_at c) same, ap (λ b. b || list_any (is_waiter w) ws) (ap (is_waiter w) same ∙ waiter_itself w))
        | false ↦ λ u g. let r = held_found ws j w g in (r.0, Rattle.std.proofs.lemmas.Bool.or_right (is_waiter w x) (list_any (is_waiter w) ws) r.1)
      ] refl e

  module _ (ws : List (ℕ × ℕ)) (s : Shows m c (Lock_is ws)) where
    lock_same : Shows m (then Nothing) (Lock_is ws)
    unfolding by_holding_of holds_at waiter_cell
    lock_same = (
      ap (is_sorted nat_cmp) (holding_same (then Nothing) c ws (λ w u. ap (λ o. Rattle.std.specs.Option.option_map_or (λ (h : Held). h.index) o 0) (nothing (Cell_at m (waiter_cell w))))) ∙ s.0,
      λ a b. ap is_some (nothing (Cell_at m (Waiter a b))) ∙ s.1 a b,
    )

    abbrev me : ℕ → ℕ × ℕ
    me id = (session, id)

    -- another waiter's cell is as before
    other_waiter : (id : ℕ) (w : ℕ × ℕ) → list_any (is_waiter (me id)) ws ≡ false → list_any (is_waiter w) ws ≡ true → is_waiter w (me id) ≡ false
    other_waiter id w out in_it = false_from_ne_true (is_waiter w (me id)) (λ u. let there = ap (λ x. list_any (is_waiter x) ws) (same_waiter w (me id) u) in absurd (cc))

    lock_put : Fresh → (id : ℕ) → list_any (is_waiter (me id)) ws ≡ false → fits_with_owner c (Put m (Waiter session id) Mark (Some session)) ≡ true → Shows m (then (Put m (Waiter session id) Mark (Some session))) (Lock_is (ws ++ (session, id) ∷ []))
    unfolding by_holding_of holds_at waiter_cell
    lock_put fresh id out f = (
      ap (is_sorted nat_cmp) (holding_push d ws (me id) ∙ (λ k. kept k ++ (mine k, me id) ∷ [])) ∙ sorted_push i (me id) (by_holding_of c ws) s.0 below,
      λ a b. stands_put (Waiter session id) (Waiter a b) Mark (Some session) f
          ∙ ap (λ t. t || stands c (Cell_at m (Waiter a b))) (waiter_tie (a, b) (me id))
          ∙ ap (λ t. is_waiter (a, b) (me id) || t) (s.1 a b)
          ∙ sym (any_push (is_waiter (a, b)) ws (me id)),
    )
      where
        d : Cells
        d = then (Put m (Waiter session id) Mark (Some session))

        index_of : Option Held → ℕ
        index_of o = Rattle.std.specs.Option.option_map_or (λ (h : Held). h.index) o 0

        kept : by_holding_of d ws ≡ by_holding_of c ws
        kept = holding_same d c ws (λ w u.
            ap index_of (place_put (Waiter session id) (waiter_cell w) Mark (Some session) f)
            ∙ ap (λ t. index_of (cond t (Some (filled i Mark (Some session))) (at c (Cell_at m (waiter_cell w))))) (waiter_tie w (me id) ∙ other_waiter id w out u))

        mine : holds_at d (me id) ≡ i
        mine = ap index_of (put_here (Waiter session id) Mark (Some session) f)

        below : (j : ℕ) (w : ℕ × ℕ) → find nat_cmp j (by_holding_of c ws) ≡ Some w → j < i
        below j w g = let r = held_found ws j w g in subst (λ n. n < i) (sym r.0) (fresh.1 w.0 w.1 (s.1 w.0 w.1 ∙ r.1))

    lock_drop : (id : ℕ) → Shows m (then (Drop m (Waiter session id))) (Lock_is (filter (λ w. not (is_waiter (session, id) w)) ws))
    unfolding by_holding_of holds_at waiter_cell
    lock_drop id = (
      ap (is_sorted nat_cmp) (kept ∙ holding_filter c left ws) ∙ sorted_where nat_cmp (λ e. left e.1) (by_holding_of c ws) s.0,
      λ a b. stands_drop (Waiter session id) (Waiter a b)
          ∙ ap (λ t. not t && stands c (Cell_at m (Waiter a b))) (waiter_tie (a, b) (me id) ∙ waiter_turned (a, b) (me id))
          ∙ ap (λ t. not (is_waiter (me id) (a, b)) && t) (s.1 a b)
          ∙ sym (any_filter (is_waiter (a, b)) left (not (is_waiter (me id) (a, b))) (λ x u. ap left (sym (same_waiter (a, b) x u))) ws),
    )
      where
        left : ℕ × ℕ → Bool
        left w = not (is_waiter (me id) w)

        index_of : Option Held → ℕ
        index_of o = Rattle.std.specs.Option.option_map_or (λ (h : Held). h.index) o 0

        not_mine : (w : ℕ × ℕ) → list_any (is_waiter w) (filter left ws) ≡ true → is_waiter w (me id) ≡ false
        not_mine w u = false_from_ne_true (is_waiter w (me id)) (λ v.
            let mine = waiter_turned (me id) w ∙ v in
            let none = any_filter (is_waiter w) left (left w) (λ x t. ap left (sym (same_waiter w x t))) ws ∙ ap (λ b. not b && list_any (is_waiter w) ws) mine in
            absurd (cc))

        kept : by_holding_of (then (Drop m (Waiter session id))) (filter left ws) ≡ by_holding_of c (filter left ws)
        kept = holding_same (then (Drop m (Waiter session id))) c (filter left ws) (λ w u.
            ap index_of (place_drop (Waiter session id) (waiter_cell w))
            ∙ ap (λ t. index_of (cond t None (at c (Cell_at m (waiter_cell w))))) (waiter_tie w (me id) ∙ not_mine w u))

    empty : is_some (head_of ws) ≡ false → ws ≡ []
    empty e = go ws e
      where
        go : (xs : List (ℕ × ℕ)) → is_some (head_of xs) ≡ false → xs ≡ []
        go [] e = refl
        go (x ∷ xs) e = absurd (cc)

    lock_shows : (name : List ℕ) → Fresh → (o : Op) → RowShows (lock_row (call name) ws o)
    lock_shows name fresh (op.Lock id) = either_shows (list_any (is_waiter (session, id)) ws) _ _ (λ _ f. lock_same) (λ out. lock_put fresh id out)
    lock_shows name fresh (op.Try id) = either_shows (is_some (head_of ws)) _ _ (λ _ f. lock_same) (λ out f.
        let none = empty out in
        subst (λ xs. Shows m (then (Put m (Waiter session id) Mark (Some session))) (Lock_is (xs ++ (session, id) ∷ []))) none (lock_put fresh id (ap (list_any (is_waiter (session, id))) none) f))
    lock_shows name fresh (op.Unlock id) = either_shows (list_any (is_waiter (session, id)) ws) _ _ (λ _ f. lock_drop id) (λ _ f. lock_same)
    lock_shows name fresh op.Holder = λ f. lock_same
    lock_shows name fresh op.Size = λ f. lock_same
    lock_shows name fresh _ = tt

  shows_on : (name : List ℕ) (plain : Plain) → Shows m c plain → Fresh → (o : Op) → RowShows (row (call name) plain o)
  shows_on name (Value_is cur) s fresh o = value_shows name cur s o
  shows_on name (Counter_is number) s fresh o = counter_shows name number s o
  shows_on name (Map_is pairs) s fresh o = map_shows name pairs s o
  shows_on name (Multimap_is pairs) s fresh o = multimap_shows name pairs s o
  shows_on name (Set_is words) s fresh o = set_shows name words s o
  shows_on name (Queue_is items) s fresh o = queue_shows items s name fresh o
  shows_on name (Lock_is ws) s fresh o = lock_shows ws s name fresh o
  shows_on name (Group_is ms ls) s fresh o = group_shows ms ls s name fresh o
  shows_on name (Topic_is ls) s fresh o = topic_shows name ls s o

pub rows_shown : RowsShow
rows_shown c m i time session seq name plain next op effect reply told s fresh e f = subst (RowShows c m i time session seq) e (shows_on c m i time session seq name plain s fresh op) f
