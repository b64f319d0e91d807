-- The first word of a queue, and the first of those that are looked for, as the cells are walked.
use Rattle.std.proofs.Common.{◌≡◌, ℕ, ◌==◌, Bool, true, false, cond, T, List, [], ◌∷◌, length, Option, Some, None, is_some, refl, sym, ap, subst, ◌∙◌, eq-eqb}
use Rattle.std.specs.List.{filter, find as find_first}
use Rattle.std.specs.Option.{option_map}
use Rattle.std.specs.FinMap.Entries.{is_sorted}
use Rattle.host_types.specs.declared.entry.Cell.{Cell}
use Rattle.host_types.specs.declared.entry.Cell.TheVariants.{One, Named, Member, Pair, At, Waiter, Of}
use Rattle.host_types.specs.declared.entry.Content.{Content}
use Rattle.host_types.specs.declared.entry.Content.TheVariants.{Mark, Text, Number}
use Rattle.host_types.specs.declared.entry.Kind.{Kind}
use Rattle.host_types.specs.declared.entry.Kind.TheVariants.{Queue}
use Rattle.host_types.specs.Cells.{Place, Held, Cells, is_of_kind, is_text, at, place_cmp}
use Rattle.log_model.specs.plain.Plain.{head_of}
use Rattle.log_model.specs.kinds.Reading.{pick_in, item_cell, listed, picked_first, keyed_by, text_in}
use Rattle.log_model.proofs.Lookups.{T_from}
use Rattle.log_model.proofs.kinds.Gather.{EachCell}
use Rattle.log_model.proofs.kinds.Listings.{AreOf, each_picked, keyed_some, items_from, as_many_items}
use Rattle.cell_table.specs.Lookups.{and_above, cells_from, cells_above, AreInOrder}
use Rattle.queue_topic.specs.Items.{items_in, item_found, with_word}

-- ---- each cell of a queue has a word

with_text : (i : ℕ) (content : Content) → is_of_kind Queue (At i) content ≡ true → is_some (text_in content) ≡ true
with_text i (Text word) e = refl
with_text i Mark e = absurd (cc)
with_text i (Number n) e = absurd (cc)

of_queue : (cell : Cell) (held : Held) → is_of_kind Queue cell held.content ≡ true → is_some (item_cell cell held) ≡ true
of_queue (At i) held e = keyed_some i (text_in held.content) (with_text i held.content e)
of_queue One held e = absurd (cc)
of_queue (Named key) held e = absurd (cc)
of_queue (Member word) held e = absurd (cc)
of_queue (Pair key word) held e = absurd (cc)
of_queue (Waiter a b) held e = absurd (cc)
of_queue (Of session) held e = absurd (cc)

abbrev HasItem : ℕ → Place × Held → Type 0
HasItem m e = is_some (pick_in m item_cell e) ≡ true

queue_cells : (kind : Kind) (m : ℕ) (c : Cells) → kind ≡ Queue → AreInOrder kind m c → EachCell (HasItem m) c
queue_cells kind m c queue order = each_picked Queue m item_cell of_queue c order.rise (subst (λ k. AreOf k m c) queue order.own)

pub queue_size : (kind : Kind) (m : ℕ) (c : Cells) → kind ≡ Queue → AreInOrder kind m c → length (items_in m c) ≡ length c
queue_size kind m c queue order = as_many_items m c (T_from _ order.rise) (queue_cells kind m c queue order)

-- ---- the first word

each_kept : (P : Place × Held → Type 0) (q : Place × Held → Bool) (c : Cells) → EachCell P c → EachCell P (filter q c)
each_kept P q [] h = tt
each_kept P q (e ∷ c) h = let rest = each_kept P q c h.1 in elim (q e) as (λ b. EachCell P (cond b (e ∷ filter q c) (filter q c))) [ true ↦ (h.0, rest) | false ↦ rest ]

pub first_found : (kind : Kind) (m : ℕ) (c : Cells) (first : Option (Cell × Held)) → kind ≡ Queue → AreInOrder kind m c → cells_from m (At 0) c ≡ and_above m c first → item_found first ≡ head_of (items_in m c)
first_found kind m c first queue order from =
    go first (subst (EachCell (HasItem m)) from (each_kept (HasItem m) _ c (queue_cells kind m c queue order)))
    ∙ ap (λ (d : Cells). head_of (listed (pick_in m item_cell) d)) (sym from)
    ∙ ap head_of (items_from m c (T_from _ order.rise))
  where
    head_picked : (o : Option (ℕ × List ℕ)) (rest : List (ℕ × List ℕ)) → is_some o ≡ true → o ≡ head_of (picked_first o rest)
    head_picked None rest e = absurd (cc)
    head_picked (Some x) rest e = refl

    go : (first : Option (Cell × Held)) → EachCell (HasItem m) (and_above m c first) → item_found first ≡ head_of (listed (pick_in m item_cell) (and_above m c first))
    go None h = refl
    go (Some x) h =
        let here : cond (m == m) (item_cell x.0 x.1) None ≡ item_cell x.0 x.1 = ap (λ b. cond b (item_cell x.0 x.1) None) (eq-eqb m m refl) in
        sym here ∙ head_picked (cond (m == m) (item_cell x.0 x.1) None) (listed (pick_in m item_cell) (cells_above m x.0 c)) h.0

-- ---- the first such word

abbrev pub first_with : List ℕ → List (ℕ × List ℕ) → Option ℕ
first_with word items = option_map (λ x. x.0) (find_first (λ x. is_text word x.1) items)

-- it is among the cells that are still to be looked at
abbrev pub IsSearched : ℕ → Cells → List ℕ → Option (Cell × Held) → Type 0
IsSearched m c word next = first_with word (listed (pick_in m item_cell) (and_above m c next)) ≡ first_with word (items_in m c)

pub searched_first : (m : ℕ) (c : Cells) (word : List ℕ) (first : Option (Cell × Held)) → T (is_sorted place_cmp c) → cells_from m (At 0) c ≡ and_above m c first → IsSearched m c word first
searched_first m c word first s from = ap (λ (d : Cells). first_with word (listed (pick_in m item_cell) d)) (sym from) ∙ ap (first_with word) (items_from m c s)

abbrev or_else : Option ℕ → Option ℕ → Option ℕ
or_else None rest = rest
or_else (Some i) rest = Some i

first_picked : (word : List ℕ) (o : Option (ℕ × List ℕ)) (rest : List (ℕ × List ℕ)) → first_with word (picked_first o rest) ≡ or_else (with_word word o) (first_with word rest)
first_picked word None rest = refl
first_picked word (Some x) rest = elim (is_text word x.1) as (λ b. option_map (λ x. x.0) (cond b (Some x) (find_first (λ x. is_text word x.1) rest)) ≡ or_else (cond b (Some x.0) None) (first_with word rest)) [ true ↦ refl | false ↦ refl ]

module _ (m : ℕ) (c : Cells) (word : List ℕ) (cell : Cell) (held : Held) where
  here : first_with word (listed (pick_in m item_cell) (and_above m c (Some (cell, held)))) ≡ or_else (with_word word (item_cell cell held)) (first_with word (listed (pick_in m item_cell) (cells_above m cell c)))
  here =
      ap (λ b. first_with word (picked_first (cond b (item_cell cell held) None) (listed (pick_in m item_cell) (cells_above m cell c)))) (eq-eqb m m refl)
      ∙ first_picked word (item_cell cell held) (listed (pick_in m item_cell) (cells_above m cell c))

  pub searched_on : (next : Option (Cell × Held)) → with_word word (item_cell cell held) ≡ None → cells_above m cell c ≡ and_above m c next → IsSearched m c word (Some (cell, held)) → IsSearched m c word next
  searched_on next none above so_far =
      ap (λ (d : Cells). first_with word (listed (pick_in m item_cell) d)) (sym above)
      ∙ ap (λ o. or_else o (first_with word (listed (pick_in m item_cell) (cells_above m cell c)))) (sym none)
      ∙ sym here ∙ so_far

  pub searched_there : (i : ℕ) → with_word word (item_cell cell held) ≡ Some i → IsSearched m c word (Some (cell, held)) → Some i ≡ first_with word (items_in m c)
  searched_there i some so_far = ap (λ o. or_else o (first_with word (listed (pick_in m item_cell) (cells_above m cell c)))) (sym some) ∙ sym here ∙ so_far
