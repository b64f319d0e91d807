-- What is told, listener by listener, as the cells are walked.
use Rattle.std.proofs.Common.{◌≡◌, ℕ, ◌<◌, ◌==◌, Bool, true, false, cond, T, List, [], ◌∷◌, ◌++◌, length, Option, Some, None, is_some, refl, sym, ap, subst, ◌∙◌, eq-eqb, arith}
use Rattle.std.specs.Option.{option_map}
use Rattle.host_types.specs.declared.entry.Cell.{Cell}
use Rattle.host_types.specs.declared.entry.Cell.TheVariants.{One, Named, Member, Pair, At, Waiter, Of}
use Rattle.host_types.specs.declared.entry.Kind.{Kind}
use Rattle.host_types.specs.declared.entry.Kind.TheVariants.{Topic}
use Rattle.host_types.specs.declared.entry.Event.{Event}
use Rattle.host_types.specs.Cells.{Place, Held, Cells, is_of_kind, at, place_cmp}
use Rattle.std.specs.FinMap.Entries.{is_sorted}
use Rattle.log_model.specs.plain.Rows.{tells_all}
use Rattle.log_model.specs.kinds.Reading.{pick_in, listener_cell, listeners_in, listed, picked_first, keys}
use Rattle.log_model.proofs.Lookups.{T_from}
use Rattle.log_model.proofs.kinds.Listings.{AreOf, each_picked, listening, listeners_from, as_many_listeners}
use Rattle.cell_table.specs.Lookups.{and_above, cells_from, cells_above, AreInOrder}

-- the events for those who listen by these cells
abbrev pub told_of : ℕ → Event → Cells → List (ℕ × Event)
told_of m event cells = tells_all (listening m cells) event

-- told so far, with what is still to be told
abbrev pub IsToldFrom : ℕ → Cells → Event → List (ℕ × Event) → Option (Cell × Held) → Type 0
IsToldFrom m cells event told next = told ++ told_of m event (and_above m cells next) ≡ tells_all (listeners_in m cells) event

none_left : {A : Type 0} (xs : List A) → xs ++ [] ≡ xs
none_left [] = refl
none_left (x ∷ xs) = ap (λ l. x ∷ l) (none_left xs)

one_more : {A : Type 0} (xs : List A) (x : A) (ys : List A) → (xs ++ x ∷ []) ++ ys ≡ xs ++ x ∷ ys
one_more [] x ys = refl
one_more (y ∷ xs) x ys = ap (λ l. y ∷ l) (one_more xs x ys)

pub told_first : (m : ℕ) (c : Cells) (event : Event) (first : Option (Cell × Held)) → T (is_sorted place_cmp c) → cells_from m (Of 0) c ≡ and_above m c first → IsToldFrom m c event [] first
told_first m c event first s from = ap (told_of m event) (sym from) ∙ ap (λ ls. tells_all ls event) (listeners_from m c s)

module _ (m : ℕ) (c : Cells) (event : Event) (told : List (ℕ × Event)) (held : Held) (next : Option (Cell × Held)) where
  pub told_one : (session : ℕ) → cells_above m (Of session) c ≡ and_above m c next → IsToldFrom m c event told (Some (Of session, held)) → IsToldFrom m c event (told ++ (session, event) ∷ []) next
  told_one session above so_far =
      one_more told (session, event) (told_of m event (and_above m c next))
      ∙ ap (λ (d : Cells). told ++ (session, event) ∷ told_of m event d) (sym above)
      ∙ ap (λ b. told ++ tells_all (keys (picked_first (cond b (Some (session, tt)) None) (listed (pick_in m listener_cell) (cells_above m (Of session) c)))) event) (sym (eq-eqb m m refl))
      ∙ so_far

  pub told_none : (cell : Cell) → listener_cell cell held ≡ None → cells_above m cell c ≡ and_above m c next → IsToldFrom m c event told (Some (cell, held)) → IsToldFrom m c event told next
  told_none cell none above so_far =
      ap (λ (d : Cells). told ++ told_of m event d) (sym above)
      ∙ ap (λ o. told ++ tells_all (keys (picked_first o (listed (pick_in m listener_cell) (cells_above m cell c)))) event) (sym (both (m == m) none))
      ∙ so_far
    where
      both : (b : Bool) → listener_cell cell held ≡ None → cond b (listener_cell cell held) None ≡ None
      both true none = none
      both false none = refl

pub told_all : (m : ℕ) (c : Cells) (event : Event) (told : List (ℕ × Event)) → IsToldFrom m c event told None → told ≡ tells_all (listeners_in m c) event
told_all m c event told so_far = sym (none_left told) ∙ so_far

pub one_fewer : (m : ℕ) (c : Cells) (cell : Cell) (held : Held) (next : Option (Cell × Held)) → cells_above m cell c ≡ and_above m c next → length (and_above m c next) < length (and_above m c (Some (cell, held)))
one_fewer m c cell held next above = subst (λ (d : Cells). length d < length (and_above m c (Some (cell, held)))) above (omega arith)

-- each cell of a topic is a listener's
of_topic : (cell : Cell) (held : Held) → is_of_kind Topic cell held.content ≡ true → is_some (listener_cell cell held) ≡ true
of_topic (Of session) held e = refl
of_topic One held e = absurd (cc)
of_topic (Named key) held e = absurd (cc)
of_topic (Member word) held e = absurd (cc)
of_topic (Pair key word) held e = absurd (cc)
of_topic (At i) held e = absurd (cc)
of_topic (Waiter a b) held e = absurd (cc)

pub topic_size : (kind : Kind) (m : ℕ) (c : Cells) → kind ≡ Topic → AreInOrder kind m c → length (listeners_in m c) ≡ length c
topic_size kind m c topic order = as_many_listeners m c (T_from _ order.rise) (each_picked Topic m listener_cell of_topic c order.rise (subst (λ k. AreOf k m c) topic order.own))
