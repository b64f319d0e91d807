-- What is read of each kind is what the cells show, and depends on its own cells alone. For `what_is_shown_is_read`, `own_cells_are_read`, `own_cells_decide`.
use Rattle.std.proofs.Common.{◌≡◌, ℕ, Bool, true, false, cond, ◌==◌, T, List, [], ◌∷◌, Option, None, refl, sym, ap, ◌∙◌, eqb-true, Ordering}
use Rattle.std.specs.FinMap.Entries.{is_sorted, where_key, find-where_key, is_sorted-where_key, same_entries}
use Rattle.std.specs.Ordering.{nat_cmp}
use Rattle.host_types.specs.declared.entry.Kind.{Kind}
use Rattle.host_types.specs.declared.entry.Kind.TheVariants.{Value, Counter, Map, Multimap, Set, Queue, Lock, Group, Topic}
use Rattle.host_types.specs.declared.entry.Cell.{Cell}
use Rattle.host_types.specs.declared.entry.Cell.TheVariants.{One}
use Rattle.host_types.specs.Cells.{Place, Name_at, Cell_at, Register_at, Alive_at, Held, text_cmp, place_cmp, Cells, at}
use Rattle.log_model.specs.plain.Plain.{Plain, Value_is, Counter_is, Map_is, Multimap_is, Set_is, Queue_is, Lock_is, Group_is, Topic_is, kind_of, pair_cmp}
use Rattle.log_model.specs.kinds.Shows.{Shows, number_of}
use Rattle.log_model.specs.kinds.Reading.{picked, gather, pick_in, keys, values, text_of, map_cell, pair_cell, word_cell, item_cell, waiter_cell, member_of, listener_cell, plain_in, DecidesByItsOwnCells}
use Rattle.log_model.specs.plain.Rows.{row, without_session}
use Rattle.log_model.specs.kinds.Deciding.{chosen, shown, call_of, effect_tells}
use Rattle.log_model.proofs.Lookups.{T_from}
use Rattle.host_types.proofs.Places.{place_total, exact_places}
use Rattle.log_model.proofs.kinds.Gather.{value_is_read, pairs_are, multimap_pairs_are, words_are, items_are, waiters_are, members_are, listeners_are}

pub reads : (m : ℕ) (c : Cells) (plain : Plain) → T (is_sorted place_cmp c) → Shows m c plain → plain_in (kind_of plain) m c ≡ plain
reads m c (Value_is cur) s shown = ap Value_is (value_is_read m c cur shown)
reads m c (Counter_is number) s shown = ap Counter_is shown
reads m c (Map_is pairs) s shown = ap Map_is (pairs_are m c pairs s shown.0 shown.1)
reads m c (Multimap_is pairs) s shown = ap Multimap_is (multimap_pairs_are m c pairs s shown.0 shown.1)
reads m c (Set_is words) s shown = ap Set_is (words_are m c words s shown.0 shown.1)
reads m c (Queue_is items) s shown = ap Queue_is (items_are m c items s shown.0 shown.1)
reads m c (Lock_is waiters) s shown = ap Lock_is (waiters_are m c waiters s shown.0 shown.1)
reads m c (Group_is members listeners) s shown = λ j. Group_is (members_are m c members s shown.0 shown.1 j) (listeners_are m c listeners s shown.2 j)
reads m c (Topic_is listeners) s shown = ap Topic_is (listeners_are m c listeners s shown)

-- what is read is of the kind
pub kind_read : (kind : Kind) (m : ℕ) (c : Cells) → kind_of (plain_in kind m c) ≡ kind
kind_read Value m c = refl
kind_read Counter m c = refl
kind_read Map m c = refl
kind_read Multimap m c = refl
kind_read Set m c = refl
kind_read Queue m c = refl
kind_read Lock m c = refl
kind_read Group m c = refl
kind_read Topic m c = refl

-- ---- the cells of one instance

abbrev is_place_of : ℕ → Place → Bool
is_place_of m (Cell_at other cell) = m == other
is_place_of m _ = false

abbrev own : ℕ → Cells → Cells
own m c = where_key place_cmp (is_place_of m) c

at_own : (m : ℕ) (c : Cells) (place : Place) → at (own m c) place ≡ cond (is_place_of m place) (at c place) None
at_own m c place = find-where_key place_cmp (is_place_of m) place (λ x e. ap (is_place_of m) (sym (exact_places place x e))) c

-- cells in order that agree on an instance have the same cells of it
own_same : (m : ℕ) (c d : Cells) → T (is_sorted place_cmp c) → T (is_sorted place_cmp d) → ((cell : Cell) → at d (Cell_at m cell) ≡ at c (Cell_at m cell)) → own m d ≡ own m c
own_same m c d s t same =
    same_entries place_cmp place_total exact_places (own m d) (own m c) (is_sorted-where_key place_cmp (is_place_of m) d t) (is_sorted-where_key place_cmp (is_place_of m) c s) (λ place. at_own m d place ∙ each place ∙ sym (at_own m c place))
  where
    each : (place : Place) → cond (is_place_of m place) (at d place) None ≡ cond (is_place_of m place) (at c place) None
    each (Cell_at other cell) = elim (m == other) as (λ b. (m == other) ≡ b → cond b (at d (Cell_at other cell)) None ≡ cond b (at c (Cell_at other cell)) None) [
      | true ↦ λ e. (λ j. at d (Cell_at (sym (eqb-true m other e) j) cell)) ∙ same cell ∙ (λ j. at c (Cell_at (eqb-true m other e j) cell))
      | false ↦ λ e. refl
    ] refl
    each (Name_at name) = refl
    each (Register_at session) = refl
    each (Alive_at session) = refl

module _ {K X : Type 0} (R : K → K → Ordering) (m : ℕ) (pick : Cell → Held → Option (K × X)) where
  -- the other cells aren't picked
  gather_own : (c : Cells) → gather R (pick_in m pick) (own m c) ≡ gather R (pick_in m pick) c
  gather_own [] = refl
  gather_own ((Cell_at other cell, held) ∷ c) =
      elim (m == other) as (λ b. (m == other) ≡ b → gather R (pick_in m pick) (cond b ((Cell_at other cell, held) ∷ own m c) (own m c)) ≡ picked R (cond b (pick cell held) None) (gather R (pick_in m pick) c)) [
        | true ↦ λ e. (λ j. picked R (cond (e j) (pick cell held) None) (gather_own c j))
        | false ↦ λ e. gather_own c
      ] refl
  gather_own ((Name_at name, held) ∷ c) = gather_own c
  gather_own ((Register_at session, held) ∷ c) = gather_own c
  gather_own ((Alive_at session, held) ∷ c) = gather_own c

  gather_same : (c d : Cells) → own m d ≡ own m c → gather R (pick_in m pick) d ≡ gather R (pick_in m pick) c
  gather_same c d same = sym (gather_own d) ∙ ap (gather R (pick_in m pick)) same ∙ gather_own c

pub reads_own : (kind : Kind) (m : ℕ) (c d : Cells) → T (is_sorted place_cmp c) → T (is_sorted place_cmp d) → ((cell : Cell) → at d (Cell_at m cell) ≡ at c (Cell_at m cell)) → plain_in kind m d ≡ plain_in kind m c
reads_own kind m c d s t same = go kind
  where
    both : own m d ≡ own m c
    both = own_same m c d s t same

    go : (kind : Kind) → plain_in kind m d ≡ plain_in kind m c
    go Value = ap (λ (o : Option Held). Value_is (text_of (Rattle.std.specs.Option.option_map (λ (h : Held). h.content) o))) (same One)
    go Counter = ap (λ (o : Option Held). Counter_is (number_of (Rattle.std.specs.Option.option_map (λ (h : Held). h.content) o))) (same One)
    go Map = ap Map_is (gather_same text_cmp m map_cell c d both)
    go Multimap = ap (λ (es : List ((List ℕ × List ℕ) × Unit {0})). Multimap_is (keys es)) (gather_same pair_cmp m pair_cell c d both)
    go Set = ap (λ (es : List (List ℕ × Unit {0})). Set_is (keys es)) (gather_same text_cmp m word_cell c d both)
    go Queue = ap Queue_is (gather_same nat_cmp m item_cell c d both)
    go Lock = ap (λ (es : List (ℕ × (ℕ × ℕ))). Lock_is (values es)) (gather_same nat_cmp m waiter_cell c d both)
    go Group = λ j. Group_is (values (gather_same nat_cmp m member_of c d both j)) (keys (gather_same nat_cmp m listener_cell c d both j))
    go Topic = ap (λ (es : List (ℕ × Unit {0})). Topic_is (keys es)) (gather_same nat_cmp m listener_cell c d both)

pub decides_own : DecidesByItsOwnCells
decides_own kind m c d s t same =
    let read : plain_in kind m d ≡ plain_in kind m c = reads_own kind m c d (T_from _ s) (T_from _ t) same in
    record {
      resolves = λ op session index. ap (λ p. chosen (kind_of p) (row (call_of [] m session index) p op)) read;
      looks = λ op. ap (λ p. shown (kind_of p) (row (call_of [] m 0 0) p op)) read;
      tells = λ name effect index. ap (λ p. effect_tells index name p effect) read;
      tells_close = λ name session. ap (λ p. (without_session name session p).1) read;
    }
