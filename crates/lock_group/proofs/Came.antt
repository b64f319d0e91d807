-- The waiters one after the other as they came, by the indexes that hold their cells.
use Rattle.std.proofs.Common.{◌≡◌, ℕ, ◌+◌, ◌<◌, ◌≤◌, ◌==◌, Bool, true, false, cond, not, T, List, [], ◌∷◌, length, Option, Some, None, is_some, nat_lt, refl, sym, ap, subst, ◌∙◌, eq-eqb, arith, Less, Equal, Greater}
use Rattle.std.proofs.lemmas.Bool.Decides.{nat_tests}
use Rattle.std.specs.Prelude.{IfSome, IfNone}
use Rattle.std.specs.List.{list_any}
use Rattle.std.specs.Ordering.{nat_cmp, eq_by_cmp, is_eq, is_lt}
use Rattle.std.specs.Cmp.{nat_cmp_total}
use Rattle.std.specs.FinMap.{find, is_sorted, nat_cmp-IsAntisymmetric}
use Rattle.std.specs.FinMap.Entries.{put, below_all, where_key, find-where_key, is_sorted-where_key, is_sorted-put, find-put, same_entries}
use Rattle.host_types.specs.declared.entry.Cell.{Cell}
use Rattle.host_types.specs.declared.entry.Cell.TheVariants.{One, Named, Member, Pair, At, Waiter, Of}
use Rattle.host_types.specs.declared.entry.Event.{Event}
use Rattle.host_types.specs.declared.entry.Event.TheVariants.{Granted}
use Rattle.host_types.specs.declared.entry.Kind.{Kind}
use Rattle.host_types.specs.declared.entry.Kind.TheVariants.{Lock}
use Rattle.host_types.specs.Cells.{Place, Cell_at, Held, Cells, is_of_kind, at}
use Rattle.log_model.specs.plain.Plain.{head_of}
use Rattle.log_model.specs.plain.Rows.{is_waiter, is_holder, granted}
use Rattle.log_model.specs.kinds.Reading.{pick_in, values, waiter_cell}
use Rattle.log_model.proofs.Lookups.{T_from}
use Rattle.log_model.proofs.kinds.Gather.{each_cell, weaker_cell, none_some, put_below, and_T}
use Rattle.log_model.proofs.kinds.Waiting.{queued, there, WaitApart, sorted_queued, queued_waits, waits_queued, has_waiter, as_many_waiters}
use Rattle.cell_table.specs.Arrivals.{is_waiter as is_waiting}
use Rattle.cell_table.specs.Lookups.{IsFirstWaiter, AreInOrder, found}
use Rattle.cell_table.specs.declared.table.Standing.{Standing}
use Rattle.lock_group.specs.Waiters.{waiters_in, waiter_in, waiter_found, leaves, staying, left_by}
use Rattle.lock_group.specs.declared.lock.Leaving.{Leaving}

abbrev Queued : Type 0
Queued = List (ℕ × (ℕ × ℕ))

-- those from an index on
abbrev pub from_on : ℕ → Queued → Queued
from_on from ws = where_key nat_cmp (λ k. not (nat_lt k from)) ws

alike : (from q : ℕ) (x : ℕ) → nat_cmp q x ≡ Equal → not (nat_lt x from) ≡ not (nat_lt q from)
alike from q x e = ap (λ n. not (nat_lt n from)) (sym (nat_cmp-IsAntisymmetric q x e))

find_on : (from k : ℕ) (ws : Queued) → find nat_cmp k (from_on from ws) ≡ cond (not (nat_lt k from)) (find nat_cmp k ws) None
find_on from k ws = find-where_key nat_cmp (λ k. not (nat_lt k from)) k (alike from k) ws

below_on : (i : ℕ) (ws : Queued) → T (below_all nat_cmp i (from_on (i + 1) ws))
below_on i [] = tt
below_on i (e ∷ ws) = go (nat_lt e.0 (i + 1)) refl (below_on i ws)
  where
    less : nat_lt e.0 (i + 1) ≡ false → (t : Bool) → nat_lt i e.0 ≡ t → (u : Bool) → T (is_lt (cond t Less (cond u Equal Greater)))
    less above true t u = tt
    less above false t u = absurd (let low : i < e.0 = grind (arith, nat_tests, above) in let no : ⊥ = grind (arith, nat_tests, t, low) in no)

    go : (b : Bool) → nat_lt e.0 (i + 1) ≡ b → T (below_all nat_cmp i (from_on (i + 1) ws)) → T (below_all nat_cmp i (cond (not b) (e ∷ from_on (i + 1) ws) (from_on (i + 1) ws)))
    go true t rest = rest
    go false t rest = and_T (is_lt (nat_cmp i e.0)) _ (less t (nat_lt i e.0) refl (i == e.0)) rest

-- the first from an index on, and those above it
module _ (from i : ℕ) (w : ℕ × ℕ) (ws : Queued) (stands : find nat_cmp i ws ≡ Some w) (up : from ≤ i) (least : (j : ℕ) (v : ℕ × ℕ) → find nat_cmp j ws ≡ Some v → from ≤ j → i ≤ j) (k : ℕ) where
  at_it : (k == i) ≡ true → find nat_cmp k ws ≡ Some w
  at_it u = let is : k ≡ i = grind (arith, nat_tests, u) in ap (λ n. find nat_cmp n ws) is ∙ stands

  none_between : nat_lt k i ≡ true → nat_lt k from ≡ false → (o : Option (ℕ × ℕ)) → find nat_cmp k ws ≡ o → o ≡ None
  none_between t a None f = refl
  none_between t a (Some v) f = let high : i ≤ k = least k v f (grind (arith, nat_tests, a)) in absurd (let no : ⊥ = grind (arith, nat_tests, t, high) in no)

  found_on : (t : Bool) → nat_lt k i ≡ t → (u : Bool) → (k == i) ≡ u → (a : Bool) → nat_lt k from ≡ a → (b : Bool) → nat_lt k (i + 1) ≡ b
      → cond (not a) (find nat_cmp k ws) None ≡ cond (is_eq (cond t Less (cond u Equal Greater))) (Some w) (cond (not b) (find nat_cmp k ws) None)
  found_on true t u v true a true b = refl
  found_on true t u v true a false b = absurd (let no : ⊥ = grind (arith, nat_tests, t, b) in no)
  found_on true t u v false a true b = none_between t a (find nat_cmp k ws) refl
  found_on true t u v false a false b = absurd (let no : ⊥ = grind (arith, nat_tests, t, b) in no)
  found_on false t true v true a b c = absurd (let no : ⊥ = grind (arith, nat_tests, v, a, up) in no)
  found_on false t true v false a b c = at_it v
  found_on false t false v true a b c = absurd (let no : ⊥ = grind (arith, nat_tests, t, a, up) in no)
  found_on false t false v false a true b = absurd (let no : ⊥ = grind (arith, nat_tests, t, v, b) in no)
  found_on false t false v false a false b = refl

first_on : (from i : ℕ) (w : ℕ × ℕ) (ws : Queued) → T (is_sorted nat_cmp ws) → find nat_cmp i ws ≡ Some w → from ≤ i → ((j : ℕ) (v : ℕ × ℕ) → find nat_cmp j ws ≡ Some v → from ≤ j → i ≤ j) → from_on from ws ≡ (i, w) ∷ from_on (i + 1) ws
first_on from i w ws s stands up least =
    same_entries nat_cmp nat_cmp_total nat_cmp-IsAntisymmetric (from_on from ws) (put nat_cmp i w (from_on (i + 1) ws)) (is_sorted-where_key nat_cmp (λ k. not (nat_lt k from)) ws s) (is_sorted-put nat_cmp nat_cmp_total i w (from_on (i + 1) ws) (is_sorted-where_key nat_cmp (λ k. not (nat_lt k (i + 1))) ws s)) each
    ∙ put_below nat_cmp i w (from_on (i + 1) ws) (below_on i ws)
  where
    each : (k : ℕ) → find nat_cmp k (from_on from ws) ≡ find nat_cmp k (put nat_cmp i w (from_on (i + 1) ws))
    each k =
        find_on from k ws ∙ found_on from i w ws stands up least k (nat_lt k i) refl (k == i) refl (nat_lt k from) refl (nat_lt k (i + 1)) refl
        ∙ sym (find-put nat_cmp nat_cmp_total k i w (from_on (i + 1) ws) ∙ ap (λ o. cond (eq_by_cmp nat_cmp k i) (Some w) o) (find_on (i + 1) k ws))

none_on : (from : ℕ) (ws : Queued) → T (is_sorted nat_cmp ws) → ((j : ℕ) (v : ℕ × ℕ) → find nat_cmp j ws ≡ Some v → j < from) → from_on from ws ≡ []
none_on from ws s low = same_entries nat_cmp nat_cmp_total nat_cmp-IsAntisymmetric (from_on from ws) [] (is_sorted-where_key nat_cmp (λ k. not (nat_lt k from)) ws s) tt (λ k. find_on from k ws ∙ go k (nat_lt k from) refl (find nat_cmp k ws) refl)
  where
    go : (k : ℕ) (a : Bool) → nat_lt k from ≡ a → (o : Option (ℕ × ℕ)) → find nat_cmp k ws ≡ o → cond (not a) o None ≡ None
    go k true t o f = refl
    go k false t None f = refl
    go k false t (Some v) f = let is : k < from = low k v f in absurd (let no : ⊥ = grind (arith, nat_tests, t, is) in no)

all_on : (ws : Queued) → from_on 0 ws ≡ ws
all_on [] = refl
all_on (e ∷ ws) = go (nat_lt e.0 0) refl (all_on ws)
  where
    go : (b : Bool) → nat_lt e.0 0 ≡ b → from_on 0 ws ≡ ws → cond (not b) (e ∷ from_on 0 ws) (from_on 0 ws) ≡ e ∷ ws
    go true t rest = absurd (let no : ⊥ = grind (arith, nat_tests, t) in no)
    go false t rest = ap (λ (l : Queued). e ∷ l) rest

-- ---- as the table finds them

abbrev pub waiter_or : Option (ℕ × ℕ) → ℕ × ℕ
waiter_or None = (0, 0)
waiter_or (Some w) = w

-- the waiter that was found with those behind it, or none
abbrev pub and_behind : ℕ → Cells → Option (Cell × Held) → Queued
and_behind m c None = []
and_behind m c (Some x) = (x.1.index, waiter_or (waiter_in x.0)) ∷ from_on (x.1.index + 1) (queued m c)

waiting_cell : (cell : Cell) → is_waiting cell ≡ true → cell ≡ Waiter (waiter_or (waiter_in cell)).0 (waiter_or (waiter_in cell)).1
waiting_cell (Waiter a b) e = refl
waiting_cell One e = absurd (cc)
waiting_cell (Named key) e = absurd (cc)
waiting_cell (Member word) e = absurd (cc)
waiting_cell (Pair key word) e = absurd (cc)
waiting_cell (At i) e = absurd (cc)
waiting_cell (Of a) e = absurd (cc)

pub wait_apart : (kind : Kind) (m : ℕ) (c : Cells) → AreInOrder kind m c → WaitApart m c
wait_apart kind m c order v w h g a b same =
    let is : Waiter v.0 v.1 ≡ Waiter w.0 w.1 = order.apart (Waiter v.0 v.1) (Waiter w.0 w.1) h g refl refl a b same in
    λ j. waiter_or (waiter_in (is j))

pub first_came : (kind : Kind) (m : ℕ) (c : Cells) → AreInOrder kind m c → (from : ℕ) (o : Option (Cell × Held)) → IfSome o (λ x. IsFirstWaiter m c from x.0 x.1)
    → IfNone o ((d : Cell) (h : Held) → is_waiting d ≡ true → at c (Cell_at m d) ≡ Some h → h.index < from) → from_on from (queued m c) ≡ and_behind m c o
first_came kind m c order from None some none = none_on from (queued m c) (sorted_queued m c) low
  where
    low : (j : ℕ) (v : ℕ × ℕ) → find nat_cmp j (queued m c) ≡ Some v → j < from
    low j v f = let r = queued_waits m c (T_from _ order.rise) j v f in let is : r.0.index < from = none (Waiter v.0 v.1) r.0 refl r.1 in subst (λ n. n < from) r.2 is
first_came kind m c order from (Some x) some none =
    first_on from x.1.index w (queued m c) (sorted_queued m c) (waits_queued m c (T_from _ order.rise) (wait_apart kind m c order) w x.1 here) some.not_before least
  where
    w : ℕ × ℕ
    w = waiter_or (waiter_in x.0)

    here : there m c w ≡ Some x.1
    here = ap (λ (d : Cell). at c (Cell_at m d)) (sym (waiting_cell x.0 some.waits)) ∙ some.there

    least : (j : ℕ) (v : ℕ × ℕ) → find nat_cmp j (queued m c) ≡ Some v → from ≤ j → x.1.index ≤ j
    least j v f up =
        let r = queued_waits m c (T_from _ order.rise) j v f in
        let low : from ≤ r.0.index = subst (λ n. from ≤ n) (sym r.2) up in
        subst (λ n. x.1.index ≤ n) r.2 (some.least (Waiter v.0 v.1) r.0 refl r.1 low)

pub came_first : (kind : Kind) (m : ℕ) (c : Cells) → AreInOrder kind m c → (o : Option (Cell × Held)) → IfSome o (λ x. IsFirstWaiter m c 0 x.0 x.1)
    → IfNone o ((d : Cell) (h : Held) → is_waiting d ≡ true → at c (Cell_at m d) ≡ Some h → h.index < 0) → queued m c ≡ and_behind m c o
came_first kind m c order o some none = sym (all_on (queued m c)) ∙ first_came kind m c order 0 o some none

-- ---- who holds the lock

pub holder_found : (kind : Kind) (m : ℕ) (c : Cells) → AreInOrder kind m c → (o : Option (Cell × Held)) → IfSome o (λ x. IsFirstWaiter m c 0 x.0 x.1)
    → IfNone o ((d : Cell) (h : Held) → is_waiting d ≡ true → at c (Cell_at m d) ≡ Some h → h.index < 0) → waiter_found o ≡ head_of (waiters_in m c)
holder_found kind m c order o some none = go o some ∙ sym (ap (λ (ws : Queued). head_of (values ws)) (came_first kind m c order o some none))
  where
    go : (o : Option (Cell × Held)) → IfSome o (λ x. IsFirstWaiter m c 0 x.0 x.1) → waiter_found o ≡ head_of (values (and_behind m c o))
    go None some = refl
    go (Some x) some = ap waiter_in (waiting_cell x.0 some.waits)

pub who_waits : (kind : Kind) (m : ℕ) (c : Cells) → AreInOrder kind m c → (session id : ℕ) → list_any (is_waiter (session, id)) (waiters_in m c) ≡ is_some (at c (Cell_at m (Waiter session id)))
who_waits kind m c order session id = has_waiter m c (T_from _ order.rise) (wait_apart kind m c order) (session, id)

of_lock : (cell : Cell) (held : Held) → is_of_kind Lock cell held.content ≡ true → is_some (waiter_cell cell held) ≡ true
of_lock (Waiter a b) held e = refl
of_lock One held e = absurd (cc)
of_lock (Named key) held e = absurd (cc)
of_lock (Member word) held e = absurd (cc)
of_lock (Pair key word) held e = absurd (cc)
of_lock (At i) held e = absurd (cc)
of_lock (Of session) held e = absurd (cc)

pub lock_size : (kind : Kind) (m : ℕ) (c : Cells) → kind ≡ Lock → AreInOrder kind m c → length (waiters_in m c) ≡ length c
lock_size kind m c lock order =
    many_values (queued m c)
    ∙ as_many_waiters m c (T_from _ order.rise) (wait_apart kind m c order) (weaker_cell (λ e. at c e.0 ≡ Some e.1) (λ e. is_some (pick_in m waiter_cell e) ≡ true) each c (each_cell c (T_from _ order.rise)))
  where
    many_values : (ws : Queued) → length (values ws) ≡ length ws
    many_values [] = refl
    many_values (w ∷ ws) = omega (arith, many_values ws)

    each : (e : Place × Held) → at c e.0 ≡ Some e.1 → is_some (pick_in m waiter_cell e) ≡ true
    each e there =
        let own = order.own e.0 e.1 there in
        ap (λ p. is_some (pick_in m waiter_cell (p, e.1))) own.1
        ∙ ap (λ b. is_some (cond b (waiter_cell own.0 e.1) None)) (eq-eqb m m refl)
        ∙ of_lock own.0 e.1 (ap (λ k. is_of_kind k own.0 e.1.content) (sym lock) ∙ own.2)

-- ---- who holds it where some leave

-- the first that stays is among those that are still to be looked at
abbrev pub IsSought : ℕ → Cells → Leaving → Option (Cell × Held) → Type 0
IsSought m c l next = head_of (left_by l (values (and_behind m c next))) ≡ head_of (left_by l (waiters_in m c))

pub sought_first : (kind : Kind) (m : ℕ) (c : Cells) (l : Leaving) → AreInOrder kind m c → (o : Option (Cell × Held)) → IfSome o (λ x. IsFirstWaiter m c 0 x.0 x.1)
    → IfNone o ((d : Cell) (h : Held) → is_waiting d ≡ true → at c (Cell_at m d) ≡ Some h → h.index < 0) → IsSought m c l o
sought_first kind m c l order o some none = ap (λ (ws : Queued). head_of (left_by l (values ws))) (sym (came_first kind m c order o some none))

abbrev pub IsWaiting : Option (Cell × Held) → Type 0
IsWaiting o = IfSome o (λ x. is_waiting x.0 ≡ true)

pub waiting_found : (m : ℕ) (c : Cells) (from : ℕ) (o : Option (Cell × Held)) → IfSome o (λ x. IsFirstWaiter m c from x.0 x.1) → IsWaiting o
waiting_found m c from None some = tt
waiting_found m c from (Some x) some = some.waits

pub found_none : (P : Type 0) (r : Option Standing) → IfNone r P → IfNone (found r) P
found_none P None none = none
found_none P (Some s) none = tt

module _ (m : ℕ) (c : Cells) (l : Leaving) (cell : Cell) (held : Held) (waits : is_waiting cell ≡ true) where
  who : ℕ × ℕ
  who = waiter_or (waiter_in cell)

  is_who : waiter_in cell ≡ Some who
  unfolding who
  is_who = ap waiter_in (waiting_cell cell waits)

  pub sought_on : (next : Option (Cell × Held)) → staying l (waiter_in cell) ≡ None → from_on (held.index + 1) (queued m c) ≡ and_behind m c next → IsSought m c l (Some (cell, held)) → IsSought m c l next
  unfolding who
  sought_on next goes behind so_far =
      ap (λ (ws : Queued). head_of (left_by l (values ws))) (sym behind)
      ∙ sym (go (leaves l who) (sym (ap (staying l) is_who) ∙ goes) (left_by l (values (from_on (held.index + 1) (queued m c)))))
      ∙ so_far
    where
      go : (b : Bool) → cond b None (Some who) ≡ None → (rest : List (ℕ × ℕ)) → head_of (cond (not b) (who ∷ rest) rest) ≡ head_of rest
      go true e rest = refl
      go false e rest = absurd (none_some (sym e))

  pub sought_here : (w : ℕ × ℕ) → staying l (waiter_in cell) ≡ Some w → IsSought m c l (Some (cell, held)) → Some w ≡ head_of (left_by l (waiters_in m c))
  unfolding who
  sought_here w stays so_far = sym (go (leaves l who) (sym (ap (staying l) is_who) ∙ stays) (left_by l (values (from_on (held.index + 1) (queued m c))))) ∙ so_far
    where
      go : (b : Bool) → cond b None (Some who) ≡ Some w → (rest : List (ℕ × ℕ)) → head_of (cond (not b) (who ∷ rest) rest) ≡ Some w
      go true e rest = absurd (none_some e)
      go false e rest = e

pub one_fewer : (m : ℕ) (c : Cells) (cell : Cell) (held : Held) (next : Option (Cell × Held)) → from_on (held.index + 1) (queued m c) ≡ and_behind m c next → length (and_behind m c next) < length (and_behind m c (Some (cell, held)))
one_fewer m c cell held next behind = subst (λ (ws : Queued). length ws < length (and_behind m c (Some (cell, held)))) behind (omega arith)

-- ---- what that tells

abbrev pub granted_to : List ℕ → List (ℕ × ℕ) → Option (ℕ × ℕ) → List (ℕ × Event)
granted_to name before None = []
granted_to name before (Some w) = cond (is_holder w before) [] ((w.0, Granted name w.1) ∷ [])

pub granted_is : (name : List ℕ) (before after : List (ℕ × ℕ)) → granted_to name before (head_of after) ≡ granted name before after
granted_is name before [] = refl
granted_is name before (w ∷ ws) = refl
