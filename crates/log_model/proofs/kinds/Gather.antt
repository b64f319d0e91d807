-- Lists that are gathered of the cells: each key at its own place, and in the order of the cells; and what each kind reads where its cells show it. For
-- `what_is_shown_is_read`.
use Rattle.std.proofs.Common.{◌≡◌, ℕ, Bool, true, false, cond, ◌&&◌, ◌||◌, ◌==◌, T, List, [], ◌∷◌, Option, Some, None, is_some, refl, sym, ap, subst, ◌∙◌, eq-eqb, eqb-true, Ordering, length, suc, Less, Equal, Greater}
use Rattle.std.proofs.lemmas.Bool.{and_parts, and_from, or_left, or_right}
use Rattle.std.specs.List.{filter, list_any}
use Rattle.std.specs.Option.{option_map, option_map_or}
use Rattle.std.specs.FinMap.{find, is_sorted, IsAntisymmetric, nat_cmp-IsAntisymmetric}
use Rattle.std.specs.FinMap.Entries.{put, below_all, by_order, find-put, is_some-find, is_sorted-put, same_entries}
use Rattle.std.specs.Ordering.{nat_cmp, ordering_then, is_eq, is_lt, eq_by_cmp}
use Rattle.std.specs.Cmp.{IsTotalOrder, on_total, then_total, nat_cmp_total, tied_itself}
use Rattle.std.specs.Cmp.Lexicographic.{nat_list_cmp_total}
use Rattle.host_types.specs.declared.entry.Cell.{Cell}
use Rattle.host_types.specs.declared.entry.Cell.TheVariants.{One, Named, Member as Member_cell, Pair, At, Waiter, Of}
use Rattle.host_types.specs.declared.entry.Content.{Content}
use Rattle.host_types.specs.declared.entry.Content.TheVariants.{Text}
use Rattle.host_types.specs.Ranges.{owner_number}
use Rattle.host_types.specs.Cells.{Place, Name_at, Cell_at, Register_at, Alive_at, Held, text_cmp, cell_cmp, place_cmp, Cells, at, stands}
use Rattle.log_model.specs.plain.Plain.{Member, keyed, has_item, pair_cmp}
use Rattle.log_model.specs.plain.Rows.{is_waiter}
use Rattle.log_model.specs.kinds.Shows.{content_at, index_at, member_at, member_cell, by_index, by_holding, Listens}
use Rattle.log_model.specs.kinds.Reading.{picked, gather, pick_in, keys, values, text_in, text_of, keyed_by, map_cell, pair_cell, word_cell, item_cell, waiter_cell, member_in, member_of, listener_cell, listeners_in, picked_first, listed}
use Rattle.host_types.proofs.Places.{place_total, exact_places, exact_texts, tie}
use Rattle.log_model.proofs.Lookups.{T_from, tied_true, tied_same, below_missing, found_from_any, any_from_found}

pub clash : (b : Bool) → b ≡ true → b ≡ false → ⊥
clash true e f = absurd (cc)
clash false e f = absurd (cc)

pub none_some : {X : Type 0} {x : X} → None ≡ Some x → ⊥
none_some e = subst (λ o. T (is_none o)) e tt
  where
    is_none : {X : Type 0} → Option X → Bool
    is_none None = true
    is_none (Some x) = false

T_both : (a b : Bool) → T (a && b) → T a × T b
T_both true b h = (tt, h)
T_both false b h = absurd h

abbrev pub EachCell : (Place × Held → Type 0) → Cells → Type 0
EachCell P [] = Unit {0}
EachCell P (e ∷ c) = P e × EachCell P c

pub weaker_cell : (P Q : Place × Held → Type 0) → ((e : Place × Held) → P e → Q e) → (c : Cells) → EachCell P c → EachCell Q c
weaker_cell P Q f [] h = tt
weaker_cell P Q f (e ∷ c) h = (f e h.0, weaker_cell P Q f c h.1)

pub each_cell : (c : Cells) → T (is_sorted place_cmp c) → EachCell (λ e. at c e.0 ≡ Some e.1) c
each_cell [] s = tt
each_cell (e ∷ c) s =
    let b = T_both _ _ s in (
      ap (λ t. cond t (Some e.1) (at c e.0)) (tied_true place_total exact_places e.0),
      weaker_cell (λ x. at c x.0 ≡ Some x.1) (λ x. at (e ∷ c) x.0 ≡ Some x.1) (λ x f. later x f b.0) c (each_cell c b.1),
    )
  where
    later : (x : Place × Held) → at c x.0 ≡ Some x.1 → T (below_all place_cmp e.0 c) → at (e ∷ c) x.0 ≡ Some x.1
    later x f low =
        elim (eq_by_cmp place_cmp x.0 e.0) as (λ t. eq_by_cmp place_cmp x.0 e.0 ≡ t → cond t (Some e.1) (at c x.0) ≡ Some x.1) [
          | true ↦ λ t.
              let same : x.0 ≡ e.0 = tied_same place_total exact_places x.0 e.0 t in
              let none : at c e.0 ≡ None = below_missing place_cmp e.0 c low in
              let here : at c e.0 ≡ Some x.1 = subst (λ p. at c p ≡ Some x.1) same f in
              absurd (cc)
          | false ↦ λ t. f
        ] refl

module _ {K X : Type 0} {R : K → K → Ordering} (total : IsTotalOrder R) (exact : IsAntisymmetric R) (pick : Place × Held → Option (K × X)) where
  picks : K → Place × Held → Bool
  picks k e = option_map_or (λ w. eq_by_cmp R k w.0) (pick e) false

  pub sorted_gather : (c : Cells) → T (is_sorted R (gather R pick c))
  sorted_gather [] = tt
  sorted_gather (e ∷ c) = elim (pick e) as (λ o. T (is_sorted R (picked R o (gather R pick c)))) [ None ↦ sorted_gather c | Some w ↦ is_sorted-put R total w.0 w.1 (gather R pick c) (sorted_gather c) ]

  some_gather : (k : K) (c : Cells) → is_some (find R k (gather R pick c)) ≡ list_any (picks k) c
  unfolding picks
  some_gather k [] = refl
  some_gather k (e ∷ c) = elim (pick e) as (λ o. is_some (find R k (picked R o (gather R pick c))) ≡ (option_map_or (λ w. eq_by_cmp R k w.0) o false || list_any (picks k) c)) [
    | None ↦ some_gather k c
    | Some w ↦ ap is_some (find-put R total k w.0 w.1 (gather R pick c))
        ∙ elim (eq_by_cmp R k w.0) as (λ b. is_some (cond b (Some w.1) (find R k (gather R pick c))) ≡ (b || list_any (picks k) c)) [ true ↦ refl | false ↦ some_gather k c ]
  ]

  -- what is picked of a cell is there
  pub is_gathered : (c : Cells) (p : Place) (h : Held) (k : K) (x : X) → at c p ≡ Some h → pick (p, h) ≡ Some (k, x) → is_some (find R k (gather R pick c)) ≡ true
  unfolding picks
  is_gathered c p h k x there e =
      let hit : picks k (p, h) ≡ true = ap (λ o. option_map_or (λ (w : K × X). eq_by_cmp R k w.0) o false) e ∙ tied_true total exact k in
      some_gather k c ∙ any_from_found place_total exact_places (picks k) c p h there hit

  -- what is there was picked of a cell
  pub gathered_has : (P : K → X → Type 0) (k : K) (y : X) (c : Cells) → EachCell (λ e. (k : K) (x : X) → pick e ≡ Some (k, x) → P k x) c → find R k (gather R pick c) ≡ Some y → P k y
  gathered_has P k y [] h f = absurd (cc)
  gathered_has P k y (e ∷ c) h f =
      elim (pick e) as (λ o. pick e ≡ o → find R k (picked R o (gather R pick c)) ≡ Some y → P k y) [
        | None ↦ λ p f. gathered_has P k y c h.1 f
        | Some w ↦ λ p f.
            elim (eq_by_cmp R k w.0) as (λ t. eq_by_cmp R k w.0 ≡ t → cond t (Some w.1) (find R k (gather R pick c)) ≡ Some y → P k y) [
              | true ↦ λ t f.
                  let same : k ≡ w.0 = tied_same total exact k w.0 t in
                  let is : w.1 ≡ y = (cc) in
                  subst (λ (z : K × X). P z.0 z.1) (λ j. (sym same j, is j)) (h.0 w.0 w.1 p)
              | false ↦ λ t f. gathered_has P k y c h.1 f
            ] refl (sym (find-put R total k w.0 w.1 (gather R pick c)) ∙ f)
      ] refl f

  value_gather : (L : List (K × X)) (k : K) (y : X) (c : Cells) → EachCell (λ e. (k : K) (x : X) → pick e ≡ Some (k, x) → find R k L ≡ Some x) c → find R k (gather R pick c) ≡ Some y → find R k L ≡ Some y
  value_gather L k y [] h f = absurd (cc)
  value_gather L k y (e ∷ c) h f =
      elim (pick e) as (λ o. pick e ≡ o → find R k (picked R o (gather R pick c)) ≡ Some y → find R k L ≡ Some y) [
        | None ↦ λ p f. value_gather L k y c h.1 f
        | Some w ↦ λ p f.
            elim (eq_by_cmp R k w.0) as (λ t. eq_by_cmp R k w.0 ≡ t → cond t (Some w.1) (find R k (gather R pick c)) ≡ Some y → find R k L ≡ Some y) [
              | true ↦ λ t f.
                  let same : k ≡ w.0 = tied_same total exact k w.0 t in
                  let is : w.1 ≡ y = (cc) in
                  subst (λ (z : K × X). find R z.0 L ≡ Some z.1) (λ j. (sym same j, is j)) (h.0 w.0 w.1 p)
              | false ↦ λ t f. value_gather L k y c h.1 f
            ] refl (sym (find-put R total k w.0 w.1 (gather R pick c)) ∙ f)
      ] refl f

  pub gather_is : (L : List (K × X)) (c : Cells) → T (is_sorted place_cmp c) → T (is_sorted R L)
      → ((p : Place) (h : Held) (k : K) (x : X) → at c p ≡ Some h → pick (p, h) ≡ Some (k, x) → find R k L ≡ Some x)
      → ((k : K) (x : X) → find R k L ≡ Some x → (p : Place) × (h : Held) × (at c p ≡ Some h) × (pick (p, h) ≡ Some (k, x)))
      → gather R pick c ≡ L
  unfolding picks
  gather_is L c s t sound full =
      same_entries R total exact (gather R pick c) L (sorted_gather c) t (λ k. go k (find R k (gather R pick c)) refl)
    where
      each : EachCell (λ e. (k : K) (x : X) → pick e ≡ Some (k, x) → find R k L ≡ Some x) c
      each = weaker_cell (λ e. at c e.0 ≡ Some e.1) (λ e. (k : K) (x : X) → pick e ≡ Some (k, x) → find R k L ≡ Some x) (λ e f k x p. sound e.0 e.1 k x f p) c (each_cell c s)

      missing : (k : K) → find R k (gather R pick c) ≡ None → (o : Option X) → find R k L ≡ o → find R k (gather R pick c) ≡ find R k L
      missing k e None f = e ∙ sym f
      missing k e (Some x) f =
          let q = full k x f in
          let hit : picks k (q.0, q.1) ≡ true = ap (λ o. option_map_or (λ (w : K × X). eq_by_cmp R k w.0) o false) q.3 ∙ tied_true total exact k in
          let any = any_from_found place_total exact_places (picks k) c q.0 q.1 q.2 hit in
          let some = some_gather k c ∙ any in
          let none : is_some (find R k (gather R pick c)) ≡ false = ap is_some e in
          absurd (cc)

      go : (k : K) (o : Option X) → find R k (gather R pick c) ≡ o → find R k (gather R pick c) ≡ find R k L
      go k None e = missing k e (find R k L) refl
      go k (Some y) e = e ∙ sym (value_gather L k y c each e)

-- ---- in the order of the cells

pub and_T : (a b : Bool) → T a → T b → T (a && b)
and_T true b h k = k
and_T false b h k = absurd h

less : (o : Ordering) → T (is_lt o) → o ≡ Less
less Less h = refl
less Equal h = absurd h
less Greater h = absurd h

module _ {K X : Type 0} (R : K → K → Ordering) where
  pub put_below : (k : K) (x : X) (es : List (K × X)) → T (below_all R k es) → put R k x es ≡ (k, x) ∷ es
  put_below k x [] h = refl
  put_below k x (e ∷ es) h = ap (λ o. by_order o ((k, x) ∷ e ∷ es) ((e.0, x) ∷ es) (e ∷ put R k x es)) (less (R k e.0) (T_both _ _ h).0)

  -- where the keys rise as the cells stand, it is read in that order
  pub gather_listed : (pick : Place × Held → Option (K × X)) (c : Cells) → T (is_sorted R (listed pick c)) → gather R pick c ≡ listed pick c
  gather_listed pick [] s = refl
  gather_listed pick (e ∷ c) s =
      elim (pick e) as (λ o. T (is_sorted R (picked_first o (listed pick c))) → picked R o (gather R pick c) ≡ picked_first o (listed pick c)) [
        | None ↦ λ s. gather_listed pick c s
        | Some w ↦ λ s. let b = T_both _ _ s in ap (put R w.0 w.1) (gather_listed pick c b.1) ∙ put_below w.0 w.1 (listed pick c) b.0
      ] s

module _ {K X : Type 0} (pick : Place × Held → Option (K × X)) where
  -- the cells that aren't picked may be left out
  pub listed_kept : (q : Place × Held → Bool) (c : Cells) → ((e : Place × Held) (w : K × X) → pick e ≡ Some w → q e ≡ true) → listed pick (filter q c) ≡ listed pick c
  listed_kept q [] all = refl
  listed_kept q (e ∷ c) all =
      let rest = listed_kept q c all in
      elim (pick e) as (λ o. pick e ≡ o → listed pick (cond (q e) (e ∷ filter q c) (filter q c)) ≡ picked_first o (listed pick c)) [
        | None ↦ λ t. skipped (q e) t ∙ rest
        | Some w ↦ λ t. ap (λ b. listed pick (cond b (e ∷ filter q c) (filter q c))) (all e w t) ∙ (λ j. picked_first (t j) (rest j))
      ] refl
    where
      skipped : (b : Bool) → pick e ≡ None → listed pick (cond b (e ∷ filter q c) (filter q c)) ≡ listed pick (filter q c)
      skipped true t = ap (λ o. picked_first o (listed pick (filter q c))) t
      skipped false t = refl

  -- where each cell is picked, there are as many
  pub each_listed : (c : Cells) → EachCell (λ e. is_some (pick e) ≡ true) c → length (listed pick c) ≡ length c
  each_listed [] h = refl
  each_listed (e ∷ c) h =
      let rest = each_listed c h.1 in
      elim (pick e) as (λ o. is_some o ≡ true → length (picked_first o (listed pick c)) ≡ suc (length c)) [ None ↦ λ t. absurd (cc) | Some w ↦ λ t. ap suc rest ] h.0

-- ---- an instance whose cells stand one to a key

pub keyed_back : {K X : Type 0} (k : K) (x : X) (o : Option X) → keyed_by k o ≡ Some (k, x) → o ≡ Some x
keyed_back k x None e = absurd (none_some e)
keyed_back {K = K} {X = X} k x (Some y) e = ap (option_map (λ (w : K × X). w.1)) e

pub keyed_key : {K X : Type 0} (key k : K) (x : X) (o : Option X) → keyed_by key o ≡ Some (k, x) → key ≡ k
keyed_key key k x None e = absurd (none_some e)
keyed_key {K = K} {X = X} key k x (Some y) e = ap (λ o. option_map_or (λ (w : K × X). w.0) o key) e

abbrev pub read_at : {K X : Type 0} → (K → Held → Option X) → K → Option Held → Option X
read_at read k None = None
read_at read k (Some h) = read k h

unkeyed_none : {K X : Type 0} (k : K) (o : Option X) → keyed_by k o ≡ None → o ≡ None
unkeyed_none k None e = refl
unkeyed_none k (Some x) e = absurd (none_some (sym e))

-- ---- the order of the keys is that of their cells

then_nothing : (o : Ordering) → ordering_then o Equal ≡ o
then_nothing Less = refl
then_nothing Equal = refl
then_nothing Greater = refl

pub named_order : (k q : List ℕ) → cell_cmp (Named k) (Named q) ≡ text_cmp k q
named_order k q = then_nothing (text_cmp k q)

pub member_order : (k q : List ℕ) → cell_cmp (Member_cell k) (Member_cell q) ≡ text_cmp k q
member_order k q = then_nothing (text_cmp k q)

pub pair_order : (k q : List ℕ × List ℕ) → cell_cmp (Pair k.0 k.1) (Pair q.0 q.1) ≡ pair_cmp k q
pair_order k q = ap (ordering_then (text_cmp k.0 q.0)) (then_nothing (text_cmp k.1 q.1))

pub at_order : (k q : ℕ) → cell_cmp (At k) (At q) ≡ nat_cmp k q
at_order k q = then_nothing (nat_cmp k q)

pub of_order : (k q : ℕ) → cell_cmp (Of k) (Of q) ≡ nat_cmp k q
of_order k q = then_nothing (nat_cmp k q)

module _ {K X : Type 0} {R : K → K → Ordering} (total : IsTotalOrder R) (exact : IsAntisymmetric R) (m : ℕ) (pick : Cell → Held → Option (K × X)) (place : K → Cell) (read : K → Held → Option X)
    (order : (k q : K) → cell_cmp (place k) (place q) ≡ R k q) (here : (k : K) (h : Held) → pick (place k) h ≡ keyed_by k (read k h)) (only : (cell : Cell) (h : Held) (k : K) (x : X) → pick cell h ≡ Some (k, x) → cell ≡ place k) where
  pub placed : (k q : K) → place_cmp (Cell_at m (place k)) (Cell_at m (place q)) ≡ R k q
  placed k q = ap (λ o. ordering_then o (cell_cmp (place k) (place q))) (tied_itself nat_cmp_total m) ∙ order k q

  -- what is picked of a cell stands at the place of its key
  pub picked_there : (e : Place × Held) (w : K × X) → pick_in m pick e ≡ Some w → (e.0 ≡ Cell_at m (place w.0)) × (read w.0 e.1 ≡ Some w.1)
  picked_there (Cell_at other cell, h) w e = go (m == other) refl e
    where
      go : (b : Bool) → (m == other) ≡ b → cond b (pick cell h) None ≡ Some w → (Cell_at other cell ≡ Cell_at m (place w.0)) × (read w.0 h ≡ Some w.1)
      go true t e =
          let is : cell ≡ place w.0 = only cell h w.0 w.1 e in
          ((λ j. Cell_at (sym (eqb-true m other t) j) (is j)), keyed_back w.0 w.1 (read w.0 h) (sym (here w.0 h) ∙ (λ j. pick (sym is j) h) ∙ e))
      go false t e = absurd (none_some e)
  picked_there (Name_at name, h) w e = absurd (none_some e)
  picked_there (Register_at session, h) w e = absurd (none_some e)
  picked_there (Alive_at session, h) w e = absurd (none_some e)

  -- the cell of a key that isn't picked has nothing to be read
  unpicked : (e : Place × Held) (k : K) → e.0 ≡ Cell_at m (place k) → pick_in m pick e ≡ None → read k e.1 ≡ None
  unpicked e k is none = unkeyed_none k (read k e.1) (sym (here k e.1) ∙ sym (ap (λ b. cond b (pick (place k) e.1) None) (eq-eqb m m refl)) ∙ (λ j. pick_in m pick (sym is j, e.1)) ∙ none)

  -- a key is looked up at its place
  pub find_gathered : (k : K) (c : Cells) → T (is_sorted place_cmp c) → find R k (gather R (pick_in m pick) c) ≡ read_at read k (at c (Cell_at m (place k)))
  find_gathered k [] s = refl
  find_gathered k (e ∷ c) s =
      let rest = find_gathered k c (T_both _ _ s).1 in
      elim (pick_in m pick e) as (λ o. pick_in m pick e ≡ o → find R k (picked R o (gather R (pick_in m pick) c)) ≡ read_at read k (cond (eq_by_cmp place_cmp (Cell_at m (place k)) e.0) (Some e.1) (at c (Cell_at m (place k))))) [
        | None ↦ λ t. missed (eq_by_cmp place_cmp (Cell_at m (place k)) e.0) refl t (T_both _ _ s).0 rest
        | Some w ↦ λ t. find-put R total k w.0 w.1 (gather R (pick_in m pick) c) ∙ hit w t rest (eq_by_cmp R k w.0) refl
      ] refl
    where
      missed : (b : Bool) → eq_by_cmp place_cmp (Cell_at m (place k)) e.0 ≡ b → pick_in m pick e ≡ None → T (below_all place_cmp e.0 c) → find R k (gather R (pick_in m pick) c) ≡ read_at read k (at c (Cell_at m (place k)))
          → find R k (gather R (pick_in m pick) c) ≡ read_at read k (cond b (Some e.1) (at c (Cell_at m (place k))))
      missed true t none low rest =
          let is : Cell_at m (place k) ≡ e.0 = tied_same place_total exact_places (Cell_at m (place k)) e.0 t in
          rest ∙ ap (read_at read k) (ap (at c) is ∙ below_missing place_cmp e.0 c low) ∙ sym (unpicked e k (sym is) none)
      missed false t none low rest = rest

      hit : (w : K × X) → pick_in m pick e ≡ Some w → find R k (gather R (pick_in m pick) c) ≡ read_at read k (at c (Cell_at m (place k))) → (b : Bool) → eq_by_cmp R k w.0 ≡ b
          → cond b (Some w.1) (find R k (gather R (pick_in m pick) c)) ≡ read_at read k (cond (eq_by_cmp place_cmp (Cell_at m (place k)) e.0) (Some e.1) (at c (Cell_at m (place k))))
      hit w t rest b tie =
          let there = picked_there e w t in
          let same : eq_by_cmp place_cmp (Cell_at m (place k)) e.0 ≡ b = ap (λ p. eq_by_cmp place_cmp (Cell_at m (place k)) p) there.0 ∙ ap is_eq (placed k w.0) ∙ tie in
          found w there.1 rest b tie ∙ ap (λ b. read_at read k (cond b (Some e.1) (at c (Cell_at m (place k))))) (sym same)
        where
          found : (w : K × X) → read w.0 e.1 ≡ Some w.1 → find R k (gather R (pick_in m pick) c) ≡ read_at read k (at c (Cell_at m (place k))) → (b : Bool) → eq_by_cmp R k w.0 ≡ b
              → cond b (Some w.1) (find R k (gather R (pick_in m pick) c)) ≡ read_at read k (cond b (Some e.1) (at c (Cell_at m (place k))))
          found w is rest true tie = sym is ∙ (λ j. read (sym (tied_same total exact k w.0 tie) j) e.1)
          found w is rest false tie = rest

  -- whether a key is there
  pub has_key : (k : K) (c : Cells) → T (is_sorted place_cmp c) → has_item R k (keys (gather R (pick_in m pick) c)) ≡ is_some (read_at read k (at c (Cell_at m (place k))))
  has_key k c s = sym (is_some-find R k (gather R (pick_in m pick) c)) ∙ ap is_some (find_gathered k c s)

  -- so what is gathered is any list that has the same at each key
  pub entries_are : (L : List (K × X)) (c : Cells) → T (is_sorted place_cmp c) → T (is_sorted R L) → ((k : K) → read_at read k (at c (Cell_at m (place k))) ≡ find R k L) → gather R (pick_in m pick) c ≡ L
  entries_are L c s t shown = same_entries R total exact (gather R (pick_in m pick) c) L (sorted_gather total exact (pick_in m pick) c) t (λ k. find_gathered k c s ∙ shown k)

  below_listed : (k : K) (c : Cells) → T (below_all place_cmp (Cell_at m (place k)) c) → T (below_all R k (listed (pick_in m pick) c))
  below_listed k [] h = tt
  below_listed k (e ∷ c) h =
      let b = T_both _ _ h in
      elim (pick_in m pick e) as (λ o. pick_in m pick e ≡ o → T (below_all R k (picked_first o (listed (pick_in m pick) c)))) [
        | None ↦ λ t. below_listed k c b.1
        | Some w ↦ λ t. and_T (is_lt (R k w.0)) _ (subst (λ o. T (is_lt o)) (ap (place_cmp (Cell_at m (place k))) (picked_there e w t).0 ∙ placed k w.0) b.0) (below_listed k c b.1)
      ] refl

  pub sorted_listed : (c : Cells) → T (is_sorted place_cmp c) → T (is_sorted R (listed (pick_in m pick) c))
  sorted_listed [] s = tt
  sorted_listed (e ∷ c) s =
      let b = T_both _ _ s in
      elim (pick_in m pick e) as (λ o. pick_in m pick e ≡ o → T (is_sorted R (picked_first o (listed (pick_in m pick) c)))) [
        | None ↦ λ t. sorted_listed c b.1
        | Some w ↦ λ t. and_T (below_all R w.0 (listed (pick_in m pick) c)) _ (below_listed w.0 c (subst (λ p. T (below_all place_cmp p c)) (picked_there e w t).0 b.0)) (sorted_listed c b.1)
      ] refl

  -- it is read in the order of the cells
  pub in_order : (c : Cells) → T (is_sorted place_cmp c) → gather R (pick_in m pick) c ≡ listed (pick_in m pick) c
  in_order c s = gather_listed R (pick_in m pick) c (sorted_listed c s)

  -- where each cell is picked, there are as many
  pub as_many : (c : Cells) → T (is_sorted place_cmp c) → EachCell (λ e. is_some (pick_in m pick e) ≡ true) c → length (gather R (pick_in m pick) c) ≡ length c
  as_many c s own = ap length (in_order c s) ∙ each_listed (pick_in m pick) c own

-- what is shown by its standing alone

unkeyed : {K : Type 0} (xs : List K) → keys (keyed xs) ≡ xs
unkeyed [] = refl
unkeyed (x ∷ xs) = ap (λ l. x ∷ l) (unkeyed xs)

same_unit : (o p : Option (Unit {0})) → is_some o ≡ is_some p → o ≡ p
same_unit None None e = refl
same_unit None (Some y) e = absurd (cc)
same_unit (Some x) None e = absurd (cc)
same_unit (Some x) (Some y) e = refl

abbrev pub stood : {K : Type 0} → K → Held → Option (Unit {0})
stood k h = Some tt

pub read_stood : {K : Type 0} (k : K) (o : Option Held) → is_some (read_at stood k o) ≡ is_some o
read_stood k None = refl
read_stood k (Some h) = refl

module _ {K : Type 0} {R : K → K → Ordering} (total : IsTotalOrder R) (exact : IsAntisymmetric R) (m : ℕ) (pick : Cell → Held → Option (K × Unit {0})) (place : K → Cell)
    (order : (k q : K) → cell_cmp (place k) (place q) ≡ R k q) (here : (k : K) (h : Held) → pick (place k) h ≡ Some (k, tt)) (only : (cell : Cell) (h : Held) (k : K) (x : Unit {0}) → pick cell h ≡ Some (k, x) → cell ≡ place k) where
  pub keys_are : (xs : List K) (c : Cells) → T (is_sorted place_cmp c) → is_sorted R (keyed xs) ≡ true → ((k : K) → stands c (Cell_at m (place k)) ≡ has_item R k xs) → keys (gather R (pick_in m pick) c) ≡ xs
  keys_are xs c s sorted shown =
      ap keys (entries_are total exact m pick place stood order here only (keyed xs) c s (T_from _ sorted) (λ k. same_unit _ _ (read_stood k (at c (Cell_at m (place k))) ∙ shown k ∙ sym (is_some-find R k (keyed xs) ∙ ap (list_any (eq_by_cmp R k)) (unkeyed xs)))))
      ∙ unkeyed xs

-- ---- the kinds

text_back : (o : Option (List ℕ)) → text_of (option_map Text o) ≡ o
text_back None = refl
text_back (Some word) = refl

abbrev pub word_of : {K : Type 0} → K → Held → Option (List ℕ)
word_of k h = text_in h.content

pub read_word : {K : Type 0} (k : K) (o : Option Held) → read_at word_of k o ≡ text_of (option_map (λ (h : Held). h.content) o)
read_word k None = refl
read_word k (Some h) = refl

pub value_is_read : (m : ℕ) (c : Cells) (cur : Option (List ℕ)) → content_at c (Cell_at m One) ≡ option_map Text cur → text_of (content_at c (Cell_at m One)) ≡ cur
value_is_read m c cur shown = ap text_of shown ∙ text_back cur

pub only_named : (cell : Cell) (h : Held) (k : List ℕ) (x : List ℕ) → map_cell cell h ≡ Some (k, x) → cell ≡ Named k
only_named (Named key) h k x e = ap Named (keyed_key key k x (text_in h.content) e)
only_named One h k x e = absurd (none_some e)
only_named (Member_cell word) h k x e = absurd (none_some e)
only_named (Pair key word) h k x e = absurd (none_some e)
only_named (At i) h k x e = absurd (none_some e)
only_named (Waiter a b) h k x e = absurd (none_some e)
only_named (Of session) h k x e = absurd (none_some e)

pub pairs_are : (m : ℕ) (c : Cells) (pairs : List (List ℕ × List ℕ)) → T (is_sorted place_cmp c) → is_sorted text_cmp pairs ≡ true → ((key : List ℕ) → content_at c (Cell_at m (Named key)) ≡ option_map Text (find text_cmp key pairs)) → gather text_cmp (pick_in m map_cell) c ≡ pairs
pairs_are m c pairs s sorted shown = entries_are nat_list_cmp_total exact_texts m map_cell Named word_of named_order (λ k h. refl) only_named pairs c s (T_from _ sorted) (λ k. read_word k (at c (Cell_at m (Named k))) ∙ ap text_of (shown k) ∙ text_back (find text_cmp k pairs))

pub only_items : (cell : Cell) (h : Held) (k : ℕ) (x : List ℕ) → item_cell cell h ≡ Some (k, x) → cell ≡ At k
only_items (At i) h k x e = ap At (keyed_key i k x (text_in h.content) e)
only_items One h k x e = absurd (none_some e)
only_items (Named key) h k x e = absurd (none_some e)
only_items (Member_cell word) h k x e = absurd (none_some e)
only_items (Pair key word) h k x e = absurd (none_some e)
only_items (Waiter a b) h k x e = absurd (none_some e)
only_items (Of session) h k x e = absurd (none_some e)

pub items_are : (m : ℕ) (c : Cells) (items : List (ℕ × List ℕ)) → T (is_sorted place_cmp c) → is_sorted nat_cmp items ≡ true → ((i : ℕ) → content_at c (Cell_at m (At i)) ≡ option_map Text (find nat_cmp i items)) → gather nat_cmp (pick_in m item_cell) c ≡ items
items_are m c items s sorted shown = entries_are nat_cmp_total nat_cmp-IsAntisymmetric m item_cell At word_of at_order (λ k h. refl) only_items items c s (T_from _ sorted) (λ k. read_word k (at c (Cell_at m (At k))) ∙ ap text_of (shown k) ∙ text_back (find nat_cmp k items))

pub only_words : (cell : Cell) (h : Held) (k : List ℕ) (x : Unit {0}) → word_cell cell h ≡ Some (k, x) → cell ≡ Member_cell k
only_words (Member_cell word) h k x e = ap Member_cell (keyed_key word k x (Some tt) e)
only_words One h k x e = absurd (none_some e)
only_words (Named key) h k x e = absurd (none_some e)
only_words (Pair key word) h k x e = absurd (none_some e)
only_words (At i) h k x e = absurd (none_some e)
only_words (Waiter a b) h k x e = absurd (none_some e)
only_words (Of session) h k x e = absurd (none_some e)

pub words_are : (m : ℕ) (c : Cells) (words : List (List ℕ)) → T (is_sorted place_cmp c) → is_sorted text_cmp (keyed words) ≡ true → ((word : List ℕ) → stands c (Cell_at m (Member_cell word)) ≡ has_item text_cmp word words) → keys (gather text_cmp (pick_in m word_cell) c) ≡ words
words_are m c words s sorted shown = keys_are nat_list_cmp_total exact_texts m word_cell Member_cell member_order (λ k h. refl) only_words words c s sorted shown

pub pair_total : IsTotalOrder pair_cmp
pair_total = then_total (on_total (λ (p : List ℕ × List ℕ). p.0) nat_list_cmp_total) (on_total (λ (p : List ℕ × List ℕ). p.1) nat_list_cmp_total)

pub exact_pairs : IsAntisymmetric pair_cmp
exact_pairs p q e =
    let a = tie exact_texts p.0 q.0 (text_cmp p.1 q.1) e in
    let b = exact_texts p.1 q.1 a.1 in
    λ j. (a.0 j, b j)

pub only_pairs : (cell : Cell) (h : Held) (k : List ℕ × List ℕ) (x : Unit {0}) → pair_cell cell h ≡ Some (k, x) → cell ≡ Pair k.0 k.1
only_pairs (Pair key word) h k x e = ap (λ (k : List ℕ × List ℕ). Pair k.0 k.1) (keyed_key (key, word) k x (Some tt) e)
only_pairs One h k x e = absurd (none_some e)
only_pairs (Named key) h k x e = absurd (none_some e)
only_pairs (Member_cell word) h k x e = absurd (none_some e)
only_pairs (At i) h k x e = absurd (none_some e)
only_pairs (Waiter a b) h k x e = absurd (none_some e)
only_pairs (Of session) h k x e = absurd (none_some e)

pub multimap_pairs_are : (m : ℕ) (c : Cells) (pairs : List (List ℕ × List ℕ)) → T (is_sorted place_cmp c) → is_sorted pair_cmp (keyed pairs) ≡ true → ((key word : List ℕ) → stands c (Cell_at m (Pair key word)) ≡ has_item pair_cmp (key, word) pairs) → keys (gather pair_cmp (pick_in m pair_cell) c) ≡ pairs
multimap_pairs_are m c pairs s sorted shown = keys_are pair_total exact_pairs m pair_cell (λ (k : List ℕ × List ℕ). Pair k.0 k.1) pair_order (λ k h. refl) only_pairs pairs c s sorted (λ (k : List ℕ × List ℕ). shown k.0 k.1)

pub only_listeners : (cell : Cell) (h : Held) (k : ℕ) (x : Unit {0}) → listener_cell cell h ≡ Some (k, x) → cell ≡ Of k
only_listeners (Of session) h k x e = ap Of (keyed_key session k x (Some tt) e)
only_listeners One h k x e = absurd (none_some e)
only_listeners (Named key) h k x e = absurd (none_some e)
only_listeners (Member_cell word) h k x e = absurd (none_some e)
only_listeners (Pair key word) h k x e = absurd (none_some e)
only_listeners (At i) h k x e = absurd (none_some e)
only_listeners (Waiter a b) h k x e = absurd (none_some e)

pub listeners_are : (m : ℕ) (c : Cells) (ls : List ℕ) → T (is_sorted place_cmp c) → Listens m c ls → listeners_in m c ≡ ls
listeners_are m c ls s shown = keys_are nat_cmp_total nat_cmp-IsAntisymmetric m listener_cell Of of_order (λ k h. refl) only_listeners ls c s shown.0 shown.1

-- members

unindexed : (ms : List Member) → values (by_index ms) ≡ ms
unindexed [] = refl
unindexed (x ∷ ms) = ap (λ l. x ∷ l) (unindexed ms)

index_found : (ms : List Member) (j : ℕ) (x : Member) → find nat_cmp j (by_index ms) ≡ Some x → x.index ≡ j
index_found [] j x f = absurd (cc)
index_found (y ∷ ms) j x f =
    elim (eq_by_cmp nat_cmp j y.index) as (λ t. eq_by_cmp nat_cmp j y.index ≡ t → cond t (Some y) (find nat_cmp j (by_index ms)) ≡ Some x → x.index ≡ j) [
      | true ↦ λ t f. let same : y ≡ x = (cc) in ap (λ (z : Member). z.index) (sym same) ∙ sym (tied_same nat_cmp_total nat_cmp-IsAntisymmetric j y.index t)
      | false ↦ λ t f. index_found ms j x f
    ] refl f

-- a member of what its cell has
abbrev member_back : ℕ → Option (Content × Option ℕ) → Option Member
member_back i None = None
member_back i (Some cell) = option_map (λ word. record { index = i; session = owner_number cell.1; word = word }) (text_in cell.0)

pub only_members : (cell : Cell) (h : Held) (k : ℕ) (x : Member) → member_of cell h ≡ Some (k, x) → cell ≡ At k
only_members (At i) h k x e = ap At (keyed_key i k x (member_in i h) e)
only_members One h k x e = absurd (none_some e)
only_members (Named key) h k x e = absurd (none_some e)
only_members (Member_cell word) h k x e = absurd (none_some e)
only_members (Pair key word) h k x e = absurd (none_some e)
only_members (Waiter a b) h k x e = absurd (none_some e)
only_members (Of session) h k x e = absurd (none_some e)

pub members_are : (m : ℕ) (c : Cells) (ms : List Member) → T (is_sorted place_cmp c) → is_sorted nat_cmp (by_index ms) ≡ true → ((i : ℕ) → member_at c (Cell_at m (At i)) ≡ option_map member_cell (find nat_cmp i (by_index ms))) → values (gather nat_cmp (pick_in m member_of) c) ≡ ms
members_are m c ms s sorted shown =
    ap values (entries_are nat_cmp_total nat_cmp-IsAntisymmetric m member_of At member_in at_order (λ k h. refl) only_members (by_index ms) c s (T_from _ sorted) (λ k. read (at c (Cell_at m (At k))) k ∙ ap (member_back k) (shown k) ∙ back k (find nat_cmp k (by_index ms)) refl))
    ∙ unindexed ms
  where
    read : (o : Option Held) (i : ℕ) → read_at member_in i o ≡ member_back i (option_map (λ (h : Held). (h.content, h.owner)) o)
    read None i = refl
    read (Some h) i = refl

    back : (i : ℕ) (o : Option Member) → find nat_cmp i (by_index ms) ≡ o → member_back i (option_map member_cell o) ≡ o
    back i None f = refl
    back i (Some x) f = λ j. Some (record { index = sym (index_found ms i x f) j; session = x.session; word = x.word })

-- waiters

abbrev waiter : ℕ → ℕ → ℕ × ℕ
waiter a b = (a, b)

abbrev held_waiter : ℕ → ℕ → ℕ → Option (ℕ × (ℕ × ℕ))
held_waiter k a b = Some (k, (a, b))

abbrev waiter_or : Option (ℕ × (ℕ × ℕ)) → ℕ × (ℕ × ℕ)
waiter_or None = (0, (0, 0))
waiter_or (Some w) = w

unholding : (m : ℕ) (c : Cells) (ws : List (ℕ × ℕ)) → values (by_holding m c ws) ≡ ws
unholding m c [] = refl
unholding m c (w ∷ ws) = ap (λ l. w ∷ l) (unholding m c ws)

pub waits : (w : ℕ × ℕ) → is_waiter w w ≡ true
waits w = and_from (w.0 == w.0) (w.1 == w.1) (eq-eqb w.0 w.0 refl) (eq-eqb w.1 w.1 refl)

pub same_waiter : (v w : ℕ × ℕ) → is_waiter v w ≡ true → v ≡ w
same_waiter v w e =
    let a = and_parts (v.0 == w.0) (v.1 == w.1) e in
    λ j. (eqb-true v.0 w.0 a.0 j, eqb-true v.1 w.1 a.1 j)

holding_found : (m : ℕ) (c : Cells) (ws : List (ℕ × ℕ)) (k : ℕ) (w : ℕ × ℕ) → find nat_cmp k (by_holding m c ws) ≡ Some w → (k ≡ index_at c (Cell_at m (Waiter w.0 w.1))) × (list_any (is_waiter w) ws ≡ true)
holding_found m c [] k w f = absurd (none_some f)
holding_found m c (v ∷ ws) k w f =
    elim (eq_by_cmp nat_cmp k (index_at c (Cell_at m (Waiter v.0 v.1)))) as (λ t. eq_by_cmp nat_cmp k (index_at c (Cell_at m (Waiter v.0 v.1))) ≡ t → cond t (Some v) (find nat_cmp k (by_holding m c ws)) ≡ Some w → (k ≡ index_at c (Cell_at m (Waiter w.0 w.1))) × (list_any (is_waiter w) (v ∷ ws) ≡ true)) [
      | true ↦ λ t f.
          let same : v ≡ w = (cc) in
          let k_is = tied_same nat_cmp_total nat_cmp-IsAntisymmetric k (index_at c (Cell_at m (Waiter v.0 v.1))) t in
          subst (λ (z : ℕ × ℕ). (k ≡ index_at c (Cell_at m (Waiter z.0 z.1))) × (list_any (is_waiter z) (v ∷ ws) ≡ true)) same (k_is, or_left (is_waiter v v) (list_any (is_waiter v) ws) (waits v))
      | false ↦ λ t f. let r = holding_found m c ws k w f in (r.0, or_right (is_waiter w v) (list_any (is_waiter w) ws) r.1)
    ] refl f

any_holding : (m : ℕ) (c : Cells) (w : ℕ × ℕ) (ws : List (ℕ × ℕ)) → list_any (λ (e : ℕ × (ℕ × ℕ)). is_waiter w e.1) (by_holding m c ws) ≡ list_any (is_waiter w) ws
any_holding m c w [] = refl
any_holding m c w (v ∷ ws) = ap (λ b. is_waiter w v || b) (any_holding m c w ws)

pub waiters_are : (m : ℕ) (c : Cells) (ws : List (ℕ × ℕ)) → T (is_sorted place_cmp c) → is_sorted nat_cmp (by_holding m c ws) ≡ true → ((a b : ℕ) → stands c (Cell_at m (Waiter a b)) ≡ list_any (is_waiter (a, b)) ws) → values (gather nat_cmp (pick_in m waiter_cell) c) ≡ ws
waiters_are m c ws s sorted shown = ap values (gather_is nat_cmp_total nat_cmp-IsAntisymmetric (pick_in m waiter_cell) (by_holding m c ws) c s (T_from _ sorted) sound full) ∙ unholding m c ws
  where
    here : (a b : ℕ) (h : Held) → at c (Cell_at m (Waiter a b)) ≡ Some h → find nat_cmp h.index (by_holding m c ws) ≡ Some (waiter a b)
    here a b h there =
        let any : list_any (λ (e : ℕ × (ℕ × ℕ)). is_waiter (waiter a b) e.1) (by_holding m c ws) ≡ true = any_holding m c (waiter a b) ws ∙ sym (shown a b) ∙ ap is_some there in
        let r = found_from_any nat_cmp_total nat_cmp-IsAntisymmetric (λ (e : ℕ × (ℕ × ℕ)). is_waiter (waiter a b) e.1) (by_holding m c ws) (T_from _ sorted) any in
        let same : waiter a b ≡ r.1 = same_waiter (waiter a b) r.1 r.3 in
        let k_is : r.0 ≡ index_at c (Cell_at m (Waiter a b)) = (holding_found m c ws r.0 r.1 r.2).0 ∙ ap (λ (w : ℕ × ℕ). index_at c (Cell_at m (Waiter w.0 w.1))) (sym same) in
        let index : r.0 ≡ h.index = k_is ∙ ap (λ o. option_map_or (λ (g : Held). g.index) o 0) there in
        (λ j. find nat_cmp (sym index j) (by_holding m c ws)) ∙ r.2 ∙ ap Some (sym same)

    of_cell : (cell : Cell) (h : Held) (k : ℕ) (x : ℕ × ℕ) → at c (Cell_at m cell) ≡ Some h → waiter_cell cell h ≡ held_waiter k x.0 x.1 → find nat_cmp k (by_holding m c ws) ≡ Some x
    of_cell (Waiter a b) h k x there e =
        let key : h.index ≡ k = ap (λ o. (waiter_or o).0) e in
        let is : waiter a b ≡ x = ap (λ o. (waiter_or o).1) e in
        subst (λ n. find nat_cmp n (by_holding m c ws) ≡ Some x) key (here a b h there ∙ ap Some is)
    of_cell One h k x there e = absurd (none_some e)
    of_cell (Named key) h k x there e = absurd (none_some e)
    of_cell (Member_cell word) h k x there e = absurd (none_some e)
    of_cell (Pair key word) h k x there e = absurd (none_some e)
    of_cell (Of j) h k x there e = absurd (none_some e)
    of_cell (At j) h k x there e = absurd (none_some e)

    sound : (p : Place) (h : Held) (k : ℕ) (x : ℕ × ℕ) → at c p ≡ Some h → pick_in m waiter_cell (p, h) ≡ Some (k, x) → find nat_cmp k (by_holding m c ws) ≡ Some x
    sound (Cell_at instance cell) h k x there e =
        elim (m == instance) as (λ t. (m == instance) ≡ t → cond t (waiter_cell cell h) None ≡ held_waiter k x.0 x.1 → find nat_cmp k (by_holding m c ws) ≡ Some x) [
          | true ↦ λ t e. of_cell cell h k x (subst (λ n. at c (Cell_at n cell) ≡ Some h) (sym (eqb-true m instance t)) there) e
          | false ↦ λ t e. absurd (none_some e)
        ] refl e
    sound (Name_at name) h k x there e = absurd (none_some e)
    sound (Register_at session) h k x there e = absurd (none_some e)
    sound (Alive_at session) h k x there e = absurd (none_some e)

    full : (k : ℕ) (x : ℕ × ℕ) → find nat_cmp k (by_holding m c ws) ≡ Some x → (p : Place) × (h : Held) × (at c p ≡ Some h) × (pick_in m waiter_cell (p, h) ≡ Some (k, x))
    full k x f = go (at c (Cell_at m (Waiter x.0 x.1))) refl
      where
        r : (k ≡ index_at c (Cell_at m (Waiter x.0 x.1))) × (list_any (is_waiter x) ws ≡ true)
        r = holding_found m c ws k x f

        go : (o : Option Held) → at c (Cell_at m (Waiter x.0 x.1)) ≡ o → (p : Place) × (h : Held) × (at c p ≡ Some h) × (pick_in m waiter_cell (p, h) ≡ Some (k, x))
        go None e = absurd (clash (is_some (at c (Cell_at m (Waiter x.0 x.1)))) (shown x.0 x.1 ∙ r.1) (ap is_some e))
        go (Some h) e =
            let index : k ≡ h.index = r.0 ∙ ap (λ o. option_map_or (λ (g : Held). g.index) o 0) e in
            (Cell_at m (Waiter x.0 x.1), h, e, ap (λ b. cond b (held_waiter h.index x.0 x.1) None) (eq-eqb m m refl) ∙ (λ j. held_waiter (sym index j) x.0 x.1))
