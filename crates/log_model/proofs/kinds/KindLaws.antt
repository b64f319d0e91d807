-- What is read of cells in range is in range, so the decision of each kind is lawful; and a cell has one owner. For `kinds_are_lawful`, `kinds_have_one_owner`.
use Rattle.std.proofs.Common.{◌≡◌, ℕ, pos, ◌==◌, true, false, cond, T, List, [], ◌∷◌, Option, Some, None, refl, ap, subst, FitsSigned, Ordering, Less, Equal, Greater}
use Rattle.std.proofs.Math.Facts.{sfits_lit}
use Rattle.std.specs.Int.{w64}
use Rattle.std.specs.List.{AllByRecursion}
use Rattle.std.specs.Option.{option_map, option_map_or}
use Rattle.std.specs.FinMap.{IsAntisymmetric, nat_cmp-IsAntisymmetric}
use Rattle.std.specs.FinMap.Entries.{put, by_order, is_sorted}
use Rattle.std.specs.Ordering.{nat_cmp}
use Rattle.host_types.specs.Cells.{Place, Name_at, Cell_at, Register_at, Alive_at, Held, Cells, text_cmp, place_cmp, at, instance_fits}
use Rattle.host_types.specs.Ranges.{IsIndex, IsUnsigned, IsWord, CellFits, IsCellInRange, ContentFits, IsPlaceInRange, IsHeldInRange, AreCellsInRange}
use Rattle.host_types.specs.Decision.{Decides, IsLawful, ResourceIsLawful, ResourceHasOneOwner}
use Rattle.host_types.specs.declared.entry.Kind.{Kind}
use Rattle.host_types.specs.declared.entry.Kind.TheVariants.{Value, Counter, Map, Multimap, Set, Queue, Lock, Group, Topic}
use Rattle.host_types.specs.declared.entry.Cell.{Cell}
use Rattle.host_types.specs.declared.entry.Cell.TheVariants.{One, Named, Member as Member_cell, Pair, At, Waiter, Of}
use Rattle.host_types.specs.declared.entry.Content.{Content}
use Rattle.host_types.specs.declared.entry.Content.TheVariants.{Mark, Text, Number}
use Rattle.host_types.specs.declared.entry.Effect.{Effect}
use Rattle.host_types.specs.declared.entry.Effect.TheVariants.{Nothing, Create, Delete, Put, Drop, Wipe, WipeKey, Tell}
use Rattle.host_types.specs.declared.entry.Op.{Op}
use Rattle.host_types.specs.declared.entry.Reply.{Reply}
use Rattle.log_model.specs.plain.Plain.{Member, kind_of, pair_cmp}
use Rattle.log_model.specs.plain.Rows.{Row, Does, Out_of_range, Of_no_kind, Call, row}
use Rattle.log_model.specs.kinds.Shows.{content_at, number_of}
use Rattle.log_model.specs.kinds.Deciding.{call_of}
use Rattle.log_model.specs.kinds.LawfulRows.{lawful_choice, EffectSuits, SuitsRow, suits_choice, suits_agree}
use Rattle.log_model.specs.kinds.Reading.{picked, gather, pick_in, keys, values, text_in, text_of, keyed_by, map_cell, pair_cell, item_cell, waiter_cell, member_of, plain_in, kind_decision}
use Rattle.log_model.specs.kinds.PlainRanges.{IsWordIfAny, IsPlainInRange}
use Rattle.log_model.proofs.Lookups.{T_from}
use Rattle.log_model.proofs.kinds.Gather.{none_some, EachCell, weaker_cell, each_cell}
use Rattle.log_model.proofs.kinds.Readings.{kind_read}
use Rattle.log_model.proofs.plain.RowEffects.{RowSuits, row_suits}
use Rattle.log_model.proofs.kinds.RowLaws.{row_lawful}

-- ---- what is gathered comes of a cell

module _ {K X : Type 0} (R : K → K → Ordering) (exact : IsAntisymmetric R) (P : K × X → Type 0) where
  all_put : (k : K) (x : X) (es : List (K × X)) → P (k, x) → AllByRecursion P es → AllByRecursion P (put R k x es)
  all_put k x [] h all = (h, tt)
  all_put k x (e ∷ es) h all =
      elim (R k e.0) as (λ o. R k e.0 ≡ o → AllByRecursion P (by_order o ((k, x) ∷ e ∷ es) ((e.0, x) ∷ es) (e ∷ put R k x es))) [
        | Less ↦ λ t. (h, all)
        | Equal ↦ λ t. (subst (λ k. P (k, x)) (exact k e.0 t) h, all.1)
        | Greater ↦ λ t. (all.0, all_put k x es h all.1)
      ] refl

  all_gathered : (pick : Place × Held → Option (K × X)) (c : Cells) → EachCell (λ e. (w : K × X) → pick e ≡ Some w → P w) c → AllByRecursion P (gather R pick c)
  all_gathered pick [] h = tt
  all_gathered pick (e ∷ c) h =
      elim (pick e) as (λ o. pick e ≡ o → AllByRecursion P (picked R o (gather R pick c))) [
        | None ↦ λ t. all_gathered pick c h.1
        | Some w ↦ λ t. all_put w.0 w.1 (gather R pick c) (h.0 w t) (all_gathered pick c h.1)
      ] refl

  -- what is gathered of cells in range
  of_cells : (m : ℕ) (pick : Cell → Held → Option (K × X)) (c : Cells) → T (is_sorted place_cmp c) → AreCellsInRange c
      → ((cell : Cell) (h : Held) (w : K × X) → CellFits cell × IsCellInRange cell → IsHeldInRange h → pick cell h ≡ Some w → P w)
      → AllByRecursion P (gather R (pick_in m pick) c)
  of_cells m pick c s right is = all_gathered (pick_in m pick) c (weaker_cell (λ e. at c e.0 ≡ Some e.1) (λ e. (w : K × X) → pick_in m pick e ≡ Some w → P w) (λ e found w. one e.0 e.1 w found) c (each_cell c s))
    where
      one : (p : Place) (h : Held) (w : K × X) → at c p ≡ Some h → pick_in m pick (p, h) ≡ Some w → P w
      one (Cell_at other cell) h w found e =
          elim (m == other) as (λ b. cond b (pick cell h) None ≡ Some w → P w) [
            | true ↦ λ e. let r = right (Cell_at other cell) h found in is cell h w (r.0.1, r.0.2) r.1 e
            | false ↦ λ e. absurd (none_some e)
          ] e
      one (Name_at name) h w found e = absurd (none_some e)
      one (Register_at session) h w found e = absurd (none_some e)
      one (Alive_at session) h w found e = absurd (none_some e)

all_keys : {K X : Type 0} (P : K → Type 0) (es : List (K × X)) → AllByRecursion (λ (w : K × X). P w.0) es → AllByRecursion P (keys es)
all_keys P [] h = tt
all_keys P (e ∷ es) h = (h.0, all_keys P es h.1)

all_values : {K X : Type 0} (P : X → Type 0) (es : List (K × X)) → AllByRecursion (λ (w : K × X). P w.1) es → AllByRecursion P (values es)
all_values P [] h = tt
all_values P (e ∷ es) h = (h.0, all_values P es h.1)

-- ---- each kind

word_there : {K : Type 0} (k : K) (content : Content) (w : K × List ℕ) → ContentFits content → keyed_by k (text_in content) ≡ Some w → IsWord w.1
word_there {K = K} k (Text word) w fits e = subst IsWord (ap (λ o. option_map_or (λ (w : K × List ℕ). w.1) o word) e) fits
word_there k Mark w fits e = absurd (none_some e)
word_there k (Number number) w fits e = absurd (none_some e)

key_is : {K X : Type 0} (k : K) (o : Option X) (w : K × X) → keyed_by k o ≡ Some w → k ≡ w.0
key_is k None w e = absurd (none_some e)
key_is {K = K} {X = X} k (Some x) w e = ap (λ o. option_map_or (λ (w : K × X). w.0) o k) e

zero_fits : FitsSigned w64 (pos 0)
zero_fits = sfits_lit tt

module _ (m : ℕ) (c : Cells) (s : T (is_sorted place_cmp c)) (right : AreCellsInRange c) where
  value_in_range : IsWordIfAny (text_of (content_at c (Cell_at m One)))
  value_in_range = go (at c (Cell_at m One)) refl
    where
      word : (content : Content) → ContentFits content → IsWordIfAny (text_in content)
      word (Text w) fits = fits
      word Mark fits = tt
      word (Number number) fits = tt

      go : (o : Option Held) → at c (Cell_at m One) ≡ o → IsWordIfAny (text_of (option_map (λ (h : Held). h.content) o))
      go None e = tt
      go (Some held) e = word held.content (right (Cell_at m One) held e).1.content

  counter_in_range : FitsSigned w64 (number_of (content_at c (Cell_at m One)))
  counter_in_range = go (at c (Cell_at m One)) refl
    where
      number : (content : Content) → ContentFits content → FitsSigned w64 (number_of (Some content))
      number (Number n) fits = fits
      number Mark fits = zero_fits
      number (Text w) fits = zero_fits

      go : (o : Option Held) → at c (Cell_at m One) ≡ o → FitsSigned w64 (number_of (option_map (λ (h : Held). h.content) o))
      go None e = zero_fits
      go (Some held) e = number held.content (right (Cell_at m One) held e).1.content

  pairs_in_range : AllByRecursion (λ (p : List ℕ × List ℕ). IsWord p.1) (gather text_cmp (pick_in m map_cell) c)
  pairs_in_range = of_cells text_cmp Rattle.host_types.proofs.Places.exact_texts (λ (p : List ℕ × List ℕ). IsWord p.1) m map_cell c s right is
    where
      is : (cell : Cell) (h : Held) (w : List ℕ × List ℕ) → CellFits cell × IsCellInRange cell → IsHeldInRange h → map_cell cell h ≡ Some w → IsWord w.1
      is (Named key) h w fits held e = word_there key h.content w held.content e
      is One h w fits held e = absurd (none_some e)
      is (Member_cell word) h w fits held e = absurd (none_some e)
      is (Pair key word) h w fits held e = absurd (none_some e)
      is (At i) h w fits held e = absurd (none_some e)
      is (Waiter a b) h w fits held e = absurd (none_some e)
      is (Of session) h w fits held e = absurd (none_some e)

  multimap_in_range : AllByRecursion (λ (p : List ℕ × List ℕ). IsWord p.1) (keys (gather pair_cmp (pick_in m pair_cell) c))
  multimap_in_range = all_keys (λ (p : List ℕ × List ℕ). IsWord p.1) _ (of_cells pair_cmp Rattle.log_model.proofs.kinds.Gather.exact_pairs (λ (w : (List ℕ × List ℕ) × Unit {0}). IsWord w.0.1) m pair_cell c s right is)
    where
      is : (cell : Cell) (h : Held) (w : (List ℕ × List ℕ) × Unit {0}) → CellFits cell × IsCellInRange cell → IsHeldInRange h → pair_cell cell h ≡ Some w → IsWord w.0.1
      is (Pair key word) h w fits held e = subst IsWord (ap (λ o. option_map_or (λ (w : (List ℕ × List ℕ) × Unit {0}). w.0.1) o word) e) fits.0.1
      is One h w fits held e = absurd (none_some e)
      is (Named key) h w fits held e = absurd (none_some e)
      is (Member_cell word) h w fits held e = absurd (none_some e)
      is (At i) h w fits held e = absurd (none_some e)
      is (Waiter a b) h w fits held e = absurd (none_some e)
      is (Of session) h w fits held e = absurd (none_some e)

  items_in_range : AllByRecursion (λ (x : ℕ × List ℕ). IsIndex x.0 × IsWord x.1) (gather nat_cmp (pick_in m item_cell) c)
  items_in_range = of_cells nat_cmp nat_cmp-IsAntisymmetric (λ (x : ℕ × List ℕ). IsIndex x.0 × IsWord x.1) m item_cell c s right is
    where
      is : (cell : Cell) (h : Held) (w : ℕ × List ℕ) → CellFits cell × IsCellInRange cell → IsHeldInRange h → item_cell cell h ≡ Some w → IsIndex w.0 × IsWord w.1
      is (At i) h w fits held e = (subst IsIndex (key_is i (text_in h.content) w e) fits.1, word_there i h.content w held.content e)
      is One h w fits held e = absurd (none_some e)
      is (Named key) h w fits held e = absurd (none_some e)
      is (Member_cell word) h w fits held e = absurd (none_some e)
      is (Pair key word) h w fits held e = absurd (none_some e)
      is (Waiter a b) h w fits held e = absurd (none_some e)
      is (Of session) h w fits held e = absurd (none_some e)

  waiters_in_range : AllByRecursion (λ (w : ℕ × ℕ). IsIndex w.0 × IsUnsigned w.1) (values (gather nat_cmp (pick_in m waiter_cell) c))
  waiters_in_range = all_values (λ (w : ℕ × ℕ). IsIndex w.0 × IsUnsigned w.1) _ (of_cells nat_cmp nat_cmp-IsAntisymmetric (λ (w : ℕ × (ℕ × ℕ)). IsIndex w.1.0 × IsUnsigned w.1.1) m waiter_cell c s right is)
    where
      is : (cell : Cell) (h : Held) (w : ℕ × (ℕ × ℕ)) → CellFits cell × IsCellInRange cell → IsHeldInRange h → waiter_cell cell h ≡ Some w → IsIndex w.1.0 × IsUnsigned w.1.1
      is (Waiter a b) h w fits held e = subst (λ (x : ℕ × ℕ). IsIndex x.0 × IsUnsigned x.1) (ap (λ o. option_map_or (λ (w : ℕ × (ℕ × ℕ)). w.1) o (a, b)) e) (fits.1, fits.0.1)
      is One h w fits held e = absurd (none_some e)
      is (Named key) h w fits held e = absurd (none_some e)
      is (Member_cell word) h w fits held e = absurd (none_some e)
      is (Pair key word) h w fits held e = absurd (none_some e)
      is (At i) h w fits held e = absurd (none_some e)
      is (Of session) h w fits held e = absurd (none_some e)

  members_in_range : AllByRecursion (λ (x : Member). IsIndex x.index) (values (gather nat_cmp (pick_in m member_of) c))
  members_in_range = all_values (λ (x : Member). IsIndex x.index) _ (of_cells nat_cmp nat_cmp-IsAntisymmetric (λ (w : ℕ × Member). IsIndex w.1.index) m member_of c s right is)
    where
      there : (i : ℕ) (h : Held) (word : Option (List ℕ)) (w : ℕ × Member) → IsIndex i → keyed_by i (option_map (λ word. record { index = i; session = Rattle.host_types.specs.Ranges.owner_number h.owner; word = word }) word) ≡ Some w → IsIndex w.1.index
      there i h None w fits e = absurd (none_some e)
      there i h (Some word) w fits e = subst IsIndex (ap (λ o. option_map_or (λ (w : ℕ × Member). w.1.index) o i) e) fits

      is : (cell : Cell) (h : Held) (w : ℕ × Member) → CellFits cell × IsCellInRange cell → IsHeldInRange h → member_of cell h ≡ Some w → IsIndex w.1.index
      is (At i) h w fits held e = there i h (text_in h.content) w fits.1 e
      is One h w fits held e = absurd (none_some e)
      is (Named key) h w fits held e = absurd (none_some e)
      is (Member_cell word) h w fits held e = absurd (none_some e)
      is (Pair key word) h w fits held e = absurd (none_some e)
      is (Waiter a b) h w fits held e = absurd (none_some e)
      is (Of session) h w fits held e = absurd (none_some e)

  pub read_in_range : (kind : Kind) → IsPlainInRange (plain_in kind m c)
  read_in_range Value = value_in_range
  read_in_range Counter = counter_in_range
  read_in_range Map = pairs_in_range
  read_in_range Multimap = multimap_in_range
  read_in_range Set = tt
  read_in_range Queue = items_in_range
  read_in_range Lock = waiters_in_range
  read_in_range Group = members_in_range
  read_in_range Topic = tt

-- ---- lawful

pub kind_lawful : (kind : Kind) → ResourceIsLawful kind (kind_decision kind)
kind_lawful kind m c op session index effect reply here asked decides =
    subst (λ k. IsLawful (instance_fits k m effect) c session index effect reply) (kind_read kind m c)
    (lawful_choice (record { kind = kind_of (plain_in kind m c); instance = m; cells = c; session = session; index = index }) (row (call_of [] m session index) (plain_in kind m c) op) effect reply
    (row_lawful c [] m session index here asked.session_in_range asked.index_in_range (plain_in kind m c) op asked.op_fits (read_in_range m c (T_from _ asked.rises) asked.in_range kind))
    decides)

-- ---- one owner

effect_suits : (c : Call) (kind : Kind) (e : Effect) → Rattle.log_model.proofs.plain.RowEffects.Suits c kind e → EffectSuits c.index c.session e
effect_suits c kind (Put m cell content owner) h = h.2
effect_suits c kind (Create name k) h = absurd h
effect_suits c kind (Delete name m) h = absurd h
effect_suits c kind Nothing h = tt
effect_suits c kind (Drop m cell) h = tt
effect_suits c kind (Wipe m) h = tt
effect_suits c kind (WipeKey m key) h = tt
effect_suits c kind (Tell m word) h = tt

suits_row : (c : Call) (kind : Kind) (r : Row) → RowSuits c kind r → SuitsRow c.index c.session r
suits_row c kind (Does effect reply next told) h = effect_suits c kind effect h.0
suits_row c kind (Out_of_range cur) h = tt
suits_row c kind Of_no_kind h = tt

-- what a kind decides to put has the owner that its place has
pub kind_owner : (kind : Kind) (m : ℕ) (c : Cells) (op : Op) (session index : ℕ) (effect : Effect) (reply : Reply) → (kind_decision kind).resolve m c op session index ≡ Decides effect reply → EffectSuits index session effect
kind_owner kind m c op session index effect reply decides =
    let call = call_of [] m session index in
    let plain = plain_in kind m c in
    suits_choice (kind_of plain) index session (row call plain op) effect reply (suits_row call (kind_of plain) (row call plain op) (row_suits call plain op)) decides

pub kind_one_owner : (kind : Kind) → ResourceHasOneOwner (kind_decision kind)
kind_one_owner kind m c d op op' session session' index index' effect effect' reply reply' apart decides decides' =
    suits_agree index index' session session' effect effect' apart (kind_owner kind m c op session index effect reply decides) (kind_owner kind m d op' session' index' effect' reply' decides')
