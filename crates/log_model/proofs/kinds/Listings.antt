-- What a kind reads of the cells of a table, which rise and are all of its kind and instance: by look-ups, by how many there are, and from the first on. For the
-- crates of the kinds.
use Rattle.std.proofs.Common.{◌≡◌, ℕ, zero, suc, ◌<◌, ◌==◌, Bool, true, false, cond, not, T, List, [], ◌∷◌, length, Option, Some, None, is_some, refl, sym, ap, ◌∙◌, eq-eqb, arith, Less}
use Rattle.std.proofs.lemmas.Bool.Decides.{Decides-eqb}
use Rattle.std.specs.Prelude.{IsTrue}
use Rattle.std.specs.List.{filter}
use Rattle.std.specs.Ordering.{nat_cmp, is_le}
use Rattle.std.specs.Cmp.{nat_cmp_total, nat_cmp_is}
use Rattle.std.specs.Cmp.Lexicographic.{nat_list_cmp_total}
use Rattle.std.specs.FinMap.{find, is_sorted, nat_cmp-IsAntisymmetric}
use Rattle.host_types.specs.declared.entry.Kind.{Kind}
use Rattle.host_types.specs.declared.entry.Kind.TheVariants.{Map, Multimap, Set}
use Rattle.host_types.specs.declared.entry.Cell.{Cell}
use Rattle.host_types.specs.declared.entry.Cell.TheVariants.{One, Named, Member as Member_cell, Pair, At, Waiter, Of}
use Rattle.host_types.specs.declared.entry.Content.{Content}
use Rattle.host_types.specs.declared.entry.Content.TheVariants.{Mark, Text, Number}
use Rattle.host_types.specs.Cells.{Place, Cell_at, Held, cell_cmp, place_cmp, text_cmp, Cells, at, stands, is_of_kind}
use Rattle.host_types.proofs.Places.{exact_texts}
use Rattle.log_model.specs.plain.Plain.{has_item, head_of, pair_cmp}
use Rattle.log_model.specs.kinds.Shows.{content_at}
use Rattle.log_model.specs.kinds.Reading.{gather, listed, pick_in, keys, keyed_by, text_in, text_of, map_cell, pair_cell, word_cell, item_cell, listener_cell, listeners_in}
use Rattle.log_model.proofs.Lookups.{T_from}
use Rattle.log_model.proofs.kinds.Gather.{EachCell, each_cell, weaker_cell, read_at, read_word, stood, read_stood, word_of, pair_total, exact_pairs, placed, picked_there, find_gathered, has_key, in_order, as_many, listed_kept, named_order, member_order, pair_order, at_order, of_order, only_named, only_words, only_pairs, only_items, only_listeners}

-- each cell is one of the kind and the instance
abbrev pub AreOf : Kind → ℕ → Cells → Type 0
AreOf kind m c = (place : Place) (held : Held) → at c place ≡ Some held → (cell : Cell) × (place ≡ Cell_at m cell) × (is_of_kind kind cell held.content ≡ true)

abbrev pub cell_of : Place → Cell
cell_of (Cell_at m cell) = cell
cell_of _ = One

pub keyed_some : {K X : Type 0} (k : K) (o : Option X) → is_some o ≡ true → is_some (keyed_by k o) ≡ true
keyed_some k None e = absurd (cc)
keyed_some k (Some x) e = refl

-- whatever is of the kind is picked
pub each_picked : {K X : Type 0} (kind : Kind) (m : ℕ) (pick : Cell → Held → Option (K × X)) → ((cell : Cell) (h : Held) → is_of_kind kind cell h.content ≡ true → is_some (pick cell h) ≡ true)
    → (c : Cells) → IsTrue (is_sorted place_cmp c) → AreOf kind m c → EachCell (λ e. is_some (pick_in m pick e) ≡ true) c
each_picked kind m pick all c s own = weaker_cell (λ e. at c e.0 ≡ Some e.1) (λ e. is_some (pick_in m pick e) ≡ true) here c (each_cell c (T_from _ s))
  where
    here : (e : Place × Held) → at c e.0 ≡ Some e.1 → is_some (pick_in m pick e) ≡ true
    here e there =
        let is = own e.0 e.1 there in
        ap (λ p. is_some (pick_in m pick (p, e.1))) is.1 ∙ ap (λ b. is_some (cond b (pick is.0 e.1) None)) (eq-eqb m m refl) ∙ all is.0 e.1 is.2

many_keys : {K : Type 0} (es : List (K × Unit {0})) → length (keys es) ≡ length es
many_keys [] = refl
many_keys (e ∷ es) = ap suc (many_keys es)

-- ---- maps

abbrev pub pairs_in : ℕ → Cells → List (List ℕ × List ℕ)
pairs_in m c = gather text_cmp (pick_in m map_cell) c

with_text : (key : List ℕ) (content : Content) → is_of_kind Map (Named key) content ≡ true → is_some (text_in content) ≡ true
with_text key (Text word) e = refl
with_text key Mark e = absurd (cc)
with_text key (Number n) e = absurd (cc)

of_map : (cell : Cell) (h : Held) → is_of_kind Map cell h.content ≡ true → is_some (map_cell cell h) ≡ true
of_map (Named key) h e = keyed_some key (text_in h.content) (with_text key h.content e)
of_map One h e = absurd (cc)
of_map (Member_cell word) h e = absurd (cc)
of_map (Pair key word) h e = absurd (cc)
of_map (At i) h e = absurd (cc)
of_map (Waiter a b) h e = absurd (cc)
of_map (Of a) h e = absurd (cc)

pub map_find : (m : ℕ) (c : Cells) → IsTrue (is_sorted place_cmp c) → (key : List ℕ) → find text_cmp key (pairs_in m c) ≡ text_of (content_at c (Cell_at m (Named key)))
map_find m c s key = find_gathered nat_list_cmp_total exact_texts m map_cell Named word_of named_order (λ k h. refl) only_named key c (T_from _ s) ∙ read_word key (at c (Cell_at m (Named key)))

pub map_has : (m : ℕ) (c : Cells) → IsTrue (is_sorted place_cmp c) → AreOf Map m c → (key : List ℕ) → is_some (find text_cmp key (pairs_in m c)) ≡ stands c (Cell_at m (Named key))
map_has m c s own key = ap is_some (find_gathered nat_list_cmp_total exact_texts m map_cell Named word_of named_order (λ k h. refl) only_named key c (T_from _ s)) ∙ go (at c (Cell_at m (Named key))) refl
  where
    text : (cell : Cell) (h : Held) → Cell_at m (Named key) ≡ Cell_at m cell → is_of_kind Map cell h.content ≡ true → is_some (text_in h.content) ≡ true
    text cell h same e = with_text key h.content (ap (λ p. is_of_kind Map (cell_of p) h.content) same ∙ e)

    go : (o : Option Held) → at c (Cell_at m (Named key)) ≡ o → is_some (read_at word_of key o) ≡ is_some o
    go None e = refl
    go (Some h) e = let is = own (Cell_at m (Named key)) h e in text is.0 h is.1 is.2

pub map_size : (m : ℕ) (c : Cells) → IsTrue (is_sorted place_cmp c) → AreOf Map m c → length (pairs_in m c) ≡ length c
map_size m c s own = as_many nat_list_cmp_total exact_texts m map_cell Named word_of named_order (λ k h. refl) only_named c (T_from _ s) (each_picked Map m map_cell of_map c s own)

-- ---- sets

abbrev pub words_in : ℕ → Cells → List (List ℕ)
words_in m c = keys (gather text_cmp (pick_in m word_cell) c)

of_set : (cell : Cell) (h : Held) → is_of_kind Set cell h.content ≡ true → is_some (word_cell cell h) ≡ true
of_set (Member_cell word) h e = refl
of_set One h e = absurd (cc)
of_set (Named key) h e = absurd (cc)
of_set (Pair key word) h e = absurd (cc)
of_set (At i) h e = absurd (cc)
of_set (Waiter a b) h e = absurd (cc)
of_set (Of a) h e = absurd (cc)

pub set_has : (m : ℕ) (c : Cells) → IsTrue (is_sorted place_cmp c) → (word : List ℕ) → has_item text_cmp word (words_in m c) ≡ stands c (Cell_at m (Member_cell word))
set_has m c s word = has_key nat_list_cmp_total exact_texts m word_cell Member_cell stood member_order (λ k h. refl) only_words word c (T_from _ s) ∙ read_stood word (at c (Cell_at m (Member_cell word)))

pub set_size : (m : ℕ) (c : Cells) → IsTrue (is_sorted place_cmp c) → AreOf Set m c → length (words_in m c) ≡ length c
set_size m c s own =
    many_keys (gather text_cmp (pick_in m word_cell) c)
    ∙ as_many nat_list_cmp_total exact_texts m word_cell Member_cell stood member_order (λ k h. refl) only_words c (T_from _ s) (each_picked Set m word_cell of_set c s own)

-- ---- multimaps

abbrev pub pair_place : List ℕ × List ℕ → Cell
pair_place p = Pair p.0 p.1

of_multimap : (cell : Cell) (h : Held) → is_of_kind Multimap cell h.content ≡ true → is_some (pair_cell cell h) ≡ true
of_multimap (Pair key word) h e = refl
of_multimap One h e = absurd (cc)
of_multimap (Named key) h e = absurd (cc)
of_multimap (Member_cell word) h e = absurd (cc)
of_multimap (At i) h e = absurd (cc)
of_multimap (Waiter a b) h e = absurd (cc)
of_multimap (Of a) h e = absurd (cc)

pub multimap_has : (m : ℕ) (c : Cells) → IsTrue (is_sorted place_cmp c) → (key word : List ℕ) → has_item pair_cmp (key, word) (keys (gather pair_cmp (pick_in m pair_cell) c)) ≡ stands c (Cell_at m (Pair key word))
multimap_has m c s key word =
    has_key pair_total exact_pairs m pair_cell pair_place stood pair_order (λ k h. refl) only_pairs (key, word) c (T_from _ s) ∙ read_stood {K = List ℕ × List ℕ} (key, word) (at c (Cell_at m (Pair key word)))

pub multimap_size : (m : ℕ) (c : Cells) → IsTrue (is_sorted place_cmp c) → AreOf Multimap m c → length (keys (gather pair_cmp (pick_in m pair_cell) c)) ≡ length c
multimap_size m c s own =
    many_keys (gather pair_cmp (pick_in m pair_cell) c)
    ∙ as_many pair_total exact_pairs m pair_cell pair_place stood pair_order (λ k h. refl) only_pairs c (T_from _ s) (each_picked Multimap m pair_cell of_multimap c s own)

-- the pairs in the order of their cells
pub multimap_pairs : (m : ℕ) (c : Cells) → IsTrue (is_sorted place_cmp c) → keys (gather pair_cmp (pick_in m pair_cell) c) ≡ keys (listed (pick_in m pair_cell) c)
multimap_pairs m c s = ap keys (in_order pair_total exact_pairs m pair_cell pair_place stood pair_order (λ k h. refl) only_pairs c (T_from _ s))

-- ---- numbers as keys

from_zero : (n : ℕ) → is_le (nat_cmp 0 n) ≡ true
from_zero zero = refl
from_zero (suc n) = let low : 0 < suc n = omega arith in sym (ap is_le (nat_cmp_is 0 (suc n) Less low))

module _ {X : Type 0} (m : ℕ) (pick : Cell → Held → Option (ℕ × X)) (place : ℕ → Cell) (read : ℕ → Held → Option X)
    (order : (k q : ℕ) → cell_cmp (place k) (place q) ≡ nat_cmp k q) (here : (k : ℕ) (h : Held) → pick (place k) h ≡ keyed_by k (read k h)) (only : (cell : Cell) (h : Held) (k : ℕ) (x : X) → pick cell h ≡ Some (k, x) → cell ≡ place k) where
  -- what is read stands from the place of the least number on
  pub from_least : (c : Cells) → T (is_sorted place_cmp c) → listed (pick_in m pick) (filter (λ e. is_le (place_cmp (Cell_at m (place 0)) e.0)) c) ≡ gather nat_cmp (pick_in m pick) c
  from_least c s = listed_kept (pick_in m pick) (λ e. is_le (place_cmp (Cell_at m (place 0)) e.0)) c behind ∙ sym (in_order nat_cmp_total nat_cmp-IsAntisymmetric m pick place read order here only c s)
    where
      behind : (e : Place × Held) (w : ℕ × X) → pick_in m pick e ≡ Some w → is_le (place_cmp (Cell_at m (place 0)) e.0) ≡ true
      behind e w t =
          let there = picked_there nat_cmp_total nat_cmp-IsAntisymmetric m pick place read order here only e w t in
          ap (λ p. is_le (place_cmp (Cell_at m (place 0)) p)) there.0 ∙ ap is_le (placed nat_cmp_total nat_cmp-IsAntisymmetric m pick place read order here only 0 w.0) ∙ from_zero w.0

-- ---- items and listeners

-- a queue's items, from the first on
abbrev pub items_in : ℕ → Cells → List (ℕ × List ℕ)
items_in m c = gather nat_cmp (pick_in m item_cell) c

pub items_from : (m : ℕ) (c : Cells) → T (is_sorted place_cmp c) → listed (pick_in m item_cell) (filter (λ e. is_le (place_cmp (Cell_at m (At 0)) e.0)) c) ≡ items_in m c
items_from m c s = from_least m item_cell At word_of at_order (λ k h. refl) only_items c s

pub as_many_items : (m : ℕ) (c : Cells) → T (is_sorted place_cmp c) → EachCell (λ e. is_some (pick_in m item_cell e) ≡ true) c → length (items_in m c) ≡ length c
as_many_items m c s own = as_many nat_cmp_total nat_cmp-IsAntisymmetric m item_cell At word_of at_order (λ k h. refl) only_items c s own

-- each session listens that has a cell
pub listens : (m session : ℕ) (c : Cells) → T (is_sorted place_cmp c) → has_item nat_cmp session (listeners_in m c) ≡ is_some (at c (Cell_at m (Of session)))
listens m session c s = has_key nat_cmp_total nat_cmp-IsAntisymmetric m listener_cell Of stood of_order (λ k h. refl) only_listeners session c s ∙ read_stood session (at c (Cell_at m (Of session)))

-- the listeners of cells, in their order
abbrev pub listening : ℕ → Cells → List ℕ
listening m c = keys (listed (pick_in m listener_cell) c)

pub listeners_from : (m : ℕ) (c : Cells) → T (is_sorted place_cmp c) → listening m (filter (λ e. is_le (place_cmp (Cell_at m (Of 0)) e.0)) c) ≡ listeners_in m c
listeners_from m c s = ap keys (from_least m listener_cell Of stood of_order (λ k h. refl) only_listeners c s)

pub as_many_listeners : (m : ℕ) (c : Cells) → T (is_sorted place_cmp c) → EachCell (λ e. is_some (pick_in m listener_cell e) ≡ true) c → length (listeners_in m c) ≡ length c
as_many_listeners m c s own = many_keys (gather nat_cmp (pick_in m listener_cell) c) ∙ as_many nat_cmp_total nat_cmp-IsAntisymmetric m listener_cell Of stood of_order (λ k h. refl) only_listeners c s own

-- ---- whether there is any

pub any_there : {A : Type 0} (xs : List A) → not (is_some (head_of xs)) ≡ (length xs == 0)
any_there [] = refl
any_there (x ∷ xs) = go (length (x ∷ xs) == 0) refl
  where
    go : (b : Bool) → (length (x ∷ xs) == 0) ≡ b → false ≡ b
    go false t = refl
    go true t = absurd (omega (arith, (Decides-eqb (length (x ∷ xs)) 0).0 t))
