-- The words of a key stand beside each other, from its least pair on.
use Rattle.std.proofs.Common.{◌≡◌, ℕ, ◌+◌, Bool, true, false, cond, List, [], ◌∷◌, ◌++◌, ◌≤◌, map, length, take, take_all, append-nil, append_assoc, Option, Some, None, is_some, refl, sym, ap, subst, ◌∙◌, arith, Ordering, Less, Equal, Greater, eq-eqb}
use Rattle.std.specs.Prelude.{IsTrue, IfSome}
use Rattle.std.specs.List.{filter, count_by, list_any}
use Rattle.std.specs.Ordering.{is_eq, is_le, is_lt, eq_by_cmp, ordering_then}
use Rattle.std.specs.Cmp.{tied_itself}
use Rattle.std.specs.FinMap.Entries.{is_sorted}
use Rattle.std.proofs.lemmas.List.Sums.{length-filter}
use Rattle.std.proofs.Math.Seq.{take-append_seam}
use Rattle.std.proofs.lemmas.Option.{none-some}
use mathlib.Core.Bool.{true≢false}
use Rattle.host_types.specs.declared.entry.Kind.TheVariants.{Multimap}
use Rattle.host_types.specs.declared.entry.Cell.{Cell}
use Rattle.host_types.specs.declared.entry.Content.{Content}
use Rattle.host_types.specs.declared.entry.Cell.TheVariants.{One, Named, Member, Pair, At, Waiter, Of}
use Rattle.host_types.specs.Cells.{Place, Cell_at, Held, Cells, at, stands, cell_cmp, place_cmp, is_of_kind, is_text, text_cmp}
use Rattle.host_types.specs.CellOrder.{cell_total}
use Rattle.host_types.proofs.Places.{exact_texts}
use Rattle.log_model.specs.plain.Plain.{pair_cmp}
use Rattle.log_model.specs.kinds.Reading.{gather, listed, picked_first, pick_in, keys, pair_cell}
use Rattle.log_model.proofs.Lookups.{T_from}
use Rattle.log_model.proofs.kinds.Gather.{EachCell, weaker_cell, each_cell}
use Rattle.log_model.proofs.kinds.Listings.{AreOf, pair_place, multimap_pairs}
use Rattle.cell_table.specs.Pairs.{is_pair_of, is_spelled, least_word}
use Rattle.cell_table.specs.Lookups.{cells_from, cells_above, and_above, AreInOrder}
use Rattle.cell_table.proofs.Paired.{above_pairs}
use Rattle.cell_table.proofs.Shown.{same_instance}
use Rattle.cell_table.proofs.Walks.{passes_first, from_upward}
use Rattle.multimap_resource.specs.Reading.{word_of, word_at, with_word, words_of}

-- ---- the words of a key among all pairs

-- its place is that of a pair
abbrev IsPair : ℕ → Place → Type 0
IsPair m place = (p : List ℕ × List ℕ) × (place ≡ Cell_at m (pair_place p))

pair_here : (m : ℕ) (cell : Cell) (content : Content) → is_of_kind Multimap cell content ≡ true → IsPair m (Cell_at m cell)
pair_here m (Pair key word) content e = ((key, word), refl)
pair_here m One content e = absurd (cc)
pair_here m (Named key) content e = absurd (cc)
pair_here m (Member word) content e = absurd (cc)
pair_here m (At i) content e = absurd (cc)
pair_here m (Waiter a b) content e = absurd (cc)
pair_here m (Of a) content e = absurd (cc)

pub words_are : (m : ℕ) (key : List ℕ) (c : Cells) → IsTrue (is_sorted place_cmp c) → AreOf Multimap m c → words_of key c ≡ map (λ p. p.1) (filter (λ p. is_text key p.0) (keys (gather pair_cmp (pick_in m pair_cell) c)))
words_are m key c s own =
    go c (weaker_cell (λ e. at c e.0 ≡ Some e.1) (λ e. IsPair m e.0) here c (each_cell c (T_from _ s)))
    ∙ ap (λ (ps : List (List ℕ × List ℕ)). map (λ (p : List ℕ × List ℕ). p.1) (filter (λ (p : List ℕ × List ℕ). is_text key p.0) ps)) (sym (multimap_pairs m c s))
  where
    here : (e : Place × Held) → at c e.0 ≡ Some e.1 → IsPair m e.0
    here e there = let is = own e.0 e.1 there in subst (IsPair m) (sym is.1) (pair_here m is.0 e.1.content is.2)

    one : (k w : List ℕ) (b : Bool) (rest : List (List ℕ × List ℕ)) → with_word (cond b (Some w) None) (map (λ (p : List ℕ × List ℕ). p.1) rest) ≡ map (λ (p : List ℕ × List ℕ). p.1) (cond b ((k, w) ∷ rest) rest)
    one k w true rest = refl
    one k w false rest = refl

    go : (d : Cells) → EachCell (λ e. IsPair m e.0) d → words_of key d ≡ map (λ (p : List ℕ × List ℕ). p.1) (filter (λ (p : List ℕ × List ℕ). is_text key p.0) (keys (listed (pick_in m pair_cell) d)))
    go [] h = refl
    go (e ∷ d) h =
        let p = h.0.0 in
        let picked : pick_in m pair_cell e ≡ Some (p, tt) = ap (λ q. pick_in m pair_cell (q, e.1)) h.0.1 ∙ ap (λ b. cond b (pair_cell (pair_place p) e.1) None) (eq-eqb m m refl) in
        (λ j. with_word (word_at key (h.0.1 j)) (go d h.1 j)) ∙ one p.0 p.1 (is_text key p.0) (filter (λ (q : List ℕ × List ℕ). is_text key q.0) (keys (listed (pick_in m pair_cell) d)))
        ∙ sym (ap (λ o. map (λ (q : List ℕ × List ℕ). q.1) (filter (λ (q : List ℕ × List ℕ). is_text key q.0) (keys (picked_first o (listed (pick_in m pair_cell) d))))) picked)

many_mapped : {A B : Type 0} (f : A → B) (xs : List A) → length (map f xs) ≡ length xs
many_mapped f [] = refl
many_mapped f (x ∷ xs) = omega (arith, many_mapped f xs)

pub count_are : (m : ℕ) (key : List ℕ) (c : Cells) → IsTrue (is_sorted place_cmp c) → AreOf Multimap m c → length (words_of key c) ≡ count_by (λ p. is_text key p.0) (keys (gather pair_cmp (pick_in m pair_cell) c))
count_are m key c s own =
    let ps = keys (gather pair_cmp (pick_in m pair_cell) c) in
    ap length (words_are m key c s own) ∙ many_mapped (λ (p : List ℕ × List ℕ). p.1) (filter (λ (p : List ℕ × List ℕ). is_text key p.0) ps) ∙ length-filter (λ (p : List ℕ × List ℕ). is_text key p.0) ps

-- ---- from the least pair on

-- what is found isn't below the least pair of the key
abbrev pub IsAbove : List ℕ → Option (Cell × Held) → Type 0
IsAbove key o = IfSome o (λ x. is_le (cell_cmp (Pair key least_word) x.0) ≡ true)

module _ (m : ℕ) (key : List ℕ) where
  abbrev pub least : Cell
  least = Pair key least_word

  same_text : (a b : List ℕ) → is_text a b ≡ true → a ≡ b
  same_text a b e = exact_texts a b (is_equal (text_cmp a b) e)
    where
      is_equal : (o : Ordering) → is_eq o ≡ true → o ≡ Equal
      is_equal Less e = absurd (cc)
      is_equal Equal e = refl
      is_equal Greater e = absurd (cc)

  -- a pair of the key isn't below the least one
  not_below : (cell : Cell) (word : List ℕ) → word_of key cell ≡ Some word → is_spelled cell ≡ true → is_le (cell_cmp least cell) ≡ true
  not_below (Pair other w) word e spelled = go (is_text key other) refl e
    where
      then_le : (o : Ordering) → is_le o ≡ true → is_le (ordering_then o Equal) ≡ true
      then_le Less h = refl
      then_le Equal h = refl
      then_le Greater h = h

      go : (b : Bool) → is_text key other ≡ b → cond b (Some w) None ≡ Some word → is_le (cell_cmp least (Pair other w)) ≡ true
      go true t is =
          ap (λ (k : List ℕ). is_le (cell_cmp least (Pair k w))) (sym (same_text key other t))
          ∙ ap (λ o. is_le (ordering_then o (ordering_then (text_cmp least_word w) Equal))) (tied_itself Rattle.std.specs.Cmp.Lexicographic.nat_list_cmp_total key)
          ∙ then_le (text_cmp least_word w) spelled
      go false t is = absurd (none-some word is)
  not_below One word e spelled = absurd (none-some word e)
  not_below (Named k) word e spelled = absurd (none-some word e)
  not_below (Member w) word e spelled = absurd (none-some word e)
  not_below (At i) word e spelled = absurd (none-some word e)
  not_below (Waiter a b) word e spelled = absurd (none-some word e)
  not_below (Of a) word e spelled = absurd (none-some word e)

  -- where whatever has a word passes, the words stay
  words_kept : (p : Place × Held → Bool) (c : Cells) → EachCell (λ e. (word : List ℕ) → word_at key e.0 ≡ Some word → p e ≡ true) c → words_of key (filter p c) ≡ words_of key c
  words_kept p [] h = refl
  words_kept p (e ∷ c) h = go (p e) refl (word_at key e.0) refl (words_kept p c h.1)
    where
      go : (b : Bool) → p e ≡ b → (o : Option (List ℕ)) → word_at key e.0 ≡ o → words_of key (filter p c) ≡ words_of key c → words_of key (cond b (e ∷ filter p c) (filter p c)) ≡ with_word o (words_of key c)
      go true t o w rest = (λ j. with_word (w j) (rest j))
      go false t None w rest = rest
      go false t (Some word) w rest = absurd (true≢false (sym (h.0 word w) ∙ t))

  -- where nothing that passes has a word, there is none
  no_words : (p : Place × Held → Bool) (c : Cells) → EachCell (λ e. p e ≡ true → word_at key e.0 ≡ None) c → words_of key (filter p c) ≡ []
  no_words p [] h = refl
  no_words p (e ∷ c) h = go (p e) refl (no_words p c h.1)
    where
      go : (b : Bool) → p e ≡ b → words_of key (filter p c) ≡ [] → words_of key (cond b (e ∷ filter p c) (filter p c)) ≡ []
      go true t rest = ap (λ o. with_word o (words_of key (filter p c))) (h.0 t) ∙ rest
      go false t rest = rest

  module _ (c : Cells) (order : AreInOrder Multimap m c) where
    each : EachCell (λ e. at c e.0 ≡ Some e.1) c
    each = each_cell c (T_from _ order.rise)

    pub from_least : words_of key (cells_from m least c) ≡ words_of key c
    from_least =
        words_kept (λ x. is_le (place_cmp (Cell_at m least) x.0)) c
        (weaker_cell (λ e. at c e.0 ≡ Some e.1) (λ e. (word : List ℕ) → word_at key e.0 ≡ Some word → is_le (place_cmp (Cell_at m least) e.0) ≡ true) up c each)
      where
        up : (e : Place × Held) → at c e.0 ≡ Some e.1 → (word : List ℕ) → word_at key e.0 ≡ Some word → is_le (place_cmp (Cell_at m least) e.0) ≡ true
        up e there word is =
            let k = order.own e.0 e.1 there in
            let stood : stands c (Cell_at m k.0) ≡ true = ap is_some (sym (ap (λ p. at c p) k.1) ∙ there) in
            ap (λ p. is_le (place_cmp (Cell_at m least) p)) k.1 ∙ ap is_le (same_instance m least k.0)
            ∙ not_below k.0 word (sym (ap (word_at key) k.1) ∙ is) (order.spelled k.0 stood)

    -- above a cell that is no pair of the key, but isn't below its least one, there is no word more
    pub none_above : (k : Cell) → word_of key k ≡ None → is_le (cell_cmp least k) ≡ true → words_of key (cells_above m k c) ≡ []
    none_above k out up =
        no_words (λ x. is_lt (place_cmp (Cell_at m k) x.0)) c
        (weaker_cell (λ e. at c e.0 ≡ Some e.1) (λ e. is_lt (place_cmp (Cell_at m k) e.0) ≡ true → word_at key e.0 ≡ None) above c each)
      where
        no_pair : (k : Cell) → word_of key k ≡ None → is_pair_of key k ≡ false
        no_pair (Pair other w) e = go (is_text key other) refl e
          where
            go : (b : Bool) → is_text key other ≡ b → cond b (Some w) None ≡ None → b ≡ false
            go true t is = absurd (none-some w (sym is))
            go false t is = refl
        no_pair One e = refl
        no_pair (Named k) e = refl
        no_pair (Member w) e = refl
        no_pair (At i) e = refl
        no_pair (Waiter a b) e = refl
        no_pair (Of a) e = refl

        clash : (o : Ordering) → o ≡ Less → is_lt o ≡ true → (q : Ordering) → q ≡ Less → q ≡ Greater → ⊥
        clash o e h q a b = absurd (let x : Less ≡ Greater = sym a ∙ b in (cc))

        over : (d : Cell) → is_lt (cell_cmp k d) ≡ true → word_of key d ≡ None
        over (Pair other w) h = go (is_text key other) refl
          where
            flipped : (o : Ordering) → is_lt o ≡ true → Rattle.std.specs.Ordering.ordering_reverse o ≡ Greater
            flipped Less e = refl
            flipped Equal e = absurd (cc)
            flipped Greater e = absurd (cc)

            go : (b : Bool) → is_text key other ≡ b → cond b (Some w) None ≡ None
            go false t = refl
            go true t =
                let low : cell_cmp (Pair other w) k ≡ Less = ap (λ (x : List ℕ). cell_cmp (Pair x w) k) (sym (same_text key other t)) ∙ above_pairs key w k (no_pair k out) up in
                let high : cell_cmp (Pair other w) k ≡ Greater = cell_total.antisymm (Pair other w) k ∙ flipped (cell_cmp k (Pair other w)) h in
                absurd (clash Less refl refl (cell_cmp (Pair other w) k) low high)
        over One h = refl
        over (Named x) h = refl
        over (Member x) h = refl
        over (At i) h = refl
        over (Waiter a b) h = refl
        over (Of a) h = refl

        above : (e : Place × Held) → at c e.0 ≡ Some e.1 → is_lt (place_cmp (Cell_at m k) e.0) ≡ true → word_at key e.0 ≡ None
        above e there h =
            let d = order.own e.0 e.1 there in
            ap (word_at key) d.1 ∙ over d.0 (sym (ap is_lt (same_instance m k d.0)) ∙ sym (ap (λ p. is_lt (place_cmp (Cell_at m k) p)) d.1) ∙ h)

    pub first_up : (o : Option (Cell × Held)) → cells_from m least c ≡ and_above m c o → IsAbove key o
    first_up None e = tt
    first_up (Some x) e = sym (ap is_le (same_instance m least x.0)) ∙ passes_first (λ y. is_le (place_cmp (Cell_at m least) y.0)) c _ _ e

    pub next_up : (k : Cell) (o : Option (Cell × Held)) → is_le (cell_cmp least k) ≡ true → cells_above m k c ≡ and_above m c o → IsAbove key o
    next_up k None up e = tt
    next_up k (Some x) up e =
        sym (ap is_le (same_instance m least x.0))
        ∙ from_upward (Cell_at m least) (Cell_at m k) (Cell_at m x.0) (ap is_le (same_instance m least k) ∙ up) (passes_first (λ y. is_lt (place_cmp (Cell_at m k) y.0)) c _ _ e)

-- ---- one step of a walk

module _ (m : ℕ) (key : List ℕ) (c : Cells) (o : Option (Cell × Held)) (k : Cell) (h : Held) (is : o ≡ Some (k, h)) where
  pub step_words : (word : List ℕ) → word_of key k ≡ Some word → words_of key (and_above m c o) ≡ word ∷ words_of key (cells_above m k c)
  step_words word w = ap (λ o. words_of key (and_above m c o)) is ∙ ap (λ o. with_word o (words_of key (cells_above m k c))) w

  pub step_length : length (and_above m c o) ≡ length (cells_above m k c) + 1
  step_length = ap (λ o. length (and_above m c o)) is ∙ (let e : length ((Cell_at m k, h) ∷ cells_above m k c) ≡ length (cells_above m k c) + 1 = omega arith in e)

  pub is_up : IsAbove key o → is_le (cell_cmp (Pair key least_word) k) ≡ true
  is_up up = subst (IsAbove key) is up

  pub stop_words : AreInOrder Multimap m c → IsAbove key o → word_of key k ≡ None → words_of key (and_above m c o) ≡ []
  stop_words order up none = ap (λ o. words_of key (and_above m c o)) is ∙ ap (λ o. with_word o (words_of key (cells_above m k c))) none ∙ none_above m key c order k none (is_up up)

-- all have been copied
pub all_copied : (words rest all : List (List ℕ)) → length words ≤ 16 → words ++ rest ≡ all → rest ≡ [] → words ≡ take 16 all
all_copied words rest all few copied none =
    let is : words ≡ all = sym (append-nil words) ∙ sym (ap (λ r. words ++ r) none) ∙ copied in
    is ∙ sym (take_all 16 all (subst (λ (ws : List (List ℕ)). length ws ≤ 16) is few))

-- as many have been copied as there may be
pub full_copied : (words rest all : List (List ℕ)) → length words ≡ 16 → words ++ rest ≡ all → words ≡ take 16 all
full_copied words rest all full copied = sym (take-append_seam words rest) ∙ (λ j. take (full j) (copied j))

pub one_copied : (words rest all more : List (List ℕ)) (word : List ℕ) → words ++ rest ≡ all → rest ≡ word ∷ more → (words ++ word ∷ []) ++ more ≡ all
one_copied words rest all more word copied is = append_assoc words (word ∷ []) more ∙ ap (λ r. words ++ r) (sym is) ∙ copied
