-- The members of a group as its cells are walked, and what its listeners are told.
use Rattle.std.proofs.Common.{◌≡◌, ℕ, ◌+◌, ◌<◌, ◌≤◌, ◌==◌, ◌&&◌, ◌||◌, Bool, true, false, cond, not, T, List, [], ◌∷◌, ◌++◌, length, take, Option, Some, None, get_or, refl, sym, ap, subst, ◌∙◌, eq-eqb, eqb-true, arith, zero, suc}
use Rattle.std.proofs.lemmas.Bool.{and_parts, and_from}
use Rattle.std.proofs.lemmas.List.{take_more}
use Rattle.std.specs.List.{filter, list_any, flat_map}
use Rattle.std.specs.Option.{option_map, option_map_or}
use Rattle.std.specs.Ordering.{nat_cmp, ordering_then, eq_by_cmp, is_lt}
use Rattle.std.specs.Cmp.{nat_cmp_total, tied_itself}
use Rattle.std.specs.FinMap.{find, is_sorted, nat_cmp-IsAntisymmetric}
use Rattle.host_types.specs.declared.entry.Cell.{Cell}
use Rattle.host_types.specs.declared.entry.Cell.TheVariants.{One, Named, Member as Member_cell, Pair, At, Waiter, Of}
use Rattle.host_types.specs.declared.entry.Event.{Event}
use Rattle.host_types.specs.declared.entry.Event.TheVariants.{Left}
use Rattle.host_types.specs.Ranges.{owner_number}
use Rattle.host_types.specs.Cells.{Place, Cell_at, Held, Cells, cell_cmp, at, place_cmp}
use Rattle.log_model.specs.plain.Plain.{Member, without_item}
use Rattle.log_model.specs.kinds.Reading.{gather, listed, picked_first, pick_in, values, keys, text_in, member_in, member_of, listener_cell, listeners_in}
use Rattle.log_model.proofs.Lookups.{found_from_any, any_from_found}
use Rattle.log_model.proofs.kinds.Gather.{EachCell, none_some, read_at, sorted_gather, gathered_has, picked_there, find_gathered, at_order, only_members}
use Rattle.log_model.proofs.kinds.Listings.{from_least, listening, listeners_from}
use Rattle.cell_table.specs.Lookups.{and_above, cells_from, cells_above}
use Rattle.lock_group.specs.Members.{members_in, members_from, members_above, member_seen, indexes_of, members_of as members_of_session, noted, noted_of, is_listening, before_listeners, is_of_session, told_left, told_by_cell}

-- ---- where members' cells end

listed_none : {X : Type 0} (pick : Place × Held → Option (ℕ × X)) (q : Place × Held → Bool) (c : Cells) → ((e : Place × Held) (w : ℕ × X) → pick e ≡ Some w → q e ≡ false) → listed pick (filter q c) ≡ []
listed_none pick q [] none = refl
listed_none pick q (e ∷ c) none = go (pick e) refl (listed_none pick q c none)
  where
    skipped : (b : Bool) → pick e ≡ None → listed pick (filter q c) ≡ [] → listed pick (cond b (e ∷ filter q c) (filter q c)) ≡ []
    skipped true t rest = ap (λ o. picked_first o (listed pick (filter q c))) t ∙ rest
    skipped false t rest = rest

    go : (o : Option (ℕ × _)) → pick e ≡ o → listed pick (filter q c) ≡ [] → listed pick (cond (q e) (e ∷ filter q c) (filter q c)) ≡ []
    go None t rest = skipped (q e) t rest
    go (Some w) t rest = ap (λ b. listed pick (cond b (e ∷ filter q c) (filter q c))) (none e w t) ∙ rest

pub member_there : (m : ℕ) (e : Place × Held) (w : ℕ × Member) → pick_in m member_of e ≡ Some w → (e.0 ≡ Cell_at m (At w.0)) × (member_in w.0 e.1 ≡ Some w.1)
member_there m e w t = picked_there nat_cmp_total nat_cmp-IsAntisymmetric m member_of At member_in at_order (λ k h. refl) only_members e w t

pub no_member_behind : (m : ℕ) (c : Cells) (session : ℕ) → members_above m c (Of session) ≡ []
no_member_behind m c session = ap values (listed_none (pick_in m member_of) (λ e. is_lt (place_cmp (Cell_at m (Of session)) e.0)) c before)
  where
    before : (e : Place × Held) (w : ℕ × Member) → pick_in m member_of e ≡ Some w → is_lt (place_cmp (Cell_at m (Of session)) e.0) ≡ false
    before e w t = ap (λ p. is_lt (place_cmp (Cell_at m (Of session)) p)) (member_there m e w t).0 ∙ ap (λ o. is_lt (ordering_then o (cell_cmp (Of session) (At w.0)))) (tied_itself nat_cmp_total m)

-- a cell that was found, with its member
pub walked : (m : ℕ) (c : Cells) (cell : Cell) (held : Held) → members_from m c (Some (cell, held)) ≡ values (picked_first (member_of cell held) (listed (pick_in m member_of) (cells_above m cell c)))
walked m c cell held = ap (λ b. values (picked_first (cond b (member_of cell held) None) (listed (pick_in m member_of) (cells_above m cell c)))) (eq-eqb m m refl)

pub unlisted : (m : ℕ) (c : Cells) (o : Option (Cell × Held)) → members_from m c (before_listeners o) ≡ members_from m c o
unlisted m c None = refl
unlisted m c (Some (Of session, held)) = sym (walked m c (Of session) held ∙ no_member_behind m c session)
unlisted m c (Some (One, held)) = refl
unlisted m c (Some (Named key, held)) = refl
unlisted m c (Some (Member_cell word, held)) = refl
unlisted m c (Some (Pair key word, held)) = refl
unlisted m c (Some (At i, held)) = refl
unlisted m c (Some (Waiter a b, held)) = refl

pub fewer_unlisted : (m : ℕ) (c : Cells) (o : Option (Cell × Held)) → length (and_above m c (before_listeners o)) ≤ length (and_above m c o)
fewer_unlisted m c None = omega arith
fewer_unlisted m c (Some x) = go (is_listening x.0)
  where
    go : (b : Bool) → length (and_above m c (cond b None (Some x))) ≤ length (and_above m c (Some x))
    go true = omega arith
    go false = omega arith

pub members_first : (m : ℕ) (c : Cells) (o : Option (Cell × Held)) → T (is_sorted place_cmp c) → cells_from m (At 0) c ≡ and_above m c o → members_from m c (before_listeners o) ≡ members_in m c
members_first m c o s from =
    unlisted m c o ∙ ap (λ (d : Cells). values (listed (pick_in m member_of) d)) (sym from)
    ∙ ap values (from_least m member_of At member_in at_order (λ k h. refl) only_members c s)

pub members_next : (m : ℕ) (c : Cells) (cell : Cell) (o : Option (Cell × Held)) → cells_above m cell c ≡ and_above m c o → members_from m c (before_listeners o) ≡ members_above m c cell
members_next m c cell o above = unlisted m c o ∙ ap (λ (d : Cells). values (listed (pick_in m member_of) d)) (sym above)

pub fewer_next : (m : ℕ) (c : Cells) (cell : Cell) (o : Option (Cell × Held)) → cells_above m cell c ≡ and_above m c o → length (and_above m c (before_listeners o)) ≤ length (cells_above m cell c)
fewer_next m c cell o above = subst (λ (d : Cells). length (and_above m c (before_listeners o)) ≤ length d) (sym above) (fewer_unlisted m c o)

pub one_fewer : (m : ℕ) (c : Cells) (cell : Cell) (held : Held) (next : Option (Cell × Held)) → length (and_above m c next) ≤ length (cells_above m cell c) → length (and_above m c next) < length (and_above m c (Some (cell, held)))
one_fewer m c cell held next fewer = omega (arith, fewer)

-- ---- one step of a walk

pub none_left : {A : Type 0} (xs : List A) → xs ++ [] ≡ xs
none_left [] = refl
none_left (x ∷ xs) = ap (λ l. x ∷ l) (none_left xs)

pub joined : {A : Type 0} (xs ys zs : List A) → (xs ++ ys) ++ zs ≡ xs ++ (ys ++ zs)
joined [] ys zs = refl
joined (x ∷ xs) ys zs = ap (λ l. x ∷ l) (joined xs ys zs)

-- the member of a cell with those behind it
abbrev pub seen_by : Option (ℕ × Member) → Option (ℕ × ℕ)
seen_by o = option_map (λ e. (e.1.index, e.1.session)) o

module _ (m : ℕ) (c : Cells) (cell : Cell) (held : Held) where
  behind : Option (ℕ × Member) → List Member
  behind o = values (picked_first o (listed (pick_in m member_of) (cells_above m cell c)))

  pub indexes_step : indexes_of (members_from m c (Some (cell, held))) ≡ noted (member_seen cell held) ++ indexes_of (members_above m c cell)
  indexes_step = ap indexes_of (walked m c cell held) ∙ go (member_of cell held)
    where
      go : (o : Option (ℕ × Member)) → indexes_of (values (picked_first o (listed (pick_in m member_of) (cells_above m cell c)))) ≡ noted (seen_by o) ++ indexes_of (members_above m c cell)
      go None = refl
      go (Some w) = refl

  pub session_step : (session : ℕ) → indexes_of (members_of_session session (members_from m c (Some (cell, held)))) ≡ noted_of session (member_seen cell held) ++ indexes_of (members_of_session session (members_above m c cell))
  session_step session = ap (λ ms. indexes_of (members_of_session session ms)) (walked m c cell held) ∙ go (member_of cell held)
    where
      go : (o : Option (ℕ × Member)) → indexes_of (members_of_session session (values (picked_first o (listed (pick_in m member_of) (cells_above m cell c))))) ≡ noted_of session (seen_by o) ++ indexes_of (members_of_session session (members_above m c cell))
      go None = refl
      go (Some w) = elim (w.1.session == session) as (λ b. indexes_of (cond b (w.1 ∷ members_of_session session (members_above m c cell)) (members_of_session session (members_above m c cell))) ≡ cond b (w.1.index ∷ []) [] ++ indexes_of (members_of_session session (members_above m c cell))) [ true ↦ refl | false ↦ refl ]

-- what was noted so far, with the indexes that are still to come
abbrev pub AreNoted : ℕ → Cells → List ℕ → Option (Cell × Held) → Type 0
AreNoted m c so_far next = so_far ++ indexes_of (members_from m c next) ≡ indexes_of (members_in m c)

pub noted_on : (m : ℕ) (c : Cells) (so_far : List ℕ) (cell : Cell) (held : Held) (next : Option (Cell × Held)) → members_from m c next ≡ members_above m c cell → AreNoted m c so_far (Some (cell, held)) → AreNoted m c (so_far ++ noted (member_seen cell held)) next
noted_on m c so_far cell held next above are =
    joined so_far (noted (member_seen cell held)) (indexes_of (members_from m c next))
    ∙ ap (λ ms. so_far ++ (noted (member_seen cell held) ++ indexes_of ms)) above
    ∙ ap (λ (l : List ℕ). so_far ++ l) (sym (indexes_step m c cell held)) ∙ are

pub noted_all : (m : ℕ) (c : Cells) (so_far : List ℕ) → length so_far ≤ 64 → AreNoted m c so_far None → so_far ≡ take 64 (indexes_of (members_in m c))
noted_all m c so_far few are = short so_far 64 few ∙ ap (take 64) (sym (none_left so_far) ∙ are)
  where
    short : (xs : List ℕ) (n : ℕ) → length xs ≤ n → xs ≡ take n xs
    short [] zero h = refl
    short [] (suc n) h = refl
    short (x ∷ xs) zero h = absurd (omega (arith, h))
    short (x ∷ xs) (suc n) h = ap (λ l. x ∷ l) (short xs n (omega (arith, h)))

pub noted_full : (m : ℕ) (c : Cells) (so_far : List ℕ) (next : Option (Cell × Held)) → length so_far ≡ 64 → AreNoted m c so_far next → so_far ≡ take 64 (indexes_of (members_in m c))
noted_full m c so_far next full are = sym (cut so_far 64 (indexes_of (members_from m c next)) full) ∙ ap (take 64) are
  where
    cut : (xs : List ℕ) (n : ℕ) (ys : List ℕ) → length xs ≡ n → take n (xs ++ ys) ≡ xs
    cut [] zero ys h = refl
    cut [] (suc n) ys h = absurd (omega (arith, h))
    cut (x ∷ xs) zero ys h = absurd (omega (arith, h))
    cut (x ∷ xs) (suc n) ys h = ap (λ l. x ∷ l) (cut xs n ys (omega (arith, h)))

-- ---- whether a session has a member

each_all : (P : Place × Held → Type 0) → ((e : Place × Held) → P e) → (c : Cells) → EachCell P c
each_all P h [] = tt
each_all P h (e ∷ c) = (h e, each_all P h c)

any_values : (p : Member → Bool) (es : List (ℕ × Member)) → list_any p (values es) ≡ list_any (λ e. p e.1) es
any_values p [] = refl
any_values p (e ∷ es) = ap (λ b. p e.1 || b) (any_values p es)

numbered : (k : ℕ) (h : Held) (x : Member) → member_in k h ≡ Some x → x.index ≡ k
numbered k h x e = go (text_in h.content) e
  where
    go : (o : Option (List ℕ)) → option_map (λ (word : List ℕ). record { index = k; session = owner_number h.owner; word = word }) o ≡ Some x → x.index ≡ k
    go None e = absurd (none_some e)
    go (Some word) e = sym (ap (λ o. option_map_or (λ (y : Member). y.index) o k) e)

module _ (m : ℕ) (c : Cells) (s : T (is_sorted place_cmp c)) (session j : ℕ) where
  abbrev Members : List (ℕ × Member)
  Members = gather nat_cmp (pick_in m member_of) c

  index_is : (k : ℕ) (x : Member) → find nat_cmp k Members ≡ Some x → x.index ≡ k
  index_is k x f = gathered_has nat_cmp_total nat_cmp-IsAntisymmetric (pick_in m member_of) (λ k x. x.index ≡ k) k x c (each_all (λ e. (k : ℕ) (x : Member) → pick_in m member_of e ≡ Some (k, x) → x.index ≡ k) (λ e k x t. numbered k e.1 x (member_there m e (k, x) t).1) c) f

  abbrev test : ℕ × Member → Bool
  test e = e.1.index == j && e.1.session == session

  missing : (o : Option Member) → find nat_cmp j Members ≡ o → option_map_or (λ x. x.session == session) o false ≡ false → (b : Bool) → list_any test Members ≡ b → b ≡ false
  missing o f not_its false t = refl
  missing o f not_its true t =
      let r = found_from_any nat_cmp_total nat_cmp-IsAntisymmetric test Members (sorted_gather nat_cmp_total nat_cmp-IsAntisymmetric (pick_in m member_of) c) t in
      let tests = and_parts (r.1.index == j) (r.1.session == session) r.3 in
      let key : r.0 ≡ j = sym (index_is r.0 r.1 r.2) ∙ eqb-true r.1.index j tests.0 in
      let stands : Some r.1 ≡ o = sym r.2 ∙ ap (λ k. find nat_cmp k Members) key ∙ f in
      sym tests.1 ∙ ap (λ o. option_map_or (λ (x : Member). x.session == session) o false) stands ∙ not_its

  has_member : (o : Option Member) → find nat_cmp j Members ≡ o → list_any test Members ≡ option_map_or (λ x. x.session == session) o false
  has_member None f = missing None f refl (list_any test Members) refl
  has_member (Some x) f = go (x.session == session) refl
    where
      go : (b : Bool) → (x.session == session) ≡ b → list_any test Members ≡ b
      go false t = missing (Some x) f t (list_any test Members) refl
      go true t = any_from_found nat_cmp_total nat_cmp-IsAntisymmetric test Members j x f (and_from (x.index == j) (x.session == session) (eq-eqb x.index j (index_is j x f)) t)

  pub member_is : is_of_session session (at c (Cell_at m (At j))) ≡ list_any (λ x. x.index == j && x.session == session) (members_in m c)
  member_is =
      read (at c (Cell_at m (At j)))
      ∙ ap (λ o. option_map_or (λ (x : Member). x.session == session) o false) (sym (find_gathered nat_cmp_total nat_cmp-IsAntisymmetric m member_of At member_in at_order (λ k h. refl) only_members j c s))
      ∙ sym (has_member (find nat_cmp j Members) refl)
      ∙ sym (any_values (λ x. x.index == j && x.session == session) Members)
    where
      read : (o : Option Held) → is_of_session session o ≡ option_map_or (λ (x : Member). x.session == session) (read_at member_in j o) false
      read None = refl
      read (Some h) = elim (text_in h.content) as (λ o. option_map_or (λ (word : List ℕ). owner_number h.owner == session) o false ≡ option_map_or (λ (x : Member). x.session == session) (option_map (λ (word : List ℕ). record { index = j; session = owner_number h.owner; word = word }) o) false) [ None ↦ refl | Some word ↦ refl ]

-- ---- what the others are told where a session ends

pub left_more : (before told : List (ℕ × Event)) (name gone : List ℕ) (session i : ℕ) → i < length gone → told ≡ before ++ told_left name (take i gone) session → told ++ (session, Left name (get_or gone i 0)) ∷ [] ≡ before ++ told_left name (take (i + 1) gone) session
left_more before told name gone session i low so_far =
    ap (λ (l : List (ℕ × Event)). l ++ (session, Left name (get_or gone i 0)) ∷ []) so_far
    ∙ joined before (told_left name (take i gone) session) ((session, Left name (get_or gone i 0)) ∷ [])
    ∙ ap (λ (l : List (ℕ × Event)). before ++ l) (sym (mapped (take i gone) (get_or gone i 0)))
    ∙ ap (λ (l : List ℕ). before ++ told_left name l session) (sym (take_more gone i 0 low))
  where
    mapped : (xs : List ℕ) (x : ℕ) → told_left name (xs ++ x ∷ []) session ≡ told_left name xs session ++ (session, Left name x) ∷ []
    mapped [] x = refl
    mapped (y ∷ xs) x = ap (λ l. (session, Left name y) ∷ l) (mapped xs x)

abbrev pub to_others : List ℕ → List ℕ → ℕ → List ℕ → List (ℕ × Event)
to_others name gone closed listeners = flat_map (told_left name gone) (without_item nat_cmp closed listeners)

abbrev pub AreTold : ℕ → Cells → List ℕ → List ℕ → ℕ → List (ℕ × Event) → Option (Cell × Held) → Type 0
AreTold m c name gone closed told next = told ++ to_others name gone closed (listening m (and_above m c next)) ≡ to_others name gone closed (listeners_in m c)

pub told_first : (m : ℕ) (c : Cells) (name gone : List ℕ) (closed : ℕ) (o : Option (Cell × Held)) → T (is_sorted place_cmp c) → cells_from m (Of 0) c ≡ and_above m c o → AreTold m c name gone closed [] o
told_first m c name gone closed o s from = ap (λ (d : Cells). to_others name gone closed (listening m d)) (sym from) ∙ ap (to_others name gone closed) (listeners_from m c s)

pub told_on : (m : ℕ) (c : Cells) (name gone : List ℕ) (closed : ℕ) (told : List (ℕ × Event)) (cell : Cell) (held : Held) (next : Option (Cell × Held)) → cells_above m cell c ≡ and_above m c next → AreTold m c name gone closed told (Some (cell, held)) → AreTold m c name gone closed (told ++ told_by_cell name gone closed cell) next
told_on m c name gone closed told cell held next above are =
    joined told (told_by_cell name gone closed cell) (to_others name gone closed (listening m (and_above m c next)))
    ∙ ap (λ (d : Cells). told ++ (told_by_cell name gone closed cell ++ to_others name gone closed (listening m d))) (sym above)
    ∙ ap (λ (l : List (ℕ × Event)). told ++ l) (sym (step cell))
    ∙ ap (λ b. told ++ to_others name gone closed (keys (picked_first (cond b (listener_cell cell held) None) (listed (pick_in m listener_cell) (cells_above m cell c))))) (sym (eq-eqb m m refl))
    ∙ are
  where
    rest : List ℕ
    rest = listening m (cells_above m cell c)

    step : (d : Cell) → to_others name gone closed (keys (picked_first (listener_cell d held) (listed (pick_in m listener_cell) (cells_above m cell c)))) ≡ told_by_cell name gone closed d ++ to_others name gone closed (listening m (cells_above m cell c))
    step (Of session) = elim (eq_by_cmp nat_cmp closed session) as (λ b. flat_map (told_left name gone) (cond (not b) (session ∷ without_item nat_cmp closed (listening m (cells_above m cell c))) (without_item nat_cmp closed (listening m (cells_above m cell c)))) ≡ cond b [] (told_left name gone session) ++ to_others name gone closed (listening m (cells_above m cell c))) [ true ↦ refl | false ↦ refl ]
    step One = refl
    step (Named key) = refl
    step (Member_cell word) = refl
    step (Pair key word) = refl
    step (At i) = refl
    step (Waiter a b) = refl

pub told_none : (name gone : List ℕ) (closed : ℕ) (listeners : List ℕ) → true ≡ (length gone == 0) → to_others name gone closed listeners ≡ []
told_none name [] closed listeners e = go (without_item nat_cmp closed listeners)
  where
    go : (others : List ℕ) → flat_map (told_left name []) others ≡ []
    go [] = refl
    go (other ∷ others) = go others
told_none name (x ∷ gone) closed listeners e = absurd (let some = eqb-true (length (x ∷ gone)) 0 (sym e) in let no : ⊥ = omega (arith, some) in no)

pub told_all : (m : ℕ) (c : Cells) (name gone : List ℕ) (closed : ℕ) (told : List (ℕ × Event)) → AreTold m c name gone closed told None → told ≡ to_others name gone closed (listeners_in m c)
told_all m c name gone closed told are = sym (none_left told) ∙ are
