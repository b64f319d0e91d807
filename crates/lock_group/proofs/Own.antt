-- The members of a session: they are found among the cells that it owns, one after the other.
use Rattle.std.proofs.Common.{◌≡◌, ◌≢◌, ℕ, ◌+◌, ◌<◌, ◌==◌, Bool, true, false, cond, T, List, [], ◌∷◌, ◌++◌, length, Option, Some, None, IsTrue, refl, sym, ap, subst, ◌∙◌, eq-eqb, eqb-true, nat_lt, arith, zero, suc, Less, Equal, Greater}
use Rattle.std.proofs.lemmas.Bool.Decides.{nat_tests}
use Rattle.std.specs.Prelude.{IfSome}
use Rattle.std.specs.List.{filter}
use Rattle.std.specs.Option.{option_map, option_map_or}
use Rattle.std.specs.Ordering.{nat_cmp, ordering_then, is_le, is_lt}
use Rattle.std.specs.Cmp.{nat_cmp_total, nat_cmp_is, tied_itself}
use Rattle.std.specs.FinMap.{is_sorted, nat_cmp-IsAntisymmetric}
use Rattle.host_types.specs.declared.entry.Cell.{Cell}
use Rattle.host_types.specs.declared.entry.Cell.TheVariants.{One, Named, Member as Member_cell, Pair, At, Waiter, Of}
use Rattle.host_types.specs.declared.entry.Content.{Content}
use Rattle.host_types.specs.declared.entry.Content.TheVariants.{Mark, Text, Number}
use Rattle.host_types.specs.declared.entry.Kind.{Kind}
use Rattle.host_types.specs.declared.entry.Kind.TheVariants.{Group}
use Rattle.host_types.specs.Ranges.{owner_number}
use Rattle.host_types.specs.Cells.{Place, Name_at, Cell_at, Register_at, Alive_at, Held, Cells, at, cell_cmp, place_cmp, is_owned_by, is_of_kind}
use Rattle.log_model.specs.plain.Plain.{Member}
use Rattle.log_model.specs.kinds.Reading.{listed, picked_first, pick_in, values, keyed_by, text_in, member_in, member_of}
use Rattle.log_model.proofs.Lookups.{T_from}
use Rattle.log_model.proofs.kinds.Gather.{EachCell, at_order, each_cell, in_order, none_some, only_members, weaker_cell}
use Rattle.log_model.proofs.kinds.Listings.{AreOf, cell_of, from_least}
use Rattle.cell_table.specs.Lookups.{and_above, cells_from, cells_above, owned_of, AreInOrder}
use Rattle.lock_group.specs.Members.{members_in, members_from, members_above, member_seen, indexes_of, members_of as members_of_session, noted_of, its_cells, members_on, seen_in, left_of}
use Rattle.lock_group.proofs.Walk.{member_there, no_member_behind, seen_by, session_step, joined, none_left}

-- ---- each cell is one of the kind

abbrev IsOf : Kind → ℕ → Place × Held → Type 0
IsOf kind m e = (cell : Cell) × (e.0 ≡ Cell_at m cell) × (is_of_kind kind cell e.1.content ≡ true)

each_of : (kind : Kind) (m : ℕ) (c : Cells) → IsTrue (is_sorted place_cmp c) → AreOf kind m c → EachCell (IsOf kind m) c
each_of kind m c s own = weaker_cell (λ e. at c e.0 ≡ Some e.1) (IsOf kind m) (λ e there. own e.0 e.1 there) c (each_cell c (T_from _ s))

-- ---- which cells a session owns

-- the member of a cell has the cell's owner, or 0 where it has none
session_is : (k : ℕ) (h : Held) (x : Member) → member_in k h ≡ Some x → x.session ≡ owner_number h.owner
session_is k h x e = go (text_in h.content) e
  where
    go : (o : Option (List ℕ)) → option_map (λ (word : List ℕ). record { index = k; session = owner_number h.owner; word = word }) o ≡ Some x → x.session ≡ owner_number h.owner
    go None e = absurd (none_some e)
    go (Some word) e = sym (ap (λ o. option_map_or (λ (y : Member). y.session) o (owner_number h.owner)) e)

owned_alike : (session : ℕ) (owner : Option ℕ) → session ≢ 0 → is_owned_by session owner ≡ (owner_number owner == session)
owned_alike session None some = go (0 == session) refl
  where
    go : (b : Bool) → (0 == session) ≡ b → false ≡ b
    go false t = refl
    go true t = absurd (some (sym (eqb-true 0 session t)))
owned_alike session (Some other) some = go (session == other) refl (other == session) refl
  where
    go : (a : Bool) → (session == other) ≡ a → (b : Bool) → (other == session) ≡ b → a ≡ b
    go true s true t = refl
    go false s false t = refl
    go true s false t = absurd (let clash : true ≡ false = sym (eq-eqb other session (sym (eqb-true session other s))) ∙ t in (cc))
    go false s true t = absurd (let clash : true ≡ false = sym (eq-eqb session other (sym (eqb-true other session t))) ∙ s in (cc))

none_below : (n : ℕ) → is_le (nat_cmp 0 n) ≡ true
none_below zero = refl
none_below (suc n) = let low : 0 < suc n = omega arith in sym (ap is_le (nat_cmp_is 0 (suc n) Less low))

module _ (m session : ℕ) (some : session ≢ 0) where
  abbrev own : Place × Held → Bool
  own e = is_owned_by session e.1.owner

  abbrev from : Place × Held → Bool
  from e = is_le (place_cmp (Cell_at m (At 0)) e.0)

  abbrev listed_own : Cells → List Member
  listed_own c = values (listed (pick_in m member_of) (filter from (filter own c)))

  from_on : (e : Place × Held) (w : ℕ × Member) → pick_in m member_of e ≡ Some w → from e ≡ true
  from_on e w t =
      ap (λ p. is_le (place_cmp (Cell_at m (At 0)) p)) (member_there m e w t).0 ∙ ap (λ o. is_le (ordering_then o (cell_cmp (At 0) (At w.0)))) (tied_itself nat_cmp_total m)
      ∙ ap is_le (at_order 0 w.0) ∙ none_below w.0

  own_member : (e : Place × Held) (w : ℕ × Member) → pick_in m member_of e ≡ Some w → own e ≡ (w.1.session == session)
  own_member e w t = owned_alike session e.1.owner some ∙ ap (λ n. n == session) (sym (session_is w.0 e.1 w.1 (member_there m e w t).1))

  -- a session's members are those of the cells that it owns
  its_members : (c : Cells) → listed_own c ≡ members_of_session session (values (listed (pick_in m member_of) c))
  its_members [] = refl
  its_members (e ∷ c) = go (pick_in m member_of e) refl (its_members c)
    where
      skipped : pick_in m member_of e ≡ None → (a b : Bool) → values (listed (pick_in m member_of) (cond a (cond b (e ∷ filter from (filter own c)) (filter from (filter own c))) (filter from (filter own c)))) ≡ listed_own c
      skipped t true true = ap (λ o. values (picked_first o (listed (pick_in m member_of) (filter from (filter own c))))) t
      skipped t true false = refl
      skipped t false b = refl

      either : (a : Bool) → own e ≡ a → filter from (filter own (e ∷ c)) ≡ cond a (cond (from e) (e ∷ filter from (filter own c)) (filter from (filter own c))) (filter from (filter own c))
      either true t = ap (λ b. filter from (cond b (e ∷ filter own c) (filter own c))) t
      either false t = ap (λ b. filter from (cond b (e ∷ filter own c) (filter own c))) t

      go : (o : Option (ℕ × Member)) → pick_in m member_of e ≡ o → listed_own c ≡ members_of_session session (values (listed (pick_in m member_of) c)) → listed_own (e ∷ c) ≡ members_of_session session (values (picked_first o (listed (pick_in m member_of) c)))
      go None t so_far = ap (λ d. values (listed (pick_in m member_of) d)) (either (own e) refl) ∙ skipped t (own e) (from e) ∙ so_far
      go (Some w) t so_far = test (w.1.session == session) (own_member e w t)
        where
          test : (b : Bool) → own e ≡ b → listed_own (e ∷ c) ≡ cond b (w.1 ∷ members_of_session session (values (listed (pick_in m member_of) c))) (members_of_session session (values (listed (pick_in m member_of) c)))
          test false is = ap (λ d. values (listed (pick_in m member_of) d)) (either false is) ∙ so_far
          test true is =
              ap (λ d. values (listed (pick_in m member_of) d)) (either true is)
              ∙ ap (λ b. values (listed (pick_in m member_of) (cond b (e ∷ filter from (filter own c)) (filter from (filter own c))))) (from_on e w t)
              ∙ ap (λ o. values (picked_first o (listed (pick_in m member_of) (filter from (filter own c))))) t
              ∙ ap (λ (ms : List Member). w.1 ∷ ms) so_far

twice : (session : ℕ) (ms : List Member) → members_of_session session (members_of_session session ms) ≡ members_of_session session ms
twice session [] = refl
twice session (x ∷ ms) = go (x.session == session) refl (twice session ms)
  where
    go : (b : Bool) → (x.session == session) ≡ b → members_of_session session (members_of_session session ms) ≡ members_of_session session ms
        → members_of_session session (cond b (x ∷ members_of_session session ms) (members_of_session session ms)) ≡ cond b (x ∷ members_of_session session ms) (members_of_session session ms)
    go true t rest = ap (λ b. cond b (x ∷ members_of_session session (members_of_session session ms)) (members_of_session session (members_of_session session ms))) t ∙ ap (λ (l : List Member). x ∷ l) rest
    go false t rest = rest

-- all of them, from the least index on
pub all_left : (m : ℕ) (c : Cells) (session : ℕ) → T (is_sorted place_cmp c) → members_of_session session (members_on m (its_cells session c) 0) ≡ members_of_session session (members_in m c)
all_left m c session s = go (session == 0) refl
  where
    go : (b : Bool) → (session == 0) ≡ b → members_of_session session (members_on m (cond b c (owned_of session c)) 0) ≡ members_of_session session (members_in m c)
    go true t = ap (λ (es : List (ℕ × Member)). members_of_session session (values es)) (from_least m member_of At member_in at_order (λ k h. refl) only_members c s)
    go false t =
        let some : session ≢ 0 = λ e. let clash : true ≡ false = sym (eq-eqb session 0 e) ∙ t in absurd (cc) in
        ap (members_of_session session) (its_members m session some c) ∙ twice session (values (listed (pick_in m member_of) c))
        ∙ ap (λ (es : List (ℕ × Member)). members_of_session session (values es)) (sym (in_order nat_cmp_total nat_cmp-IsAntisymmetric m member_of At member_in at_order (λ k h. refl) only_members c s))

-- ---- from one index to the next

-- above an index is from the next one on
above_on : (i j : ℕ) → is_lt (nat_cmp i j) ≡ is_le (nat_cmp (i + 1) j)
above_on i j = go (nat_lt i j) refl (i == j) refl (nat_lt (i + 1) j) refl (i + 1 == j) refl
  where
    go : (a : Bool) → nat_lt i j ≡ a → (b : Bool) → (i == j) ≡ b → (c : Bool) → nat_lt (i + 1) j ≡ c → (d : Bool) → (i + 1 == j) ≡ d → is_lt (cond a Less (cond b Equal Greater)) ≡ is_le (cond c Less (cond d Equal Greater))
    go true a b t true c d e = refl
    go true a b t false c true e = refl
    go true a b t false c false e = absurd (let no : ⊥ = grind (arith, nat_tests, a, c, e) in no)
    go false a true t true c d e = absurd (let no : ⊥ = grind (arith, nat_tests, a, c) in no)
    go false a false t true c d e = absurd (let no : ⊥ = grind (arith, nat_tests, a, c) in no)
    go false a true t false c true e = absurd (let no : ⊥ = grind (arith, nat_tests, a, e) in no)
    go false a false t false c true e = absurd (let no : ⊥ = grind (arith, nat_tests, a, e) in no)
    go false a true t false c false e = refl
    go false a false t false c false e = refl

next_on : (m i : ℕ) (p : Place) → is_lt (place_cmp (Cell_at m (At i)) p) ≡ is_le (place_cmp (Cell_at m (At (i + 1))) p)
next_on m i (Name_at name) = refl
next_on m i (Register_at session) = refl
next_on m i (Alive_at session) = refl
next_on m i (Cell_at n cell) = elim (nat_cmp m n) as (λ o. is_lt (ordering_then o (cell_cmp (At i) cell)) ≡ is_le (ordering_then o (cell_cmp (At (i + 1)) cell))) [ Less ↦ refl | Equal ↦ cells cell | Greater ↦ refl ]
  where
    cells : (cell : Cell) → is_lt (cell_cmp (At i) cell) ≡ is_le (cell_cmp (At (i + 1)) cell)
    cells (At j) = ap is_lt (at_order i j) ∙ above_on i j ∙ sym (ap is_le (at_order (i + 1) j))
    cells One = refl
    cells (Named key) = refl
    cells (Member_cell word) = refl
    cells (Pair key word) = refl
    cells (Waiter a b) = refl
    cells (Of session) = refl

above_is_on : (m i : ℕ) (c : Cells) → cells_above m (At i) c ≡ cells_from m (At (i + 1)) c
above_is_on m i [] = refl
above_is_on m i (e ∷ c) = λ j. cond (next_on m i e.0 j) (e ∷ above_is_on m i c j) (above_is_on m i c j)

each_kept : (P : Place × Held → Type 0) (q : Place × Held → Bool) (c : Cells) → EachCell P c → EachCell P (filter q c)
each_kept P q [] h = tt
each_kept P q (e ∷ c) h = elim (q e) as (λ b. EachCell P (cond b (e ∷ filter q c) (filter q c))) [ true ↦ (h.0, each_kept P q c h.1) | false ↦ each_kept P q c h.1 ]

each_its : (P : Place × Held → Type 0) (session : ℕ) (c : Cells) → EachCell P c → EachCell P (its_cells session c)
each_its P session c h = elim (session == 0) as (λ b. EachCell P (cond b c (owned_of session c))) [ true ↦ h | false ↦ each_kept P (λ x. is_owned_by session x.1.owner) c h ]

at_seen : (i : ℕ) (held : Held) → is_of_kind Group (At i) held.content ≡ true → member_seen (At i) held ≡ Some (i, owner_number held.owner)
at_seen i held e = go held.content refl e
  where
    go : (x : Content) → held.content ≡ x → is_of_kind Group (At i) x ≡ true → member_seen (At i) held ≡ Some (i, owner_number held.owner)
    go (Text w) is t = ap (λ x. seen_by (keyed_by i (option_map (λ (word : List ℕ). record { index = i; session = owner_number held.owner; word = word }) (text_in x)))) is
    go Mark is t = absurd (cc)
    go (Number n) is t = absurd (cc)

-- what was found from an index on, of cells of a group
module _ (m : ℕ) (d : Cells) (each : EachCell (IsOf Group m) d) (session k : ℕ) where
  found_kind : (cell : Cell) (held : Held) → cells_from m (At k) d ≡ and_above m d (Some (cell, held)) → is_of_kind Group cell held.content ≡ true
  found_kind cell held found =
      let h : EachCell (IsOf Group m) (and_above m d (Some (cell, held))) = subst (EachCell (IsOf Group m)) found (each_kept (IsOf Group m) (λ x. is_le (place_cmp (Cell_at m (At k)) x.0)) d each) in
      ap (λ p. is_of_kind Group (cell_of p) held.content) h.0.1 ∙ h.0.2

  of_found : (o : Option (Cell × Held)) → cells_from m (At k) d ≡ and_above m d o → indexes_of (members_of_session session (members_on m d k)) ≡ indexes_of (members_of_session session (members_from m d o))
  of_found o found = ap (λ (l : Cells). indexes_of (members_of_session session (values (listed (pick_in m member_of) l)))) found

  found_left : (o : Option (Cell × Held)) → cells_from m (At k) d ≡ and_above m d o → left_of m d session (seen_in o) ≡ indexes_of (members_of_session session (members_on m d k))
  found_left None found = sym (of_found None found)
  found_left (Some x) found = go x.0 (found_kind x.0 x.1 found) ∙ sym (of_found (Some x) found ∙ session_step m d x.0 x.1 session)
    where
      go : (cell : Cell) → is_of_kind Group cell x.1.content ≡ true → left_of m d session (member_seen cell x.1) ≡ noted_of session (member_seen cell x.1) ++ indexes_of (members_of_session session (members_above m d cell))
      go (At i) e =
          let is = at_seen i x.1 e in
          ap (left_of m d session) is
          ∙ ap (λ (l : Cells). noted_of session (Some (i, owner_number x.1.owner)) ++ indexes_of (members_of_session session (values (listed (pick_in m member_of) l)))) (sym (above_is_on m i d))
          ∙ ap (λ o. noted_of session o ++ indexes_of (members_of_session session (members_above m d (At i)))) (sym is)
      go (Of a) e = sym (ap (λ ms. indexes_of (members_of_session session ms)) (no_member_behind m d a))
      go One e = absurd (cc)
      go (Named key) e = absurd (cc)
      go (Member_cell word) e = absurd (cc)
      go (Pair key word) e = absurd (cc)
      go (Waiter a b) e = absurd (cc)

  found_fewer : (o : Option (Cell × Held)) → cells_from m (At k) d ≡ and_above m d o → IfSome (seen_in o) (λ w. length (cells_from m (At (w.0 + 1)) d) < length (cells_from m (At k) d))
  found_fewer None found = tt
  found_fewer (Some x) found = go x.0 (found_kind x.0 x.1 found) found
    where
      go : (cell : Cell) → is_of_kind Group cell x.1.content ≡ true → cells_from m (At k) d ≡ and_above m d (Some (cell, x.1)) → IfSome (member_seen cell x.1) (λ w. length (cells_from m (At (w.0 + 1)) d) < length (cells_from m (At k) d))
      go (At i) e found =
          let more : length (cells_from m (At k) d) ≡ length (cells_above m (At i) d) + 1 = ap length found ∙ (let one : suc (length (cells_above m (At i) d)) ≡ length (cells_above m (At i) d) + 1 = omega arith in one) in
          let same : length (cells_above m (At i) d) ≡ length (cells_from m (At (i + 1)) d) = ap length (above_is_on m i d) in
          let less : length (cells_from m (At (i + 1)) d) < length (cells_from m (At k) d) = omega (arith, more, same) in
          subst (λ o. IfSome o (λ w. length (cells_from m (At (w.0 + 1)) d) < length (cells_from m (At k) d))) (sym (at_seen i x.1 e)) less
      go (Of a) e found = tt
      go One e found = absurd (cc)
      go (Named key) e found = absurd (cc)
      go (Member_cell word) e found = absurd (cc)
      go (Pair key word) e found = absurd (cc)
      go (Waiter a b) e found = absurd (cc)

each_of_group : (kind : Kind) (m : ℕ) (c : Cells) (session : ℕ) → kind ≡ Group → AreInOrder kind m c → EachCell (IsOf Group m) (its_cells session c)
each_of_group kind m c session group order =
    let own : AreInOrder Group m c = subst (λ k. AreInOrder k m c) group order in
    each_its (IsOf Group m) session c (each_of Group m c own.rise own.own)

pub left_is : (kind : Kind) (m : ℕ) (c : Cells) (session k : ℕ) → kind ≡ Group → AreInOrder kind m c → (o : Option (Cell × Held)) → cells_from m (At k) (its_cells session c) ≡ and_above m (its_cells session c) o
    → left_of m (its_cells session c) session (seen_in o) ≡ indexes_of (members_of_session session (members_on m (its_cells session c) k))
left_is kind m c session k group order o found = found_left m (its_cells session c) (each_of_group kind m c session group order) session k o found

pub left_fewer : (kind : Kind) (m : ℕ) (c : Cells) (session k : ℕ) → kind ≡ Group → AreInOrder kind m c → (o : Option (Cell × Held)) → cells_from m (At k) (its_cells session c) ≡ and_above m (its_cells session c) o
    → IfSome (seen_in o) (λ w. length (cells_from m (At (w.0 + 1)) (its_cells session c)) < length (cells_from m (At k) (its_cells session c)))
left_fewer kind m c session k group order o found = found_fewer m (its_cells session c) (each_of_group kind m c session group order) session k o found

-- what is gone so far, with those that are still to be found
abbrev pub AreGone : ℕ → Cells → ℕ → List ℕ → Option (ℕ × ℕ) → Type 0
AreGone m c session so_far next = so_far ++ left_of m (its_cells session c) session next ≡ indexes_of (members_of_session session (members_in m c))

abbrev pub still : ℕ → Cells → ℕ → Option (ℕ × ℕ) → ℕ
still m c session None = 0
still m c session (Some w) = length (cells_from m (At (w.0 + 1)) (its_cells session c)) + 1

pub gone_first : (m : ℕ) (c : Cells) (session : ℕ) (next : Option (ℕ × ℕ)) → T (is_sorted place_cmp c) → left_of m (its_cells session c) session next ≡ indexes_of (members_of_session session (members_on m (its_cells session c) 0)) → AreGone m c session [] next
gone_first m c session next s left = left ∙ ap indexes_of (all_left m c session s)

pub gone_on : (m : ℕ) (c : Cells) (session : ℕ) (so_far : List ℕ) (w : ℕ × ℕ) (next : Option (ℕ × ℕ)) → left_of m (its_cells session c) session next ≡ indexes_of (members_of_session session (members_on m (its_cells session c) (w.0 + 1)))
    → AreGone m c session so_far (Some w) → AreGone m c session (so_far ++ noted_of session (Some w)) next
gone_on m c session so_far w next left are =
    joined so_far (noted_of session (Some w)) (left_of m (its_cells session c) session next) ∙ ap (λ (l : List ℕ). so_far ++ (noted_of session (Some w) ++ l)) left ∙ are

pub gone_all : (m : ℕ) (c : Cells) (session : ℕ) (so_far : List ℕ) → AreGone m c session so_far None → so_far ≡ indexes_of (members_of_session session (members_in m c))
gone_all m c session so_far are = sym (none_left so_far) ∙ are

pub fewer_still : (m : ℕ) (c : Cells) (session k : ℕ) (next : Option (ℕ × ℕ)) → IfSome next (λ w. length (cells_from m (At (w.0 + 1)) (its_cells session c)) < length (cells_from m (At k) (its_cells session c))) → still m c session next < length (cells_from m (At k) (its_cells session c)) + 1
fewer_still m c session k None fewer = omega arith
fewer_still m c session k (Some w) fewer = omega (arith, fewer)
