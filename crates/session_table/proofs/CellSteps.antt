-- What an entry makes of the table's part of the cells.
use Rattle.std.proofs.Common.{◌≡◌, ℕ, ◌<◌, ◌≤◌, ◌==◌, ◌||◌, Bool, true, false, not, cond, List, [], ◌∷◌, ◌++◌, map, Option, Some, None, is_some, Ordering, Less, Equal, Greater, refl, sym, ap, subst, ◌∙◌, arith, append_assoc, eqb-true, eq-eqb}
use Rattle.std.proofs.lemmas.Bool.{false_from_ne_true}
use Rattle.std.proofs.lemmas.Option.{none-some, same_Some}
use Rattle.std.specs.Cmp.{nat_cmp_is}
use Rattle.std.specs.List.{filter, find, flat_map}
use Rattle.std.specs.FinMap.Entries as entries
use Rattle.std.specs.FinMap.Entries.{by_order}
use Rattle.std.specs.Ordering.{nat_cmp, ordering_then, is_eq, eq_by_cmp}
use Rattle.host_types.specs.Cells.{Place, Name_at, Cell_at, Register_at, Alive_at, Held, Cells, place_cmp, at, stands, marked, is_met, is_owned_by}
use Rattle.host_types.specs.declared.entry.Body.TheVariants.{Register, Alive, Close}
use Rattle.log_model.specs.cleaning.Cells.{after, is_session_place, uncovered}
use Rattle.host_types.proofs.Places.{place_total, exact_places}
use Rattle.log_model.proofs.Lookups.{tied_true}
use Rattle.event_batches.specs.Rising.{Rises, AreBelow}
use Rattle.slab.specs.Slab.{get}
use Rattle.std.specs.Option.{option_map, IsSomeAnd}
use Rattle.session_table.specs.Kept.{Kept_session}
use Rattle.session_table.specs.Rows.{Slots, row_at, kept_in, one_seat, seats, AreSeated, beside_of}
use Rattle.session_table.specs.Inside.{table, IsInOrder}
use Rattle.session_table.specs.declared.order.Row.{Row}
use Rattle.session_table.specs.declared.sessions.Sessions.TheInside.{Inside}
use Rattle.session_table.proofs.Seats.{registers}
use Rattle.session_table.proofs.Tables.{shown_beside, reads_beside}
use Rattle.session_table.proofs.Walks.{ids_of as session_ids}
use Rattle.session_table.specs.Table.{Beside, Table, ids, beside_changed, beside_alive}
use Rattle.session_table.specs.Places.{alive_place, cells_of}

abbrev ids_of : List Beside → List ℕ
ids_of bs = map (λ b. b.id) bs

abbrev register_cell : Beside → Place × Held
register_cell b = (Register_at b.id, marked b.id)

abbrev alive_cells : List Beside → Cells
alive_cells bs = flat_map (λ b. alive_place b.id b.alive) bs

-- ---- the order of places

less_number : (n m : ℕ) → n < m → nat_cmp n m ≡ Less
less_number n m l = sym (nat_cmp_is n m Less l)

more_number : (n m : ℕ) → m < n → nat_cmp n m ≡ Greater
more_number n m l = sym (nat_cmp_is n m Greater l)

same_number : (n m : ℕ) → n ≡ m → nat_cmp n m ≡ Equal
same_number n m e = sym (nat_cmp_is n m Equal e)

registers_order : (n m : ℕ) → place_cmp (Register_at n) (Register_at m) ≡ nat_cmp n m
registers_order n m = go (nat_cmp n m)
  where
    go : (o : Ordering) → ordering_then o Equal ≡ o
    go Less = refl
    go Equal = refl
    go Greater = refl

alives_order : (n m : ℕ) → place_cmp (Alive_at n) (Alive_at m) ≡ nat_cmp n m
alives_order n m = go (nat_cmp n m)
  where
    go : (o : Ordering) → ordering_then o Equal ≡ o
    go Less = refl
    go Equal = refl
    go Greater = refl

-- ---- a register entry

-- only alive places, above this number
abbrev AreAlive : ℕ → Cells → Type 0
AreAlive low [] = Unit {0}
AreAlive low ((Alive_at n, h) ∷ cs) = (low < n) × AreAlive n cs
AreAlive low (_ ∷ cs) = ⊥

alive_lower : (low high : ℕ) (cs : Cells) → low ≤ high → AreAlive high cs → AreAlive low cs
alive_lower low high [] l a = tt
alive_lower low high ((Alive_at n, h) ∷ cs) l a = (omega (arith, l, a.0), a.1)
alive_lower low high ((Name_at name, h) ∷ cs) l a = a
alive_lower low high ((Cell_at instance cell, h) ∷ cs) l a = a
alive_lower low high ((Register_at n, h) ∷ cs) l a = a

alive_rise : (low : ℕ) (bs : List Beside) → Rises low (ids_of bs) → AreAlive low (alive_cells bs)
alive_rise low [] r = tt
alive_rise low (b ∷ bs) r = go b.alive (alive_rise b.id bs r.1)
  where
    go : (o : Option ℕ) → AreAlive b.id (alive_cells bs) → AreAlive low (alive_place b.id o ++ alive_cells bs)
    go None later = alive_lower low b.id (alive_cells bs) (omega (arith, r.0)) later
    go (Some index) later = (r.0, later)

put_first : (i : ℕ) (h : Held) (low : ℕ) (cs : Cells) → AreAlive low cs → entries.put place_cmp (Register_at i) h cs ≡ (Register_at i, h) ∷ cs
put_first i h low [] a = refl
put_first i h low ((Alive_at n, x) ∷ cs) a = refl
put_first i h low ((Name_at name, x) ∷ cs) a = absurd a
put_first i h low ((Cell_at instance cell, x) ∷ cs) a = absurd a
put_first i h low ((Register_at n, x) ∷ cs) a = absurd a

put_register : (i : ℕ) (h : Held) (low : ℕ) (bs : List Beside) (cs : Cells) → AreBelow i (ids_of bs) → AreAlive low cs → entries.put place_cmp (Register_at i) h (map register_cell bs ++ cs) ≡ map register_cell bs ++ (Register_at i, h) ∷ cs
put_register i h low [] cs below a = put_first i h low cs a
put_register i h low (b ∷ bs) cs below a =
    ap (λ o. by_order o ((Register_at i, h) ∷ register_cell b ∷ map register_cell bs ++ cs) ((Register_at b.id, h) ∷ map register_cell bs ++ cs) (register_cell b ∷ entries.put place_cmp (Register_at i) h (map register_cell bs ++ cs))) (registers_order i b.id ∙ more_number i b.id below.0)
    ∙ ap (λ l. register_cell b ∷ l) (put_register i h low bs cs below.1 a)

filter_all : {A : Type 0} (p : A → Bool) → ((x : A) → p x ≡ true) → (xs : List A) → filter p xs ≡ xs
filter_all p h [] = refl
filter_all p h (x ∷ xs) = ap (λ b. cond b (x ∷ filter p xs) (filter p xs)) (h x) ∙ ap (λ l. x ∷ l) (filter_all p h xs)

never_met : (place : Place) (o : Option Held) → is_met (λ p h. false) place o ≡ false
never_met place None = refl
never_met place (Some h) = refl

none_covered : (c : Cells) → filter (λ e. not (is_met (λ p h. false) e.0 (at c e.0))) c ≡ c
none_covered c = filter_all (λ e. not (is_met (λ p h. false) e.0 (at c e.0))) (λ e. ap not (never_met e.0 (at c e.0))) c

registers_push : (bs : List Beside) (b : Beside) (cs : Cells) → map register_cell (bs ++ b ∷ []) ++ cs ≡ map register_cell bs ++ register_cell b ∷ cs
registers_push [] b cs = refl
registers_push (x ∷ bs) b cs = ap (λ l. register_cell x ∷ l) (registers_push bs b cs)

alives_push : (bs : List Beside) (id confirmed : ℕ) → alive_cells (bs ++ record { id = id; alive = None; confirmed = confirmed } ∷ []) ≡ alive_cells bs
alives_push [] id confirmed = refl
alives_push (x ∷ bs) id confirmed = ap (λ l. alive_place x.id x.alive ++ l) (alives_push bs id confirmed)

pub register_cells : (bs : List Beside) (i time timeout : ℕ) → Rises 0 (ids_of bs) → AreBelow i (ids_of bs) → cells_of (bs ++ record { id = i; alive = None; confirmed = i } ∷ []) ≡ after (cells_of bs) i (record { time = time; body = Register timeout })
register_cells bs i time timeout rises below =
    registers_push bs (record { id = i; alive = None; confirmed = i }) (alive_cells (bs ++ record { id = i; alive = None; confirmed = i } ∷ []))
    ∙ ap (λ cs. map register_cell bs ++ (Register_at i, marked i) ∷ cs) (alives_push bs i i)
    ∙ sym (ap (entries.put place_cmp (Register_at i) (marked i)) (none_covered (cells_of bs)) ∙ put_register i (marked i) 0 bs (alive_cells bs) below (alive_rise 0 bs rises))

-- ---- a keep-alive

stands_open : (id : ℕ) (bs : List Beside) (b : Beside) (cs : Cells) → find (λ b. b.id == id) bs ≡ Some b → stands (map register_cell bs ++ cs) (Register_at id) ≡ true
stands_open id [] b cs e = absurd (none-some b e)
stands_open id (x ∷ bs) b cs e = go (x.id == id) refl e (stands_open id bs b cs)
  where
    or_later : (q : Bool) (h : Held) (o : Option Held) → is_some o ≡ true → is_some (cond q (Some h) o) ≡ true
    or_later true h o e = refl
    or_later false h o e = e

    go : (q : Bool) → (x.id == id) ≡ q → cond q (Some x) (find (λ b. b.id == id) bs) ≡ Some b → (find (λ b. b.id == id) bs ≡ Some b → stands (map register_cell bs ++ cs) (Register_at id) ≡ true) → stands (register_cell x ∷ map register_cell bs ++ cs) (Register_at id) ≡ true
    go true t e later =
        let here : eq_by_cmp place_cmp (Register_at id) (Register_at x.id) ≡ true = ap is_eq (registers_order id x.id ∙ same_number id x.id (sym (eqb-true x.id id t))) in
        ap (λ q. is_some (cond q (Some (marked x.id)) (at (map register_cell bs ++ cs) (Register_at id)))) here
    go false t e later = or_later (eq_by_cmp place_cmp (Register_at id) (Register_at x.id)) (marked x.id) (at (map register_cell bs ++ cs) (Register_at id)) (later e)

put_behind : (id : ℕ) (h : Held) (bs : List Beside) (cs : Cells) → entries.put place_cmp (Alive_at id) h (map register_cell bs ++ cs) ≡ map register_cell bs ++ entries.put place_cmp (Alive_at id) h cs
put_behind id h [] cs = refl
put_behind id h (b ∷ bs) cs = ap (λ l. register_cell b ∷ l) (put_behind id h bs cs)

put_before : (id : ℕ) (h : Held) (low : ℕ) (cs : Cells) → id ≤ low → AreAlive low cs → entries.put place_cmp (Alive_at id) h cs ≡ (Alive_at id, h) ∷ cs
put_before id h low [] l a = refl
put_before id h low ((Alive_at n, x) ∷ cs) l a =
    ap (λ o. by_order o ((Alive_at id, h) ∷ (Alive_at n, x) ∷ cs) ((Alive_at n, h) ∷ cs) ((Alive_at n, x) ∷ entries.put place_cmp (Alive_at id) h cs)) (alives_order id n ∙ less_number id n (omega (arith, l, a.0)))
put_before id h low ((Name_at name, x) ∷ cs) l a = absurd a
put_before id h low ((Cell_at instance cell, x) ∷ cs) l a = absurd a
put_before id h low ((Register_at n, x) ∷ cs) l a = absurd a

unchanged_above : (id : ℕ) (f : Beside → Beside) (low : ℕ) (bs : List Beside) → id ≤ low → Rises low (ids_of bs) → beside_changed id f bs ≡ bs
unchanged_above id f low [] l r = refl
unchanged_above id f low (b ∷ bs) l r =
    let up : id < b.id = omega (arith, l, r.0) in
    let other : (b.id == id) ≡ false = false_from_ne_true (b.id == id) (λ t. let e = eqb-true b.id id t in absurd (omega (arith, e, up))) in
    (λ i. cond (other i) (f b) b ∷ unchanged_above id f b.id bs (omega (arith, up)) r.1 i)

abbrev renewed : ℕ → ℕ → ℕ → List Beside → List Beside
renewed id index event bs = beside_changed id (beside_alive index event) bs

registers_renewed : (id index event : ℕ) (bs : List Beside) → map register_cell (renewed id index event bs) ≡ map register_cell bs
registers_renewed id index event [] = refl
registers_renewed id index event (b ∷ bs) = (λ i. one (b.id == id) i ∷ registers_renewed id index event bs i)
  where
    one : (q : Bool) → register_cell (cond q (beside_alive index event b) b) ≡ register_cell b
    one true = refl
    one false = refl

found_above : (id low : ℕ) (bs : List Beside) (b : Beside) → Rises low (ids_of bs) → find (λ b. b.id == id) bs ≡ Some b → low < id
found_above id low [] b r e = absurd (none-some b e)
found_above id low (x ∷ bs) b r e = go (x.id == id) refl e (found_above id x.id bs b r.1)
  where
    go : (q : Bool) → (x.id == id) ≡ q → cond q (Some x) (find (λ b. b.id == id) bs) ≡ Some b → (find (λ b. b.id == id) bs ≡ Some b → x.id < id) → low < id
    go true t e later = let is = eqb-true x.id id t in omega (arith, is, r.0)
    go false t e later = let up = later e in omega (arith, up, r.0)

put_alive : (id index event low : ℕ) (bs : List Beside) (b : Beside) → Rises low (ids_of bs) → find (λ b. b.id == id) bs ≡ Some b → alive_cells (renewed id index event bs) ≡ entries.put place_cmp (Alive_at id) (marked index) (alive_cells bs)
put_alive id index event low [] b r e = absurd (none-some b e)
put_alive id index event low (x ∷ bs) b r e = go (x.id == id) refl e (put_alive id index event x.id bs b r.1)
  where
    rest : Cells
    rest = alive_cells bs

    -- here: it is put before what follows, or in place of the one before
    here : (o : Option ℕ) → (n : ℕ) → n ≡ id → AreAlive n rest → (Alive_at n, marked index) ∷ rest ≡ entries.put place_cmp (Alive_at id) (marked index) (alive_place n o ++ rest)
    here None n e a = ap (λ m. (Alive_at m, marked index) ∷ rest) e ∙ sym (put_before id (marked index) n rest (omega (arith, e)) a)
    here (Some old) n e a =
        sym (ap (λ o. by_order o ((Alive_at id, marked index) ∷ (Alive_at n, marked old) ∷ rest) ((Alive_at n, marked index) ∷ rest) ((Alive_at n, marked old) ∷ entries.put place_cmp (Alive_at id) (marked index) rest)) (alives_order id n ∙ same_number id n (sym e)))

    -- a lower one is passed
    passed : (o : Option ℕ) → x.id < id → alive_place x.id o ++ entries.put place_cmp (Alive_at id) (marked index) rest ≡ entries.put place_cmp (Alive_at id) (marked index) (alive_place x.id o ++ rest)
    passed None l = refl
    passed (Some old) l =
        sym (ap (λ o. by_order o ((Alive_at id, marked index) ∷ (Alive_at x.id, marked old) ∷ rest) ((Alive_at x.id, marked index) ∷ rest) ((Alive_at x.id, marked old) ∷ entries.put place_cmp (Alive_at id) (marked index) rest)) (alives_order id x.id ∙ more_number id x.id l))

    go : (q : Bool) → (x.id == id) ≡ q → cond q (Some x) (find (λ b. b.id == id) bs) ≡ Some b → (find (λ b. b.id == id) bs ≡ Some b → alive_cells (renewed id index event bs) ≡ entries.put place_cmp (Alive_at id) (marked index) rest)
        → alive_place (cond (x.id == id) (beside_alive index event x) x).id (cond (x.id == id) (beside_alive index event x) x).alive ++ alive_cells (renewed id index event bs) ≡ entries.put place_cmp (Alive_at id) (marked index) (alive_place x.id x.alive ++ rest)
    go true t e later =
        let is : x.id ≡ id = eqb-true x.id id t in
        ap (λ q. alive_place (cond q (beside_alive index event x) x).id (cond q (beside_alive index event x) x).alive ++ alive_cells (renewed id index event bs)) t
        ∙ ap (λ l. (Alive_at x.id, marked index) ∷ alive_cells l) (unchanged_above id (beside_alive index event) x.id bs (omega (arith, is)) r.1)
        ∙ here x.alive x.id is (alive_rise x.id bs r.1)
    go false t e later =
        ap (λ q. alive_place (cond q (beside_alive index event x) x).id (cond q (beside_alive index event x) x).alive ++ alive_cells (renewed id index event bs)) t
        ∙ ap (λ l. alive_place x.id x.alive ++ l) (later e)
        ∙ passed x.alive (found_above id x.id bs b r.1 e)

pub alive_cells_after : (bs : List Beside) (id i time seq event : ℕ) (b : Beside) → Rises 0 (ids_of bs) → find (λ b. b.id == id) bs ≡ Some b → cells_of (renewed id i event bs) ≡ after (cells_of bs) i (record { time = time; body = Alive id seq event })
alive_cells_after bs id i time seq event b rises found =
    (λ j. registers_renewed id i event bs j ++ put_alive id i event 0 bs b rises found j)
    ∙ sym (put_behind id (marked i) bs (alive_cells bs))
    ∙ ap (entries.put place_cmp (Alive_at id) (marked i)) (sym (none_covered (cells_of bs)))
    ∙ ap (λ q. cond q (entries.put place_cmp (Alive_at id) (marked i) (uncovered (Alive id seq event) (cells_of bs))) (uncovered (Alive id seq event) (cells_of bs))) (sym (stands_open id bs b (alive_cells bs) found))

-- ---- an end

abbrev taken_out : ℕ → Place → Held → Bool
taken_out id place held = is_session_place id place || is_owned_by id held.owner

-- nobody owns a session's place
abbrev AreUnowned : Cells → Type 0
AreUnowned [] = Unit {0}
AreUnowned (c ∷ cs) = (c.1.owner ≡ None) × AreUnowned cs

unowned_both : (xs ys : Cells) → AreUnowned xs → AreUnowned ys → AreUnowned (xs ++ ys)
unowned_both [] ys a b = b
unowned_both (x ∷ xs) ys a b = (a.0, unowned_both xs ys a.1 b)

registers_unowned : (bs : List Beside) → AreUnowned (map register_cell bs)
registers_unowned [] = tt
registers_unowned (b ∷ bs) = (refl, registers_unowned bs)

alives_unowned : (bs : List Beside) → AreUnowned (alive_cells bs)
alives_unowned [] = tt
alives_unowned (b ∷ bs) = one b.alive (alives_unowned bs)
  where
    one : (o : Option ℕ) → AreUnowned (alive_cells bs) → AreUnowned (alive_place b.id o ++ alive_cells bs)
    one None later = later
    one (Some index) later = (refl, later)

found_unowned : (cs : Cells) (p : Place) (h : Held) → AreUnowned cs → at cs p ≡ Some h → h.owner ≡ None
found_unowned [] p h u e = absurd (none-some h e)
found_unowned (c ∷ cs) p h u e = go (eq_by_cmp place_cmp p c.0) e (found_unowned cs p h u.1)
  where
    go : (q : Bool) → cond q (Some c.1) (at cs p) ≡ Some h → (at cs p ≡ Some h → h.owner ≡ None) → h.owner ≡ None
    go true e later = subst (λ (x : Held). x.owner ≡ None) (same_Some c.1 h e) u.0
    go false e later = later e

or_false : (a b : Bool) → b ≡ false → (a || b) ≡ a
or_false true b e = refl
or_false false b e = e

-- among unowned cells only the place decides
met_is : (id : ℕ) (cs : Cells) (p : Place) → AreUnowned cs → is_some (at cs p) ≡ true → is_met (taken_out id) p (at cs p) ≡ is_session_place id p
met_is id cs p u some = go (at cs p) refl some
  where
    go : (o : Option Held) → at cs p ≡ o → is_some o ≡ true → is_met (taken_out id) p o ≡ is_session_place id p
    go None e s = absurd (cc)
    go (Some h) e s = or_false (is_session_place id p) _ (ap (is_owned_by id) (found_unowned cs p h u e))

here_is : (p : Place) (h : Held) (cs : Cells) → is_some (at ((p, h) ∷ cs) p) ≡ true
here_is p h cs = ap (λ q. is_some (cond q (Some h) (at cs p))) (tied_true place_total exact_places p)

further : (c : Place × Held) (cs : Cells) (p : Place) → is_some (at cs p) ≡ true → is_some (at (c ∷ cs) p) ≡ true
further c cs p e = go (eq_by_cmp place_cmp p c.0)
  where
    go : (q : Bool) → is_some (cond q (Some c.1) (at cs p)) ≡ true
    go true = refl
    go false = e

behind : (xs ys : Cells) (p : Place) → is_some (at ys p) ≡ true → is_some (at (xs ++ ys) p) ≡ true
behind [] ys p e = e
behind (x ∷ xs) ys p e = further x (xs ++ ys) p (behind xs ys p e)

-- each cell of a part of the whole is looked at by its place alone
left_of : (id : ℕ) (before xs : Cells) → AreUnowned (before ++ xs) → filter (λ e. not (is_met (taken_out id) e.0 (at (before ++ xs) e.0))) xs ≡ filter (λ e. not (is_session_place id e.0)) xs
left_of id before [] u = refl
left_of id before (x ∷ xs) u =
    let here : is_met (taken_out id) x.0 (at (before ++ x ∷ xs) x.0) ≡ is_session_place id x.0 = met_is id (before ++ x ∷ xs) x.0 u (behind before (x ∷ xs) x.0 (here_is x.0 x.1 xs)) in
    let more : before ++ x ∷ xs ≡ (before ++ x ∷ []) ++ xs = sym (append_assoc before (x ∷ []) xs) in
    let rest : filter (λ e. not (is_met (taken_out id) e.0 (at (before ++ x ∷ xs) e.0))) xs ≡ filter (λ e. not (is_session_place id e.0)) xs =
    ap (λ (w : Cells). filter (λ e. not (is_met (taken_out id) e.0 (at w e.0))) xs) more ∙ left_of id (before ++ x ∷ []) xs (subst AreUnowned more u) in
    (λ i. cond (not (here i)) (x ∷ rest i) (rest i))

turned : (n m : ℕ) → (n == m) ≡ (m == n)
turned n m = go (m == n) refl
  where
    go : (q : Bool) → (m == n) ≡ q → (n == m) ≡ q
    go true t = eq-eqb n m (sym (eqb-true m n t))
    go false t = false_from_ne_true (n == m) (λ u. let back : (m == n) ≡ true = eq-eqb m n (sym (eqb-true n m u)) in cc)

filter_append : (p : Place × Held → Bool) (xs ys : Cells) → filter p (xs ++ ys) ≡ filter p xs ++ filter p ys
filter_append p [] ys = refl
filter_append p (x ∷ xs) ys = go (p x) (filter_append p xs ys)
  where
    go : (q : Bool) → filter p (xs ++ ys) ≡ filter p xs ++ filter p ys → cond q (x ∷ filter p (xs ++ ys)) (filter p (xs ++ ys)) ≡ cond q (x ∷ filter p xs) (filter p xs) ++ filter p ys
    go true e = ap (λ l. x ∷ l) e
    go false e = e

registers_left : (id : ℕ) (bs : List Beside) → filter (λ e. not (is_session_place id e.0)) (map register_cell bs) ≡ map register_cell (filter (λ b. not (b.id == id)) bs)
registers_left id [] = refl
registers_left id (b ∷ bs) =
    ap (λ q. cond (not q) (register_cell b ∷ filter (λ e. not (is_session_place id e.0)) (map register_cell bs)) (filter (λ e. not (is_session_place id e.0)) (map register_cell bs))) (turned id b.id)
    ∙ go (b.id == id) (registers_left id bs)
  where
    go : (q : Bool) → filter (λ e. not (is_session_place id e.0)) (map register_cell bs) ≡ map register_cell (filter (λ b. not (b.id == id)) bs)
        → cond (not q) (register_cell b ∷ filter (λ e. not (is_session_place id e.0)) (map register_cell bs)) (filter (λ e. not (is_session_place id e.0)) (map register_cell bs)) ≡ map register_cell (cond (not q) (b ∷ filter (λ b. not (b.id == id)) bs) (filter (λ b. not (b.id == id)) bs))
    go true e = e
    go false e = ap (λ l. register_cell b ∷ l) e

alives_left : (id : ℕ) (bs : List Beside) → filter (λ e. not (is_session_place id e.0)) (alive_cells bs) ≡ alive_cells (filter (λ b. not (b.id == id)) bs)
alives_left id [] = refl
alives_left id (b ∷ bs) =
    filter_append (λ e. not (is_session_place id e.0)) (alive_place b.id b.alive) (alive_cells bs)
    ∙ (λ i. one b.alive i ++ alives_left id bs i)
    ∙ go (b.id == id)
  where
    rest : Cells
    rest = alive_cells (filter (λ b. not (b.id == id)) bs)

    one : (o : Option ℕ) → filter (λ e. not (is_session_place id e.0)) (alive_place b.id o) ≡ cond (b.id == id) [] (alive_place b.id o)
    one None = same (b.id == id)
      where
        same : (q : Bool) → alive_place b.id None ≡ cond q [] (alive_place b.id None)
        same true = refl
        same false = refl
    one (Some index) = ap (λ q. cond (not q) ((Alive_at b.id, marked index) ∷ []) []) (turned id b.id) ∙ swap (b.id == id)
      where
        swap : (q : Bool) → cond (not q) (alive_place b.id (Some index)) [] ≡ cond q [] (alive_place b.id (Some index))
        swap true = refl
        swap false = refl

    go : (q : Bool) → cond q [] (alive_place b.id b.alive) ++ rest ≡ alive_cells (cond (not q) (b ∷ filter (λ b. not (b.id == id)) bs) (filter (λ b. not (b.id == id)) bs))
    go true = refl
    go false = refl

pub close_cells : (bs : List Beside) (id i time : ℕ) (expired : Bool) → cells_of (filter (λ b. not (b.id == id)) bs) ≡ after (cells_of bs) i (record { time = time; body = Close id expired })
close_cells bs id i time expired =
    (λ j. sym (registers_left id bs) j ++ sym (alives_left id bs) j)
    ∙ sym (filter_append (λ e. not (is_session_place id e.0)) (map register_cell bs) (alive_cells bs))
    ∙ sym (left_of id [] (cells_of bs) (unowned_both (map register_cell bs) (alive_cells bs) (registers_unowned bs) (alives_unowned bs)))

-- ---- the table's own

beside_ids : (rows : List Row) (slots : Slots) → AreSeated rows slots → ids_of (shown_beside rows slots) ≡ registers rows
beside_ids [] slots h = refl
beside_ids (x ∷ rows) slots h = one (get slots x.slot) h.0 (beside_ids rows slots h.1)
  where
    one : (o : Option Kept_session) → IsSomeAnd o (λ k. k.session.id ≡ x.register) → ids_of (map beside_of (seats rows slots)) ≡ registers rows → ids_of (map beside_of (one_seat x.alive o ++ seats rows slots)) ≡ x.register ∷ registers rows
    one None e later = absurd e
    one (Some k) e later = (λ i. e i ∷ later i)

pub beside_rises : (a : Inside) (t : Table) → IsInOrder a → table a ≡ t → Rises 0 (map (λ b. b.id) t.beside)
beside_rises a t order view = subst (λ (u : Table). Rises 0 (ids_of u.beside)) view (subst (Rises 0) (sym (beside_ids a.order.items a.slots order.seated)) order.rising)

pub beside_below : (a : Inside) (t : Table) (n : ℕ) → IsInOrder a → table a ≡ t → AreBelow n (ids t) → AreBelow n (map (λ b. b.id) t.beside)
beside_below a t n order view below =
    subst (λ (u : Table). AreBelow n (ids_of u.beside)) view
    (subst (AreBelow n) (session_ids a.order.items a.slots order.seated ∙ sym (beside_ids a.order.items a.slots order.seated)) (subst (λ (u : Table). AreBelow n (ids u)) (sym view) below))

mapped_some : {A B : Type 0} (f : A → B) (o : Option A) (y : B) → option_map f o ≡ Some y → (x : A) × (o ≡ Some x)
mapped_some f None y e = absurd (none-some y e)
mapped_some f (Some x) y e = (x, refl)

pub beside_there : (a : Inside) (t : Table) (id : ℕ) (row : Row) (kept : Kept_session) → IsInOrder a → table a ≡ t → row_at id a.order.items ≡ Some row → get a.slots row.slot ≡ Some kept → (b : Beside) × (find (λ b. b.id == id) t.beside ≡ Some b)
beside_there a t id row kept order view is_row there =
    let o : Some kept ≡ kept_in (row_at id a.order.items) a.slots = sym there ∙ sym (ap (λ r. kept_in r a.slots) is_row) in
    subst (λ (u : Table). (b : Beside) × (find (λ b. b.id == id) u.beside ≡ Some b)) view
    (mapped_some (λ (b : Beside). b.confirmed) (find (λ b. b.id == id) (shown_beside a.order.items a.slots)) kept.confirmed (reads_beside a.order.items a.slots id (Some kept) order.rising order.seated o))
