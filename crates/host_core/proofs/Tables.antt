-- The places of a table's sessions stay as they are where an entry names a session that is not open.
use Rattle.std.proofs.Common.{◌≡◌, ℕ, Bool, true, false, cond, not, ◌||◌, ◌==◌, List, [], ◌∷◌, ◌++◌, map, Option, Some, None, is_some, refl, sym, ap, subst, ◌∙◌, eq-eqb, eqb-true}
use Rattle.std.proofs.lemmas.Bool.{false_from_ne_true}
use Rattle.std.proofs.lemmas.List.Elements.{filter-append}
use Rattle.std.specs.Cmp.{tied_itself}
use Rattle.std.specs.List.{filter, flat_map, find, AllByRecursion}
use Rattle.std.specs.FinMap.Entries.{put}
use Rattle.std.specs.Ordering.{is_eq, eq_by_cmp}
use Rattle.host_types.specs.declared.entry.Body.{Body}
use Rattle.host_types.specs.declared.entry.Body.TheVariants.{Alive, Close}
use Rattle.host_types.specs.Cells.{Place, Register_at, Alive_at, Held, marked, place_cmp, Cells, at, stands, is_owned_by}
use Rattle.log_model.specs.cleaning.Cells.{covers, is_covered, uncovered, is_session_place, after}
use Rattle.host_types.proofs.Places.{place_total}
use Rattle.session_table.specs.Table.{Beside, beside_changed}
use Rattle.session_table.specs.Places.{alive_place, cells_of}

abbrev registers : List Beside → Cells
registers bs = map (λ b. (Register_at b.id, marked b.id)) bs

abbrev alives : List Beside → Cells
alives bs = flat_map (λ b. alive_place b.id b.alive) bs

-- ---- nothing is covered

keeps_all : (c d : Cells) (b : Body) → ((p : Place) (h : Held) → covers b p h ≡ false) → filter (λ e. not (is_covered b e.0 (at d e.0))) c ≡ c
keeps_all [] d b none = refl
keeps_all (e ∷ c) d b none =
    ap (λ q. cond (not q) (e ∷ rest) rest) (elim (at d e.0) as (λ o. is_covered b e.0 o ≡ false) [ None ↦ refl | Some h ↦ none e.0 h ])
    ∙ ap (λ (r : Cells). e ∷ r) (keeps_all c d b none)
  where
    rest : Cells
    rest = filter (λ e. not (is_covered b e.0 (at d e.0))) c

-- ---- a session is ended

abbrev Unowned : Cells → Type 0
Unowned c = AllByRecursion (λ (e : Place × Held). e.1.owner ≡ None) c

unowned_registers : (bs : List Beside) → Unowned (registers bs)
unowned_registers [] = tt
unowned_registers (b ∷ bs) = (refl, unowned_registers bs)

unowned_append : (c d : Cells) → Unowned c → Unowned d → Unowned (c ++ d)
unowned_append [] d a b = b
unowned_append (e ∷ c) d a b = (a.0, unowned_append c d a.1 b)

unowned_alives : (bs : List Beside) → Unowned (alives bs)
unowned_alives [] = tt
unowned_alives (b ∷ bs) = elim b.alive as (λ o. Unowned (alives bs) → Unowned (alive_place b.id o ++ alives bs)) [ None ↦ λ rest. rest | Some j ↦ λ rest. (refl, rest) ] (unowned_alives bs)

found_unowned : (c : Cells) → Unowned c → (p : Place) (h : Held) → at c p ≡ Some h → h.owner ≡ None
found_unowned [] a p h e = absurd (cc)
found_unowned (x ∷ c) a p h e =
    elim (eq_by_cmp place_cmp p x.0) as (λ q. cond q (Some x.1) (at c p) ≡ Some h → h.owner ≡ None) [
      | true ↦ λ f. let same : x.1 ≡ h = (cc) in subst (λ (g : Held). g.owner ≡ None) same a.0
      | false ↦ λ f. found_unowned c a.1 p h f
    ] e

-- whatever is held at the place, it is there
abbrev ArePresent : Cells → Cells → Type 0
ArePresent c d = AllByRecursion (λ (e : Place × Held). is_some (at d e.0) ≡ true) c

more_present : (c d : Cells) (x : Place × Held) → ArePresent c d → ArePresent c (x ∷ d)
more_present [] d x a = tt
more_present (e ∷ c) d x a = (elim (eq_by_cmp place_cmp e.0 x.0) as (λ q. is_some (cond q (Some x.1) (at d e.0)) ≡ true) [ true ↦ refl | false ↦ a.0 ], more_present c d x a.1)

present : (c : Cells) → ArePresent c c
present [] = tt
present (x ∷ c) = (ap (λ r. is_some (cond (is_eq r) (Some x.1) (at c x.0))) (tied_itself place_total x.0), more_present c c x (present c))

nobodys : (s : ℕ) (o : Option ℕ) → o ≡ None → is_owned_by s o ≡ false
nobodys s None e = refl
nobodys s (Some owner) e = absurd (cc)

or_false : (a b : Bool) → b ≡ false → (a || b) ≡ a
or_false true b e = refl
or_false false b e = e

module _ (s : ℕ) (expired : Bool) where
  taken_out : (p : Place) (o : Option Held) → is_some o ≡ true → ((h : Held) → o ≡ Some h → h.owner ≡ None) → is_covered (Close s expired) p o ≡ is_session_place s p
  taken_out p None there unowned = absurd (cc)
  taken_out p (Some h) there unowned = or_false (is_session_place s p) (is_owned_by s h.owner) (nobodys s h.owner (unowned h refl))

  only_its : (c d : Cells) → ArePresent c d → Unowned d → filter (λ e. not (is_covered (Close s expired) e.0 (at d e.0))) c ≡ filter (λ e. not (is_session_place s e.0)) c
  only_its [] d there unowned = refl
  only_its (e ∷ c) d there unowned =
      ap (λ q. cond (not q) (e ∷ filter (λ e. not (is_covered (Close s expired) e.0 (at d e.0))) c) (filter (λ e. not (is_covered (Close s expired) e.0 (at d e.0))) c)) (taken_out e.0 (at d e.0) there.0 (λ h f. found_unowned d unowned e.0 h f))
      ∙ ap (λ (r : Cells). cond (not (is_session_place s e.0)) (e ∷ r) r) (only_its c d there.1 unowned)

  others : List Beside → List Beside
  others bs = filter (λ b. not (b.id == s)) bs

  symmetric : (a b : ℕ) → (a == b) ≡ (b == a)
  symmetric a b = elim (a == b) as (λ q. (a == b) ≡ q → q ≡ (b == a)) [
    | true ↦ λ e. sym (eq-eqb b a (sym (eqb-true a b e)))
    | false ↦ λ e. sym (false_from_ne_true (b == a) (λ f. let t = eq-eqb a b (sym (eqb-true b a f)) in absurd (cc)))
  ] refl

  left_registers : (bs : List Beside) → filter (λ e. not (is_session_place s e.0)) (registers bs) ≡ registers (others bs)
  unfolding others
  left_registers [] = refl
  left_registers (b ∷ bs) =
      ap (λ q. cond (not q) ((Register_at b.id, marked b.id) ∷ filter (λ e. not (is_session_place s e.0)) (registers bs)) (filter (λ e. not (is_session_place s e.0)) (registers bs))) (symmetric s b.id)
      ∙ elim (b.id == s) as (λ q. cond (not q) ((Register_at b.id, marked b.id) ∷ filter (λ e. not (is_session_place s e.0)) (registers bs)) (filter (λ e. not (is_session_place s e.0)) (registers bs)) ≡ registers (cond (not q) (b ∷ filter (λ b. not (b.id == s)) bs) (filter (λ b. not (b.id == s)) bs))) [
        | true ↦ left_registers bs
        | false ↦ ap (λ (r : Cells). (Register_at b.id, marked b.id) ∷ r) (left_registers bs)
      ]

  left_alives : (bs : List Beside) → filter (λ e. not (is_session_place s e.0)) (alives bs) ≡ alives (others bs)
  unfolding others
  left_alives [] = refl
  left_alives (b ∷ bs) =
      filter-append (λ (e : Place × Held). not (is_session_place s e.0)) (alive_place b.id b.alive) (alives bs)
      ∙ (λ j. filter (λ (e : Place × Held). not (is_session_place s e.0)) (alive_place b.id b.alive) ++ left_alives bs j)
      ∙ one b.alive
    where
      rest : Cells
      rest = alives (filter (λ b. not (b.id == s)) bs)

      goal : Bool → Option ℕ → Type 0
      goal q o = cond (not q) (alive_place b.id o) [] ++ rest ≡ alives (cond (not (b.id == s)) (record { id = b.id; alive = o; confirmed = b.confirmed } ∷ filter (λ b. not (b.id == s)) bs) (filter (λ b. not (b.id == s)) bs))

      one : (o : Option ℕ) → filter (λ (e : Place × Held). not (is_session_place s e.0)) (alive_place b.id o) ++ rest ≡ alives (cond (not (b.id == s)) (record { id = b.id; alive = o; confirmed = b.confirmed } ∷ filter (λ b. not (b.id == s)) bs) (filter (λ b. not (b.id == s)) bs))
      one None = elim (b.id == s) as (λ q. rest ≡ alives (cond (not q) (record { id = b.id; alive = None; confirmed = b.confirmed } ∷ filter (λ b. not (b.id == s)) bs) (filter (λ b. not (b.id == s)) bs))) [ true ↦ refl | false ↦ refl ]
      one (Some j) =
          ap (λ q. cond (not q) ((Alive_at b.id, marked j) ∷ []) [] ++ rest) (symmetric s b.id)
          ∙ elim (b.id == s) as (λ q. cond (not q) ((Alive_at b.id, marked j) ∷ []) [] ++ rest ≡ alives (cond (not q) (record { id = b.id; alive = Some j; confirmed = b.confirmed } ∷ filter (λ b. not (b.id == s)) bs) (filter (λ b. not (b.id == s)) bs))) [ true ↦ refl | false ↦ refl ]

  pub ended : (bs : List Beside) (i time : ℕ) → cells_of (filter (λ b. not (b.id == s)) bs) ≡ after (cells_of bs) i (record { time = time; body = Close s expired })
  unfolding others
  ended bs i time =
      sym (only_its (cells_of bs) (cells_of bs) (present (cells_of bs)) (unowned_append (registers bs) (alives bs) (unowned_registers bs) (unowned_alives bs))
      ∙ filter-append (λ (e : Place × Held). not (is_session_place s e.0)) (registers bs) (alives bs)
      ∙ (λ j. left_registers bs j ++ left_alives bs j))

-- ---- who has a place

-- each of them has its register place
pub each_stands : (bs : List Beside) → AllByRecursion (λ (b : Beside). stands (cells_of bs) (Register_at b.id) ≡ true) bs
each_stands bs = go bs (front (registers bs) (alives bs) (present (cells_of bs)))
  where
    front : (c d : Cells) → ArePresent (c ++ d) (cells_of bs) → ArePresent c (cells_of bs)
    front [] d a = tt
    front (x ∷ c) d a = (a.0, front c d a.1)

    go : (xs : List Beside) → ArePresent (registers xs) (cells_of bs) → AllByRecursion (λ (b : Beside). stands (cells_of bs) (Register_at b.id) ≡ true) xs
    go [] a = tt
    go (b ∷ xs) a = (a.0, go xs a.1)

-- a keep-alive that doesn't fit changes nothing
pub not_heard : (c : Cells) (i time s seq event : ℕ) → stands c (Register_at s) ≡ false → c ≡ after c i (record { time = time; body = Alive s seq event })
not_heard c i time s seq event e =
    sym (ap (λ q. cond q (put place_cmp (Alive_at s) (marked i) (uncovered (Alive s seq event) c)) (uncovered (Alive s seq event) c)) e
    ∙ keeps_all c c (Alive s seq event) (λ p h. refl))

-- nor does the end of a session that has no place
pub not_ended : (bs : List Beside) (s : ℕ) → is_some (find (λ b. b.id == s) bs) ≡ false → filter (λ b. not (b.id == s)) bs ≡ bs
not_ended [] s e = refl
not_ended (b ∷ bs) s e =
    elim (b.id == s) as (λ q. is_some (cond q (Some b) (find (λ b. b.id == s) bs)) ≡ false → cond (not q) (b ∷ filter (λ b. not (b.id == s)) bs) (filter (λ b. not (b.id == s)) bs) ≡ b ∷ bs) [
      | true ↦ λ f. absurd (cc)
      | false ↦ λ f. ap (λ (r : List Beside). b ∷ r) (not_ended bs s f)
    ] e

-- and who is one of them has its register place
pub found_stands : (s : ℕ) (bs : List Beside) → is_some (find (λ b. b.id == s) bs) ≡ true → stands (cells_of bs) (Register_at s) ≡ true
found_stands s bs e = go bs (each_stands bs) e
  where
    go : (xs : List Beside) → AllByRecursion (λ (b : Beside). stands (cells_of bs) (Register_at b.id) ≡ true) xs → is_some (find (λ b. b.id == s) xs) ≡ true → stands (cells_of bs) (Register_at s) ≡ true
    go [] a f = absurd (cc)
    go (b ∷ xs) a f =
        elim (b.id == s) as (λ q. (b.id == s) ≡ q → is_some (cond q (Some b) (find (λ b. b.id == s) xs)) ≡ true → stands (cells_of bs) (Register_at s) ≡ true) [
          | true ↦ λ q g. subst (λ n. stands (cells_of bs) (Register_at n) ≡ true) (eqb-true b.id s q) a.0
          | false ↦ λ q g. go xs a.1 g
        ] refl f

-- a keep-alive of one that is none of them
pub not_changed : (bs : List Beside) (s : ℕ) (f : Beside → Beside) → is_some (find (λ b. b.id == s) bs) ≡ false → bs ≡ beside_changed s f bs
not_changed [] s f e = refl
not_changed (b ∷ bs) s f e =
    elim (b.id == s) as (λ q. is_some (cond q (Some b) (find (λ b. b.id == s) bs)) ≡ false → b ∷ bs ≡ cond q (f b) b ∷ beside_changed s f bs) [
      | true ↦ λ g. absurd (cc)
      | false ↦ λ g. ap (λ (r : List Beside). b ∷ r) (not_changed bs s f g)
    ] e
