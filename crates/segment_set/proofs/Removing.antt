-- What removals leave, one after the other.
use Rattle.std.proofs.Common.{◌≡◌, ◌≢◌, inl, inr, ⊎_elim, ℕ, suc, ◌+◌, ◌<◌, List, [], ◌∷◌, ◌++◌, length, get_or, None, Result, Ok, refl, sym, ap, ◌∙◌, arith, Contains}
use Rattle.std.specs.List.{AllPairs}
use Rattle.std.proofs.lemmas.List.Elements.{Contains-append_cases, Contains-append_left, Contains-append_right, Contains-get_or}
use Rattle.std.proofs.lemmas.List.{get_or_default}
use Rattle.std.proofs.lemmas.Bool.{cases_eq}
use Rattle.disk_model.specs.declared.file_id.FileId.{FileId}
use Rattle.disk_model.specs.declared.disk.DiskFault.{DiskFault}
use Rattle.disk_model.specs.Image.{Place, Image, place}
use Rattle.disk_model.specs.View.{View, IsSound, LeavesAt}
use Rattle.disk_model.specs.Calls.{Removes}
use Rattle.disk_model.proofs.Moments.{started, goes_on, goes_further, weaker}
use Rattle.disk_model.proofs.Names.{holds_now}
use Rattle.disk_model.proofs.Places.{removes_at}
use Rattle.segment_set.specs.Load.{AreListed, OrGone, RemovedSoFar}
use Rattle.segment_set.proofs.Images.{nothing, one_of}

pub id_of : (name : List ℕ) (a b : FileId) → place name a ≡ place name b → a ≡ b
id_of name a b is = λ i. record { base = (is i).base; generation = (is i).generation }

module _ (v0 : View) (name : List ℕ) (ids : List FileId) (sound0 : IsSound v0) where
  abbrev P : Image → Type 0
  P c = (q : Place) → OrGone v0 name ids q (c q)

  pub none_yet : RemovedSoFar v0 v0 name ids 0
  none_yet = record {
    left = started v0 P sound0 (λ c may q. inl (may q));
    others = λ q ne. refl;
    later = λ k d le lt. refl;
    gone = λ k d none lt. absurd (omega arith);
  }

  module _ (v w : View) (n : ℕ) (d : FileId) (lt : n < length ids) (sound : IsSound v) (so_far : RemovedSoFar v0 v name ids n) where
    pub left_after : {T : Type 0} (r : Result T DiskFault) → Removes v w (place name (get_or ids n d)) r → LeavesAt v0 w (OrGone v0 name ids)
    left_after r removes = goes_on v0 v w P so_far.left removes.time
        (λ c may q. ⊎_elim
        (λ was. holds_now v0 v (OrGone v0 name ids) sound so_far.left q (c q) was)
        (λ gone. inr (get_or ids n d, Contains-get_or ids n d lt, gone.0, gone.1))
        (removes_at v w (place name (get_or ids n d)) r removes q (c q) (may q)))

    pub others_after : {T : Type 0} (r : Result T DiskFault) → Removes v w (place name (get_or ids n d)) r → (q : Place) → ((id : FileId) → Contains ids id → q ≢ place name id) → w.reading q ≡ v0.reading q
    others_after r removes q ne = removes.others q (ne (get_or ids n d) (Contains-get_or ids n d lt)) ∙ so_far.others q ne

    pub one_more : {T : Type 0} (x : T) → AllPairs (λ a b. a ≢ b) ids → Removes v w (place name (get_or ids n d)) (Ok x) → RemovedSoFar v0 w name ids (n + 1)
    one_more x apart removes = record {
      left = left_after (Ok x) removes;
      others = others_after (Ok x) removes;
      later = λ k e le below.
          let ne : get_or ids n d ≢ get_or ids k d = apart n k d (omega (arith, le)) below in
          let same : get_or ids k d ≡ get_or ids k e = get_or_default ids k d e below in
          removes.others (place name (get_or ids k e)) (λ is. ne (id_of name (get_or ids n d) (get_or ids k d) (sym is ∙ ap (place name) (sym same))))
          ∙ so_far.later k e (omega (arith, le)) below;
      gone = λ k e less below. elim (cases_eq k n) [
        | inl is ↦ ap (λ (j : ℕ). w.reading (place name (get_or ids j e))) is ∙ ap (λ (i : FileId). w.reading (place name i)) (get_or_default ids n e d lt) ∙ removes.done
        | inr ne ↦
            let before : k < n = omega (arith, less, ne) in
            let differ : get_or ids k d ≢ get_or ids n d = apart k n d before lt in
            let same : get_or ids k d ≡ get_or ids k e = get_or_default ids k d e below in
            removes.others (place name (get_or ids k e)) (λ is. differ (id_of name (get_or ids k d) (get_or ids n d) (ap (place name) same ∙ is))) ∙ so_far.gone k e before below
      ];
    }

-- ---- TWO LISTS, one behind the other

-- places of a list behind another one
pairs_rest : {X : Type 0} (R : X → X → Type 0) (xs ys : List X) → AllPairs R (xs ++ ys) → AllPairs R ys
pairs_rest R [] ys all = all
pairs_rest R (x ∷ xs) ys all = pairs_rest R xs ys (λ i j d lt below. all (suc i) (suc j) d (omega (arith, lt)) (omega (arith, below)))

apart_lists : (xs ys : List FileId) → AllPairs (λ a b. a ≢ b) (xs ++ ys) → (x y : FileId) → Contains xs x → Contains ys y → x ≢ y
apart_lists [] ys all x y has_x has_y = absurd (nothing x has_x)
apart_lists (z ∷ xs) ys all x y has_x has_y = ⊎_elim
    (λ is same.
    let at = Contains-append_right xs ys y has_y in
    all 0 (suc at.0) y (omega arith) (omega (arith, at.1)) (is ∙ same ∙ sym at.2))
    (λ later. apart_lists xs ys (λ i j d lt below. all (suc i) (suc j) d (omega (arith, lt)) (omega (arith, below))) x y later has_y)
    (one_of z xs x has_x)

module _ (v m : View) (name : List ℕ) (xs ys : List FileId) where
  pub left_first : LeavesAt v m (OrGone v name xs) → LeavesAt v m (OrGone v name (xs ++ ys))
  left_first only = weaker v m (λ c. (q : Place) → OrGone v name xs q (c q)) (λ c. (q : Place) → OrGone v name (xs ++ ys) q (c q)) only
      (λ c left q. ⊎_elim (λ held. inl held) (λ gone. inr (gone.0, Contains-append_left xs ys gone.0 gone.1, gone.2, gone.3)) (left q))

  pub listed_rest : AreListed v name (xs ++ ys) → ((q : Place) → ((id : FileId) → Contains xs id → q ≢ place name id) → m.reading q ≡ v.reading q) → AreListed m name ys
  listed_rest listed others = record {
    listed = λ id has.
        let was = listed.listed id (Contains-append_right xs ys id has) in
        (was.0, others (place name id) (λ x in_x is. apart_lists xs ys listed.apart x id in_x has (id_of name x id (sym is))) ∙ was.1);
    apart = pairs_rest (λ (a : FileId) (b : FileId). a ≢ b) xs ys listed.apart;
  }

  module _ (w : View) where
    pub left_both : IsSound m → LeavesAt v m (OrGone v name xs) → LeavesAt m w (OrGone m name ys) → LeavesAt v w (OrGone v name (xs ++ ys))
    left_both sound first then = goes_further v m w (λ c. (q : Place) → OrGone v name (xs ++ ys) q (c q)) (left_first first)
        (weaker m w (λ c. (q : Place) → OrGone m name ys q (c q)) (λ c. (q : Place) → OrGone v name (xs ++ ys) q (c q)) then
        (λ c left q. ⊎_elim
        (λ held. holds_now v m (OrGone v name (xs ++ ys)) sound (left_first first) q (c q) held)
        (λ gone. inr (gone.0, Contains-append_right xs ys gone.0 gone.1, gone.2, gone.3))
        (left q)))

    pub gone_both : AreListed v name (xs ++ ys) → ((id : FileId) → Contains xs id → m.reading (place name id) ≡ None)
        → ((q : Place) → ((id : FileId) → Contains ys id → q ≢ place name id) → w.reading q ≡ m.reading q)
        → ((id : FileId) → Contains ys id → w.reading (place name id) ≡ None) → (id : FileId) → Contains (xs ++ ys) id → w.reading (place name id) ≡ None
    gone_both listed first others rest id has = ⊎_elim
        (λ in_x. others (place name id) (λ y in_y is. apart_lists xs ys listed.apart id y in_x in_y (id_of name id y is)) ∙ first id in_x)
        (λ in_y. rest id in_y)
        (Contains-append_cases xs ys id has)
