-- The files of a folder, looked at one after the other.
use Rattle.std.proofs.Common.{◌≡◌, ◌≢◌, ◌⊎◌, inl, inr, ⊎_elim, ℕ, ◌<◌, ◌≤◌, List, [], ◌∷◌, ◌++◌, length, take, get_or, sym, ap, subst, ◌∙◌, arith, Contains, length-take}
use Rattle.std.specs.List.{AllPairs}
use Rattle.std.proofs.lemmas.List.{get_or-take, get_or_default}
use Rattle.std.proofs.lemmas.List.Elements.{Contains-push_cases, Contains-push, Contains-append_left, Contains-get_or}
use Rattle.std.proofs.lemmas.List.Quantifiers.{all_pairs_push}
use Rattle.std.proofs.lemmas.Bool.{cases_lt}
use Rattle.disk_model.specs.declared.file_id.FileId.{FileId}
use Rattle.disk_model.specs.Image.{Image, IsBelow}
use Rattle.disk_model.specs.View.{View}
use Rattle.disk_model.specs.Calls.{Lists}
use Rattle.segment_files.specs.Parse.{Closed, Damaged}
use Rattle.segment_files.specs.Folder.{folder, IsFirstDamaged}
use Rattle.segment_set.specs.declared.opened.Opened.{Opened}
use Rattle.segment_set.specs.Fits.{IsOpenIn}
use Rattle.segment_set.specs.Load.{Surveyed}
use Rattle.segment_set.proofs.Images.{nothing}
use Rattle.segment_set.proofs.Picking.{below_apart, below_not, listed_when}

pub none_surveyed : (name : List ℕ) (image : Image) → Surveyed name image [] [] []
none_surveyed name image = record {
  closed_is = λ id has. absurd (nothing id has);
  among = λ id has. absurd (nothing id has);
  apart = λ i j d lt below. absurd (omega arith);
  each = λ id has. absurd (nothing id has);
  opened_among = λ one has. absurd (nothing one has);
  opened_is = λ one has. absurd (nothing one has);
  rising = λ i j d lt below. absurd (omega arith);
}

-- one file more
module _ (name : List ℕ) (image : Image) (ids closed : List FileId) (opened : List Opened) (id : FileId) (s : Surveyed name image ids closed opened) where
  wider : (i : FileId) → Contains ids i → Contains (ids ++ id ∷ []) i
  wider i has = Contains-append_left ids (id ∷ []) i has

  -- that is closed
  pub one_closed : ((i : FileId) → Contains ids i → i ≢ id) → folder name image id ≡ Closed → Surveyed name image (ids ++ id ∷ []) (closed ++ id ∷ []) opened
  one_closed fresh is = record {
    closed_is = λ i has. ⊎_elim (λ old. s.closed_is i old) (λ new. subst (λ (j : FileId). folder name image j ≡ Closed) new is) (Contains-push_cases closed id i has);
    among = λ i has. ⊎_elim (λ old. wider i (s.among i old)) (λ new. subst (λ (j : FileId). Contains (ids ++ id ∷ []) j) new (Contains-push ids id)) (Contains-push_cases closed id i has);
    apart = all_pairs_push (λ a b. a ≢ b) closed id s.apart (λ k e below. fresh (get_or closed k e) (s.among (get_or closed k e) (Contains-get_or closed k e below)));
    each = λ i has. ⊎_elim
        (λ old. ⊎_elim (λ c. inl (Contains-append_left closed (id ∷ []) i c)) (λ o. inr o) (s.each i old))
        (λ new. inl (subst (λ (j : FileId). Contains (closed ++ id ∷ []) j) new (Contains-push closed id)))
        (Contains-push_cases ids id i has);
    opened_among = λ one has. wider one.id (s.opened_among one has);
    opened_is = s.opened_is;
    rising = s.rising;
  }

  -- that is open
  pub one_open : (one : Opened) → one.id ≡ id → ((i : FileId) → Contains ids i → IsBelow i id) → IsOpenIn name image one → Surveyed name image (ids ++ id ∷ []) closed (opened ++ one ∷ [])
  one_open one named below is = record {
    closed_is = s.closed_is;
    among = λ i has. wider i (s.among i has);
    apart = s.apart;
    each = λ i has. ⊎_elim
        (λ old. ⊎_elim (λ c. inl c) (λ o. inr (o.0, Contains-append_left opened (one ∷ []) o.0 o.1, o.2)) (s.each i old))
        (λ new. inr (one, Contains-push opened one, named ∙ new))
        (Contains-push_cases ids id i has);
    opened_among = λ o has. ⊎_elim
        (λ old. wider o.id (s.opened_among o old))
        (λ new. subst (λ (j : FileId). Contains (ids ++ id ∷ []) j) (sym named ∙ ap (λ (x : Opened). x.id) new) (Contains-push ids id))
        (Contains-push_cases opened one o has);
    opened_is = λ o has. ⊎_elim (λ old. s.opened_is o old) (λ new. subst (IsOpenIn name image) new is) (Contains-push_cases opened one o has);
    rising = all_pairs_push (λ (a : Opened) (b : Opened). IsBelow a.id b.id) opened one s.rising
        (λ k e lt. subst (λ (j : FileId). IsBelow (get_or opened k e).id j) (sym named) (below (get_or opened k e).id (s.opened_among (get_or opened k e) (Contains-get_or opened k e lt))));
  }

-- ids that rise: what stands ahead of one is below it
pub ahead_below : (ids : List FileId) (n : ℕ) (d : FileId) → n < length ids → AllPairs IsBelow ids → (id : FileId) → Contains (take n ids) id → IsBelow id (get_or ids n d)
ahead_below ids n d lt rising id has =
    let below : has.0 < n = omega (arith, has.1, length-take n ids) in
    let is : get_or ids has.0 id ≡ id = sym (get_or-take n ids has.0 id below) ∙ has.2 in
    subst (λ (i : FileId). IsBelow i (get_or ids n d)) is
    (subst (λ (i : FileId). IsBelow (get_or ids has.0 id) i) (get_or_default ids n id d lt) (rising has.0 n id below lt))

pub ahead_fresh : (ids : List FileId) (n : ℕ) (d : FileId) → n < length ids → AllPairs IsBelow ids → (id : FileId) → Contains (take n ids) id → id ≢ get_or ids n d
ahead_fresh ids n d lt rising id has = below_apart id (get_or ids n d) (ahead_below ids n d lt rising id has)

-- The files up to one are surveyed, and this one is damaged: it is the first that is.
module _ (v : View) (name : List ℕ) (ids : List FileId) (lists : Lists v name ids) (n : ℕ) (d : FileId) (lt : n < length ids)
    (closed : List FileId) (opened : List Opened) (s : Surveyed name v.reading (take n ids) closed opened) where
  -- each file below it was looked at
  before : (id : FileId) → (folder name v.reading id ≡ Closed → ⊥) → IsBelow id (get_or ids n d) → (one : Opened) × Contains opened one × (one.id ≡ id)
  before id opens below =
      let has = (lists.each id).1 (listed_when v name id opens) in
      ⊎_elim
      (λ less.
      let long : has.0 < length (take n ids) = omega (arith, less, lt, length-take n ids) in
      let at : get_or (take n ids) has.0 id ≡ id = get_or-take n ids has.0 id less ∙ has.2 in
      ⊎_elim (λ c. absurd (opens (s.closed_is id c))) (λ o. o) (s.each id (has.0, long, at)))
      (λ more. ⊎_elim
      (λ further. absurd (below_not (get_or ids n id) id (subst (λ (i : FileId). IsBelow (get_or ids n id) i) has.2 (lists.rising n has.0 id further has.1)) (subst (λ (i : FileId). IsBelow id i) (get_or_default ids n d id lt) below)))
      (λ same. absurd (below_apart id (get_or ids n d) below (sym has.2 ∙ ap (λ (k : ℕ). get_or ids k id) (sym same) ∙ sym (get_or_default ids n d id lt))))
      (split n has.0 more))
      (cases_lt has.0 n)
    where
      split : (a b : ℕ) → a ≤ b → (a < b) ⊎ (a ≡ b)
      split a b le = ⊎_elim (λ less. inl less) (λ more. inr (omega (arith, le, more))) (cases_lt a b)

  pub first_damaged : (at : ℕ) → folder name v.reading (get_or ids n d) ≡ Damaged at → IsFirstDamaged (folder name v.reading) (get_or ids n d) at
  first_damaged at damaged = record {
    damaged = damaged;
    first = λ other place below bad.
        let o = before other (λ shut. absurd (cc (shut, bad))) below in
        let is = s.opened_is o.0 o.1 in
        absurd (cc (ap (folder name v.reading) o.2, is.1, bad));
  }
