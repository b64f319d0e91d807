-- Images that differ from one of before at one place, as folders.
use Rattle.std.proofs.Common.{◌≡◌, ◌≢◌, ◌⊎◌, inl, inr, ⊎_elim, ℕ, zero, suc, ◌<◌, ◌≤◌, Bool, false, cond, List, [], ◌∷◌, ◌++◌, Option, Some, None, refl, sym, ap, subst, ◌∙◌, arith, Contains}
use Rattle.std.proofs.lemmas.Bool.{cases_Bool}
use Rattle.std.proofs.lemmas.List.Elements.{Contains-append_left, Contains-push_cases, Contains-push}
use Rattle.disk_model.specs.declared.file_id.FileId.{FileId}
use Rattle.disk_model.specs.Image.{Place, Image, place, same_place}
use Rattle.disk_model.specs.View.{View, MayHold, MayLeave, IsSound}
use Rattle.disk_model.proofs.Names.{same_when, same_to, place_cases}
use Rattle.disk_model.proofs.Places.{own}
use Rattle.segment_files.specs.Files.{KeepsOthers}
use Rattle.segment_files.specs.Parse.{Part, Closed, Whole, parse}
use Rattle.segment_files.specs.Folder.{Folder, LiesIn, Span, found, folder, span, IsChoice}
use Rattle.segment_set.proofs.Appended.{parse_id}
use Rattle.segment_set.proofs.Numbering.{IsPlain, plain_part}

pub nothing : {X : Type 0} (x : X) → Contains [] x → ⊥
nothing x h = let lt : h.0 < 0 = h.1 in omega arith

pub one_of : {X : Type 0} (y : X) (ys : List X) (x : X) → Contains (y ∷ ys) x → (y ≡ x) ⊎ Contains ys x
one_of y ys x (zero, lt, is) = inl is
one_of y ys x (suc k, lt, is) = inr (k, omega (arith, lt), is)

pub here : {X : Type 0} (x : X) (xs : List X) → Contains (x ∷ xs) x
here x xs = (0, omega arith, refl)

pub only_one : {X : Type 0} (y x : X) → Contains (y ∷ []) x → y ≡ x
only_one y x has = ⊎_elim (λ is. is) (λ none. absurd (nothing x none)) (one_of y [] x has)

-- the image, but with a file as it reads
abbrev pub as_read : View → Place → Image → Image
as_read v p c q = cond (same_place q p) (v.reading p) (c q)

pub as_read_may : (v : View) (p : Place) (c : Image) → IsSound v → ((q : Place) → q ≢ p → MayHold v q (c q)) → MayLeave v (as_read v p c)
as_read_may v p c sound others q = elim (cases_Bool (same_place q p)) [
  | inl hit ↦ subst (MayHold v q) (sym (ap (λ (b : Bool). cond b (v.reading p) (c q)) hit)) (subst (λ (r : Place). MayHold v r (v.reading p)) (sym (same_when q p hit)) (own v sound p))
  | inr miss ↦ subst (MayHold v q) (sym (ap (λ (b : Bool). cond b (v.reading p) (c q)) miss)) (others q (λ is. absurd (cc (miss, ap (λ (r : Place). same_place r p) is ∙ same_to p))))
]

pub as_read_at : (v : View) (p : Place) (c : Image) → as_read v p c p ≡ v.reading p
as_read_at v p c = ap (λ (b : Bool). cond b (v.reading p) (c p)) (same_to p)

as_read_but : (v : View) (p : Place) (c : Image) (q : Place) → q ≢ p → c q ≡ as_read v p c q
as_read_but v p c q ne = elim (cases_Bool (same_place q p)) [
  | inl hit ↦ absurd (ne (same_when q p hit))
  | inr miss ↦ sym (ap (λ (b : Bool). cond b (v.reading p) (c q)) miss)
]

-- as folders they differ at that file alone
pub differ : (v : View) (name : List ℕ) (id : FileId) (c : Image) (other : FileId) → (folder name c other ≡ folder name (as_read v (place name id) c) other) ⊎ (other ≡ id)
differ v name id c other = ⊎_elim
    (λ is. inr (λ i. record { base = (is i).base; generation = (is i).generation }))
    (λ ne. inl (ap (found other) (as_read_but v (place name id) c (place name other) ne)))
    (place_cases (place name other) (place name id))

-- what stands elsewhere stood there before
pub kept_at : (old new : View) (p : Place) → KeepsOthers old new p → (q : Place) (o : Option (List ℕ)) → q ≢ p → MayHold new q o → MayHold old q o
kept_at old new p keeps q None ne held = keeps.else_left q None ne held
kept_at old new p keeps q (Some c) ne (inl held) = inl (keeps.bytes_left q c ne held)
kept_at old new p keeps q (Some c) ne (inr held) = inr (keeps.else_left q (Some c) ne held)

-- a part stands at its own id
pub own_id : (name : List ℕ) (c : Image) (id : FileId) (q : Part) → folder name c id ≡ Whole q → q.id ≡ id
own_id name c id q whole = go (c (place name id)) whole
  where
    go : (o : Option (List ℕ)) → found id o ≡ Whole q → q.id ≡ id
    go None is = absurd (cc)
    go (Some b) is = parse_id id b q is

-- the bytes of a part
pub bytes_of : (name : List ℕ) (c : Image) (id : FileId) (q : Part) → folder name c id ≡ Whole q → (b : List ℕ) × (c (place name id) ≡ Some b) × (parse id b ≡ Whole q)
bytes_of name c id q whole = go (c (place name id)) refl whole
  where
    go : (o : Option (List ℕ)) → c (place name id) ≡ o → found id o ≡ Whole q → (b : List ℕ) × (c (place name id) ≡ Some b) × (parse id b ≡ Whole q)
    go None is none = absurd (cc)
    go (Some b) is some = (b, is, some)

-- one that no compaction wrote is plain
pub whole_plain : (name : List ℕ) (c : Image) (id : FileId) (p : Part) → folder name c id ≡ Whole p → p.rewritten ≡ false → IsPlain id p
whole_plain name c id p whole plain = let b = bytes_of name c id p whole in plain_part id b.0 p b.2 plain

-- ---- FOLDERS that differ at one file

module _ (before after : Folder) (id : FileId) (others : (other : FileId) → (after other ≡ before other) ⊎ (other ≡ id)) where
  -- the file is closed, and no part
  pub still : (parts : List Part) → after id ≡ Closed → ((p : Part) → Contains parts p → p.id ≡ id → ⊥) → IsChoice before parts → IsChoice after parts
  still parts shut apart choice = record {
    stand = λ p has. ⊎_elim (λ same. same ∙ choice.stand p has) (λ at. absurd (apart p has at)) (others p.id);
    cover = λ other q is. ⊎_elim (λ same. choice.cover other q (sym same ∙ is)) (λ at. absurd (cc (ap after at, shut, is))) (others other);
    undamaged = λ other at bad. ⊎_elim (λ same. choice.undamaged other at (sym same ∙ bad)) (λ here. absurd (cc (ap after here, shut, bad))) (others other);
  }

  -- it is a new part behind the others
  pub added : (parts : List Part) (new : Part) → after id ≡ Whole new → new.id ≡ id → ((p : Part) → Contains parts p → p.id ≡ id → ⊥) → IsChoice before parts → IsChoice after (parts ++ new ∷ [])
  added parts new whole named apart choice = record {
    stand = λ p has. ⊎_elim
        (λ old. ⊎_elim (λ same. same ∙ choice.stand p old) (λ at. absurd (apart p old at)) (others p.id))
        (λ is. subst (λ (r : Part). after r.id ≡ Whole r) is (ap after named ∙ whole))
        (Contains-push_cases parts new p has);
    cover = λ other q is. ⊎_elim
        (λ same. ⊎_elim (λ old. inl (Contains-append_left parts (new ∷ []) q old)) (λ up. inr (up.0, Contains-append_left parts (new ∷ []) up.0 up.1, up.2)) (choice.cover other q (sym same ∙ is)))
        (λ at. let same : new ≡ q = cc (ap after at, whole, is) in inl (subst (λ (r : Part). Contains (parts ++ new ∷ []) r) same (Contains-push parts new)))
        (others other);
    undamaged = λ other at bad. ⊎_elim (λ same. choice.undamaged other at (sym same ∙ bad)) (λ here. absurd (cc (ap after here, whole, bad))) (others other);
  }

  -- it is the last part, and has a longer range
  pub changed : (front : List Part) (old new : Part) → ((other : FileId) (q : Part) → before other ≡ Whole q → q.id ≡ other) → after id ≡ Whole new → old.id ≡ id → new.id ≡ id → old.last ≤ new.last → ((p : Part) → Contains front p → p.id ≡ id → ⊥)
      → IsChoice before (front ++ old ∷ []) → IsChoice after (front ++ new ∷ [])
  changed front old new own whole named same_id longer apart choice = record {
    stand = λ p has. ⊎_elim
        (λ before_it. ⊎_elim (λ same. same ∙ choice.stand p (Contains-append_left front (old ∷ []) p before_it)) (λ at. absurd (apart p before_it at)) (others p.id))
        (λ is. subst (λ (r : Part). after r.id ≡ Whole r) is (ap after same_id ∙ whole))
        (Contains-push_cases front new p has);
    cover = λ other q is. ⊎_elim
        (λ same. ⊎_elim
        (λ has. ⊎_elim (λ f. inl (Contains-append_left front (new ∷ []) q f))
        (λ is_old. let here : other ≡ id = sym (own other q (sym same ∙ is)) ∙ ap (λ (r : Part). r.id) (sym is_old) ∙ named in
        let same_one : new ≡ q = cc (ap after here, whole, is) in
        inl (subst (λ (r : Part). Contains (front ++ new ∷ []) r) same_one (Contains-push front new)))
        (Contains-push_cases front old q has))
        (λ up. ⊎_elim (λ f. inr (up.0, Contains-append_left front (new ∷ []) up.0 f, up.2))
        (λ is_old. inr (new, Contains-push front new, wider (span q) (subst (λ (r : Part). LiesIn (span q) (span r)) (sym is_old) up.2)))
        (Contains-push_cases front old up.0 up.1))
        (choice.cover other q (sym same ∙ is)))
        (λ at. let same : new ≡ q = cc (ap after at, whole, is) in inl (subst (λ (r : Part). Contains (front ++ new ∷ []) r) same (Contains-push front new)))
        (others other);
    undamaged = λ other at bad. ⊎_elim (λ same. choice.undamaged other at (sym same ∙ bad)) (λ here. absurd (cc (ap after here, whole, bad))) (others other);
  }
    where
      wider : (a : Span) → LiesIn a (span old) → LiesIn a (span new)
      wider a lies = record {
        newer = omega (arith, lies.newer, ap (λ (i : FileId). i.generation) named, ap (λ (i : FileId). i.generation) same_id);
        base = omega (arith, lies.base, ap (λ (i : FileId). i.base) named, ap (λ (i : FileId). i.base) same_id);
        last = omega (arith, lies.last, longer);
        touches = ⊎_elim (λ within. inl (omega (arith, within, longer))) (λ at. inr (omega (arith, at, ap (λ (i : FileId). i.base) named, ap (λ (i : FileId). i.base) same_id))) lies.touches;
      }
