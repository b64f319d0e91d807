-- A log in which no file has room gets a new one.
use Rattle.std.proofs.Common.{◌≡◌, inl, inr, ⊎_elim, ℕ, ◌+◌, ◌≤◌, Bool, true, IsTrue, List, [], ◌∷◌, ◌++◌, length, Option, Some, None, is_none, Result, Ok, Err, refl, sym, ap, subst, ◌∙◌, arith, Contains}
use Rattle.std.proofs.lemmas.Bool.{lt-ltb}
use Rattle.std.proofs.lemmas.Result.{on_ok_weaker}
use Rattle.host_types.specs.declared.entry.Entry.{Entry}
use Rattle.disk_model.specs.declared.disk.DiskFault.{DiskFault}
use Rattle.disk_model.specs.declared.file_id.FileId.{FileId}
use Rattle.disk_model.specs.Image.{Image, place}
use Rattle.disk_model.specs.View.{View, IsListed, LeavesOnly}
use Rattle.disk_model.proofs.Moments.{goes_further, weaker}
use Rattle.segment_files.specs.Contents.{Offset_list, StandAt}
use Rattle.segment_files.specs.Files.{IsAtGate, KeepsOthers}
use Rattle.segment_files.specs.Parse.{Found, Part, Whole}
use Rattle.segment_files.specs.Folder.{folder, found, EachHas, IsChoice}
use Rattle.segment_set.specs.declared.opened.Opened.{Opened}
use Rattle.segment_set.specs.declared.tail.Tail.{Tail}
use Rattle.segment_set.specs.declared.parts.Parts.{Parts}
use Rattle.segment_set.specs.Tails.{tail_count}
use Rattle.segment_set.specs.Appends.{Appends, AppendsOn, BeginsOn}
use Rattle.segment_set.specs.Growth.{HasOrBegins, HasOrGains, HasOrNew, IsFrameFor, begun, gained, greatest_after, has_room, lengthened, new_id, new_tail}
use Rattle.segment_set.specs.Fits.{Fits, IsAlone, IsEmptyWhereNone, IsHeld, IsMade, IsNewTail, IsOpenIn, IsTailOf, KeepsNames, TailIs, last_of, part_list, parts_in, parts_of, tail_parts}
use Rattle.segment_set.proofs.Known.{file_stays, fresh_id, last_in_without, last_without, listed_before, needs_without, open_stays, sealed_listed, sealed_parts, without_tail}
use Rattle.segment_set.proofs.Names.{names_further}
use Rattle.segment_set.proofs.Images.{here}
use Rattle.segment_set.proofs.PartLists.{begun_with_room, begun_without, parts_same}

-- the id of the new file
abbrev pub next_id : Parts → FileId
next_id old = record { base = last_of old + 1; generation = old.greatest + 1 }

-- no offsets are noted where there is no tail
pub nothing_noted : (old : Parts) → old.tail ≡ None → old.offsets.items ≡ []
nothing_noted old none = go old.offsets.items (old.counted ∙ ap tail_count none)
  where
    go : (os : Offset_list) → length os ≡ 0 → os ≡ []
    go [] is = refl
    go (o ∷ os) is = absurd (omega (arith, is))

module _ (v : View) (old : Parts) (fits : Fits v old) (none : old.tail ≡ None) where
  pub held_none : IsHeld v old → EachHas v old.name (sealed_parts v old fits)
  held_none held = subst (EachHas v old.name) (without_tail v old fits none) held

  -- it isn't there yet
  pub fresh : v.reading (place old.name (next_id old)) ≡ None
  fresh = fresh_id v old fits (next_id old) (omega arith)

  id_is : new_id old.greatest (sealed_parts v old fits) ≡ next_id old
  id_is = ap (λ (k : ℕ). record { base = k + 1; generation = old.greatest + 1 }) (last_in_without v old fits none ∙ sym (last_without v old fits none))

  -- what the parts begin
  pub begun_is : (size : ℕ) → begun size old.greatest (parts_in v.reading old) ≡ sealed_parts v old fits ++ new_tail (next_id old) size ∷ []
  begun_is size =
      ap (begun size old.greatest) (without_tail v old fits none)
      ∙ begun_without size old.greatest (sealed_parts v old fits) (needs_without v old fits none)
      ∙ ap (λ (i : FileId). sealed_parts v old fits ++ new_tail i size ∷ []) id_is

  pub left_beginning : (w : View) (size : ℕ) → LeavesOnly v w (HasOrNew old.name (sealed_parts v old fits) (new_tail (next_id old) size)) → LeavesOnly v w (HasOrBegins old.name size old.greatest (parts_in v.reading old))
  left_beginning w size only =
      weaker v w (HasOrNew old.name (sealed_parts v old fits) (new_tail (next_id old) size)) (HasOrBegins old.name size old.greatest (parts_in v.reading old)) only
      (λ c has. ⊎_elim
      (λ same. inl (subst (IsChoice (folder old.name c)) (sym (without_tail v old fits none)) same))
      (λ more. inr (subst (IsChoice (folder old.name c)) (sym (begun_is size)) more))
      has)

  -- the sealed files are other ones
  pub apart : (one : Opened) → Contains old.sealed.items one → one.id ≡ next_id old → ⊥
  apart one has is =
      let b = sealed_listed v old fits one has in
      cc (ap (λ (i : FileId). v.reading (place old.name i)) is, b.1, fresh)

  module _ (w : View) (keeps : KeepsOthers v w (place old.name (next_id old))) (new : Parts) (tail : Tail) (size : ℕ)
      (first : IsNewTail tail (next_id old) size) (made : IsMade w old.name (next_id old) size)
      (some : new.tail ≡ Some tail) (sealed : new.sealed.items ≡ old.sealed.items) (offsets : new.offsets.items ≡ old.offsets.items) (greatest : new.greatest ≡ old.greatest + 1) (named : new.name ≡ old.name) where
    whole : folder old.name w.reading tail.id ≡ Whole (new_tail (next_id old) size)
    whole = ap (folder old.name w.reading) first.id_is ∙ made.whole

    parts_are : parts_in w.reading new ≡ sealed_parts v old fits ++ new_tail (next_id old) size ∷ []
    parts_are =
        ap (λ (n : List ℕ). parts_of (folder n w.reading) new.sealed.items ++ tail_parts (folder n w.reading) new.tail) named
        ∙ (λ i. parts_of (folder old.name w.reading) (sealed i) ++ tail_parts (folder old.name w.reading) (some i))
        ∙ ap (λ (l : List Part). l ++ part_list (folder old.name w.reading tail.id)) (parts_same (folder old.name v.reading) (folder old.name w.reading) old.sealed.items (λ one has. ap (found one.id) (file_stays v w old.name (next_id old) keeps one.id (apart one has))))
        ∙ ap (λ (f : Found). sealed_parts v old fits ++ part_list f) whole

    pub begun_parts : parts_in w.reading new ≡ begun size old.greatest (parts_in v.reading old)
    begun_parts = parts_are ∙ sym (begun_is size)

    pub begun_held : EachHas w old.name (sealed_parts v old fits ++ new_tail (next_id old) size ∷ []) → IsHeld w new
    begun_held each = subst (λ (l : List Part). EachHas w new.name l) (sym parts_are) (subst (λ (n : List ℕ). EachHas w n (sealed_parts v old fits ++ new_tail (next_id old) size ∷ [])) (sym named) each)

    pub begun_alone : IsAlone v old → IsAlone w new
    begun_alone alone id listed =
        ⊎_elim
        (λ was. ⊎_elim (λ f. inl (f.0, subst (λ (l : List Opened). Contains l f.0) (sym sealed) f.1, f.2)) (λ t. absurd (subst (λ (o : Option Tail). IsTailOf o id) none t)) (alone id was))
        (λ is. inr (subst (λ (o : Option Tail). IsTailOf o id) (sym some) (first.id_is ∙ sym is)))
        (listed_before v w old.name (next_id old) keeps id (subst (λ (n : List ℕ). IsListed w (place n id)) named listed))

    pub begun_fits : Fits w new
    begun_fits = record {
      sealed = λ one has. subst (λ (n : List ℕ). IsOpenIn n w.reading one) (sym named)
          (let was = subst (λ (l : List Opened). Contains l one) sealed has in open_stays v w old.name (next_id old) keeps one (apart one was) (fits.sealed one was));
      tail = subst (λ (n : List ℕ). TailIs w n new.tail new.offsets.items) (sym named) (subst (λ (o : Option Tail). TailIs w old.name o new.offsets.items) (sym some) (record {
        part = new_tail (next_id old) size;
        at = record {
          whole = whole;
          plain = refl;
          last_is = omega (arith, first.last);
          gate_is = sym first.gate;
          size_is = sym first.size_is;
          at_gate = subst (λ (i : FileId). IsAtGate w (place old.name i) tail.gate) (sym first.id_is) (subst (λ (k : ℕ). IsAtGate w (place old.name (next_id old)) k) (sym first.gate) made.at_gate);
        };
        placed = λ bytes reads. subst (λ (l : Offset_list). StandAt bytes (new_tail (next_id old) size) l) (sym (offsets ∙ nothing_noted old none)) (omega arith);
      }));
      generations = λ id listed. subst (λ (k : ℕ). id.generation ≤ k) (sym greatest)
          (⊎_elim
          (λ was. let low = fits.generations id was in omega (arith, low))
          (λ is. omega (arith, ap (λ (i : FileId). i.generation) is))
          (listed_before v w old.name (next_id old) keeps id (subst (λ (n : List ℕ). IsListed w (place n id)) named listed)));
    }

-- while nothing is listed no image has a part
pub still_empty : (v w : View) (old : Parts) (fits : Fits v old) → old.tail ≡ None → KeepsOthers v w (place old.name (next_id old)) → (w.reading (place old.name (next_id old)) ≡ None → EachHas w old.name (sealed_parts v old fits)) → IsEmptyWhereNone w old.name
still_empty v w old fits none keeps unlisted nothing =
    subst (EachHas w old.name) (no_parts old.sealed.items (λ one has. nothing one.id (listed one has)))
    (unlisted (at (w.reading (place old.name (next_id old))) refl))
  where
    listed : (one : Opened) → Contains old.sealed.items one → IsListed w (place old.name one.id)
    listed one has = let b = sealed_listed v old fits one has in (b.0, file_stays v w old.name (next_id old) keeps one.id (apart v old fits none one has) ∙ b.1)

    no_parts : (xs : List Opened) → ((one : Opened) → Contains xs one → ⊥) → parts_of (folder old.name v.reading) xs ≡ []
    no_parts [] none = refl
    no_parts (x ∷ xs) none = absurd (none x (here x xs))

    at : (o : Option (List ℕ)) → w.reading (place old.name (next_id old)) ≡ o → w.reading (place old.name (next_id old)) ≡ None
    at None is = is
    at (Some b) is = absurd (nothing (next_id old) (b, is))

-- ---- and the entries

module _ (v m w : View) (old mid new : Parts) (frame : List ℕ) (size : ℕ) (fits : Fits v old) (none : old.tail ≡ None) (least : 2 ≤ size)
    (name : mid.name ≡ old.name) (greatest : mid.greatest ≡ old.greatest + 1) (lasts : last_of mid ≡ last_of old) where
  abbrev B : List Part
  B = begun size old.greatest (parts_in v.reading old)

  -- the new file has room
  begun_again : (g : ℕ) → begun size g (begun size old.greatest (parts_in v.reading old)) ≡ begun size old.greatest (parts_in v.reading old)
  begun_again g =
      let is = begun_is v old fits none size in
      let room : has_room (new_tail (next_id old) size) ≡ true = lt-ltb 0 size (omega (arith, least)) in
      ap (begun size g) is ∙ begun_with_room size g (sealed_parts v old fits) (new_tail (next_id old) size) room ∙ sym is

  gained_so : (entries : List Entry) → parts_in m.reading mid ≡ begun size old.greatest (parts_in v.reading old) → gained size mid.greatest (parts_in m.reading mid) entries ≡ gained size old.greatest (parts_in v.reading old) entries
  gained_so entries is = ap (λ (l : List Part). lengthened l entries) (ap (begun size mid.greatest) is ∙ begun_again mid.greatest)

  next_frame : (entries : List Entry) → IsFrameFor (last_of old) frame entries → IsFrameFor (last_of mid) frame entries
  next_frame entries f = subst (λ (k : ℕ). IsFrameFor k frame entries) (sym lasts) f

  abbrev Gains : List Entry → Image → Type 0
  Gains entries = HasOrGains old.name size old.greatest (parts_in v.reading old) entries

  -- while the file is made
  pub left_first : (entries : List Entry) → LeavesOnly v m (HasOrBegins old.name size old.greatest (parts_in v.reading old)) → LeavesOnly v m (HasOrGains old.name size old.greatest (parts_in v.reading old) entries)
  left_first entries only = weaker v m (HasOrBegins old.name size old.greatest (parts_in v.reading old)) (Gains entries) only (λ c has. ⊎_elim (λ same. inl same) (λ more. inr (inl more)) has)

  -- while the entries are appended to it
  left_then : (entries : List Entry) → parts_in m.reading mid ≡ begun size old.greatest (parts_in v.reading old) → LeavesOnly m w (HasOrGains mid.name size mid.greatest (parts_in m.reading mid) entries) → LeavesOnly m w (Gains entries)
  left_then entries is only =
      weaker m w (HasOrGains mid.name size mid.greatest (parts_in m.reading mid) entries) (Gains entries) only
      (λ c has. ⊎_elim
      (λ same. inr (inl (subst (λ (n : List ℕ). IsChoice (folder n c) B) name (subst (IsChoice (folder mid.name c)) is same))))
      (λ rest. ⊎_elim
      (λ same. inr (inl (subst (λ (n : List ℕ). IsChoice (folder n c) B) name (subst (IsChoice (folder mid.name c)) (ap (begun size mid.greatest) is ∙ begun_again mid.greatest) same))))
      (λ more. inr (inr (subst (λ (n : List ℕ). IsChoice (folder n c) (gained size old.greatest (parts_in v.reading old) entries)) name (subst (IsChoice (folder mid.name c)) (gained_so entries is) more))))
      rest)
      has)

  pub first_on : {T : Type 0} (tail : Tail) (result : Result T DiskFault) → BeginsOn v m old mid size {T = Tail} (Ok tail) → AppendsOn m w mid new frame size result → AppendsOn v w old new frame size result
  first_on tail result files more = record {
    fits = more.fits;
    parts = on_ok_weaker result (λ parts entries f. parts entries (next_frame entries f) ∙ gained_so entries files.parts) more.parts;
    alone = on_ok_weaker result (λ alone_then alone. alone_then (files.alone alone)) more.alone;
    held = on_ok_weaker result (λ held_then held. held_then (files.held held)) more.held;
    any_moment = λ held entries f. goes_further v m w (Gains entries) (left_first entries (files.any_moment held)) (left_then entries files.parts (more.any_moment (files.held held) entries (next_frame entries f)));
    empty = λ held. subst (IsEmptyWhereNone w) name (more.empty (files.held held));
    others = names_further v m w old.name files.others (subst (KeepsNames m w) name more.others);
  }

-- over any disk
pub appends_first : (v m w : View) (old mid new : Parts) (frame : List ℕ) (count size : ℕ) → old.tail ≡ None → 2 ≤ size → mid.name ≡ old.name → mid.greatest ≡ old.greatest + 1 → last_of mid ≡ last_of old
    → {T : Type 0} (tail : Tail) (result : Result T DiskFault) (tells : Bool) (before between now : ℕ) → (IsTrue tells → Fits v old) → before ≤ between → (IsTrue tells → BeginsOn v m old mid size {T = Tail} (Ok tail))
    → Appends tells m w between now mid new frame count size result → mid.tail ≡ Some tail → Appends tells v w before now old new frame count size result
appends_first v m w old mid new frame count size none least name greatest lasts tail result tells before between now fits later files more some = record {
  last = on_ok_weaker result (λ next. next ∙ ap (λ (k : ℕ). k + count) lasts) more.last;
  greatest = on_ok_weaker result (λ next. next ∙ (λ i. greatest_after (is_none (some i)) (greatest i)) ∙ sym (ap (λ (o : Option Tail). greatest_after (is_none o) old.greatest) none)) more.greatest;
  name = more.name ∙ name;
  told = λ t. first_on v m w old mid new frame size (fits t) none least name greatest lasts tail result (files t) (more.told t);
  cause = record {
    later = let more_later = more.cause.later in omega (arith, later, more_later);
    failed = λ is. let rose = more.cause.failed is in omega (arith, later, rose);
  };
}

-- it couldn't be made
pub appends_none : (v m : View) (old mid : Parts) (frame : List ℕ) (size : ℕ) {T : Type 0} (fault : DiskFault) → BeginsOn v m old mid size {T = Tail} (Err fault) → AppendsOn v m old mid frame size {T = T} (Err fault)
appends_none v m old mid frame size fault files = record {
  fits = tt;
  parts = tt;
  alone = tt;
  held = tt;
  any_moment = λ held entries f.
      weaker v m (HasOrBegins old.name size old.greatest (parts_in v.reading old)) (HasOrGains old.name size old.greatest (parts_in v.reading old) entries) (files.any_moment held)
      (λ c has. ⊎_elim (λ same. inl same) (λ more. inr (inl more)) has);
  empty = files.empty;
  others = files.others;
}
