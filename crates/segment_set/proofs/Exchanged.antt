-- A file in place of neighbours that have its range, on a disk that tells: what is left while these are removed, and then.
use Rattle.std.proofs.Common.{◌≡◌, ◌≢◌, ◌⊎◌, inl, inr, ⊎_elim, ℕ, ◌+◌, List, [], ◌∷◌, ◌++◌, Option, Some, None, refl, sym, ap, subst, ◌∙◌, arith, Contains}
use Rattle.std.proofs.lemmas.List.Elements.{Contains-append_cases, Contains-append_left, Contains-append_right}
use Rattle.offset_index.specs.Indexed.{Indexed}
use Rattle.disk_model.specs.declared.file_id.FileId.{FileId}
use Rattle.disk_model.specs.Image.{Image, Place, place}
use Rattle.disk_model.specs.View.{View, MayHold, IsListed, IsSound, LeavesAt, LeavesOnly}
use Rattle.disk_model.proofs.Moments.{has_now, weaker}
use Rattle.disk_model.proofs.Names.{place_cases}
use Rattle.disk_model.proofs.Places.{own}
use Rattle.segment_files.specs.Parse.{Part, Found, Closed}
use Rattle.segment_files.specs.Folder.{EachHas, Folder, IsChoice, folder, found}
use Rattle.segment_set.specs.declared.opened.Opened.{Opened}
use Rattle.segment_set.specs.declared.parts.Parts.{Parts}
use Rattle.segment_set.specs.declared.tail.Tail.{Tail}
use Rattle.segment_set.specs.Exchange.{HasRun, IsAloneBut, ids_of, parts_with}
use Rattle.segment_set.specs.Fits.{Fits, HasFile, IsAlone, IsEmptyWhereNone, IsHeld, IsOpenIn, IsTailOf, TailIs, part_list, parts_in, parts_of, tail_parts}
use Rattle.segment_set.specs.Load.{AreListed, OrGone}
use Rattle.segment_set.proofs.Exchanging.{base_from, back_joined, front_joined, ids_apart, ids_has, run_joined}
use Rattle.segment_set.proofs.Images.{bytes_of, here, nothing, one_of}
use Rattle.segment_set.proofs.Joining.{joined_below, tail_base_is}
use Rattle.segment_set.proofs.Known.{file_from, sealed_listed, tail_id, tail_fits}
use Rattle.segment_set.proofs.Lying.{there}
use Rattle.segment_set.proofs.PartLists.{parts_same}
use Rattle.segment_set.proofs.Picking.{settled_after}
use Rattle.segment_set.proofs.Removing.{id_of}

-- a folder without files that are no parts has the same ones
without : (before after : Folder) (parts : List Part) → IsChoice before parts
    → ((id : FileId) → (after id ≡ before id) ⊎ ((after id ≡ Closed) × ((p : Part) → Contains parts p → p.id ≡ id → ⊥))) → IsChoice after parts
without before after parts choice each = record {
  stand = λ p has. ⊎_elim (λ same. same ∙ choice.stand p has) (λ gone. absurd (gone.1 p has refl)) (each p.id);
  cover = λ id q is. ⊎_elim (λ same. choice.cover id q (sym same ∙ is)) (λ gone. absurd (cc (gone.0, is))) (each id);
  undamaged = λ id at bad. ⊎_elim (λ same. choice.undamaged id at (sym same ∙ bad)) (λ gone. absurd (cc (gone.0, bad))) (each id);
}

-- a place is that of one of these files, or of none
among_cases : (name : List ℕ) (ids : List FileId) (q : Place) → ((id : FileId) × Contains ids id × (q ≡ place name id)) ⊎ ((id : FileId) → Contains ids id → q ≢ place name id)
among_cases name [] q = inr (λ id has is. nothing id has)
among_cases name (x ∷ ids) q = ⊎_elim
    (λ is. inl (x, here x ids, is))
    (λ ne. ⊎_elim
    (λ later. inl (later.0, there x ids later.0 later.1, later.2))
    (λ none. inr (λ id has is. ⊎_elim (λ first. ne (is ∙ ap (place name) (sym first))) (λ later. none id later is) (one_of x ids id has)))
    (among_cases name ids q))
    (place_cases q (place name x))

-- an open file is known by what is read there
open_as_read : (name : List ℕ) (c d : Image) (one : Opened) → d (place name one.id) ≡ c (place name one.id) → IsOpenIn name c one → IsOpenIn name d one
open_as_read name c d one same it = (it.0, ap (found one.id) same ∙ it.1, it.2, λ bytes reads. it.3 bytes (sym same ∙ reads))

module _ (v : View) (old : Parts) (fits : Fits v old) (new : Opened) (it : IsOpenIn old.name v.reading new) (front run back : List Opened) (r : HasRun old.sealed.items old.tail new front run back) where
  abbrev gone_ids : List FileId
  gone_ids = ids_of run

  abbrev files : List Opened
  files = front ++ new ∷ back

  abbrev parts : List Part
  parts = parts_with v.reading old (front ++ new ∷ back)

  was_sealed : (one : Opened) → Contains front one ⊎ (Contains run one ⊎ Contains back one) → Contains old.sealed.items one
  was_sealed one has = subst (λ (l : List Opened). Contains l one) (sym r.are)
      (⊎_elim
      (λ first. Contains-append_left front (run ++ back) one first)
      (λ later. Contains-append_right front (run ++ back) one (⊎_elim (λ inner. Contains-append_left run back one inner) (λ last. Contains-append_right run back one last) later))
      has)

  -- where each file of them comes from
  cases_now : (one : Opened) → Contains (front ++ new ∷ back) one → Contains front one ⊎ ((new ≡ one) ⊎ Contains back one)
  cases_now one has = ⊎_elim (λ first. inl first) (λ rest. inr (one_of new back one rest)) (Contains-append_cases front (new ∷ back) one has)

  pub each_open : (one : Opened) → Contains (front ++ new ∷ back) one → IsOpenIn old.name v.reading one
  each_open one has = ⊎_elim
      (λ first. fits.sealed one (was_sealed one (inl first)))
      (λ rest. ⊎_elim
      (λ is. subst (IsOpenIn old.name v.reading) is it)
      (λ last. fits.sealed one (was_sealed one (inr (inr last))))
      rest)
      (cases_now one has)

  -- none of them is removed
  pub apart : (one x : Opened) → Contains (front ++ new ∷ back) one → Contains run x → one.id ≡ x.id → ⊥
  apart one x has in_run is =
      let base = ap (λ (i : FileId). i.base) is in
      let from = base_from new.id.base run x (run_joined old new front run back r) in_run in
      let below = joined_below new.id.base run x (run_joined old new front run back r) in_run in
      ⊎_elim
      (λ first. omega (arith, joined_below 1 front one (front_joined old new front run back r) first, r.from, from, base))
      (λ rest. ⊎_elim
      (λ same. omega (arith, r.newer x in_run, ap (λ (o : Opened). o.id.generation) same, ap (λ (i : FileId). i.generation) is))
      (λ last. omega (arith, base_from (new.part.last + 1) back one (back_joined old new front run back r) last, r.to, below, base))
      rest)
      (cases_now one has)

  tail_not_gone : (tail : Tail) → old.tail ≡ Some tail → (x : Opened) → Contains run x → tail.id ≡ x.id → ⊥
  tail_not_gone tail some x in_run is =
      omega (arith, joined_below 1 old.sealed.items x old.joined (was_sealed x (inr (inl in_run))), tail_base_is old tail some, ap (λ (i : FileId). i.base) is)

  -- nor any of the parts
  pub part_apart : (p : Part) → Contains parts p → (id : FileId) → Contains gone_ids id → p.id ≡ id → ⊥
  part_apart p has id gone is =
      let x = ids_has run id gone in
      ⊎_elim
      (λ sealed. let one = file_from old.name v.reading p (front ++ new ∷ back) each_open sealed in apart one.0 x.0 one.1 x.1 (sym one.2 ∙ is ∙ sym x.2))
      (λ last. by old.tail refl last x.0 x.1 (is ∙ sym x.2))
      (Contains-append_cases (parts_of (folder old.name v.reading) (front ++ new ∷ back)) (tail_parts (folder old.name v.reading) old.tail) p has)
    where
      by : (o : Option Tail) → old.tail ≡ o → Contains (tail_parts (folder old.name v.reading) o) p → (x : Opened) → Contains run x → p.id ≡ x.id → ⊥
      by None is none x in_run same = nothing p none
      by (Some tail) some last x in_run same =
          let tf = tail_fits v old fits tail some in
          let only = subst (λ (f : Found). Contains (part_list f) p) tf.at.whole last in
          tail_not_gone tail some x in_run (sym (tail_id v old fits tail some) ∙ ap (λ (q : Part). q.id) (⊎_elim (λ first. first) (λ none. absurd (nothing p none)) (one_of tf.part [] p only)) ∙ same)

  pub listed : AreListed v old.name gone_ids
  listed = record {
    listed = λ id has. let x = ids_has run id has in subst (λ (i : FileId). IsListed v (place old.name i)) x.2 (sealed_listed v old fits x.0 (was_sealed x.0 (inr (inl x.1))));
    apart = ids_apart new.id.base run (run_joined old new front run back r);
  }

  -- ---- WHILE they are removed

  -- an image that is left meanwhile, with each one back as it read
  abbrev Was : Image → Place → Type 0
  Was c q = (o : Option (List ℕ)) × MayHold v q o × ((c q ≡ o) ⊎ ((id : FileId) × Contains gone_ids id × (q ≡ place old.name id) × (c q ≡ None)))

  was_at : IsSound v → (c : Image) (q : Place) → OrGone v old.name gone_ids q (c q) → Was c q
  was_at sound c q (inl held) = (c q, held, inl refl)
  was_at sound c q (inr gone) = (v.reading q, own v sound q, inr gone)

  pub still_has : IsSound v → EachHas v old.name parts → (c : Image) → ((q : Place) → OrGone v old.name gone_ids q (c q)) → IsChoice (folder old.name c) parts
  still_has sound each c left =
      let was : (q : Place) → Was c q = λ q. was_at sound c q (left q) in
      without (folder old.name (λ q. (was q).0)) (folder old.name c) parts (each (λ q. (was q).0) (λ q. (was q).1))
      (λ id. ⊎_elim
      (λ same. inl (ap (found id) same))
      (λ gone. inr (ap (found id) gone.3, λ p has is. part_apart p has gone.0 gone.1 (is ∙ id_of old.name id gone.0 gone.2)))
      (was (place old.name id)).2)

  module _ (w : View) (sound : IsSound v) (sound_w : IsSound w) (only : LeavesAt v w (OrGone v old.name gone_ids))
      (others : (q : Place) → ((id : FileId) → Contains gone_ids id → q ≢ place old.name id) → w.reading q ≡ v.reading q) where
    pub any_moment : EachHas v old.name parts → LeavesOnly v w (λ c. IsChoice (folder old.name c) parts)
    any_moment each = weaker v w (λ c. (q : Place) → OrGone v old.name gone_ids q (c q)) (λ c. IsChoice (folder old.name c) parts) only (still_has sound each)

    kept_place : (id : FileId) → ((x : Opened) → Contains run x → id ≡ x.id → ⊥) → w.reading (place old.name id) ≡ v.reading (place old.name id)
    kept_place id apart_from = others (place old.name id)
        (λ other has is. let x = ids_has run other has in apart_from x.0 x.1 (id_of old.name id other is ∙ sym x.2))

    pub same_read : (one : Opened) → Contains (front ++ new ∷ back) one → w.reading (place old.name one.id) ≡ v.reading (place old.name one.id)
    same_read one has = kept_place one.id (λ x in_run is. apart one x has in_run is)

    tail_read : (tail : Tail) → old.tail ≡ Some tail → w.reading (place old.name tail.id) ≡ v.reading (place old.name tail.id)
    tail_read tail some = kept_place tail.id (λ x in_run is. tail_not_gone tail some x in_run is)

    -- the new one is there, so the name isn't without files
    pub still_some : IsEmptyWhereNone w old.name
    still_some none =
        let b = bytes_of old.name v.reading new.id it.0 it.1 in
        absurd (none new.id (b.0, same_read new (Contains-append_right front (new ∷ back) new (here new back)) ∙ b.1))

    -- ---- THEN

    module _ (gone : (id : FileId) → Contains gone_ids id → w.reading (place old.name id) ≡ None)
        (now : Parts) (sealed : now.sealed.items ≡ front ++ new ∷ back) (tail : now.tail ≡ old.tail) (offsets : now.offsets ≡ old.offsets) (greatest : now.greatest ≡ old.greatest) (named : now.name ≡ old.name) where
      tail_same : (o : Option Tail) → old.tail ≡ o → tail_parts (folder old.name w.reading) o ≡ tail_parts (folder old.name v.reading) o
      tail_same None is = refl
      tail_same (Some t) is = ap (λ (o : Option (List ℕ)). part_list (found t.id o)) (tail_read t is)

      pub parts_now : parts_in w.reading now ≡ parts
      parts_now =
          (λ i. parts_of (folder (named i) w.reading) (sealed i) ++ tail_parts (folder (named i) w.reading) (tail i))
          ∙ (λ i. parts_same (folder old.name v.reading) (folder old.name w.reading) (front ++ new ∷ back) (λ one has. ap (found one.id) (same_read one has)) i ++ tail_same old.tail refl i)

      pub held_now : EachHas v old.name parts → IsHeld w now
      held_now each c may =
          subst (λ (l : List Part). IsChoice (folder now.name c) l) (sym parts_now)
          (subst (λ (n : List ℕ). IsChoice (folder n c) parts) (sym named)
          (has_now v w (λ d. IsChoice (folder old.name d) parts) sound_w (any_moment each) c may))

      was_listed : (id : FileId) → IsListed w (place old.name id) → IsListed v (place old.name id)
      was_listed id is = ⊎_elim
          (λ in_run. absurd (cc (is.1, ap w.reading in_run.2, gone in_run.0 in_run.1)))
          (λ kept. (is.0, sym (others (place old.name id) kept) ∙ is.1))
          (among_cases old.name gone_ids (place old.name id))

      tail_fits_now : (o : Option Tail) → old.tail ≡ o → TailIs w old.name o old.offsets.items
      tail_fits_now None is = tt {0}
      tail_fits_now (Some t) is =
          let tf = tail_fits v old fits t is in
          let read = tail_read t is in
          record {
            part = tf.part;
            at = record {
              whole = ap (found t.id) read ∙ tf.at.whole;
              plain = tf.at.plain;
              last_is = tf.at.last_is;
              gate_is = tf.at.gate_is;
              size_is = tf.at.size_is;
              at_gate = record {
                bytes = tf.at.at_gate.bytes;
                reads = read ∙ tf.at.at_gate.reads;
                within = tf.at.at_gate.within;
                settled = settled_after v w old.name gone_ids t.id sound_w
                    (λ has. let x = ids_has run t.id has in tail_not_gone t is x.0 x.1 (sym x.2)) read only tf.at.at_gate.settled;
                shut = tf.at.at_gate.shut;
              };
            };
            placed = λ bytes reads. tf.placed bytes (sym read ∙ reads);
          }

      pub fits_now : Fits w now
      fits_now = record {
        sealed = λ one has. subst (λ (n : List ℕ). IsOpenIn n w.reading one) (sym named)
            (let in_it = subst (λ (l : List Opened). Contains l one) sealed has in open_as_read old.name v.reading w.reading one (same_read one in_it) (each_open one in_it));
        tail = subst (λ (n : List ℕ). TailIs w n now.tail now.offsets.items) (sym named)
            (subst (λ (o : Option Tail). TailIs w old.name o now.offsets.items) (sym tail)
            (subst (λ (o : Indexed). TailIs w old.name old.tail o.items) (sym offsets) (tail_fits_now old.tail refl)));
        generations = λ id is. let before = fits.generations id (was_listed id (subst (λ (n : List ℕ). IsListed w (place n id)) named is)) in omega (arith, before, greatest);
      }

      pub alone_now : IsAloneBut v old new.id → IsAlone w now
      alone_now alone id is =
          let in_name = subst (λ (n : List ℕ). IsListed w (place n id)) named is in
          let stays : (one : Opened) → Contains (front ++ new ∷ back) one → one.id ≡ id → HasFile now id =
          λ one has same. inl (one, subst (λ (l : List Opened). Contains l one) (sym sealed) has, same) in
          ⊎_elim
          (λ old_file. ⊎_elim
          (λ f. ⊎_elim
          (λ first. stays f.0 (Contains-append_left front (new ∷ back) f.0 first) f.2)
          (λ rest. ⊎_elim
          (λ in_run. absurd (cc (in_name.1, gone f.0.id (has_id run f.0 in_run), ap (λ (i : FileId). w.reading (place old.name i)) f.2)))
          (λ last. stays f.0 (Contains-append_right front (new ∷ back) f.0 (there new back f.0 last)) f.2)
          (Contains-append_cases run back f.0 rest))
          (Contains-append_cases front (run ++ back) f.0 (subst (λ (l : List Opened). Contains l f.0) r.are f.1)))
          (λ t. inr (subst (λ (o : Option Tail). IsTailOf o id) (sym tail) t))
          old_file)
          (λ is_new. stays new (Contains-append_right front (new ∷ back) new (here new back)) (sym is_new))
          (alone id (was_listed id in_name))
        where
          has_id : (l : List Opened) (x : Opened) → Contains l x → Contains (ids_of l) x.id
          has_id [] x none = absurd (nothing x none)
          has_id (y ∷ l) x has = ⊎_elim
              (λ first. subst (λ (o : Opened). Contains (ids_of (y ∷ l)) o.id) first (here y.id (ids_of l)))
              (λ later. there y.id (ids_of l) x.id (has_id l x later))
              (one_of y l x has)
