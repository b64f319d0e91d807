-- Each step of a disk that tears.
use Rattle.std.proofs.Common.{◌≡◌, ◌≢◌, ◌⊎◌, inl, inr, ⊎_elim, ℕ, ◌≤◌, Bool, true, false, IsTrue, cond, List, [], ◌∷◌, ◌++◌, length, reverse, Option, Some, None, Ok, refl, sym, ◌∙◌, ap, subst, arith}
use Rattle.std.proofs.lemmas.List.{reverse-append}
use Rattle.std.proofs.lemmas.Bool.{cases_Bool}
use Rattle.std.specs.Prelude.{option_and_then, find}
use Rattle.disk_model.specs.Image.{IsFileId, Place, place, same_place, Torn, written}
use Rattle.disk_model.specs.declared.file_id.FileId.{FileId}
use Rattle.std.specs.declared.alloc.Global.{Global}
use Rattle.std.proofs.Common.{Vec}
use Rattle.disk_model.specs.View.{View, EachSettled, MayHold, Reads, Elapses, IsSound, IsSettled}
use Rattle.disk_model.specs.Calls.{Writes, Creates, Removes, Syncs}
use Rattle.disk_model.proofs.Names.{same_when, same_to, place_cases}
use Rattle.disk_memory.specs.declared.steps.Kind.{Kind}
use Rattle.disk_memory.specs.declared.steps.Kind.TheVariants.{Settled, Created, Written, Removed, Synced}
use Rattle.disk_memory.specs.declared.steps.Step.{Step}
use Rattle.disk_memory.specs.Kinds.{fits}
use Rattle.disk_memory.specs.Placed.{Places}
use Rattle.disk_memory.specs.Versions.{bytes_of, version_place, version_bytes, image_of}
use Rattle.disk_memory.specs.History.{Leaves, LeavesElse, next, read_after, from_newest, history, history_sound, hold_same}
use Rattle.disk_model.proofs.Places.{elapses_not}
use Rattle.disk_memory.proofs.Settled.{torn_whole}

through : (b : Bool) (s : Step) (o : Option Step) → option_and_then version_bytes (cond b (Some s) o) ≡ cond b (version_bytes s) (option_and_then version_bytes o)
through true s o = refl
through false s o = refl

reads_newest : (older : List Step) (p : Place) → option_and_then version_bytes (find (λ s. same_place (version_place s) p) older) ≡ (from_newest older).reading p
reads_newest [] p = refl
reads_newest (s ∷ older) p = through (same_place (version_place s) p) s _ ∙ ap (λ (o : Option (List ℕ)). cond (same_place (version_place s) p) (version_bytes s) o) (reads_newest older p)

-- what is found is what is read
pub reads_history : (steps : List Step) (p : Place) → image_of steps p ≡ (history steps).reading p
reads_history steps p = reads_newest (reverse steps) p

-- one step more is the newest
pub one_newer : (steps more : List Step) (s : Step) → more ≡ steps ++ s ∷ [] → reverse more ≡ s ∷ reverse steps
one_newer steps more s is = ap (λ (l : List Step). reverse l) is ∙ reverse-append steps (s ∷ [])

module _ (v : View) (s : Step) (p : Place) (at : version_place s ≡ p) (sound : IsSound v) where
  pub at_once : (q : Place) → read_after v s q ≡ cond (same_place p q) (version_bytes s) (v.reading q)
  at_once q = ap (λ (r : Place). cond (same_place r q) (version_bytes s) (v.reading q)) at

  pub there : read_after v s p ≡ version_bytes s
  there = at_once p ∙ ap (λ (b : Bool). cond b (version_bytes s) (v.reading p)) (same_to p)

  elsewhere : (q : Place) → ((q ≡ p) × (read_after v s q ≡ version_bytes s)) ⊎ (read_after v s q ≡ v.reading q)
  elsewhere q = elim (cases_Bool (same_place p q)) [
    | inl hit ↦ inl (sym (same_when p q hit), at_once q ∙ ap (λ (b : Bool). cond b (version_bytes s) (v.reading q)) hit)
    | inr miss ↦ inr (at_once q ∙ ap (λ (b : Bool). cond b (version_bytes s) (v.reading q)) miss)
  ]

  others : (q : Place) → q ≢ p → read_after v s q ≡ v.reading q
  others q ne = ⊎_elim (λ here. absurd (ne here.0)) (λ kept. kept) (elsewhere q)

  elapses : Elapses v (next v s)
  elapses = record {
    later = omega arith;
    nothing_else = λ t c le left. ⊎_elim (λ now. inr now) (λ was. inl was.1) left;
    keeps = λ t c le left. inr (le, left);
    counts = λ t c le may. inl (λ q. hold_same v s q (c q) (may q));
  }

  absent_now : (q : Place) (o : Option (List ℕ)) → o ≡ None → v.reading q ≡ None → v.else_left q o
  absent_now q o is none = subst (v.else_left q) (sym is) (sound.absent q none)

  -- a step that settles its place
  module _ (kind : s.kind ≡ Settled) where
    bytes_were : (q : Place) (c : List ℕ) → q ≢ p → (next v s).bytes_left q c → v.bytes_left q c
    bytes_were q c ne held = ⊎_elim (λ left. (subst (λ (k : Kind). Leaves k v (version_place s) q c) kind left).0) (λ reads. sound.listed q c (sym (others q ne) ∙ reads)) held.1

    else_were : (q : Place) (o : Option (List ℕ)) → q ≢ p → (next v s).else_left q o → v.else_left q o
    else_were q o ne held = ⊎_elim (λ left. (subst (λ (k : Kind). LeavesElse k v (version_place s) q o) kind left).0) (λ none. absent_now q o none.0 (sym (others q ne) ∙ none.1)) held

    holds_were : (q : Place) (o : Option (List ℕ)) → q ≢ p → MayHold (next v s) q o → MayHold v q o
    holds_were q None ne held = else_were q None ne held
    holds_were q (Some c) ne (inl held) = inl (bytes_were q c ne held)
    holds_were q (Some c) ne (inr held) = inr (else_were q (Some c) ne held)

    settled_here : IsSettled (next v s) p
    settled_here None held = ⊎_elim (λ left. absurd ((subst (λ (k : Kind). LeavesElse k v (version_place s) p None) kind left).1 (sym at))) (λ none. sym none.1) held
    settled_here (Some c) (inl held) = ⊎_elim (λ left. absurd ((subst (λ (k : Kind). Leaves k v (version_place s) p c) kind left).1 (sym at))) (λ reads. sym reads) held.1
    settled_here (Some c) (inr held) = ⊎_elim (λ left. absurd ((subst (λ (k : Kind). LeavesElse k v (version_place s) p (Some c)) kind left).1 (sym at))) (λ none. none.0 ∙ sym none.1) held

    pub settled_more : EachSettled v → EachSettled (next v s)
    settled_more settled q = ⊎_elim
        (λ (is_p : q ≡ p). subst (IsSettled (next v s)) (sym is_p) settled_here)
        (λ (ne : q ≢ p) o held. settled q o (holds_were q o ne held) ∙ sym (others q ne))
        (place_cases q p)

abbrev pub step : (name : List ℕ) (id : FileId) (kind : Kind) (bytes : Option (Vec ℕ Global)) → IsFileId id → IsTrue (fits kind bytes) → Step
step name id kind bytes named fitting = record { name = name; id = id; kind = kind; bytes = bytes; named = named; fitting = fitting }

module _ (v : View) (name : List ℕ) (id : FileId) (named : IsFileId id) (sound : IsSound v) where
  abbrev p : Place
  p = place name id

  pub wrote : (from : ℕ) (bytes b : List ℕ) (after : Option (Vec ℕ Global)) (fitting : IsTrue (fits (Written from (length bytes)) after)) → Reads v p b → from ≤ length b → bytes_of after ≡ Some (written b from bytes)
      → {T : Type 0} (x : T) → Writes v (next v (step name id (Written from (length bytes)) after named fitting)) p from bytes (Ok x)
  wrote from bytes b after fitting was le is {T} x =
      let s = step name id (Written from (length bytes)) after named fitting in
      let now = there v s p refl sound ∙ is in
      let whole = torn_whole from b bytes le in
      record {
        others = others v s p refl sound;
        torn = λ b' was'. let same : b ≡ b' = cc in (written b from bytes, now, subst (λ (l : List ℕ). Torn from (length bytes) l (written b from bytes)) same whole);
        done = λ b' was'. let same : b ≡ b' = cc in now ∙ ap (λ (l : List ℕ). Some (written l from bytes)) same;
        bytes_left = λ q c held. ⊎_elim
            (λ left. left)
            (λ reads. ⊎_elim
            (λ here. let c_is : c ≡ written b from bytes = cc (reads, here.1, is) in inr (b, here.0, sound.listed p b was, subst (λ (l : List ℕ). Torn from (length bytes) b l) (sym c_is) whole))
            (λ kept. inl (sound.listed q c (sym kept ∙ reads)))
            (elsewhere v s p refl sound q))
            held.1;
        else_left = λ q o held. ⊎_elim
            (λ left. left)
            (λ none. ⊎_elim (λ here. absurd (cc (none.1, here.1, is))) (λ kept. absent_now v s p refl sound q o none.0 (sym kept ∙ none.1)) (elsewhere v s p refl sound q))
            held;
        no_memory = λ none. absurd (cc none);
        time = elapses v s p refl sound;
      }

  pub created : (after : Option (Vec ℕ Global)) (fitting : IsTrue (fits Created after)) → bytes_of after ≡ Some [] → {T : Type 0} (x : T) → Creates v (next v (step name id Created after named fitting)) p (Ok x)
  created after fitting is {T} x =
      let s = step name id Created after named fitting in
      let now = there v s p refl sound ∙ is in
      record {
        others = others v s p refl sound;
        either = inr now;
        done = now;
        bytes_left = λ q c held. ⊎_elim
            (λ left. left)
            (λ reads. ⊎_elim
            (λ here. let c_is : c ≡ [] = cc (reads, here.1, is) in inr (here.0, c_is))
            (λ kept. inl (sound.listed q c (sym kept ∙ reads)))
            (elsewhere v s p refl sound q))
            held.1;
        else_left = λ q o held. ⊎_elim
            (λ left. inl left)
            (λ none. ⊎_elim (λ here. absurd (cc (none.1, here.1, is))) (λ kept. inl (absent_now v s p refl sound q o none.0 (sym kept ∙ none.1))) (elsewhere v s p refl sound q))
            held;
        no_memory = λ none. absurd (cc none);
        time = elapses v s p refl sound;
      }

  pub removed : (fitting : IsTrue (fits Removed None)) {T : Type 0} (x : T) → Removes v (next v (step name id Removed None named fitting)) p (Ok x)
  removed fitting {T} x =
      let s = step name id Removed None named fitting in
      let now = there v s p refl sound in
      record {
        others = others v s p refl sound;
        either = inl now;
        done = now;
        bytes_left = λ q c held. ⊎_elim
            (λ left. left)
            (λ reads. ⊎_elim (λ here. absurd (cc (reads, here.1))) (λ kept. sound.listed q c (sym kept ∙ reads)) (elsewhere v s p refl sound q))
            held.1;
        else_left = λ q o held. ⊎_elim
            (λ left. left)
            (λ none. ⊎_elim (λ here. inr (here.0, inl none.0)) (λ kept. inl (absent_now v s p refl sound q o none.0 (sym kept ∙ none.1))) (elsewhere v s p refl sound q))
            held;
        no_memory = λ none. absurd (cc none);
        time = elapses v s p refl sound;
      }

  pub synced : (after : Option (Vec ℕ Global)) (fitting : IsTrue (fits Synced after)) → bytes_of after ≡ v.reading p → {T : Type 0} (x : T) → Syncs v (next v (step name id Synced after named fitting)) p (Ok x)
  synced after fitting is {T} x =
      let s = step name id Synced after named fitting in
      let same : (q : Place) → read_after v s q ≡ v.reading q =
      λ q. ⊎_elim (λ here. here.1 ∙ is ∙ ap (λ (r : Place). v.reading r) (sym here.0)) (λ kept. kept) (elsewhere v s p refl sound q) in
      record {
        stays = record {
          reading = λ i q. same q i;
          bytes_left = λ q c held. ⊎_elim (λ left. left.0) (λ reads. sound.listed q c (sym (same q) ∙ reads)) held.1;
          else_left = λ q o held. ⊎_elim (λ left. absurd left) (λ none. absent_now v s p refl sound q o none.0 (sym (same q) ∙ none.1)) held;
        };
        bytes = λ c held. ⊎_elim (λ left. absurd (left.1 refl)) (λ reads. reads) held.1;
        names = λ q o held. ⊎_elim (λ left. absurd left) (λ none. none) held;
        time = elapses v s p refl sound;
      }

  pub placed : (bytes : List ℕ) (after : Option (Vec ℕ Global)) (fitting : IsTrue (fits Settled after)) → bytes_of after ≡ Some bytes → Places v (next v (step name id Settled after named fitting)) p bytes
  placed bytes after fitting is =
      let s = step name id Settled after named fitting in
      record {
        here = there v s p refl sound ∙ is;
        others = others v s p refl sound;
        settled = settled_here v s p refl sound refl;
        bytes_left = bytes_were v s p refl sound refl;
        else_left = else_were v s p refl sound refl;
        all_settled = settled_more v s p refl sound refl;
        time = elapses v s p refl sound;
      }

-- from a step to the lists of steps
pub moved : (steps more : List Step) (s : Step) (R : View → View → Type 0) → more ≡ steps ++ s ∷ [] → R (history steps) (next (history steps) s) → R (history steps) (history more)
moved steps more s R push fact = subst (λ (l : List Step). R (history steps) (from_newest l)) (sym (one_newer steps more s push)) fact

-- a call that did nothing
pub history_stands : (steps : List Step) → Elapses (history steps) (history steps)
history_stands steps = elapses_not (history steps) (history_sound (reverse steps))
