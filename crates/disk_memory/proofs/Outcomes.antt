-- Each outcome of a crash is one that might have come.
use Rattle.std.proofs.Common.{◌≡◌, ◌≢◌, ◌⊎◌, inl, inr, ℕ, ◌≤◌, Bool, true, false, IsTrue, cond, nat_le, List, [], ◌∷◌, length, replicate, reverse, Option, Some, None, Vec, refl, sym, ◌∙◌, ap, subst, arith}
use Rattle.std.proofs.lemmas.Bool.{cases_Bool, both_ways}
use Rattle.std.proofs.lemmas.List.{length-replicate}
use Rattle.std.specs.Prelude.{option_and_then, find}
use Rattle.std.specs.declared.alloc.Global.{Global}
use Rattle.disk_model.specs.declared.file_id.FileId.{FileId}
use Rattle.disk_model.specs.Image.{IsFileId, Place, place, same_place, Torn, written}
use Rattle.disk_model.specs.View.{View, MayHold, IsSound}
use Rattle.disk_model.proofs.Names.{same_when, same_to}
use Rattle.disk_model.proofs.Places.{own}
use Rattle.disk_memory.specs.declared.outcome.Outcome.{Outcome}
use Rattle.disk_memory.specs.declared.outcome.Outcome.TheVariants.{Old, New, Torn as Tears}
use Rattle.disk_memory.specs.declared.steps.Kind.{Kind}
use Rattle.disk_memory.specs.declared.steps.Kind.TheVariants.{Settled, Created, Written, Removed, Synced}
use Rattle.disk_memory.specs.declared.steps.Step.{Step}
use Rattle.disk_memory.specs.Kinds.{fits}
use Rattle.disk_memory.specs.Versions.{bytes_of, version_place, version_bytes, newest}
use Rattle.disk_memory.specs.History.{Leaves, LeavesElse, next, read_after, from_newest, history, history_sound}
use Rattle.disk_memory.specs.Torn.{sound}
use Rattle.disk_memory.specs.Outcomes.{Kept, or_else, kept_here, kept_there, kept_after, kept_from, torn_write, torn_here, torn_from, left}
use Rattle.disk_memory.proofs.Settled.{torn_whole}
use Rattle.disk_memory.proofs.Torn.{step, reads_history}

-- these may be the bytes of the file that is listed there, or none is
abbrev IsFile : View → Place → Option (List ℕ) → Type 0
IsFile v p None = v.reading p ≡ None
IsFile v p (Some b) = v.bytes_left p b

record Holds (v : View) (p : Place) (kept : Kept) : Type 0 where
  settled : MayHold v p kept.settled
  file : IsFile v p kept.file

file_holds : (v : View) (p : Place) (o : Option (List ℕ)) → IsSound v → IsFile v p o → MayHold v p o
file_holds v p None sound is = sound.absent p is
file_holds v p (Some b) sound held = inl held

reads_file : (v : View) (s : Step) (p : Place) (o : Option (List ℕ)) → read_after v s p ≡ o → IsFile (next v s) p o
reads_file v s p None is = is
reads_file v s p (Some b) is = ((b, is), inr is)

-- a step at the place itself
module _ (v : View) (name : List ℕ) (id : FileId) (named : IsFileId id) where
  abbrev p : Place
  p = place name id

  module _ (kind : Kind) (bytes : Option (Vec ℕ Global)) (fitting : IsTrue (fits kind bytes)) where
    abbrev s : Step
    s = step name id kind bytes named fitting

    reads : read_after v s p ≡ bytes_of bytes
    reads = ap (λ (b : Bool). cond b (bytes_of bytes) (v.reading p)) (same_to p)

    as_read : IsFile (next v s) p (bytes_of bytes)
    as_read = reads_file v s p (bytes_of bytes) reads

    now_holds : IsSound (next v s) → MayHold (next v s) p (bytes_of bytes)
    now_holds sound = file_holds (next v s) p (bytes_of bytes) sound as_read

  created_keeps : (b : Vec ℕ Global) (fitting : IsTrue (fits Created (Some b))) (o : Option (List ℕ)) → MayHold v p o → MayHold (next v (step name id Created (Some b) named fitting)) p o
  created_keeps b fitting None held = inl held
  created_keeps b fitting (Some c) (inl held) = inl ((b.items, reads Created (Some b) fitting), inl (inl held))
  created_keeps b fitting (Some c) (inr held) = inr (inl held)

  written_keeps : (at n : ℕ) (b : Vec ℕ Global) (fitting : IsTrue (fits (Written at n) (Some b))) (o : Option (List ℕ)) → MayHold v p o → MayHold (next v (step name id (Written at n) (Some b) named fitting)) p o
  written_keeps at n b fitting None held = inl held
  written_keeps at n b fitting (Some c) (inl held) = inl ((b.items, reads (Written at n) (Some b) fitting), inl (inl held))
  written_keeps at n b fitting (Some c) (inr held) = inr (inl held)

  removed_keeps : (fitting : IsTrue (fits Removed None)) (o : Option (List ℕ)) → MayHold v p o → MayHold (next v (step name id Removed None named fitting)) p o
  removed_keeps fitting None held = inl (inr (refl, inr held))
  removed_keeps fitting (Some c) held = inr (inl (inr (refl, inr held)))

  written_file : (at n : ℕ) (b : Vec ℕ Global) (fitting : IsTrue (fits (Written at n) (Some b))) (o : Option (List ℕ)) → IsFile v p o → IsFile (next v (step name id (Written at n) (Some b) named fitting)) p (or_else o (Some b.items))
  written_file at n b fitting None held = as_read (Written at n) (Some b) fitting
  written_file at n b fitting (Some c) held = ((b.items, reads (Written at n) (Some b) fitting), inl (inl held))

  holds_here : (kind : Kind) (bytes : Option (Vec ℕ Global)) (fitting : IsTrue (fits kind bytes)) (kept : Kept) → IsSound (next v (step name id kind bytes named fitting)) → Holds v p kept → Holds (next v (step name id kind bytes named fitting)) p (kept_here kind (bytes_of bytes) kept)
  holds_here Settled bytes fitting kept sound held = record { settled = now_holds Settled bytes fitting sound; file = as_read Settled bytes fitting }
  holds_here Synced bytes fitting kept sound held = record { settled = now_holds Synced bytes fitting sound; file = as_read Synced bytes fitting }
  holds_here Created None fitting kept sound held = absurd (cc fitting)
  holds_here Created (Some b) fitting kept sound held = record { settled = created_keeps b fitting kept.settled held.settled; file = as_read Created (Some b) fitting }
  holds_here Removed None fitting kept sound held = record { settled = removed_keeps fitting kept.settled held.settled; file = as_read Removed None fitting }
  holds_here Removed (Some b) fitting kept sound held = absurd (cc fitting)
  holds_here (Written at n) None fitting kept sound held = absurd (cc fitting)
  holds_here (Written at n) (Some b) fitting kept sound held = record { settled = written_keeps at n b fitting kept.settled held.settled; file = written_file at n b fitting kept.file held.file }

  torn_file : (byte at n : ℕ) (b : Vec ℕ Global) (fitting : IsTrue (fits (Written at n) (Some b))) (old : List ℕ) → v.bytes_left p old → IsFile (next v (step name id (Written at n) (Some b) named fitting)) p (torn_write byte at n (Some b.items) (Some old))
  torn_file byte at n b fitting old held = elim (cases_Bool (nat_le at (length old))) [
    | inl hit ↦
        let le : at ≤ length old = search arith in
        let torn : Torn at n old (written old at (replicate n byte)) = subst (λ (k : ℕ). Torn at k old (written old at (replicate n byte))) (length-replicate n byte) (torn_whole at old (replicate n byte) le) in
        subst (IsFile (next v (step name id (Written at n) (Some b) named fitting)) p) (sym (ap (λ (t : Bool). cond t (Some (written old at (replicate n byte))) (Some b.items)) hit))
        ((b.items, reads (Written at n) (Some b) fitting), inl (inr (old, refl, held, torn)))
    | inr miss ↦
        subst (IsFile (next v (step name id (Written at n) (Some b) named fitting)) p) (sym (ap (λ (t : Bool). cond t (Some (written old at (replicate n byte))) (Some b.items)) miss))
        (as_read (Written at n) (Some b) fitting)
  ]

  torn_holds : (byte : ℕ) (kind : Kind) (bytes : Option (Vec ℕ Global)) (fitting : IsTrue (fits kind bytes)) (old : Option (List ℕ)) → IsFile v p old → IsFile (next v (step name id kind bytes named fitting)) p (torn_here byte kind (bytes_of bytes) old)
  torn_holds byte Settled bytes fitting old held = as_read Settled bytes fitting
  torn_holds byte Created bytes fitting old held = as_read Created bytes fitting
  torn_holds byte Removed bytes fitting old held = as_read Removed bytes fitting
  torn_holds byte Synced bytes fitting old held = as_read Synced bytes fitting
  torn_holds byte (Written at n) None fitting old held = absurd (cc fitting)
  torn_holds byte (Written at n) (Some b) fitting None held = as_read (Written at n) (Some b) fitting
  torn_holds byte (Written at n) (Some b) fitting (Some old) held = torn_file byte at n b fitting old held

-- a step at another place
module _ (v : View) (s : Step) (p : Place) (sound : IsSound v) (ne : p ≢ version_place s) (same : read_after v s p ≡ v.reading p) where
  leaves : (kind : Kind) (c : List ℕ) → v.bytes_left p c → Leaves kind v (version_place s) p c
  leaves Settled c held = (held, ne)
  leaves Created c held = inl held
  leaves (Written at n) c held = inl held
  leaves Removed c held = held
  leaves Synced c held = (held, ne)

  abbrev IsNoSync : Kind → Type 0
  IsNoSync kind = kind ≢ Synced

  leaves_else : (kind : Kind) (o : Option (List ℕ)) → IsNoSync kind → v.else_left p o → LeavesElse kind v (version_place s) p o
  leaves_else Settled o free held = (held, ne)
  leaves_else Created o free held = held
  leaves_else (Written at n) o free held = held
  leaves_else Removed o free held = inl held
  leaves_else Synced o free held = absurd (free refl)

  listed : (r : Option (List ℕ)) (c : List ℕ) → v.reading p ≡ r → v.bytes_left p c → (b : List ℕ) × (read_after v s p ≡ Some b)
  listed None c is held = absurd (sound.unlisted p is c held)
  listed (Some b) c is held = (b, same ∙ is)

  file_there : (o : Option (List ℕ)) → IsFile v p o → IsFile (next v s) p o
  file_there None is = same ∙ is
  file_there (Some c) held = (listed (v.reading p) c refl held, inl (leaves s.kind c held))

  hold_there : IsNoSync s.kind → (o : Option (List ℕ)) → MayHold v p o → MayHold (next v s) p o
  hold_there free None held = inl (leaves_else s.kind None free held)
  hold_there free (Some c) (inl held) = inl (file_there (Some c) held)
  hold_there free (Some c) (inr held) = inr (inl (leaves_else s.kind (Some c) free held))

  holds_there : (kind : Kind) → s.kind ≡ kind → (kept : Kept) → IsSound (next v s) → Holds v p kept → Holds (next v s) p (kept_there kind kept)
  holds_there Settled is kept sound' held = record { settled = hold_there (λ sync. absurd (cc (is, sync))) kept.settled held.settled; file = file_there kept.file held.file }
  holds_there Created is kept sound' held = record { settled = hold_there (λ sync. absurd (cc (is, sync))) kept.settled held.settled; file = file_there kept.file held.file }
  holds_there (Written at n) is kept sound' held = record { settled = hold_there (λ sync. absurd (cc (is, sync))) kept.settled held.settled; file = file_there kept.file held.file }
  holds_there Removed is kept sound' held = record { settled = hold_there (λ sync. absurd (cc (is, sync))) kept.settled held.settled; file = file_there kept.file held.file }
  holds_there Synced is kept sound' held = record { settled = file_holds (next v s) p kept.file sound' (file_there kept.file held.file); file = file_there kept.file held.file }

-- the step is at the place, or it isn't and the place reads as before
at_or_not : (v : View) (s : Step) (p : Place) → ((same_place (version_place s) p ≡ true) × (version_place s ≡ p)) ⊎ ((same_place (version_place s) p ≡ false) × (p ≢ version_place s) × (read_after v s p ≡ v.reading p))
at_or_not v s p = elim (cases_Bool (same_place (version_place s) p)) [
  | inl hit ↦ inl (hit, same_when (version_place s) p hit)
  | inr miss ↦
      let ne : p ≢ version_place s = λ is. both_ways (same_place (version_place s) p) miss (ap (λ (r : Place). same_place (version_place s) r) is ∙ same_to (version_place s)) in
      let same : read_after v s p ≡ v.reading p = ap (λ (b : Bool). cond b (version_bytes s) (v.reading p)) miss in
      inr (miss, ne, same)
]

kept_holds : (older : List Step) (p : Place) → Holds (from_newest older) p (kept_from older p)
kept_holds [] p = record { settled = refl; file = refl }
kept_holds (s ∷ older) p =
    let v = from_newest older in
    let kept = kept_from older p in
    elim (at_or_not v s p) [
      | inl here ↦
          subst (Holds (next v s) p) (sym (ap (λ (b : Bool). kept_after b s.kind (version_bytes s) kept) here.0))
          (subst (λ (r : Place). Holds v r kept → Holds (next v s) r (kept_here s.kind (version_bytes s) kept)) here.1 (holds_here v s.name s.id s.named s.kind s.bytes s.fitting kept (history_sound (s ∷ older))) (kept_holds older p))
      | inr there ↦
          subst (Holds (next v s) p) (sym (ap (λ (b : Bool). kept_after b s.kind (version_bytes s) kept) there.0))
          (holds_there v s p (history_sound older) there.1 there.2 s.kind refl kept (history_sound (s ∷ older)) (kept_holds older p))
    ]

torn_is_file : (byte : ℕ) (older : List Step) (p : Place) → IsFile (from_newest older) p (torn_from byte older p)
torn_is_file byte [] p = refl
torn_is_file byte (s ∷ older) p =
    let v = from_newest older in
    let old = torn_from byte older p in
    let now = torn_here byte s.kind (version_bytes s) old in
    elim (at_or_not v s p) [
      | inl here ↦
          subst (IsFile (next v s) p) (sym (ap (λ (b : Bool). cond b now old) here.0))
          (subst (λ (r : Place). IsFile v r old → IsFile (next v s) r now) here.1 (torn_holds v s.name s.id s.named byte s.kind s.bytes s.fitting old) (torn_is_file byte older p))
      | inr there ↦
          subst (IsFile (next v s) p) (sym (ap (λ (b : Bool). cond b now old) there.0)) (file_there v s p (history_sound older) there.1 there.2 old (torn_is_file byte older p))
    ]

pub may_leave : (outcome : Outcome) (steps : List Step) (p : Place) → MayHold (history steps) p (left outcome steps p)
may_leave Old steps p = (kept_holds (reverse steps) p).settled
may_leave New steps p = own (history steps) (sound steps) p
may_leave (Tears byte) steps p = file_holds (history steps) p (torn_from byte (reverse steps) p) (sound steps) (torn_is_file byte (reverse steps) p)

-- where there was no step, there is no file
module _ (p : Place) where
  abbrev at_p : Step → Bool
  at_p s = same_place (version_place s) p

  abbrev nothing : Kept
  nothing = record { settled = None; file = None }

  there_nothing : (kind : Kind) → kept_there kind nothing ≡ nothing
  there_nothing Settled = refl
  there_nothing Created = refl
  there_nothing (Written at n) = refl
  there_nothing Removed = refl
  there_nothing Synced = refl

  missed : (s : Step) (older : List Step) → find at_p (s ∷ older) ≡ None → (at_p s ≡ false) × (find at_p older ≡ None)
  missed s older none = elim (cases_Bool (at_p s)) [
    | inl hit ↦ absurd (cc (sym (ap (λ (b : Bool). cond b (Some s) (find at_p older)) hit) ∙ none))
    | inr miss ↦ (miss, sym (ap (λ (b : Bool). cond b (Some s) (find at_p older)) miss) ∙ none)
  ]

  kept_nothing : (older : List Step) → find at_p older ≡ None → kept_from older p ≡ nothing
  kept_nothing [] none = refl
  kept_nothing (s ∷ older) none =
      let m = missed s older none in
      ap (λ (b : Bool). kept_after b s.kind (version_bytes s) (kept_from older p)) m.0 ∙ ap (kept_there s.kind) (kept_nothing older m.1) ∙ there_nothing s.kind

  torn_nothing : (byte : ℕ) (older : List Step) → find at_p older ≡ None → torn_from byte older p ≡ None
  torn_nothing byte [] none = refl
  torn_nothing byte (s ∷ older) none =
      let m = missed s older none in
      ap (λ (b : Bool). cond b (torn_here byte s.kind (version_bytes s) (torn_from byte older p)) (torn_from byte older p)) m.0 ∙ torn_nothing byte older m.1

  pub left_nothing : (outcome : Outcome) (steps : List Step) → newest steps p ≡ None → left outcome steps p ≡ None
  left_nothing Old steps none = ap (λ (k : Kept). k.settled) (kept_nothing (reverse steps) none)
  left_nothing New steps none = sym (reads_history steps p) ∙ ap (option_and_then version_bytes) none
  left_nothing (Tears byte) steps none = torn_nothing byte (reverse steps) none
