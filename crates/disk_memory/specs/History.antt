-- A disk that tears. Its past is its steps, and what a crash may leave follows from them.
use Rattle.std.specs.Prelude.{◌≡◌, ◌≢◌, ◌≤◌, ◌⊎◌, ℕ, ◌+◌, cond, List, [], ◌∷◌, reverse, Option, Some, None, refl}
use Rattle.std.proofs.Common.{inl, inr, ⊎_elim, arith}
use Rattle.disk_model.specs.Image.{Place, Image, same_place, Torn}
use Rattle.disk_model.specs.View.{View, MayHold, MayLeave, IsSound}
use Rattle.disk_memory.specs.declared.steps.Kind.{Kind}
use Rattle.disk_memory.specs.declared.steps.Kind.TheVariants.{Settled, Created, Written, Removed, Synced}
use Rattle.disk_memory.specs.declared.steps.Step.{Step}
use Rattle.disk_memory.specs.Versions.{version_place, version_bytes}

-- what a crash may make of the bytes of a file after a step at p, beside leaving them as they read
abbrev pub Leaves : Kind → View → Place → Place → List ℕ → Type 0
Leaves Settled v p q c = v.bytes_left q c × (q ≢ p)
Leaves Created v p q c = v.bytes_left q c ⊎ ((q ≡ p) × (c ≡ []))
Leaves (Written at n) v p q c = v.bytes_left q c ⊎ ((b : List ℕ) × (q ≡ p) × v.bytes_left p b × Torn at n b c)
Leaves Removed v p q c = v.bytes_left q c
Leaves Synced v p q c = v.bytes_left q c × (q ≢ p)

-- and what else it may leave there
abbrev pub LeavesElse : Kind → View → Place → Place → Option (List ℕ) → Type 0
LeavesElse Settled v p q o = v.else_left q o × (q ≢ p)
LeavesElse Created v p q o = v.else_left q o
LeavesElse (Written at n) v p q o = v.else_left q o
LeavesElse Removed v p q o = v.else_left q o ⊎ ((q ≡ p) × ((o ≡ None) ⊎ MayHold v p o))
LeavesElse Synced v p q o = ⊥

abbrev pub read_after : View → Step → Image
read_after v s q = cond (same_place (version_place s) q) (version_bytes s) (v.reading q)

abbrev pub bytes_after : View → Step → Place → List ℕ → Type 0
bytes_after v s q c = ((b : List ℕ) × (read_after v s q ≡ Some b)) × (Leaves s.kind v (version_place s) q c ⊎ (read_after v s q ≡ Some c))

abbrev pub else_after : View → Step → Place → Option (List ℕ) → Type 0
else_after v s q o = LeavesElse s.kind v (version_place s) q o ⊎ ((o ≡ None) × (read_after v s q ≡ None))

-- a view with no past
abbrev pub now_after : View → Step → View
now_after v s = record { reading = read_after v s; bytes_left = bytes_after v s; else_left = else_after v s; moment = 0; left_since = λ t c. ⊥ }

-- One step more. It is so built that what is read is always one of the ways in which a crash may leave it.
abbrev pub next : View → Step → View
next v s = record {
  reading = read_after v s;
  bytes_left = bytes_after v s;
  else_left = else_after v s;
  moment = v.moment + 1;
  left_since = λ t c. MayLeave (now_after v s) c ⊎ ((t ≤ v.moment) × v.left_since t c);
}

-- a disk with no file
abbrev pub nothing : View
nothing = record {
  reading = λ q. None;
  bytes_left = λ q c. ⊥;
  else_left = λ q o. o ≡ None;
  moment = 0;
  left_since = λ t c. (q : Place) → c q ≡ None;
}

abbrev pub from_newest : List Step → View
from_newest [] = nothing
from_newest (s ∷ older) = next (from_newest older) s

abbrev pub history : List Step → View
history steps = from_newest (reverse steps)

same_hold : (v : View) (s : Step) (q : Place) (o : Option (List ℕ)) → MayHold (now_after v s) q o → MayHold (next v s) q o
same_hold v s q None held = held
same_hold v s q (Some c) held = held

pub hold_same : (v : View) (s : Step) (q : Place) (o : Option (List ℕ)) → MayHold (next v s) q o → MayHold (now_after v s) q o
hold_same v s q None held = held
hold_same v s q (Some c) held = held

is_none : (q : Place) (o : Option (List ℕ)) → MayHold nothing q o → o ≡ None
is_none q None held = held
is_none q (Some c) (inl held) = absurd held
is_none q (Some c) (inr held) = held

none_is : (q : Place) (o : Option (List ℕ)) → o ≡ None → MayHold nothing q o
none_is q None is = is
none_is q (Some c) is = absurd (cc is)

pub history_sound : (older : List Step) → IsSound (from_newest older)
history_sound [] = record {
  listed = λ p b is. cc;
  absent = λ p is. refl;
  unlisted = λ p is c held. held;
  counts_now = λ t c le may q. is_none q (c q) (may q);
  only_now = λ c left q. none_is q (c q) (left q);
}
history_sound (s ∷ older) = record {
  listed = λ p b is. ((b, is), inr is);
  absent = λ p is. inr (refl, is);
  unlisted = λ p is c held. absurd (cc (held.0.1, is));
  counts_now = λ t c le may. inl (λ q. hold_same (from_newest older) s q (c q) (may q));
  only_now = λ c left. ⊎_elim (λ now q. same_hold (from_newest older) s q (c q) (now q)) (λ was. absurd (omega (arith, was.0))) left;
}
