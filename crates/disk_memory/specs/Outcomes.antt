-- What a crash leaves at a place, by its outcome, of a disk that tears. The steps stand with the newest first.
use Rattle.std.specs.Prelude.{ℕ, Bool, cond, nat_le, List, [], ◌∷◌, length, replicate, reverse, Option, Some, None}
use Rattle.disk_model.specs.Image.{Place, Image, same_place, written}
use Rattle.disk_memory.specs.declared.outcome.Outcome.{Outcome}
use Rattle.disk_memory.specs.declared.outcome.Outcome.TheVariants.{Old, New, Torn}
use Rattle.disk_memory.specs.declared.steps.Kind.{Kind}
use Rattle.disk_memory.specs.declared.steps.Kind.TheVariants.{Settled, Created, Written, Removed, Synced}
use Rattle.disk_memory.specs.declared.steps.Step.{Step}
use Rattle.disk_memory.specs.Versions.{version_place, version_bytes}
use Rattle.disk_memory.specs.History.{history}

-- what is settled at a place, and the settled bytes of the file that is listed there
pub record Kept : Type 0 where
  pub settled : Option (List ℕ)
  pub file : Option (List ℕ)

-- the one, or else the other
abbrev pub or_else : Option (List ℕ) → Option (List ℕ) → Option (List ℕ)
or_else None other = other
or_else (Some bytes) other = Some bytes

-- a step at the place itself, after which it reads so
abbrev pub kept_here : Kind → Option (List ℕ) → Kept → Kept
kept_here Settled now kept = record { settled = now; file = now }
kept_here Created now kept = record { settled = kept.settled; file = now }
kept_here (Written at n) now kept = record { settled = kept.settled; file = or_else kept.file now }
kept_here Removed now kept = record { settled = kept.settled; file = now }
kept_here Synced now kept = record { settled = now; file = now }

-- a step at another: a sync settles that the file is there, with the bytes that were settled
abbrev pub kept_there : Kind → Kept → Kept
kept_there Settled kept = kept
kept_there Created kept = kept
kept_there (Written at n) kept = kept
kept_there Removed kept = kept
kept_there Synced kept = record { settled = kept.file; file = kept.file }

abbrev pub kept_after : Bool → Kind → Option (List ℕ) → Kept → Kept
kept_after here kind now kept = cond here (kept_here kind now kept) (kept_there kind kept)

abbrev pub kept_from : List Step → Place → Kept
kept_from [] p = record { settled = None; file = None }
kept_from (s ∷ older) p = kept_after (same_place (version_place s) p) s.kind (version_bytes s) (kept_from older p)

-- a write over these bytes of which a crash left one byte only, all along
abbrev pub torn_write : ℕ → ℕ → ℕ → Option (List ℕ) → Option (List ℕ) → Option (List ℕ)
torn_write byte at n now None = now
torn_write byte at n now (Some old) = cond (nat_le at (length old)) (Some (written old at (replicate n byte))) now

abbrev pub torn_here : ℕ → Kind → Option (List ℕ) → Option (List ℕ) → Option (List ℕ)
torn_here byte Settled now old = now
torn_here byte Created now old = now
torn_here byte (Written at n) now old = torn_write byte at n now old
torn_here byte Removed now old = now
torn_here byte Synced now old = now

abbrev pub torn_from : ℕ → List Step → Place → Option (List ℕ)
torn_from byte [] p = None
torn_from byte (s ∷ older) p = cond (same_place (version_place s) p) (torn_here byte s.kind (version_bytes s) (torn_from byte older p)) (torn_from byte older p)

-- Old: what is settled. New: what is read. Torn: what is read, with that byte in each range that was written and isn't settled.
abbrev pub left : Outcome → List Step → Image
left Old steps p = (kept_from (reverse steps) p).settled
left New steps p = (history steps).reading p
left (Torn byte) steps p = torn_from byte (reverse steps) p
