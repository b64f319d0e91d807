-- Entries that come next behind an index, as a frame has them.
use Rattle.std.proofs.Common.{◌≡◌, ℕ, ◌+◌, ◌*◌, ◌≤◌, [], ◌∷◌, length, arith, length-append}
use Rattle.entry_codec.specs.Spelled.{spelled}
use Rattle.entry_codec.proofs.Bounds.{greatest_size, least_size}
use Rattle.segment_files.specs.Parse.{Numbered}
use Rattle.segment_files.specs.Contents.{MayStandAt, body_bytes, frame_bytes}

-- each has the index after the one before, and is as one may be there
abbrev pub AreNext : ℕ → Numbered → Type 0
AreNext before [] = Unit {0}
AreNext before (e ∷ es) = (e.0 ≡ before + 1) × MayStandAt e.0 e.1 × AreNext e.0 es

-- how long their bytes are
pub body_least : (before : ℕ) (es : Numbered) → AreNext before es → 17 * length es ≤ length (body_bytes es)
body_least before [] are = omega arith
body_least before (e ∷ es) (next, may, rest) = omega (arith, length-append (spelled e.0 e.1) (body_bytes es), least_size e.0 e.1 may.1, body_least e.0 es rest)

pub body_most : (before : ℕ) (es : Numbered) → AreNext before es → length (body_bytes es) ≤ 131072 * length es
body_most before [] are = omega arith
body_most before (e ∷ es) (next, may, rest) = omega (arith, length-append (spelled e.0 e.1) (body_bytes es), greatest_size e.0 e.1 may.1, body_most e.0 es rest)

pub length-frame_bytes : (es : Numbered) → length (frame_bytes es) ≡ 5 + length (body_bytes es)
length-frame_bytes es = omega arith
