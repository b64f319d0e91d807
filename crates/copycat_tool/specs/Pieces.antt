-- What a reader of lines holds, and what it finds there.
use Rattle.std.specs.Prelude.{◌≡◌, ◌<◌, ◌≤◌, ℕ, ◌+◌, List, [], ◌∷◌, ◌++◌, length, take, drop, Option, Some, false, Result, Ok, Err}
use Rattle.copycat_tool.specs.Script.{has_feed, line_limit, script_limit}
use Rattle.copycat_tool.specs.declared.reader.Piece.{Piece}
use Rattle.copycat_tool.specs.declared.reader.Piece.TheVariants.{Line, Last, Long, Above}
use Rattle.copycat_tool.specs.declared.reader.ReadError.{ReadError}
use Rattle.copycat_tool.specs.declared.reader.ReadError.TheVariants.{Failed, NoMemory}

-- so many bytes stand in front of the first line feed
pub record EndsAt (held : List ℕ) (n : ℕ) : Type 0 where
  pub within : n < length held
  pub none_before : has_feed (take n held) ≡ false
  pub feed : held ≡ take n held ++ 10 ∷ drop (n + 1) held

-- the first line isn't whole, and not too long
pub record IsShort (held : List ℕ) : Type 0 where
  pub none : has_feed held ≡ false
  pub short : length held ≤ line_limit

-- the first line is too long, whole or not
pub record IsTooLong (held : List ℕ) : Type 0 where
  pub front : ℕ
  pub within : front ≤ length held
  pub long : line_limit < front
  pub none : has_feed (take front held) ≡ false

-- what was found, with what is held then, how many bytes were taken, and what is left
abbrev pub IsPiece : Result Piece ReadError → List ℕ → ℕ → List ℕ → Type 0
IsPiece (Ok (Line n)) held taken left = EndsAt held n × (n ≤ line_limit)
IsPiece (Ok Last) held taken left = IsShort held × (left ≡ [])
IsPiece (Ok Long) held taken left = IsTooLong held
IsPiece (Ok Above) held taken left = IsShort held × (taken ≡ script_limit) × (0 < length left)
IsPiece (Err Failed) held taken left = IsShort held
IsPiece (Err NoMemory) held taken left = Unit {0}

-- more was taken from what is left, to the end of what is held
pub record TakesMore (left held held' : List ℕ) (taken taken' : ℕ) (rest : List ℕ) : Type 0 where
  pub more : List ℕ
  pub parts : left ≡ more ++ rest
  pub held_is : held' ≡ held ++ more
  pub taken_is : taken' ≡ taken + length more

-- where a piece was found, all that was taken is held; but of a script above the limit one byte more is gone
abbrev pub LeftIs : Result Piece ReadError → Option (List ℕ) → List ℕ → Type 0
LeftIs (Ok Above) now rest = Unit {0}
LeftIs (Ok (Line n)) now rest = now ≡ Some rest
LeftIs (Ok Last) now rest = now ≡ Some rest
LeftIs (Ok Long) now rest = now ≡ Some rest
LeftIs (Err Failed) now rest = now ≡ Some rest
LeftIs (Err NoMemory) now rest = Unit {0}

pub record Finds (left held held' : List ℕ) (taken taken' : ℕ) (now : Option (List ℕ)) (found : Result Piece ReadError) : Type 0 where
  pub rest : List ℕ
  pub takes : TakesMore left held held' taken taken' rest
  pub left_is : LeftIs found now rest
  pub piece : IsPiece found held' taken' rest

-- a line that was found lies in what is held, with its line feed
abbrev pub IsLineWithin : Piece → List ℕ → Type 0
IsLineWithin (Line n) held = n < length held
IsLineWithin Last held = Unit {0}
IsLineWithin Long held = Unit {0}
IsLineWithin Above held = Unit {0}

-- Of what was left, so many bytes at most were taken: as many as the limit leaves, and one that shows that a script goes on above it.
pub record IsTaken (taken : ℕ) (left : List ℕ) (now : Option (List ℕ)) : Type 0 where
  pub count : ℕ
  pub within : taken + count ≤ script_limit + 1
  pub rest : now ≡ Some (drop count left)

-- what is read of a script is a front of it, of at most 16,777,217 bytes
abbrev pub IsFrontOf : List ℕ → Option (List ℕ) → Type 0
IsFrontOf script now = IsTaken 0 script now
