-- The lines of a script, and what each asks of the program.
use Rattle.std.specs.Prelude.{◌≡◌, ℕ, ◌==◌, nat_lt, Bool, true, false, ◌||◌, if◌then◌else◌, List, [], ◌∷◌, length, Option, Some, None}
use Rattle.host_types.specs.Decision.{is_looking}
use Rattle.script_text.specs.declared.line.Line.{Line}
use Rattle.script_text.specs.declared.line.Line.TheVariants as lines_of
use Rattle.script_text.specs.Reading.{line_read}
use Rattle.copycat_tool.specs.declared.lines.Command.{Command}
use Rattle.copycat_tool.specs.declared.lines.Command.TheVariants.{Skip, Offer, Ask, Take, Census, Quiet, Reopen}

-- the lines that have ended, and what stands behind the last line feed
pub record Lines : Type 0 where
  pub ended : List (List ℕ)
  pub rest : List ℕ

-- with one more byte in front
abbrev pub byte_before : ℕ → List (List ℕ) → List ℕ → Lines
byte_before byte [] rest = record { ended = []; rest = byte ∷ rest }
byte_before byte (line ∷ lines) rest = record { ended = (byte ∷ line) ∷ lines; rest = rest }

unfoldable pub lines : List ℕ → Lines
lines [] = record { ended = []; rest = [] }
lines (byte ∷ bytes) = if byte == 10 then record { ended = [] ∷ (lines bytes).ended; rest = (lines bytes).rest } else byte_before byte (lines bytes).ended (lines bytes).rest

-- there is a line feed among these bytes
abbrev pub has_feed : List ℕ → Bool
has_feed [] = false
has_feed (byte ∷ bytes) = byte == 10 || has_feed bytes

-- a line's limit, without its line feed
abbrev pub line_limit : ℕ
line_limit = 16384

-- a script's limit
abbrev pub script_limit : ℕ
script_limit = 16777216

-- the command of a line of the language, if it is built
abbrev pub command_of : Line → Option Command
command_of lines_of.Skip = Some Skip
command_of (lines_of.Offer o) = Some (Offer o)
command_of (lines_of.Ask name op) = Some (Ask name op)
command_of (lines_of.Take session) = Some (Take session)
command_of lines_of.Census = Some Census
command_of lines_of.Quiet = Some Quiet
command_of lines_of.Reopen = Some Reopen
command_of _ = None

abbrev pub if_line : Option Line → Option Command
if_line None = None
if_line (Some line) = command_of line

-- What a line asks of the program. A line above its limit isn't in the grammar, nor is one whose command isn't built yet.
unfoldable pub command : List ℕ → Option Command
command line = if nat_lt line_limit (length line) then None else if_line (line_read line)

-- what is known of a command that a line asks
abbrev pub IsFit : Command → Type 0
IsFit (Ask name op) = is_looking op ≡ true
IsFit _ = Unit {0}
