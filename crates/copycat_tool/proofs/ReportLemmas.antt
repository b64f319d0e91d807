-- The report of a script by its first line.
use Rattle.std.proofs.Common.{◌≡◌, ℕ, ◌+◌, ◌<◌, nat_lt, Bool, true, false, List, [], ◌∷◌, ◌++◌, length, Option, None, ap, arith, length-append, if◌then◌else◌}
use Rattle.std.proofs.lemmas.Bool.Decides.{nat_tests}
use Rattle.copycat_tool.specs.declared.lines.Command.{Command}
use Rattle.script_text.specs.Reading.{line_read}
use Rattle.copycat_tool.specs.Script.{Lines, has_feed, command, if_line, line_limit}
use Rattle.copycat_tool.specs.Report.{Run, Cut, Whole, Broken, Above, report, play, one, ends, last_piece}
use Rattle.copycat_tool.specs.declared.ending.Ending.TheVariants.{Fault, Done, ReadFault, TooLong}
use Rattle.copycat_tool.proofs.LineLemmas.{lines_at, lines_none, lines_begin, Begins}

is_long : (line : List ℕ) → line_limit < length line → nat_lt line_limit (length line) ≡ true
is_long line long = grind (arith, nat_tests)

long_command : (line : List ℕ) → line_limit < length line → command line ≡ None
unfolding command
long_command line long = ap (λ (t : Bool). if t then None else if_line (line_read line)) (is_long line long)

-- where the first line has ended
pub report_at : (size : ℕ) (run : Run) (n : ℕ) (cut : Cut) (line rest : List ℕ) → has_feed line ≡ false
    → report size run n cut (line ++ 10 ∷ rest) ≡ one size (command line) run n (λ run. report size run (n + 1) cut rest)
unfolding report
report_at size run n cut line rest none = ap (λ (l : Lines). play size l.ended l.rest cut run n) (lines_at line rest none)

-- where none has ended
pub report_none : (size : ℕ) (run : Run) (n : ℕ) (cut : Cut) (piece : List ℕ) → has_feed piece ≡ false → report size run n cut piece ≡ last_piece size cut run n piece
unfolding report
report_none size run n cut piece none = ap (λ (l : Lines). play size l.ended l.rest cut run n) (lines_none piece none)

long_piece : (size : ℕ) (cut : Cut) (run : Run) (n : ℕ) (piece : List ℕ) → line_limit < length piece → last_piece size cut run n piece ≡ ends (Fault n)
long_piece size Whole run n [] long = absurd (omega arith)
long_piece size Whole run n (byte ∷ piece) long = ap (λ (c : Option Command). one size c run n (λ _. ends Done)) (long_command (byte ∷ piece) long)
long_piece size Broken run n piece long = ap (λ (t : Bool). if t then ends (Fault n) else ends ReadFault) (is_long piece long)
long_piece size Above run n piece long = ap (λ (t : Bool). if t then ends (Fault n) else ends TooLong) (is_long piece long)

begins_long : (size : ℕ) (ended : List (List ℕ)) (rest front : List ℕ) (cut : Cut) (run : Run) (n : ℕ) → line_limit < length front → Begins front ended rest → play size ended rest cut run n ≡ ends (Fault n)
begins_long size [] rest front cut run n long begins =
    long_piece size cut run n rest (omega (arith, ap length begins.1, length-append front begins.0, long))
begins_long size (line ∷ more) rest front cut run n long begins =
    ap (λ (c : Option Command). one size c run n (λ run. play size more rest cut run (n + 1))) (long_command line (omega (arith, ap length begins.1, length-append front begins.0, long)))

-- a line is at fault as soon as it is too long
pub report_long : (size : ℕ) (run : Run) (n : ℕ) (cut : Cut) (front more : List ℕ) → has_feed front ≡ false → line_limit < length front → report size run n cut (front ++ more) ≡ ends (Fault n)
unfolding report
report_long size run n cut front more none long = begins_long size _ _ front cut run n long (lines_begin front more none)
