-- Worked scripts, played by computation: what is printed, how the run ends, and what the log is then.
use Rattle.std.proofs.Common.{◌≡◌, ℕ, pos, true, false, List, [], ◌∷◌, ◌++◌, refl, codes, map}
use Rattle.std.specs.Fmt.{decimal}
use Rattle.host_types.specs.declared.entry.Ask.TheVariants.{Tick}
use Rattle.host_types.specs.declared.entry.Kind.TheVariants.{Value}
use Rattle.host_types.specs.declared.entry.Refusal.TheVariants.{Ack, Forgotten, Gap, Kind, NoSession, Range}
use Rattle.host_types.specs.declared.entry.Reply.TheVariants.{None as No_reply, Holder, Index, Number, Text, Truth}
use Rattle.log_model.specs.plain.Admission.{Item, Offered}
use Rattle.script_text.specs.declared.printed.Printed.{Printed}
use Rattle.script_text.specs.declared.printed.Printed.TheVariants.{Opened, Session, Done, Expired, Replied, Repeat, Answer as Answers, Quiet, Refused}
use Rattle.script_text.specs.Printing.{printed_text}
use Rattle.log_model.specs.cleaning.Layout.{no_files, alone}
use Rattle.script_text.specs.Reading.{line_read}
use Rattle.copycat_tool.specs.Script.{lines, command}
use Rattle.copycat_tool.specs.Report.{Run, Act, full, report, last_line, status_of, after}

abbrev empty : Run
empty = record { log = []; layout = no_files; confirmed = []; clients = [] }

abbrev tick_at : ℕ → Item
tick_at time = Offered (record { time = time; ask = Tick })

abbrev script : List ℕ → List ℕ → List ℕ
script line rest = line ++ 10 ∷ rest

abbrev lines_told : List Act → List (List ℕ)
lines_told [] = []
lines_told (act ∷ acts) = act.lines ++ lines_told acts

-- the lines that are printed, with the last line of the ending
abbrev texts : Run → List ℕ → List (List ℕ)
texts run bytes = lines_told (full 1024 run bytes).acts ++ last_line (codes "db") (full 1024 run bytes).ending

-- the empty script on the empty folder
empty_script : texts empty [] ≡ (codes "open " ++ decimal 0) ∷ []
unfolding lines command line_read report
empty_script = refl

-- `tick 1` on the empty folder
first_tick : texts empty (script (codes "tick 1") []) ≡ (codes "open " ++ decimal 0) ∷ (decimal 1 ++ codes " ok") ∷ []
unfolding lines command line_read report
first_tick = refl

-- then the empty script
then_none : texts (record { log = tick_at 1 ∷ []; layout = no_files; confirmed = []; clients = [] }) [] ≡ (codes "open " ++ decimal 1) ∷ []
unfolding lines command line_read report
then_none = refl

-- a time below the log's is refused
falling : texts empty (script (codes "tick 5") (codes "tick 4")) ≡ (codes "open " ++ decimal 0) ∷ (decimal 1 ++ codes " ok") ∷ (codes "refused time " ++ decimal 5) ∷ []
unfolding lines command line_read report
falling = refl

-- a line outside the grammar ends the run, with all earlier lines done
at_fault : texts empty (script (codes "tick 1") (script (codes "tick x") (codes "tick 2"))) ≡ (codes "open " ++ decimal 0) ∷ (decimal 1 ++ codes " ok") ∷ (codes "script fault at line " ++ decimal 2) ∷ []
unfolding lines command line_read report
at_fault = refl

-- comments and empty lines are skipped, and counted
skipped_lines : texts empty (script (codes "# a comment") (script [] (script (codes "tick 1") (codes "tick")))) ≡ (codes "open " ++ decimal 0) ∷ (decimal 1 ++ codes " ok") ∷ (codes "script fault at line " ++ decimal 4) ∷ []
unfolding lines command line_read report
skipped_lines = refl

at_fault_status : status_of (full 1024 empty (script (codes "tick 1") (codes "tick x"))).ending ≡ 3
unfolding lines command line_read report
at_fault_status = refl

-- two ticks lie in one new file of the first generation
two_ticks : alone (after 1024 empty (full 1024 empty (script (codes "tick 1") (codes "tick 1"))).acts).layout
    ≡ record { parts = record { base = 1; last = 2; present = 1 ∷ 2 ∷ []; cut = 0; floor = 0; generation = 1; size = 1024; rewritten = false } ∷ []; greatest = 1 }
unfolding lines command line_read report
two_ticks = refl

-- no generation is left for a new file
no_generation : texts (record { log = []; layout = record { parts = []; greatest = 281474976710655 }; confirmed = []; clients = [] }) (codes "tick 1") ≡ (codes "open " ++ decimal 0) ∷ (codes "refused gen end") ∷ []
unfolding lines command line_read report
no_generation = refl

abbrev lines_of : List (List ℕ) → List ℕ
lines_of [] = []
lines_of (line ∷ more) = script line (lines_of more)

abbrev answered : List Printed → List (List ℕ)
answered lines = map printed_text lines

-- a session is due once its timeout has passed, and not before
expires_late : texts empty (lines_of (codes "register 0 10" ∷ codes "tick 10" ∷ codes "tick 11" ∷ []))
    ≡ answered (Opened 0 ∷ Session 1 ∷ Done 2 ∷ Expired 3 1 ∷ Done 4 ∷ [])
unfolding lines command line_read report
expires_late = refl

-- a command is repeated, forgotten, or leaves a gap, before and after the log is opened again
repeats : texts empty (lines_of (codes "register 0 100" ∷ codes "do 1 1 1 create c counter" ∷ codes "do 2 1 2 add c 5" ∷ codes "do 3 1 2 add c 5" ∷ codes "alive 4 1 1 1" ∷ codes "do 5 1 1 add c 5"
    ∷ codes "do 5 1 4 add c 5" ∷ codes "alive 5 1 3 1" ∷ codes "reopen" ∷ codes "do 6 1 2 add c 9" ∷ codes "ask get c" ∷ []))
    ≡ answered (Opened 0 ∷ Session 1 ∷ Replied 2 (Index 2) ∷ Replied 3 (Number (pos 5)) ∷ Repeat (Number (pos 5)) ∷ Done 4 ∷ Refused (Forgotten 1) ∷ Refused (Gap 3) ∷ Refused (Ack 1 1)
    ∷ Opened 4 ∷ Repeat (Number (pos 5)) ∷ Answers (Number (pos 5)) ∷ [])
unfolding lines command line_read report
repeats = refl

-- the end of a counter's numbers
out_of_range : texts empty (lines_of (codes "register 0 100" ∷ codes "do 1 1 1 create c counter" ∷ codes "do 2 1 2 reset c 9223372036854775807" ∷ codes "do 3 1 3 add c 1" ∷ codes "do 4 1 3 add c 0" ∷ []))
    ≡ answered (Opened 0 ∷ Session 1 ∷ Replied 2 (Index 2) ∷ Replied 3 No_reply ∷ Refused (Range (pos 9223372036854775807)) ∷ Replied 4 (Number (pos 9223372036854775807)) ∷ [])
unfolding lines command line_read report
out_of_range = refl

-- a condition is decided once, and a refusal ends nothing
decided_once : texts empty (lines_of (codes "register 0 100" ∷ codes "do 1 1 1 create v value" ∷ codes "do 2 1 2 set v a" ∷ codes "do 3 1 3 cas v a b" ∷ codes "do 4 1 3 cas v a b" ∷ codes "do 5 1 4 add v 1" ∷ codes "ask get v" ∷ codes "quiet" ∷ []))
    ≡ answered (Opened 0 ∷ Session 1 ∷ Replied 2 (Index 2) ∷ Replied 3 No_reply ∷ Replied 4 (Truth true) ∷ Repeat (Truth true) ∷ Refused (Kind Value) ∷ Answers (Text (codes "b")) ∷ Quiet 1 ∷ [])
unfolding lines command line_read report
decided_once = refl

-- who expired stays so where the offer is refused
expired_first : texts empty (lines_of (codes "register 0 10" ∷ codes "do 11 1 1 create c counter" ∷ []))
    ≡ answered (Opened 0 ∷ Session 1 ∷ Expired 2 1 ∷ Refused (NoSession 1) ∷ [])
unfolding lines command line_read report
expired_first = refl

-- a map answers what stood before
a_map : texts empty (lines_of (codes "register 0 100" ∷ codes "do 1 1 1 create m map" ∷ codes "do 2 1 2 put m k a" ∷ codes "do 3 1 3 put m k b" ∷ codes "alive 4 1 3 1" ∷ codes "do 4 1 3 put m k z" ∷ []))
    ≡ answered (Opened 0 ∷ Session 1 ∷ Replied 2 (Index 2) ∷ Replied 3 No_reply ∷ Replied 4 (Text (codes "a")) ∷ Done 5 ∷ Refused (Forgotten 3) ∷ [])
unfolding lines command line_read report
a_map = refl

-- a lock goes to the next who waits, when its holder expires
a_lock : texts empty (lines_of (codes "register 0 10" ∷ codes "register 0 100" ∷ codes "do 1 1 1 create l lock" ∷ codes "do 2 1 2 lock l 7" ∷ codes "do 3 2 1 lock l 8" ∷ codes "tick 10" ∷ codes "tick 11" ∷ codes "ask holder l" ∷ []))
    ≡ answered (Opened 0 ∷ Session 1 ∷ Session 2 ∷ Replied 3 (Index 3) ∷ Replied 4 (Truth true) ∷ Replied 5 (Truth false) ∷ Done 6 ∷ Expired 7 1 ∷ Done 8 ∷ Answers (Holder 2 8) ∷ [])
unfolding lines command line_read report
a_lock = refl
