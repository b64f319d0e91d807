-- The grammar of a script: how each line is written.
use Rattle.std.specs.Prelude.{◌≡◌, ℕ, ◌==◌, Bool, true, IsTrue, List, [], ◌∷◌, codes}
use Rattle.host_types.specs.declared.entry.Ask as asked
use Rattle.host_types.specs.declared.entry.Ask.TheVariants.{Register, Alive, Unregister, Tick, Command}
use Rattle.script_text.specs.declared.line.Line as lines
use Rattle.script_text.specs.declared.line.Line.TheVariants.{Skip, Offer, Ask, Take, Global, Minor, Major, Census, Quiet, Reopen}
use Rattle.script_text.specs.Parts.{Part, Fixed, Number, AllFit, text_of}
use Rattle.script_text.specs.Operations.{op_parts, looks}

-- an offer at this time
abbrev pub offer_parts : ℕ → asked.Ask → List Part
offer_parts time (Register timeout) = Fixed (codes "register") ∷ Number time ∷ Number timeout ∷ []
offer_parts time (Alive session seq event) = Fixed (codes "alive") ∷ Number time ∷ Number session ∷ Number seq ∷ Number event ∷ []
offer_parts time (Unregister session) = Fixed (codes "unregister") ∷ Number time ∷ Number session ∷ []
offer_parts time Tick = Fixed (codes "tick") ∷ Number time ∷ []
offer_parts time (Command session seq name op) = Fixed (codes "do") ∷ Number time ∷ Number session ∷ Number seq ∷ op_parts name op

abbrev pub line_parts : lines.Line → List Part
line_parts Skip = []
line_parts (Offer offer) = offer_parts offer.time offer.ask
line_parts (Ask name op) = Fixed (codes "ask") ∷ op_parts name op
line_parts (Take session) = Fixed (codes "take") ∷ Number session ∷ []
line_parts (Global index) = Fixed (codes "global") ∷ Number index ∷ []
line_parts (Minor base) = Fixed (codes "minor") ∷ Number base ∷ []
line_parts (Major base last) = Fixed (codes "major") ∷ Number base ∷ Number last ∷ []
line_parts Census = Fixed (codes "census") ∷ []
line_parts Quiet = Fixed (codes "quiet") ∷ []
line_parts Reopen = Fixed (codes "reopen") ∷ []

-- an empty line, or one that begins with `#` and may hold any bytes
abbrev pub is_skipped : List ℕ → Bool
is_skipped [] = true
is_skipped (byte ∷ bytes) = byte == 35

-- only looking operations are asked
abbrev pub IsAllowed : lines.Line → Type 0
IsAllowed (Ask name op) = IsTrue (looks op)
IsAllowed line = Unit {0}

-- these bytes are this line, without its line feed
abbrev pub IsTextOf : List ℕ → lines.Line → Type 0
IsTextOf bytes Skip = IsTrue (is_skipped bytes)
IsTextOf bytes line = AllFit (line_parts line) × IsAllowed line × (bytes ≡ text_of (line_parts line))
