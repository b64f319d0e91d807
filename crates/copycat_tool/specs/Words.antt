-- Which words are a command.
use Rattle.std.specs.Prelude.{ℕ, ◌≤◌, ◌&&◌, nat_le, if◌then◌else◌, List, [], ◌∷◌, take, drop, Option, Some, None, Result, Ok, Err, codes}
use Rattle.std.specs.Str.{bytes_eq}
use Rattle.host_types.specs.Name.{named}
use Rattle.host_types.specs.declared.log_name.NameFault.{NameFault}
use Rattle.script_text.specs.Reading.{number}
use Rattle.copycat_tool.specs.declared.words.Asked.{Asked}
use Rattle.copycat_tool.specs.declared.words.Task.{Task}
use Rattle.copycat_tool.specs.declared.words.Task.TheVariants.{Run, Census}

-- to run a script over the log of this name, of which the next file is begun after so many entries
abbrev pub asks : List ℕ → ℕ → Asked
asks name size = record { name = name; task = Run size }

-- to show how the log of this name lies in its files
abbrev pub asks_census : List ℕ → Asked
asks_census name = record { name = name; task = Census }

-- where the words say nothing of it
abbrev pub usual_size : ℕ
usual_size = 1024

-- `--segment`
abbrev pub segment : List ℕ
segment = codes "--segment"

-- `--segment=`
abbrev pub segment_is : List ℕ
segment_is = codes "--segment="

abbrev pub if_within : Option ℕ → Option ℕ
if_within None = None
if_within (Some size) = if nat_le 2 size && nat_le size 65536 then Some size else None

-- what a size may be
abbrev pub IsSize : ℕ → Type 0
IsSize size = (2 ≤ size) × (size ≤ 65536)

-- a size that is asked for is one
abbrev pub IsTask : Task → Type 0
IsTask (Run size) = IsSize size
IsTask Census = Unit {0}

-- the size that a word is
abbrev pub size_of : List ℕ → Option ℕ
size_of word = if_within (number word)

abbrev pub asked : Result (List ℕ) NameFault → Option ℕ → Option Asked
asked (Ok name) (Some size) = Some (asks name size)
asked (Ok name) None = None
asked (Err fault) size = None

-- what stands behind the word `run`: NAME; or NAME with `--segment N` or `--segment=N` before or behind it
abbrev pub run_of : List (List ℕ) → Option Asked
run_of [] = None
run_of (name ∷ []) = asked (named name) (Some usual_size)
run_of (a ∷ b ∷ []) =
    if bytes_eq (take 10 a) segment_is then asked (named b) (size_of (drop 10 a))
    else if bytes_eq (take 10 b) segment_is then asked (named a) (size_of (drop 10 b))
    else None
run_of (a ∷ b ∷ c ∷ []) =
    if bytes_eq a segment then asked (named c) (size_of b)
    else if bytes_eq b segment then asked (named a) (size_of c)
    else None
run_of (a ∷ b ∷ c ∷ d ∷ more) = None

abbrev pub named_census : Result (List ℕ) NameFault → Option Asked
named_census (Ok name) = Some (asks_census name)
named_census (Err fault) = None

-- what stands behind the word `census`: NAME
abbrev pub census_asked : List (List ℕ) → Option Asked
census_asked [] = None
census_asked (name ∷ []) = named_census (named name)
census_asked (a ∷ b ∷ more) = None

-- no other words are a command
abbrev pub asked_of : List (List ℕ) → Option Asked
asked_of [] = None
asked_of (word ∷ words) = if bytes_eq word (codes "run") then run_of words else if bytes_eq word (codes "census") then census_asked words else None
