-- What is printed of how a log lies in its files.
use Rattle.std.specs.Prelude.{ℕ, ◌+◌, ◌-◌, List, [], ◌∷◌, ◌++◌, map}
use Rattle.segment_set.specs.declared.views.PartView.{PartView}
use Rattle.script_text.specs.declared.printed.Printed.TheVariants as prints
use Rattle.script_text.specs.Printing.{printed_text}

-- how many entries there are
abbrev pub kept_in : List PartView → ℕ
kept_in [] = 0
kept_in (view ∷ views) = view.kept + kept_in views

-- of so many indexes
abbrev pub indexes_in : List PartView → ℕ
indexes_in [] = 0
indexes_in (view ∷ views) = view.last + 1 - view.base + indexes_in views

abbrev pub part_line : PartView → List ℕ
part_line view = printed_text (prints.Part view.base view.last view.kept view.cut view.floor)

abbrev pub total_line : List PartView → List ℕ
total_line views = printed_text (prints.Total (kept_in views) (indexes_in views))

-- a line for each part, and one for all of them
abbrev pub census_lines : List PartView → List (List ℕ)
census_lines views = map part_line views ++ total_line views ∷ []
