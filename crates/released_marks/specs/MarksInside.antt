-- How marks are kept.
use Rattle.std.specs.FinMap.{from_entries}
use Rattle.released_marks.specs.Marks.{Marks}
use Rattle.released_marks.specs.declared.marks.Marks.TheInside.{Inside}

abbrev pub marks_shown : Inside → Marks
marks_shown a = from_entries a.map.entries
