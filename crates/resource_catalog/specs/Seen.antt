-- What callers see of a catalog.
use Rattle.std.specs.Prelude.{◌-◌, vec_len, vec_capacity}
use Rattle.resource_catalog.specs.Parts.{Parts, IsWhole}
use Rattle.resource_catalog.specs.declared.catalog.Catalog.TheInside.{Inside}

abbrev pub parts_in : Inside → Parts
parts_in c = record { names = c.names.entries.items; slots = c.slots.entries.items; names_room = vec_capacity c.names.entries - vec_len c.names.entries; slots_room = vec_capacity c.slots.entries - vec_len c.slots.entries; copies = c.copies }

abbrev pub IsWholeInside : Inside → Type 0
IsWholeInside c = IsWhole c.names.entries.items c.slots.entries.items
