-- What the program's types guarantee of the items of a log.
use Rattle.std.specs.Prelude.{List}
use Rattle.std.specs.List.{AllByRecursion}
use Rattle.host_types.specs.Ranges.{IsUnsigned, OfferFits}
use Rattle.log_model.specs.plain.Admission.{Item, Offered, Expired}

-- its numbers are of 64 bits, and its keys and words are texts
abbrev pub ItemFits : Item → Type 0
ItemFits (Offered o) = OfferFits o
ItemFits (Expired time session) = IsUnsigned time × IsUnsigned session

-- each of them
abbrev pub ItemsFit : List Item → Type 0
ItemsFit items = AllByRecursion ItemFits items
