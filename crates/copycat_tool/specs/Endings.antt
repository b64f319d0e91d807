-- What an error of an opening is to the run.
use Rattle.segment_set.specs.declared.opening.OpenError.{OpenError}
use Rattle.segment_set.specs.declared.opening.OpenError.TheVariants as errors
use Rattle.copycat_tool.specs.declared.ending.Ending.{Ending}
use Rattle.copycat_tool.specs.declared.ending.Ending.TheVariants.{DiskFault, NoMemory, Damaged}

abbrev pub ending_of : OpenError → Ending
ending_of errors.Disk = DiskFault
ending_of (errors.Damaged base generation at) = Damaged base generation at
ending_of errors.NoMemory = NoMemory
