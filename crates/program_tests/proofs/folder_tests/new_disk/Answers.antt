use Rattle.std.proofs.Common.{refl}
use Rattle.disk_model.specs.Image.{place}
use Rattle.program_tests.proofs.folder_tests.new_disk.Goals as goal

pub returns : goal.returns
returns c = λ name. c.empty_folder_is_in_order.ensures refl c.new.result name c.new.ensures.settled (λ id. c.new.ensures.empty (place name id))
