use Rattle.copycat_tool.proofs.InOrder.{empty_in_order}
use Rattle.copycat_tool.proofs.folders.empty_folder_is_in_order.Goals as goal

pub returns : goal.returns
returns g c = λ t disk name settled none. empty_in_order (g.D.Disk.view disk) settled name none
