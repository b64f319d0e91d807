use Rattle.copycat_tool.proofs.InOrder.{crashed_in_order}
use Rattle.copycat_tool.proofs.folders.crashed_folder_is_in_order.Goals as goal

pub returns : goal.returns
returns g c = λ t before after name log least order left settled.
    crashed_in_order (g.D.Disk.view after) settled name log least order.log (order.each _ left)
