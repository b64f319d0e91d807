-- Cells are in a total order.
use Rattle.std.specs.Cmp.{IsTotalOrder, on_total, then_total, nat_cmp_total}
use Rattle.std.specs.Cmp.Lexicographic.{nat_list_cmp_total}
use Rattle.host_types.specs.Cells.{cell_parts, cell_cmp}

pub cell_total : IsTotalOrder cell_cmp
cell_total =
    then_total (on_total (λ c. (cell_parts c).0) nat_cmp_total) (then_total (on_total (λ c. (cell_parts c).1) nat_list_cmp_total) (then_total (on_total (λ c. (cell_parts c).2) nat_list_cmp_total) (then_total (on_total (λ c. (cell_parts c).3) nat_cmp_total) (on_total (λ c. (cell_parts c).4) nat_cmp_total))))
