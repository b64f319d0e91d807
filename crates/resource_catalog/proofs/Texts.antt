-- The order of texts.
use Rattle.std.specs.Cmp.{IsTotalOrder}
use Rattle.std.specs.Cmp.Lexicographic.{nat_list_cmp_total}
use Rattle.host_types.specs.Cells.{text_cmp}

pub text_total : IsTotalOrder text_cmp
text_total = nat_list_cmp_total
