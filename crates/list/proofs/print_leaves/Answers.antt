-- `list::print_leaves` is safe and ends: a leaf's line is short enough for its end.
use Rattle.std.proofs.Common.{arith}
use Rattle.listing.specs.Text.{table_line}
use Rattle.listing.proofs.Laws.{line_length, after_length}
use Rattle.list.proofs.print_leaves.Goals as goal

pub print_line-requires : goal.print_line-requires
print_line-requires g c =
    let table = c.args.table.now in
    let i = c.loop-i.i in
    omega (arith, line_length (table_line table i) c.table_line.ensures, after_length table i)
