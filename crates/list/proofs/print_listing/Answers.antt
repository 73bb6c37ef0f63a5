-- `list::print_listing` is safe: a heading is short enough for its line's end.
use Rattle.std.proofs.Common.{arith}
use Rattle.listing.specs.Text.{heading_text}
use Rattle.listing.proofs.Laws.{line_length, heading_length}
use Rattle.list.proofs.print_listing.Goals as goal

pub print_line-requires : goal.print_line-requires
print_line-requires g c =
    omega (arith, line_length (heading_text c.args.answer) c.heading.ensures, heading_length c.args.answer)
