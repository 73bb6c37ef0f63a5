-- `listing::leaf_line` meets its contract, by those of `numbers_of`, `starting`, `with_decimal` and `with_numbers`, and by the laws `line_length` and `decimal_length`.
use mathlib.Core.Path.{ap, ◌∙◌}
use mathlib.Core.List.{List, [], ◌++◌}
use Prim.Native.Nat.{ℕ}
use lib.ListN.{length}
use native.Mathlib.Omega.{arith}
use Rattle.listing.specs.Text.{decimal, spaced, line_of}
use Rattle.listing.proofs.Laws.{line_length, decimal_length}
use Rattle.listing.proofs.leaf_line.Goals as goal

pub with_decimal-requires : goal.with_decimal-requires
with_decimal-requires c = omega (arith, line_length [] c.starting.ensures)

pub with_numbers-requires : goal.with_numbers-requires
with_numbers-requires c =
    let six = ap length c.numbers_of.ensures in
    omega (arith, line_length [] c.starting.ensures, decimal_length 20 c.args.number)

pub returns : goal.returns
returns c =
    let number = c.args.number in
    c.with_numbers.ensures.holds (decimal number) (c.with_decimal.ensures.holds [] c.starting.ensures)
    ∙ ap (λ (ns : List ℕ). line_of (decimal number ++ spaced ns)) c.numbers_of.ensures
