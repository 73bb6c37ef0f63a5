-- `walk_opening::lists_brand` meets its contract. The loop's invariant: whether the brand is among those to come is whether it is among all.
use Prim.Native.Nat.{◌+◌, ◌*◌}
use mathlib.Core.Path.{◌≡◌}
use Rattle.walk_opening.proofs.Brands.{Among}
use Rattle.walk_opening.proofs.lists_brand.Given as goal

abbrev pub invariant-loop-b : goal.invariant-loop-b
invariant-loop-b l = Among l.brand l.bytes (l.from + 4 * l.b-index) l.end ≡ Among l.brand l.bytes l.from l.end
