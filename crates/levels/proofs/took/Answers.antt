-- `levels::took` meets its contract, since the entry after the next is one more.
use mathlib.Core.Path.{ap}
use Prim.Native.Nat.{ℕ}
use native.Mathlib.Numerals.{add-one}
use Rattle.levels.proofs.took.Goals as goal

pub returns : goal.returns
returns c =
    let a = c.args in
    ap (λ (k : ℕ). record { next = k; count = a.l.count; end = a.l.end; until = a.l.until }) (add-one a.l.next)
