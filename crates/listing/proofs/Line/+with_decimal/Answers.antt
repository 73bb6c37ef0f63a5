-- `listing::Line::with_decimal`, which calls itself, meets its contract.
use Prim.Native.Nat.{◌-◌, ◌/◌}
use mathlib.Core.Path.{sym}
use native.Mathlib.Omega.{arith}
use Rattle.listing.proofs.Laws.{adds_none, adds_both, adds_as, decimal_length, decimal_none, decimal_one, decimal_more}
use Rattle.listing.proofs.Line.+with_decimal.Goals as goal

pub returns-then-most-eq0 : goal.returns-then-most-eq0
returns-then-most-eq0 t c = adds_as (sym (decimal_none c.args.most c.args.n c.if-most-eq0.true)) (adds_none c.args.self)

pub returns-then-n-lt10 : goal.returns-then-n-lt10
returns-then-n-lt10 t c = let a = c.args in adds_as (sym (decimal_one a.most a.n (omega arith) (omega arith))) c.with_byte.ensures

pub with_byte-requires-2 : goal.with_byte-requires-2
with_byte-requires-2 t c = let a = c.args in omega (arith, decimal_length (a.most - 1) (a.n / 10))

pub returns : goal.returns
returns t c =
    let a = c.args in
    adds_as (sym (decimal_more a.most a.n (omega arith) (omega arith))) (adds_both c.with_decimal-tens.ensures c.with_byte-2.ensures)
