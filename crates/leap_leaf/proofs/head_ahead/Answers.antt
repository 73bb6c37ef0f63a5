-- `leap_leaf::head_ahead` meets its contract, by those of `word_at` and `leaf_with`, and by the laws `from_none` and `from_begun`.
use native.Mathlib.Omega.{arith}
use Rattle.leap_leaf.proofs.Laws.{from_none}
use Rattle.leap_leaf.proofs.Begun.{from_begun}
use Rattle.leap_leaf.proofs.head_ahead.Goals as goal

pub returns-then-bytes-i-lt-SHORT : goal.returns-then-bytes-i-lt-SHORT
returns-then-bytes-i-lt-SHORT c id full =
    let a = c.args in
    from_none id a.slot full a.n a.bytes.now a.on.boxes a.on.at c.requires.2

pub returns : goal.returns
returns c id full =
    let a = c.args in
    let pre = c.requires in
    from_begun id a.slot full a.n a.bytes.now a.on.boxes a.on.at (λ j. (c.type_inv.bytes j).fits) a.end _ c.word_at-acc.result c.leaf_with.result
    pre.0 (omega (arith, c.if-end-pos.false)) (omega (arith, c.if-bytes-i-lt-SHORT.false, pre.2))
    c.word_at-size.ensures.0 c.word_at-acc.ensures.0 c.leaf_with.ensures
