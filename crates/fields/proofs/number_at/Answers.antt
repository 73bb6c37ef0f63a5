-- `fields::number_at` meets its contract, by those of `wide`, `pair_at`, `word_at` and `long_at`, and by the laws `width_one` and `last_width`.
use Prim.Native.Nat.{◌<◌}
use mathlib.Core.Path.{sym, ◌∙◌}
use lib.ListN.{length}
use native.Mathlib.Omega.{arith}
use Rattle.fields.proofs.Width.{width_one, last_width}
use Rattle.fields.proofs.number_at.Goals as goal

pub returns-in-1 : goal.returns-in-1
returns-in-1 c =
    let a = c.args in
    let there : a.at < length a.bytes.now = omega arith in
    rw c.in-1.is (c.wide.ensures.0 ∙ sym (width_one a.bytes.now a.at there), omega arith)

pub returns-in-2 : goal.returns-in-2
returns-in-2 c = rw c.in-2.is c.pair_at.ensures

pub returns-in-4 : goal.returns-in-4
returns-in-4 c = rw c.in-4.is c.word_at.ensures

pub long_at-requires : goal.long_at-requires
long_at-requires c = omega (arith, last_width c.args.width c.requires.0 (λ e. omega arith) (λ e. omega arith) (λ e. omega arith))

pub returns-in_default : goal.returns-in_default
returns-in_default c = rw (last_width c.args.width c.requires.0 (λ e. omega arith) (λ e. omega arith) (λ e. omega arith)) (c.long_at.ensures, omega arith)
