-- `leap_leaf::skipped_ahead` meets its contract, by those of `leaf_skips` and `passing`, and by the law `from_skipped`.
use Prim.Native.Nat.{ℕ, suc, ◌+◌, ◌-◌}
use mathlib.Core.Path.{◌≡◌, ap, ◌∙◌}
use native.Mathlib.Omega.{arith}
use lib.ListN.{length}
use Rattle.state.specs.Jump.{leaf_skips, least}
use Rattle.state.proofs.Jump.{least_first}
use Rattle.leap_leaf.proofs.Laws.{from_skipped}
use Rattle.leap_leaf.proofs.skipped_ahead.Goals.{After-passing-k}
use Rattle.leap_leaf.proofs.skipped_ahead.Goals as goal

module _ (c : After-passing-k) where
  -- how many bytes pass
  passes : c.passing-k.result ≡ least (length c.args.bytes.now - c.args.on.at) (leaf_skips c.args.on.boxes - suc (c.args.n + c.args.on.at))
  passes =
      c.passing-k.ensures
      ∙ ap (λ (stop : ℕ). least (length c.args.bytes.now - c.args.on.at) (stop - suc (c.args.n + c.args.on.at))) c.leaf_skips.ensures

pub overflow_add-result : goal.overflow_add-result
overflow_add-result c =
    let k = (goal.at.overflow_add-result c).After-passing-k in
    omega (arith, c.requires, passes k, least_first (length c.args.bytes.now - c.args.on.at) (leaf_skips c.args.on.boxes - suc (c.args.n + c.args.on.at)))

pub returns : goal.returns
returns c id slot full =
    let k = (goal.at.returns c).After-passing-k in
    let a = c.args in
    from_skipped id slot full a.n a.bytes.now a.on.boxes a.on.at _ c.requires.1 (passes k)
