-- `leap_leaf::number_ahead` meets its contract, by those of `least`, `spell_bytes` and `leaf_again`, and by the laws `spelled_fits` and `from_told`.
use Prim.Native.Nat.{ℕ, ◌-◌}
use mathlib.Core.Path.{◌≡◌, ap, ◌∙◌}
use native.Mathlib.Omega.{arith}
use lib.ListN.{length}
use Rattle.state.specs.Jump.{least}
use Rattle.state.specs.Numbers.{leaf_number}
use Rattle.basics.specs.Bytes.{number_from}
use Rattle.leap_leaf.proofs.Spelled.{taken_more, taken_there, spelled_fits, from_told, taken_part, length_taken}
use Rattle.leap_leaf.proofs.number_ahead.Goals.{After-least-k}
use Rattle.leap_leaf.proofs.number_ahead.Goals as goal

module _ (c : After-least-k) where
  -- how many bytes are taken
  takes : c.least-k.result ≡ least (leaf_number c.args.on.boxes).more (length c.args.bytes.now - c.args.on.at)
  takes = c.least-k.ensures ∙ ap (λ (m : ℕ). least m (length c.args.bytes.now - c.args.on.at)) (ap (λ x. x.more) c.requires.1)

pub overflow_add-at : goal.overflow_add-at
overflow_add-at c =
    let k = (goal.at.overflow_add-at c).After-least-k in
    let a = c.args in
    omega (arith, taken_there a.on.boxes a.bytes.now a.on.at _ (takes k), c.requires.3)

pub slice_bounds-spell_bytes-end : goal.slice_bounds-spell_bytes-end
slice_bounds-spell_bytes-end c =
    let k = (goal.at.slice_bounds-spell_bytes-end c).After-least-k in
    let a = c.args in
    omega (arith, taken_there a.on.boxes a.bytes.now a.on.at _ (takes k), c.requires.3)

pub spell_bytes-acc-requires : goal.spell_bytes-acc-requires
spell_bytes-acc-requires c =
    let k = (goal.at.spell_bytes-acc-requires c).After-least-k in
    let a = c.args in
    let pre = c.requires in
    let there = taken_there a.on.boxes a.bytes.now a.on.at _ (takes k) in
    rw (length_taken a.bytes.now a.on.at c.least-k.result (omega (arith, there, pre.3)), pre.1) (spelled_fits a.on.boxes a.bytes.now a.on.at _ (takes k) pre.0)

pub overflow_sub-x : goal.overflow_sub-x
overflow_sub-x c =
    let k = (goal.at.overflow_sub-x c).After-least-k in
    let a = c.args in
    rw c.requires.1 (taken_more a.on.boxes a.bytes.now a.on.at _ (takes k))

pub returns : goal.returns
returns c id slot full n =
    let k = (goal.at.returns c).After-least-k in
    let a = c.args in
    let pre = c.requires in
    from_told a.on.boxes a.bytes.now a.on.at _ (takes k) a.x pre.1 pre.2 id slot full n _ c.leaf_again.result pre.3
    (c.spell_bytes-acc.ensures ∙ ap (number_from a.x.acc) (taken_part a.bytes.now a.on.at c.least-k.result)) c.leaf_again.ensures
