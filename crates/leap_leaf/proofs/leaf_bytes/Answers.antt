-- `leap_leaf::leaf_bytes` meets its contract, by those of `leaf_ahead` and `leaf_byte`, and by the laws `from_then`, `from_byte` and `from_within`. The
-- loop's invariant: the bytes so far have taken the leaf from its first boxes to those at hand; the measure is the bytes to come.
use Prim.Native.Nat.{ℕ, ◌≤◌, ◌<◌}
use mathlib.Core.Path.{◌≡◌, ap, ◌∙◌}
use native.Mathlib.Omega.{arith}
use lib.ListN.{length, get_or, take}
use Rattle.std.specs.Prelude.{Ok}
use Rattle.machine.specs.declared.Step.{Step}
use Rattle.machine.specs.declared.Step.TheVariants as step
use Rattle.state.specs.Boxed.{LeafBoxes}
use Rattle.state.specs.declared.Seen.{Seen}
use Rattle.state.specs.Ranges.{Within, leaf_bounds}
use Rattle.leap_leaf.specs.Goes.{From, Goes}
use Rattle.leap_leaf.proofs.Laws.{from_none, from_then, from_byte, from_first, from_within}
use Rattle.leap_leaf.proofs.leaf_bytes.Goals.{After-leaf_ahead-ahead}
use Rattle.leap_leaf.proofs.leaf_bytes.Goals as goal

-- what is taken at once
module _ (c : After-leaf_ahead-ahead) where
  bytes : (j : ℕ) → get_or c.args.bytes.now j 0 < 256
  bytes j = (c.type_inv.bytes j).fits

  there : c.leaf_ahead-ahead.result.at ≤ length c.args.bytes.now
  there = (c.leaf_ahead-ahead.ensures c.args.id c.args.full).there

  later : c.loop-slot.on.at ≤ c.leaf_ahead-ahead.result.at
  later = (c.leaf_ahead-ahead.ensures c.args.id c.args.full).later

  taken : From c.args.id c.args.slot c.args.full c.args.n c.args.bytes.now c.args.s 0 c.leaf_ahead-ahead.result.boxes c.leaf_ahead-ahead.result.at
  taken =
      let a = c.args in
      from_then a.id a.slot a.full a.n a.bytes.now a.s _ _ 0 c.loop-slot.on.at _ c.loop-slot.invariant.0 (c.leaf_ahead-ahead.ensures a.id a.full)

  within : Within (leaf_bounds c.leaf_ahead-ahead.result.boxes)
  within =
      let a = c.args in
      from_within a.id a.slot a.full a.n a.bytes.now bytes c.requires.1 a.s _ 0 _ c.requires.0 taken

  -- the leaf does not go on, or no byte is left
  left_at : (c.leaf_ahead-ahead.result.at ≤ length c.args.bytes.now) × Within (leaf_bounds c.leaf_ahead-ahead.result.boxes)
      × Goes c.args.id c.args.slot c.args.full c.args.s c.args.n (take c.leaf_ahead-ahead.result.at c.args.bytes.now) c.leaf_ahead-ahead.result.boxes
  left_at = let a = c.args in (there, within, from_first a.id a.slot a.full a.n a.bytes.now a.s _ _ taken)

pub loop-slot-init : goal.loop-slot-init
loop-slot-init c =
    let a = c.args in
    (from_none a.id a.slot a.full a.n a.bytes.now a.s 0 (omega arith), c.requires.0)

pub leaf_ahead-ahead-requires : goal.leaf_ahead-ahead-requires
leaf_ahead-ahead-requires c = (c.loop-slot.invariant.1, c.requires.1, c.loop-slot.invariant.0.there)

pub returns-then-at-bytes : goal.returns-then-at-bytes
returns-then-at-bytes c = left_at (goal.at.returns-then-at-bytes c).After-leaf_ahead-ahead

-- a byte is left after them
pub overflow_add-n : goal.overflow_add-n
overflow_add-n c =
    let k = (goal.at.overflow_add-n c).After-leaf_ahead-ahead in
    omega (arith, c.if-at-bytes.false, there k, c.requires.1)

pub bounds-bytes-at : goal.bounds-bytes-at
bounds-bytes-at c =
    let k = (goal.at.bounds-bytes-at c).After-leaf_ahead-ahead in
    omega (arith, c.if-at-bytes.false, there k)

pub leaf_byte-r-requires : goal.leaf_byte-r-requires
leaf_byte-r-requires c =
    let k = (goal.at.leaf_byte-r-requires c).After-leaf_ahead-ahead in
    (within k, omega (arith, c.if-at-bytes.false, there k, c.requires.1))

pub overflow_add-on : goal.overflow_add-on
overflow_add-on c =
    let k = (goal.at.overflow_add-on c).After-leaf_ahead-ahead in
    omega (arith, c.if-at-bytes.false, there k, c.requires.1)

-- the leaf goes on with it
pub loop-slot-smaller : goal.loop-slot-smaller
loop-slot-smaller c =
    let k = (goal.at.loop-slot-smaller c).After-leaf_ahead-ahead in
    omega (arith, c.if-at-bytes.false, there k, later k)

pub loop-slot-preserved : goal.loop-slot-preserved
loop-slot-preserved c =
    let k = (goal.at.loop-slot-preserved c).After-leaf_ahead-ahead in
    let a = c.args in
    let low : c.leaf_ahead-ahead.result.at < length a.bytes.now = omega (arith, c.if-at-bytes.false, there k) in
    let ok : c.leaf_byte-r.result ≡ Ok c.in-Ok-Going.field-0 = c.in-Ok-Going.is in
    let going : c.in-Ok-Going.field-0 ≡ step.Going c.in-Ok-Going.boxes = rw ok at c.in-Ok-Going.field-0-is in
    let went : c.leaf_byte-r.result ≡ Ok (step.Going c.in-Ok-Going.boxes) = ok ∙ ap (λ (q : Step LeafBoxes Seen). Ok q) going in
    let one = from_byte a.id a.slot a.full a.n a.bytes.now _ c.in-Ok-Going.boxes _ c.leaf_byte-r.result low c.leaf_byte-r.ensures went in
    let all = from_then a.id a.slot a.full a.n a.bytes.now a.s _ _ 0 c.leaf_ahead-ahead.result.at _ (taken k) one in
    (all, from_within a.id a.slot a.full a.n a.bytes.now (bytes k) c.requires.1 a.s _ 0 _ c.requires.0 all)

-- it does not
pub returns-in_default : goal.returns-in_default
returns-in_default c = left_at (goal.at.returns-in_default c).After-leaf_ahead-ahead

pub returns-in_default-2 : goal.returns-in_default-2
returns-in_default-2 c = left_at (goal.at.returns-in_default-2 c).After-leaf_ahead-ahead
