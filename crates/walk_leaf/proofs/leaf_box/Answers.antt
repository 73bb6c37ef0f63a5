-- `walk_leaf::leaf_box` meets its contract, by that of `box_walk`: it tells of a leaf that has had its `moof`, and of one that has not.
use mathlib.Core.Path.{◌≡◌, refl, ap, sym, subst}
use mathlib.Core.Bool.{Bool, ◌||◌}
use lib.Dec.{eqb}
use Rattle.std.specs.Prelude.{Result, Ok}
use Rattle.segment.specs.Constants.{moof}
use Rattle.state.specs.declared.LeafSo.{LeafSo}
use Rattle.fields.specs.declared.Halt.{Halt}
use Rattle.fields.proofs.Answers.{handed}
use Rattle.walk_leaf.specs.Walks.{leaf_of, LeafBoxWalked}
use Rattle.walk_leaf.proofs.leaf_box.Goals.{In_ok-seen}
use Rattle.walk_leaf.proofs.leaf_box.Goals as goal

pub returns-in_err-seen : goal.returns-in_err-seen
returns-in_err-seen c =
    let a = c.args in
    rw (handed c.from_residual.ensures.1)
    (subst (λ (r : Result LeafSo Halt). LeafBoxWalked a.bytes.now a.id a.at a.h a.so r) (ap (leaf_of a.so.moof a.h) c.in_err-seen.was) (c.box_walk.ensures a.so.moof))

-- the box is over
module _ (c : In_ok-seen) where
  told : (had : Bool) → (c.args.so.moof || eqb c.args.h.kind moof) ≡ had →
      LeafBoxWalked c.args.bytes.now c.args.id c.args.at c.args.h c.args.so (Ok (record { moof = had; seen = c.in_ok-seen.seen }))
  told had e = rw (sym e) (c.in_ok-seen.ensures c.args.so.moof)

pub returns-then-so : goal.returns-then-so
returns-then-so c = told (goal.at.returns-then-so c).In_ok-seen _ (rw c.if-so.true refl)

pub returns-else-so : goal.returns-else-so
returns-else-so c = told (goal.at.returns-else-so c).In_ok-seen _ (rw c.if-so.false refl)
