-- `walk_opening::opening_walk` meets its contract, by those of `find_index` and `index_walk`, and by the laws `not_found`, `index_walked`,
-- `index_stopped` and `index_read`.
use Prim.Native.Nat.{ℕ, ◌+◌, ◌-◌}
use mathlib.Core.Path.{◌≡◌, subst}
use mathlib.Core.List.{List}
use native.Mathlib.Omega.{arith}
use Rattle.std.specs.Prelude.{Ok}
use Rattle.segment.specs.Constants.{limit}
use Rattle.machine.specs.declared.Header.{Header}
use Rattle.walk_opening.specs.Steps.{Found, IndexFound}
use Rattle.fields.proofs.Answers.{handed}
use Rattle.walk_opening.proofs.Opened.{not_found, index_walked, index_stopped, index_read}
use Rattle.walk_opening.proofs.opening_walk.Goals.{In_ok-h}
use Rattle.walk_opening.proofs.opening_walk.Goals as goal

-- past the header of the top index
module _ (c : In_ok-h) where
  abbrev s : List ℕ
  s = c.args.bytes.now

  abbrev h : Header
  h = c.in_ok-h.h

  abbrev end : ℕ
  end = limit - c.args.base

  all : c.args.base + end ≡ limit
  all = omega (arith, c.requires.0)

  found : IndexFound c.args.brand c.args.branded s end (Ok h)
  found = subst (λ (r : Found). IndexFound c.args.brand c.args.branded s end r) c.in_ok-h.was c.find_index.ensures

pub returns-in_err-h : goal.returns-in_err-h
returns-in_err-h c =
    let a = c.args in
    let all : a.base + (limit - a.base) ≡ limit = omega (arith, c.requires.0) in
    rw (handed c.from_residual.ensures.1) (not_found a.brand a.branded a.base a.bytes.now (limit - a.base) all _ a.work.now c.in_err-h.was c.find_index.ensures)

pub overflow_add-end : goal.overflow_add-end
overflow_add-end c =
    let k = (goal.at.overflow_add-end c).In_ok-h in
    let i = (found k).fixed.1 in omega arith

pub overflow_add-h : goal.overflow_add-h
overflow_add-h c =
    let k = (goal.at.overflow_add-h c).In_ok-h in
    let i = (found k).fixed.1 in omega arith

pub index_walk-requires : goal.index_walk-requires
index_walk-requires c =
    let k = (goal.at.index_walk-requires c).In_ok-h in
    let i = (found k).fixed.1 in
    let p = c.requires in
    (tt, tt, omega arith, omega arith, omega arith, omega arith, omega arith)

pub returns-in_err-x : goal.returns-in_err-x
returns-in_err-x c =
    let k = (goal.at.returns-in_err-x c).In_ok-h in
    let a = c.args in
    let w = c.index_walk.ensures in
    let q = index_stopped a.base (s k) ((h k).pos + (h k).size) _ c.in_err-x.was w.fixed in
    rw (handed c.from_residual-in_err-x.ensures.1) (index_walked a.brand a.branded a.base (s k) (end k) (all k) (h k) _ _ _ _ (found k).right w q)

pub returns : goal.returns
returns c =
    let k = (goal.at.returns c).In_ok-h in
    let a = c.args in
    let w = c.index_walk.ensures in
    let q = index_read a.base (s k) ((h k).pos + (h k).size) _ _ c.in_ok-x.was w.fixed w.sums in
    index_walked a.brand a.branded a.base (s k) (end k) (all k) (h k) _ _ _ _ (found k).right w q
