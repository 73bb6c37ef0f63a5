-- `walk_leaf::leaf_list` meets its contract, by those of `quick_head`, `leaf_flaw`, `stop_at` and `leaf_box`. The loop's invariant: what is right for the boxes from
-- here on is right for all of them. The measure is what is left of the leaf. The laws are those of `Leaves`.
use Prim.Native.Nat.{ℕ, ◌+◌, ◌≤◌, ◌<◌}
use mathlib.Core.Path.{◌≡◌, refl, ap, sym, ◌∙◌}
use mathlib.Core.List.{List}
use native.Mathlib.Omega.{arith}
use lib.ListN.{length}
use Rattle.std.specs.Prelude.{Result, Ok}
use Rattle.machine.specs.declared.Header.{Header}
use Rattle.state.specs.declared.LeafSo.{LeafSo}
use Rattle.fields.specs.Answers.{head_at, stop_at}
use Rattle.fields.specs.declared.Halt.{Halt}
use Rattle.fields.proofs.Answers.{head_in, handed}
use Rattle.flaws.proofs.Numbered.{some_number, no_number}
use Rattle.walk_leaf.specs.Walks.{Headed, WalkFixed, LeafListed}
use Rattle.walk_leaf.proofs.Loops.{head_fixed, head_headed, stays_fixed, over_fixed, halt_fixed}
use Rattle.walk_leaf.proofs.Leaves.{LeafFrom, flaw_nine, leaf_head, leaf_flaw_lem, leaf_stays, leaf_over, leaf_ends, leaf_listed}
use Rattle.walk_leaf.proofs.leaf_list.Goals.{In_ok-h}
use Rattle.walk_leaf.proofs.leaf_list.Goals as goal

-- past a header that was read
module _ (c : In_ok-h) where
  abbrev s : List ℕ
  s = c.args.bytes.now

  abbrev id : ℕ
  id = c.args.id

  abbrev end : ℕ
  end = c.args.end

  abbrev at : ℕ
  at = c.loop-at.at

  abbrev so : LeafSo
  so = c.loop-at.so

  abbrev h : Header
  h = c.in_ok-h.h

  read : head_at s at end ≡ Ok h
  read = sym c.quick_head.ensures ∙ c.in_ok-h.was

  headed : Headed s at h
  headed = head_headed s at end c.requires.1 read

  within : at + h.size ≤ end
  within = (head_in s at end h read).within

  here : at ≤ length s
  here = c.loop-at.invariant.2

  before : at < end
  before = c.loop-at-test.true

  -- what is right from here on is right for the leaf
  whole : (r : Result LeafSo Halt) → LeafFrom id s end at so r → WalkFixed s end r → LeafListed s id c.args.from end c.args.known r
  whole r d g = leaf_listed id s end c.args.from c.args.known r c.requires.0 c.requires.2 (c.loop-at.invariant.3 r d) g

pub loop-at-init : goal.loop-at-init
loop-at-init c = let p = c.requires in (omega arith, omega arith, p.2, λ r d. d)

pub returns-in_err-h : goal.returns-in_err-h
returns-in_err-h c =
    let l = c.loop-at in
    let a = c.args in
    let s = a.bytes.now in
    let e = sym c.quick_head.ensures ∙ c.in_err-h.was in
    rw (handed c.from_residual.ensures.1)
    (leaf_listed a.id s a.end a.from a.known _ c.requires.0 c.requires.2
    (l.invariant.3 _ (leaf_head a.id s a.end l.at l.so l.invariant.2 c.loop-at-test.true _ e))
    (head_fixed s l.at a.end c.loop-at-test.true _ e))

pub overflow_add-at-in-loop-at : goal.overflow_add-at-in-loop-at
overflow_add-at-in-loop-at c =
    let k = (goal.at.overflow_add-at-in-loop-at c).In_ok-h in
    let w = within k in
    let far = (headed k).far in
    let holds = (headed k).holds in
    omega arith

pub returns-in-Some : goal.returns-in-Some
returns-in-Some c =
    let k = (goal.at.returns-in-Some c).In_ok-h in
    let shown = some_number _ _ (sym c.leaf_flaw.ensures ∙ c.in-Some.is) in
    let told = c.stop_at.ensures ∙ ap (λ (n : ℕ). stop_at n (at k) (at k + (h k).head)) (sym shown.0) in
    let nine = flaw_nine (so k).moof (h k) in
    let w = within k in
    let holds = (headed k).holds in
    rw told (whole k _ (leaf_flaw_lem (id k) (s k) (end k) (at k) (so k) (here k) (before k) (read k) (headed k) shown.1)
    (record { none = refl; low = omega arith; place = omega arith; count = omega arith }))

pub leaf_box-requires : goal.leaf_box-requires
leaf_box-requires c = headed (goal.at.leaf_box-requires c).In_ok-h

pub returns-in_err-so : goal.returns-in_err-so
returns-in_err-so c =
    let k = (goal.at.returns-in_err-so c).In_ok-h in
    rw (handed c.from_residual-in_err-so.ensures.1)
    (whole k _
    (leaf_stays (id k) (s k) (end k) (at k) (so k) (here k) (before k) (read k) (headed k) (no_number _ (sym c.leaf_flaw.ensures ∙ c.in_default.is))
    c.leaf_box.ensures _ c.in_err-so.was)
    (stays_fixed _ (end k) (within k) _ (halt_fixed (s k) _ c.in_err-so.was c.leaf_box.ensures.fixed)))

pub overflow_add-at : goal.overflow_add-at
overflow_add-at c =
    let k = (goal.at.overflow_add-at c).In_ok-h in
    let w = within k in
    let far = (headed k).far in
    let holds = (headed k).holds in
    omega arith

pub loop-at-smaller : goal.loop-at-smaller
loop-at-smaller c =
    let k = (goal.at.loop-at-smaller c).In_ok-h in
    let w = within k in
    let b = before k in
    let some = (headed k).short in
    let holds = (headed k).holds in
    omega arith

pub loop-at-preserved : goal.loop-at-preserved
loop-at-preserved c =
    let k = (goal.at.loop-at-preserved c).In_ok-h in
    let l = c.loop-at in
    let w = within k in
    let on = l.invariant.0 in (
      omega arith,
      omega arith,
      over_fixed (s k) _ c.in_ok-so.was c.leaf_box.ensures.fixed,
      λ r d. l.invariant.3 r
          (leaf_over (id k) (s k) (end k) (at k) (so k) (here k) (before k) (read k) (headed k) (no_number _ (sym c.leaf_flaw.ensures ∙ c.in_default.is))
          c.leaf_box.ensures c.in_ok-so.was r d),
    )

pub returns : goal.returns
returns c =
    let l = c.loop-at in
    let a = c.args in
    let s = a.bytes.now in
    let q : l.at ≡ a.end = omega arith in
    leaf_listed a.id s a.end a.from a.known _ c.requires.0 c.requires.2 (l.invariant.3 _ (rw q (leaf_ends a.id s a.end l.so))) (omega arith)
