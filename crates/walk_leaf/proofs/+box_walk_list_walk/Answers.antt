-- `walk_leaf::box_walk` and `walk_leaf::list_walk`, which call each other, meet their contracts, by those of `traf_list` and `quick_head`. The laws are those of
-- `Moofs`.
use Prim.Native.Nat.{ℕ, ◌+◌, ◌≤◌}
use mathlib.Core.Path.{◌≡◌, sym, ◌∙◌}
use mathlib.Core.List.{List}
use native.Mathlib.Omega.{arith}
use Rattle.std.specs.Prelude.{Ok}
use Rattle.segment.specs.Constants.{limit}
use Rattle.machine.specs.declared.Header.{Header}
use Rattle.fields.specs.Answers.{head_at}
use Rattle.fields.proofs.Answers.{head_in, handed}
use Rattle.walk_leaf.specs.Walks.{Headed}
use Rattle.walk_leaf.proofs.Loops.{head_fixed, head_headed, stays_fixed, over_fixed, halt_fixed}
use Rattle.walk_leaf.proofs.Moofs.{moof_head, moof_stays, moof_over, moof_ends, moof_walked, box_list, box_passed, box_cut}
use Rattle.walk_leaf.proofs.+box_walk_list_walk.Goals as goal

-- A box.
pub box_walk-returns-then-h-kind : goal.box_walk-returns-then-h-kind
box_walk-returns-then-h-kind t c =
    let a = c.args in
    box_list a.id a.bytes.now a.at a.h c.requires a.seen a.list (c.if-h-kind.true ∙ c.kind.ensures) _ c.list_walk.ensures

pub box_walk-returns-then-bytes-end : goal.box_walk-returns-then-bytes-end
box_walk-returns-then-bytes-end t c =
    let a = c.args in
    box_cut a.id a.bytes.now a.at a.h c.requires a.seen a.list (λ q. c.if-h-kind.false (q ∙ sym c.kind.ensures)) c.if-bytes-end.true

pub box_walk-returns : goal.box_walk-returns
box_walk-returns t c =
    let a = c.args in
    box_passed a.id a.bytes.now a.at a.h c.requires a.seen a.list (λ q. c.if-h-kind.false (q ∙ sym c.kind.ensures)) (omega (arith, c.if-bytes-end.false))

-- The header of a box in a list, which was read.
module _ (s : List ℕ) (at end : ℕ) (h : Header) (far : end ≤ limit) (read : head_at s at end ≡ Ok h) where
  headed : Headed s at h
  headed = head_headed s at end far read

  within : at + h.size ≤ end
  within = (head_in s at end h read).within

-- A list.
pub list_walk-returns-in_err-h-in-Moof : goal.list_walk-returns-in_err-h-in-Moof
list_walk-returns-in_err-h-in-Moof t c =
    let a = c.args in
    let l = c.loop-at in
    let s = a.bytes.now in
    let e = sym c.quick_head.ensures ∙ c.in_err-h-in-Moof.was in
    rw (handed c.from_residual.ensures.1, c.in-Moof.is)
    (moof_walked a.id s a.from a.end a.known _
    (l.invariant.3 _ (moof_head a.id s a.end l.at l.seen l.invariant.2 c.loop-at-test.true _ e))
    (head_fixed s l.at a.end c.loop-at-test.true _ e))

pub list_walk-box_walk-requires : goal.list_walk-box_walk-requires
list_walk-box_walk-requires t c =
    let a = c.args in
    let l = c.loop-at in
    let falls = c.decreases in
    let read = sym c.quick_head.ensures ∙ c.in_ok-h-in-Moof.was in
    let w = within a.bytes.now l.at a.end c.in_ok-h-in-Moof.h c.requires.2 read in
    let on = l.invariant.0 in
    (omega arith, headed a.bytes.now l.at a.end c.in_ok-h-in-Moof.h c.requires.2 read)

pub list_walk-returns-in_err-seen-in-Moof : goal.list_walk-returns-in_err-seen-in-Moof
list_walk-returns-in_err-seen-in-Moof t c =
    let a = c.args in
    let l = c.loop-at in
    let s = a.bytes.now in
    let h = c.in_ok-h-in-Moof.h in
    let read = sym c.quick_head.ensures ∙ c.in_ok-h-in-Moof.was in
    let told = c.box_walk.ensures in
    rw (handed c.from_residual-in_err-seen-in-Moof.ensures.1, c.in-Moof.is)
    (moof_walked a.id s a.from a.end a.known _
    (l.invariant.3 _ (moof_stays a.id s a.end l.at l.seen l.invariant.2 c.loop-at-test.true read (headed s l.at a.end h c.requires.2 read) told _ c.in_err-seen-in-Moof.was))
    (stays_fixed _ a.end (within s l.at a.end h c.requires.2 read) _ (halt_fixed s _ c.in_err-seen-in-Moof.was told.fixed)))

pub list_walk-overflow_add-at : goal.list_walk-overflow_add-at
list_walk-overflow_add-at t c =
    let a = c.args in
    let l = c.loop-at in
    let read = sym c.quick_head.ensures ∙ c.in_ok-h-in-Moof.was in
    let w = within a.bytes.now l.at a.end c.in_ok-h-in-Moof.h c.requires.2 read in
    omega arith

pub list_walk-loop-at-smaller : goal.list_walk-loop-at-smaller
list_walk-loop-at-smaller t c =
    let a = c.args in
    let l = c.loop-at in
    let read = sym c.quick_head.ensures ∙ c.in_ok-h-in-Moof.was in
    let w = within a.bytes.now l.at a.end c.in_ok-h-in-Moof.h c.requires.2 read in
    let b = c.loop-at-test.true in
    let hd = headed a.bytes.now l.at a.end c.in_ok-h-in-Moof.h c.requires.2 read in
    let some = hd.short in
    let holds = hd.holds in
    omega arith

pub list_walk-loop-at-preserved : goal.list_walk-loop-at-preserved
list_walk-loop-at-preserved t c =
    let a = c.args in
    let l = c.loop-at in
    let s = a.bytes.now in
    let h = c.in_ok-h-in-Moof.h in
    let read = sym c.quick_head.ensures ∙ c.in_ok-h-in-Moof.was in
    let hd = headed s l.at a.end h c.requires.2 read in
    let told = c.box_walk.ensures in
    let w = within s l.at a.end h c.requires.2 read in
    let on = l.invariant.0 in (
      omega arith,
      omega arith,
      over_fixed s _ c.in_ok-seen-in-Moof.was told.fixed,
      λ r d. l.invariant.3 r (moof_over a.id s a.end l.at l.seen l.invariant.2 c.loop-at-test.true read hd told c.in_ok-seen-in-Moof.was r d),
    )

pub list_walk-returns-after-loop-at : goal.list_walk-returns-after-loop-at
list_walk-returns-after-loop-at t c =
    let a = c.args in
    let l = c.loop-at in
    let s = a.bytes.now in
    let q : l.at ≡ a.end = omega arith in
    rw c.in-Moof.is (moof_walked a.id s a.from a.end a.known _ (l.invariant.3 _ (rw q (moof_ends a.id s a.end l.seen))) (omega arith))
