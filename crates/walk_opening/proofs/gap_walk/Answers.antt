-- `walk_opening::gap_walk` meets its contract, by those of `read_head`, `gap_kind_flaw`, `top_flaw` and `head_crossed`, and by the laws of the gap. The loop's invariant: what is right
-- from the position on is right from the start on; the measure is what is left of the gap.
use Prim.Native.Nat.{ℕ, ◌<◌}
use mathlib.Core.Path.{◌≡◌, refl, ap, sym, ◌∙◌}
use mathlib.Core.List.{List}
use native.Mathlib.Omega.{arith}
use Rattle.std.specs.Prelude.{Ok}
use Rattle.machine.specs.declared.Header.{Header}
use Rattle.fields.specs.Answers.{head_at}
use Rattle.fields.proofs.Answers.{HeadIn, head_in, handed}
use Rattle.state.specs.Rows.{gap_faults}
use Rattle.flaws.specs.Flaws.{flaw_of, numbered}
use Rattle.flaws.proofs.Numbered.{two_kinds, length_first}
use Rattle.flaws.proofs.Places.{gap_flaws}
use Rattle.walk_opening.specs.Views.{Crossed, GapFixed, GapWalked}
use Rattle.walk_opening.proofs.Gap.{GapFrom, gap_over, gap_unread, gap_flawed, gap_cut, gap_passed, gap_start}
use Rattle.reader.proofs.Skips.{skip_here, skip_gone}
use Rattle.walk_opening.proofs.gap_walk.Goals.{After-top_flaw}
use Rattle.walk_opening.proofs.gap_walk.Goals as goal

-- past a header that was read, and its flaw
module _ (c : After-top_flaw) where
  abbrev s : List ℕ
  s = c.args.bytes.now

  abbrev end : ℕ
  end = c.args.end

  abbrev at : ℕ
  at = c.loop-at.at

  abbrev h : Header
  h = c.in_ok-h.h

  read : head_at s at end ≡ Ok h
  read = sym c.read_head.ensures ∙ c.in_ok-h.was

  inside : HeadIn s at end h
  inside = head_in s at end h read

  told : c.top_flaw.result ≡ numbered (flaw_of (gap_faults h))
  told = length_first h _ c.top_flaw.ensures (c.gap_kind_flaw.ensures ∙ two_kinds _ _) ∙ ap numbered (sym (gap_flaws h))

  test : at < end
  test = c.loop-at-test.true

  -- what is right from the position on answers the contract
  answer : (r : Crossed) → GapFrom s end at r → GapFixed s end r → GapWalked s c.args.from end r
  answer r right fixed = record { right = gap_start s end _ r c.requires.0 c.requires.2 (c.loop-at.invariant.2 r right); fixed = fixed }

pub loop-at-init : goal.loop-at-init
loop-at-init c = (omega arith, omega arith, λ r h. h)

pub returns-in_err-h : goal.returns-in_err-h
returns-in_err-h c =
    let a = c.args in
    let s = a.bytes.now in
    let l = c.loop-at in
    let w = gap_unread s a.end l.at c.loop-at-test.true l.invariant.1 _ (sym c.read_head.ensures ∙ c.in_err-h.was) in
    rw (handed c.from_residual.ensures.1) (record { right = gap_start s a.end a.from _ c.requires.0 c.requires.2 (l.invariant.2 _ w.0); fixed = w.1 })

pub overflow_add-at : goal.overflow_add-at
overflow_add-at c =
    let k = (goal.at.overflow_add-at c).After-top_flaw in
    let i = inside k in omega arith

pub returns-in-Some : goal.returns-in-Some
returns-in-Some c =
    let k = (goal.at.returns-in-Some c).After-top_flaw in
    rw c.stop_at.ensures (answer k _ (gap_flawed (s k) (end k) (at k) (test k) c.loop-at.invariant.1 (h k) (read k) _ (told k) _ c.in-Some.is) refl)

pub overflow_add-at-in-loop-at : goal.overflow_add-at-in-loop-at
overflow_add-at-in-loop-at c =
    let k = (goal.at.overflow_add-at-in-loop-at c).After-top_flaw in
    let i = inside k in omega arith

pub returns-in_err-skip_to : goal.returns-in_err-skip_to
returns-in_err-skip_to c =
    let k = (goal.at.returns-in_err-skip_to c).After-top_flaw in
    let gone = skip_gone (s k) _ (sym c.skip_to.ensures ∙ c.in_err-skip_to.was) in
    rw (handed c.from_residual-in_err-skip_to.ensures.1, gone.0)
    (answer k _ (gap_cut (s k) (end k) (at k) (test k) c.loop-at.invariant.1 (h k) (read k) _ (told k) c.in_default.is gone.1) tt)

pub loop-at-smaller : goal.loop-at-smaller
loop-at-smaller c =
    let k = (goal.at.loop-at-smaller c).After-top_flaw in
    let i = inside k in omega arith

pub loop-at-preserved : goal.loop-at-preserved
loop-at-preserved c =
    let k = (goal.at.loop-at-preserved c).After-top_flaw in
    let i = inside k in
    let there = skip_here (s k) _ (sym c.skip_to.ensures ∙ c.in_ok-skip_to.was) in (
      omega arith,
      there,
      λ r q. c.loop-at.invariant.2 r (gap_passed (s k) (end k) (at k) (test k) c.loop-at.invariant.1 (h k) (read k) _ (told k) c.in_default.is there r q),
    )

pub returns : goal.returns
returns c =
    let a = c.args in
    let s = a.bytes.now in
    let l = c.loop-at in
    let e : l.at ≡ a.end = omega arith in
    record {
      right = gap_start s a.end a.from _ c.requires.0 c.requires.2 (l.invariant.2 _ (gap_over s a.end l.at e));
      fixed = omega arith;
    }
