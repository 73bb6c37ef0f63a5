-- `walk_opening::find_index` meets its contract, by those of `quick_head`, `opening_flaw` and `opening_box`, and by the laws of the boxes up to the top index. The loop's invariant: what
-- is right from the position on is right from the start on; the measure is what is left up to the limit.
use Prim.Native.Nat.{ℕ, ◌≤◌}
use mathlib.Core.Path.{◌≡◌, refl, sym, subst, ◌∙◌}
use mathlib.Core.List.{List}
use mathlib.Core.Bool.{Bool}
use native.Mathlib.Omega.{arith}
use lib.ListN.{length}
use Rattle.std.specs.Prelude.{Ok}
use Rattle.segment.specs.Constants.{limit}
use Rattle.machine.specs.declared.Header.{Header}
use Rattle.state.specs.Rows.{opening_faults}
use Rattle.fields.specs.Answers.{head_at}
use Rattle.fields.proofs.Answers.{HeadIn, head_in, handed}
use Rattle.flaws.specs.Flaws.{flaw_of, numbered}
use Rattle.flaws.proofs.Numbered.{no_number}
use Rattle.descent.specs.Opening.{opening_body_d}
use Rattle.walk_opening.specs.Steps.{Found, BoxPassed, FoundFrom, FoundFixed, IndexFound}
use Rattle.walk_opening.specs.Views.{Crossed}
use Rattle.walk_opening.proofs.Shown.{styp_long}
use Rattle.walk_opening.proofs.Findings.{found_none, found_unread, found_flawed, found_index, found_stopped, found_passed, box_here, index_here}
use Rattle.walk_opening.proofs.find_index.Goals.{After-opening_flaw}
use Rattle.walk_opening.proofs.find_index.Goals as goal

-- past a header that was read, and its flaw
module _ (c : After-opening_flaw) where
  abbrev brand : ℕ
  brand = c.args.brand

  abbrev s : List ℕ
  s = c.args.bytes.now

  abbrev end : ℕ
  end = c.args.end

  abbrev branded : Bool
  branded = c.loop-at.branded

  abbrev at : ℕ
  at = c.loop-at.at

  here : at ≤ length s
  here = c.loop-at.invariant.1

  abbrev h : Header
  h = c.in_ok-h.h

  read : head_at s at end ≡ Ok h
  read = sym c.quick_head.ensures ∙ c.in_ok-h.was

  inside : HeadIn s at end h
  inside = head_in s at end h read

  told : c.opening_flaw.result ≡ numbered (flaw_of (opening_faults branded h))
  told = c.opening_flaw.ensures

  -- what is right from the position on answers the contract
  answer : (r : Found) → FoundFrom brand branded s at end r × FoundFixed s end r → IndexFound brand c.args.styp s end r
  answer r w = record { right = c.loop-at.invariant.2 r w.0; fixed = w.1 }

pub loop-at-init : goal.loop-at-init
loop-at-init c = (omega arith, omega arith, λ r q. q)

pub returns-in_err-h : goal.returns-in_err-h
returns-in_err-h c =
    let a = c.args in
    let s = a.bytes.now in
    let l = c.loop-at in
    let w = found_unread a.brand s a.end l.branded l.at l.invariant.1 _ (sym c.quick_head.ensures ∙ c.in_err-h.was) in
    rw (handed c.from_residual.ensures.1) (record { right = l.invariant.2 _ w.0; fixed = w.1 })

pub overflow_add-at : goal.overflow_add-at
overflow_add-at c =
    let k = (goal.at.overflow_add-at c).After-opening_flaw in
    let i = inside k in omega arith

pub returns-in-Some : goal.returns-in-Some
returns-in-Some c =
    let k = (goal.at.returns-in-Some c).After-opening_flaw in
    rw c.stop_at.ensures (answer k _ (found_flawed (brand k) (s k) (end k) (branded k) (at k) (here k) (h k) (read k) _ (told k) _ c.in-Some.is, refl))

pub returns-then-h-eq-SIDX : goal.returns-then-h-eq-SIDX
returns-then-h-eq-SIDX c =
    let k = (goal.at.returns-then-h-eq-SIDX c).After-opening_flaw in
    answer k _ (
      found_index (brand k) (s k) (end k) (branded k) (at k) (here k) (h k) (read k) _ (told k) c.in_default.is c.if-h-eq-SIDX.true,
      (c.if-h-eq-SIDX.true, index_here (brand k) (s k) (end k) (branded k) (at k) (here k) (h k) (read k) _ (told k)),
    )

pub opening_box-requires : goal.opening_box-requires
opening_box-requires c =
    let k = (goal.at.opening_box-requires c).After-opening_flaw in (
      box_here (brand k) (s k) (end k) (branded k) (at k) (here k) (h k) (read k) _ (told k) limit c.requires.1,
      styp_long (branded k) (h k) (no_number _ (sym (told k) ∙ c.in_default.is)),
      c.if-h-eq-SIDX.false,
    )

pub returns-in_err-opening_box : goal.returns-in_err-opening_box
returns-in_err-opening_box c =
    let k = (goal.at.returns-in_err-opening_box c).After-opening_flaw in
    let w = found_stopped (brand k) (s k) (end k) (branded k) (at k) (here k) (h k) (read k) _ (told k) c.in_default.is _ c.in_err-opening_box.was c.opening_box.ensures in
    rw (handed c.from_residual-in_err-opening_box.ensures.1) (answer k _ w)

pub overflow_add-at-in-loop-at : goal.overflow_add-at-in-loop-at
overflow_add-at-in-loop-at c =
    let k = (goal.at.overflow_add-at-in-loop-at c).After-opening_flaw in
    let i = inside k in omega arith

pub loop-at-smaller : goal.loop-at-smaller
loop-at-smaller c =
    let k = (goal.at.loop-at-smaller c).After-opening_flaw in
    let i = inside k in omega arith

pub loop-at-preserved : goal.loop-at-preserved
loop-at-preserved c =
    let k = (goal.at.loop-at-preserved c).After-opening_flaw in
    let i = inside k in
    let p = subst (λ (r : Crossed). BoxPassed (opening_body_d (brand k)) (s k) (at k) (h k) r) c.in_ok-opening_box.was c.opening_box.ensures in (
      omega arith,
      p.fixed,
      λ r q. c.loop-at.invariant.2 r
          (found_passed (brand k) (s k) (end k) (branded k) (at k) (here k) (h k) (read k) _ (told k) c.in_default.is p r q),
    )

pub returns : goal.returns
returns c =
    let a = c.args in
    let l = c.loop-at in
    record { right = l.invariant.2 _ (found_none a.brand a.bytes.now a.end l.branded l.at l.invariant.1 (omega arith)); fixed = tt }
