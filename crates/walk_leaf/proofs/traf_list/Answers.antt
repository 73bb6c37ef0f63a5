-- `walk_leaf::traf_list` meets its contract, by those of `quick_head`, `traf_flaw`, `flaw_stop`, `track_box` and `stop_at`. The loop's invariant: what is right
-- for the boxes from here on is right for all of them. The measure is what is left of the `traf`. The laws are those of `Trafs`.
use Prim.Native.Nat.{ℕ, ◌+◌, ◌≤◌, ◌<◌}
use mathlib.Core.Path.{◌≡◌, refl, ap, sym, ◌∙◌}
use mathlib.Core.List.{List}
use native.Mathlib.Omega.{arith}
use lib.ListN.{length}
use Rattle.std.specs.Prelude.{Result, Ok, None}
use Rattle.machine.specs.declared.Header.{Header}
use Rattle.state.specs.declared.Seen.{Seen}
use Rattle.state.specs.declared.TrafSo.{TrafSo}
use Rattle.state.specs.Rows.{traf_faults}
use Rattle.fields.specs.Answers.{head_at}
use Rattle.fields.specs.declared.Halt.{Halt}
use Rattle.fields.proofs.Answers.{head_in, handed}
use Rattle.reader.proofs.Skips.{skip_here, skip_gone}
use Rattle.flaws.specs.Flaws.{flaw_of, numbered}
use Rattle.flaws.proofs.Numbered.{some_number, no_number}
use Rattle.flaws.proofs.Places.{traf_beyond}
use Rattle.walk_leaf.specs.Walks.{Headed, WalkFixed, TrackWalked, flaw_stop, TrafWalked}
use Rattle.walk_leaf.proofs.Loops.{head_fixed, head_headed, stays_fixed, over_fixed, halt_fixed}
use Rattle.walk_leaf.proofs.Trafs.{TrafFrom, traf_head, traf_flawed, traf_stays, traf_over, traf_lacks, traf_ends_lem, flaw_few, flaw_stop_in, traf_walked}
use Rattle.walk_leaf.proofs.Tracks.{unknown, other_passed, other_cut}
use Rattle.walk_leaf.proofs.traf_list.Goals.{In_ok-h, then-is_known+in_ok-so, else-is_known+in_ok-skip_to}
use Rattle.walk_leaf.proofs.traf_list.Goals as goal

-- past a header that was read
module _ (c : In_ok-h) where
  abbrev s : List ℕ
  s = c.args.bytes.now

  abbrev id : ℕ
  id = c.args.id

  abbrev pos : ℕ
  pos = c.args.pos

  abbrev end : ℕ
  end = c.args.end

  abbrev at : ℕ
  at = c.loop-at.at

  abbrev so : TrafSo
  so = c.loop-at.so

  abbrev h : Header
  h = c.in_ok-h.h

  read : head_at s at end ≡ Ok h
  read = sym c.quick_head.ensures ∙ c.in_ok-h.was

  headed : Headed s at h
  headed = head_headed s at end c.requires.2 read

  within : at + h.size ≤ end
  within = (head_in s at end h read).within

  here : at ≤ length s
  here = c.loop-at.invariant.2

  before : at < end
  before = c.loop-at-test.true

  -- what is right from here on is right for the `traf`
  whole : (r : Result Seen Halt) → TrafFrom id s pos end at so r → WalkFixed s end r → TrafWalked s id pos c.args.from end c.args.seen r
  whole r d g = traf_walked id s pos _ end _ r (c.loop-at.invariant.3 r d) g

  -- a box that was passed, and what is then known
  abbrev Passed : TrafSo → Type 0
  Passed next = (at + h.size ≤ length s) × ((r : Result Seen Halt) → TrafFrom id s pos end (at + h.size) next r → TrafFrom id s pos end at so r)

  passed : {r : Result TrafSo Halt} {next : TrafSo} → numbered (flaw_of (traf_faults so.track h)) ≡ None → TrackWalked s id at h so r → r ≡ Ok next → Passed next
  passed none walked e = (
    over_fixed s _ e walked.fixed,
    λ r d. traf_over id s pos end at so here before read headed (no_number _ none) walked e r d,
  )

pub loop-at-init : goal.loop-at-init
loop-at-init c = (omega arith, c.requires.1, c.requires.3, λ r d. d)

pub returns-in_err-h : goal.returns-in_err-h
returns-in_err-h c =
    let l = c.loop-at in
    let a = c.args in
    let s = a.bytes.now in
    let e = sym c.quick_head.ensures ∙ c.in_err-h.was in
    rw (handed c.from_residual.ensures.1)
    (traf_walked a.id s a.pos a.from a.end a.seen _
    (l.invariant.3 _ (traf_head a.id s a.pos a.end l.at l.so l.invariant.2 c.loop-at-test.true _ e))
    (head_fixed s l.at a.end c.loop-at-test.true _ e))

pub flaw_stop-requires : goal.flaw_stop-requires
flaw_stop-requires c =
    let k = (goal.at.flaw_stop-requires c).In_ok-h in
    let long = (headed k).long in
    let w = within k in
    omega arith

pub returns-in-Some : goal.returns-in-Some
returns-in-Some c =
    let k = (goal.at.returns-in-Some c).In_ok-h in
    let flaw = flaw_of (traf_faults (so k).track (h k)) in
    let shown = some_number flaw _ (sym c.traf_flaw.ensures ∙ c.in-Some.is) in
    let told = c.flaw_stop.ensures ∙ ap (λ (n : ℕ). flaw_stop n (so k).track (pos k) (at k) (end k) (at k + (h k).head)) (sym shown.0) in
    let w = within k in
    let b = before k in
    let holds = (headed k).holds in
    rw told (whole k _ (traf_flawed (id k) (s k) (pos k) (end k) (at k) (so k) (here k) b (read k) (headed k) shown.1)
    (flaw_stop_in flaw (so k).track (pos k) (at k) (end k) (at k + (h k).head) (flaw_few (h k).pos _ (traf_beyond (so k).track (h k))) (omega arith) (omega arith) (omega arith)))

pub track_box-requires : goal.track_box-requires
track_box-requires c =
    let k = (goal.at.track_box-requires c).In_ok-h in
    (headed k, no_number _ (sym c.traf_flaw.ensures ∙ c.in_default.is))

pub returns-in_err-so : goal.returns-in_err-so
returns-in_err-so c =
    let k = (goal.at.returns-in_err-so c).In_ok-h in
    rw (handed c.from_residual-in_err-so.ensures.1)
    (whole k _
    (traf_stays (id k) (s k) (pos k) (end k) (at k) (so k) (here k) (before k) (read k) (headed k) (no_number _ (sym c.traf_flaw.ensures ∙ c.in_default.is))
    c.track_box.ensures _ c.in_err-so.was)
    (stays_fixed _ (end k) (within k) _ (halt_fixed (s k) _ c.in_err-so.was c.track_box.ensures.fixed)))

pub returns-in_err-skip_to : goal.returns-in_err-skip_to
returns-in_err-skip_to c =
    let k = (goal.at.returns-in_err-skip_to c).In_ok-h in
    let u = unknown (h k).kind (sym c.is_known.ensures ∙ c.if-is_known.false) in
    let gone = skip_gone (s k) _ (sym c.skip_to.ensures ∙ c.in_err-skip_to.was) in
    let cut = other_cut (id k) (so k) (s k) (at k) (h k) (headed k) u.0 u.1 gone.1 in
    rw (handed c.from_residual-in_err-skip_to.ensures.1, gone.0)
    (whole k _
    (traf_stays (id k) (s k) (pos k) (end k) (at k) (so k) (here k) (before k) (read k) (headed k) (no_number _ (sym c.traf_flaw.ensures ∙ c.in_default.is))
    cut _ refl)
    tt)

pub overflow_add-at-in-loop-at : goal.overflow_add-at-in-loop-at
overflow_add-at-in-loop-at c =
    let k = (goal.at.overflow_add-at-in-loop-at c).In_ok-h in
    let w = within k in
    let far = (headed k).far in
    let holds = (headed k).holds in
    omega arith

pub overflow_add-at : goal.overflow_add-at
overflow_add-at c =
    let k = (goal.at.overflow_add-at c).In_ok-h in
    let w = within k in
    let far = (headed k).far in
    let holds = (headed k).holds in
    omega arith

pub loop-at-smaller : goal.loop-at-smaller
loop-at-smaller c =
    let k = (goal.at.loop-at-smaller c).In_ok-h in
    let w = within k in
    let b = before k in
    let some = (headed k).short in
    let holds = (headed k).holds in
    omega arith

pub loop-at-preserved : goal.loop-at-preserved
loop-at-preserved c =
    let k = (goal.at.loop-at-preserved c).In_ok-h in
    let l = c.loop-at in
    let w = within k in
    let on = l.invariant.0 in
    let p : Passed k c.if-is_known.so =
    elim c.if-is_known.branch [
      | then-is_known+in_ok-so w ↦ rw w.so-is (passed k (sym c.traf_flaw.ensures ∙ c.in_default.is) w.track_box.ensures w.in_ok-so.was)
      | else-is_known+in_ok-skip_to w ↦
          let u = unknown (h k).kind (sym c.is_known.ensures ∙ w.if-is_known.false) in
          let there = skip_here (s k) _ (sym w.skip_to.ensures ∙ w.in_ok-skip_to.was) in
          rw w.so-is (passed k (sym c.traf_flaw.ensures ∙ c.in_default.is) (other_passed (id k) (so k) (s k) (at k) (h k) (headed k) u.0 u.1 there) refl)
    ] in
    (omega arith, omega arith, p.0, λ r d. l.invariant.3 r (p.1 r d))

pub returns-then-not-is_timed : goal.returns-then-not-is_timed
returns-then-not-is_timed c =
    let l = c.loop-at in
    let a = c.args in
    let s = a.bytes.now in
    let q : l.at ≡ a.end = omega arith in
    rw c.stop_at.ensures
    (traf_walked a.id s a.pos a.from a.end a.seen _
    (l.invariant.3 _ (rw q (traf_lacks a.id s a.pos a.end l.so (sym c.is_timed.ensures ∙ c.if-not-is_timed.true))))
    (record { none = refl; low = omega arith; place = omega arith; count = omega arith }))

pub returns : goal.returns
returns c =
    let l = c.loop-at in
    let a = c.args in
    let s = a.bytes.now in
    let q : l.at ≡ a.end = omega arith in
    traf_walked a.id s a.pos a.from a.end a.seen _
    (l.invariant.3 _ (rw q (traf_ends_lem a.id s a.pos a.end l.so (sym c.is_timed.ensures ∙ c.if-not-is_timed.false))))
    (omega arith)
