-- The boxes from a position up to the header of the top index, box by box: what is right from a box's end on is right from its start on.
use Prim.Native.Nat.{ℕ, ◌+◌, ◌-◌, ◌≤◌}
use mathlib.Core.Path.{◌≡◌, refl, ap, sym, subst, ◌∙◌}
use mathlib.Core.List.{List}
use mathlib.Core.Bool.{Bool, true, false}
use native.Mathlib.Omega.{arith}
use lib.Dec.{eqb, leb}
use lib.ListN.{length, drop}
use borrow.Author.Tests.{eq-eqb, le-leb}
use Rattle.fields.specs.declared.Halt.{Halt}
use Rattle.basics.proofs.Picks.{pick_yes, pick_no}
use Rattle.segment.specs.Constants.{limit, styp, sidx}
use Rattle.machine.specs.Faults.{lowest, unless}
use Rattle.machine.specs.Run.{Res, okay, fail, either, after}
use Rattle.machine.specs.Lists.{go_on_d, boxes_d}
use Rattle.machine.specs.declared.Header.{Header}
use Rattle.machine.proofs.Runs.{either_after, either_cong, after_okay}
use Rattle.state.specs.declared.IndexRead.{IndexRead}
use Rattle.state.specs.Flow.{Flow, Left, left}
use Rattle.state.specs.Rows.{opening_faults}
use Rattle.state.specs.Sidx.{topmost}
use Rattle.state.specs.Opening.{OpeningGave, indexed, span_of, close_opening, opening}
use Rattle.descent.specs.Sidx.{sidx_d}
use Rattle.descent.specs.Opening.{opening_body_d}
use Rattle.fields.specs.Answers.{head_at, stop_at}
use Rattle.fields.specs.Onward.{placed, from, halted}
use Rattle.fields.proofs.Answers.{HeadIn, head_in}
use Rattle.fields.proofs.Lists.{on_box, head_stop}
use Rattle.std.specs.Prelude.{Option, Some, None, Ok, Err}
use Rattle.flaws.specs.Flaws.{flaw_of, numbered}
use Rattle.flaws.proofs.Places.{opening_beyond}
use Rattle.walk_opening.specs.Views.{Crossed, NoLeaves, crossed_d}
use Rattle.walk_opening.specs.Steps.{Found, BoxHere, BoxPassed, found_d, FoundFrom}
use Rattle.walk_opening.proofs.Shown.{opening_placed}
use Rattle.walk_opening.proofs.Headers.{boxes_ended, boxes_stopped, boxes_flawed, boxes_clean}
use Rattle.fields.specs.declared.Halt.TheVariants as halt

abbrev Opened : Type 0
Opened = Res IndexRead Flow Left

abbrev Gave : Type 0
Gave = Res OpeningGave Flow Left

-- a position where no byte is left
past : (s : List ℕ) (at end : ℕ) → length s ≤ at → head_at s at end ≡ Err halt.Ended
unfolding head_at
past s at end none = pick_yes (leb (length s) at) _ _ (le-leb _ _ none)

module _ (brand : ℕ) (s : List ℕ) (end : ℕ) where
  abbrev body_d : Bool → Header → Flow → ℕ → List ℕ → Gave
  body_d b = opening_body_d brand

  -- the boxes from a position on
  abbrev boxes_at : ℕ → ℕ → Bool → ℕ → Flow → Opened
  boxes_at base turns branded at f = boxes_d (opening brand) body_d turns branded f (base + at) (drop at s)

  -- what the list makes of a box's answer
  abbrev Onto : ℕ → Bool → Gave → Opened
  Onto turns branded = on_box (opening brand) body_d turns branded

  -- the top index ends the list, with what it gave
  index_last : (turns : ℕ) (branded : Bool) (r : Res IndexRead Flow Left) → Onto turns branded (after r (λ x g m cs. okay (indexed x) g m cs)) ≡ r
  unfolding on_box either close_opening go_on_d unless lowest
  index_last turns branded r =
      either_after r (λ x g m cs. okay (indexed x) g m cs) _ _
      ∙ either_cong r _ okay _ fail (λ x g m cs e. refl) (λ x l m e. refl)
      ∙ after_okay r

  module _ (branded : Bool) (at : ℕ) (here : at ≤ length s) where
    -- no byte is left
    pub found_none : length s ≤ at → FoundFrom brand branded s at end (Err halt.Ended)
    unfolding found_d halted
    found_none none base f turns all enough =
        sym (boxes_ended (opening brand) body_d (λ b. refl) (λ b l n. refl) branded f (opening_beyond branded) base s end (sym all) at here turns enough (past s at end none))

    -- a header that was not read
    pub found_unread : (x : Halt) → head_at s at end ≡ Err x → FoundFrom brand branded s at end (Err x) × NoLeaves x
    unfolding found_d halted
    found_unread (halt.Bad x) e = (
      λ base f turns all enough.
          sym (boxes_stopped (opening brand) body_d (λ b. refl) (λ b l n. refl) branded f (opening_beyond branded) base s end (sym all) at here turns enough x e),
      head_stop s at end x e,
    )
    found_unread halt.Ended e = (
      λ base f turns all enough.
          sym (boxes_ended (opening brand) body_d (λ b. refl) (λ b l n. refl) branded f (opening_beyond branded) base s end (sym all) at here turns enough e),
      tt,
    )

    -- a header that was read
    module _ (h : Header) (read : head_at s at end ≡ Ok h) (flaw : Option ℕ) (e : flaw ≡ numbered (flaw_of (opening_faults branded h))) where
      inside : HeadIn s at end h
      inside = head_in s at end h read

      stopped_so : {r : Crossed} {x : Halt} → r ≡ Err x → BoxPassed (opening_body_d brand) s at h r → BoxPassed (opening_body_d brand) s at h (Err x)
      stopped_so e p = subst (λ (w : Crossed). BoxPassed (opening_body_d brand) s at h w) e p

      -- it shows a number
      pub found_flawed : (n : ℕ) → flaw ≡ Some n → FoundFrom brand branded s at end (Err (halt.Bad (stop_at n at (at + h.head))))
      unfolding found_d halted
      found_flawed n z base f turns all enough =
          sym (boxes_flawed (opening brand) body_d (λ b. refl) (λ b l n. refl) branded f (opening_beyond branded) base s end (sym all) at here turns enough h read
          flaw (e ∙ ap numbered (opening_placed base h branded)) n z)

      module _ (z : flaw ≡ None) where
        clean : (base : ℕ) (f : Flow) (turns : ℕ) → base + end ≡ limit → length s - at ≤ turns →
            boxes_at base turns branded at f ≡ Onto (turns - 1) branded (from left base s f (opening_body_d brand (placed base h)) (at + h.head))
        clean base f turns all enough =
            boxes_clean (opening brand) body_d (λ b. refl) (λ b l n. refl) branded f (opening_beyond branded) base s end (sym all) at here turns enough h read
            flaw (e ∙ ap numbered (opening_placed base h branded)) z

        -- it is the top index
        pub found_index : h.kind ≡ sidx → FoundFrom brand branded s at end (Ok h)
        unfolding found_d opening_body_d halted
        found_index k base f turns all enough =
            let index : ℕ → Opened = λ (p : ℕ). from left base s f (sidx_d topmost (span_of (placed base h))) (p + h.head) in
            let other : eqb h.kind styp ≡ false = rw k refl in
            ap index inside.pos
            ∙ sym (clean base f turns all enough
            ∙ ap (Onto (turns - 1) branded) (pick_no (eqb h.kind styp) _ _ other ∙ pick_yes (eqb h.kind sidx) _ _ (eq-eqb h.kind sidx k))
            ∙ index_last (turns - 1) branded (index at))

        -- its box is refused, or cut off
        pub found_stopped : {r : Crossed} (x : Halt) → r ≡ Err x → BoxPassed (opening_body_d brand) s at h r → FoundFrom brand branded s at end (Err x) × NoLeaves x
        unfolding found_d crossed_d halted on_box either lowest
        found_stopped {r} (halt.Bad x) e p = let q = stopped_so e p in
            (λ base f turns all enough. sym (clean base f turns all enough ∙ ap (Onto (turns - 1) branded) (sym (q.right base f))), q.fixed)
        found_stopped {r} halt.Ended e p = let q = stopped_so e p in
            (λ base f turns all enough. sym (clean base f turns all enough ∙ ap (Onto (turns - 1) branded) (sym (q.right base f))), tt)

        -- its box is passed
        pub found_passed : BoxPassed (opening_body_d brand) s at h (Ok tt) → (r : Found) → FoundFrom brand true s (at + h.size) end r → FoundFrom brand branded s at end r
        unfolding crossed_d on_box either close_opening go_on_d unless
        found_passed p r right base f turns all enough =
            right base f (turns - 1) all (omega (arith, inside.short, inside.holds))
            ∙ sym (clean base f turns all enough ∙ ap (Onto (turns - 1) branded) (sym (p.right base f)))

      -- what its box needs, and what is known of the top index
      pub box_here : (most : ℕ) → end ≤ most → BoxHere s at most h
      box_here most small = record { pos = inside.pos; small = inside.long; holds = inside.holds; within = omega (arith, inside.within); here = inside.here }

      pub index_here : BoxHere s h.pos end h
      index_here =
          let i = inside in
          record { pos = refl; small = i.long; holds = i.holds; within = omega arith; here = omega arith }
