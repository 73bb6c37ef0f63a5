-- The gap from a position to its end, box by box: what is right from a box's end on is right from its start on.
use Prim.Native.Nat.{ℕ, ◌+◌, ◌-◌, ◌≤◌, ◌<◌}
use mathlib.Core.Path.{◌≡◌, refl, ap, sym, ◌∙◌}
use mathlib.Core.List.{List, []}
use mathlib.Core.Bool.{Bool, true, false}
use native.Mathlib.Omega.{arith}
use lib.Dec.{eqb}
use lib.ListN.{length, drop, length-drop}
use borrow.Author.Tests.{eq-eqb, ne_eqb, eqb-true, eqb-false}
use Rattle.fields.specs.declared.Halt.{Halt}
use Rattle.basics.specs.Choose.{pick}
use Rattle.basics.proofs.Picks.{pick_yes, pick_no, pick_both}
use Rattle.machine.specs.Faults.{unless}
use Rattle.machine.specs.Run.{Res, okay, either}
use Rattle.machine.specs.Heads.{box_end}
use Rattle.machine.specs.Lists.{Next, again, over, go_on_d, boxes_d}
use Rattle.machine.specs.declared.Header.{Header}
use Rattle.state.specs.Flow.{Flow, Left, left}
use Rattle.state.specs.Rows.{gap_faults}
use Rattle.state.specs.Stages.{gap_next, gap_boxes}
use Rattle.descent.specs.Opening.{skip_to}
use Rattle.descent.specs.Whole.{gap_d}
use Rattle.fields.specs.Answers.{head_at, stop_at}
use Rattle.fields.specs.Onward.{placed, from, halted}
use Rattle.fields.proofs.Answers.{HeadIn, head_in}
use Rattle.fields.proofs.Lists.{on_box, head_stop}
use Rattle.std.specs.Prelude.{Option, Some, None, Ok, Err}
use Rattle.flaws.specs.Flaws.{flaw_of, numbered}
use Rattle.flaws.proofs.Places.{gap_beyond}
use Rattle.walk_opening.specs.Views.{Crossed, NoLeaves, crossed_d}
use Rattle.walk_opening.proofs.Shown.{gap_placed}
use Rattle.walk_opening.proofs.Headers.{boxes_ended, boxes_stopped, boxes_flawed, boxes_clean}
use Rattle.walk_opening.proofs.Skips.{skip_over, skip_cut}
use Rattle.fields.specs.declared.Halt.TheVariants as halt

abbrev Went : Type 0
Went = Res (Unit {0}) Flow Left

-- a place is the end, and nothing is left, where the position is
same_placed : (base a b : ℕ) → eqb (base + a) (base + b) ≡ eqb a b
same_placed base a b = at (eqb a b) refl
  where
    at : (t : Bool) → eqb a b ≡ t → eqb (base + a) (base + b) ≡ eqb a b
    at true t = eq-eqb (base + a) (base + b) (ap (λ (n : ℕ). base + n) (eqb-true a b t)) ∙ sym t
    at false t = ne_eqb (base + a) (base + b) (λ e. eqb-false a b t (omega arith)) ∙ sym t

none_left : (at end : ℕ) → at ≤ end → eqb at end ≡ eqb (end - at) 0
none_left at end before = go (eqb at end) refl
  where
    go : (t : Bool) → eqb at end ≡ t → eqb at end ≡ eqb (end - at) 0
    go true t = t ∙ sym (eq-eqb (end - at) 0 (omega (arith, eqb-true at end t)))
    go false t = t ∙ sym (ne_eqb (end - at) 0 (λ e. eqb-false at end t (omega arith)))

-- the body of a box of the gap
abbrev gap_body_d : Unit {0} → Header → Flow → ℕ → List ℕ → Went
gap_body_d u h g m cs = skip_to tt (box_end h) g m cs

module _ (s : List ℕ) (end : ℕ) where
  -- the boxes from a position on
  abbrev boxes_at : ℕ → ℕ → ℕ → Flow → Went
  boxes_at base turns at f = boxes_d (gap_boxes (base + end)) gap_body_d turns tt f (base + at) (drop at s)

  -- an answer is right from a position on
  abbrev pub GapFrom : ℕ → Crossed → Type 0
  GapFrom at r =
      (base : ℕ) (f : Flow) (turns : ℕ) → length s - at ≤ turns →
      crossed_d base s end f r ≡ pick (eqb at end) (okay tt f (base + at) (drop at s)) (boxes_at base turns at f)

  -- after a box: the end, or more boxes
  next : (base : ℕ) (f : Flow) (turns m : ℕ) →
      go_on_d (gap_boxes (base + end)) gap_body_d (boxes_d (gap_boxes (base + end)) gap_body_d turns) (gap_next (base + end) (base + m)) f (base + m) (drop m s)
      ≡ pick (eqb m end) (okay tt f (base + m) (drop m s)) (boxes_at base turns m f)
  unfolding gap_next go_on_d unless
  next base f turns m =
      let go : Next (Unit {0}) (Unit {0}) → Went = λ (q : Next (Unit {0}) (Unit {0})).
      go_on_d (gap_boxes (base + end)) gap_body_d (boxes_d (gap_boxes (base + end)) gap_body_d turns) q f (base + m) (drop m s) in
      ap (λ (t : Bool). go (pick t (over tt []) (again tt []))) (same_placed base m end) ∙ pick_both (eqb m end) go (λ r. r) _ _ _ _ refl refl

  -- at its end
  pub gap_over : (at : ℕ) → at ≡ end → GapFrom at (Ok tt)
  unfolding crossed_d halted
  gap_over at e base f turns enough = rw e (sym (pick_yes (eqb end end) _ _ (eq-eqb end end refl)))

  -- before its end
  module _ (at : ℕ) (before : at < end) (here : at ≤ length s) where
    apart : at ≡ end → ⊥
    apart e = omega arith

    in_boxes : (r : Crossed) → ((base : ℕ) (f : Flow) (turns : ℕ) → length s - at ≤ turns → crossed_d base s end f r ≡ boxes_at base turns at f) → GapFrom at r
    in_boxes r g base f turns enough = g base f turns enough ∙ sym (pick_no (eqb at end) _ _ (ne_eqb at end apart))

    -- a header that was not read
    pub gap_unread : (x : Halt) → head_at s at end ≡ Err x → GapFrom at (Err x) × NoLeaves x
    unfolding crossed_d halted
    gap_unread (halt.Bad x) e = (
      in_boxes (Err (halt.Bad x)) (λ base f turns enough.
          sym (boxes_stopped (gap_boxes (base + end)) gap_body_d (λ u. refl) (λ u l n. refl) tt f gap_beyond base s end refl at here turns enough x e)),
      head_stop s at end x e,
    )
    gap_unread halt.Ended e = (
      in_boxes (Err halt.Ended) (λ base f turns enough.
          sym (boxes_ended (gap_boxes (base + end)) gap_body_d (λ u. refl) (λ u l n. refl) tt f gap_beyond base s end refl at here turns enough e)),
      tt,
    )

    -- a header that was read
    module _ (h : Header) (read : head_at s at end ≡ Ok h) (flaw : Option ℕ) (e : flaw ≡ numbered (flaw_of (gap_faults h))) where
      inside : HeadIn s at end h
      inside = head_in s at end h read

      -- it shows a number
      pub gap_flawed : (n : ℕ) → flaw ≡ Some n → GapFrom at (Err (halt.Bad (stop_at n at (at + h.head))))
      unfolding crossed_d halted
      gap_flawed n z =
          in_boxes (Err (halt.Bad (stop_at n at (at + h.head)))) (λ base f turns enough.
          sym (boxes_flawed (gap_boxes (base + end)) gap_body_d (λ u. refl) (λ u l n. refl) tt f gap_beyond base s end refl at here turns enough h read flaw (e ∙ ap numbered (gap_placed base h)) n z))

      module _ (z : flaw ≡ None) where
        clean : (base : ℕ) (f : Flow) (turns : ℕ) → length s - at ≤ turns →
            boxes_at base turns at f ≡ on_box (gap_boxes (base + end)) gap_body_d (turns - 1) tt (from left base s f (gap_body_d tt (placed base h)) (at + h.head))
        clean base f turns enough =
            boxes_clean (gap_boxes (base + end)) gap_body_d (λ u. refl) (λ u l n. refl) tt f gap_beyond base s end refl at here turns enough h read flaw (e ∙ ap numbered (gap_placed base h)) z

        -- its body is cut off
        pub gap_cut : length s < at + h.size → GapFrom at (Err halt.Ended)
        unfolding crossed_d on_box either halted
        gap_cut gone =
            in_boxes (Err halt.Ended) (λ base f turns enough.
            sym (clean base f turns enough
            ∙ ap (on_box (gap_boxes (base + end)) gap_body_d (turns - 1) tt) (skip_cut tt base s f h at inside.pos inside.here inside.holds gone)))

        -- its body is passed
        pub gap_passed : at + h.size ≤ length s → (r : Crossed) → GapFrom (at + h.size) r → GapFrom at r
        unfolding on_box either
        gap_passed there r right =
            in_boxes r (λ base f turns enough.
            right base f (turns - 1) (omega (arith, inside.short, inside.holds))
            ∙ sym (clean base f turns enough
            ∙ ap (on_box (gap_boxes (base + end)) gap_body_d (turns - 1) tt) (skip_over tt base s f h at inside.pos inside.here inside.holds there)
            ∙ next base f (turns - 1) (at + h.size)))

  -- from its start on
  pub gap_start : (at : ℕ) (r : Crossed) → at ≤ end → at ≤ length s → GapFrom at r → (base : ℕ) (f : Flow) → crossed_d base s end f r ≡ gap_d (end - at) f (base + at) (drop at s)
  unfolding gap_d
  gap_start at r before here right base f =
      let all : base + at + (end - at) ≡ base + end = omega arith in
      right base f (length (drop at s)) (omega (arith, length-drop at s))
      ∙ rw all (ap (λ (t : Bool). pick t (okay tt f (base + at) (drop at s)) (boxes_at base (length (drop at s)) at f)) (none_left at end before))
