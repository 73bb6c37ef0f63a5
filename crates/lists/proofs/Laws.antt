-- The laws of a list of boxes, told of the code's answers: what its header shows; and that it goes on with the header of its next box, or is over.
use Prim.Native.Nat.{ℕ, ◌+◌}
use mathlib.Core.Path.{◌≡◌, refl, ap, sym, ◌∙◌}
use mathlib.Core.List.{[], ◌∷◌}
use Rattle.machine.specs.Faults.{unless}
use mathlib.Core.Bool.{Bool, true, false}
use Rattle.basics.specs.Choose.{pick}
use Rattle.machine.specs.declared.Step.{Step}
use Rattle.machine.specs.declared.Step.TheVariants as step
use Rattle.state.specs.Views.{view_as}
use Rattle.machine.specs.Run.{go, done, bad, lift}
use Rattle.machine.specs.Heads.{size_faults, step_head}
use Rattle.machine.specs.Lists.{Kind, faults_of, Next, again, over, Boxes, go_on, in_head, step_boxes}
use Rattle.machine.specs.declared.Head.{Head}
use Rattle.header.specs.Views.{after_head}
use Rattle.header.proofs.Lists.{head_step}
use Rattle.machine.specs.declared.Header.{Header}
use Rattle.machine.proofs.Kept.{Each}
use Rattle.std.specs.Prelude.{Option, Ok}
use Rattle.std.specs.Option.{option_or}
use Rattle.flaws.specs.Flaws.{flaw_of, numbered}
use Rattle.flaws.proofs.Flaws.{Beyond}
use Rattle.flaws.proofs.Numbered.{size_or}
use Rattle.state.specs.Flow.{Flow, Left, left}
use Rattle.lists.specs.Listed.{boxed, next_head, on_from}

module _ {A B R Q : Type 0} (l : Boxes A B R Q Flow Left) (f : Flow) (kept : l.kept ≡ left) where
  pub goes : (x : Next A Q) → lift next_head done bad (on_from x f) ≡ go_on l boxed x f
  unfolding lift on_from go_on unless
  goes (again a []) = refl
  goes (again a (y ∷ ys)) = rw kept refl
  goes (over q []) = refl
  goes (over q (y ∷ ys)) = rw kept refl

-- what a header shows, by its size and beyond it
pub all_told : {B R : Type 0} (k : Kind B R Flow Left) (end : ℕ) (h : Header) (f : Flow) (by_size beyond all : Option ℕ) → Each (Beyond h.pos) (k.shown h f) → end ≡ k.end →
    by_size ≡ numbered (flaw_of (size_faults end h)) → beyond ≡ numbered (flaw_of (k.shown h f)) → all ≡ option_or by_size beyond → all ≡ numbered (flaw_of (faults_of k h f))
all_told k end h f by_size beyond all g e p q r = rw (r, p, q, e, size_or k.end h (k.shown h f) g) refl

-- one byte of a header, told where its container ends
module _ {A B R Q : Type 0} (l : Boxes A B R Q Flow Left) (a : A) (f : Flow) (n b : ℕ) where
  pub head_told : (end : ℕ) (h : Head) → end ≡ (l.box a).end → (l.box a).left ≡ left →
      after_head l boxed a (n + 1) (step_head left end h f n b) ≡ step_boxes l boxed a (in_head h) f n b
  head_told end h e kept =
      ap (λ (m : ℕ). after_head l boxed a (n + 1) (step_head left m h f n b)) e
      ∙ ap (λ (k : Flow → Left). after_head l boxed a (n + 1) (step_head k (l.box a).end h f n b)) (sym kept)
      ∙ head_step l boxed a f n b h

-- a body that is skipped, as the machine says it
pub skipped : {S R Q : Type 0} (gave : R → Q) (f : Flow) (t : Bool) (skip : S) (gives : R) (r : Step S R) → r ≡ pick t (step.Done gives) (step.Going skip) →
    view_as gave f (Ok r) ≡ pick t (done (gave gives) f) (go skip f)
unfolding pick
skipped gave f true skip gives r e = rw e refl
skipped gave f false skip gives r e = rw e refl
