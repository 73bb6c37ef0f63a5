-- The leap over the boxes up to the end of the top index, from any of them on, and over the gap.
use Prim.Native.Nat.{ℕ, suc, ◌-◌, ◌≤◌}
use mathlib.Core.Path.{◌≡◌, refl, sym, ◌∙◌}
use mathlib.Core.List.{List}
use mathlib.Core.Bool.{Bool}
use lib.ListN.{length, take}
use Rattle.segment.specs.Constants.{limit}
use Rattle.machine.specs.Run.{Res, okay, fail, bad}
use Rattle.machine.specs.Lists.{boxes_d}
use Rattle.machine.specs.declared.Refusal.{Refusal}
use Rattle.machine.specs.declared.Head.TheVariants as at
use Rattle.state.specs.declared.IndexRead.{IndexRead}
use Rattle.machine.specs.declared.BoxesSo.TheVariants as inBoxes
use Rattle.state.specs.declared.Stage.TheVariants as stage
use Rattle.state.specs.Flow.{Flow, Left}
use Rattle.state.specs.Opening.{opening, step_opening}
use Rattle.state.specs.Stages.{index_ends, step_stage}
use Rattle.state.specs.Step.{World, reading, refused, settle, step_all}
use Rattle.descent.specs.Opening.{opening_body_d}
use Rattle.law_d.proofs.OpeningRun.{opening_from}
use Rattle.law_leap.proofs.Leaps.{to_result, to_refusal}

module _ (brand : ℕ) (branded : Bool) (f : Flow) (n : ℕ) (bs : List ℕ) where
  -- the boxes up to the end of the top index, by structure
  abbrev pub opened : Res IndexRead Flow Left
  opened = boxes_d (opening brand) (λ b. opening_body_d brand) (suc (length bs)) branded f n bs

  abbrev before : World
  before = reading n (stage.Opening brand (inBoxes.Head branded at.First)) f

  pub opening_passed : (x : IndexRead) (g : Flow) (m : ℕ) (cs : List ℕ) → opened ≡ okay x g m cs → m ≤ limit →
      step_all before (take (m - n) bs) ≡ settle m (index_ends x g m)
  unfolding step_stage
  opening_passed x g m cs e low =
      to_result (step_opening brand) (stage.Opening brand) (λ m' x' g'. index_ends x' g' m') (λ m'. bad) (λ s f' n' b. refl)
      bs (inBoxes.Head branded at.First) f n x g m cs (sym (opening_from brand branded f n bs) ∙ e) low

  pub opening_refused : (x : Refusal) (l : Left) (m : ℕ) → opened ≡ fail x l m → m ≤ limit → step_all before (take (m - n) bs) ≡ refused m x l
  unfolding step_stage settle
  opening_refused x l m e low =
      to_refusal (step_opening brand) (stage.Opening brand) (λ m' x' g'. index_ends x' g' m') (λ m'. bad) (λ s f' n' b. refl)
      bs (inBoxes.Head branded at.First) f n x l m (sym (opening_from brand branded f n bs) ∙ e) low
