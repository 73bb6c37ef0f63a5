-- A stage's byte from what its part makes of the byte. The code counts `n + 1` bytes up to the one at hand.
use Rattle.std.specs.Prelude.{Result, Ok, Err}
use Rattle.machine.specs.declared.Step.{Step}
use Rattle.machine.specs.declared.Step.TheVariants as step
use Rattle.machine.specs.declared.Refusal.{Refusal}
use Rattle.state.specs.declared.IndexRead.{IndexRead}
use Prim.Native.Nat.{ℕ, ◌+◌}
use mathlib.Core.Path.{◌≡◌, ap, ◌∙◌}
use mathlib.Core.List.{List}
use native.Mathlib.Numerals.{add-one}
use Rattle.state.specs.declared.Top.{Top}
use Rattle.state.specs.declared.Levels.{Levels}
use Rattle.state.specs.declared.Slot.{Slot}
use Rattle.state.specs.declared.Seen.{Seen}
use Rattle.state.specs.Boxed.{OpeningBoxes}
use Rattle.state.specs.Boxed.{LeafBoxes}
use Rattle.state.specs.declared.Stage.TheVariants as stage
use Rattle.state.specs.Flow.{Flow}
use Rattle.state.specs.Opening.{step_opening}
use Rattle.state.specs.Leaf.{step_leaf}
use Rattle.state.specs.Stages.{lift_leaf, step_stage}
use Rattle.state.specs.Views.{view}
use Rattle.next_stage.specs.declared.Running.{Running}
use Rattle.next_stage.specs.Views.{flowing, StageAnswer, view_stage}
use Rattle.next_stage.specs.Arms.{lift_opening, table_after}

pub opening_step : (brand : ℕ) (s : OpeningBoxes) (f : Flow) (n b : ℕ) → lift_opening brand (n + 1) (step_opening brand s f n b) ≡ step_stage (stage.Opening brand s) f n b
unfolding step_stage
opening_step brand s f n b = ap (λ (m : ℕ). lift_opening brand m (step_opening brand s f n b)) (add-one n)

module _ (top : Top) (ls : Levels) (slot : Slot) (r : Running) (work table : List ℕ) where
  abbrev table_in : Result (Step LeafBoxes Seen) Refusal → List ℕ
  table_in q = table_after r.leaves slot r.now q table

  -- a leaf's byte, with its record put where it is done
  pub leaf_step : (s : LeafBoxes) (n b : ℕ) (q : Result (Step LeafBoxes Seen) Refusal) (table' : List ℕ) (p : StageAnswer) → table' ≡ table_in q →
      view_stage r.leaves work (table_in q) p ≡ lift_leaf top ls slot (view (flowing r work table) q) →
      view (flowing r work table) q ≡ step_leaf top.id slot s (flowing r work table) n b →
      view_stage r.leaves work table' p ≡ step_stage (stage.Leaf top ls slot s) (flowing r work table) n b
  unfolding step_stage
  leaf_step s n b q table' p e k l = ap (λ (t : List ℕ). view_stage r.leaves work t p) e ∙ k ∙ ap (lift_leaf top ls slot) l
