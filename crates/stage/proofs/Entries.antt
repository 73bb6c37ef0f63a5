-- An entry's first byte, and the first box of an index entry.
use Rattle.std.specs.Prelude.{Result, Ok, Err, Option, Some, None}
use Rattle.machine.specs.declared.Step.{Step}
use Rattle.machine.specs.declared.Step.TheVariants as step
use Rattle.machine.specs.declared.Refusal.{Refusal}
use Rattle.state.specs.declared.IndexRead.{IndexRead}
use Prim.Native.Nat.{ℕ, ◌≤◌, ◌<◌}
use mathlib.Core.Path.{◌≡◌, refl, ap, sym, subst, ◌∙◌}
use mathlib.Core.List.{List, [], ◌∷◌, ◌++◌}
use mathlib.Core.Bool.{Bool}
use native.Mathlib.Omega.{arith}
use Rattle.machine.specs.Faults.{refusal, shows, lowest, unless}
use Rattle.machine.specs.Run.{Sub, bad}
use Rattle.machine.specs.Lists.{step_box}
use Rattle.machine.specs.declared.Head.TheVariants as at
use Rattle.state.specs.declared.Top.{Top}
use Rattle.state.specs.declared.Level.{Level}
use Rattle.state.specs.declared.Levels.{Levels}
use Rattle.state.specs.declared.Slot.{Slot}
use Rattle.state.specs.declared.InnerBox.{InnerBox}
use Rattle.state.specs.declared.InnerBox.TheVariants as inners
use Rattle.machine.specs.declared.BoxesSo.TheVariants as inBoxes
use Rattle.state.specs.declared.Stage.{Stage}
use Rattle.state.specs.declared.Stage.TheVariants as stage
use Rattle.state.specs.Flow.{Flow, Left, left}
use Rattle.state.specs.Leaf.{leaf_so0}
use Rattle.state.specs.Levels.{entry_at, entry_place, inmost, depth, took_entry}
use Rattle.state.specs.Ranges.{at_most, below, Within, opening_bounds, gap_bounds, top_bounds, level_bounds, levels_bounds, slot_bounds, inner_bounds, leaf_bounds, head_bounds, stage_bounds}
use Rattle.state.specs.Stages.{inner_kind, lift_inner, step_slot, step_entry, step_stage}
use Rattle.inner.specs.Views.{inner_phase, view_inner, box_bounds}
use Rattle.state.specs.Calls.{flow_of}
use Rattle.state.specs.Boxed.{OpeningBoxes}
use Rattle.state.specs.declared.GapBoxes.{GapBoxes}
use Rattle.state.specs.Boxed.{LeafBoxes}
use Rattle.state.proofs.RangeTests.{within_second, three_within, four_within}
use Rattle.levels.specs.Views.{read_of}
use Rattle.levels.proofs.Chosen.{chosen, altered_told}
use Rattle.next_stage.specs.declared.Running.{Running}
use Rattle.next_stage.specs.Views.{flowing, StageAnswer, view_stage}

pub inner_within : (ls : Levels) (d : ℕ) (s : InnerBox) → d ≡ depth ls → Within (inner_bounds ls s) → Within (box_bounds d s)
unfolding inner_bounds box_bounds
inner_within ls d (inners.Head h) e w = w
inner_within ls d (inners.Body span s) e w = rw e w

module _ (top : Top) (ls : Levels) (f : Flow) (n b : ℕ) where
  pub inner_step : (slot : Slot) (d : ℕ) (s : InnerBox) → d ≡ depth ls → lift_inner top ls slot (step_box (inner_kind top slot d) (inner_phase s) f n b) ≡ step_stage (stage.Inner top ls slot s) f n b
  unfolding step_stage
  inner_step slot d (inners.Head h) e = ap (λ (k : ℕ). lift_inner top ls slot (step_box (inner_kind top slot k) (inner_phase (inners.Head h)) f n b)) e
  inner_step slot d (inners.Body span s) e = ap (λ (k : ℕ). lift_inner top ls slot (step_box (inner_kind top slot k) (inner_phase (inners.Body span s)) f n b)) e

module _ (top : Top) (ls : Levels) (f : Flow) (n b : ℕ) (r : Option (Bool × Slot)) (k : r ≡ read_of (inmost ls) (entry_at f.work (entry_place ls)) f.now n) where
  -- an entry that is not what its index stored
  pub entry_altered : r ≡ None → bad (refusal 12 n) (left f) ≡ step_stage (stage.Entry top ls) f n b
  unfolding step_stage step_entry shows unless lowest
  entry_altered e = rw (altered_told _ _ _ (sym k ∙ e))

  -- one that may be
  pub entry_stands : (inner : Bool) (slot : Slot) (taken : Levels) → r ≡ Some (inner, slot) → taken ≡ took_entry ls →
      step_slot top taken inner slot f n b ≡ step_stage (stage.Entry top ls) f n b
  unfolding step_stage step_entry shows unless
  entry_stands inner slot taken e q = let c = chosen _ _ _ _ _ (sym k ∙ e) in rw (q, sym c.1, sym c.2, c.0)

  pub entry_until : (inner : Bool) (slot : Slot) → r ≡ Some (inner, slot) → f.now ≤ slot.until
  entry_until inner slot e = let c = chosen _ _ _ _ _ (sym k ∙ e) in omega (arith, ap (λ (s : Slot). s.until) c.2)

pub leaf_first : (last : ℕ) → Within (leaf_bounds (inBoxes.Head (leaf_so0 last) at.First))
unfolding leaf_bounds head_bounds
leaf_first last = tt

pub inner_first : (ls : Levels) → Within (inner_bounds ls (inners.Head at.First))
unfolding inner_bounds head_bounds
inner_first ls = tt

-- what a byte of the first box makes of the stage
module _ (top : Top) (ls : Levels) (slot : Slot) where
  pub inner_law : (r : Running) (s : InnerBox) (n b d : ℕ) (work work' : List ℕ) (q : Result (Step InnerBox IndexRead) Refusal) (p : StageAnswer) → d ≡ depth ls →
      ((w t : List ℕ) → view_stage r.leaves w t p ≡ lift_inner top ls slot (view_inner (flowing r w t) q)) →
      ((leaves last : ℕ) (table : List ℕ) → view_inner (flow_of leaves r.now last work' table) q ≡ step_box (inner_kind top slot d) (inner_phase s) (flow_of leaves r.now last work table) n b) →
      (table : List ℕ) → view_stage r.leaves work' table p ≡ step_stage (stage.Inner top ls slot s) (flowing r work table) n b
  inner_law r s n b d work work' q p e k l table =
      k work' table ∙ ap (lift_inner top ls slot) (l r.leaves r.last table) ∙ inner_step top ls (flowing r work table) n b slot d s e

-- a stage by another name
pub stage_as : (s t : Stage) (f : Flow) (n b : ℕ) (x : Sub Stage Top Flow Left) → s ≡ t → x ≡ step_stage t f n b → x ≡ step_stage s f n b
stage_as s t f n b x e k = k ∙ ap (λ (q : Stage). step_stage q f n b) (sym e)

-- the ranges of each stage's own part
module _ (q : Stage) (t : ℕ) where
  pub opening_within : (brand : ℕ) (s : OpeningBoxes) → q ≡ stage.Opening brand s → Within (stage_bounds q t) → Within (opening_bounds s)
  unfolding stage_bounds
  opening_within brand s e w = subst (λ (x : Stage). Within (stage_bounds x t)) e w

  pub gap_within : (top : Top) (l : Level) (end : ℕ) (s : GapBoxes) → q ≡ stage.Gap top l end s → Within (stage_bounds q t) → Within (gap_bounds s)
  unfolding stage_bounds
  gap_within top l end s e w =
      within_second (top_bounds top ++ (level_bounds l ++ (at_most t l.until ∷ []))) (gap_bounds s) (subst (λ (x : Stage). Within (stage_bounds x t)) e w)

  pub entry_within : (top : Top) (ls : Levels) → q ≡ stage.Entry top ls → Within (stage_bounds q t) →
      Within (levels_bounds ls) × ((inmost ls).next < (inmost ls).count) × (t ≤ (inmost ls).until)
  unfolding stage_bounds
  entry_within top ls e w =
      let v = three_within (top_bounds top) (levels_bounds ls) (below (inmost ls).next (inmost ls).count ∷ at_most t (inmost ls).until ∷ []) (subst (λ (x : Stage). Within (stage_bounds x t)) e w) in
      (v.1, v.2.0, v.2.1.0)

  pub leaf_within : (top : Top) (ls : Levels) (slot : Slot) (s : LeafBoxes) → q ≡ stage.Leaf top ls slot s → Within (stage_bounds q t) → Within (leaf_bounds s)
  unfolding stage_bounds
  leaf_within top ls slot s e w =
      let v = four_within (top_bounds top) (levels_bounds ls) (slot_bounds ls slot t) (leaf_bounds s) (subst (λ (x : Stage). Within (stage_bounds x t)) e w) in v.3

  pub inner_around : (top : Top) (ls : Levels) (slot : Slot) (s : InnerBox) → q ≡ stage.Inner top ls slot s → Within (stage_bounds q t) → (t ≤ slot.until) × Within (inner_bounds ls s)
  unfolding stage_bounds
  inner_around top ls slot s e w =
      let v = four_within (top_bounds top) (levels_bounds ls) (slot_bounds ls slot t) (inner_bounds ls s) (subst (λ (x : Stage). Within (stage_bounds x t)) e w) in
      (v.2.1.0, v.3)
