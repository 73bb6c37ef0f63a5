-- What follows the top index, a leaf that is listed, and a byte of the first box of an index entry.
use Prim.Native.Nat.{ℕ, ◌+◌}
use mathlib.Core.Path.{◌≡◌, refl, ap, sym, ◌∙◌}
use mathlib.Core.List.{List}
use native.Mathlib.Numerals.{add-one}
use borrow.Author.Tests.{eq-eqb, ne_eqb}
use Rattle.basics.proofs.Picks.{pick_yes, pick_no}
use Rattle.table.specs.Table.{put_record}
use Rattle.machine.specs.Run.{go, lift}
use Rattle.std.specs.Prelude.{Result, Ok}
use Rattle.machine.specs.declared.Head.TheVariants as at
use Rattle.machine.specs.declared.Refusal.{Refusal}
use Rattle.machine.specs.declared.Step.{Step}
use Rattle.machine.specs.declared.Step.TheVariants as step
use Rattle.state.specs.Views.{view}
use Rattle.state.specs.Boxed.{LeafBoxes}
use Rattle.state.specs.declared.Top.{Top}
use Rattle.state.specs.declared.Levels.{Levels}
use Rattle.state.specs.declared.Levels.TheVariants as levels
use Rattle.state.specs.declared.Slot.{Slot}
use Rattle.state.specs.declared.Seen.{Seen}
use Rattle.state.specs.declared.IndexRead.{IndexRead}
use Rattle.state.specs.declared.GapBoxes.TheVariants as gaps
use Rattle.state.specs.declared.InnerBox.{InnerBox}
use Rattle.state.specs.declared.InnerBox.TheVariants as inners
use Rattle.state.specs.declared.Stage.TheVariants as stage
use Rattle.state.specs.Flow.{Flow, with_now, listed}
use Rattle.state.specs.Calls.{flow_of}
use Rattle.state.specs.Stages.{follow, top_of, top_level, index_ends, leaf_record, wrap_inner, lift_leaf, lift_inner}
use Rattle.inner.specs.Views.{inner_phase, view_inner}
use Rattle.next_stage.specs.declared.Running.{Running}
use Rattle.next_stage.specs.Views.{flowing, StageAnswer, view_stage}
use Rattle.next_stage.specs.Arms.{table_after}

-- the top index ends: the material follows at once, or the gap does
module _ (x : IndexRead) (f : Flow) (n : ℕ) where
  pub material_follows : x.offset ≡ 0 → follow (top_of x) (levels.One (top_level x n)) (with_now f x.time) ≡ index_ends x f n
  unfolding index_ends
  material_follows e = sym (pick_yes _ _ _ (eq-eqb x.offset 0 e))

  pub gap_follows : (x.offset ≡ 0 → ⊥) → go (stage.Gap (top_of x) (top_level x n) (n + x.offset) (gaps.Head at.First)) (with_now f x.time) ≡ index_ends x f n
  unfolding index_ends
  gap_follows e = sym (pick_no _ _ _ (ne_eqb x.offset 0 e))

module _ (top : Top) (ls : Levels) (slot : Slot) (r : Running) (work table : List ℕ) where
  -- a leaf is listed
  pub leaf_done : (q : Result (Step LeafBoxes Seen) Refusal) (seen : Seen) (p : StageAnswer) → q ≡ Ok (step.Done seen) →
      view_stage r.leaves work (put_record table r.leaves (leaf_record slot r.now seen.first)) p
      ≡ follow top ls (flow_of (r.leaves + 1) slot.until seen.last work (put_record table r.leaves (leaf_record slot r.now seen.first))) →
      view_stage r.leaves work (table_after r.leaves slot r.now q table) p ≡ lift_leaf top ls slot (view (flowing r work table) q)
  unfolding table_after lift listed
  leaf_done q seen p is e =
      rw is (
      e
      ∙ ap (λ (k : ℕ). follow top ls (flow_of k slot.until seen.last work (put_record table r.leaves (leaf_record slot r.now seen.first)))) (add-one r.leaves)
      )

pub wrap_box : (s : InnerBox) → wrap_inner (inner_phase s) ≡ s
wrap_box (inners.Head h) = refl
wrap_box (inners.Body span s) = refl
