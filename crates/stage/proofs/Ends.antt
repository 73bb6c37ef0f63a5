-- Where the boxes up to the top index end, its material and its time line end within the code's numbers: as the ranges have it.
use Rattle.std.specs.Prelude.{Result, Ok, Err}
use Rattle.machine.specs.declared.Step.{Step}
use Rattle.machine.specs.declared.Step.TheVariants as step
use Rattle.machine.specs.declared.Refusal.{Refusal}
use Rattle.state.specs.declared.IndexRead.{IndexRead}
use Prim.Native.Nat.{ℕ, ◌+◌, ◌≤◌, ◌<◌}
use mathlib.Core.Path.{◌≡◌, refl, sym, subst}
use mathlib.Core.List.{List, []}
use native.Mathlib.Omega.{arith}
use Rattle.segment.specs.Constants.{limit}
use Rattle.state.specs.Flow.{Flow}
use Rattle.state.specs.Sidx.{topmost}
use Rattle.state.specs.Opening.{step_opening}
use Rattle.state.specs.Ranges.{Within, opening_bounds}
use Rattle.state.specs.Calls.{flow_of}
use Rattle.state.specs.Boxed.{OpeningBoxes}
use Rattle.state.proofs.RangeKept.{KeptIn}
use Rattle.state.proofs.RangeSidx.{Ends, Read}
use Rattle.state.proofs.RangeOpening.{step_opening_lem}
use Rattle.state.specs.Views.{view}
use Rattle.next_stage.specs.Arms.{EndsIn}

module _ (brand : ℕ) (s : OpeningBoxes) (work : List ℕ) (g : Flow) (n b : ℕ) (low : n ≤ limit) (byte : b < 256) (w : Within (opening_bounds s)) where
  pub ends_in : (q : Result (Step OpeningBoxes IndexRead) Refusal) → view g q ≡ step_opening brand s (flow_of 0 0 0 work []) n b → EndsIn (n + 1) q
  unfolding Ends
  ends_in (Ok (step.Going t)) e = tt
  ends_in (Ok (step.Done x)) e =
      let k = subst (KeptIn 0 opening_bounds (Read 0 topmost)) (sym e) (step_opening_lem 0 brand s (flow_of 0 0 0 work []) n b low byte w (omega arith, refl)) in
      (omega (arith, k.1.0), k.1.1)
  ends_in (Err x) e = tt
