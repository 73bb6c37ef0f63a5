-- A leaf that is done has room for its record: at its last byte row 15 did not show.
use Rattle.std.specs.Prelude.{Result, Ok, Err}
use Rattle.machine.specs.declared.Step.{Step}
use Rattle.machine.specs.declared.Step.TheVariants as step
use Rattle.machine.specs.declared.Refusal.{Refusal}
use Rattle.state.specs.declared.IndexRead.{IndexRead}
use Prim.Native.Nat.{ℕ, suc}
use mathlib.Core.Path.{◌≡◌, sym, subst}
use mathlib.Core.List.{[]}
use mathlib.Core.Bool.{false}
use lib.Dec.{eqb}
use Rattle.basics.proofs.Picks.{pick_holds}
use Rattle.machine.specs.Faults.{lowest}
use Rattle.machine.specs.Run.{go, done}
use Rattle.machine.specs.Lists.{BoxPhase, in_head, in_body, step_box, go_on, step_boxes}
use Rattle.machine.specs.declared.Head.TheVariants as at
use Rattle.machine.proofs.Faults.{none_first, shows_none}
use Rattle.machine.proofs.Kept.{Unrefused}
use Rattle.machine.proofs.Unrefused.{Any, anyhow, unless_unrefused, lift_unrefused}
use Rattle.state.specs.Flow.{Flow, left}
use Rattle.state.specs.Rows.{no_room}
use Rattle.state.specs.Leaf.{leaf_now, leaf_lacks, leaf_next, leaf_boxes, wrap_leaf, step_leaf}
use Rattle.state.specs.declared.Seen.{Seen}
use Rattle.state.specs.declared.Slot.{Slot}
use Rattle.state.specs.declared.LeafSo.{LeafSo}
use Rattle.state.specs.declared.LeafBody.{LeafBody}
use Rattle.state.specs.Boxed.{LeafBoxes}
use Rattle.machine.specs.declared.BoxesSo.TheVariants as inBoxes
use Rattle.records.proofs.Laws.{room_for}
use Rattle.state.specs.Views.{view}
use Rattle.next_stage.specs.Arms.{RoomFor}

abbrev Roomy : Seen → Flow → Type 0
Roomy seen f = no_room f.leaves f.table ≡ false

module _ (id : ℕ) (slot : Slot) where
  list_ends : (so : LeafSo) (f : Flow) (n : ℕ) → Unrefused Any Roomy (go_on (leaf_boxes id slot) wrap_leaf (leaf_next slot so f n) f)
  unfolding leaf_next leaf_lacks go_on
  list_ends so f n =
      pick_holds (λ x. Unrefused Any Roomy (go_on (leaf_boxes id slot) wrap_leaf x f)) (eqb n slot.end) _ _
      (λ e. unless_unrefused Any Roomy (leaf_lacks slot so (left f)) (left f) (done so.seen f) (λ none. shows_none (no_room f.leaves f.table) 15 slot.pos (none_first _ _ none)))
      (λ e. unless_unrefused Any Roomy [] (left f) (go (inBoxes.Head so at.First) f) (λ none. tt))

  in_list : (so : LeafSo) (s : BoxPhase LeafBody) (f : Flow) (n b : ℕ) → Unrefused Any Roomy (step_boxes (leaf_boxes id slot) wrap_leaf so s f n b)
  in_list so s f n b =
      lift_unrefused Any Any Any Roomy (wrap_leaf so) (λ r g. go_on (leaf_boxes id slot) wrap_leaf (leaf_next slot (leaf_now so r) g (suc n)) g)
      (λ x kept. lowest x ((leaf_boxes id slot).beside so kept (suc n))) (step_box ((leaf_boxes id slot).box so) s f n b)
      (λ s' g z. tt) (λ r g z. list_ends (leaf_now so r) g (suc n)) (anyhow (step_box ((leaf_boxes id slot).box so) s f n b))

  in_leaf : (s : LeafBoxes) (f : Flow) (n b : ℕ) → Unrefused Any Roomy (step_leaf id slot s f n b)
  unfolding step_leaf
  in_leaf (inBoxes.Head so h) f n b = in_list so (in_head h) f n b
  in_leaf (inBoxes.Body so s) f n b = in_list so (in_body s) f n b

  pub done_roomy : (s : LeafBoxes) (f : Flow) (n b : ℕ) (q : Result (Step LeafBoxes Seen) Refusal) → view f q ≡ step_leaf id slot s f n b → RoomFor f.leaves q f.table
  done_roomy s f n b (Ok (step.Going t)) e = tt
  done_roomy s f n b (Ok (step.Done seen)) e = room_for f.table f.leaves (subst (Unrefused Any Roomy) (sym e) (in_leaf s f n b))
  done_roomy s f n b (Err x) e = tt
