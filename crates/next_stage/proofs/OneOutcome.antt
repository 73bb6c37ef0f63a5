-- The contracts of the functions that other crates call, as the check reads them: two outcomes that each allows coincide, and those that require nothing ask nothing.
-- A step is told by how it reads with any two buffers: two empty ones tell it.
use mathlib.Core.Path.{refl, sym, ap, ◌∙◌}
use mathlib.Core.List.{List, []}
use Prim.Native.Nat.{ℕ}
use Rattle.basics.specs.Outcome.{OneOutcome, Coincide, after_call}
use Rattle.next_stage.proofs.ReadBack.{one_step}
use Rattle.next_stage.proofs.opening_after.Kinds as opening-after-kinds
use Rattle.next_stage.proofs.opening_after.Reads as opening-after-stated
use Rattle.next_stage.proofs.gap_after.Kinds as gap-after-kinds
use Rattle.next_stage.proofs.gap_after.Reads as gap-after-stated
use Rattle.next_stage.proofs.record_after.Kinds as record-after-kinds
use Rattle.next_stage.proofs.record_after.Reads as record-after-stated
use Rattle.next_stage.proofs.leaf_after.Kinds as leaf-after-kinds
use Rattle.next_stage.proofs.leaf_after.Reads as leaf-after-stated
use Rattle.next_stage.proofs.inner_after.Kinds as inner-after-kinds
use Rattle.next_stage.proofs.inner_after.Reads as inner-after-stated

-- of one brand, what flows, one answer of the boxes up to the top index and one count of bytes: one step
pub opening_after_once : Coincide 0 opening-after-kinds.ps opening-after-kinds.r opening-after-stated.Post
opening_after_once κs given r r' left left' p q = (one_step _ [] [] [] [] r r' _ (p [] []) (q [] []), refl)

-- of one top index, level, end, what flows and one answer of the gap: one step
pub gap_after_once : OneOutcome 0 gap-after-kinds.ps gap-after-kinds.r gap-after-stated.Pre gap-after-stated.Post
gap_after_once = record {
  asks_nothing = λ κs given. tt;
  outcomes_coincide = λ κs given r r' left left' p q. (one_step _ [] [] [] [] r r' _ (p [] []) (q [] []), refl);
}

-- of one count of leaves, slot, time, answer of a leaf and table: one table after the call, number by number
pub record_after_once : Coincide 1 record-after-kinds.ps record-after-kinds.r record-after-stated.Post
record_after_once κs given r r' left left' p q =
    (refl, ap (λ (t : List ℕ). after_call 1 record-after-kinds.ps record-after-kinds.r κs given (tt, (tt, (tt, (tt, (t, tt)))))) (p ∙ sym q))

-- of one top index, open indexes, slot, what flows and one answer of a leaf: one step
pub leaf_after_once : Coincide 0 leaf-after-kinds.ps leaf-after-kinds.r leaf-after-stated.Post
leaf_after_once κs given r r' left left' p q = (one_step _ [] [] _ _ r r' _ (p [] []) (q [] []), refl)

-- of one top index, open indexes, slot, what flows and one answer of the first box: one step
pub inner_after_once : OneOutcome 0 inner-after-kinds.ps inner-after-kinds.r inner-after-stated.Pre inner-after-stated.Post
inner_after_once = record {
  asks_nothing = λ κs given. tt;
  outcomes_coincide = λ κs given r r' left left' p q. (one_step _ [] [] [] [] r r' _ (p [] []) (q [] []), refl);
}
