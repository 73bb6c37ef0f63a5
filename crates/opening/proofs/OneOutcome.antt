-- The contracts of the functions that other crates call, as the check reads them: two outcomes that one allows coincide.
use Prim.Native.Nat.{ℕ}
use mathlib.Core.Path.{◌≡◌, refl, sym, ap, ◌∙◌}
use mathlib.Core.List.{List, []}
use Rattle.basics.proofs.Outcomes.{left_inverse_equal}
use Rattle.basics.specs.Outcome.{Coincide, after_call}
use Rattle.machine.specs.Run.{Sub, go, done, bad}
use Rattle.state.specs.declared.IndexRead.{IndexRead}
use Rattle.state.specs.Boxed.{OpeningBoxes}
use Rattle.state.specs.Flow.{Flow, Left}
use Rattle.state.specs.Calls.{flow_of}
use Rattle.state.specs.Views.{view}
use Rattle.state.proofs.Views.{answer_of, answer_viewed}
use Rattle.machine.specs.declared.Refusal.{Refusal}
use Rattle.machine.specs.declared.Step.{Step}
use Rattle.machine.specs.declared.Step.TheVariants as step
use Rattle.std.specs.Prelude.{Result, Ok, Err}
use Rattle.opening.proofs.gap_byte.Kinds as gap_kinds
use Rattle.opening.proofs.gap_byte.Reads as gap-stated
use Rattle.opening.proofs.opening_byte.Kinds as opening-kinds
use Rattle.opening.proofs.opening_byte.Reads as opening-stated

-- the answer up to the top index that a machine's answer is a view of, with the work area
abbrev seen_opening : Sub OpeningBoxes IndexRead Flow Left → Result (Step OpeningBoxes IndexRead) Refusal × List ℕ
seen_opening (go s f) = (Ok (step.Going s), f.work)
seen_opening (done x f) = (Ok (step.Done x), f.work)
seen_opening (bad x l) = (Err x, l.work)

seen_opening_lem : (f : Flow) (r : Result (Step OpeningBoxes IndexRead) Refusal) → seen_opening (view f r) ≡ (r, f.work)
seen_opening_lem f (Ok (step.Going s)) = refl
seen_opening_lem f (Ok (step.Done x)) = refl
seen_opening_lem f (Err x) = refl

-- of one end of the gap, boxes so far, count of bytes and byte: one answer
pub gap_byte_once : Coincide 0 gap_kinds.ps gap_kinds.r gap-stated.Post
gap_byte_once = λ κs given r r' left left' p q.
    let f = flow_of 0 0 0 [] [] in
    (left_inverse_equal answer_of (answer_viewed f r) (answer_viewed f r') (p f ∙ sym (q f)), refl)

-- of one brand, boxes so far, count of bytes, byte and work area: one answer, and one work area after the call, byte by byte
pub opening_byte_once : Coincide 1 opening-kinds.ps opening-kinds.r opening-stated.Post
opening_byte_once = λ κs given r r' left left' p q.
    let held = left.1.1.1.1.0 in
    let held' = left'.1.1.1.1.0 in
    let same = left_inverse_equal seen_opening (seen_opening_lem (flow_of 0 0 0 held []) r) (seen_opening_lem (flow_of 0 0 0 held' []) r') (p 0 0 0 [] ∙ sym (q 0 0 0 [])) in (
      ap (λ (o : Result (Step OpeningBoxes IndexRead) Refusal × List ℕ). o.0) same,
      ap (λ (o : Result (Step OpeningBoxes IndexRead) Refusal × List ℕ). after_call 1 opening-kinds.ps opening-kinds.r κs given (tt, (tt, (tt, (tt, (o.1, tt)))))) same,
    )
