-- The contract of `inner_byte` itself, as the check reads it: two outcomes that it allows coincide.
use Prim.Native.Nat.{ℕ}
use mathlib.Core.Path.{◌≡◌, refl, sym, ap, ◌∙◌}
use mathlib.Core.List.{List, []}
use Rattle.basics.proofs.Outcomes.{left_inverse_equal}
use Rattle.basics.specs.Outcome.{Coincide, after_call}
use Rattle.machine.specs.Run.{Sub, go, done, bad}
use Rattle.machine.specs.Lists.{BoxPhase, in_head, in_body}
use Rattle.machine.specs.declared.Refusal.{Refusal}
use Rattle.machine.specs.declared.Step.{Step}
use Rattle.machine.specs.declared.Step.TheVariants as step
use Rattle.std.specs.Prelude.{Result, Ok, Err}
use Rattle.state.specs.declared.IndexRead.{IndexRead}
use Rattle.state.specs.declared.InnerBox.{InnerBox}
use Rattle.state.specs.declared.InnerBox.TheVariants as boxes
use Rattle.state.specs.Flow.{Flow, Left}
use Rattle.state.specs.Stages.{InnerBody}
use Rattle.state.specs.Calls.{flow_of}
use Rattle.inner.specs.Views.{view_inner}
use Rattle.inner.proofs.inner_byte.Kinds as byte-kinds
use Rattle.inner.proofs.inner_byte.Reads as byte-stated

-- the answer and the work area that a machine's answer is a view of
abbrev seen_inner : Sub (BoxPhase InnerBody) IndexRead Flow Left → Result (Step InnerBox IndexRead) Refusal × List ℕ
seen_inner (go (in_head h) f) = (Ok (step.Going (boxes.Head h)), f.work)
seen_inner (go (in_body s) f) = (Ok (step.Going (boxes.Body s.span s.sidx)), f.work)
seen_inner (done x f) = (Ok (step.Done x), f.work)
seen_inner (bad x l) = (Err x, l.work)

seen_inner_lem : (f : Flow) (r : Result (Step InnerBox IndexRead) Refusal) → seen_inner (view_inner f r) ≡ (r, f.work)
seen_inner_lem f (Ok (step.Going (boxes.Head h))) = refl
seen_inner_lem f (Ok (step.Going (boxes.Body span s))) = refl
seen_inner_lem f (Ok (step.Done x)) = refl
seen_inner_lem f (Err x) = refl

-- of one top index, entry, depth, box so far, time, count of bytes, byte and work area: one answer, and one work area after the call, byte by byte
pub inner_byte_once : Coincide 1 byte-kinds.ps byte-kinds.r byte-stated.Post
inner_byte_once = λ κs given r r' left left' p q.
    let at = given.1.1.1.1.0 in
    let held = left.1.1.1.1.1.1.1.0 in
    let held' = left'.1.1.1.1.1.1.1.0 in
    let same = left_inverse_equal seen_inner (seen_inner_lem (flow_of 0 at 0 held []) r) (seen_inner_lem (flow_of 0 at 0 held' []) r') (p 0 0 [] ∙ sym (q 0 0 [])) in (
      ap (λ (o : Result (Step InnerBox IndexRead) Refusal × List ℕ). o.0) same,
      ap (λ (o : Result (Step InnerBox IndexRead) Refusal × List ℕ). after_call 1 byte-kinds.ps byte-kinds.r κs given (tt, (tt, (tt, (tt, (tt, (tt, (tt, (o.1, tt))))))))) same,
    )
