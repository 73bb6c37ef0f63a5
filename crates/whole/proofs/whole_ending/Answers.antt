-- `whole::whole_ending` meets its contract, by those of `word_at`, `segment_walk` and `outcome`, and by law D.
use Prim.Native.Nat.{ℕ, ◌≤◌}
use mathlib.Core.Path.{◌≡◌, refl, ap, sym, ◌∙◌}
use mathlib.Core.List.{List}
use native.Mathlib.Omega.{arith}
use native.Mathlib.Nat.{min-le_left, min-le_right}
use lib.ListN.{length, take, drop, length-take}
use lib.Seq.{take_all, length-take-le}
use Rattle.basics.specs.Bytes.{number}
use Rattle.basics.proofs.Bytes.{each_byte_all}
use Rattle.segment.specs.Constants.{limit}
use Rattle.machine.specs.Faults.{refusal}
use Rattle.machine.specs.Run.{Res}
use Rattle.machine.specs.Limit.{beyond}
use Rattle.state.specs.declared.Top.{Top}
use Rattle.state.specs.Flow.{Flow, Left}
use Rattle.descent.specs.Whole.{outcome}
use Rattle.whole.specs.Views.{ending_out}
use Rattle.whole.proofs.Laws.{whole_short, whole_long, within_limit, within_both, read_as}
use Rattle.whole.proofs.whole_ending.Goals as goal

pub returns-then-work-lt-WORK_BYTES : goal.returns-then-work-lt-WORK_BYTES
unfolding ending_out
returns-then-work-lt-WORK_BYTES c =
    let a = c.args in
    whole_short (number a.brand) a.segment.now a.work.now a.table.now (each_byte_all a.segment.now (λ i. (c.type_inv.segment i).fits)) c.if-work-lt-WORK_BYTES.true

pub slice_bounds-segment_walk-end : goal.slice_bounds-segment_walk-end
slice_bounds-segment_walk-end c =
    let a = c.args in
    let within : c.min-most.result ≤ length a.segment.now = rw c.min-most.ensures (min-le_right limit (length a.segment.now)) in
    sym (length-take-le c.min-most.result a.segment.now within)

pub segment_walk-read-requires : goal.segment_walk-read-requires
segment_walk-read-requires c =
    let a = c.args in
    let most : c.min-most.result ≤ limit = rw c.min-most.ensures (min-le_left limit (length a.segment.now)) in
    (rw length-take (omega arith), c.if-work-lt-WORK_BYTES.false)

pub outcome-requires : goal.outcome-requires
outcome-requires c =
    let a = c.args in
    let most : c.min-most.result ≤ limit = rw c.min-most.ensures (min-le_left limit (length a.segment.now)) in
    (most, within_both limit (take c.min-most.result a.segment.now) c.segment_walk-read.result (rw length-take (omega arith)) (omega arith) c.segment_walk-read.ensures.within)

pub returns : goal.returns
returns c =
    let a = c.args in
    let good = c.well_formed in
    let bytes : List ℕ = a.segment.now in
    let brand : ℕ = number a.brand in
    let same : take c.min-most.result bytes ≡ take limit bytes = within_limit bytes _ c.min-most.ensures in
    let named : c.word_at.result ≡ brand = c.word_at.ensures.0 ∙ ap number (take_all 4 a.brand (omega arith)) in
    let read = read_as named same c.segment_walk-read.ensures in
    c.outcome.ensures brand bytes _ _ refl c.min-most.ensures read.within
    ∙ ap (λ (r : Res Top Flow Left). outcome (beyond (refusal 3 limit) r (drop limit bytes)))
    read.right
    ∙ whole_long brand bytes a.work.now a.table.now (each_byte_all bytes (λ i. (c.type_inv.segment i).fits)) c.if-work-lt-WORK_BYTES.false
