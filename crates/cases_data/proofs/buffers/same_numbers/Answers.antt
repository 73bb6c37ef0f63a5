-- `cases_data::buffers::same_numbers` meets its contract, by that of `==`.
use Rattle.std.proofs.Common.{◌≡◌, ◌↔◌, true, take}
use Rattle.std.proofs.lemmas.List.{take_min}
use Rattle.std.proofs.lemmas.Slice.Eq.{slice_eq-Decides}
use Rattle.std.proofs.lemmas.Bool.Decides.{Decides-eqb}
use Rattle.cases_data.proofs.buffers.same_numbers.Goals as goal

pub returns-then-v-w : goal.returns-then-v-w
returns-then-v-w c =
    let v = c.args.v.now in
    let w = c.args.w.now in
    let n = c.args.n in
    let told : (c.eq.result ≡ true) ↔ (take n v ≡ take n w) =
    rw (← take_min n v, ← take_min n w, ← c.if-v-w.true, ← c.least-most.ensures) (slice_eq-Decides Decides-eqb _ _ _ c.eq.ensures) in
    (λ t. (c.if-v-w.true, told.0 t), λ same. told.1 same.1)
