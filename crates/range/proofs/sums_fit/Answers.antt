-- `range::sums_fit` meets its contract, by those of `sizes_summed` and `durations_summed`, and by the laws `first_holds`, `first_fails`, `joined`, `one`, `sizes_read_low` and
-- `durations_read_low`.
use Prim.Native.Nat.{ℕ, suc, ◌*◌}
use mathlib.Core.Path.{ap, ◌∙◌}
use mathlib.Core.List.{[], ◌∷◌}
use native.Mathlib.Omega.{arith}
use Rattle.segment.specs.Constants.{most_entries, type_bit}
use Rattle.state.specs.Ranges.{at_most, within, word_limit}
use Rattle.range.proofs.Joined.{one, first_holds, first_fails, joined, sizes_read_low, durations_read_low}
use Rattle.range.proofs.sums_fit.Goals as goal

pub returns-then-s : goal.returns-then-s
returns-then-s c = first_fails (suc c.args.s.next) c.args.s.count _ (omega arith)

pub returns-then-s-gt-MOST_ENTRIES : goal.returns-then-s-gt-MOST_ENTRIES
returns-then-s-gt-MOST_ENTRIES c =
    let a = c.args in
    first_fails a.s.count most_entries _ (omega arith)
    ∙ first_holds (suc a.s.next) a.s.count _ (omega arith)

pub overflow_mul-result : goal.overflow_mul-result
overflow_mul-result c =
    let a = c.args in
    omega (
      arith,
      c.sizes_summed-sizes.ensures,
      sizes_read_low a.e a.s.next,
    )

pub overflow_mul-result-2 : goal.overflow_mul-result-2
overflow_mul-result-2 c =
    let a = c.args in
    omega (
      arith,
      c.durations_summed-durations.ensures,
      durations_read_low a.e a.s.next,
    )

pub returns : goal.returns
returns c =
    let a = c.args in
    let sizes = one a.s.sizes _ ∙ ap (λ (m : ℕ). within (at_most a.s.sizes (type_bit * m) ∷ [])) c.sizes_summed-sizes.ensures in
    let durations = one a.s.durations _ ∙ ap (λ (m : ℕ). within (at_most a.s.durations (word_limit * m) ∷ [])) c.durations_summed-durations.ensures in
    joined _ _ sizes durations
    ∙ first_holds a.s.count most_entries _ (omega arith)
    ∙ first_holds (suc a.s.next) a.s.count
    _ (omega arith)
