-- The contract of `resolve` itself, as the check reads it: it asks nothing, and two outcomes that it allows coincide.
use mathlib.Core.Path.{refl, sym, ◌∙◌}
use Rattle.basics.specs.Outcome.{OneOutcome}
use Rattle.marks.proofs.resolve.Kinds as kinds
use Rattle.marks.proofs.resolve.Reads as stated

-- of one state, table and mark: one page and one answer; all three stay as they were
pub resolve_once : OneOutcome 1 kinds.ps kinds.r stated.Pre stated.Post
resolve_once = record {
  asks_nothing = λ κs given. tt;
  outcomes_coincide = λ κs given r r' left left' p q. (p ∙ sym q, refl);
}
