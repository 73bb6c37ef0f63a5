-- The contract of `feed` itself, as the check reads it: it asks nothing, and two outcomes that it allows coincide.
use Rattle.std.specs.Prelude.{ℕ, Result}
use mathlib.Core.Path.{sym, ap, ◌∙◌}
use Rattle.basics.specs.Outcome.{OneOutcome, after_call}
use Rattle.machine.specs.declared.Refusal.{Refusal}
use Rattle.state.specs.Calls.{Out}
use Rattle.feed.proofs.feed.Kinds as feed-kinds
use Rattle.feed.proofs.feed.Reads as feed-stated

-- of one state, piece, work area and table: one answer and state, and one work area and table after the call, number by number; the piece stays as it was
pub feed_once : OneOutcome 3 feed-kinds.ps feed-kinds.r feed-stated.Pre feed-stated.Post
feed_once = record {
  asks_nothing = λ κs given. tt;
  outcomes_coincide = λ κs given r r' left left' p q.
      let same = p.0 ∙ sym q.0 in (
        ap (λ (o : Out (Result ℕ Refusal)). record { answer = o.answer; state = o.state }) same,
        ap (λ (o : Out (Result ℕ Refusal)). after_call 3 feed-kinds.ps feed-kinds.r κs given (tt, (tt, (o.work, (o.table, tt))))) same,
      );
}
