-- The contract of `state_byte` itself, as the check reads it: two outcomes that it allows coincide.
use Rattle.std.specs.Prelude.{ℕ, Result}
use mathlib.Core.Path.{sym, ap, ◌∙◌}
use Rattle.basics.specs.Outcome.{Coincide, after_call}
use Rattle.machine.specs.declared.Refusal.{Refusal}
use Rattle.state.specs.Calls.{Out}
use Rattle.byte.proofs.state_byte.Kinds as kinds
use Rattle.byte.proofs.state_byte.Reads as stated

-- of one state, byte, work area and table: one state, and one work area and table after the call, number by number
pub state_byte_once : Coincide 2 kinds.ps kinds.r stated.Post
state_byte_once κs given r r' left left' p q =
    let same = p.0 ∙ sym q.0 in (
      ap (λ (o : Out (Result ℕ Refusal)). o.state) same,
      ap (λ (o : Out (Result ℕ Refusal)). after_call 2 kinds.ps kinds.r κs given (tt, (tt, (o.work, (o.table, tt))))) same,
    )
