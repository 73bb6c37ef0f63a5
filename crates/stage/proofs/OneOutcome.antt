-- The contract of `stage_byte` itself, as the check reads it: two outcomes that it allows coincide.
use mathlib.Core.Path.{ap₂}
use mathlib.Core.List.{List}
use Prim.Native.Nat.{ℕ}
use Rattle.basics.specs.Outcome.{Coincide, after_call}
use Rattle.next_stage.proofs.ReadBack.{one_step, one_work, one_table}
use Rattle.stage.proofs.stage_byte.Kinds as kinds
use Rattle.stage.proofs.stage_byte.Reads as stated

-- of one stage, what flows, count of bytes, byte, work area and table: one step, and one work area and table after the call, number by number
pub stage_byte_once : Coincide 2 kinds.ps kinds.r stated.Post
stage_byte_once κs given r r' left left' p q = (
  one_step _ _ _ _ _ r r' _ p q,
  ap₂ (λ (work table : List ℕ). after_call 2 kinds.ps kinds.r κs given (tt, (tt, (tt, (tt, (work, (table, tt)))))))
      (one_work _ _ _ _ _ r r' _ p q)
      (one_table _ _ _ _ _ r r' _ p q),
)
