-- The lowest number among the faults shown, as the code answers it; and what follows where a header shows one.
use Rattle.std.specs.Prelude.{ℕ, List, [], ◌∷◌, eqb, Option, Some, None, Result, Ok, Err}
use Rattle.basics.specs.Choose.{pick}
use Rattle.machine.specs.Faults.{refusal, lowest}
use Rattle.machine.specs.declared.Refusal.{Refusal}
use Rattle.machine.specs.declared.Header.{Header}
use Rattle.state.specs.declared.Span.{Span}
use Rattle.state.specs.Opening.{span_of}

-- 0 where no fault is shown
unfoldable pub flaw_of : List Refusal → ℕ
flaw_of [] = 0
flaw_of (x ∷ xs) = (lowest x xs).number

-- a number as the code answers it: 0 is none
unfoldable pub numbered : ℕ → Option ℕ
numbered n = pick (eqb n 0) None (Some n)

-- the box that a header begins, or its refusal with a number that it shows
unfoldable pub span_or : Option ℕ → Header → Result Span Refusal
span_or None h = Ok (span_of h)
span_or (Some n) h = Err (refusal n h.pos)
