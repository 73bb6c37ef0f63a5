-- What packing and unpacking answer: what is no state, or no place for one, is refused with 2 (row 2), place 0.
use Rattle.std.specs.Prelude.{ℕ, List, eqb, length, Result, Ok, Err}
use Rattle.std.proofs.Math.Option.{Option, some, none}
use Rattle.basics.specs.Choose.{pick}
use Rattle.machine.specs.Faults.{refusal}
use Rattle.machine.specs.declared.Refusal.{Refusal}
use Rattle.state.specs.declared.State.{State}
use Rattle.numbered.specs.Numbers.{state_numbers}
use Rattle.numbered.specs.Unpacked.{unpack_of}

-- a slice that has not as many numbers as a state is refused
unfoldable pub pack_answer : List ℕ → Result (Unit {0}) Refusal
pack_answer ns = pick (eqb (length ns) state_numbers) (Ok tt) (Err (refusal 2 0))

unfoldable pub unpacked : Option State → Result State Refusal
unpacked none = Err (refusal 2 0)
unpacked (some s) = Ok s

-- numbers that are no state inside the ranges are refused
abbrev pub unpack_answer : List ℕ → Result State Refusal
unpack_answer ns = unpacked (unpack_of ns)
