-- `pack::unpack` meets its contract, by those of `State::take`, `numbers_of`, `==` and `in_range`, and by the laws `unpack_length` and `same_is`.
use Prim.Native.Nat.{ℕ}
use mathlib.Core.Path.{◌≡◌, sym, ap, ◌∙◌}
use mathlib.Core.List.{List}
use mathlib.Core.Bool.{Bool, true, false, not, not-not}
use lib.Dec.{eqb}
use lib.Pointwise.{pointwise}
use Rattle.std.specs.Prelude.{Ok, Err}
use Rattle.basics.specs.Choose.{pick}
use Rattle.machine.specs.Faults.{refusal}
use Rattle.state.specs.declared.State.{State}
use Rattle.state.specs.Ranges.{in_range}
use Rattle.numbered.specs.Numbers.{numbers_of}
use Rattle.numbered.specs.Blocks.{state_of}
use Rattle.numbered.specs.Unpacked.{same_numbers, unpack_of}
use Rattle.numbered.proofs.Unpacks.{unpack_length}
use Rattle.pack.specs.Pack.{unpacked, unpack_answer}
use Rattle.pack.proofs.Laws.{same_is}
use Rattle.pack.proofs.unpack.Goals as goal
use Rattle.pack.proofs.unpack.Goals.{then-ne-via-then-ne, then-ne-via-else-ne+then-not-in_range}

-- numbers, the state that they read as, and its numbers
module _ (ns packed : List ℕ) (s : State) (read : s ≡ state_of ns) (own : packed ≡ numbers_of s) where
  -- whether they are the state's, by the test of the code that they are not
  compared : (t : Bool) → t ≡ not (pointwise eqb packed ns) → same_numbers (numbers_of (state_of ns)) ns ≡ not t
  compared t e =
      ap (λ l. same_numbers l ns) (sym (own ∙ ap numbers_of read)) ∙ same_is packed ns ∙ sym (not-not (pointwise eqb packed ns)) ∙ ap not (sym e)

  others : true ≡ not (pointwise eqb packed ns) → Err (refusal 2 0) ≡ unpack_answer ns
  unfolding unpacked unpack_of pick
  others e = rw (compared true e)

  outside : false ≡ not (pointwise eqb packed ns) → in_range s ≡ false → Err (refusal 2 0) ≡ unpack_answer ns
  unfolding unpacked unpack_of pick
  outside e h = rw (compared false e, sym (ap in_range read) ∙ h)

  inside : false ≡ not (pointwise eqb packed ns) → in_range s ≡ true → Ok s ≡ unpack_answer ns
  unfolding unpacked unpack_of pick
  inside e h = rw (compared false e, sym (ap in_range read) ∙ h, read)

pub returns-then-numbers-ne-STATE_NUMBERS : goal.returns-then-numbers-ne-STATE_NUMBERS
unfolding unpacked
returns-then-numbers-ne-STATE_NUMBERS c = rw (unpack_length c.args.numbers.now c.if-numbers-ne-STATE_NUMBERS.true)

pub returns-then-ne : goal.returns-then-ne
returns-then-ne c =
    let own = c.as_slice.ensures ∙ c.numbers_of.ensures in
    elim c.then-ne.branch [
      | then-ne-via-then-ne w ↦ others _ _ _ c.take-s.ensures own (sym w.if-ne.true ∙ c.ne.ensures)
      | then-ne-via-else-ne+then-not-in_range w ↦
          outside _ _ _ c.take-s.ensures own (sym w.if-ne.false ∙ c.ne.ensures) (sym w.in_range.ensures ∙ w.if-not-in_range.true)
    ]

pub returns : goal.returns
returns c =
    let own = c.as_slice.ensures ∙ c.numbers_of.ensures in
    inside _ _ _ c.take-s.ensures own (sym c.if-ne.false ∙ c.ne.ensures) (sym c.in_range.ensures ∙ c.if-not-in_range.false)
