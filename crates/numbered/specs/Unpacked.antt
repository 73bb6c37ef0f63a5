-- Numbers read back as a state: they are those of a state inside the ranges, or none. `Unpacks`, theorem `unpacks_exactly`, says it
-- without the way it is found.
use Rattle.std.specs.Prelude.{ℕ, List, [], ◌∷◌, Bool, true, false, ◌&&◌, eqb, length}
use Rattle.std.proofs.Math.Option.{Option, some, none}
use Rattle.basics.specs.Choose.{pick}
use Rattle.state.specs.declared.State.{State}
use Rattle.state.specs.Ranges.{in_range}
use Rattle.numbered.specs.Numbers.{numbers_of, state_numbers}
use Rattle.numbered.specs.Blocks.{state_of}

-- two lists hold the same numbers
unfoldable pub same_numbers : List ℕ → List ℕ → Bool
same_numbers [] [] = true
same_numbers [] (y ∷ ys) = false
same_numbers (x ∷ xs) [] = false
same_numbers (x ∷ xs) (y ∷ ys) = eqb x y && same_numbers xs ys

-- the state that these numbers are
unfoldable pub unpack_of : List ℕ → Option State
unpack_of ns = pick (same_numbers (numbers_of (state_of ns)) ns && in_range (state_of ns)) (some (state_of ns)) none

-- a slice of numbers after a state was packed into it: as many as a state has, or nothing is written
unfoldable pub pack_of : State → List ℕ → List ℕ
pack_of s ns = pick (eqb (length ns) state_numbers) (numbers_of s) ns
