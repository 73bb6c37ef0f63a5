-- The faults that one byte shows, and the one rule that takes the lowest number among them.
use Rattle.std.specs.Prelude.{ℕ, List, [], ◌∷◌, Bool, true, false, ltb}
use Rattle.basics.specs.Choose.{pick}
use Rattle.machine.specs.declared.Refusal.{Refusal}

abbrev pub refusal : ℕ → ℕ → Refusal
refusal n p = record { number = n; place = p }

-- a fault with this number and place, where the test holds
unfoldable pub shows : Bool → ℕ → ℕ → List Refusal
shows true n p = refusal n p ∷ []
shows false n p = []

-- "If one byte shows several, the lowest number is given."
unfoldable pub lowest : Refusal → List Refusal → Refusal
lowest x [] = x
lowest x (y ∷ ys) = pick (ltb y.number x.number) (lowest y ys) (lowest x ys)

-- what is made of the lowest of the faults shown, and else what goes on
unfoldable pub unless : {X : Type 0} → List Refusal → (Refusal → X) → X → X
unless [] no_more x = x
unless (y ∷ ys) no_more x = no_more (lowest y ys)
