-- A machine over bytes, one after the other.
use Rattle.std.specs.Prelude.{ℕ, suc, List, [], ◌∷◌}
use Rattle.machine.specs.Run.{Sub, go, done, bad}

-- what more bytes make of a machine's answer: where it is done, or has refused, they make nothing
unfoldable pub on_by : {S R F L : Type 0} → (S → F → Sub S R F L) → Sub S R F L → Sub S R F L
on_by more (go s f) = more s f
on_by more (done r f) = done r f
on_by more (bad x l) = bad x l

-- a machine over bytes, of which `n` stand before them; it stops where it is done or refuses
unfoldable pub over : {S R F L : Type 0} → (S → F → ℕ → ℕ → Sub S R F L) → S → F → ℕ → List ℕ → Sub S R F L
over step s f n [] = go s f
over step s f n (b ∷ bs) = on_by (λ s' f'. over step s' f' (suc n) bs) (step s f n b)
