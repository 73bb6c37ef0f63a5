-- A limit on all bytes: what the byte after it gives hangs on where the machine stands, and not on what it would have made of it.
use Rattle.std.specs.Prelude.{ℕ, suc, List, [], ◌∷◌, ◌++◌, eqb}
use Rattle.basics.specs.Choose.{pick}
use Rattle.machine.specs.Run.{Sub, Res, okay, fail, cut}
use Rattle.machine.specs.declared.Refusal.{Refusal}

module _ {S R F L : Type 0} (limit : ℕ) (over : S → F → ℕ → Sub S R F L) (step : S → F → ℕ → ℕ → Sub S R F L) where
  unfoldable pub limited : S → F → ℕ → ℕ → Sub S R F L
  limited s f n b = pick (eqb n limit) (over s f b) (step s f n b)

-- what the bytes within the limit give, when those of the second list follow
unfoldable pub beyond : {R F L : Type 0} → Refusal → Res R F L → List ℕ → Res R F L
beyond x (okay r f n bs) ys = okay r f n (bs ++ ys)
beyond x (fail y l n) ys = fail y l n
beyond x (cut l n) [] = cut l n
beyond x (cut l n) (y ∷ ys) = fail x l (suc n)
