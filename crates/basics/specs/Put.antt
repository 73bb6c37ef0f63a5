-- Numbers put into a list, one after the other.
use Rattle.std.specs.Prelude.{ℕ, suc, List, [], ◌∷◌, set}

-- numbers put at a place and those after it
unfoldable pub put_all : List ℕ → ℕ → List ℕ → List ℕ
put_all list i [] = list
put_all list i (x ∷ xs) = put_all (set list i x) (suc i) xs
