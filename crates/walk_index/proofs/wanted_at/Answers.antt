-- `walk_index::wanted_at` meets its contract, by the definition of `wanted_of`.
use mathlib.Core.Path.{subst}
use native.Mathlib.Omega.{arith}
use Rattle.index.specs.declared.Where.{Where}
use Rattle.index.specs.Views.{Shallow}
use Rattle.walk_index.specs.Parts.{wanted_of}
use Rattle.walk_index.proofs.wanted_at.Goals as goal

pub overflow_mul-result : goal.overflow_mul-result
overflow_mul-result c = omega (arith, subst (λ (q : Where). Shallow q) c.in-Under.is c.requires)

pub returns-in-Topmost : goal.returns-in-Topmost
unfolding wanted_of
returns-in-Topmost c = rw c.in-Topmost.is

pub returns-in-Under : goal.returns-in-Under
unfolding wanted_of
returns-in-Under c = rw c.in-Under.is
