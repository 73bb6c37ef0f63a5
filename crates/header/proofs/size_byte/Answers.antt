-- `header::size_byte` meets its contract, by that of `spelled`, by the law `one_fewer`, and by the definition of `step_head`.
use Prim.Native.Nat.{◌+◌, ◌*◌}
use mathlib.Core.Path.{refl}
use Rattle.machine.specs.Run.{go}
use Rattle.machine.specs.Heads.{step_head}
use Rattle.machine.specs.declared.Head.TheVariants as at
use Rattle.state.specs.Flow.{left}
use Rattle.header.proofs.Steps.{one_fewer}
use Rattle.header.proofs.size_byte.Goals as goal

pub returns-then-more-eq0 : goal.returns-then-more-eq0
unfolding step_head
returns-then-more-eq0 c = λ f. rw (c.spelled-v.ensures, c.if-more-eq0.true)

pub returns : goal.returns
unfolding step_head
returns c =
    let a = c.args in
    λ f. rw c.spelled-v.ensures
    (one_fewer (λ m. step_head left a.end (at.Size a.pos m a.acc) f a.n a.b) (λ m. go (at.Size a.pos m (a.acc * 256 + a.b)) f) (λ m. refl) a.more c.if-more-eq0.false)
