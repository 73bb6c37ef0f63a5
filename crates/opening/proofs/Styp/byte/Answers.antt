-- `opening::Styp::byte` meets its contract, by those of `spelled`, `ends` and `number`, by the law `one_fewer`, and by the definition of
-- `step_opening_body`.
use Prim.Native.Nat.{◌+◌, ◌*◌}
use mathlib.Core.Path.{refl}
use native.Mathlib.Numerals.{add-one}
use Rattle.machine.specs.Run.{go}
use Rattle.state.specs.Opening.{step_opening_body}
use Rattle.state.specs.declared.OpeningBody.TheVariants as body
use Rattle.header.proofs.Steps.{one_fewer}
use Rattle.opening.proofs.Styp.byte.Goals as goal

pub returns-then-more-eq0 : goal.returns-then-more-eq0
unfolding step_opening_body
returns-then-more-eq0 c = λ f. rw (c.if-more-eq0.true, ← add-one c.args.n, ← c.spelled-v.ensures) (c.ends.ensures f)

pub returns : goal.returns
unfolding step_opening_body
returns c =
    let a = c.args in
    let s = a.self in
    λ f. rw (c.number.ensures, c.spelled-v.ensures)
    (one_fewer (λ m. step_opening_body s.brand (body.Styp s.span a.part s.listed m a.acc) f a.n a.b)
    (λ m. go (body.Styp s.span a.part s.listed m (a.acc * 256 + a.b)) f) (λ m. refl) a.more c.if-more-eq0.false)
