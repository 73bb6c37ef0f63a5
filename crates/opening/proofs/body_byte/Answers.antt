-- `opening::body_byte` meets its contract, by those of `skip_to`, `Styp::byte` and `index_byte`, by the laws `skipped`, `spelled_small` and `index_step`,
-- and by the definitions of `opening_body_bounds`, `step_opening_body` and `lift`.
use mathlib.Core.Path.{subst}
use native.Mathlib.Omega.{arith}
use native.Mathlib.Numerals.{add-one}
use Rattle.std.proofs.lemmas.Result.{err_from_is_err_and}
use Rattle.machine.specs.Run.{lift}
use Rattle.state.specs.Calls.{flow_of}
use Rattle.state.specs.Opening.{step_opening_body}
use Rattle.state.specs.Ranges.{Within, opening_body_bounds}
use Rattle.state.specs.declared.OpeningBody.{OpeningBody}
use Rattle.header.proofs.Steps.{spelled_small}
use Rattle.lists.proofs.Laws.{skipped}
use Rattle.opening.specs.Views.{given}
use Rattle.opening.proofs.OpeningSteps.{index_step}
use Rattle.opening.proofs.body_byte.Goals as goal

pub byte-requires : goal.byte-requires
unfolding opening_body_bounds
byte-requires c =
    let asked = c.requires in
    let w = subst (λ (q : OpeningBody). Within (opening_body_bounds q)) c.in-Styp.is asked.0 in
    (spelled_small 3 _ _ (omega arith) w, asked.1)

pub index_byte-requires : goal.index_byte-requires
unfolding opening_body_bounds
index_byte-requires c = let asked = c.requires in (
  tt,
  tt,
  subst (λ (q : OpeningBody). Within (opening_body_bounds q)) c.in-Index.is asked.0,
  asked.1,
  asked.2,
)

pub returns-in-Skip : goal.returns-in-Skip
unfolding step_opening_body
returns-in-Skip c = λ leaves at last table.
    rw (c.in-Skip.is, ← add-one) (skipped given (flow_of leaves at last c.args.work.now table) _ _ _ _ c.skip_to.ensures)

pub returns-in_err-i-in-Index : goal.returns-in_err-i-in-Index
unfolding lift
returns-in_err-i-in-Index c = λ leaves at last table.
    let p = err_from_is_err_and c.from_residual.result c.from_residual.ensures.1 in
    let step = index_step c.args.brand leaves at last _ _ table _ _ _ _ c.index_byte.result (c.index_byte.ensures leaves last table) in
    rw (p.1, p.2, c.in-Index.is, ← step, c.in_err-i-in-Index.was)

pub returns-in-Going : goal.returns-in-Going
unfolding lift
returns-in-Going c = λ leaves at last table.
    let step = index_step c.args.brand leaves at last _ _ table _ _ _ _ c.index_byte.result (c.index_byte.ensures leaves last table) in
    rw (c.in-Index.is, ← step, c.in_ok-i-in-Index.was, c.in-Going.is)

pub returns-in-Done : goal.returns-in-Done
unfolding lift
returns-in-Done c = λ leaves at last table.
    let step = index_step c.args.brand leaves at last _ _ table _ _ _ _ c.index_byte.result (c.index_byte.ensures leaves last table) in
    rw (c.in-Index.is, ← step, c.in_ok-i-in-Index.was, c.in-Done.is)
