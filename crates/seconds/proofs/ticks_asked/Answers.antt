-- `seconds::ticks_asked` meets its contract, by that of `whole_ticks`, by the law `request_ticks`, and by the definition of `moment_of`.
use mathlib.Core.Path.{sym, ap, ◌∙◌}
use native.Mathlib.Omega.{arith}
use Rattle.moment.specs.declared.Request.{Request}
use Rattle.moment.specs.Moments.{moment_of}
use Rattle.seconds.specs.Ticks.{ticks_of}
use Rattle.seconds.proofs.Laws.{request_ticks}
use Rattle.seconds.proofs.ticks_asked.Goals as goal

pub returns-in-Ticks : goal.returns-in-Ticks
returns-in-Ticks c =
    let a = c.args in
    request_ticks c.in-Ticks.t a.scale (omega arith)
    ∙ sym (ap (λ (q : Request). ticks_of (moment_of q a.scale)) c.in-Ticks.is)

pub returns-in-Seconds : goal.returns-in-Seconds
unfolding moment_of
returns-in-Seconds c =
    let a = c.args in
    c.whole_ticks.ensures ∙ sym (ap (λ (q : Request). ticks_of (moment_of q a.scale)) c.in-Seconds.is)
