-- `mazurlot::accepted::refused_with` meets its contract, by that of `unpack`.
use Rattle.mazurlot.specs.Accepted.{refused_with}
use Rattle.mazurlot.proofs.Laws.{was_found, two_refused}
use Rattle.mazurlot.proofs.accepted.refused_with.Goals as goal

pub returns-in-Ok : goal.returns-in-Ok
unfolding refused_with
returns-in-Ok c = rw (was_found _ _ c.unpack.ensures _ c.in-Ok.is)

pub returns-in-Err : goal.returns-in-Err
returns-in-Err c = two_refused _ _ c.unpack.ensures _ c.in-Err.is
