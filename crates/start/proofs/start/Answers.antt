-- `start::start` meets its contract, by that of `word_at`.
use mathlib.Core.Path.{ap, ◌∙◌}
use Rattle.state.specs.Calls.{start_of}
use native.Mathlib.Omega.{arith}
use lib.Seq.{take_all}
use Rattle.basics.specs.Bytes.{number}
use Rattle.start.proofs.start.Goals as goal

pub returns : goal.returns
returns c = ap start_of (c.word_at-spelled.ensures.0 ∙ ap number (take_all 4 c.args.brand (omega arith)))
