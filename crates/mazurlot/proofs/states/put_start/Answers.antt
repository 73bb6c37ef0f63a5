-- `mazurlot::states::put_start` meets its contract, by those of `brand_bytes`, `start` and `pack`, and by the law `packed_in`.
use mathlib.Core.Path.{ap, ◌∙◌}
use Rattle.state.specs.Calls.{start_of}
use Rattle.numbered.specs.Numbers.{numbers_of}
use Rattle.mazurlot.proofs.Laws.{packed_in}
use Rattle.mazurlot.proofs.states.put_start.Goals as goal

pub returns : goal.returns
returns c =
    let long = c.requires in
    c.pack.ensures.1 ∙ packed_in _ _ long ∙ ap numbers_of (c.start.ensures ∙ ap start_of c.brand_bytes.ensures)
