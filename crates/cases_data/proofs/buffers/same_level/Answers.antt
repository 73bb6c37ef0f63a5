-- `cases_data::buffers::same_level` meets its contract, by those of `level_part` and `same_bytes`.
use mathlib.Core.Path.{sym, ◌∙◌}
use Rattle.cases_data.proofs.buffers.same_level.Goals as goal

pub returns : goal.returns
returns c =
    let v = c.level_part.ensures in
    let w = c.level_part-2.ensures in
    let decides = c.same_bytes.ensures in
    (λ t. sym v ∙ decides.0 t ∙ w, λ e. decides.1 (v ∙ e ∙ sym w))
