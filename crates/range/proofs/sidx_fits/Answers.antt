-- `range::sidx_fits` meets its contract, by those of `index_most`, `scale_least`, `draft_fits`, `spelling_fits` and `sums_fit`, by the laws `joined` and `index_low`, and by the
-- definition of `sidx_bounds`.
use Rattle.state.specs.Ranges.{sidx_bounds}
use Rattle.range.proofs.Joined.{joined, index_low}
use Rattle.range.proofs.sidx_fits.Goals as goal

pub spelling_fits-requires : goal.spelling_fits-requires
spelling_fits-requires c = rw c.index_most-most.ensures (index_low c.in-Field.part c.in-Field.draft.wide)

pub returns-in-Field : goal.returns-in-Field
unfolding sidx_bounds
returns-in-Field c = rw (c.in-Field.is, ← c.index_most-most.ensures, ← c.scale_least-least.ensures)
    (joined _ _ c.draft_fits.ensures c.spelling_fits.ensures)

pub returns-in-Entry : goal.returns-in-Entry
unfolding sidx_bounds
returns-in-Entry c = rw c.in-Entry.is
    (joined _ _ (joined _ _ c.draft_fits-in-Entry.ensures c.sums_fit.ensures) c.spelling_fits-in-Entry.ensures)
