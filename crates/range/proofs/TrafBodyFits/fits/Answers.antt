-- `TrafBody::fits` meets its contract: its number's ranges are low enough to be computed, by that of `traf_most` and the law `traf_low`.
use Rattle.range.proofs.Joined.{traf_low}
use Rattle.range.proofs.TrafBodyFits.fits.Goals as goal

pub spelling_fits-requires : goal.spelling_fits-requires
spelling_fits-requires c = rw c.traf_most.ensures (traf_low c.in-Field.part)
