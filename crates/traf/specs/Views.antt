-- What a box of a `traf` gives, as the definition says it; and what the code says of what a `traf` lacks.
use Rattle.std.specs.Prelude.{ℕ, Option, Some, None}
use Rattle.state.specs.Traf.{Gave, nothing, headed, timed}
use Rattle.state.specs.declared.TrafPhase.{TrafPhase}
use Rattle.state.specs.declared.TrafPhase.TheVariants as track
use Rattle.traf.specs.declared.Given.{Given}
use Rattle.traf.specs.declared.Given.TheVariants as given

abbrev pub gave_of : Given → Gave
gave_of given.Nothing = nothing
gave_of (given.Headed r) = headed r
gave_of (given.Timed r pos v) = timed r pos v

-- the number of what a `traf` lacks at its end
unfoldable pub lack_of : TrafPhase → Option ℕ
lack_of track.Fresh = Some 16
lack_of (track.Headed r) = Some 16
lack_of track.Timed = None
