-- How far a `traf` has come, as a number.
use Rattle.std.specs.Prelude.{ℕ, true, false, eqb, ltb}
use Rattle.basics.specs.Choose.{pick}
use Rattle.state.specs.declared.TrafPhase.{TrafPhase}
use Rattle.state.specs.declared.TrafPhase.TheVariants as track

-- 0 before its `tfhd`, 1 once its `tfdt` was read, 2 after a `tfhd` of another track, 3 after one of the reference track
unfoldable pub mark_of : TrafPhase → ℕ
mark_of track.Fresh = 0
mark_of track.Timed = 1
mark_of (track.Headed false) = 2
mark_of (track.Headed true) = 3

-- the phase that a number says
unfoldable pub phase_of : ℕ → TrafPhase
phase_of mark = pick (eqb mark 0) track.Fresh (pick (ltb 1 mark) (track.Headed (eqb mark 3)) track.Timed)
