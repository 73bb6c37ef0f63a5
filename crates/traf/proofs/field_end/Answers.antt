-- `traf::field_end` meets its contract where a version and a track ID is read, by those of `version_end` and `skip_to`.
use Rattle.lists.proofs.Laws.{skipped}
use Rattle.state.specs.Traf.{traf_ends}
use Rattle.traf.specs.Views.{gave_of}
use Rattle.traf.proofs.field_end.Goals as goal

pub returns-in-Version : goal.returns-in-Version
returns-in-Version c = λ f. rw c.in-Version.is (c.version_end.ensures _ _ f)

pub returns-in-TrackId : goal.returns-in-TrackId
unfolding traf_ends
returns-in-TrackId c = λ f. rw c.in-TrackId.is (skipped gave_of f _ _ _ _ c.skip_to.ensures)
