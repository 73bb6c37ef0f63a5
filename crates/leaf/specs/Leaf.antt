-- What a box gives to the list that it stands in, as the definition says it; and what the code is told of room, and says of what lacks.
use Rattle.std.specs.Prelude.{◌≡◌, ℕ, Bool, Option, Some, None}
use Rattle.basics.specs.Choose.{pick}
use Rattle.state.specs.Flow.{Flow}
use Rattle.state.specs.Rows.{no_room}
use Rattle.state.specs.Leaf.{Passed, skipped, seeing}
use Rattle.state.specs.declared.Seen.{Seen}

-- nothing, or the decode times seen so far
abbrev pub passed_of : Option Seen → Passed
passed_of None = skipped
passed_of (Some seen) = seeing seen

-- whether the leaf table has no room for one more leaf
abbrev pub RoomIs : Bool → Flow → Type 0
RoomIs full f = no_room f.leaves f.table ≡ full

-- the number of what a leaf lacks at its end
unfoldable pub lack_of : Bool → Bool → Option ℕ
lack_of full any = pick full (Some 15) (pick any None (Some 19))
