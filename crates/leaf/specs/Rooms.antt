-- Something that flows with a leaf table that has no room, and with one that has.
use mathlib.Core.Path.{refl}
use mathlib.Core.Bool.{Bool, true, false}
use mathlib.Core.List.{[], ◌∷◌}
use Rattle.basics.specs.Choose.{pick}
use Rattle.state.specs.Flow.{Flow}
use Rattle.table.specs.Table.{room}
use Rattle.state.specs.Calls.{flow_of}
use Rattle.leaf.specs.Leaf.{RoomIs}

-- a leaf table without room, or with room for one leaf, of which none is listed yet
abbrev pub roomy : Bool → Flow
roomy true = flow_of 0 0 0 [] []
roomy false = flow_of 0 0 0 [] (0 ∷ (0 ∷ (0 ∷ (0 ∷ (0 ∷ (0 ∷ []))))))

pub roomy_is : (full : Bool) → RoomIs full (roomy full)
unfolding room pick
roomy_is true = refl
roomy_is false = refl
