-- The places of docs/STATE.md, "The state as numbers", by computation: a start, a state in a leaf and one in an inner index, number by
-- number; and what is no state.
use Prim.Native.Nat.{ℕ}
use mathlib.Core.Path.{◌≡◌, refl}
use mathlib.Core.List.{List, [], ◌∷◌, ◌++◌}
use mathlib.Core.Bool.{true, false}
use mathlib.Core.Option.{some, none}
use lib.ListN.{replicate, set}
use Rattle.basics.specs.Choose
use Rattle.state.specs.declared.Levels.TheVariants as levels
use Rattle.state.specs.declared.EntryPart.TheVariants as entry
use Rattle.state.specs.declared.Sidx.TheVariants as sidx
use Rattle.state.specs.declared.InnerBox.TheVariants as inners
use Rattle.state.specs.declared.TrafPhase.TheVariants as track
use Rattle.state.specs.declared.TrafPart.TheVariants as trafPart
use Rattle.state.specs.declared.TrafBody.TheVariants as trafs
use Rattle.machine.specs.declared.BoxesSo.TheVariants as inBoxes
use Rattle.state.specs.declared.MoofBody.TheVariants as moofs
use Rattle.state.specs.declared.LeafBody.TheVariants as leaves
use Rattle.state.specs.declared.Stage.TheVariants as stage
use Rattle.state.specs.declared.State.{State}
use Rattle.state.specs.declared.State.TheVariants as state
use Rattle.state.specs.Ranges
use Rattle.state.specs.Calls.{start_of}
use Rattle.numbered.specs.Numbers
use Rattle.numbered.specs.Numbers.{numbers_of}
use Rattle.numbered.specs.Blocks
use Rattle.numbered.specs.Unpacked
use Rattle.numbered.specs.Unpacked.{unpack_of}

-- the start with the brand `msdh`
abbrev msdh : ℕ
msdh = 1836278888

abbrev start_numbers : List ℕ
start_numbers = 1 ∷ 0 ∷ 0 ∷ 0 ∷ 0 ∷ 1 ∷ msdh ∷ 1 ∷ 0 ∷ 1 ∷ replicate 47 0

pub start_numbers_lem : numbers_of (start_of msdh) ≡ start_numbers
unfolding Choose.pick Numbers.flag_number Numbers.padded Numbers.head_numbers Numbers.opening_numbers Numbers.stage_numbers Numbers.used_numbers
start_numbers_lem = refl

-- In these two states a number that is no tag and no flag is 100 and its place.
-- In a leaf under two indexes: the decode time of a `tfdt` is being read, in a `traf` whose `tfhd` names the reference track.
abbrev in_leaf : State
in_leaf =
    state.Reading 101 102 103 104
    (stage.Leaf (record { id = 106; scale = 107; start = 108; durations = 109 })
    (levels.Two (record { next = 111; count = 112; end = 113; until = 114 }) (record { next = 115; count = 116; end = 117; until = 118 }))
    (record { pos = 127; end = 128; until = 129; sap = 130 })
    (inBoxes.Body (record { moof = true; seen = record { any = false; first = 134; last = 135 } })
    (leaves.Moof 137
    (inBoxes.Body (record { any = true; first = 140; last = 141 })
    (moofs.Traf (record { pos = 143; end = 144 })
    (inBoxes.Body (record { track = track.Headed true; seen = record { any = false; first = 149; last = 150 } })
    (trafs.Field (trafPart.Time 153) 155 156)))))))

pub leaf_numbers :
    numbers_of in_leaf ≡
    1 ∷ 101 ∷ 102 ∷ 103 ∷ 104 ∷ 4 ∷ 106 ∷ 107 ∷ 108 ∷ 109
    ∷ 2 ∷ 111 ∷ 112 ∷ 113 ∷ 114 ∷ 115 ∷ 116 ∷ 117 ∷ 118 ∷ 0
    ∷ 0 ∷ 0 ∷ 0 ∷ 0 ∷ 0 ∷ 0 ∷ 0 ∷ 127 ∷ 128 ∷ 129
    ∷ 130 ∷ 2 ∷ 1 ∷ 0 ∷ 134 ∷ 135 ∷ 2 ∷ 137 ∷ 2 ∷ 1
    ∷ 140 ∷ 141 ∷ 2 ∷ 143 ∷ 144 ∷ 2 ∷ 2 ∷ 1 ∷ 0 ∷ 149
    ∷ 150 ∷ 3 ∷ 5 ∷ 153 ∷ 0 ∷ 155 ∷ 156 ∷ []
unfolding
    Choose.pick Numbers.flag_number Numbers.padded Numbers.levels_numbers Numbers.traf_phase_numbers Numbers.traf_part_numbers Numbers.traf_body_numbers
    Numbers.traf_numbers Numbers.moof_body_numbers Numbers.moof_numbers Numbers.leaf_body_numbers Numbers.leaf_numbers Numbers.stage_numbers Numbers.used_numbers
leaf_numbers = refl

-- In an inner index under three others: the duration of one of its entries is being read.
abbrev in_inner : State
in_inner =
    state.Reading 101 102 103 104
    (stage.Inner (record { id = 106; scale = 107; start = 108; durations = 109 })
    (levels.Three (record { next = 111; count = 112; end = 113; until = 114 }) (record { next = 115; count = 116; end = 117; until = 118 })
    (record { next = 119; count = 120; end = 121; until = 122 }))
    (record { pos = 127; end = 128; until = 129; sap = 130 })
    (inners.Body (record { pos = 132; end = 133 })
    (sidx.Entry entry.Duration (record { wide = true; id = 137; scale = 138; time = 139; offset = 140 })
    (record { next = 141; count = 142; sizes = 143; durations = 144 }) 145 146)))

pub inner_numbers :
    numbers_of in_inner ≡
    1 ∷ 101 ∷ 102 ∷ 103 ∷ 104 ∷ 5 ∷ 106 ∷ 107 ∷ 108 ∷ 109
    ∷ 3 ∷ 111 ∷ 112 ∷ 113 ∷ 114 ∷ 115 ∷ 116 ∷ 117 ∷ 118 ∷ 119
    ∷ 120 ∷ 121 ∷ 122 ∷ 0 ∷ 0 ∷ 0 ∷ 0 ∷ 127 ∷ 128 ∷ 129
    ∷ 130 ∷ 2 ∷ 132 ∷ 133 ∷ 2 ∷ 2 ∷ 1 ∷ 137 ∷ 138 ∷ 139
    ∷ 140 ∷ 141 ∷ 142 ∷ 143 ∷ 144 ∷ 145 ∷ 146 ∷ 0 ∷ 0 ∷ 0
    ∷ 0 ∷ 0 ∷ 0 ∷ 0 ∷ 0 ∷ 0 ∷ 0 ∷ []
unfolding
    Choose.pick Numbers.flag_number Numbers.padded Numbers.levels_numbers Numbers.entry_part_number Numbers.sidx_numbers Numbers.inner_numbers Numbers.stage_numbers
    Numbers.used_numbers
inner_numbers = refl

-- No state: zeros alone; and the numbers of a start, which are one, with a tag that is not listed, a flag of 2, a number at a place that
-- is not used, one number too many, or a count above the limit.
pub no_states :
    (unpack_of start_numbers ≡ some (start_of msdh)) × (unpack_of (replicate 57 0) ≡ none) × (unpack_of (set start_numbers 0 5) ≡ none)
    × (unpack_of (set start_numbers 8 2) ≡ none) × (unpack_of (set start_numbers 56 1) ≡ none) × (unpack_of (start_numbers ++ 0 ∷ []) ≡ none)
    × (unpack_of (set start_numbers 1 268435457) ≡ none)
unfolding
    Choose.pick Numbers.flag_number Numbers.padded Numbers.head_numbers Numbers.opening_numbers Numbers.stage_numbers Numbers.used_numbers
    Blocks.of_two Blocks.of_three Blocks.of_four Unpacked.same_numbers Unpacked.unpack_of
    Ranges.within Ranges.head_bounds Ranges.opening_bounds Ranges.stage_bounds Ranges.bounds
no_states = (refl, refl, refl, refl, refl, refl, refl)
