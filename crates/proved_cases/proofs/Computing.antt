-- What a proof by computation unfolds: each is nothing but the names on its line.
use Rattle.proved_cases.specs.Segments
use Rattle.basics.specs.Bytes
use Rattle.basics.specs.Choose
use Rattle.basics.specs.Put
use Rattle.segment.specs.Boxes
use Rattle.segment.specs.Leaves
use Rattle.segment.specs.Tree
use Rattle.machine.specs.Faults
use Rattle.machine.specs.Heads
use Rattle.machine.specs.Lists
use Rattle.machine.specs.Limit
use Rattle.machine.specs.Run
use Rattle.table.specs.Table
use Rattle.state.specs.Calls
use Rattle.state.specs.Flow
use Rattle.state.specs.Leaf as StepLeaf
use Rattle.state.specs.Levels
use Rattle.state.specs.Opening as StepOpening
use Rattle.state.specs.Ranges
use Rattle.state.specs.Rows
use Rattle.state.specs.Sidx as StepSidx
use Rattle.state.specs.Stages
use Rattle.state.specs.Step
use Rattle.state.specs.Traf
use Rattle.moment.specs.Moments
use Rattle.covering.specs.Lookup
use Rattle.covering.specs.Records
use Rattle.descent.specs.Leaf as DescentLeaf
use Rattle.descent.specs.Opening as DescentOpening
use Rattle.descent.specs.Sidx as DescentSidx
use Rattle.descent.specs.Whole

-- the bytes of S and T
unfoldable pub the_segments : Unit {0}
unfolding
    Segments.bytes2 Segments.bytes4 Segments.box Segments.plain_version Segments.styp_box Segments.entry Segments.sidx_box
    Segments.tfhd_box Segments.tfdt_box Segments.leaf Segments.index_and_leaves Segments.s_with Segments.s_scaled Segments.t_with
the_segments = tt

-- the tree
unfoldable pub the_tree : Unit {0}
unfolding
    Bytes.number_from
    Choose.pick Choose.and_then
    Boxes.among Boxes.field Boxes.words Boxes.box_of Boxes.first_box Boxes.cut_boxes Boxes.only Boxes.without Boxes.styp_brands
    Boxes.entry_of Boxes.entries_of Boxes.sizes Boxes.durations Boxes.time_bytes Boxes.sidx_index Boxes.tfhd_track Boxes.tfdt_time
    Leaves.moof_first Leaves.boxes_of_leaf Leaves.head_and_time Leaves.traf_times Leaves.gather Leaves.moof_times Leaves.non_empty Leaves.leaf_times Leaves.never_fall
    Tree.open_index Tree.first_index Tree.top_index Tree.boxes_of_gap Tree.material
    Tree.first_time Tree.entry_parts Tree.tile Tree.suits_entry Tree.inner_index Tree.under_index Tree.times_in Tree.leaves_in
    Tree.segment_parts Tree.segment
the_tree = tt

-- the byte definition
unfoldable pub the_bytes : Unit {0}
unfolding
    Bytes.number_from
    Choose.pick
    Faults.shows Faults.lowest Faults.unless
    Heads.sized Heads.step_head
    Lists.headed Lists.step_box Lists.go_on
    Run.lift
    Calls.state_of Calls.work_of Calls.table_of Calls.answer_of Calls.feed_state Calls.feed_of Calls.finish_state Calls.finish_of Calls.finish_after
    Put.put_all Table.room Flow.listed
    StepLeaf.seen_now StepLeaf.begin_moof StepLeaf.step_moof_body StepLeaf.moof_next StepLeaf.step_moof
    StepLeaf.begin_leaf StepLeaf.step_leaf_body StepLeaf.leaf_now StepLeaf.leaf_lacks StepLeaf.leaf_next StepLeaf.step_leaf
    Levels.entry_at Levels.inmost Levels.depth Levels.took_entry Levels.push Levels.still_one Levels.still_two Levels.still_three Levels.still_open Levels.altered
    StepOpening.brands_from StepOpening.styp_ends StepOpening.begin_opening StepOpening.step_opening_body StepOpening.close_opening StepOpening.step_opening
    Ranges.within Ranges.head_bounds Ranges.traf_most Ranges.traf_body_bounds Ranges.traf_bounds Ranges.moof_body_bounds
    Ranges.moof_bounds Ranges.leaf_body_bounds Ranges.leaf_bounds Ranges.index_most Ranges.scale_least Ranges.sizes_read Ranges.durations_read Ranges.sidx_bounds
    Ranges.opening_body_bounds Ranges.opening_bounds Ranges.gap_bounds Ranges.levels_bounds Ranges.inner_bounds Ranges.stage_bounds Ranges.bounds
    Rows.top_lengths Rows.opening_faults Rows.gap_faults Rows.leaf_faults Rows.inner_faults Rows.fresh Rows.headed_track Rows.traf_faults
    StepSidx.part_of StepSidx.sidx_version_faults StepSidx.id_faults StepSidx.scale_faults StepSidx.time_faults
    StepSidx.offset_faults StepSidx.count_faults StepSidx.sum_faults StepSidx.wide_more StepSidx.close_sidx StepSidx.field_ends StepSidx.entry_ends StepSidx.word_place StepSidx.step_sidx
    Stages.gap_next Stages.step_gap Stages.index_ends Stages.onward Stages.step_slot Stages.step_entry Stages.step_stage
    Step.settle Step.step Step.step_all
    Traf.tfdt_version_faults Traf.reference Traf.fall_faults Traf.traf_ends Traf.begin_traf Traf.step_traf_body Traf.saw Traf.traf_now Traf.lacking Traf.traf_next Traf.step_traf
the_bytes = tt

-- the descent
unfoldable pub the_descent : Unit {0}
unfolding
    the_bytes Limit.beyond Heads.sized_d Heads.head_d Lists.box_d Lists.go_on_d Lists.boxes_d Run.either Run.field_d Run.skip_d
    DescentLeaf.tfhd_d DescentLeaf.width_d DescentLeaf.tfdt_d DescentLeaf.traf_body_d DescentLeaf.moof_body_d DescentLeaf.leaf_body_d
    DescentOpening.brands_d DescentOpening.styp_d DescentOpening.opening_body_d
    DescentSidx.close_d DescentSidx.entry_d DescentSidx.entries_d DescentSidx.counted_d DescentSidx.count_d DescentSidx.reserved_d
    DescentSidx.offset_d DescentSidx.time_d DescentSidx.scale_d DescentSidx.id_d DescentSidx.flags_d DescentSidx.version_d DescentSidx.sidx_d
    Whole.gap_d Whole.slot_d Whole.read_back_d Whole.entry_part_d Whole.entry_parts_d Whole.under_d Whole.material_d Whole.segment_d Whole.outcome Whole.whole_d
the_descent = tt

-- the lookup, and the records of leaves
unfoldable pub the_lookup : Unit {0}
unfolding
    Moments.seconds_at Moments.moment_of
    Table.record_at Lookup.record_covers Lookup.covering_from Lookup.outside Lookup.found Lookup.look_at Lookup.lookup_state Lookup.lookup_of Records.records_of
the_lookup = tt
