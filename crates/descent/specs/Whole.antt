-- The segment by structure: the boxes up to the top index, the gap, and the entries of an index, level by level.
use Rattle.std.specs.Prelude.{ℕ, zero, suc, ◌+◌, ◌-◌, ◌*◌, List, [], ◌∷◌, Bool, true, false, eqb, ltb, length, take, drop, Result, Ok, Err}
use Rattle.basics.specs.Choose.{pick}
use Rattle.segment.specs.Constants.{limit, entry_bytes}
use Rattle.machine.specs.declared.Refusal.{Refusal}
use Rattle.machine.specs.Faults.{refusal, lowest, unless}
use Rattle.machine.specs.Run.{Res, okay, fail, cut, after}
use Rattle.machine.specs.Heads.{box_end}
use Rattle.machine.specs.Lists.{box_d, boxes_d}
use Rattle.machine.specs.Limit.{beyond}
use Rattle.state.specs.declared.Top.{Top}
use Rattle.state.specs.declared.Level.{Level}
use Rattle.state.specs.declared.Slot.{Slot}
use Rattle.state.specs.declared.IndexRead.{IndexRead}
use Rattle.state.specs.declared.State.TheVariants as state
use Rattle.state.specs.Flow.{Flow, Left, left, with_now, listed, work_bytes, level_bytes}
use Rattle.state.specs.Opening.{span_of}
use Rattle.state.specs.Sidx.{under}
use Rattle.state.specs.Levels.{entry_at, entry_faults, slot_of, took}
use Rattle.state.specs.declared.StoredEntry.{StoredEntry}
use Rattle.state.specs.Stages.{gap_boxes, top_of, top_level, inner_kind, inner_level, leaf_record}
use Rattle.state.specs.Step.{past_limit, past_material, flow0}
use Rattle.state.specs.Calls.{Out, out, start_of}
use Rattle.descent.specs.Sidx.{sidx_d}
use Rattle.descent.specs.Opening.{opening_d, skip_to}
use Rattle.descent.specs.Leaf.{leaf_d}

abbrev Went : Type 0
Went = Res (Unit {0}) Flow Left

-- the gap of first-offset bytes after the top index
unfoldable pub gap_d : ℕ → Flow → ℕ → List ℕ → Went
gap_d offset f n bs =
    pick (eqb offset 0) (okay tt f n bs)
    (boxes_d (gap_boxes (n + offset)) (λ u h g m cs. skip_to tt (box_end h) g m cs) (length bs) tt f n bs)

-- what an index that stands open covers: so many indexes stand open
abbrev pub UnderD : Type 0
UnderD = ℕ → Level → Flow → ℕ → List ℕ → Went

-- the first box of an index entry
abbrev pub inner_d : Top → Slot → ℕ → Flow → ℕ → List ℕ → Res IndexRead Flow Left
inner_d top slot depth f n bs = box_d (inner_kind top slot depth) (λ h g m cs. sidx_d (under top slot depth) (span_of h) g m cs) f n bs

-- type 0 is a leaf; type 1 covers an inner index followed by all that it indexes
unfoldable pub slot_d : UnderD → Top → ℕ → Bool → Slot → Flow → ℕ → List ℕ → Went
slot_d inner top depth true slot f n bs = after (inner_d top slot depth f n bs) (λ x g m cs. inner (suc depth) (inner_level x slot) g m cs)
slot_d inner top depth false slot f n bs =
    after (leaf_d top.id slot f n bs) (λ seen g m cs. okay tt (listed g (leaf_record slot g.now seen.first) slot.until seen.last) m cs)

unfoldable pub read_back_d : UnderD → Top → ℕ → Level → StoredEntry → Flow → ℕ → List ℕ → Went
read_back_d inner top depth l e f n bs =
    unless (entry_faults l e f.now n) (λ x. fail x (left f) (suc n)) (slot_d inner top depth e.inner (slot_of e f.now n) f n bs)

-- an entry is read back when its first byte comes
unfoldable pub entry_part_d : UnderD → Top → ℕ → Level → Flow → ℕ → List ℕ → Went
entry_part_d inner top depth l f n [] = cut (left f) n
entry_part_d inner top depth l f n (b ∷ bs) =
    read_back_d inner top depth l (entry_at f.work (level_bytes * (depth - 1) + entry_bytes * l.next)) f n (b ∷ bs)

-- so many entries, end to end, in order
unfoldable pub entry_parts_d : UnderD → Top → ℕ → ℕ → Level → Flow → ℕ → List ℕ → Went
entry_parts_d inner top depth zero l f n bs = okay tt f n bs
entry_parts_d inner top depth (suc k) l f n bs = after (entry_part_d inner top depth l f n bs) (λ u g m cs. entry_parts_d inner top depth k (took l) g m cs)

-- the entries of an index, with so many levels left; on level 5 no index is read (row 13)
unfoldable pub under_d : ℕ → Top → UnderD
under_d zero top depth l f n bs = cut (left f) n
under_d (suc levels) top depth l f n bs = entry_parts_d (λ d l' g m cs. under_d levels top d l' g m cs) top depth l.count l f n bs

-- what follows the top index
unfoldable pub material_d : IndexRead → Flow → ℕ → List ℕ → Res Top Flow Left
material_d x f n bs =
    after (gap_d x.offset (with_now f x.time) n bs)
    (λ u g m cs. after (under_d 4 (top_of x) 1 (top_level x n) g m cs) (λ v h k ds. okay (top_of x) h k ds))

unfoldable pub segment_d : ℕ → Flow → ℕ → List ℕ → Res Top Flow Left
segment_d brand f n bs = after (opening_d brand f n bs) (λ x g m cs. material_d x g m cs)

-- what the whole gives: accepted at the material's end, 21 for a byte more, 20 where the bytes end before it
unfoldable pub outcome : Res Top Flow Left → Out (Result ℕ Refusal)
outcome (okay top f n []) = out (Ok f.leaves) (state.Accepted n f.leaves top) f.work f.table
outcome (okay top f n (b ∷ bs)) =
    let x = lowest (past_material n) (past_limit n) in
    out (Err x) (state.Refused (suc n) f.leaves x) f.work f.table
outcome (fail x kept n) = out (Err x) (state.Refused n kept.leaves x) kept.work kept.table
outcome (cut kept n) = out (Err (refusal 20 n)) (state.Refused n kept.leaves (refusal 20 n)) kept.work kept.table

-- row 3 is met at the byte after the limit, whatever stands there
abbrev pub read_d : ℕ → List ℕ → List ℕ → List ℕ → Res Top Flow Left
read_d brand bytes work table = beyond (refusal 3 limit) (segment_d brand (flow0 work table) 0 (take limit bytes)) (drop limit bytes)

-- The descent: the whole list read by structure; number 1 comes first.
unfoldable pub whole_d : ℕ → List ℕ → List ℕ → List ℕ → Out (Result ℕ Refusal)
whole_d brand bytes work table =
    pick (ltb (length work) work_bytes) (out (Err (refusal 1 0)) (start_of brand) work table)
    (outcome (read_d brand bytes work table))
