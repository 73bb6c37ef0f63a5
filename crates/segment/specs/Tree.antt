-- Which lists of bytes are segments, and with which leaves: rules 1 to 7 over the whole list.
--
--   rule 1   `top_index`, `first_index`; the gap: `boxes_of_gap`
--   rule 2   `material`
--   rule 3   `tile`, `entry_parts`; the same rule at every level: `under_index`; at most 4 levels: `levels`, in `segment_parts`
--   rule 4   `inner_index`, `suits_entry`
--   rule 5   specs `Leaves`, `boxes_of_leaf`
--   rule 6   specs `Leaves`, `traf_times`, `leaf_times`; through the segment: `never_fall`, in `segment_parts`
--   rule 7   the order of `leaves_in`; when each starts: `segment_parts`, `tile`; what it covers: `covers`
--   limits   of bytes: `limit`; of times: `time_limit`; of levels: `levels`; all in `segment_parts`
use Rattle.std.specs.Prelude.{ℕ, zero, suc, ◌+◌, ◌-◌, List, [], ◌∷◌, ◌++◌, Bool, false, ◌&&◌, eqb, ltb, leb, length, take, drop}
use Rattle.std.proofs.Math.Option.{Option, some, none}
use Rattle.basics.specs.Choose.{pick, and_then}
use Rattle.segment.specs.Constants.{limit, time_limit, levels, styp, sidx}
use Rattle.segment.specs.Boxes.{provided, except, among, Box, top_kinds, first_box, boxes, without, styp_brands, Entry, sizes, durations, Index, sidx_index}
use Rattle.segment.specs.Leaves.{leaf_times, never_fall}

-- the box of an index, the index that its body says, and the bytes after the box
pub record Opened : Type 0 where
  pub box : Box
  pub index : Index
  pub rest : List ℕ

unfoldable pub open_index : Box → List ℕ → Option Opened
open_index b xs = and_then (sidx_index b.body) (λ i. some (record { box = b; index = i; rest = drop b.size xs }))

-- Rule 1. The first `sidx` is the top index. Only skipped boxes stand before it.
unfoldable pub first_index : ℕ → List ℕ → Option Opened
first_index zero xs = none
first_index (suc k) xs =
    and_then (first_box xs) (λ b.
    pick (eqb b.kind sidx) (open_index b xs)
    (except (among b.kind top_kinds) (first_index k (drop b.size xs))))

-- Rule 1. The first box is `styp`, with the brand wanted among the compatible ones. Then comes the top index.
unfoldable pub top_index : ℕ → List ℕ → Option Opened
top_index brand xs =
    and_then (first_box xs) (λ b.
    provided (eqb b.kind styp)
    (and_then (styp_brands b.body) (λ brands.
    provided (among brand brands)
    (first_index (length xs) (drop b.size xs)))))

-- Rule 1. Only skipped boxes stand in the gap.
unfoldable pub boxes_of_gap : List ℕ → Option (List Box)
boxes_of_gap xs = and_then (boxes xs) (λ bs. provided (without top_kinds bs) (some bs))

-- Rule 2. The material starts at the end of the top index plus its first offset, is as long as the sum of its entry sizes, and ends the
-- segment.
unfoldable pub material : Opened → Option (List ℕ)
material top =
    provided (eqb (length top.rest) (top.index.offset + sizes top.index.entries))
    (and_then (boxes_of_gap (take top.index.offset top.rest)) (λ gap.
    some (drop top.index.offset top.rest)))

-- A leaf: position, size, start, duration, SAP word, first decode time of the reference track.
pub record Leaf : Type 0 where
  pub position : ℕ
  pub size : ℕ
  pub start : ℕ
  pub duration : ℕ
  pub sap : ℕ
  pub time : ℕ

-- A part of the material: a leaf with all its decode times of the reference track, or the box of an inner index with its position and size.
pub data Part : Type 0 where
  leaf_part : Leaf → List ℕ → Part
  index_part : ℕ → ℕ → Part

-- the first of a leaf's decode times
unfoldable pub first_time : List ℕ → ℕ
first_time [] = 0
first_time (t ∷ ts) = t

-- the leaf of an entry at a position, with its start and its decode times
abbrev pub leaf_of : ℕ → ℕ → Entry → List ℕ → Leaf
leaf_of position start e times =
    record { position = position; size = e.size; start = start; duration = e.duration; sap = e.sap; time = first_time times }

-- the parts under an index entry: of its position, its start, its duration and its bytes
abbrev pub PartsUnder : Type 0
PartsUnder = ℕ → ℕ → ℕ → List ℕ → Option (List Part)

-- Rule 3. Type 0 is a leaf. Type 1 covers an inner index followed by all that it indexes.
unfoldable pub entry_parts : ℕ → PartsUnder → ℕ → ℕ → Entry → List ℕ → Option (List Part)
entry_parts track under position start e xs =
    pick (eqb e.kind 0)
    (and_then (leaf_times track xs) (λ times. some (leaf_part (leaf_of position start e times) times ∷ [])))
    (under position start e.duration xs)

-- Rules 3 and 7. Entries lie end to end, in order, and each starts where the last ended. Rules 2 and 4 make the bytes as many as the
-- entry sizes say.
unfoldable pub tile : ℕ → PartsUnder → ℕ → ℕ → List Entry → List ℕ → Option (List Part)
tile track under position start [] xs = some []
tile track under position start (e ∷ es) xs =
    and_then (entry_parts track under position start e (take e.size xs)) (λ parts.
    and_then (tile track under (position + e.size) (start + e.duration) es (drop e.size xs)) (λ more.
    some (parts ++ more)))

-- Rule 4. An inner index has its parent's reference ID and timescale, first offset 0, and the start time at which its entry stands. Its
-- durations sum to the entry's duration; its box size plus its entry sizes make the entry's size.
unfoldable pub suits_entry : ℕ → ℕ → ℕ → ℕ → ℕ → Opened → Bool
suits_entry id scale start duration size inner =
    eqb inner.index.id id && eqb inner.index.scale scale
    && eqb inner.index.offset 0 && eqb inner.index.time start
    && eqb (durations inner.index.entries) duration
    && eqb (inner.box.size + sizes inner.index.entries) size

-- Rules 3 and 4. An index entry starts with the box of an inner index, which suits it.
unfoldable pub inner_index : ℕ → ℕ → ℕ → ℕ → List ℕ → Option Opened
inner_index id scale start duration xs =
    and_then (first_box xs) (λ b.
    provided (eqb b.kind sidx)
    (and_then (open_index b xs) (λ inner.
    provided (suits_entry id scale start duration (length xs) inner)
    (some inner))))

-- Rule 3. The tree under an index entry obeys the same rule at every level, with so many levels left: the box of the inner index, and then
-- the parts of that index's entries.
unfoldable pub under_index : ℕ → ℕ → ℕ → PartsUnder
under_index id scale zero position start duration xs = none
under_index id scale (suc left) position start duration xs =
    and_then (inner_index id scale start duration xs) (λ inner.
    and_then (tile id (λ p s d ys. under_index id scale left p s d ys) (position + inner.box.size) start inner.index.entries inner.rest) (λ parts.
    some (index_part position inner.box.size ∷ parts)))

-- the decode times of the leaves among parts, and the leaves, in order
unfoldable pub times_in : List Part → List ℕ
times_in [] = []
times_in (leaf_part l times ∷ ps) = times ++ times_in ps
times_in (index_part position size ∷ ps) = times_in ps

unfoldable pub leaves_in : List Part → List Leaf
leaves_in [] = []
leaves_in (leaf_part l times ∷ ps) = l ∷ leaves_in ps
leaves_in (index_part position size ∷ ps) = leaves_in ps

-- The parts of a segment of a brand. Rule 3: at most 4 levels with the top one. Rule 6: decode times of the reference track never fall
-- through the segment. Rule 7: the first leaf starts at the top index's earliest presentation time. A segment has at most `limit` bytes,
-- and its start plus durations is below `time_limit`.
unfoldable pub segment_parts : ℕ → List ℕ → Option (List Part)
segment_parts brand xs =
    except (ltb limit (length xs))
    (and_then (top_index brand xs) (λ top.
    provided (ltb (top.index.time + durations top.index.entries) time_limit)
    (and_then (material top) (λ ys.
    and_then (tile top.index.id (under_index top.index.id top.index.scale (levels - 1))
    (length xs - length ys) top.index.time top.index.entries ys) (λ parts.
    provided (never_fall 0 (times_in parts))
    (some parts))))))

-- The leaves of a segment. Rule 7: they are numbered from 1, in order.
unfoldable pub segment : ℕ → List ℕ → Option (List Leaf)
segment brand xs = and_then (segment_parts brand xs) (λ parts. some (leaves_in parts))

-- Rule 7. A leaf covers t when start ≤ t < start + duration.
unfoldable pub covers : ℕ → Leaf → Bool
covers t leaf = pick (leb leaf.start t) (ltb t (leaf.start + leaf.duration)) false
