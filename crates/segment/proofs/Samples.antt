-- Small lists of bytes, read by computation: how long boxes and bodies are, which versions, counts and sizes there are, and how many
-- levels of indexes. Beside what is refused stands what is accepted.
use Prim.Native.Nat.{ℕ, zero, suc, ◌+◌, ◌*◌, ◌/◌, ◌%◌}
use mathlib.Core.Path.{◌≡◌, refl}
use mathlib.Core.List.{List, [], ◌∷◌, ◌++◌}
use mathlib.Core.Option.{Option, some, none}
use lib.ListN.{length, take}
use Rattle.basics.specs.Bytes
use Rattle.basics.specs.Choose
use Rattle.segment.specs.Constants.{type_bit, styp, sidx, moof, traf, tfhd, tfdt, tfad, mdat}
use Rattle.segment.specs.Boxes
use Rattle.segment.specs.Boxes.{Box, first_box, styp_brands, Entry, Index, sidx_index, tfhd_track, tfdt_time}
use Rattle.segment.specs.Leaves
use Rattle.segment.specs.Leaves.{traf_times, leaf_times}
use Rattle.segment.specs.Tree
use Rattle.segment.specs.Tree.{Leaf, segment}

-- a brand, a type that is not known, and the SAP word of every entry here
abbrev msdh : ℕ
msdh = 0x6d_73_64_68

abbrev free : ℕ
free = 0x66_72_65_65

abbrev sap_word : ℕ
sap_word = 2415919104

-- a number as two bytes, and as four
unfoldable pub two : ℕ → List ℕ
two n = n / 256 % 256 ∷ n % 256 ∷ []

unfoldable pub four : ℕ → List ℕ
four n = n / 16777216 % 256 ∷ n / 65536 % 256 ∷ n / 256 % 256 ∷ n % 256 ∷ []

-- a box: a size, a type, a body; and one of the size that its body makes
unfoldable pub box_of : ℕ → ℕ → List ℕ → List ℕ
box_of size kind body = four size ++ four kind ++ body

unfoldable pub box : ℕ → List ℕ → List ℕ
box kind body = box_of (8 + length body) kind body

-- an entry: type, size, duration
unfoldable pub entry : ℕ → ℕ → ℕ → List ℕ
entry kind size duration = four (type_bit * kind + size) ++ four duration ++ four sap_word

-- the body of a `sidx`: version 0, and version 1; reference ID 1, time 5000
unfoldable pub sidx_body : ℕ → ℕ → ℕ → List ℕ → List ℕ
sidx_body scale offset count entries = four 0 ++ four 1 ++ four scale ++ four 5000 ++ four offset ++ two 0 ++ two count ++ entries

unfoldable pub wide_body : ℕ → List ℕ → List ℕ
wide_body version entries =
    version ∷ 0 ∷ 0 ∷ 0 ∷ [] ++ four 1 ++ four 1000 ++ four 0 ++ four 5000 ++ four 0 ++ four 0 ++ two 0 ++ two 1 ++ entries

-- a `styp` that lists `msdh`, an index of one entry, a leaf of 60 bytes, and levels of indexes over it
unfoldable pub styp_box : List ℕ
styp_box = box styp (four free ++ four 0 ++ four msdh)

unfoldable pub one_entry : ℕ → ℕ → ℕ → List ℕ
one_entry offset kind size = box sidx (sidx_body 1000 offset 1 (entry kind size 2000))

unfoldable pub traf_of : List ℕ → List ℕ
traf_of more = box tfhd (four 0 ++ four 1) ++ box tfdt (four 0 ++ four 100) ++ more

unfoldable pub leaf : List ℕ
leaf = box moof (box traf (traf_of [])) ++ box mdat (four 0)

unfoldable pub chain : ℕ → List ℕ
chain zero = leaf
chain (suc zero) = one_entry 0 0 60 ++ leaf
chain (suc (suc n)) = one_entry 0 1 (60 + 44 * suc n) ++ chain (suc n)

the_samples : Unit {0}
unfolding
    two four box_of box entry sidx_body wide_body styp_box one_entry traf_of leaf chain
    Bytes.number_from
    Choose.pick Choose.and_then
    Boxes.among Boxes.field Boxes.words Boxes.box_of Boxes.first_box Boxes.cut_boxes Boxes.only Boxes.without Boxes.styp_brands
    Boxes.entry_of Boxes.entries_of Boxes.sizes Boxes.durations Boxes.time_bytes Boxes.sidx_index Boxes.tfhd_track Boxes.tfdt_time
    Leaves.moof_first Leaves.boxes_of_leaf Leaves.head_and_time Leaves.traf_times Leaves.gather Leaves.moof_times Leaves.non_empty Leaves.leaf_times Leaves.never_fall
    Tree.open_index Tree.first_index Tree.top_index Tree.boxes_of_gap Tree.material
    Tree.first_time Tree.entry_parts Tree.tile Tree.suits_entry Tree.inner_index Tree.under_index Tree.times_in Tree.leaves_in
    Tree.segment_parts Tree.segment
the_samples = tt

-- Boxes. A size counts the header; size 0 is no box, and so is one under the header or past the bytes.
abbrev boxed : ℕ → ℕ → List ℕ → Option Box
boxed kind size body = some (record { kind = kind; size = size; body = body })

pub box_sizes :
    (first_box (box_of 8 free []) ≡ boxed free 8 []) × (first_box (box_of 10 free (1 ∷ 2 ∷ 3 ∷ [])) ≡ boxed free 10 (1 ∷ 2 ∷ []))
    × (first_box (box_of 0 free (1 ∷ 2 ∷ [])) ≡ none) × (first_box (box_of 7 free (1 ∷ 2 ∷ [])) ≡ none) × (first_box (box_of 11 free (1 ∷ 2 ∷ [])) ≡ none)
    × (first_box (four 8 ++ take 3 (four free)) ≡ none)
unfolding the_samples
box_sizes = (refl, refl, refl, refl, refl, refl)

-- Size 1 means that a 64-bit size follows the type; it counts 16 bytes of header.
pub box_large_sizes :
    (first_box (box_of 1 free (four 0 ++ four 16)) ≡ boxed free 16 []) × (first_box (box_of 1 free (four 0 ++ four 17 ++ (9 ∷ 9 ∷ []))) ≡ boxed free 17 (9 ∷ []))
    × (first_box (box_of 1 free (four 0 ++ four 15)) ≡ none) × (first_box (box_of 1 free (four 0 ++ four 17)) ≡ none)
    × (first_box (box_of 1 free (four 0 ++ take 3 (four 16))) ≡ none)
unfolding the_samples
box_large_sizes = (refl, refl, refl, refl, refl)

-- `styp`: a body of at least 8 and a multiple of 4; its major brand is none of the compatible ones.
pub styp_lengths :
    (styp_brands (four msdh ++ four 0) ≡ some []) × (styp_brands (four msdh ++ four 0 ++ four free) ≡ some (free ∷ []))
    × (styp_brands (four msdh) ≡ none) × (styp_brands (four msdh ++ four 0 ++ take 2 (four free)) ≡ none)
unfolding the_samples
styp_lengths = (refl, refl, refl, refl)

-- `sidx`: its length is 24 + 12·count in version 0 and 32 + 12·count in version 1, and there is no version 2.
abbrev index_of : List Entry → Option Index
index_of entries = some (record { id = 1; scale = 1000; time = 5000; offset = 0; entries = entries })

abbrev leaf_entry : Entry
leaf_entry = record { kind = 0; size = 60; duration = 2000; sap = sap_word }

pub sidx_lengths :
    (sidx_index (sidx_body 1000 0 1 (entry 0 60 2000)) ≡ index_of (leaf_entry ∷ []))
    × (sidx_index (sidx_body 1000 0 2 (entry 0 60 2000 ++ entry 0 60 2000)) ≡ index_of (leaf_entry ∷ leaf_entry ∷ []))
    × (sidx_index (wide_body 1 (entry 0 60 2000)) ≡ index_of (leaf_entry ∷ []))
    × (sidx_index (sidx_body 1000 0 1 (entry 0 60 2000 ++ 0 ∷ [])) ≡ none) × (sidx_index (sidx_body 1000 0 1 (take 11 (entry 0 60 2000))) ≡ none)
    × (sidx_index (wide_body 1 (entry 0 60 2000 ++ 0 ∷ [])) ≡ none) × (sidx_index (wide_body 2 (entry 0 60 2000)) ≡ none)
unfolding the_samples
sidx_lengths = (refl, refl, refl, refl, refl, refl, refl)

-- Its timescale, its count and the sizes of its entries are not 0. The first bit of an entry is its type.
pub sidx_zeros :
    (sidx_index (sidx_body 0 0 1 (entry 0 60 2000)) ≡ none) × (sidx_index (sidx_body 1000 0 0 []) ≡ none) × (sidx_index (sidx_body 1000 0 1 (entry 1 0 2000)) ≡ none)
    × (sidx_index (sidx_body 1000 0 1 (entry 1 60 2000)) ≡ index_of (record { kind = 1; size = 60; duration = 2000; sap = sap_word } ∷ []))
unfolding the_samples
sidx_zeros = (refl, refl, refl, refl)

-- `tfhd`: a body of at least 8, of which the rest is ignored.
pub tfhd_lengths : (tfhd_track (four 9 ++ four 7) ≡ some 7) × (tfhd_track (four 9 ++ four 7 ++ (1 ∷ [])) ≡ some 7) × (tfhd_track (four 9 ++ take 3 (four 7)) ≡ none)
unfolding the_samples
tfhd_lengths = (refl, refl, refl)

-- `tfdt`: a body of 8 in version 0 and of 12 in version 1, and there is no version 2.
pub tfdt_lengths :
    (tfdt_time (four 0 ++ four 100) ≡ some 100) × (tfdt_time (1 ∷ 0 ∷ 0 ∷ 0 ∷ [] ++ four 1 ++ four 100) ≡ some 4294967396)
    × (tfdt_time (four 0 ++ four 0 ++ four 100) ≡ none) × (tfdt_time (1 ∷ 0 ∷ 0 ∷ 0 ∷ [] ++ four 100) ≡ none)
    × (tfdt_time (2 ∷ 0 ∷ 0 ∷ 0 ∷ [] ++ four 1 ++ four 100) ≡ none)
unfolding the_samples
tfdt_lengths = (refl, refl, refl, refl, refl)

-- Rule 6: a `traf` of another track gives no time, one with skipped boxes gives the time that it has, one with a `tfad` is none.
pub traf_times_lem :
    (traf_times 1 (traf_of []) ≡ some (100 ∷ [])) × (traf_times 2 (traf_of []) ≡ some []) × (traf_times 1 (traf_of (box free [])) ≡ some (100 ∷ []))
    × (traf_times 1 (traf_of (box tfad [])) ≡ none)
unfolding the_samples
traf_times_lem = (refl, refl, refl, refl)

-- Rules 5 and 6: a leaf has a time of the reference track, and no `mdat` before its `moof`.
pub leaf_times_lem :
    (leaf_times 1 leaf ≡ some (100 ∷ [])) × (leaf_times 2 leaf ≡ none) × (leaf_times 1 (box mdat (four 0)) ≡ none)
    × (leaf_times 1 (box mdat (four 0) ++ leaf) ≡ none) × (leaf_times 1 (box free [] ++ leaf) ≡ some (100 ∷ []))
unfolding the_samples
leaf_times_lem = (refl, refl, refl, refl, refl)

-- Rule 1: skipped boxes stand before the top index and in the gap of first-offset bytes after it.
abbrev leaf_at : ℕ → Option (List Leaf)
leaf_at position = some (record { position = position; size = 60; start = 5000; duration = 2000; sap = sap_word; time = 100 } ∷ [])

pub boxes_skipped :
    (segment msdh (styp_box ++ box free (1 ∷ []) ++ one_entry 10 0 60 ++ box free (1 ∷ 2 ∷ []) ++ leaf) ≡ leaf_at 83)
    × (segment free (styp_box ++ chain 1) ≡ none) × (segment msdh (styp_box ++ styp_box ++ chain 1) ≡ none)
unfolding the_samples
boxes_skipped = (refl, refl, refl)

-- Rule 3: at most 4 levels with the top one.
pub levels_four : segment msdh (styp_box ++ chain 4) ≡ leaf_at 196
unfolding the_samples
levels_four = refl

pub levels_five : segment msdh (styp_box ++ chain 5) ≡ none
unfolding the_samples
levels_five = refl
