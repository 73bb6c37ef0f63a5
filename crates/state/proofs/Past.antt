-- The work area past its four levels: no byte is stored there.
use Prim.Native.Nat.{ℕ, ◌+◌, ◌*◌, ◌≤◌, ◌<◌}
use mathlib.Core.Path.{◌≡◌, refl}
use mathlib.Core.List.{List, [], ◌∷◌, ◌++◌}
use mathlib.Core.Option.{some}
use native.Mathlib.Omega.{arith}
use lib.ListN.{length, get_or}
use Rattle.basics.specs.Bytes.{AllBytes}
use Rattle.state.specs.Flow.{work_bytes, level_bytes}
use Rattle.state.specs.declared.Sidx.{Sidx}
use Rattle.state.specs.declared.Sidx.TheVariants as sidx
use Rattle.state.specs.declared.OpeningBody.{OpeningBody}
use Rattle.state.specs.declared.OpeningBody.TheVariants as openings
use Rattle.state.specs.Boxed.{OpeningBoxes}
use Rattle.machine.specs.declared.BoxesSo.TheVariants as inBoxes
use Rattle.state.specs.declared.InnerBox.TheVariants as inners
use Rattle.state.specs.declared.Stage.{Stage}
use Rattle.state.specs.declared.Stage.TheVariants as stage
use Rattle.state.specs.declared.State.{State}
use Rattle.state.specs.Sidx.{Place, topmost, under, part_of, word_place, byte_place}
use Rattle.state.specs.Levels.{depth}
use Rattle.state.specs.Step.{World, reading, ended, refused, step}
use Rattle.state.specs.Ranges.{Within, sidx_bounds, opening_body_bounds, opening_bounds, top_bounds, levels_bounds, slot_bounds, inner_bounds, stage_bounds, bounds, InRange}
use Rattle.state.specs.Calls.{state_of, work_of, table_of, feed_of}
use Rattle.state.specs.Places.{sidx_byte, opening_body_byte, opening_byte, stage_byte}
use Rattle.state.specs.Named.{entry_byte, Spared}
use Rattle.state.proofs.Frames.{work_length, feed_spared}
use Rattle.state.proofs.Cuts.{back_state, feed_inside}
use Rattle.state.proofs.Kept.{feed_cases}
use Rattle.state.proofs.RangeNumbers.{word_most}
use Rattle.state.proofs.RangeTests.{in_range_lem, within_second}
use Rattle.state.proofs.Ranges.{step_kept}

-- an entry's byte is stored inside its level's part
sidx_place : (p : Place) (s : Sidx) (i : ℕ) → Within (sidx_bounds s) → sidx_byte p s ≡ some i → i < part_of p + level_bytes
unfolding sidx_bounds sidx_byte
sidx_place p (sidx.Field k d more acc) i h e = let z : ◌≡◌ {A = ℕ} 0 1 = cc in absurd (omega arith)
sidx_place p (sidx.Entry k d s more acc) i h e =
    let same : byte_place p k s more ≡ i = cc in
    let word : word_place k ≤ 8 = word_most k in
    let next : s.next < s.count = h.1.1.1.0 in
    let most : s.count ≤ 1024 = h.1.1.1.1.0 in
    omega arith

opening_body_place : (s : OpeningBody) (i : ℕ) → Within (opening_body_bounds s) → opening_body_byte s ≡ some i → i < work_bytes
unfolding opening_body_bounds opening_body_byte part_of
opening_body_place (openings.Skip stop) i h e = let z : ◌≡◌ {A = ℕ} 0 1 = cc in absurd (omega arith)
opening_body_place (openings.Styp span p found more acc) i h e = let z : ◌≡◌ {A = ℕ} 0 1 = cc in absurd (omega arith)
opening_body_place (openings.Index span s) i h e = let fits : i < 0 + level_bytes = sidx_place topmost s i h e in omega arith

opening_place : (s : OpeningBoxes) (i : ℕ) → Within (opening_bounds s) → opening_byte s ≡ some i → i < work_bytes
unfolding opening_bounds opening_byte
opening_place (inBoxes.Head branded k) i h e = let z : ◌≡◌ {A = ℕ} 0 1 = cc in absurd (omega arith)
opening_place (inBoxes.Body branded s) i h e = opening_body_place s i h e

stage_place : (s : Stage) (now i : ℕ) → Within (stage_bounds s now) → stage_byte s ≡ some i → i < work_bytes
unfolding stage_bounds stage_byte inner_bounds part_of
stage_place (stage.Opening brand s) now i h e = opening_place s i h e
stage_place (stage.Gap top l end s) now i h e = let z : ◌≡◌ {A = ℕ} 0 1 = cc in absurd (omega arith)
stage_place (stage.Entry top ls) now i h e = let z : ◌≡◌ {A = ℕ} 0 1 = cc in absurd (omega arith)
stage_place (stage.Leaf top ls slot s) now i h e = let z : ◌≡◌ {A = ℕ} 0 1 = cc in absurd (omega arith)
stage_place (stage.Inner top ls slot (inners.Head k)) now i h e = let z : ◌≡◌ {A = ℕ} 0 1 = cc in absurd (omega arith)
stage_place (stage.Inner top ls slot (inners.Body span s)) now i h e =
    let inner : Within (inner_bounds ls (inners.Body span s)) =
    within_second (slot_bounds ls slot now) (inner_bounds ls (inners.Body span s))
    (within_second (levels_bounds ls) (slot_bounds ls slot now ++ inner_bounds ls (inners.Body span s))
    (within_second (top_bounds top) (levels_bounds ls ++ (slot_bounds ls slot now ++ inner_bounds ls (inners.Body span s))) h)) in
    let deep : depth ls < 4 = inner.0 in
    let fits : i < level_bytes * depth ls + level_bytes = sidx_place (under top slot (depth ls)) s i inner.1 e in
    omega arith

-- from inside the ranges a byte is stored within the four levels
pub place_within : (w : World) (i : ℕ) → InRange (state_of w) → entry_byte w ≡ some i → i < work_bytes
unfolding bounds state_of entry_byte
place_within (reading n s f) i h e = stage_place s f.now i h.1.1 e
place_within (ended n top kept) i h e = let z : ◌≡◌ {A = ℕ} 0 1 = cc in absurd (omega arith)
place_within (refused n x kept) i h e = let z : ◌≡◌ {A = ℕ} 0 1 = cc in absurd (omega arith)

-- no byte is stored past the four levels
pub spared_past : (bs : List ℕ) (w : World) (i : ℕ) → AllBytes bs → work_bytes ≤ length (work_of w) → InRange (state_of w) → work_bytes ≤ i → Spared w bs i
spared_past [] w i bytes long h past = tt
spared_past (b ∷ bs) w i bytes long h past =
    let same : length (work_of (step w b)) ≡ length (work_of w) = work_length w b in
    ((λ e. let fits : i < work_bytes = place_within w i h e in omega arith), spared_past bs (step w b) i bytes.1 (omega arith) (step_kept w b bytes.0 h) past)

-- so the work area stays there
pub feed_past : (s : State) (piece work table : List ℕ) (i : ℕ) → AllBytes piece → work_bytes ≤ i → get_or (feed_of s piece work table).work i 0 ≡ get_or work i 0
feed_past s piece work table i bytes past =
    feed_cases s piece work table (λ o. get_or o.work i 0 ≡ get_or work i 0) refl refl
    (λ long t. rw (← (feed_inside s piece work table long t)) (feed_spared s piece work table i (λ w e.
    let back : (state_of w ≡ s) × (work_of w ≡ work) × (table_of w ≡ table) = back_state s work table w e in
    spared_past piece w i bytes (rw back.1 long) (rw back.0 ((in_range_lem s).0 t)) past)))
