-- One byte of a segment, and all bytes, one after the other.
use Rattle.std.specs.Prelude.{ℕ, suc, List, [], ◌∷◌, false, eqb}
use Rattle.segment.specs.Constants.{limit}
use Rattle.machine.specs.Faults.{shows, refusal, unless, lowest}
use Rattle.machine.specs.Run.{Sub, go, done, bad}
use Rattle.machine.specs.declared.Refusal.{Refusal}
use Rattle.machine.specs.declared.Head.TheVariants as at
use Rattle.machine.specs.declared.BoxesSo.TheVariants as inBoxes
use Rattle.state.specs.declared.Stage.{Stage}
use Rattle.state.specs.declared.Stage.TheVariants as stage
use Rattle.state.specs.declared.Top.{Top}
use Rattle.state.specs.Flow.{Flow, Left, left}
use Rattle.state.specs.Levels.{inmost, entry_at, entry_place, entry_faults}
use Rattle.state.specs.Stages.{step_stage}
use Rattle.state.specs.Places.{stage_byte, stored_at}

-- A reading with the two buffers lent to it: in the segment, at the end of its material, or refused; and the count of bytes read.
pub data World : Type 0 where
  reading : ℕ → Stage → Flow → World
  ended : ℕ → Top → Left → World
  refused : ℕ → Refusal → Left → World

unfoldable pub settle : ℕ → Sub Stage Top Flow Left → World
settle n (go s f) = reading n s f
settle n (done top f) = ended n top (left f)
settle n (bad x kept) = refused n x kept

-- row 3: byte 268,435,457 of the segment; place 268,435,456
abbrev pub past_limit : ℕ → List Refusal
past_limit n = shows (eqb n limit) 3 limit

-- row 12, at an entry's first byte: a stored entry altered between calls
unfoldable pub entry_shows : Stage → Flow → ℕ → List Refusal
entry_shows (stage.Opening brand s) f n = []
entry_shows (stage.Gap top l end s) f n = []
entry_shows (stage.Entry top ls) f n = entry_faults (inmost ls) (entry_at f.work (entry_place ls)) f.now n
entry_shows (stage.Leaf top ls slot s) f n = []
entry_shows (stage.Inner top ls slot s) f n = []

-- row 12: "no other number there", and so not row 3's
unfoldable pub over_limit : Stage → Flow → ℕ → Refusal → Refusal
over_limit s f n x = unless (entry_shows s f n) (λ y. y) x

-- "The fault's byte counts as read and an entry byte is stored; no record is written for it."
abbrev pub left_over : Stage → Flow → ℕ → Left
left_over s f b = record { leaves = f.leaves; work = stored_at f.work (stage_byte s) b; table = f.table }

-- row 21: byte after the material; place that byte
abbrev pub past_material : ℕ → Refusal
past_material n = refusal 21 n

unfoldable pub step : World → ℕ → World
step (reading n s f) b =
    unless (past_limit n) (λ x. refused (suc n) (over_limit s f n x) (left_over s f b)) (settle (suc n) (step_stage s f n b))
step (ended n top kept) b = refused (suc n) (lowest (past_material n) (past_limit n)) kept
step (refused n x kept) b = refused n x kept

-- the bytes one after the other
unfoldable pub step_all : World → List ℕ → World
step_all w [] = w
step_all w (b ∷ bs) = step_all (step w b) bs

abbrev pub stage0 : ℕ → Stage
stage0 brand = stage.Opening brand (inBoxes.Head false at.First)

abbrev pub flow0 : List ℕ → List ℕ → Flow
flow0 work table = record { leaves = 0; now = 0; last = 0; work = work; table = table }
