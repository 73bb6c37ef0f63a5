-- The boxes of the tree walked as the reader walks them: with what is known of the list, and the faults shown.
use Rattle.std.specs.Prelude.{ℕ, ◌+◌, List, [], ◌∷◌, eqb}
use Rattle.std.proofs.Math.Option.{Option, some, none}
use Rattle.basics.specs.Choose.{pick, and_then}
use Rattle.segment.specs.Constants.{moof, traf, tfhd, tfdt}
use Rattle.segment.specs.Boxes.{Box, tfhd_track, tfdt_time}
use Rattle.segment.specs.Leaves.{traf_times, moof_times}
use Rattle.machine.specs.declared.Refusal.{Refusal}
use Rattle.machine.specs.declared.Header.{Header}
use Rattle.state.specs.declared.Seen.{Seen}
use Rattle.state.specs.declared.Slot.{Slot}
use Rattle.state.specs.declared.TrafPhase.{TrafPhase}
use Rattle.state.specs.declared.TrafSo.{TrafSo}
use Rattle.state.specs.declared.LeafSo.{LeafSo}
use Rattle.state.specs.Flow.{Flow}
use Rattle.state.specs.Rows.{traf_faults, leaf_faults, gap_faults}
use Rattle.state.specs.Traf.{Gave, nothing, headed, timed, reference, fall_faults, traf_now}
use Rattle.state.specs.Leaf.{Passed, skipped, seeing, seen_now, leaf_now}
use Rattle.demands.specs.Told.{clean, climb, header_of}

-- A list of boxes: what a header shows there, what a box gives, the faults at its end, and what is then known.
pub record Walk (A R : Type 0) : Type 0 where
  pub shown : A → Header → List Refusal
  pub item : A → ℕ → Box → Option R
  pub ends : A → R → List Refusal
  pub next : A → R → A

-- so many boxes from a place on
unfoldable pub walk : {A R : Type 0} → Walk A R → A → ℕ → List Box → Option A
walk w a n [] = some a
walk w a n (b ∷ bs) =
    pick (clean (w.shown a (header_of n b)))
    (and_then (w.item a n b) (λ r. pick (clean (w.ends a r)) (walk w (w.next a r) (n + b.size) bs) none))
    none

-- in a `traf`
unfoldable pub traf_item : ℕ → TrafPhase → ℕ → Box → Option Gave
traf_item id t pos b =
    pick (eqb b.kind tfhd) (and_then (tfhd_track b.body) (λ v. some (headed (eqb v id))))
    (pick (eqb b.kind tfdt) (and_then (tfdt_time b.body) (λ v. some (timed (reference t) pos v))) (some nothing))

abbrev pub traf_walk : ℕ → Walk TrafSo Gave
traf_walk id =
    record { shown = λ so h. traf_faults so.track h; item = λ so pos b. traf_item id so.track pos b; ends = λ so gave. fall_faults so.seen.last gave; next = traf_now }

-- in a `moof`
unfoldable pub moof_item : ℕ → Seen → ℕ → Box → Option Passed
moof_item id seen pos b =
    pick (eqb b.kind traf) (and_then (traf_times id b.body) (λ ts. and_then (climb seen ts) (λ s. some (seeing s)))) (some skipped)

abbrev pub moof_walk : ℕ → Walk Seen Passed
moof_walk id = record { shown = λ seen h. []; item = moof_item id; ends = λ seen r. []; next = seen_now }

-- in a leaf
unfoldable pub leaf_item : ℕ → Seen → ℕ → Box → Option Passed
leaf_item id seen pos b =
    pick (eqb b.kind moof) (and_then (moof_times id b.body) (λ ts. and_then (climb seen ts) (λ s. some (seeing s)))) (some skipped)

abbrev pub leaf_walk : ℕ → Slot → Flow → Walk LeafSo Passed
leaf_walk id slot f =
    record { shown = λ so h. leaf_faults slot.pos so.moof h f; item = λ so pos b. leaf_item id so.seen pos b; ends = λ so r. []; next = leaf_now }

-- in the gap
abbrev pub gap_walk : Walk (Unit {0}) (Unit {0})
gap_walk = record { shown = λ u h. gap_faults h; item = λ u pos b. some tt; ends = λ u r. []; next = λ u r. tt }
