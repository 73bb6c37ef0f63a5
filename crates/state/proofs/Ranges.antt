-- The ranges are kept: by one byte, by a list of bytes, by start, feed and finish. From a state outside them feed and finish hand
-- the state back as it is.
use Rattle.std.specs.Prelude.{ℕ, Result}
use Prim.Native.Nat.{ℕ, suc, ◌≤◌, ◌<◌}
use mathlib.Core.Path.{◌≡◌, refl, ap}
use mathlib.Core.List.{List, [], ◌∷◌}
use mathlib.Core.Bool.{false}
use native.Mathlib.Omega.{arith}
use lib.Dec.{eqb, ltb}
use lib.ListN.{length}
use borrow.Author.Tests.{eqb-false}
use Rattle.basics.specs.Bytes.{AllBytes}
use Rattle.basics.proofs.Picks.{pick_holds, pick_no, pick_if}
use Rattle.segment.specs.Constants.{limit}
use Rattle.machine.specs.Faults.{lowest}
use Rattle.machine.specs.Run.{Sub, go, done, bad}
use Rattle.machine.specs.declared.Refusal.{Refusal}
use Rattle.machine.proofs.Kept.{Each, each_none, each_lowest, unless_holds}
use Rattle.machine.proofs.Faults.{shows_none}
use Rattle.state.specs.declared.Stage.{Stage}
use Rattle.state.specs.declared.Stage.TheVariants as stage
use Rattle.state.specs.declared.Top.{Top}
use Rattle.state.specs.declared.State.{State}
use Rattle.state.specs.declared.State.TheVariants as state
use Rattle.state.specs.Flow.{Flow, Left, work_bytes}
use Rattle.state.specs.Step.{World, reading, ended, refused, settle, past_limit, entry_shows, over_limit, past_material, step, step_all}
use Rattle.state.specs.Ranges.{head_bounds, opening_bounds, stage_bounds, bounds, in_range, InRange}
use Rattle.state.specs.Calls.{Out, state_of, flow_of, left_of, start_of, feed_state, feed_of, Finished, finish_state, finish_of}
use Rattle.state.proofs.RangeKept.{Numbered, shown}
use Rattle.state.proofs.RangeStages.{StageKept, stage_kept}

-- the rows at the limit, where they are shown
limit_fault : (n : ℕ) → Each Numbered (past_limit n)
limit_fault n = shown (eqb n limit) 3 limit (omega arith)

entry_fault : (s : Stage) (f : Flow) (n : ℕ) → Each Numbered (entry_shows s f n)
unfolding entry_shows
entry_fault (stage.Opening brand s) f n = each_none Numbered
entry_fault (stage.Gap top l end s) f n = each_none Numbered
entry_fault (stage.Entry top ls) f n = shown _ 12 n (omega arith)
entry_fault (stage.Leaf top ls slot s) f n = each_none Numbered
entry_fault (stage.Inner top ls slot s) f n = each_none Numbered

over_fault : (s : Stage) (f : Flow) (n : ℕ) (x : Refusal) → Numbered x → Numbered (over_limit s f n x)
unfolding over_limit
over_fault s f n x h = unless_holds Numbered Numbered (entry_shows s f n) (λ y. y) x (entry_fault s f n) (λ y k. k) (λ e. h)

settle_kept : (n : ℕ) (r : Sub Stage Top Flow Left) → n ≤ limit → StageKept r → InRange (state_of (settle n r))
unfolding settle state_of bounds
settle_kept n (go s f) h k = (h, (k.1, k.0))
settle_kept n (done top f) h k = (h, (k.1, k.0))
settle_kept n (bad x kept) h k = (omega arith, (k.1, (k.0.0, (k.0.1, tt))))

-- one byte keeps the ranges
pub step_kept : (w : World) (b : ℕ) → b < 256 → InRange (state_of w) → InRange (state_of (step w b))
unfolding step state_of bounds
step_kept (reading n s f) b hb g =
    unless_holds Numbered (λ w. InRange (state_of w)) (past_limit n) _ _ (limit_fault n)
    (λ x h. let k = over_fault s f n x h in (omega (arith, g.0), (g.1.0, (k.0, (k.1, tt)))))
    (λ e. let z = eqb-false n limit (shows_none (eqb n limit) 3 limit e) in
    settle_kept (suc n) _ (omega (arith, g.0)) (stage_kept s f n b g.0 hb (g.1.1, g.1.0)))
step_kept (ended n top kept) b hb g =
    let h : Numbered (lowest (past_material n) (past_limit n)) = each_lowest Numbered (past_limit n) (past_material n) (omega arith) (limit_fault n) in
    (omega (arith, g.0), (g.1.0, (h.0, (h.1, tt))))
step_kept (refused n x kept) b hb g = g

-- bytes keep them
pub run_kept : (w : World) (bs : List ℕ) → AllBytes bs → InRange (state_of w) → InRange (state_of (step_all w bs))
unfolding step_all
run_kept w [] h g = g
run_kept w (b ∷ bs) h g = run_kept (step w b) bs h.1 (step_kept w b h.0 g)

-- start gives a state in range
pub start_in_range : (brand : ℕ) → InRange (start_of brand)
unfolding bounds stage_bounds opening_bounds head_bounds
start_in_range brand = omega arith

pub feed_state_kept : (s : State) (piece work table : List ℕ) → AllBytes piece → InRange s → InRange (feed_state s piece work table).state
unfolding feed_state state_of
feed_state_kept (state.Reading n leaves now last s) piece work table h g = run_kept (reading n s (flow_of leaves now last work table)) piece h g
feed_state_kept (state.Ended n leaves top) piece work table h g = run_kept (ended n top (left_of leaves work table)) piece h g
feed_state_kept (state.Refused n leaves x) piece work table h g = g
feed_state_kept (state.Accepted n leaves top) piece work table h g = g

-- feed hands back a state in range
pub feed_in_range : (s : State) (piece work table : List ℕ) → AllBytes piece → InRange s → InRange (feed_of s piece work table).state
unfolding feed_of
feed_in_range s piece work table h g =
    pick_holds (λ (o : Out (Result ℕ Refusal)). InRange o.state) (ltb (length work) work_bytes) _ _ (λ e. g)
    (λ e. pick_holds (λ (o : Out (Result ℕ Refusal)). InRange o.state) (in_range s) _ _ (λ e'. feed_state_kept s piece work table h g) (λ e'. g))

finish_state_kept : (s : State) → InRange s → InRange (finish_state s).state
unfolding finish_state bounds
finish_state_kept (state.Reading n leaves now last s) g = (omega (arith, g.0), (g.1.0, (omega arith, (omega arith, tt))))
finish_state_kept (state.Ended n leaves top) g = g
finish_state_kept (state.Refused n leaves x) g = g
finish_state_kept (state.Accepted n leaves top) g = g

-- finish hands back a state in range
pub finish_in_range : (s : State) → InRange s → InRange (finish_of s).state
unfolding finish_of
finish_in_range s g = pick_holds (λ (o : Finished). InRange o.state) (in_range s) _ _ (λ e. finish_state_kept s g) (λ e. g)

-- from a state that is not in range feed and finish hand back that state
pub feed_outside : (s : State) (piece work table : List ℕ) → in_range s ≡ false → (feed_of s piece work table).state ≡ s
unfolding feed_of
feed_outside s piece work table h =
    pick_if (ltb (length work) work_bytes) (λ (o : Out (Result ℕ Refusal)). o.state) _ _ s (λ e. refl) (λ e. ap (λ (o : Out (Result ℕ Refusal)). o.state) (pick_no (in_range s) _ _ h))

pub finish_outside : (s : State) → in_range s ≡ false → (finish_of s).state ≡ s
unfolding finish_of
finish_outside s h = ap (λ (o : Finished). o.state) (pick_no (in_range s) _ _ h)
