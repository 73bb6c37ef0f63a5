-- Numbers of a `traf`; a `traf` as a list of boxes; and what it is told after a box.
use Prim.Native.Nat.{ℕ, ◌<◌}
use mathlib.Core.Path.{◌≡◌, refl, sym}
use mathlib.Core.List.{List, [], ◌∷◌, ◌++◌}
use mathlib.Core.Bool.{Bool, true, false, ◌&&◌}
use native.Mathlib.Omega.{arith}
use lib.Dec.{eqb, ltb}
use Rattle.std.specs.Prelude.{Result, Ok, Err}
use Rattle.basics.specs.Choose.{pick}
use Rattle.basics.proofs.Picks.{pick_both, pick_if}
use Rattle.machine.specs.Faults.{refusal, shows, lowest, unless}
use Rattle.machine.specs.Run.{bad}
use Rattle.machine.specs.Lists.{over}
use Rattle.machine.specs.declared.BoxesSo.TheVariants as inBoxes
use Rattle.machine.specs.declared.Refusal.{Refusal}
use Rattle.machine.specs.declared.Step.{Step}
use Rattle.machine.specs.declared.Step.TheVariants as step
use Rattle.state.specs.Boxed.{TrafBoxes}
use Rattle.state.specs.Flow.{Flow, left}
use Rattle.state.specs.Traf.{Gave, nothing, headed, timed, fall_faults, lacking, traf_now, traf_next, traf_boxes, step_traf}
use Rattle.state.specs.Ranges.{Within, traf_most, traf_body_bounds, traf_bounds}
use Rattle.state.specs.Views.{view}
use Rattle.state.specs.declared.Span.{Span}
use Rattle.state.specs.declared.Seen.{Seen}
use Rattle.state.specs.declared.TrafPhase.{TrafPhase}
use Rattle.state.specs.declared.TrafPhase.TheVariants as track
use Rattle.state.specs.declared.TrafSo.{TrafSo}
use Rattle.state.specs.declared.TrafPart.{TrafPart}
use Rattle.state.specs.declared.TrafBody.TheVariants as body
use Rattle.state.proofs.RangeNumbers.{traf_most_lem}
use Rattle.header.proofs.Steps.{spelled_small}
use Rattle.lists.specs.Listed.{lower, ended, on_from, list_bounds, step_list}
use Rattle.traf.specs.Views.{lack_of}

-- what the bytes before a number's last spell
pub field_small : (p : TrafPart) (more acc : ℕ) → Within (traf_body_bounds (body.Field p more acc)) → acc < 72057594037927936
unfolding traf_body_bounds
field_small p more acc w = spelled_small (traf_most p) more acc (traf_most_lem p) w

-- a `traf` as a list of boxes
pub list_within : (s : TrafBoxes) → Within (traf_bounds s) → Within (list_bounds traf_body_bounds s)
unfolding traf_bounds list_bounds
list_within (inBoxes.Head a h) w = w
list_within (inBoxes.Body a s) w = w

module _ (span : Span) where
  pub listed : (id : ℕ) (s : TrafBoxes) (f : Flow) (n b : ℕ) → step_list (traf_boxes id span) s f n b ≡ step_traf id span s f n b
  unfolding step_list step_traf
  listed id (inBoxes.Head a h) f n b = refl
  listed id (inBoxes.Body a s) f n b = refl

  -- what it lacks at its end, beside a refusal there
  pub lacks_beside : (t : TrafPhase) (x : Refusal) (n : ℕ) → lowest x (pick (eqb n span.end) (lacking span.pos t) []) ≡ pick (eqb n span.end) (lower (lack_of t) span.pos x) x
  unfolding lowest lower lacking lack_of shows
  lacks_beside t x n = pick_both (eqb n span.end) (lowest x) (λ y. y) _ _ _ _ (one t) refl
    where
      one : (q : TrafPhase) → lowest x (lacking span.pos q) ≡ lower (lack_of q) span.pos x
      one track.Fresh = refl
      one (track.Headed r) = refl
      one track.Timed = refl

  module _ (f : Flow) (n : ℕ) where
    -- after a box that shows no fault
    pub faultless : (so : TrafSo) (r : Result (Step TrafSo Seen) Refusal) →
        r ≡ pick (eqb n span.end) (ended (lack_of so.track) span.pos (step.Done so.seen)) (Ok (step.Going so)) → view f r ≡ on_from (traf_next span so [] n) f
    unfolding traf_next on_from unless lacking lack_of shows ended lowest
    faultless so r e = rw e (pick_both (eqb n span.end) (view f) (λ q. on_from q f) _ _ _ _ (one so.track) refl)
      where
        one : (t : TrafPhase) → view {S = TrafSo} f (ended (lack_of t) span.pos (step.Done so.seen)) ≡ on_from (over so.seen ([] ++ lacking span.pos t)) f
        one track.Fresh = refl
        one (track.Headed r') = refl
        one track.Timed = refl

    -- after a box that shows one, whether or not the `traf` ends with it
    pub falling : (so : TrafSo) (gave : Gave) (x : Refusal) → unless (fall_faults so.seen.last gave) Err (Ok (traf_now so gave)) ≡ Err x →
        bad x (left f) ≡ on_from (traf_next span (traf_now so gave) (fall_faults so.seen.last gave) n) f
    unfolding fall_faults unless shows lowest on_from traf_next lacking traf_now
    falling so nothing x e = let z : ◌≡◌ {A = ℕ} 0 1 = cc in absurd (omega arith)
    falling so (headed r) x e = let z : ◌≡◌ {A = ℕ} 0 1 = cc in absurd (omega arith)
    falling so (timed r pos v) x e = at (r && ltb v so.seen.last) e
      where
        at : (t : Bool) → unless (shows t 18 pos) Err (Ok (traf_now so (timed r pos v))) ≡ Err x → bad x (left f) ≡ on_from (traf_next span (traf_now so (timed r pos v)) (shows t 18 pos) n) f
        at true q = let y : refusal 18 pos ≡ x = cc in rw (sym y) (sym (pick_if (eqb n span.end) (λ k. on_from k f) _ _ _ (λ k. refl) (λ k. refl)))
        at false q = let z : ◌≡◌ {A = ℕ} 0 1 = cc in absurd (omega arith)

-- a box that shows no fault
pub clear : {A : Type 0} (xs : List Refusal) (a k : A) → unless xs Err (Ok a) ≡ Ok k → (xs ≡ []) × (a ≡ k)
unfolding unless
clear [] a k e = (refl, cc)
clear (x ∷ xs) a k e = let z : ◌≡◌ {A = ℕ} 0 1 = cc in absurd (omega arith)
