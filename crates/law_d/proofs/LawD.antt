-- Law D: start, one feed of all the bytes and finish give what the descent gives: answer, state, work area and leaf table.
use Rattle.std.specs.Prelude.{ℕ, Result, Ok, Err}
use Prim.Native.Nat.{ℕ, suc, ◌≤◌, ◌<◌}
use mathlib.Core.Path.{◌≡◌, refl, ap, sym, ◌∙◌}
use mathlib.Core.List.{List, [], ◌∷◌}
use mathlib.Core.Bool.{Bool, true, false}
use mathlib.Core.Logic.{◌⊎◌, inl, inr}
use native.Mathlib.Omega.{arith}
use borrow.Author.Tests.{lt-ltb, le-ltb, eqb-true}
use lib.Dec.{eqb, ltb}
use lib.ListN.{length, take, drop}
use Rattle.basics.specs.Choose.{pick}
use Rattle.basics.specs.Bytes.{AllBytes}
use Rattle.basics.proofs.Picks.{lt_or_ge, pick_yes, pick_no}
use Rattle.segment.specs.Constants.{limit}
use Rattle.machine.specs.Faults.{shows, refusal, unless, lowest}
use Rattle.machine.specs.Run.{Sub, go, done, bad, Res, cont_by, cont}
use Rattle.machine.specs.Run.{run as runs}
use Rattle.machine.specs.Limit.{limited, beyond}
use Rattle.machine.proofs.Limits.{limit_run}
use Rattle.machine.specs.declared.Refusal.{Refusal}
use Rattle.state.specs.declared.Top.{Top}
use Rattle.state.specs.declared.Stage.{Stage}
use Rattle.state.specs.declared.State.TheVariants as state
use Rattle.state.specs.Flow.{Flow, Left, left, work_bytes}
use Rattle.state.specs.Stages.{step_stage}
use Rattle.state.specs.Step.{World, reading, ended, refused, settle, past_limit, over_limit, left_over, past_material, step, step_all, stage0, flow0}
use Rattle.state.specs.Ranges.{in_range}
use Rattle.state.specs.Calls.{Out, out, state_of, work_of, table_of, answer_of, fed, start_of, feed_state, feed_of, finish_state, finish_after, whole_of}
use Rattle.state.proofs.RangeTests.{in_range_lem}
use Rattle.state.proofs.Cuts.{feed_short, feed_inside}
use Rattle.state.proofs.Kept.{finish_inside}
use Rattle.state.proofs.Ranges.{start_in_range, run_kept}
use Rattle.state.proofs.WithinLimit.{InStage, stage_within, limit_alone, start_within}
use Rattle.descent.specs.Whole.{outcome, read_d, whole_d}
use Rattle.law_d.proofs.SegmentRun.{segment_run}

-- what is past the limit
abbrev over : Refusal
over = refusal 3 limit

-- what finish makes of a reading
unfoldable outcome_of : World → Out (Result ℕ Refusal)
outcome_of (reading n s f) = out (Err (refusal 20 n)) (state.Refused n f.leaves (refusal 20 n)) f.work f.table
outcome_of (ended n top kept) = out (Ok kept.leaves) (state.Accepted n kept.leaves top) kept.work kept.table
outcome_of (refused n x kept) = out (Err x) (state.Refused n kept.leaves x) kept.work kept.table

-- a refused reading stays as it is
run_refused : (n : ℕ) (x : Refusal) (kept : Left) (bs : List ℕ) → step_all (refused n x kept) bs ≡ refused n x kept
unfolding step_all step
run_refused n x kept [] = refl
run_refused n x kept (b ∷ bs) = run_refused n x kept bs

-- the byte past the limit, wherever the reading stands; and the machine's step under the limit
abbrev past : Stage → Flow → ℕ → Sub Stage Top Flow Left
past s f b = bad (over_limit s f limit over) (left_over s f b)

abbrev bounded : Stage → Flow → ℕ → ℕ → Sub Stage Top Flow Left
bounded = limited limit past step_stage

-- one byte is that step
step_limited : (s : Stage) (f : Flow) (n b : ℕ) → step (reading n s f) b ≡ settle (suc n) (bounded s f n b)
unfolding step limited settle unless pick shows lowest
step_limited s f n b = at (eqb n limit) refl
  where
    at : (t : Bool) → eqb n limit ≡ t →
        unless (shows t 3 limit) (λ x. refused (suc n) (over_limit s f n x) (left_over s f b)) (settle (suc n) (step_stage s f n b))
        ≡ settle (suc n) (pick t (past s f b) (step_stage s f n b))
    at true e = ap (λ (m : ℕ). refused (suc n) (over_limit s f m over) (left_over s f b)) (eqb-true n limit e)
    at false e = refl

-- from the start on it gives 3 alone, and stores nothing
past_alone : (s : Stage) (f : Flow) (b : ℕ) → InStage limit s f → past s f b ≡ bad over (left f)
past_alone s f b h = let (number, kept) = limit_alone s f b over h in rw (number, kept)

abbrev C : ℕ → List ℕ → Sub Stage Top Flow Left → Res Top Flow Left
C n bs r = cont left bounded n bs r

-- the fold and its finish are the run under the limit
settled : (bs : List ℕ) → ((n : ℕ) (s : Stage) (f : Flow) → outcome_of (step_all (reading n s f) bs) ≡ outcome (runs left bounded s f n bs)) →
    (n : ℕ) (r : Sub Stage Top Flow Left) → outcome_of (step_all (settle n r) bs) ≡ outcome (C n bs r)
unfolding settle cont_by outcome outcome_of step_all step
settled bs h n (go s f) = h n s f
settled [] h n (done top f) = refl
settled (b ∷ bs) h n (done top f) = ap outcome_of (run_refused (suc n) (lowest (past_material n) (past_limit n)) (left f) bs)
settled bs h n (bad x kept) = ap outcome_of (run_refused n x kept bs)

fold_run : (bs : List ℕ) (n : ℕ) (s : Stage) (f : Flow) → outcome_of (step_all (reading n s f) bs) ≡ outcome (runs left bounded s f n bs)
unfolding step_all runs outcome_of outcome
fold_run [] n s f = refl
fold_run (b ∷ bs) n s f = ap (λ w. outcome_of (step_all w bs)) (step_limited s f n b) ∙ settled bs (fold_run bs) (suc n) (bounded s f n b)

-- finish after a feed, of a reading inside its ranges
finish_fed : (w : World) → in_range (state_of w) ≡ true → finish_after (fed w) (answer_of w) ≡ outcome_of w
unfolding finish_after answer_of outcome_of finish_state state_of work_of table_of
finish_fed (reading n s f) e = rw (finish_inside (state.Reading n f.leaves f.now f.last s) e)
finish_fed (ended n top kept) e = rw (finish_inside (state.Ended n kept.leaves top) e)
finish_fed (refused n x kept) e = refl

-- the feed of all the bytes, from the start
module _ (brand : ℕ) (bytes work table : List ℕ) where
  abbrev after_all : World
  after_all = step_all (reading 0 (stage0 brand) (flow0 work table)) bytes

  feed_start : work_bytes ≤ length work → feed_of (start_of brand) bytes work table ≡ fed after_all
  unfolding feed_state
  feed_start long = feed_inside (start_of brand) bytes work table long ((in_range_lem (start_of brand)).1 (start_in_range brand))

  -- inside the two calls: what is read is the descent's reading
  read_whole : outcome_of after_all ≡ outcome (read_d brand bytes work table)
  read_whole =
      fold_run bytes 0 (stage0 brand) (flow0 work table)
      ∙ ap outcome
      (limit_run left limit past step_stage over InStage stage_within past_alone bytes (stage0 brand) (flow0 work table) 0 (omega arith) (start_within brand (flow0 work table))
      ∙ ap (λ (r : Res Top Flow Left). beyond over r (drop limit bytes)) (sym (segment_run brand (flow0 work table) 0 (take limit bytes))))

  -- Law D.
  abbrev finish_out : Out (Result ℕ Refusal) → Out (Result ℕ Refusal)
  finish_out o = finish_after o o.answer

  pub law_d : AllBytes bytes → whole_d brand bytes work table ≡ whole_of brand bytes work table
  unfolding whole_d finish_after state_of
  law_d all = at (lt_or_ge (length work) work_bytes)
    where
      at : (length work < work_bytes) ⊎ (work_bytes ≤ length work) → whole_d brand bytes work table ≡ whole_of brand bytes work table
      at (inl short) =
          pick_yes (ltb (length work) work_bytes) _ _ (lt-ltb (length work) work_bytes short)
          ∙ ap finish_out (sym (feed_short (start_of brand) bytes work table short))
      at (inr long) =
          pick_no (ltb (length work) work_bytes) _ _ (le-ltb (length work) work_bytes long)
          ∙ sym read_whole
          ∙ sym (finish_fed after_all ((in_range_lem (state_of after_all)).1 (run_kept (reading 0 (stage0 brand) (flow0 work table)) bytes all (start_in_range brand))))
          ∙ ap finish_out (sym (feed_start long))
