-- One byte fed: what the byte definition makes of it in each state.
use Rattle.std.specs.Prelude as code
use Rattle.std.specs.Prelude.{ℕ, Result, Ok, Err, Some, None}
use Prim.Native.Nat.{ℕ, suc, ◌+◌, ◌≤◌, ◌<◌}
use mathlib.Core.Path.{◌≡◌, refl, ap, sym, subst, ◌∙◌}
use mathlib.Core.List.{List, [], ◌∷◌}
use mathlib.Core.Bool.{Bool, true, false}
use mathlib.Core.Option.{Option, some, none}
use mathlib.Core.Logic.{inl, inr}
use native.Mathlib.Numerals.{add-one}
use native.Mathlib.Omega.{arith}
use types.Run.{OneOf}
use denote.Enum.Declared.{tag_of}
use lib.ListN.{set}
use Rattle.basics.specs.Choose.{pick}
use Rattle.segment.specs.Constants.{limit}
use Rattle.table.specs.Table.{most_records}
use Rattle.machine.specs.Faults.{refusal, shows, unless, lowest}
use Rattle.machine.specs.declared.Refusal.{Refusal}
use Rattle.state.specs.declared.Stage.{Stage}
use Rattle.state.specs.declared.Stage.TheVariants as stage
use Rattle.state.specs.declared.Levels.{Levels}
use Rattle.state.specs.declared.Slot.{Slot}
use Rattle.state.specs.declared.Top.{Top}
use Rattle.state.specs.declared.State.{State}
use Rattle.state.specs.declared.State.TheVariants as state
use Rattle.state.specs.Flow.{Flow, work_bytes}
use Rattle.basics.specs.Put.{put_all}
use Rattle.state.specs.Stages.{step_stage}
use Rattle.state.specs.Levels.{inmost, entry_at, entry_place}
use Rattle.state.specs.Places.{stage_byte, stored_at}
use Rattle.state.specs.Step.{settle, entry_shows, over_limit, step, step_all}
use Rattle.state.specs.Sidx.{next_byte}
use Rattle.state.specs.Numbers.{stage_number, put_in, Short}
use Rattle.state.specs.Calls.{Out, out, flow_of, state_of, work_of, table_of, answer_of, fed, feed_state}
use Rattle.state.specs.Ranges.{Within, stage_bounds, bounds, InRange}
use Rattle.state.specs.contracts.Stage.{the_type}
use Rattle.state.proofs.Jump.{past_none}
use Rattle.state.proofs.Places.{stage_stored}
use Rattle.state.proofs.RangeNumbers.{stage_fits}
use Rattle.state.proofs.Ranges.{feed_state_kept}
use Rattle.machine.specs.declared.Step.TheVariants as step
use Rattle.next_stage.specs.Views.{StageAnswer, view_stage}
use Rattle.levels.specs.Views.{read_of}
use Rattle.levels.proofs.Chosen.{chosen, altered_told}
use Rattle.number_at_hand.specs.declared.AtHand.{AtHand}
use Rattle.number_at_hand.specs.Views.{next_place, at_hand_of}
use Rattle.byte.specs.Answers.{answered, stepped}

-- a state and its buffers, with what feed answers for them
abbrev pub left_with : State → List ℕ → List ℕ → Out (Result ℕ Refusal)
left_with s work table = out (answered s) s work table

-- what a stage's step leads to is what the definition's does
settled_view : (q : StageAnswer) (n leaves : ℕ) (work table : List ℕ) → left_with (stepped n leaves q) work table ≡ fed (settle (suc n) (view_stage leaves work table q))
unfolding answered stepped settle state_of work_of table_of answer_of
settled_view (Ok (step.Going p)) n leaves work table = rw (add-one n)
settled_view (Ok (step.Done p)) n leaves work table = rw (add-one n)
settled_view (Err x) n leaves work table = rw (add-one n)

module _ (n leaves now last b : ℕ) (s : Stage) (work table : List ℕ) where
  -- a byte within the limit
  pub reading_one : (q : StageAnswer) (work' table' : List ℕ) (next : State) → n < limit →
      view_stage leaves work' table' q ≡ step_stage s (flow_of leaves now last work table) n b → next ≡ stepped n leaves q →
      left_with next work' table' ≡ feed_state (state.Reading n leaves now last s) (b ∷ []) work table
  unfolding feed_state step_all step unless
  reading_one q work' table' next low e same = ap (λ (z : State). left_with z work' table') same ∙ settled_view q n leaves work' table' ∙ ap (λ r. fed (settle (suc n) r)) e ∙ rw (past_none n low) refl

  -- the byte past the limit: rows 3 and 12, and an entry byte is stored
  pub reading_past : (x : Refusal) (work' : List ℕ) (next : State) → x ≡ over_limit s (flow_of leaves now last work table) limit (refusal 3 limit) →
      work' ≡ stored_at work (stage_byte s) b → next ≡ state.Refused 268435457 leaves x →
      left_with next work' table ≡ feed_state (state.Reading limit leaves now last s) (b ∷ []) work table
  unfolding feed_state step_all step unless shows lowest answered state_of work_of table_of answer_of
  reading_past x work' next e p same = rw (same, e, p) refl

  -- a reading whose count is the limit is that reading
  pub reading_limit : (o : Out (Result ℕ Refusal)) → n ≡ limit → o ≡ feed_state (state.Reading limit leaves now last s) (b ∷ []) work table →
      o ≡ feed_state (state.Reading n leaves now last s) (b ∷ []) work table
  reading_limit o e k = rw e k

-- elsewhere than before an entry: 3
pub elsewhere_over : (s : Stage) (f : Flow) (x : Refusal) → OneOf (0 ∷ 1 ∷ 3 ∷ 4 ∷ []) (tag_of the_type s) → x ≡ over_limit s f limit x
unfolding over_limit entry_shows unless
elsewhere_over (stage.Opening brand s) f x k = refl
elsewhere_over (stage.Gap top l end s) f x k = refl
elsewhere_over (stage.Entry top ls) f x (inl e) = absurd (omega arith)
elsewhere_over (stage.Entry top ls) f x (inr (inl e)) = absurd (omega arith)
elsewhere_over (stage.Entry top ls) f x (inr (inr (inl e))) = absurd (omega arith)
elsewhere_over (stage.Entry top ls) f x (inr (inr (inr e))) = absurd (omega arith)
elsewhere_over (stage.Leaf top ls slot s) f x k = refl
elsewhere_over (stage.Inner top ls slot s) f x k = refl

-- before an entry, by what was read back
module _ (s : Stage) (top : Top) (ls : Levels) (f : Flow) (x : Refusal) (r : code.Option (Bool × Slot)) (same : s ≡ stage.Entry top ls)
    (k : r ≡ read_of (inmost ls) (entry_at f.work (entry_place ls)) f.now limit) where
  pub altered_over : r ≡ None → refusal 12 limit ≡ over_limit s f limit x
  unfolding over_limit entry_shows shows unless lowest
  altered_over e = rw (same, altered_told _ _ _ (sym k ∙ e))

  pub stands_over : (inner : Bool) (slot : Slot) → r ≡ Some (inner, slot) → x ≡ over_limit s f limit x
  unfolding over_limit entry_shows shows unless
  stands_over inner slot e = rw (same, (chosen _ _ _ _ _ (sym k ∙ e)).0)

-- one byte of a number, told in the code's words
put_none : (place : Option ℕ) (more b : ℕ) (work : List ℕ) → next_place place more ≡ None → work ≡ put_in place more work (b ∷ [])
unfolding next_place put_in
put_none none more b work e = refl
put_none (some j) more b work e = let z : ◌≡◌ {A = ℕ} 0 1 = cc in absurd (omega arith)

put_one : (place : Option ℕ) (more b i : ℕ) (work : List ℕ) → next_place place more ≡ Some i → set work i b ≡ put_in place more work (b ∷ [])
unfolding next_place put_in put_all
put_one none more b i work e = let z : ◌≡◌ {A = ℕ} 0 1 = cc in absurd (omega arith)
put_one (some j) more b i work e = let k : ◌≡◌ {A = ℕ} i (next_byte j more) = cc in rw k

place_fits : (place : Option ℕ) (more i : ℕ) → next_place place more ≡ Some i → Short place more → i < work_bytes
unfolding next_place Short
place_fits none more i e short = let z : ◌≡◌ {A = ℕ} 0 1 = cc in absurd (omega arith)
place_fits (some j) more i e short = let k : ◌≡◌ {A = ℕ} i (next_byte j more) = cc in omega (arith, k, short.0, short.1)

-- the stage whose number is told as `x`, and a byte
module _ (s : Stage) (x : AtHand) (e : x ≡ at_hand_of (stage_number s)) where
  told-place : x.place ≡ next_place (stage_number s).place (stage_number s).more
  told-place = ap (λ (y : AtHand). y.place) e

  pub byte_unstored : (b : ℕ) (work : List ℕ) → x.place ≡ None → work ≡ stored_at work (stage_byte s) b
  byte_unstored b work h = put_none (stage_number s).place (stage_number s).more b work (sym told-place ∙ h) ∙ stage_stored work b s

  pub byte_stored : (b i : ℕ) (work : List ℕ) → x.place ≡ Some i → set work i b ≡ stored_at work (stage_byte s) b
  byte_stored b i work h = put_one (stage_number s).place (stage_number s).more b i work (sym told-place ∙ h) ∙ stage_stored work b s

  pub byte_fits : (now i : ℕ) → x.place ≡ Some i → Within (stage_bounds s now) → i < work_bytes
  byte_fits now i h w = place_fits (stage_number s).place (stage_number s).more i (sym told-place ∙ h) (stage_fits s now w).1

module _ (n leaves b : ℕ) (top : Top) (work table : List ℕ) where
  -- row 21
  pub ended_one : n < limit → left_with (state.Refused (n + 1) leaves (refusal 21 n)) work table ≡ feed_state (state.Ended n leaves top) (b ∷ []) work table
  unfolding feed_state step_all step lowest answered state_of work_of table_of answer_of
  ended_one low = rw (past_none n low, add-one n) refl

  pub ended_past : n ≡ limit → left_with (state.Refused 268435457 leaves (refusal 3 268435456)) work table ≡ feed_state (state.Ended n leaves top) (b ∷ []) work table
  unfolding feed_state step_all step lowest shows pick answered state_of work_of table_of answer_of
  ended_past e = rw e refl

-- what a state's ranges say of a reading
module _ (n leaves now last : ℕ) (s : Stage) (r : InRange (state.Reading n leaves now last s)) where
  pub reading_count : n ≤ limit
  unfolding bounds
  reading_count = r.0

  pub reading_leaves : leaves ≤ most_records
  unfolding bounds
  reading_leaves = r.1.0

  pub reading_stage : Within (stage_bounds s now)
  unfolding bounds
  reading_stage = r.1.1

pub ended_count : (n leaves : ℕ) (top : Top) → InRange (state.Ended n leaves top) → n ≤ limit
unfolding bounds
ended_count n leaves top r = r.0

-- a state that is known to be another is fed as the other is
pub fed_as : (s t : State) (piece work table : List ℕ) (o : Out (Result ℕ Refusal)) → s ≡ t → o ≡ feed_state t piece work table → o ≡ feed_state s piece work table
fed_as s t piece work table o same e = rw same e

-- a refusal and an accepted finish stay as they are
pub refused_stays : (s : State) (piece work table : List ℕ) (n leaves : ℕ) (x : Refusal) → s ≡ state.Refused n leaves x → left_with s work table ≡ feed_state s piece work table
unfolding feed_state answered
refused_stays s piece work table n leaves x e = rw e refl

pub accepted_stays : (s : State) (piece work table : List ℕ) (n leaves : ℕ) (top : Top) → s ≡ state.Accepted n leaves top → left_with s work table ≡ feed_state s piece work table
unfolding feed_state answered
accepted_stays s piece work table n leaves top e = rw e refl

-- a byte leaves the state in its ranges
pub one_kept : (s q : State) (b : ℕ) (work table work' table' : List ℕ) → b < 256 → InRange s → left_with q work' table' ≡ feed_state s (b ∷ []) work table → InRange q
one_kept s q b work table work' table' byte r e =
    subst InRange (sym (ap (λ (o : Out (Result ℕ Refusal)). o.state) e)) (feed_state_kept s (b ∷ []) work table (byte, tt) r)
