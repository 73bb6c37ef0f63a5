-- The contracts of `whole` and of `whole_ending`, as the check reads them: each asks nothing, and two outcomes that it allows coincide.
use Rattle.std.specs.Prelude.{ℕ, Result}
use Prim.Native.Nat.{ℕ}
use mathlib.Core.Path.{◌≡◌, refl, sym, ap, ◌∙◌}
use mathlib.Core.List.{List}
use Rattle.basics.specs.Outcome.{OneOutcome, after_call}
use Rattle.machine.specs.declared.Refusal.{Refusal}
use Rattle.state.specs.declared.State.{State}
use Rattle.state.specs.declared.State.TheVariants as state
use Rattle.state.specs.Calls.{Out}
use Rattle.whole.specs.declared.Ending.{Ending}
use Rattle.whole.specs.declared.Ending.TheVariants as ending
use Rattle.whole.specs.Views.{ending_out}
use Rattle.whole.proofs.whole.Kinds as whole_Kinds
use Rattle.whole.proofs.whole.Reads as whole-stated
use Rattle.whole.proofs.whole_ending.Kinds as ending-kinds
use Rattle.whole.proofs.whole_ending.Reads as ending-stated

-- of one segment, brand, work area and table: one answer and state, and one work area and table after the call, number by number; the
-- segment stays as it was
pub whole_once : OneOutcome 3 whole_Kinds.ps whole_Kinds.r whole-stated.Pre whole-stated.Post
whole_once = record {
  asks_nothing = λ κs given. tt;
  outcomes_coincide = λ κs given r r' left left' p q.
      let same = p ∙ sym q in (
        ap (λ (o : Out (Result ℕ Refusal)). record { answer = o.answer; state = o.state }) same,
        ap (λ (o : Out (Result ℕ Refusal)). after_call 3 whole_Kinds.ps whole_Kinds.r κs given (tt, (tt, (o.work, (o.table, tt))))) same,
      );
}

-- the ending that left a state: a reading is left by a work area that is too short, and by nothing else
abbrev ending_of : State → Ending
ending_of (state.Reading n leaves now last s) = ending.ShortWork
ending_of (state.Ended n leaves top) = ending.ShortWork
ending_of (state.Refused n leaves x) = ending.Refused n leaves x
ending_of (state.Accepted n leaves top) = ending.Accepted n leaves top

-- an ending is told by what it says of answer and state, and says nothing of work area and table but what they are
module _ (brand : ℕ) (work table : List ℕ) where
  told_back : (r : Ending) → ending_of (ending_out brand work table r).state ≡ r
  unfolding ending_out
  told_back (ending.Accepted n leaves top) = refl
  told_back (ending.Refused n leaves x) = refl
  told_back ending.ShortWork = refl

  told_work : (r : Ending) → (ending_out brand work table r).work ≡ work
  unfolding ending_out
  told_work (ending.Accepted n leaves top) = refl
  told_work (ending.Refused n leaves x) = refl
  told_work ending.ShortWork = refl

  told_table : (r : Ending) → (ending_out brand work table r).table ≡ table
  unfolding ending_out
  told_table (ending.Accepted n leaves top) = refl
  told_table (ending.Refused n leaves x) = refl
  told_table ending.ShortWork = refl

-- two endings that say the same are one, with one work area and one table
module _ (brand : ℕ) (work work' table table' : List ℕ) (r r' : Ending) (same : ending_out brand work table r ≡ ending_out brand work' table' r') where
  one_ending : r ≡ r'
  one_ending = sym (told_back brand work table r) ∙ ap (λ (o : Out (Result ℕ Refusal)). ending_of o.state) same ∙ told_back brand work' table' r'

  one_work : work ≡ work'
  one_work = sym (told_work brand work table r) ∙ ap (λ (o : Out (Result ℕ Refusal)). o.work) same ∙ told_work brand work' table' r'

  one_table : table ≡ table'
  one_table = sym (told_table brand work table r) ∙ ap (λ (o : Out (Result ℕ Refusal)). o.table) same ∙ told_table brand work' table' r'

-- the same of `whole_ending`: one ending, and one work area and table after the call
pub whole_ending_once : OneOutcome 3 ending-kinds.ps ending-kinds.r ending-stated.Pre ending-stated.Post
whole_ending_once = record {
  asks_nothing = λ κs given. tt;
  outcomes_coincide = λ κs given r r' left left' p q.
      let same = p ∙ sym q in (
        one_ending _ _ _ _ _ r r' same,
        ap (λ (work : List ℕ). after_call 3 ending-kinds.ps ending-kinds.r κs given (tt, (tt, (work, (left.1.1.1.0, tt))))) (one_work _ _ _ _ _ r r' same)
            ∙ ap (λ (table : List ℕ). after_call 3 ending-kinds.ps ending-kinds.r κs given (tt, (tt, (left'.1.1.0, (table, tt))))) (one_table _ _ _ _ _ r r' same),
      );
}
