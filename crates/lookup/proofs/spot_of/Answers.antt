-- `lookup::spot_of` meets its contract, by those of `not_accepted` and `look_accepted`, by the law `refused_unless_accepted`, and by the definition
-- of `lookup_of`.
use Rattle.std.specs.Prelude.{Result, Err}
use borrow.Enum.Refused.{opened}
use mathlib.Core.Path.{◌≡◌, refl, sym, ap, ◌∙◌, subst}
use mathlib.Core.Bool.{Bool, true, false}
use mathlib.Core.List.{List, [], ◌∷◌}
use Prim.Native.Nat.{ℕ}
use denote.Enum.Declared.{tag_of}
use types.Run.{OneOf, miss}
use Rattle.state.specs.contracts.State.{the_type}
use Rattle.basics.specs.Choose.{pick}
use Rattle.machine.specs.declared.Refusal.{Refusal}
use Rattle.machine.specs.Faults.{refusal}
use Rattle.moment.specs.declared.Request.{Request}
use Rattle.state.specs.declared.State.{State}
use Rattle.state.specs.declared.State.TheVariants as state
use Rattle.state.specs.Ranges.{in_range}
use Rattle.covering.specs.Lookup.{lookup_state, lookup_of}
use Rattle.lookup.specs.Spots.{Spots}
use Rattle.lookup.proofs.spot_of.Goals as goal
use Rattle.covering.specs.declared.Leaf.{Leaf}

-- a state of the first three cases is not accepted
refused_unless_accepted : (s : State) (table : List ℕ) (r : Request) → OneOf (0 ∷ 1 ∷ 2 ∷ []) (tag_of the_type s) → lookup_state s table r ≡ Err (refusal 22 0)
unfolding lookup_state
refused_unless_accepted (state.Reading n leaves now last s) table r one = refl
refused_unless_accepted (state.Ended n leaves top) table r one = refl
refused_unless_accepted (state.Refused n leaves x) table r one = refl
refused_unless_accepted (state.Accepted n leaves top) table r one = absurd (miss (0 ∷ 1 ∷ 2 ∷ []) 3 tt one)

-- the refusal with one of two numbers is one of two refusals
one_refusal : (b : Bool) → ◌≡◌ {A = Result Leaf Refusal} (Err (refusal (pick b 22 2) 0)) (pick b (Err (refusal 22 0)) (Err (refusal 2 0)))
unfolding pick
one_refusal true = refl
one_refusal false = refl

pub returns-in_default : goal.returns-in_default
unfolding lookup_of
returns-in_default c =
    let a = c.args in
    ap (λ (n : ℕ). Err (refusal n 0)) c.not_accepted.ensures
    ∙ one_refusal (in_range a.s)
    ∙ sym (ap (λ (q : Result Leaf Refusal). pick (in_range a.s) q (Err (refusal 2 0))) (refused_unless_accepted a.s a.table.now a.request (opened c.in_default.in_default-own.keys2)))

pub returns : goal.returns
returns c =
    let a = c.args in
    subst (λ (q : State). Spots a.table.now (lookup_of q a.table.now a.request) c.look_accepted.result)
    (sym c.in-Accepted.is)
    c.look_accepted.ensures
