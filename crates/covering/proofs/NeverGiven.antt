-- Row 2 of a lookup is never given for a state that start, feed or finish returned, save one from outside the ranges handed back unchanged:
-- by what they return (crate `state`, `NeverGiven`), and since inside the ranges a lookup gives none but 22 to 26. And 26 is given exactly for
-- what is no time, so never for ticks.
use Rattle.std.specs.Prelude.{Result, Err}
use Prim.Native.Nat.{ℕ, zero, suc, ◌*◌, ◌≤◌}
use mathlib.Core.Path.{◌≡◌, refl, ap, sym, ◌∙◌}
use mathlib.Core.List.{List}
use mathlib.Core.Option.{Option, some, none}
use mathlib.Core.Logic.{◌↔◌, ◌≢◌, ⊎_elim}
use mathlib.Core.Bool.{true}
use native.Mathlib.Omega.{arith}
use lib.Dec.{ltb}
use lib.ListN.{length}
use borrow.Author.Tests.{le-ltb}
use Rattle.basics.proofs.Picks.{pick_yes, pick_no, pick_holds}
use Rattle.table.specs.Table.{record_numbers, record_at}
use Rattle.machine.specs.Faults.{refusal}
use Rattle.machine.specs.declared.Refusal.{Refusal}
use Rattle.moment.specs.declared.Request.{Request}
use Rattle.moment.specs.declared.Request.TheVariants as request
use Rattle.moment.specs.Moments.{Moment, tick, moment_of, before}
use Rattle.state.specs.declared.Top.{Top}
use Rattle.state.specs.declared.State.{State}
use Rattle.state.specs.declared.State.TheVariants as state
use Rattle.state.specs.Ranges.{in_range, InRange}
use Rattle.state.proofs.RangeTests.{in_range_lem}
use Rattle.state.proofs.NeverGiven.{Returned, HandedBack, returned, Chain, chain_in_range}
use Rattle.covering.specs.Lookup.{covering_from, outside, found, look_at, lookup_state, lookup_of}
use Rattle.covering.proofs.Edges.{no_time_next}
use Rattle.covering.specs.declared.Leaf.{Leaf}

-- an answer that does not give this number
abbrev Not : ℕ → Result Leaf Refusal → Type 0
Not k a = (x : Refusal) → a ≡ Err x → x.number ≢ k

refused_not : (k : ℕ) (y : Refusal) → y.number ≢ k → Not k (Err y)
refused_not k y other x e same = let q : y ≡ x = cc in other (ap (λ (z : Refusal). z.number) q ∙ same)

-- among the leaves only 23 and 24 are given
module _ (k : ℕ) (not-23 : 23 ≢ k) (not-24 : 24 ≢ k) where
  outside_not : (leaves : ℕ) (table : List ℕ) (t : Moment) → Not k (outside leaves table t)
  unfolding outside
  outside_not zero table t = refused_not k (refusal 24 0) not-24
  outside_not (suc n) table t =
      pick_holds (Not k) (before t (record_at table 0).start) _ _ (λ early. refused_not k (refusal 23 0) not-23) (λ past. refused_not k (refusal 24 0) not-24)

  found_not : (leaves : ℕ) (table : List ℕ) (t : Moment) (o : Option ℕ) → Not k (found leaves table t o)
  unfolding found
  found_not leaves table t none x e same = outside_not leaves table t x e same
  found_not leaves table t (some i) x e same = let z : ◌≡◌ {A = ℕ} 0 1 = cc in omega arith

  moment_not : 26 ≢ k → (leaves : ℕ) (table : List ℕ) (o : Option Moment) → Not k (look_at leaves table o)
  unfolding look_at
  moment_not not-26 leaves table none = refused_not k (refusal 26 0) not-26
  moment_not not-26 leaves table (some t) = found_not leaves table t (covering_from leaves 0 table t)

  -- with a state, only these, 22 and 25, and what the time gets
  state_not : 22 ≢ k → 25 ≢ k → (s : State) (table : List ℕ) (r : Request) → ((leaves scale : ℕ) → Not k (look_at leaves table (moment_of r scale))) → Not k (lookup_state s table r)
  unfolding lookup_state
  state_not not-22 not-25 (state.Reading n leaves now last s) table r time = refused_not k (refusal 22 0) not-22
  state_not not-22 not-25 (state.Ended n leaves top) table r time = refused_not k (refusal 22 0) not-22
  state_not not-22 not-25 (state.Refused n leaves x) table r time = refused_not k (refusal 22 0) not-22
  state_not not-22 not-25 (state.Accepted n leaves top) table r time =
      pick_holds (Not k) (ltb (length table) (record_numbers * leaves)) _ _ (λ short. refused_not k (refusal 25 0) not-25) (λ long. time leaves top.scale)

looking_not : (s : State) (table : List ℕ) (r : Request) → Not 2 (lookup_state s table r)
looking_not s table r =
    state_not 2 (λ e. omega arith) (λ e. omega arith) (λ e. omega arith) (λ e. omega arith) s table r
    (λ leaves scale. moment_not 2 (λ e. omega arith) (λ e. omega arith) (λ e. omega arith) leaves table (moment_of r scale))

-- A request that is a time whatever the timescale never gets 26: one in ticks never does.
pub ticks_never_26 : (s : State) (table : List ℕ) (t : ℕ) (x : Refusal) → lookup_of s table (request.Ticks t) ≡ Err x → x.number ≢ 26
unfolding lookup_of moment_of look_at
ticks_never_26 s table t =
    pick_holds (Not 26) (in_range s) _ _
    (λ inside. state_not 26 (λ e. omega arith) (λ e. omega arith) (λ e. omega arith) (λ e. omega arith) s table (request.Ticks t)
    (λ leaves scale. found_not 26 (λ e. omega arith) (λ e. omega arith) leaves table (tick t) (covering_from leaves 0 table (tick t))))
    (λ outside'. refused_not 26 (refusal 2 0) (λ e. omega arith))

-- With an accepted state inside the ranges and a table that is long enough, 26 is given exactly for what is no time.
pub no_time_exactly : (n leaves : ℕ) (top : Top) (table : List ℕ) (r : Request) → in_range (state.Accepted n leaves top) ≡ true → record_numbers * leaves ≤ length table →
    (lookup_of (state.Accepted n leaves top) table r ≡ Err (refusal 26 0)) ↔ (moment_of r top.scale ≡ none)
unfolding lookup_of lookup_state look_at
no_time_exactly n leaves top table r inside long = (λ e. at (moment_of r top.scale) (sym given ∙ e), no_time_next n leaves top table r inside long)
  where
    given : lookup_of (state.Accepted n leaves top) table r ≡ look_at leaves table (moment_of r top.scale)
    given =
        pick_yes (in_range (state.Accepted n leaves top)) _ _ inside
        ∙ pick_no (ltb (length table) (record_numbers * leaves)) _ _ (le-ltb (length table) (record_numbers * leaves) long)

    at : (o : Option Moment) → look_at leaves table o ≡ Err (refusal 26 0) → o ≡ none
    at none e = refl
    at (some t) e = absurd (found_not 26 (λ q. omega arith) (λ q. omega arith) leaves table t (covering_from leaves 0 table t) (refusal 26 0) e refl)

-- Inside the ranges no lookup gives 2.
pub lookup_not_two : (s : State) (table : List ℕ) (r : Request) (x : Refusal) → InRange s → lookup_of s table r ≡ Err x → x.number ≢ 2
unfolding lookup_of
lookup_not_two s table r x inside e = looking_not s table r x (sym (pick_yes (in_range s) _ _ ((in_range_lem s).1 inside)) ∙ e)

-- A state that start, feed or finish returned and for which a lookup gives 2 is one from outside the ranges that was handed back unchanged.
pub lookup_never_given : {s : State} (back : Returned s) (table : List ℕ) (r : Request) (x : Refusal) → lookup_of s table r ≡ Err x → x.number ≡ 2 → HandedBack back
lookup_never_given {s} back table r x e two = ⊎_elim (λ inside. absurd (lookup_not_two s table r x inside e two)) (λ handed. handed) (returned back)

-- For a state that comes of a start by calls one after another no lookup gives 2.
pub chain_never_looked_up : {s : State} → Chain s → (table : List ℕ) (r : Request) (x : Refusal) → lookup_of s table r ≡ Err x → x.number ≢ 2
chain_never_looked_up {s} c table r x e = lookup_not_two s table r x (chain_in_range c) e
