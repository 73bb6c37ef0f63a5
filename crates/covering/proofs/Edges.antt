-- Rule 7 at the edges of a record: its start is covered, its end is not; only whole ticks matter to a leaf. And the order of a lookup's checks.
use Rattle.std.specs.Prelude.{Err}
use Prim.Native.Nat.{ℕ, ◌+◌, ◌*◌, ◌/◌, ◌≤◌, ◌<◌}
use mathlib.Core.Path.{◌≡◌, refl, ap, ◌∙◌}
use mathlib.Core.List.{List}
use mathlib.Core.Option.{Option, none}
use mathlib.Core.Bool.{Bool, true, false, ◌&&◌}
use native.Mathlib.Omega.{arith}
use native.Mathlib.Nat.{add-zero}
use lib.Dec.{ltb, leb}
use lib.ListN.{length}
use borrow.Author.Tests.{ltb-true, leb-true, lt-ltb, le-ltb, le-leb}
use Rattle.basics.specs.Choose.{pick}
use Rattle.basics.proofs.Picks.{pick_yes, pick_no}
use Rattle.basics.proofs.Tests.{and_both}
use Rattle.moment.specs.declared.Request.{Request}
use Rattle.moment.specs.Moments.{Moment, tick, moment_of, reaches, before}
use Rattle.moment.specs.Worth.{whole}
use Rattle.moment.proofs.Whole.{reaches_whole, before_whole}
use Rattle.segment.specs.Tree.{Leaf, covers}
use Rattle.table.specs.declared.Record.{Record}
use Rattle.table.specs.Table.{record_numbers}
use Rattle.machine.specs.Faults.{refusal}
use Rattle.state.specs.declared.Top.{Top}
use Rattle.state.specs.declared.State.TheVariants as state
use Rattle.state.specs.Ranges.{in_range}
use Rattle.covering.specs.Lookup.{record_covers, look_at, lookup_state, lookup_of}
use Rattle.covering.specs.Records.{leaf_covers}

-- where a test fails, "and" with it fails
pub and_no : (a b : Bool) → b ≡ false → (a && b) ≡ false
and_no true b e = e
and_no false b e = refl

-- a time at the end of a record, its start plus its duration, or past it, is not covered
pub end_not_covered : (r : Record) (t : Moment) → (r.start + r.duration) * t.under ≤ t.over → record_covers r t ≡ false
unfolding record_covers
end_not_covered r t past = and_no (reaches t r.start) _ (le-ltb t.over ((r.start + r.duration) * t.under) past)

-- covered is all from the start on and before the end, and nothing else
pub covered_between : (r : Record) (t : Moment) → record_covers r t ≡ true → (r.start * t.under ≤ t.over) × (t.over < (r.start + r.duration) * t.under)
unfolding record_covers
covered_between r t e =
    let (from, to) = and_both (reaches t r.start) (before t (r.start + r.duration)) e in
    (leb-true (r.start * t.under) t.over from, ltb-true t.over ((r.start + r.duration) * t.under) to)

pub between_covered : (r : Record) (t : Moment) → r.start * t.under ≤ t.over → t.over < (r.start + r.duration) * t.under → record_covers r t ≡ true
unfolding record_covers
between_covered r t from to = rw (le-leb (r.start * t.under) t.over from, lt-ltb t.over ((r.start + r.duration) * t.under) to)

-- a record of duration 0 covers nothing
pub empty_covers_nothing : (r : Record) (t : Moment) → r.duration ≡ 0 → record_covers r t ≡ false
empty_covers_nothing r t empty = at (record_covers r t) refl
  where
    at : (c : Bool) → record_covers r t ≡ c → c ≡ false
    at false e = refl
    at true e =
        let (from, to) = covered_between r t e in
        let same : (r.start + r.duration) * t.under ≡ r.start * t.under = ap (λ (n : ℕ). (r.start + n) * t.under) empty ∙ ap (λ (n : ℕ). n * t.under) (add-zero r.start) in
        absurd (omega arith)

-- Only the whole part of a time matters: a leaf covers the time exactly where it covers that tick.
pub covers_whole : (l : Leaf) (t : Moment) → 0 < t.under → leaf_covers t l ≡ covers (whole t) l
unfolding record_covers covers pick
covers_whole l t some' =
    ap (λ (c : Bool). c && before t (l.start + l.duration)) (reaches_whole t some' l.start)
    ∙ ap (λ (c : Bool). leb l.start (whole t) && c) (before_whole t some' (l.start + l.duration))
    ∙ at (leb l.start (whole t))
  where
    at : (c : Bool) → (c && ltb (whole t) (l.start + l.duration)) ≡ pick c (ltb (whole t) (l.start + l.duration)) false
    at true = refl
    at false = refl

-- So a leaf covers a whole tick as rule 7 says.
pub covers_tick : (l : Leaf) (t : ℕ) → leaf_covers (tick t) l ≡ covers t l
covers_tick l t = let e : t / 1 ≡ t = omega arith in covers_whole l (tick t) (omega arith) ∙ ap (λ (n : ℕ). covers n l) e

-- With an accepted state inside the ranges, a table shorter than the list gives 25, whatever was asked for.
pub short_first : (n leaves : ℕ) (top : Top) (table : List ℕ) (r : Request) → in_range (state.Accepted n leaves top) ≡ true → length table < record_numbers * leaves →
    lookup_of (state.Accepted n leaves top) table r ≡ Err (refusal 25 0)
unfolding lookup_of lookup_state
short_first n leaves top table r inside short =
    pick_yes (in_range (state.Accepted n leaves top)) _ _ inside ∙ pick_yes (ltb (length table) (record_numbers * leaves)) _ _ (lt-ltb (length table) (record_numbers * leaves) short)

-- With a table that is long enough, what is no time gives 26, whatever the table holds.
pub no_time_next : (n leaves : ℕ) (top : Top) (table : List ℕ) (r : Request) → in_range (state.Accepted n leaves top) ≡ true → record_numbers * leaves ≤ length table →
    moment_of r top.scale ≡ none → lookup_of (state.Accepted n leaves top) table r ≡ Err (refusal 26 0)
unfolding lookup_of lookup_state look_at
no_time_next n leaves top table r inside long no_time =
    pick_yes (in_range (state.Accepted n leaves top)) _ _ inside
    ∙ pick_no (ltb (length table) (record_numbers * leaves)) _ _ (le-ltb (length table) (record_numbers * leaves) long)
    ∙ ap (λ (o : Option Moment). look_at leaves table o) no_time
