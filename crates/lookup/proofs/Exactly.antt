-- Laws of a lookup by whole ticks: what they are answered is what the exact time gets that was asked for; and what an accepted state
-- has in its ranges.
use Rattle.std.specs.Prelude.{Result, Err, Option as Given, Some, None}
use Prim.Native.Nat.{ℕ, ◌+◌, ◌*◌, ◌^◌, ◌≤◌, ◌<◌}
use mathlib.Core.Path.{◌≡◌, refl, sym, ap, ◌∙◌, subst}
use mathlib.Core.List.{List}
use mathlib.Core.Option.{Option, some, none}
use mathlib.Core.Bool.{true, false}
use native.Mathlib.Omega.{arith}
use lib.Dec.{ltb}
use lib.ListN.{length, get_or}
use borrow.Author.Tests.{le-ltb}
use Rattle.basics.proofs.Picks.{pick_no}
use Rattle.table.specs.Table.{most_records, record_numbers, record_at}
use Rattle.state.specs.declared.Top.{Top}
use Rattle.state.specs.declared.State.TheVariants as state
use Rattle.state.specs.Ranges.{in_range, bounds}
use Rattle.state.proofs.RangeTests.{in_range_lem}
use Rattle.machine.specs.declared.Refusal.{Refusal}
use Rattle.machine.specs.Faults.{refusal}
use Rattle.moment.specs.declared.Request.{Request}
use Rattle.moment.specs.Moments.{Moment, tick, moment_of}
use Rattle.moment.specs.Worth.{whole}
use Rattle.moment.proofs.Whole.{moment_under}
use Rattle.seconds.specs.declared.Ticks.{Ticks}
use Rattle.seconds.specs.declared.Ticks.TheVariants as ticks
use Rattle.seconds.specs.Ticks.{ticks_at, ticks_of}
use Rattle.seconds.proofs.Laws.{Told, ticks_told}
use Rattle.covering.specs.Lookup.{record_covers, found, look_in, look_at, look_among}
use Rattle.covering.proofs.Covering.{covers_none}
use Rattle.covering.proofs.Wholes.{only_whole}
use Rattle.lookup.proofs.Passing.{past_end, outside_past}
use Rattle.covering.specs.declared.Leaf.{Leaf}

-- an answer is what a time gets whose whole ticks are told so
abbrev pub Answers : ℕ → List ℕ → Result Leaf Refusal → Given Ticks → Type 0
Answers leaves table a (Some (ticks.At t)) = look_in leaves table (tick t) ≡ a
Answers leaves table a (Some (ticks.Beyond t)) = look_in leaves table (tick (2 ^ 64 + t)) ≡ a
Answers leaves table a (Some ticks.Past) = Err (refusal 24 0) ≡ a
Answers leaves table a None = Err (refusal 26 0) ≡ a

-- 2^65 ticks or more are past every record whose numbers have 64 bits
past_record : (table : List ℕ) (w i : ℕ) → ((k : ℕ) → get_or table k 0 < 2 ^ 64) → 2 ^ 65 ≤ w → record_covers (record_at table i) (tick w) ≡ false
unfolding record_at
past_record table w i small far =
    let start = small (record_numbers * i + 2) in
    let duration = small (record_numbers * i + 3) in
    past_end (record_at table i) w (omega arith) (omega arith)

past_all : (leaves : ℕ) (table : List ℕ) (w : ℕ) → ((k : ℕ) → get_or table k 0 < 2 ^ 64) → 2 ^ 65 ≤ w → look_in leaves table (tick w) ≡ Err (refusal 24 0)
unfolding found
past_all leaves table w small far =
    let first = small 2 in
    ap (λ (o : Option ℕ). found leaves table (tick w) o) (covers_none leaves 0 table (tick w) (λ m from to. past_record table w m small far))
    ∙ outside_past leaves table w (omega arith)

module _ (leaves : ℕ) (table : List ℕ) (small : (k : ℕ) → get_or table k 0 < 2 ^ 64) where
  by_ticks : (t : Moment) → 0 < t.under → (r : Ticks) → Told (whole t) r → Answers leaves table (look_in leaves table t) (Some r)
  by_ticks t some' (ticks.At n) e = sym (only_whole t some' leaves table ∙ ap (λ (k : ℕ). look_in leaves table (tick k)) e)
  by_ticks t some' (ticks.Beyond n) e = sym (only_whole t some' leaves table ∙ ap (λ (k : ℕ). look_in leaves table (tick k)) e)
  by_ticks t some' ticks.Past far = sym (only_whole t some' leaves table ∙ past_all leaves table (whole t) small far)

  by_time : (o : Option Moment) → ((t : Moment) → o ≡ some t → 0 < t.under) → Answers leaves table (look_at leaves table o) (ticks_of o)
  unfolding ticks_of look_at
  by_time none some' = refl
  by_time (some t) some' = by_ticks t (some' t refl) (ticks_at (whole t)) (ticks_told (whole t))

  -- A request whose whole ticks were told, where the table is long enough.
  pub request_answered : (q : Request) (scale : ℕ) {r : Given Ticks} → r ≡ ticks_of (moment_of q scale) → record_numbers * leaves ≤ length table →
      Answers leaves table (look_among leaves table (moment_of q scale)) r
  request_answered q scale {r} told long =
      subst (λ (a : Result Leaf Refusal). Answers leaves table a r) (sym (pick_no (ltb (length table) (record_numbers * leaves)) _ _ (le-ltb (length table) (record_numbers * leaves) long)))
      (subst (λ (s : Given Ticks). Answers leaves table (look_at leaves table (moment_of q scale)) s) (sym told) (by_time (moment_of q scale) (moment_under q scale)))

-- An accepted state inside the ranges: its leaves are at most so many, its timescale is not 0 and has 32 bits.
pub accepted_fits : (n leaves : ℕ) (top : Top) → in_range (state.Accepted n leaves top) ≡ true → (leaves ≤ most_records) × (0 < top.scale) × (top.scale < 2 ^ 32)
unfolding bounds
accepted_fits n leaves top inside =
    let fits = (in_range_lem (state.Accepted n leaves top)).0 inside in
    (fits.1.0, fits.1.1.1.0, fits.1.1.1.1.0)
