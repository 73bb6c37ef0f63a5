-- What an answer of a skipped body says: its bytes are there, or they end before it does.
use Prim.Native.Nat.{ℕ, ◌≤◌, ◌<◌}
use mathlib.Core.Path.{◌≡◌, refl, sym}
use mathlib.Core.List.{List}
use mathlib.Core.Bool.{Bool, true, false}
use native.Mathlib.Omega.{arith}
use lib.Dec.{ltb}
use lib.ListN.{length}
use borrow.Author.Tests.{ltb-true, ltb-false}
use Rattle.fields.specs.declared.Halt.{Halt}
use Rattle.std.specs.Prelude.{Result, Ok, Err}
use Rattle.basics.specs.Choose.{pick}
use Rattle.reader.specs.Skips.{skip_at}
use Rattle.fields.specs.declared.Halt.TheVariants as halt

pub skip_here : (s : List ℕ) (end : ℕ) {u : Unit {0}} → skip_at s end ≡ Ok u → end ≤ length s
unfolding skip_at pick
skip_here s end {u} e = by (ltb (length s) end) refl e
  where
    by : (t : Bool) → ltb (length s) end ≡ t → pick {A = Result (Unit {0}) Halt} t (Err halt.Ended) (Ok tt) ≡ Ok u → end ≤ length s
    by true q e = let z : ◌≡◌ {A = ℕ} 0 1 = cc in absurd (omega arith)
    by false q e = ltb-false _ _ q

pub skip_gone : (s : List ℕ) (end : ℕ) {x : Halt} → skip_at s end ≡ Err x → (x ≡ halt.Ended) × (length s < end)
unfolding skip_at pick
skip_gone s end {x} e = by (ltb (length s) end) refl e
  where
    by : (t : Bool) → ltb (length s) end ≡ t → pick {A = Result (Unit {0}) Halt} t (Err halt.Ended) (Ok tt) ≡ Err x → (x ≡ halt.Ended) × (length s < end)
    by true q e = let same : halt.Ended ≡ x = cc in (sym same, ltb-true _ _ q)
    by false q e = let z : ◌≡◌ {A = ℕ} 0 1 = cc in absurd (omega arith)
