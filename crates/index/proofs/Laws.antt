-- Two faults that one byte may show, one test around the other, the lowest number outermost.
use Prim.Native.Nat.{ℕ, ◌≤◌, ◌<◌}
use mathlib.Core.Path.{◌≡◌, refl}
use mathlib.Core.Bool.{Bool, true, false}
use mathlib.Core.List.{◌++◌}
use borrow.Author.Tests.{lt-ltb, le-ltb}
use Rattle.basics.specs.Choose.{pick}
use Rattle.machine.specs.Faults.{shows, lowest, unless}
use Rattle.machine.specs.declared.Refusal.{Refusal}

pub first_lower : {X : Type 0} (t u : Bool) (a b p : ℕ) (worse : Refusal → X) (x : X) → a ≤ b →
    unless (shows t a p ++ shows u b p) worse x ≡ unless (shows t a p) worse (unless (shows u b p) worse x)
unfolding unless shows lowest pick
first_lower true true a b p worse x h = rw (le-ltb b a h)
first_lower true false a b p worse x h = refl
first_lower false true a b p worse x h = refl
first_lower false false a b p worse x h = refl

pub second_lower : {X : Type 0} (t u : Bool) (a b p : ℕ) (worse : Refusal → X) (x : X) → b < a →
    unless (shows t a p ++ shows u b p) worse x ≡ unless (shows u b p) worse (unless (shows t a p) worse x)
unfolding unless shows lowest pick
second_lower true true a b p worse x h = rw (lt-ltb b a h)
second_lower true false a b p worse x h = refl
second_lower false true a b p worse x h = refl
second_lower false false a b p worse x h = refl
