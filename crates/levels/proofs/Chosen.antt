-- What an entry that was read back comes to, by whether it was altered.
use Prim.Native.Nat.{ℕ}
use mathlib.Core.Path.{◌≡◌, refl, ap}
use mathlib.Core.Bool.{Bool, true, false}
use native.Mathlib.Omega.{arith}
use Rattle.std.specs.Prelude.{Option, Some, None}
use Rattle.basics.specs.Choose.{pick}
use Rattle.state.specs.declared.Slot.{Slot}

pub chosen : (t i inner : Bool) (s slot : Slot) → pick {A = Option (Bool × Slot)} t None (Some (i, s)) ≡ Some (inner, slot) → (t ≡ false) × (i ≡ inner) × (s ≡ slot)
unfolding pick
chosen true i inner s slot e = let y : ◌≡◌ {A = ℕ} 0 1 = cc in absurd (omega arith)
chosen false i inner s slot e =
    let k : ◌≡◌ {A = Bool × Slot} (i, s) (inner, slot) = cc in
    (refl, ap (λ (q : Bool × Slot). q.0) k, ap (λ (q : Bool × Slot). q.1) k)

pub altered_told : (t i : Bool) (s : Slot) → pick {A = Option (Bool × Slot)} t None (Some (i, s)) ≡ None → t ≡ true
unfolding pick
altered_told true i s e = refl
altered_told false i s e = let y : ◌≡◌ {A = ℕ} 0 1 = cc in absurd (omega arith)
