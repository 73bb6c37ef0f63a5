-- The innermost index has no entry left: it is closed, and the ones around it stay open as far as they have entries.
use Prim.Native.Nat.{ℕ, ◌<◌}
use mathlib.Core.Path.{◌≡◌}
use mathlib.Core.Bool.{true, false}
use mathlib.Core.Option.{some, none}
use native.Mathlib.Omega.{arith}
use Rattle.std.specs.Prelude.{Some, None}
use Rattle.basics.specs.Choose.{pick}
use Rattle.state.specs.declared.Levels.{Levels}
use Rattle.state.specs.declared.Levels.TheVariants as levels
use Rattle.state.specs.Levels.{inmost, depth, passed_all, still_open, still_one, still_two, still_three}
use Rattle.levels.specs.Views.{around}

-- none around it, and others
pub last_closed : (ls : Levels) → around ls ≡ None → passed_all (inmost ls) ≡ true → still_open ls ≡ none
unfolding around inmost still_open still_one pick
last_closed (levels.One a) e h = rw h
last_closed (levels.Two a b) e h = let y : ◌≡◌ {A = ℕ} 0 1 = cc in absurd (omega arith)
last_closed (levels.Three a b c) e h = let y : ◌≡◌ {A = ℕ} 0 1 = cc in absurd (omega arith)
last_closed (levels.Four a b c d) e h = let y : ◌≡◌ {A = ℕ} 0 1 = cc in absurd (omega arith)

pub one_closed : (ls ks : Levels) → around ls ≡ Some ks → passed_all (inmost ls) ≡ true → (still_open ks ≡ still_open ls) × (depth ks < depth ls)
unfolding around inmost depth still_open still_two still_three pick
one_closed (levels.One a) ks e h = let y : ◌≡◌ {A = ℕ} 0 1 = cc in absurd (omega arith)
one_closed (levels.Two a b) ks e h = let k : levels.One a ≡ ks = cc in (rw (← k, h), rw (← k) (omega arith))
one_closed (levels.Three a b c) ks e h = let k : levels.Two a b ≡ ks = cc in (rw (← k, h), rw (← k) (omega arith))
one_closed (levels.Four a b c d) ks e h = let k : levels.Three a b c ≡ ks = cc in (rw (← k, h), rw (← k) (omega arith))

-- one that has an entry left stays open, with those around it
pub none_closed : (ls : Levels) → passed_all (inmost ls) ≡ false → still_open ls ≡ some ls
unfolding inmost still_open still_one still_two still_three pick
none_closed (levels.One a) h = rw h
none_closed (levels.Two a b) h = rw h
none_closed (levels.Three a b c) h = rw h
none_closed (levels.Four a b c d) h = rw h
