-- The ranges of the indexes that stand open: an entry is taken, an index is opened, and those that have no entry left are closed.
use Prim.Native.Nat.{ℕ, ◌+◌, ◌≤◌, ◌<◌}
use mathlib.Core.Path.{◌≡◌, refl}
use mathlib.Core.List.{[]}
use mathlib.Core.Bool.{◌||◌}
use mathlib.Core.Option.{Option, some, none}
use native.Mathlib.Omega.{arith}
use lib.Dec.{eqb, ltb}
use borrow.Author.Tests.{ltb-false, eqb-false}
use Rattle.basics.proofs.Picks.{pick_holds}
use Rattle.basics.proofs.Tests.{or_neither}
use Rattle.machine.proofs.Faults.{shows_none}
use Rattle.state.specs.declared.Level.{Level}
use Rattle.state.specs.declared.Levels.{Levels}
use Rattle.state.specs.declared.Levels.TheVariants as levels
use Rattle.state.specs.Levels.{inmost, depth, took_entry, push, passed_all, still_one, still_two, still_three, still_open, altered, entry_faults}
use Rattle.state.specs.declared.StoredEntry.{StoredEntry}
use Rattle.state.specs.Ranges.{Within, level_bounds, levels_bounds}

-- the innermost index has an entry to come, and ends no earlier than the time `now`
abbrev pub Comes : Levels → ℕ → Type 0
Comes ls now = ((inmost ls).next < (inmost ls).count) × (now ≤ (inmost ls).until)

-- an entry is taken
pub took_levels : (ls : Levels) → Within (levels_bounds ls) → (inmost ls).next < (inmost ls).count → Within (levels_bounds (took_entry ls))
unfolding took_entry levels_bounds inmost
took_levels (levels.One a) w h = omega arith
took_levels (levels.Two a b) w h = omega arith
took_levels (levels.Three a b c) w h = omega arith
took_levels (levels.Four a b c d) w h = omega arith

pub took_until : (ls : Levels) → (inmost (took_entry ls)).until ≡ (inmost ls).until
unfolding took_entry inmost
took_until (levels.One a) = refl
took_until (levels.Two a b) = refl
took_until (levels.Three a b c) = refl
took_until (levels.Four a b c d) = refl

-- an entry that is not altered ends no later than its index
pub entry_fits : (l : Level) (e : StoredEntry) (now n : ℕ) → entry_faults l e now n ≡ [] → now + e.duration ≤ l.until
unfolding altered
entry_fits l e now n h =
    let k = shows_none (altered l e now n) 12 n h in
    ltb-false _ _ (or_neither (eqb e.size 0) (ltb l.until (now + e.duration)) (or_neither (eqb e.size 0 || ltb l.until (now + e.duration)) _ k).0).1

-- an index is opened inside the innermost one
pub push_levels : (ls : Levels) (l : Level) → depth ls < 4 → Within (levels_bounds ls) → Within (level_bounds l) → l.until ≤ (inmost ls).until → Within (levels_bounds (push ls l))
unfolding push levels_bounds inmost depth
push_levels (levels.One a) l d w v h = omega arith
push_levels (levels.Two a b) l d w v h = omega arith
push_levels (levels.Three a b c) l d w v h = omega arith
push_levels (levels.Four a b c e) l d w v h = absurd (omega (arith, d))

pub push_inmost : (ls : Levels) (l : Level) → depth ls < 4 → inmost (push ls l) ≡ l
unfolding push inmost depth
push_inmost (levels.One a) l d = refl
push_inmost (levels.Two a b) l d = refl
push_inmost (levels.Three a b c) l d = refl
push_inmost (levels.Four a b c e) l d = absurd (omega (arith, d))

-- Those that have no entry left are closed.
abbrev pub Still : ℕ → Option Levels → Type 0
Still now none = Unit {0}
Still now (some ls) = Within (levels_bounds ls) × Comes ls now

still_one_lem : (a : Level) (now : ℕ) → Within (levels_bounds (levels.One a)) → now ≤ a.until → Still now (still_one a)
unfolding still_one levels_bounds inmost
still_one_lem a now w h = pick_holds (Still now) (passed_all a) _ _ (λ e. tt) (λ e. let z = eqb-false a.next a.count e in (w, (omega arith, h)))

still_two_lem : (a b : Level) (now : ℕ) → Within (levels_bounds (levels.Two a b)) → now ≤ b.until → Still now (still_two a b)
unfolding still_two levels_bounds inmost
still_two_lem a b now w h = pick_holds (Still now) (passed_all b) _ _ (λ e. still_one_lem a now (omega arith) (omega arith)) (λ e. let z = eqb-false b.next b.count e in (w, (omega arith, h)))

still_three_lem : (a b c : Level) (now : ℕ) → Within (levels_bounds (levels.Three a b c)) → now ≤ c.until → Still now (still_three a b c)
unfolding still_three levels_bounds inmost
still_three_lem a b c now w h = pick_holds (Still now) (passed_all c) _ _ (λ e. still_two_lem a b now (omega arith) (omega arith)) (λ e. let z = eqb-false c.next c.count e in (w, (omega arith, h)))

pub still_open_lem : (ls : Levels) (now : ℕ) → Within (levels_bounds ls) → now ≤ (inmost ls).until → Still now (still_open ls)
unfolding still_open levels_bounds inmost
still_open_lem (levels.One a) now w h = still_one_lem a now w h
still_open_lem (levels.Two a b) now w h = still_two_lem a b now w h
still_open_lem (levels.Three a b c) now w h = still_three_lem a b c now w h
still_open_lem (levels.Four a b c d) now w h =
    pick_holds (Still now) (passed_all d) _ _ (λ e. still_three_lem a b c now (omega arith) (omega arith)) (λ e. let z = eqb-false d.next d.count e in (w, (omega arith, h)))
