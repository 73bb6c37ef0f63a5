-- The words of an entry in the work area, and that the next entry of the innermost index stands within it.
use Prim.Native.Nat.{ℕ, ◌+◌, ◌%◌, ◌≤◌, ◌<◌}
use mathlib.Core.Path.{◌≡◌, subst}
use mathlib.Core.List.{List}
use native.Mathlib.Omega.{arith}
use lib.Dec.{leb}
use Rattle.segment.specs.Constants.{entry_bytes, type_bit}
use Rattle.state.specs.Flow.{work_bytes}
use Rattle.state.specs.declared.Levels.{Levels}
use Rattle.state.specs.declared.Levels.TheVariants as levels
use Rattle.state.specs.Levels.{word_at, entry_at, inmost, depth, entry_place}
use Rattle.state.specs.declared.StoredEntry.{StoredEntry}
use Rattle.state.specs.Ranges.{Within, levels_bounds}

pub depth_most : (ls : Levels) → (1 ≤ depth ls) × (depth ls ≤ 4)
unfolding depth
depth_most (levels.One a) = omega arith
depth_most (levels.Two a b) = omega arith
depth_most (levels.Three a b c) = omega arith
depth_most (levels.Four a b c d) = omega arith

pub next_most : (ls : Levels) → Within (levels_bounds ls) → ((inmost ls).next ≤ (inmost ls).count) × ((inmost ls).count ≤ 1024)
unfolding levels_bounds inmost
next_most (levels.One a) w = omega arith
next_most (levels.Two a b) w = omega arith
next_most (levels.Three a b c) w = omega arith
next_most (levels.Four a b c d) w = omega arith

-- the same where the open indexes are known by another name
pub next_of : (ls ks : Levels) → ls ≡ ks → Within (levels_bounds ls) → (inmost ks).next ≤ 1024
next_of ls ks e w = let k = next_most ks (subst (λ (q : Levels). Within (levels_bounds q)) e w) in omega arith

-- an entry that is to come stands within the work area
pub place_fits : (ls : Levels) → Within (levels_bounds ls) → (inmost ls).next < (inmost ls).count → entry_place ls + entry_bytes ≤ work_bytes
place_fits ls w h = omega (arith, (depth_most ls).0, (depth_most ls).1, (next_most ls w).0, (next_most ls w).1)

-- an entry of three words
pub entry_law : (w : List ℕ) (i a b c : ℕ) → a ≡ word_at w i → b ≡ word_at w (i + 4) → c ≡ word_at w (i + 8) →
    ◌≡◌ {A = StoredEntry} (record { inner = leb type_bit a; size = a % type_bit; duration = b; sap = c }) (entry_at w i)
unfolding entry_at
entry_law w i a b c e k l = rw (e, k, l)

pub entry_small : (w : List ℕ) (i : ℕ) → (entry_at w i).size < type_bit
unfolding entry_at
entry_small w i = omega arith
