-- Bytes spelled, and stored, one by one.
use Prim.Native.Nat.{ℕ, suc, ◌+◌, ◌-◌, ◌*◌, ◌≤◌, ◌<◌}
use mathlib.Core.Path.{◌≡◌, ap, sym, ◌∙◌}
use mathlib.Core.List.{List, ◌∷◌}
use native.Mathlib.Omega.{arith}
use lib.ListN.{length, get_or, set, drop, drop_of_length-le}
use lib.Seq.{drop-cons}
use Rattle.basics.specs.Bytes.{number_from}
use Rattle.basics.specs.Put.{put_all}
use Rattle.state.specs.Ranges.{Within, spelled_bounds}
use Rattle.state.proofs.RangeTests.{spelled_next}

module _ (bytes : List ℕ) where
  -- the bytes from the `j`-th on: it, and those after it
  next : (j : ℕ) → j < length bytes → drop j bytes ≡ get_or bytes j 0 ∷ drop (j + 1) bytes
  next j h =
      let d : suc j ≡ j + 1 = omega arith in
      drop-cons bytes j 0 h ∙ ap (λ (p : ℕ). get_or bytes j 0 ∷ drop p bytes) d

  -- after `j` bytes they spell `r`, and with the others what all of them spell
  abbrev pub Spells : ℕ → ℕ → ℕ → Type 0
  Spells acc j r = Within (spelled_bounds 7 (length bytes - j) r) × (number_from r (drop j bytes) ≡ number_from acc bytes)

  pub spells_next : (acc j r r' : ℕ) → j < length bytes → get_or bytes j 0 < 256 → r' ≡ r * 256 + get_or bytes j 0 → Spells acc j r → Spells acc (j + 1) r'
  unfolding number_from
  spells_next acc j r r' h byte e so =
      let a : length bytes - j ≡ suc (length bytes - (j + 1)) = omega arith in (
        rw e (spelled_next 7 (length bytes - (j + 1)) r (get_or bytes j 0) byte (rw a at so.0)),
        rw e (sym (ap (number_from r) (next j h)) ∙ so.1),
      )

  pub spells_last : (acc j r : ℕ) → length bytes ≤ j → Spells acc j r → r ≡ number_from acc bytes
  unfolding number_from
  spells_last acc j r h so = rw (drop_of_length-le bytes {i = j} h) at so.1

  -- after `j` bytes are stored, with the others what all of them leave
  abbrev pub Stores : ℕ → List ℕ → List ℕ → ℕ → Type 0
  Stores at work₀ work j = put_all work (at + j) (drop j bytes) ≡ put_all work₀ at bytes

  pub stores_next : (at : ℕ) (work₀ work : List ℕ) (j : ℕ) → j < length bytes → Stores at work₀ work j →
      Stores at work₀ (set work (at + j) (get_or bytes j 0)) (j + 1)
  unfolding put_all
  stores_next at work₀ work j h so =
      let a : at + (j + 1) ≡ suc (at + j) = omega arith in
      rw a (sym (ap (put_all work (at + j)) (next j h)) ∙ so)

  pub stores_last : (at : ℕ) (work₀ work : List ℕ) (j : ℕ) → length bytes ≤ j → Stores at work₀ work j → work ≡ put_all work₀ at bytes
  unfolding put_all
  stores_last at work₀ work j h so = rw (drop_of_length-le bytes {i = j} h) at so
