-- Bytes stored as read: a word's four, and those that there are.
use Prim.Native.Nat.{ℕ, suc, ◌+◌, ◌*◌, ◌/◌, ◌%◌, ◌≤◌, ◌<◌}
use mathlib.Core.Path.{◌≡◌, refl, ap, sym, ◌∙◌}
use mathlib.Core.List.{List, [], ◌∷◌}
use native.Mathlib.Omega.{arith}
use lib.ListN.{length, get_or, set, take, drop, drop_of_length-le}
use lib.Seq.{drop-cons}
use Rattle.basics.specs.Put.{put_all}
use Rattle.fields.specs.Answers.{number_at}
use Rattle.fields.proofs.Width.{word_law}
use Rattle.walk_index.specs.Parts.{word_bytes}

-- the digits of four bytes to the base 256 are these
digits : (a b c d v : ℕ) → a < 256 → b < 256 → c < 256 → d < 256 → v ≡ ((a * 256 + b) * 256 + c) * 256 + d → word_bytes v ≡ a ∷ b ∷ c ∷ d ∷ []
digits a b c d v ha hb hc hd e =
    let p : v / 16777216 % 256 ≡ a = omega arith in
    let q : v / 65536 % 256 ≡ b = omega arith in
    let r : v / 256 % 256 ≡ c = omega arith in
    let t : v % 256 ≡ d = omega arith in
    rw (p, q, r, t)

module _ (s : List ℕ) (j : ℕ) (there : j + 4 ≤ length s) where
  four : take 4 (drop j s) ≡ get_or s j 0 ∷ get_or s (j + 1) 0 ∷ get_or s (j + 2) 0 ∷ get_or s (j + 3) 0 ∷ []
  four =
      let a : j + 1 ≡ suc j = omega arith in
      let b : j + 2 ≡ suc (suc j) = omega arith in
      let c : j + 3 ≡ suc (suc (suc j)) = omega arith in
      let h : j < length s = omega arith in
      let h1 : suc j < length s = omega arith in
      let h2 : suc (suc j) < length s = omega arith in
      let h3 : suc (suc (suc j)) < length s = omega arith in
      rw (a, b, c, drop-cons s j 0 h, drop-cons s (suc j) 0 h1, drop-cons s (suc (suc j)) 0 h2, drop-cons s (suc (suc (suc j))) 0 h3)

  -- a word's bytes are those that spell it
  pub word_bytes_lem : (v : ℕ) → v ≡ number_at 4 s j → ((i : ℕ) → get_or s i 0 < 256) → word_bytes v ≡ take 4 (drop j s)
  word_bytes_lem v e byte =
      digits (get_or s j 0) (get_or s (j + 1) 0) (get_or s (j + 2) 0) (get_or s (j + 3) 0) v (byte j) (byte (j + 1)) (byte (j + 2)) (byte (j + 3))
      (e ∙ sym (word_law s j _ _ _ _ there refl refl refl refl)) ∙ sym four

-- after `k` of the bytes are stored, with the others what all of them leave
module _ (bytes : List ℕ) where
  abbrev pub Stores : ℕ → List ℕ → List ℕ → ℕ → Type 0
  Stores i work₀ work k = put_all work (i + k) (drop k bytes) ≡ put_all work₀ i bytes

  pub stores_next : (i : ℕ) (work₀ work : List ℕ) (k : ℕ) → k < length bytes → Stores i work₀ work k → Stores i work₀ (set work (i + k) (get_or bytes k 0)) (k + 1)
  unfolding put_all
  stores_next i work₀ work k h so =
      let a : i + (k + 1) ≡ suc (i + k) = omega arith in
      let b : k + 1 ≡ suc k = omega arith in
      rw (a, b) (sym (ap (put_all work (i + k)) (drop-cons bytes k 0 h)) ∙ so)

  pub stores_last : (i : ℕ) (work₀ work : List ℕ) (k : ℕ) → length bytes ≤ k → Stores i work₀ work k → work ≡ put_all work₀ i bytes
  unfolding put_all
  stores_last i work₀ work k h so = rw (drop_of_length-le bytes {i = k} h) at so
