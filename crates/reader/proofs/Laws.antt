-- A header of 8 bytes that are there and that shows no fault, from its two fields.
use Prim.Native.Nat.{ℕ, ◌+◌, ◌≤◌, ◌<◌}
use mathlib.Core.Path.{◌≡◌, ap, sym, ◌∙◌}
use mathlib.Core.List.{List}
use native.Mathlib.Omega.{arith}
use lib.ListN.{length}
use borrow.Author.Tests.{lt-leb, le-ltb, ne_eqb}
use Rattle.std.specs.Prelude.{Some, Ok}
use Rattle.basics.specs.Choose.{pick}
use Rattle.machine.specs.Heads.{header}
use Rattle.machine.specs.declared.Header.{Header}
use Rattle.fields.specs.Answers.{field_at, checked_at, head_at, HeadRead}
use Rattle.fields.proofs.Answers.{field_in}

module _ (s : List ℕ) (at end size kind next last : ℕ) where
  short_same : at + 8 ≤ length s → 8 ≤ size → at + size ≤ end → field_at s at 4 ≡ Some (size, next) → field_at s next 4 ≡ Some (kind, last) →
      ◌≡◌ {A = HeadRead} (Ok (header at kind size 8)) (head_at s at end)
  unfolding head_at checked_at pick
  short_same there big within first second =
      let a = field_in s at 4 size next first in
      let b = field_in s next 4 kind last second in
      let here : at < length s = omega arith in
      let room : at + 8 ≤ end = omega arith in
      let one : size ≡ 1 → ⊥ = λ (e : size ≡ 1). omega arith in
      rw (lt-leb _ _ here, le-ltb _ _ room, le-ltb _ _ there, ← a.value, ne_eqb _ _ one, ← a.after, ← b.value, le-ltb _ _ big, le-ltb _ _ within)

  pub short_law : at + 8 ≤ length s → 8 ≤ size → at + size ≤ end → field_at s at 4 ≡ Some (size, next) → field_at s next 4 ≡ Some (kind, last) →
      (h : Header) → Some (header at kind size 8) ≡ Some h → head_at s at end ≡ Ok h
  short_law there big within first second h e = let q : header at kind size 8 ≡ h = cc in sym (short_same there big within first second) ∙ ap (λ (h : Header). Ok h) q
