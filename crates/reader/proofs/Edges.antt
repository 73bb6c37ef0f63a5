-- The wrong answers of `read_field` and `read_head` in docs/EDITS.md are others than the contracts allow, each at some bytes.
use Prim.Native.Nat.{ℕ}
use mathlib.Core.Path.{◌≡◌, ap}
use mathlib.Core.List.{List, [], ◌∷◌}
use native.Mathlib.Omega.{arith}
use Rattle.std.specs.Prelude.{Some, None, Ok, Err}
use Rattle.basics.specs.Bytes.{number_from}
use Rattle.basics.specs.Choose.{pick}
use Rattle.fields.specs.Answers.{field_at, head_at, checked_at, FieldRead, HeadRead}
use Rattle.fields.specs.declared.Halt.TheVariants as halt

-- what was read, and 0 for nothing
abbrev value_of : FieldRead → ℕ
value_of (Some (v, next)) = v
value_of None = 0

abbrev size_of : HeadRead → ℕ
size_of (Ok h) = h.size
size_of (Err (halt.Bad x)) = 0
size_of (Err halt.Ended) = 0

abbrev two_bytes : List ℕ
two_bytes = 1 ∷ 2 ∷ []

-- a box of 8 bytes, of no type
abbrev empty_box : List ℕ
empty_box = 0 ∷ 0 ∷ 0 ∷ 8 ∷ 0 ∷ 0 ∷ 0 ∷ 0 ∷ []

-- the first byte, and the byte as far in as a field of one byte is wide
pub field_at_width : field_at two_bytes 1 1 ≡ field_at two_bytes 0 1 → ⊥
unfolding field_at pick number_from
field_at_width e = let z : ◌≡◌ {A = ℕ} 2 1 = ap value_of e in omega arith

-- the two bytes at 0 do not stand where position and width are swapped
pub field_turned : field_at two_bytes 2 0 ≡ field_at two_bytes 0 2 → ⊥
unfolding field_at pick number_from
field_turned e = let z : ◌≡◌ {A = ℕ} 0 258 = ap value_of e in omega arith

-- a box in a container of its own length, and in one that ends where it starts
pub head_without_room : head_at empty_box 0 0 ≡ head_at empty_box 0 8 → ⊥
unfolding head_at checked_at pick number_from
head_without_room e = let z : ◌≡◌ {A = ℕ} 0 8 = ap size_of e in omega arith

-- the same box, looked for where it ends
pub head_at_end : head_at empty_box 8 8 ≡ head_at empty_box 0 8 → ⊥
unfolding head_at checked_at pick number_from
head_at_end e = let z : ◌≡◌ {A = ℕ} 0 8 = ap size_of e in omega arith
