-- Laws of lists of bytes: that each is a byte, of a list, of its parts and of lists joined.
use Prim.Native.Nat.{ℕ, zero, suc, ◌<◌}
use mathlib.Core.List.{List, [], ◌∷◌, ◌++◌}
use lib.ListN.{drop, get_or}
use Rattle.basics.specs.Bytes.{AllBytes}

-- a list with a byte at each place
pub each_byte_all : (xs : List ℕ) → ((i : ℕ) → get_or xs i 0 < 256) → AllBytes xs
each_byte_all [] f = tt
each_byte_all (x ∷ xs) f = (f 0, each_byte_all xs (λ (i : ℕ). f (suc i)))

pub bytes_first : (xs ys : List ℕ) → AllBytes (xs ++ ys) → AllBytes xs
bytes_first [] ys h = tt
bytes_first (x ∷ xs) ys h = (h.0, bytes_first xs ys h.1)

pub bytes_second : (xs ys : List ℕ) → AllBytes (xs ++ ys) → AllBytes ys
bytes_second [] ys h = h
bytes_second (x ∷ xs) ys h = bytes_second xs ys h.1

pub bytes_both : (xs ys : List ℕ) → AllBytes xs → AllBytes ys → AllBytes (xs ++ ys)
bytes_both [] ys g h = h
bytes_both (x ∷ xs) ys g h = (g.0, bytes_both xs ys g.1 h)

pub all_drop : (m : ℕ) (bs : List ℕ) → AllBytes bs → AllBytes (drop m bs)
all_drop zero bs a = a
all_drop (suc m) [] a = a
all_drop (suc m) (b ∷ bs) a = all_drop m bs a.1
