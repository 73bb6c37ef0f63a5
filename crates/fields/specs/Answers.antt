-- What lent bytes hold at a position, as the code answers it: fields and box headers. Positions count from the first byte lent.
use Rattle.fields.specs.declared.Halt.{Halt}
use Rattle.std.specs.Prelude.{ℕ, ◌+◌, ◌^◌, ◌<◌, List, Bool, ◌||◌, eqb, ltb, leb, length, take, drop, Option, Some, None, Result, Ok, Err}
use Rattle.basics.specs.Choose.{pick}
use Rattle.basics.specs.Bytes.{number}
use Rattle.basics.specs.Headers.{short_header, long_header}
use Rattle.machine.specs.declared.Header.{Header}
use Rattle.machine.specs.Heads.{header}
use Rattle.fields.specs.declared.Halt.TheVariants as halt
use Rattle.fields.specs.declared.Stop.{Stop}

-- a field that was read: its value and the position after it; none where the bytes end before it does
abbrev pub FieldRead : Type 0
FieldRead = Option (ℕ × ℕ)

-- a header that was read, or why none was
abbrev pub HeadRead : Type 0
HeadRead = Result Header Halt

-- no position that is asked for lies farther: twice the most bytes of a segment
abbrev pub farthest : ℕ
farthest = 536870912

-- the number that so many bytes at a position spell
abbrev pub number_at : ℕ → List ℕ → ℕ → ℕ
number_at width s at = number (take width (drop at s))

-- the widths of fields, in bytes
abbrev pub some_width : ℕ → Bool
some_width width = eqb width 1 || eqb width 2 || eqb width 4 || eqb width 8

-- a field: its value and the position after it, or that the bytes end before it does
unfoldable pub field_at : List ℕ → ℕ → ℕ → FieldRead
field_at s at width = pick (ltb (length s) (at + width)) None (Some (number_at width s at, at + width))

-- a value has no more bits than its field
abbrev pub Small : ℕ → FieldRead → Type 0
Small width (Some (v, next)) = v < 256 ^ width
Small width None = Unit {0}

-- a fault of the box at a position, with so many bytes read up to the one that shows it
abbrev pub stop_at : ℕ → ℕ → ℕ → Stop
stop_at n pos next = record { number = n; place = pos; count = next; leaves = 0 }

-- rows 4 and 5, at H: a size under the header's own length; a box that ends past its container
unfoldable pub checked_at : ℕ → ℕ → ℕ → ℕ → ℕ → HeadRead
checked_at at end kind size long =
    pick (ltb size long) (Err (halt.Bad (stop_at 4 at (at + long))))
    (pick (ltb end (at + size)) (Err (halt.Bad (stop_at 5 at (at + long)))) (Ok (header at kind size long)))

-- row 5: size 1 with under 16 remaining (byte 8)
unfoldable pub large_at : List ℕ → ℕ → ℕ → ℕ → HeadRead
large_at s at end kind =
    pick (ltb end (at + long_header)) (Err (halt.Bad (stop_at 5 at (at + short_header))))
    (pick (ltb (length s) (at + long_header)) (Err halt.Ended) (checked_at at end kind (number_at 8 s (at + short_header)) long_header))

-- the header of the box at a position, whose container ends at `end`; row 5: under 8 bytes remain for a box (its first byte)
unfoldable pub head_at : List ℕ → ℕ → ℕ → HeadRead
head_at s at end =
    pick (leb (length s) at) (Err halt.Ended)
    (pick (ltb end (at + short_header)) (Err (halt.Bad (stop_at 5 at (at + 1))))
    (pick (ltb (length s) (at + short_header)) (Err halt.Ended)
    (pick (eqb (number_at 4 s at) 1) (large_at s at end (number_at 4 s (at + 4)))
    (checked_at at end (number_at 4 s (at + 4)) (number_at 4 s at) short_header))))
