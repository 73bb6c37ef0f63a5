-- Each byte of the material in one part of it, each tick in one leaf: what it means, and that exactly one of a list has a property.
use Rattle.std.specs.Prelude.{ℕ, ◌+◌, ◌-◌, ◌≤◌, ◌<◌, ◌≡◌, List, true, length, take, drop}
use Rattle.std.proofs.Math.Option.{some}
use Rattle.std.proofs.Math.ListN.{get_elem?}
use Rattle.segment.specs.Constants.{sidx}
use Rattle.segment.specs.Boxes.{Box, first_box, sizes, durations, sidx_index}
use Rattle.segment.specs.Leaves.{leaf_times}
use Rattle.segment.specs.Tree.{Opened, top_index, Leaf, covers, Part, leaf_part, index_part, first_time, leaves_in, segment_parts}

-- the i-th of a list, from 0, is a
abbrev pub At : {A : Type 0} → List A → ℕ → A → Type 0
At xs i a = get_elem? xs i ≡ some a

-- Exactly one of a list, by its place, has a property.
pub record One {A : Type 0} (Has : A → Type 0) (xs : List A) : Type 0 where
  pub place : ℕ
  pub item : A
  pub there : At xs place item
  pub has : Has item
  pub only : (i : ℕ) (a : A) → At xs i a → Has a → i ≡ place

-- where a part stands, and how long it is
abbrev pub position_of : Part → ℕ
position_of (leaf_part l times) = l.position
position_of (index_part position size) = position

abbrev pub size_of : Part → ℕ
size_of (leaf_part l times) = l.size
size_of (index_part position size) = size

-- the byte at a position belongs to a part
abbrev pub Holds : ℕ → Part → Type 0
Holds n p = (position_of p ≤ n) × (n < position_of p + size_of p)

-- An index stands in a list of bytes: its box starts at `start`, is a `sidx` that says the index, and the bytes after it go to the end.
pub record Stands (xs : List ℕ) (o : Opened) : Type 0 where
  pub start : ℕ
  pub there : first_box (drop start xs) ≡ some o.box
  pub kind : o.box.kind ≡ sidx
  pub says : sidx_index o.box.body ≡ some o.index
  pub rest : drop (start + o.box.size) xs ≡ o.rest
  pub ends : start + o.box.size + length o.rest ≡ length xs

-- where the bytes after the box of the top index start, and where the material does: "the end of the top index plus its first offset"
abbrev pub index_end : List ℕ → Opened → ℕ
index_end xs top = length xs - length top.rest

abbrev pub material_start : List ℕ → Opened → ℕ
material_start xs top = index_end xs top + top.index.offset

-- What the bytes of a part read as: a leaf by rules 5 and 6, with its decode times; one whole `sidx` box.
abbrev pub ReadsAs : ℕ → List ℕ → Part → Type 0
ReadsAs track xs (leaf_part l times) = (leaf_times track (take l.size (drop l.position xs)) ≡ some times) × (first_time times ≡ l.time)
ReadsAs track xs (index_part position size) = (b : Box) × (first_box (drop position xs) ≡ some b) × (b.kind ≡ sidx) × (b.size ≡ size)

-- "Of an accepted segment each byte of the indexed material belongs to exactly one leaf or one inner index box; each tick from the stated
-- start up to the start plus the sum of the top durations belongs to exactly one leaf." No part reaches outside the material, and no leaf
-- covers any other tick.
pub record Belongs (brand : ℕ) (xs : List ℕ) (ls : List Leaf) : Type 0 where
  pub top : Opened
  pub opened : top_index brand xs ≡ some top
  pub stands : Stands xs top
  pub start : material_start xs top ≡ stands.start + top.box.size + top.index.offset
  pub end : material_start xs top + sizes top.index.entries ≡ length xs
  pub parts : List Part
  pub parted : segment_parts brand xs ≡ some parts
  pub leaves : leaves_in parts ≡ ls
  pub reads : (i : ℕ) (p : Part) → At parts i p → ReadsAs top.index.id xs p
  pub bytes : (n : ℕ) → material_start xs top ≤ n → n < length xs → One (Holds n) parts
  pub within : (i : ℕ) (p : Part) → At parts i p → (material_start xs top ≤ position_of p) × (position_of p + size_of p ≤ length xs)
  pub ticks : (t : ℕ) → top.index.time ≤ t → t < top.index.time + durations top.index.entries → One (λ l. covers t l ≡ true) ls
  pub no_others : (t i : ℕ) (l : Leaf) → At ls i l → covers t l ≡ true → (top.index.time ≤ t) × (t < top.index.time + durations top.index.entries)
