-- Where the top index and the material stand in a segment, and what an accepted segment is made of.
use Prim.Native.Nat.{ℕ, ◌+◌, ◌-◌}
use mathlib.Core.Path.{◌≡◌, sym, ap, ◌∙◌}
use mathlib.Core.List.{List}
use mathlib.Core.Option.{Option, some, some-injective}
use mathlib.Core.Bool.{true}
use native.Mathlib.Omega.{arith}
use lib.ListN.{length, drop, length-drop}
use lib.Seq.{drop-drop}
use Rattle.basics.proofs.Options.{then_inv, pick_some, pick_else}
use Rattle.segment.specs.Constants.{levels}
use Rattle.segment.specs.Boxes.{sizes}
use Rattle.segment.specs.Leaves.{never_fall}
use Rattle.segment.specs.Tree.{Opened, top_index, material, Leaf, Part, tile, under_index, times_in, leaves_in, segment_parts, segment}
use Rattle.segment.specs.Parts.{Stands, index_end, material_start}
use Rattle.segment.proofs.Said.{then_goes, first_box_lem, material_place}
use Rattle.segment.proofs.Rules.{stands_later, top_opens}

-- The top index stands in the segment.
pub top_stands : (brand : ℕ) (xs : List ℕ) (top : Opened) → top_index brand xs ≡ some top → Stands xs top
top_stands brand xs top e =
    let opens = top_opens brand xs top e in
    stands_later opens.first.size xs top (first_box_lem xs opens.first opens.there).fits opens.indexed.stands

-- The bytes after the box of the top index start where that box ends.
pub index_end_lem : (xs : List ℕ) (top : Opened) (stands : Stands xs top) → index_end xs top ≡ stands.start + top.box.size
index_end_lem xs top stands = let ends = stands.ends in omega arith

-- what the entries of the top index give, from a position on
abbrev pub parts_from : Opened → ℕ → List ℕ → Option (List Part)
parts_from top position ys = tile top.index.id (under_index top.index.id top.index.scale (levels - 1)) position top.index.time top.index.entries ys

-- What an accepted segment is made of: its material, which starts at the end of the top index plus its first offset and which the sum of
-- the top sizes takes to the segment's end, and the parts that the entries of that index give.
pub record Made (xs : List ℕ) (top : Opened) (ps : List Part) : Type 0 where
  pub bytes : List ℕ
  pub lies : material top ≡ some bytes
  pub tiled : parts_from top (material_start xs top) bytes ≡ some ps
  pub never : never_fall 0 (times_in ps) ≡ true
  pub long : length bytes ≡ sizes top.index.entries
  pub ends : material_start xs top + sizes top.index.entries ≡ length xs
  pub there : bytes ≡ drop (material_start xs top) xs

pub parts_made : (brand : ℕ) (xs : List ℕ) (top : Opened) (ps : List Part) → top_index brand xs ≡ some top → segment_parts brand xs ≡ some ps → Made xs top ps
unfolding segment_parts
parts_made brand xs top ps opened e =
    let (short, e1) = pick_else _ _ ps e in
    let (below, e2) = pick_some _ _ ps (sym (then_goes (top_index brand xs) _ top opened) ∙ e1) in
    let (ys, lies, e3) = then_inv _ _ ps e2 in
    let (qs, tiled, e4) = then_inv _ _ ps e3 in
    let (never, e5) = pick_some _ _ ps e4 in
    let stands = top_stands brand xs top opened in
    let ends = stands.ends in
    let (fits, rest, gap) = material_place top ys lies in
    let left = length-drop top.index.offset top.rest in
    let long = ap length rest in
    let from = index_end_lem xs top stands in
    let start : length xs - length ys ≡ material_start xs top = omega arith in
    record {
      bytes = ys;
      lies = lies;
      tiled = ap (λ (n : ℕ). parts_from top n ys) (sym start) ∙ tiled ∙ e5;
      never = ap (λ (rs : List Part). never_fall 0 (times_in rs)) (sym (some-injective _ _ e5)) ∙ never;
      long = omega arith;
      ends = omega arith;
      there = sym rest ∙ ap (λ (zs : List ℕ). drop top.index.offset zs) (sym stands.rest) ∙ drop-drop top.index.offset (stands.start + top.box.size) xs
          ∙ ap (λ (n : ℕ). drop (n + top.index.offset) xs) (sym from);
    }

-- An accepted segment has a top index and parts, and the leaves among them are its leaves.
pub parts_listed : (brand : ℕ) (xs : List ℕ) (ls : List Leaf) → segment brand xs ≡ some ls →
    (top : Opened) × (ps : List Part) × (top_index brand xs ≡ some top) × (segment_parts brand xs ≡ some ps) × (leaves_in ps ≡ ls)
unfolding segment segment_parts
parts_listed brand xs ls e =
    let (ps, parted, e1) = then_inv (segment_parts brand xs) _ ls e in
    let (top, opened, e2) = then_inv (top_index brand xs) _ ps (pick_else _ _ ps parted).1 in
    (top, ps, opened, parted, some-injective _ _ e1)
