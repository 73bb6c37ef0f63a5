-- Each byte of the indexed material belongs to exactly one leaf or one box of an inner index, none of these reaches outside it, and the
-- bytes of each read as it says.
use Prim.Native.Nat.{ℕ, ◌+◌, ◌≤◌, ◌<◌}
use mathlib.Core.Path.{◌≡◌, refl, sym, ap, ◌∙◌}
use mathlib.Core.List.{List, [], ◌++◌, append_assoc, append-nil}
use mathlib.Core.Option.{some}
use native.Mathlib.Omega.{arith}
use lib.ListN.{length, take, drop, length-append}
use lib.Seq.{take_at, drop_at, drop-append-le, drop-drop}
use Rattle.segment.specs.Boxes.{first_box}
use Rattle.segment.specs.Leaves.{leaf_times}
use Rattle.segment.specs.Tree.{Opened, top_index, Part, segment_parts}
use Rattle.segment.specs.Parts.{At, One, position_of, size_of, Holds, material_start, ReadsAs}
use Rattle.segment.proofs.Said.{box_longer}
use Rattle.segment.proofs.Stands.{parts_made}
use Rattle.segment.proofs.Spans.{EndToEnd, end_on, inside, one_has, All, all_both, all_at}
use Rattle.segment.proofs.Tiles.{Fact, Grows, made_by}

-- parts that lie end to end, over the bytes that they fill
abbrev Lie : Fact
Lie p s d xs ps = EndToEnd position_of size_of p ps (p + length xs)

lie_grow : (id scale : ℕ) → Grows id scale Lie
lie_grow id scale =
    record {
      nothing = λ p s. omega arith;
      leaf = λ p s e xs ts long read. (refl, omega arith);
      inner = λ p s d xs o ps i long f.
          let fills = i.fills in
          let end : p + o.box.size + length o.rest ≡ p + length xs = omega arith in
          (refl, rw end at f);
      both = λ p s d d' xs ys ps qs f g.
          let sum : p + length xs + length ys ≡ p + length (xs ++ ys) = simp length-append (omega arith) in
          end_on position_of size_of ps qs p (p + length xs) (p + length (xs ++ ys)) f (rw sum at g);
    }

-- bytes that stand at a position of the whole, with more after them: their parts read as they say
abbrev Held : ℕ → List ℕ → Fact
Held id whole p s d xs ps = (more : List ℕ) → xs ++ more ≡ drop p whole → All (ReadsAs id whole) ps

held_grow : (id scale : ℕ) (whole : List ℕ) → Grows id scale (Held id whole)
held_grow id scale whole =
    record {
      nothing = λ p s more stand. tt;
      leaf = λ p s e xs ts long read more stand. ((ap (λ (ys : List ℕ). leaf_times id (take e.size ys)) (sym stand) ∙ ap (leaf_times id) (take_at xs more e.size long) ∙ read, refl), tt);
      inner = λ p s d xs o ps i long f more stand.
          let fills = i.fills in
          let after : o.rest ++ more ≡ drop (p + o.box.size) whole =
          ap (λ (ys : List ℕ). ys ++ more) (sym i.rest) ∙ sym (drop-append-le o.box.size xs more (omega arith)) ∙ ap (drop o.box.size) stand ∙ drop-drop o.box.size p whole in
          ((o.box, ap first_box (sym stand) ∙ box_longer xs more o.box i.there, i.kind, refl), f more after);
      both = λ p s d d' xs ys ps qs f g more stand.
          let all : xs ++ (ys ++ more) ≡ drop p whole = sym (append_assoc xs ys more) ∙ stand in
          let after : ys ++ more ≡ drop (p + length xs) whole = sym (drop_at xs (ys ++ more) (length xs) refl) ∙ ap (drop (length xs)) all ∙ drop-drop (length xs) p whole in
          all_both (ReadsAs id whole) ps qs (f (ys ++ more) all) (g more after);
    }

module _ (brand : ℕ) (xs : List ℕ) (top : Opened) (ps : List Part) (opened : top_index brand xs ≡ some top) (parted : segment_parts brand xs ≡ some ps) where
  -- the parts lie end to end, from the start of the material to the end of the segment
  parts_lie : EndToEnd position_of size_of (material_start xs top) ps (length xs)
  parts_lie =
      let m = parts_made brand xs top ps opened parted in
      let end : material_start xs top + length m.bytes ≡ length xs = ap (λ (n : ℕ). material_start xs top + n) m.long ∙ m.ends in
      rw end at (made_by xs top ps m Lie (lie_grow top.index.id top.index.scale))

  -- Each byte from the start of the material to the end of the segment belongs to exactly one part.
  pub each_byte : (n : ℕ) → material_start xs top ≤ n → n < length xs → One (Holds n) ps
  each_byte = one_has position_of size_of ps (material_start xs top) (length xs) parts_lie

  -- No part reaches outside the material.
  pub no_byte_outside : (i : ℕ) (p : Part) → At ps i p → (material_start xs top ≤ position_of p) × (position_of p + size_of p ≤ length xs)
  no_byte_outside = inside position_of size_of ps (material_start xs top) (length xs) parts_lie

  -- The bytes of each part of a segment read as the part says.
  pub part_bytes : (i : ℕ) (p : Part) → At ps i p → ReadsAs top.index.id xs p
  part_bytes =
      let m = parts_made brand xs top ps opened parted in
      let id = top.index.id in
      all_at (ReadsAs id xs) ps (made_by xs top ps m (Held id xs) (held_grow id top.index.scale xs) [] (append-nil m.bytes ∙ m.there))
