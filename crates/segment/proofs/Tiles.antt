-- What holds of all that entries tile, by what holds of a leaf, of an inner index, and of two runs of bytes one after the other.
use Prim.Native.Nat.{ℕ, zero, suc, ◌+◌, ◌-◌}
use mathlib.Core.Path.{◌≡◌, sym, ap, subst}
use mathlib.Core.List.{List, [], ◌∷◌, ◌++◌}
use mathlib.Core.Option.{some, some-injective, none-ne-some}
use mathlib.Core.Bool.{Bool, true, false}
use native.Mathlib.Omega.{arith}
use lib.Dec.{eqb}
use lib.ListN.{length, take, drop, length-drop, take-append-drop}
use lib.Seq.{length-take-le}
use Rattle.basics.specs.Choose.{pick, and_then}
use Rattle.basics.proofs.Options.{then_inv}
use Rattle.segment.specs.Constants.{levels}
use Rattle.segment.specs.Boxes.{Entry, sizes, durations}
use Rattle.segment.specs.Leaves.{leaf_times}
use Rattle.segment.specs.Tree.{Opened, Part, leaf_part, index_part, leaf_of, PartsUnder, entry_parts, tile, inner_index, under_index}
use Rattle.segment.specs.Parts.{material_start}
use Rattle.segment.proofs.Said.{Inner, inner_says}
use Rattle.segment.proofs.Stands.{Made}

-- what is said of parts: of the position, the start, the duration and the bytes of what they fill
abbrev pub Fact : Type 1
Fact = ℕ → ℕ → ℕ → List ℕ → List Part → Type 0

-- A fact of parts that holds of nothing, of a leaf, of an inner index with what it indexes, and of two runs of bytes one after the other.
pub record Grows (id scale : ℕ) (K : Fact) : Type 0 where
  pub nothing : (p s : ℕ) → K p s 0 [] []
  pub leaf : (p s : ℕ) (e : Entry) (xs ts : List ℕ) → length xs ≡ e.size → leaf_times id xs ≡ some ts → K p s e.duration xs (leaf_part (leaf_of p s e ts) ts ∷ [])
  pub inner : (p s d : ℕ) (xs : List ℕ) (o : Opened) (ps : List Part) → Inner id scale s d xs o → length o.rest ≡ sizes o.index.entries →
      K (p + o.box.size) s d o.rest ps → K p s d xs (index_part p o.box.size ∷ ps)
  pub both : (p s d d' : ℕ) (xs ys : List ℕ) (ps qs : List Part) → K p s d xs ps → K (p + length xs) (s + d) d' ys qs → K p s (d + d') (xs ++ ys) (ps ++ qs)

module _ (id scale : ℕ) (K : Fact) (grows : Grows id scale K) where
  abbrev Over : PartsUnder → Type 0
  Over under = (p s d : ℕ) (xs : List ℕ) (ps : List Part) → under p s d xs ≡ some ps → K p s d xs ps

  entry_by : (under : PartsUnder) → Over under → (p s : ℕ) (e : Entry) (xs : List ℕ) (ps : List Part) → length xs ≡ e.size → entry_parts id under p s e xs ≡ some ps → K p s e.duration xs ps
  unfolding entry_parts pick
  entry_by under over p s e xs ps long h = at (eqb e.kind 0) h
    where
      at : (t : Bool) → pick t (and_then (leaf_times id xs) (λ ts. some (leaf_part (leaf_of p s e ts) ts ∷ []))) (under p s e.duration xs) ≡ some ps → K p s e.duration xs ps
      at true g = let (ts, read, q) = then_inv (leaf_times id xs) _ ps g in subst (K p s e.duration xs) (some-injective _ _ q) (grows.leaf p s e xs ts long read)
      at false g = over p s e.duration xs ps g

  tile_by : (under : PartsUnder) → Over under → (es : List Entry) (p s : ℕ) (xs : List ℕ) (ps : List Part) → length xs ≡ sizes es → tile id under p s es xs ≡ some ps → K p s (durations es) xs ps
  unfolding tile sizes durations
  tile_by under over [] p s [] ps long h = subst (K p s 0 []) (some-injective _ _ h) (grows.nothing p s)
  tile_by under over [] p s (x ∷ xs) ps long h = absurd (omega arith)
  tile_by under over (e ∷ es) p s xs ps long h =
      let (qs, q, h1) = then_inv (entry_parts id under p s e (take e.size xs)) _ ps h in
      let (rs, r, h2) = then_inv (tile id under (p + e.size) (s + e.duration) es (drop e.size xs)) _ ps h1 in
      let first : length (take e.size xs) ≡ e.size = length-take-le e.size xs (omega arith) in
      let left = length-drop e.size xs in
      let rest : K (p + length (take e.size xs)) (s + e.duration) (durations es) (drop e.size xs) rs =
      subst (λ (n : ℕ). K (p + n) (s + e.duration) (durations es) (drop e.size xs) rs) (sym first)
      (tile_by under over es (p + e.size) (s + e.duration) (drop e.size xs) rs (omega arith) r) in
      subst (K p s (e.duration + durations es) xs) (some-injective _ _ h2)
      (subst (λ (ys : List ℕ). K p s (e.duration + durations es) ys (qs ++ rs)) (take-append-drop e.size xs)
      (grows.both p s e.duration (durations es) (take e.size xs) (drop e.size xs) qs rs (entry_by under over p s e (take e.size xs) qs first q) rest))

  under_by : (left : ℕ) → Over (under_index id scale left)
  unfolding under_index
  under_by zero p s d xs ps h = absurd (none-ne-some ps h)
  under_by (suc left) p s d xs ps h =
      let (o, e, h1) = then_inv (inner_index id scale s d xs) _ ps h in
      let (qs, q, h2) = then_inv _ _ ps h1 in
      let i = inner_says id scale s d xs o e in
      let fills = i.fills in
      let long = ap length i.rest in
      let cut = length-drop o.box.size xs in
      let rest : length o.rest ≡ sizes o.index.entries = omega arith in
      subst (K p s d xs) (some-injective _ _ h2)
      (grows.inner p s d xs o qs i rest (rw i.lasts at (tile_by (under_index id scale left) (under_by left) o.index.entries (p + o.box.size) s o.rest qs rest q)))

-- Such a fact holds of the parts of a segment.
pub made_by : (xs : List ℕ) (top : Opened) (ps : List Part) (m : Made xs top ps) (K : Fact) → Grows top.index.id top.index.scale K →
    K (material_start xs top) top.index.time (durations top.index.entries) m.bytes ps
made_by xs top ps m K grows =
    let id = top.index.id in
    let scale = top.index.scale in
    tile_by id scale K grows (under_index id scale (levels - 1)) (under_by id scale K grows (levels - 1)) top.index.entries (material_start xs top) top.index.time
    m.bytes ps m.long m.tiled
