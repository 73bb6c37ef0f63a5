-- The contracts of the functions that other crates call, as the check reads them: two outcomes that one allows coincide. A flow with room in its table, and
-- one without, can be had.
use Prim.Native.Nat.{ℕ, ◌+◌}
use mathlib.Core.Path.{◌≡◌, refl, sym, ◌∙◌}
use mathlib.Core.List.{List, [], ◌∷◌}
use mathlib.Core.Bool.{Bool, true, false}
use native.Mathlib.Omega.{arith}
use Rattle.fields.specs.declared.Halt.{Halt}
use Rattle.std.specs.Prelude.{Result, Ok, Err}
use Rattle.basics.specs.Choose.{pick}
use Rattle.basics.specs.Outcome.{Coincide}
use Rattle.basics.proofs.Outcomes.{left_inverse_equal}
use Rattle.machine.specs.Run.{Res, okay, fail, cut}
use Rattle.table.specs.Table.{room}
use Rattle.state.specs.declared.Seen.{Seen}
use Rattle.state.specs.declared.Slot.{Slot}
use Rattle.state.specs.Flow.{Flow, Left}
use Rattle.state.specs.Rows.{no_room}
use Rattle.fields.specs.Onward.{halted}
use Rattle.walk_leaf.specs.Views.{walked_d, LeafFixed, LeafWalked}
use Rattle.walk_leaf.proofs.leaf_walk.Kinds as walk-kinds
use Rattle.walk_leaf.proofs.leaf_walk.Reads as walk-stated
use Rattle.walk_leaf.proofs.full_leaf.Kinds as full-kinds
use Rattle.walk_leaf.proofs.full_leaf.Reads as full-stated
use Rattle.fields.specs.declared.Halt.TheVariants as halt

-- the answer that a reading from the first place on comes from
abbrev read : Res Seen Flow Left → Result Seen Halt
read (okay seen f n bs) = Ok seen
read (fail x l n) = Err (halt.Bad (record { number = x.number; place = x.place; count = n; leaves = 0 }))
read (cut l n) = Err halt.Ended

read_back : (s : List ℕ) (end : ℕ) (f : Flow) (r : Result Seen Halt) → LeafFixed s end r → read (walked_d 0 s end f r) ≡ r
unfolding walked_d halted
read_back s end f (Ok k) g = refl
read_back s end f (Err (halt.Bad x)) g =
    let p : 0 + x.place ≡ x.place = omega arith in
    let c : 0 + x.count ≡ x.count = omega arith in
    rw (g.0, p, c)
read_back s end f (Err halt.Ended) g = refl

-- a flow with this table
abbrev flow : ℕ → List ℕ → Flow
flow last table = record { leaves = 0; now = 0; last = last; work = []; table = table }

module _ (s : List ℕ) (full : Bool) (id at end last : ℕ) (table : List ℕ) (rooms : no_room 0 table ≡ full) (r r' : Result Seen Halt) where
  pub same_walked : LeafWalked s full id at end last r → LeafWalked s full id at end last r' → r ≡ r'
  same_walked p q =
      let slot : Slot = record { pos = at; end = end; until = 0; sap = 0 } in
      left_inverse_equal read (read_back s end (flow last table) r p.fixed) (read_back s end (flow last table) r' q.fixed)
      (p.right 0 slot (flow last table) (omega arith) (omega arith) refl rooms ∙ sym (q.right 0 slot (flow last table) (omega arith) (omega arith) refl rooms))

-- a table of six numbers has room for a leaf, and one of none has not
has_room : no_room 0 (0 ∷ 0 ∷ 0 ∷ 0 ∷ 0 ∷ 0 ∷ []) ≡ false
unfolding room pick
has_room = refl

has_none : no_room 0 [] ≡ true
unfolding room pick
has_none = refl

-- of one reference ID, bytes, leaf and last decode time: one answer
pub leaf_walk_once : Coincide 1 walk-kinds.ps walk-kinds.r walk-stated.Post
leaf_walk_once κs given r r' left left' p q = (same_walked _ false _ _ _ _ (0 ∷ 0 ∷ 0 ∷ 0 ∷ 0 ∷ 0 ∷ []) has_room r r' p q, refl)

err_same : {x y : Halt} → ◌≡◌ {A = Result Seen Halt} (Err x) (Err y) → x ≡ y
err_same e = cc

-- of one sequence of bytes and leaf: one answer
pub full_leaf_once : Coincide 1 full-kinds.ps full-kinds.r full-stated.Post
full_leaf_once κs given r r' left left' p q = (err_same (same_walked _ true 0 _ _ 0 [] has_none (Err r) (Err r') (p 0 0) (q 0 0)), refl)
