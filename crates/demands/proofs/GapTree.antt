-- The gap after the top index by structure says what rule 1 says of it.
use Prim.Native.Nat.{ℕ, ◌+◌, ◌<◌}
use mathlib.Core.Path.{◌≡◌, refl, ap, sym, ◌∙◌}
use mathlib.Core.List.{List, [], ◌∷◌, ◌++◌}
use mathlib.Core.Option.{Option, some, none}
use native.Mathlib.Omega.{arith}
use lib.ListN.{length}
use lib.Dec.{eqb}
use borrow.Author.Tests.{eqb-true, ne_eqb}
use Rattle.basics.specs.Choose.{pick, and_then}
use Rattle.basics.proofs.Picks.{pick_no, pick_holds}
use Rattle.basics.proofs.Options.{then_cong, then_assoc, then_pick}
use Rattle.segment.specs.Boxes.{boxes, cut_boxes, top_kinds, without}
use Rattle.segment.specs.Tree.{boxes_of_gap}
use Rattle.machine.specs.Run.{Res, okay}
use Rattle.machine.specs.Heads.{box_end}
use Rattle.machine.specs.Lists.{Next, box_d}
use Rattle.state.specs.Flow.{Flow, Left}
use Rattle.machine.proofs.Readings.{Says, Anyhow, each_any, says_okay, SaysNext, says_boxes}
use Rattle.state.specs.Stages.{gap_next, gap_kind}
use Rattle.state.specs.Stages as stages
use Rattle.descent.specs.Opening.{skip_to}
use Rattle.descent.specs.Whole.{gap_d}
use Rattle.demands.specs.Told.{upon, clean}
use Rattle.demands.specs.Walks.{gap_walk}
use Rattle.demands.proofs.Upons.{Any, says_any}
use Rattle.demands.proofs.WalkTree.{gap_walk_lem}
use Rattle.demands.proofs.OpeningTree.{skip_body}
use Rattle.demands.proofs.ListTree.{list_tree}

-- a gap that is not empty
gap_some : {X : Type 0} (offset : ℕ) (f : Flow) (n : ℕ) (xs ys : List ℕ) (k : Unit {0} → Flow → ℕ → List ℕ → Option X) → 0 < length xs → length xs ≡ offset →
    upon (gap_d offset f n (xs ++ ys)) k ≡ and_then (boxes_of_gap xs) (λ bs. k tt f (n + offset) ys)
unfolding gap_d boxes_of_gap gap_next and_then clean pick
gap_some offset f n xs ys k l e =
    ap (λ (r : Res (Unit {0}) Flow Left). upon r k) (pick_no (eqb offset 0) _ _ (ne_eqb offset 0 (λ q. omega arith)))
    ∙ list_tree (stages.gap_boxes (n + offset)) (λ u h g m cs. skip_to tt (box_end h) g m cs) gap_walk (λ u. tt) (λ u. []) (n + offset) f (λ u. refl) (λ u. refl) (λ u h. refl)
    (λ u b pos zs h eight bodied shown. skip_body tt f b pos zs h bodied) (λ u r. []) (λ u r m. refl) (λ u r. refl)
    (length (xs ++ ys)) tt n xs ys k l (omega arith) (omega arith)
    ∙ then_cong (boxes xs) _ _ (λ bs q. gap_walk_lem n bs (λ u. pick (clean []) (k tt f (n + offset) ys) none) ∙ sym (then_pick (without top_kinds bs) (some bs) (λ cs. k tt f (n + offset) ys)))
    ∙ sym (then_assoc (boxes xs) _ _)

-- The gap is read to its end where it is whole boxes that are skipped.
pub gap_tree : {X : Type 0} (offset : ℕ) (f : Flow) (n : ℕ) (xs ys : List ℕ) (k : Unit {0} → Flow → ℕ → List ℕ → Option X) → length xs ≡ offset →
    upon (gap_d offset f n (xs ++ ys)) k ≡ and_then (boxes_of_gap xs) (λ bs. k tt f (n + offset) ys)
unfolding gap_d boxes_of_gap upon and_then pick cut_boxes without
gap_tree offset f n [] ys k e =
    let z : offset ≡ 0 = omega arith in
    let q : n + 0 ≡ n = omega arith in
    rw (z, q)
gap_tree offset f n (x ∷ xs) ys k e = gap_some offset f n (x ∷ xs) ys k (omega arith) e

-- A gap that is accepted ends where it should.
module _ (offset : ℕ) (f : Flow) (n : ℕ) where
  abbrev Ended : Unit {0} → Flow → ℕ → List ℕ → Type 0
  Ended u g m cs = m ≡ n + offset

  abbrev Closes : Next (Unit {0}) (Unit {0}) → Flow → ℕ → List ℕ → Type 0
  Closes x g m cs = SaysNext Ended Anyhow (stages.gap_boxes (n + offset)) (λ u h g m cs. skip_to tt (box_end h) g m cs) Any x g m cs

  gap_close : (g : Flow) (m : ℕ) (cs : List ℕ) → Closes (gap_next (n + offset) m) g m cs
  unfolding gap_next
  gap_close g m cs = pick_holds (λ x. Closes x g m cs) (eqb m (n + offset)) _ _ (λ p. (each_any [], λ e. eqb-true m (n + offset) p)) (λ p. (each_any [], λ e. tt))

  gap_says : (bs : List ℕ) → Says Ended Anyhow (gap_d offset f n bs)
  unfolding gap_d
  gap_says bs =
      pick_holds (Says Ended Anyhow) (eqb offset 0) _ _ (λ e. let z : offset ≡ 0 = eqb-true offset 0 e in omega arith)
      (λ e. says_boxes Ended Anyhow (stages.gap_boxes (n + offset)) (λ u h g m cs. skip_to tt (box_end h) g m cs) Any (λ u. Any)
      (λ u g m cs i. says_any (box_d (gap_kind (n + offset)) (λ h g' m' cs'. skip_to tt (box_end h) g' m' cs') g m cs))
      (λ u r g m cs i. gap_close g m cs) (λ u x kept m w. each_any []) (length bs) tt f n bs tt)

  pub gap_ends : (bs : List ℕ) (u : Unit {0}) (g : Flow) (m : ℕ) (cs : List ℕ) → gap_d offset f n bs ≡ okay u g m cs → m ≡ n + offset
  gap_ends bs u g m cs e = says_okay Ended Anyhow (gap_d offset f n bs) u g m cs e (gap_says bs)
