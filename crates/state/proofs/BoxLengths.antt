-- Row 6, at H: a body whose length does not fit its box gives 6 at the box's first byte, in every place where the box is known, and one
-- that fits shows no 6. By the faults of each place, of which 6 is the lowest after those of the size (rows 4 and 5).
use Prim.Native.Nat.{ℕ, ◌%◌, ◌≤◌, ◌<◌}
use mathlib.Core.Path.{◌≡◌, refl}
use mathlib.Core.List.{List, [], ◌∷◌, ◌++◌}
use mathlib.Core.Bool.{Bool, true, false, not, ◌&&◌, ◌||◌, or-true}
use mathlib.Core.Logic.{◌≢◌}
use native.Mathlib.Omega.{arith}
use lib.Dec.{eqb, ltb}
use borrow.Author.Tests.{eqb-true, lt-ltb, le-ltb, eq-eqb, ne_eqb}
use Rattle.basics.specs.Choose.{pick}
use Rattle.segment.specs.Constants.{styp, sidx, tfhd, tfdt}
use Rattle.machine.specs.Faults.{refusal, shows, lowest, unless}
use Rattle.machine.specs.Run.{bad}
use Rattle.machine.specs.Heads.{box_end}
use Rattle.machine.specs.Lists.{Kind, faults_of, headed}
use Rattle.machine.specs.declared.Header.{Header}
use Rattle.machine.specs.declared.Refusal.{Refusal}
use Rattle.machine.proofs.Kept.{Each, each_shows, each_append}
use Rattle.machine.proofs.Shown.{has, has_both, has_shows}
use Rattle.state.specs.declared.Top.{Top}
use Rattle.state.specs.declared.Slot.{Slot}
use Rattle.state.specs.declared.Seen.{Seen}
use Rattle.state.specs.declared.LeafSo.{LeafSo}
use Rattle.state.specs.declared.TrafSo.{TrafSo}
use Rattle.state.specs.Flow.{Flow, Left}
use Rattle.state.specs.Rows.{body_length, top_lengths, opening_faults, gap_faults, leaf_faults, inner_faults, traf_faults}
use Rattle.state.specs.Opening.{opening_kind}
use Rattle.state.specs.Traf.{traf_kind}
use Rattle.state.specs.Leaf.{moof_kind, leaf_kind}
use Rattle.state.specs.Stages.{gap_kind, inner_kind}

-- a size that is no fault: not under the header's own length, and inside what the box stands in
pub record Sound (end : ℕ) (h : Header) : Type 0 where
  pub whole : h.head ≤ h.size
  pub inside : box_end h ≤ end

-- "`styp` body under 8 or not a multiple of 4, `sidx` under 24"; and a box of which that does not hold
pub data TopMisfit (h : Header) : Type 0 where
  styp_short : h.kind ≡ styp → body_length h < 8 → TopMisfit h
  styp_ragged : h.kind ≡ styp → body_length h % 4 ≢ 0 → TopMisfit h
  sidx_short : h.kind ≡ sidx → body_length h < 24 → TopMisfit h

pub record TopFits (h : Header) : Type 0 where
  pub styp_long : h.kind ≡ styp → 8 ≤ body_length h
  pub styp_fours : h.kind ≡ styp → body_length h % 4 ≡ 0
  pub sidx_long : h.kind ≡ sidx → 24 ≤ body_length h

-- "`tfhd` or `tfdt` under 8"; and a box of which that does not hold
pub data TrafMisfit (h : Header) : Type 0 where
  tfhd_short : h.kind ≡ tfhd → body_length h < 8 → TrafMisfit h
  tfdt_short : h.kind ≡ tfdt → body_length h < 8 → TrafMisfit h

pub record TrafFits (h : Header) : Type 0 where
  pub tfhd_long : h.kind ≡ tfhd → 8 ≤ body_length h
  pub tfdt_long : h.kind ≡ tfdt → 8 ≤ body_length h

-- Of the boxes known at the top level, the fault of the length and no other.
pub top_misfit : (h : Header) → TopMisfit h → top_lengths h ≡ refusal 6 h.pos ∷ []
unfolding top_lengths shows
top_misfit h (styp_short is-styp short) = rw (is-styp, lt-ltb (body_length h) 8 short)
top_misfit h (styp_ragged is-styp ragged) = rw (is-styp, ne_eqb (body_length h % 4) 0 ragged, or-true)
top_misfit h (sidx_short is-sidx short) = rw (is-sidx, lt-ltb (body_length h) 24 short)

-- a test that fails where the one before it holds
and_never : (a b : Bool) → (a ≡ true → b ≡ false) → a && b ≡ false
and_never true b e = e refl
and_never false b e = refl

pub top_fits : (h : Header) → TopFits h → top_lengths h ≡ []
unfolding top_lengths shows
top_fits h fits = rw (styp_fits, sidx_fits)
  where
    styp_fits : eqb h.kind styp && (ltb (body_length h) 8 || not (eqb (body_length h % 4) 0)) ≡ false
    styp_fits =
        and_never (eqb h.kind styp) _
        (λ e. let is-styp = eqb-true h.kind styp e in rw (le-ltb (body_length h) 8 (fits.styp_long is-styp), eq-eqb (body_length h % 4) 0 (fits.styp_fours is-styp)))

    sidx_fits : eqb h.kind sidx && ltb (body_length h) 24 ≡ false
    sidx_fits = and_never (eqb h.kind sidx) _ (λ e. le-ltb (body_length h) 24 (fits.sidx_long (eqb-true h.kind sidx e)))

-- higher numbers: 6 is the lowest before them, and is not among them
abbrev Higher : Refusal → Type 0
Higher x = 6 < x.number

six_lowest : (p : ℕ) (xs : List Refusal) → Each Higher xs → lowest (refusal 6 p) xs ≡ refusal 6 p
unfolding lowest pick Each
six_lowest p [] g = refl
six_lowest p (x ∷ xs) g = rw (le-ltb x.number 6 (omega (arith, g.0))) (six_lowest p xs g.1)

none_six : (xs : List Refusal) → Each Higher xs → has 6 xs ≡ false
unfolding has Each
none_six [] g = refl
none_six (x ∷ xs) g = rw (ne_eqb 6 x.number (omega (arith, g.0))) (none_six xs g.1)

-- a row with a higher number, and two lists of such
row : (t : Bool) (n p : ℕ) → 6 < n → Each Higher (shows t n p)
row = each_shows Higher

beside : (xs ys : List Refusal) → Each Higher xs → Each Higher ys → Each Higher (xs ++ ys)
beside = each_append Higher

-- 6 is given before a row with a higher number
pub six_before : {X : Type 0} (t : Bool) (n p q : ℕ) (worse : Refusal → X) (x : X) → 6 < n → unless (shows true 6 p ++ shows t n q) worse x ≡ worse (refusal 6 p)
unfolding unless shows
six_before t n p q worse x high = rw (six_lowest p (shows t n q) (row t n q high))

-- What row 6 says of a kind of box, told which bodies do not fit and which do. One that does not fit gives 6, place the box, whatever
-- higher numbers show beside it; of one that fits 6 is not among the faults.
pub record Lengths {B R : Type 0} (Misfit Fits : Header → Type 0) (k : Kind B R Flow Left) : Type 0 where
  pub misfit : (h : Header) (f : Flow) (n : ℕ) → Sound k.end h → Misfit h → headed k h f n ≡ bad (refusal 6 h.pos) (k.left f)
  pub fit : (h : Header) (f : Flow) → Fits h → has 6 (faults_of k h f) ≡ false

-- so it is of a kind whose header shows the length first, and then higher numbers
lengths_of : {B R : Type 0} (Misfit Fits : Header → Type 0) (k : Kind B R Flow Left) (lengths : Header → List Refusal) (others : Header → Flow → List Refusal) →
    ((h : Header) (f : Flow) → k.shown h f ≡ lengths h ++ others h f) → ((h : Header) (f : Flow) → Each Higher (others h f)) →
    ((h : Header) → Misfit h → lengths h ≡ refusal 6 h.pos ∷ []) → ((h : Header) → Fits h → lengths h ≡ []) → Lengths Misfit Fits k
unfolding headed unless shows has
lengths_of Misfit Fits k lengths others is higher misfits fits =
    record {
      misfit = λ h f n sound m.
          rw (le-ltb h.size h.head sound.whole, le-ltb k.end (box_end h) sound.inside, is h f, misfits h m, six_lowest h.pos (others h f) (higher h f));
      fit = λ h f fit. simp (has_both, has_shows, is h f, fits h fit, none_six (others h f) (higher h f));
    }

-- Up to the top index, in the gap, in a leaf, and as the first box of an index entry: also where the box is not allowed.
pub lengths_in_opening : (brand : ℕ) (branded : Bool) → Lengths TopMisfit TopFits (opening_kind brand branded)
unfolding opening_faults
lengths_in_opening brand branded =
    lengths_of TopMisfit TopFits (opening_kind brand branded) top_lengths _ (λ h f. refl) (λ h f. beside _ _ (row _ _ _ (omega arith)) (row _ _ _ (omega arith))) top_misfit top_fits

pub lengths_in_gap : (end : ℕ) → Lengths TopMisfit TopFits (gap_kind end)
unfolding gap_faults
lengths_in_gap end =
    lengths_of TopMisfit TopFits (gap_kind end) top_lengths _ (λ h f. refl) (λ h f. beside _ _ (row _ _ _ (omega arith)) (row _ _ _ (omega arith))) top_misfit top_fits

pub lengths_in_leaf : (id : ℕ) (slot : Slot) (so : LeafSo) → Lengths TopMisfit TopFits (leaf_kind id slot so)
unfolding leaf_faults
lengths_in_leaf id slot so =
    lengths_of TopMisfit TopFits (leaf_kind id slot so) top_lengths _ (λ h f. refl)
    (λ h f. beside _ _ (row _ _ _ (omega arith)) (beside _ _ (row _ _ _ (omega arith)) (row _ _ _ (omega arith)))) top_misfit top_fits

pub lengths_in_inner : (top : Top) (slot : Slot) (around : ℕ) → Lengths TopMisfit TopFits (inner_kind top slot around)
unfolding inner_faults
lengths_in_inner top slot around =
    lengths_of TopMisfit TopFits (inner_kind top slot around) top_lengths _ (λ h f. refl)
    (λ h f. beside _ _ (row _ _ _ (omega arith)) (beside _ _ (row _ _ _ (omega arith)) (row _ _ _ (omega arith)))) top_misfit top_fits

-- In a `traf`: the first of the faults of its boxes.
abbrev traf_lengths : Header → List Refusal
traf_lengths h = shows ((eqb h.kind tfhd || eqb h.kind tfdt) && ltb (body_length h) 8) 6 h.pos

traf_misfit : (h : Header) → TrafMisfit h → traf_lengths h ≡ refusal 6 h.pos ∷ []
unfolding shows
traf_misfit h (tfhd_short is-tfhd short) = rw (is-tfhd, lt-ltb (body_length h) 8 short)
traf_misfit h (tfdt_short is-tfdt short) = rw (is-tfdt, lt-ltb (body_length h) 8 short)

traf_fits : (h : Header) → TrafFits h → traf_lengths h ≡ []
unfolding shows
traf_fits h fits = at (eqb h.kind tfhd) (eqb h.kind tfdt) refl refl
  where
    at : (a b : Bool) → eqb h.kind tfhd ≡ a → eqb h.kind tfdt ≡ b → shows ((a || b) && ltb (body_length h) 8) 6 h.pos ≡ []
    at true b e e' = rw (le-ltb (body_length h) 8 (fits.tfhd_long (eqb-true h.kind tfhd e)))
    at false true e e' = rw (le-ltb (body_length h) 8 (fits.tfdt_long (eqb-true h.kind tfdt e')))
    at false false e e' = refl

pub lengths_in_traf : (id end : ℕ) (so : TrafSo) → Lengths TrafMisfit TrafFits (traf_kind id end so)
unfolding traf_faults
lengths_in_traf id end so =
    lengths_of TrafMisfit TrafFits (traf_kind id end so) traf_lengths _ (λ h f. refl) (λ h f. beside _ _ (row _ _ _ (omega arith)) (row _ _ _ (omega arith))) traf_misfit traf_fits

-- R5: in a `moof` none of these is known, and no length shows.
pub lengths_in_moof : (id end : ℕ) (seen : Seen) (h : Header) (f : Flow) → has 6 (faults_of (moof_kind id end seen) h f) ≡ false
unfolding has
lengths_in_moof id end seen h f = simp (has_both, has_shows)
