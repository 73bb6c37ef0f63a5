-- The phase of a `traf` and the number that says it.
use Prim.Native.Nat.{ℕ}
use mathlib.Core.Path.{◌≡◌, refl, sym}
use mathlib.Core.Bool.{Bool, true, false}
use native.Mathlib.Omega.{arith}
use lib.Dec.{eqb, ltb}
use borrow.Author.Tests.{eqb-true, le-ltb}
use Rattle.basics.specs.Choose.{pick}
use Rattle.state.specs.Rows.{fresh, headed_track}
use Rattle.state.specs.declared.TrafPhase.{TrafPhase}
use Rattle.state.specs.declared.TrafPhase.TheVariants as track
use Rattle.flaws.specs.Marks.{mark_of, phase_of}

-- the phase that a phase's number says is that phase
pub phase_marked : (t : TrafPhase) → phase_of (mark_of t) ≡ t
unfolding phase_of mark_of pick
phase_marked track.Fresh = refl
phase_marked track.Timed = refl
phase_marked (track.Headed false) = refl
phase_marked (track.Headed true) = refl

-- whether a `tfhd` may come, and whether a `tfdt` may
module _ (mark : ℕ) where
  pub fresh_mark : fresh (phase_of mark) ≡ eqb mark 0
  unfolding phase_of fresh pick
  fresh_mark = at (eqb mark 0) (ltb 1 mark)
    where
      at : (none more : Bool) → fresh (pick none track.Fresh (pick more (track.Headed (eqb mark 3)) track.Timed)) ≡ none
      at true more = refl
      at false true = refl
      at false false = refl

  pub headed_mark : headed_track (phase_of mark) ≡ ltb 1 mark
  unfolding phase_of headed_track pick
  headed_mark = at (eqb mark 0) (ltb 1 mark) (λ e. le-ltb 1 mark (omega (arith, eqb-true mark 0 e)))
    where
      at : (none more : Bool) → (none ≡ true → more ≡ false) → headed_track (pick none track.Fresh (pick more (track.Headed (eqb mark 3)) track.Timed)) ≡ more
      at true more e = sym (e refl)
      at false true e = refl
      at false false e = refl
