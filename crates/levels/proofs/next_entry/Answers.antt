-- `levels::next_entry` meets its contract, by those of `entry_place` and `entry_at`, and by the law `place_fits`.
use mathlib.Core.Path.{ap, ◌∙◌}
use Prim.Native.Nat.{ℕ}
use native.Mathlib.Omega.{arith}
use Rattle.levels.proofs.Places.{place_fits}
use Rattle.state.specs.Levels.{entry_at}
use Rattle.levels.proofs.next_entry.Goals as goal

pub entry_at-requires : goal.entry_at-requires
entry_at-requires c =
    let a = c.args in
    omega (arith, c.entry_place-place.ensures, place_fits a.ls c.requires.1 c.requires.2, c.requires.0)

pub returns : goal.returns
returns c = c.entry_at.ensures ∙ ap (λ (k : ℕ). entry_at c.args.work.now k) c.entry_place-place.ensures
