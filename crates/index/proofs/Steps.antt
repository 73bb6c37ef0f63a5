-- One byte of an index, where it ends a number and where others of the number follow.
use Prim.Native.Nat.{ℕ, suc, ◌+◌, ◌-◌, ◌*◌}
use mathlib.Core.Path.{◌≡◌}
use mathlib.Core.List.{List}
use native.Mathlib.Omega.{arith}
use native.Mathlib.Numerals.{add-one}
use lib.ListN.{set}
use Rattle.machine.specs.Run.{go}
use Rattle.state.specs.declared.Span.{Span}
use Rattle.state.specs.declared.Draft.{Draft}
use Rattle.state.specs.declared.Sums.{Sums}
use Rattle.state.specs.declared.IndexPart.{IndexPart}
use Rattle.state.specs.declared.EntryPart.{EntryPart}
use Rattle.state.specs.Flow.{Flow}
use Rattle.state.specs.declared.Sidx.{Sidx}
use Rattle.state.specs.declared.Sidx.TheVariants as sidx
use Rattle.state.specs.Sidx.{Place, field_ends, entry_ends, byte_place, step_sidx}
use Rattle.state.specs.Calls.{flow_of}

module _ (p : Place) (span : Span) (n b v : ℕ) where
  -- a number before the entries
  module _ (i : IndexPart) (d : Draft) (more acc : ℕ) (f : Flow) (ev : v ≡ acc * 256 + b) where
    field_ends_lem : more ≡ 0 → step_sidx p span (sidx.Field i d more acc) f n b ≡ field_ends p span i d v f (n + 1)
    unfolding step_sidx
    field_ends_lem em = rw (em, ev, add-one n)

    field_goes : (m : ℕ) → more ≡ suc m → step_sidx p span (sidx.Field i d more acc) f n b ≡ go (sidx.Field i d m v) f
    unfolding step_sidx
    field_goes m em = rw (em, ev)

  module _ {s : Sidx} {i : IndexPart} {d : Draft} {more acc : ℕ} (f : Flow) (e : s ≡ sidx.Field i d more acc) (ev : v ≡ acc * 256 + b) where
    pub field_last : more ≡ 0 → field_ends p span i d v f (n + 1) ≡ step_sidx p span s f n b
    field_last em = rw (e, field_ends_lem i d more acc f ev em)

    pub field_on : (more ≡ 0 → ⊥) → go (sidx.Field i d (more - 1) v) f ≡ step_sidx p span s f n b
    field_on h = rw (e, field_goes i d more acc f ev (more - 1) (omega arith))

  -- a number of an entry, its byte stored
  module _ (i : EntryPart) (d : Draft) (sums : Sums) (more acc : ℕ) (leaves at last : ℕ) (w w' table : List ℕ) (ev : v ≡ acc * 256 + b)
      (kept : w' ≡ set w (byte_place p i sums more) b) where
    entry_ends_lem : more ≡ 0 → step_sidx p span (sidx.Entry i d sums more acc) (flow_of leaves at last w table) n b
        ≡ entry_ends p span i d sums v (flow_of leaves at last w' table) (n + 1)
    unfolding step_sidx
    entry_ends_lem em = rw (kept, em, ev, add-one n)

    entry_goes : (m : ℕ) → more ≡ suc m → step_sidx p span (sidx.Entry i d sums more acc) (flow_of leaves at last w table) n b
        ≡ go (sidx.Entry i d sums m v) (flow_of leaves at last w' table)
    unfolding step_sidx
    entry_goes m em = rw (kept, em, ev)

  module _ {s : Sidx} {i : EntryPart} {d : Draft} {sums : Sums} {more acc : ℕ} (leaves at last : ℕ) (w w' table : List ℕ)
      (e : s ≡ sidx.Entry i d sums more acc) (ev : v ≡ acc * 256 + b)
      (kept : w' ≡ set w (byte_place p i sums more) b) where
    pub entry_last : more ≡ 0 → entry_ends p span i d sums v (flow_of leaves at last w' table) (n + 1)
        ≡ step_sidx p span s (flow_of leaves at last w table) n b
    entry_last em = rw (e, entry_ends_lem i d sums more acc leaves at last w w' table ev kept em)

    pub entry_on : (more ≡ 0 → ⊥) → go (sidx.Entry i d sums (more - 1) v) (flow_of leaves at last w' table)
        ≡ step_sidx p span s (flow_of leaves at last w table) n b
    entry_on h = rw (e, entry_goes i d sums more acc leaves at last w w' table ev kept (more - 1) (omega arith))
