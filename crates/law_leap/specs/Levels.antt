-- The innermost of the open indexes at one of its entries.
use Rattle.std.specs.Prelude.{ℕ}
use Rattle.state.specs.declared.Level.{Level}
use Rattle.state.specs.declared.Levels.{Levels}
use Rattle.state.specs.declared.Levels.TheVariants as levels

-- an index whose next entry is the one with this number, from 0
abbrev pub level_at : Level → ℕ → Level
level_at l next = record { next = next; count = l.count; end = l.end; until = l.until }

-- the same of the innermost index
unfoldable pub entry_next : Levels → ℕ → Levels
entry_next (levels.One a) next = levels.One (level_at a next)
entry_next (levels.Two a b) next = levels.Two a (level_at b next)
entry_next (levels.Three a b c) next = levels.Three a b (level_at c next)
entry_next (levels.Four a b c d) next = levels.Four a b c (level_at d next)
