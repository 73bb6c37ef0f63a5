-- Entries read back from the work area, and the indexes that stand open.
use Rattle.std.specs.Prelude.{ℕ, suc, ◌+◌, ◌-◌, ◌*◌, List, Bool, not, ◌&&◌, ◌||◌, eqb, ltb, leb, take, drop}
use Rattle.std.proofs.Math.Option.{Option, some, none}
use Rattle.basics.specs.Choose.{pick}
use Rattle.basics.specs.Bytes.{number}
use Rattle.segment.specs.Constants.{type_bit, entry_bytes}
use Rattle.state.specs.Flow.{level_bytes}
use Rattle.machine.specs.Faults.{shows}
use Rattle.machine.specs.declared.Refusal.{Refusal}
use Rattle.state.specs.declared.Level.{Level}
use Rattle.state.specs.declared.Levels.{Levels}
use Rattle.state.specs.declared.Levels.TheVariants as levels
use Rattle.state.specs.declared.Slot.{Slot}
use Rattle.state.specs.declared.StoredEntry.{StoredEntry}
use Rattle.state.specs.Sidx.{entry_size}

-- the number that four bytes of the work area spell, and an entry as it stands there, 12 bytes from a place on
abbrev pub word_at : List ℕ → ℕ → ℕ
word_at work i = number (take 4 (drop i work))

unfoldable pub entry_at : List ℕ → ℕ → StoredEntry
entry_at work i =
    record { inner = leb type_bit (word_at work i); size = entry_size (word_at work i); duration = word_at work (i + 4); sap = word_at work (i + 8) }

-- the innermost open index, and how many stand open
unfoldable pub inmost : Levels → Level
inmost (levels.One a) = a
inmost (levels.Two a b) = b
inmost (levels.Three a b c) = c
inmost (levels.Four a b c d) = d

unfoldable pub depth : Levels → ℕ
depth (levels.One a) = 1
depth (levels.Two a b) = 2
depth (levels.Three a b c) = 3
depth (levels.Four a b c d) = 4

-- "at its place in its level's part": where the next entry of the innermost index is stored
abbrev pub entry_place : Levels → ℕ
entry_place ls = level_bytes * (depth ls - 1) + entry_bytes * (inmost ls).next

-- the next entry of an index is taken
abbrev pub took : Level → Level
took l = record { next = suc l.next; count = l.count; end = l.end; until = l.until }

unfoldable pub took_entry : Levels → Levels
took_entry (levels.One a) = levels.One (took a)
took_entry (levels.Two a b) = levels.Two a (took b)
took_entry (levels.Three a b c) = levels.Three a b (took c)
took_entry (levels.Four a b c d) = levels.Four a b c (took d)

-- one more index stands open; on level 5 there is none (row 13)
unfoldable pub push : Levels → Level → Levels
push (levels.One a) l = levels.Two a l
push (levels.Two a b) l = levels.Three a b l
push (levels.Three a b c) l = levels.Four a b c l
push (levels.Four a b c d) l = levels.Four a b c d

-- an index has no entry left
abbrev pub passed_all : Level → Bool
passed_all l = eqb l.next l.count

-- the indexes that still have an entry to come: those that have none left are closed, from the innermost on
unfoldable pub still_one : Level → Option Levels
still_one a = pick (passed_all a) none (some (levels.One a))

unfoldable pub still_two : Level → Level → Option Levels
still_two a b = pick (passed_all b) (still_one a) (some (levels.Two a b))

unfoldable pub still_three : Level → Level → Level → Option Levels
still_three a b c = pick (passed_all c) (still_two a b) (some (levels.Three a b c))

unfoldable pub still_open : Levels → Option Levels
still_open (levels.One a) = still_one a
still_open (levels.Two a b) = still_two a b
still_open (levels.Three a b c) = still_three a b c
still_open (levels.Four a b c d) = pick (passed_all d) (still_three a b c) (some (levels.Four a b c d))

-- row 12: an entry read back at byte n when the time line stands at `now`: its size is 0, its duration is more than what remains
-- of its index, its size is as much or more with entries still to follow, or, for the last entry, either is not all that remains
unfoldable pub altered : Level → StoredEntry → ℕ → ℕ → Bool
altered l e now n =
    eqb e.size 0
    || ltb l.until (now + e.duration)
    || pick (eqb (suc l.next) l.count)
    (not (eqb (n + e.size) l.end && eqb (now + e.duration) l.until))
    (leb l.end (n + e.size))

-- row 12: a stored entry altered between calls (entry's first byte; place that byte; no other number there)
abbrev pub entry_faults : Level → StoredEntry → ℕ → ℕ → List Refusal
entry_faults l e now n = shows (altered l e now n) 12 n

abbrev pub slot_of : StoredEntry → ℕ → ℕ → Slot
slot_of e now n = record { pos = n; end = n + e.size; until = now + e.duration; sap = e.sap }
