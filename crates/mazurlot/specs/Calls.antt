-- The calls of the library, over numbers: the number that each gives back, and what then stands in what was lent to it.
-- 2 says that there is no state, or no place for one or for the answer, and then nothing is written (docs/DECISIONS.md, D26).
use Rattle.std.specs.Prelude.{ℕ, List, [], ◌∷◌, ltb, eqb, length, Result, Err}
use Rattle.std.proofs.Math.Option.{Option, some, none}
use Rattle.basics.specs.Choose.{pick}
use Rattle.machine.specs.declared.Refusal.{Refusal}
use Rattle.machine.specs.Faults.{refusal}
use Rattle.moment.specs.declared.Request.{Request}
use Rattle.state.specs.declared.State.{State}
use Rattle.state.specs.Flow.{work_bytes}
use Rattle.state.specs.Calls.{Out, start_of, feed_of, finish_of, whole_of}
use Rattle.numbered.specs.Numbers.{state_numbers, numbers_of}
use Rattle.numbered.specs.Unpacked.{unpack_of}
use Rattle.covering.specs.Lookup.{lookup_of}
use Rattle.marks.specs.declared.Mark.{Mark}
use Rattle.marks.specs.declared.Resolved.{Resolved}
use Rattle.marks.specs.Marks.{resolve_of}
use Rattle.mazurlot.specs.Answers.{Said, said, of_count, of_lookup, of_mark, one_value, lookup_values, mark_values, slot_after}
use Rattle.covering.specs.declared.Leaf.{Leaf}

-- what a call leaves: its number; the answer's slot, the state's numbers, the work area and the leaf table. What is not lent to it is [].
pub record Call : Type 0 where
  pub number : ℕ
  pub slot : List ℕ
  pub state : List ℕ
  pub work : List ℕ
  pub table : List ℕ

abbrev pub call : ℕ → List ℕ → List ℕ → List ℕ → List ℕ → Call
call n slot ns work table = record { number = n; slot = slot; state = ns; work = work; table = table }

-- a call that says this, and leaves that
abbrev pub saying : Said → List ℕ → List ℕ → List ℕ → List ℕ → Call
saying s slot ns work table = call s.number (slot_after s slot) ns work table

-- Start writes a state, and does not look at what stood there.
unfoldable pub start_call : ℕ → List ℕ → Call
start_call brand ns = pick (eqb (length ns) state_numbers) (call 0 [] (numbers_of (start_of brand)) [] []) (call 2 [] ns [] [])

-- What is no state is answered as a state outside the ranges: "Feed checks 1, 2".
unfoldable pub fed_from : Option State → List ℕ → List ℕ → List ℕ → List ℕ → List ℕ → Call
fed_from none piece ns work table slot = saying (said (pick (ltb (length work) work_bytes) 1 2) (0 ∷ [])) slot ns work table
fed_from (some s) piece ns work table slot =
    let o : Out (Result ℕ Refusal) = feed_of s piece work table in
    saying (of_count o.answer) slot (numbers_of o.state) o.work o.table

unfoldable pub feed_call : List ℕ → List ℕ → List ℕ → List ℕ → List ℕ → Call
feed_call piece ns work table slot = pick (ltb (length slot) one_value) (call 2 slot ns work table) (fed_from (unpack_of ns) piece ns work table slot)

unfoldable pub finished_from : Option State → List ℕ → List ℕ → Call
finished_from none ns slot = call 2 slot ns [] []
finished_from (some s) ns slot = saying (of_count (finish_of s).answer) slot (numbers_of (finish_of s).state) [] []

unfoldable pub finish_call : List ℕ → List ℕ → Call
finish_call ns slot = pick (ltb (length slot) one_value) (call 2 slot ns [] []) (finished_from (unpack_of ns) ns slot)

-- a whole reading: what it answers, and all that it leaves
abbrev pub read : Out (Result ℕ Refusal) → List ℕ → Call
read o slot = saying (of_count o.answer) slot (numbers_of o.state) o.work o.table

-- The whole reader writes a state too, and does not look at what stood there.
unfoldable pub whole_call : ℕ → List ℕ → List ℕ → List ℕ → List ℕ → List ℕ → Call
whole_call brand segment ns work table slot =
    pick (ltb (length slot) one_value) (call 2 slot ns work table)
    (pick (eqb (length ns) state_numbers) (read (whole_of brand segment work table) slot) (call 2 slot ns work table))

-- the lookup in the list of the state that numbers are
unfoldable pub look_from : Option State → List ℕ → Request → Result Leaf Refusal
look_from none table r = Err (refusal 2 0)
look_from (some s) table r = lookup_of s table r

-- State and table are lent to be read only.
unfoldable pub lookup_call : Request → List ℕ → List ℕ → List ℕ → Call
lookup_call r ns table slot = pick (ltb (length slot) lookup_values) (call 2 slot [] [] []) (saying (of_lookup (look_from (unpack_of ns) table r)) slot [] [] [])

unfoldable pub resolved_from : Option State → List ℕ → Mark → Resolved
resolved_from none table m = record { page = m.page; answer = Err (refusal 2 0) }
resolved_from (some s) table m = resolve_of s table m

unfoldable pub resolve_call : Mark → List ℕ → List ℕ → List ℕ → Call
resolve_call m ns table slot = pick (ltb (length slot) mark_values) (call 2 slot [] [] []) (saying (of_mark (resolved_from (unpack_of ns) table m)) slot [] [] [])
