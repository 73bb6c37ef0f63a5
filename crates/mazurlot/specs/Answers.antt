-- What a call of the library says, as numbers: 0 or the number of a refusal, and the values of its answer.
use Rattle.std.specs.Prelude.{ℕ, List, [], ◌∷◌, ◌++◌, eqb, replicate, Result, Ok, Err}
use Rattle.machine.specs.declared.Refusal.{Refusal}
use Rattle.basics.specs.Choose.{pick}
use Rattle.basics.specs.Put.{put_all}
use Rattle.table.specs.Table.{record_numbers, numbers_of}
use Rattle.marks.specs.declared.Resolved.{Resolved}
use Rattle.covering.specs.declared.Leaf.{Leaf}

pub record Said : Type 0 where
  pub number : ℕ
  pub values : List ℕ

abbrev pub said : ℕ → List ℕ → Said
said n vs = record { number = n; values = vs }

-- "An unrefused feed answers the count of all bytes read", "an accepted finish the leaf count"; a refusal has a place
unfoldable pub of_count : Result ℕ Refusal → Said
of_count (Ok count) = said 0 (count ∷ [])
of_count (Err x) = said x.number (x.place ∷ [])

-- "a lookup the leaf's number and record"; zeros stand in the place of a record with a refusal
unfoldable pub of_lookup : Result Leaf Refusal → Said
of_lookup (Ok leaf) = said 0 (leaf.number ∷ numbers_of leaf.«record»)
of_lookup (Err x) = said x.number (x.place ∷ replicate record_numbers 0)

-- a mark's page comes behind, with a refusal too
abbrev pub of_mark : Resolved → Said
of_mark r = said (of_lookup r.answer).number ((of_lookup r.answer).values ++ r.page ∷ [])

-- how many values there are: of feed, finish and the whole reader; of a lookup; of a mark
abbrev pub one_value : ℕ
one_value = 1

abbrev pub lookup_values : ℕ
lookup_values = 7

abbrev pub mark_values : ℕ
mark_values = 8

-- what stands in the slot lent for the answer after the call: the values at its front; 2 writes nothing
unfoldable pub slot_after : Said → List ℕ → List ℕ
slot_after s slot = pick (eqb s.number 2) slot (put_all slot 0 s.values)
