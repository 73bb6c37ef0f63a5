-- `index::index_byte` meets its contract, by those of `spelled`, `field_end`, `field`, `byte_place`, `entry_end` and `entry`, and by the laws of
-- `Numbers` and `Steps`.
use mathlib.Core.Path.{◌∙◌}
use native.Mathlib.Omega.{arith}
use Rattle.index.proofs.Numbers.{place_fits, field_small, field_ended, entry_small, entry_more, entry_ended, entry_summed}
use Rattle.index.proofs.Steps.{field_last, field_on, entry_last, entry_on}
use borrow.Author.Rules.{rules}
use Rattle.index.proofs.index_byte.Goals as goal

pub spelled-v-requires : goal.spelled-v-requires
spelled-v-requires c = field_small c.in-Field.is c.requires.2

pub field_end-requires : goal.field_end-requires
field_end-requires c = field_ended c.in-Field.is c.requires.2 c.args.b (search rules) _ c.spelled-v.ensures c.if-more-eq0.true

pub returns-then-more-eq0 : goal.returns-then-more-eq0
returns-then-more-eq0 c = λ leaves last table.
    c.field_end.ensures leaves last _ table ∙ field_last _ _ _ _ _ _ c.in-Field.is c.spelled-v.ensures c.if-more-eq0.true

pub returns-else-more-eq0 : goal.returns-else-more-eq0
returns-else-more-eq0 c = λ leaves last table. rw c.field.ensures (field_on _ _ _ _ _ _ c.in-Field.is c.spelled-v.ensures c.if-more-eq0.false)

pub byte_place-i-requires : goal.byte_place-i-requires
byte_place-i-requires c = let asked = c.requires in (
  asked.0,
  entry_summed c.in-Entry.is asked.2,
  entry_more c.in-Entry.is asked.2,
)

pub bounds-work-i : goal.bounds-work-i
bounds-work-i c = omega (arith, place_fits c.args.p c.byte_place-i.result c.in-Entry.is c.requires.2 c.requires.0 c.byte_place-i.ensures)

pub spelled-v-requires-in-Entry : goal.spelled-v-requires-in-Entry
spelled-v-requires-in-Entry c = entry_small c.in-Entry.is c.requires.2

pub entry_end-requires : goal.entry_end-requires
entry_end-requires c = (
  c.requires.1,
  entry_summed c.in-Entry.is c.requires.2,
  entry_ended c.in-Entry.is c.requires.2 c.args.b (search rules) _ c.spelled-v-in-Entry.ensures c.if-more-eq0-2.true,
)

pub returns-then-more-eq0-2 : goal.returns-then-more-eq0-2
returns-then-more-eq0-2 c = λ leaves last table.
    c.entry_end.ensures leaves last _ table ∙ entry_last _ _ _ _ _ _ _ _ _ _ _ c.in-Entry.is
    c.spelled-v-in-Entry.ensures (rw c.byte_place-i.ensures) c.if-more-eq0-2.true

pub returns-else-more-eq0-2 : goal.returns-else-more-eq0-2
returns-else-more-eq0-2 c = λ leaves last table.
    rw c.entry.ensures (entry_on _ _ _ _ _ _ _ _ _ _ _ c.in-Entry.is c.spelled-v-in-Entry.ensures (rw c.byte_place-i.ensures) c.if-more-eq0-2.false)
