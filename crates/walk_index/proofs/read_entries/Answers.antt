-- `walk_index::read_entries` meets its contract. The loop's invariant, `EntriesSo`: what is read from here is what is read from the first entry on; the measure is
-- the bytes to come.
use mathlib.Core.Path.{◌∙◌}
use native.Mathlib.Omega.{arith}
use Rattle.walk_index.proofs.Walks.{passed_first, passed_next, passed_refused, passed_part, passed_last, taken_small}
use Rattle.walk_index.proofs.read_entries.Goals as goal

pub loop-j-init : goal.loop-j-init
loop-j-init c =
    let a = c.args in
    passed_first a.bytes.now a.pos a.«from» a.end a.part a.work.now c.requires.0 c.requires.4

pub overflow_add-j : goal.overflow_add-j
overflow_add-j c = omega (arith, c.loop-j.invariant.within)

pub read_entry-taken-requires : goal.read_entry-taken-requires
read_entry-taken-requires c =
    let l = c.loop-j in
    (omega (arith, l.invariant.place, l.invariant.next, l.invariant.long), omega arith)

pub shape_of-work-in_default : goal.shape_of-work-in_default
shape_of-work-in_default c = c.read_entry-taken.ensures.long ∙ c.loop-j.invariant.long

pub returns-in_default : goal.returns-in_default
returns-in_default c =
    let a = c.args in
    let l = c.loop-j in
    passed_refused a.bytes.now a.pos a.«from» a.end a.part a.work.now l.sizes l.durations l.i l.j l.work l.invariant _
    c.read_entry-taken.ensures c.in_default.is _ c.stop_at.ensures (omega arith) c.requires.3

pub overflow_add-sizes : goal.overflow_add-sizes
overflow_add-sizes c =
    let l = c.loop-j in
    let small = taken_small c.in-Some.is c.read_entry-taken.ensures.fixed in
    omega (arith, l.invariant.sized, l.invariant.next, l.invariant.within)

pub overflow_add-durations : goal.overflow_add-durations
overflow_add-durations c =
    let l = c.loop-j in
    let small = taken_small c.in-Some.is c.read_entry-taken.ensures.fixed in
    omega (arith, l.invariant.lasted, l.invariant.next, l.invariant.within)

pub overflow_add-i : goal.overflow_add-i
overflow_add-i c =
    let l = c.loop-j in
    omega (arith, l.invariant.place, l.invariant.next, l.invariant.long)

pub loop-j-preserved : goal.loop-j-preserved
loop-j-preserved c =
    let a = c.args in
    let l = c.loop-j in
    passed_next a.bytes.now a.pos a.«from» a.end a.part a.work.now l.sizes l.durations l.i l.j l.work l.invariant _
    c.read_entry-taken.ensures c.in-Some.is (omega arith) (omega arith)

pub part_entry-requires : goal.part_entry-requires
part_entry-requires c =
    let l = c.loop-j in
    (l.invariant.there, omega (arith, l.invariant.next, l.invariant.within), omega arith, omega (arith, l.invariant.place, l.invariant.next, l.invariant.long))

pub shape_of-work-then-j-end : goal.shape_of-work-then-j-end
shape_of-work-then-j-end c =
    let l = c.loop-j in
    (c.part_entry.ensures c.args.end (omega (arith, l.invariant.next, l.invariant.within)) c.requires.3).long ∙ l.invariant.long

pub returns-then-j-end : goal.returns-then-j-end
returns-then-j-end c =
    let a = c.args in
    let l = c.loop-j in
    passed_part a.bytes.now a.pos a.«from» a.end a.part a.work.now l.sizes l.durations l.i l.j l.work l.invariant _ _
    c.if-j-end.true (c.part_entry.ensures a.end (omega (arith, l.invariant.next, l.invariant.within)) c.requires.3)

pub shape_of-work : goal.shape_of-work
shape_of-work c = c.loop-j.invariant.long

pub returns : goal.returns
returns c =
    let a = c.args in
    let l = c.loop-j in
    passed_last a.bytes.now a.pos a.«from» a.end a.part a.work.now l.sizes l.durations l.i l.j l.work l.invariant c.if-j-end.false
