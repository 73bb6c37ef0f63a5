-- `walk_index::index_walk` meets its contract, by those of the functions that it calls, and by the laws of what goes out of an index.
use native.Mathlib.Omega.{arith}
use Rattle.fields.proofs.Answers.{handed}
use Rattle.walk_index.proofs.Answers.{fields_read, entries_read, part_small, numbers_out, entries_stop, sums_wrong, sums_right}
use Rattle.walk_index.proofs.index_walk.Goals as goal

-- the numbers are not read
pub returns-in_err-f : goal.returns-in_err-f
returns-in_err-f c =
    let a = c.args in
    rw (handed c.from_residual.ensures.1)
    (numbers_out a.p a.when a.base a.bytes.now a.pos a.at a.end a.work.now _ c.wanted_at-w.ensures _
    c.read_fields.ensures.0 c.read_fields.ensures.1 _ c.in_err-f.was)

pub read_entries-requires : goal.read_entries-requires
read_entries-requires c =
    let a = c.args in
    let fixed = fields_read a.bytes.now a.end c.in_ok-f.was c.read_fields.ensures.1 in
    let small = part_small a.p _ c.wanted_at-w.ensures c.requires.0 in
    (omega arith, omega arith, omega arith, omega arith, fixed.2, omega arith)

-- the entries are not read
pub returns-in_err-a : goal.returns-in_err-a
returns-in_err-a c =
    let a = c.args in
    rw (handed c.from_residual-in_err-a.ensures.1)
    (entries_stop a.p a.when a.base a.bytes.now a.pos a.at a.end a.work.now _ c.wanted_at-w.ensures _
    c.read_fields.ensures.0 c.read_fields.ensures.1 _ c.in_ok-f.was _ _ c.read_entries.ensures _ c.in_err-a.was)

pub sums_flaw-requires : goal.sums_flaw-requires
sums_flaw-requires c =
    let a = c.args in
    let fixed = fields_read a.bytes.now a.end c.in_ok-f.was c.read_fields.ensures.1 in
    let added = entries_read a.bytes.now _ a.end c.in_ok-a.was c.read_entries.ensures.fixed in
    (c.requires.1, omega (arith, added.1 _ fixed.3, fixed.1), c.requires.4)

-- the sums are wrong
pub returns-in-Some : goal.returns-in-Some
returns-in-Some c =
    let a = c.args in
    sums_wrong a.p a.when a.base a.bytes.now a.pos a.at a.end a.work.now _ c.wanted_at-w.ensures _
    c.read_fields.ensures.0 c.read_fields.ensures.1 _ c.in_ok-f.was _ _ c.read_entries.ensures
    _ c.in_ok-a.was _ c.sums_flaw.ensures _ c.in-Some.is _ c.stop_at.ensures (omega arith)

pub returns-in-None : goal.returns-in-None
returns-in-None c =
    let a = c.args in
    sums_right a.p a.when a.base a.bytes.now a.pos a.at a.end a.work.now _ c.wanted_at-w.ensures _
    c.read_fields.ensures.0 c.read_fields.ensures.1 _ c.in_ok-f.was _ _ c.read_entries.ensures
    _ c.in_ok-a.was _ c.sums_flaw.ensures c.in-None.is
