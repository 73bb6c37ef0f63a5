-- `seconds::parts_of` meets its contract, by the laws `a_number`, `no_number`, `split_zero`, `split_none`, `split_subnormal` and `split_normal`: one for
-- each way out.
use Rattle.seconds.proofs.Laws.{a_number, no_number, split_zero, split_none, split_subnormal, split_normal}
use Rattle.seconds.proofs.parts_of.Goals as goal

pub returns-then-x : goal.returns-then-x
returns-then-x c = no_number c.args.x c.if-x.true

pub float_to_bits-bits : goal.float_to_bits-bits
float_to_bits-bits c = a_number c.args.x c.if-x.false

pub returns-then-bits : goal.returns-then-bits
returns-then-bits c = split_zero c.args.x c.well_formed.0.1 c.if-bits.true

pub returns-then-bits-ge-INFINITE : goal.returns-then-bits-ge-INFINITE
returns-then-bits-ge-INFINITE c = split_none c.args.x c.well_formed.0.1 c.if-bits.false c.if-bits-ge-INFINITE.true

pub returns-then-exponent-eq0 : goal.returns-then-exponent-eq0
returns-then-exponent-eq0 c = split_subnormal c.args.x c.well_formed.0.1 c.if-bits-ge-INFINITE.false c.if-exponent-eq0.true

pub returns : goal.returns
returns c = split_normal c.args.x c.well_formed.0.1 c.if-bits-ge-INFINITE.false c.if-exponent-eq0.false
