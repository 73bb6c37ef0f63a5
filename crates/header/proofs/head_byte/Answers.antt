-- `header::head_byte` meets its contract, by those of `first_byte`, `size_byte`, `kind_byte` and `large_byte`, by the law `spelled_small`, and by the
-- definition of `head_bounds`.
use mathlib.Core.Path.{subst}
use native.Mathlib.Omega.{arith}
use Rattle.machine.specs.declared.Head.{Head}
use Rattle.state.specs.Ranges.{Within, head_bounds}
use Rattle.header.proofs.Steps.{spelled_small}
use Rattle.header.proofs.head_byte.Goals as goal

pub size_byte-requires : goal.size_byte-requires
unfolding head_bounds
size_byte-requires c =
    let w = subst (λ (q : Head). Within (head_bounds q)) c.in-Size.is c.requires.0 in
    spelled_small 3 _ _ (omega arith) w.1

pub kind_byte-requires : goal.kind_byte-requires
unfolding head_bounds
kind_byte-requires c =
    let w = subst (λ (q : Head). Within (head_bounds q)) c.in-Kind.is c.requires.0 in
    (w.0, spelled_small 3 _ _ (omega arith) w.1)

pub large_byte-requires : goal.large_byte-requires
unfolding head_bounds
large_byte-requires c =
    let w = subst (λ (q : Head). Within (head_bounds q)) c.in-Large.is c.requires.0 in
    spelled_small 7 _ _ (omega arith) w.1

pub returns-in-First : goal.returns-in-First
returns-in-First c = λ f. rw c.in-First.is (c.first_byte.ensures f)

pub returns-in-Size : goal.returns-in-Size
returns-in-Size c = λ f. rw c.in-Size.is (c.size_byte.ensures f)

pub returns-in-Kind : goal.returns-in-Kind
returns-in-Kind c = λ f. rw c.in-Kind.is (c.kind_byte.ensures f)

pub returns-in-Large : goal.returns-in-Large
returns-in-Large c = λ f. rw c.in-Large.is (c.large_byte.ensures f)
