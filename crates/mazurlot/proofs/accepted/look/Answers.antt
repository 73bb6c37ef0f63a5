-- `mazurlot::accepted::look` meets its contract, by those of `accepted_numbers`, `look_accepted` and `refused_with`, and by the laws `accepted_looked_up`
-- and `others_refused`.
use Rattle.std.specs.Prelude.{Result, Err}
use Prim.Native.Nat.{ℕ}
use mathlib.Core.Path.{◌≡◌, sym, ap, subst, ◌∙◌}
use native.Mathlib.Omega.{arith}
use lib.ListN.{length}
use Rattle.machine.specs.declared.Refusal.{Refusal}
use Rattle.machine.specs.Faults.{refusal}
use Rattle.lookup.specs.Spots.{Spots}
use Rattle.mazurlot.proofs.Numbered.{accepted_long, accepted_looked_up, others_refused}
use Rattle.mazurlot.proofs.accepted.look.Goals.{Then-accepted_numbers}
use Rattle.mazurlot.proofs.accepted.look.Goals as goal
use Rattle.covering.specs.declared.Leaf.{Leaf}

-- an accepted state has places enough to be read
reads : (c : Then-accepted_numbers) → length c.args.numbers.now ≡ 57
reads c = accepted_long _ (sym c.accepted_numbers.ensures ∙ c.if-accepted_numbers.true)

pub bounds-numbers-3 : goal.bounds-numbers-3
bounds-numbers-3 c =
    let k = (goal.at.bounds-numbers-3 c).Then-accepted_numbers in
    let e = reads k in omega arith

pub bounds-numbers-4 : goal.bounds-numbers-4
bounds-numbers-4 c =
    let k = (goal.at.bounds-numbers-4 c).Then-accepted_numbers in
    let e = reads k in omega arith

pub bounds-numbers-5 : goal.bounds-numbers-5
bounds-numbers-5 c =
    let k = (goal.at.bounds-numbers-5 c).Then-accepted_numbers in
    let e = reads k in omega arith

pub bounds-numbers-6 : goal.bounds-numbers-6
bounds-numbers-6 c =
    let k = (goal.at.bounds-numbers-6 c).Then-accepted_numbers in
    let e = reads k in omega arith

pub bounds-numbers-1 : goal.bounds-numbers-1
bounds-numbers-1 c =
    let k = (goal.at.bounds-numbers-1 c).Then-accepted_numbers in
    let e = reads k in omega arith

pub bounds-numbers-2 : goal.bounds-numbers-2
bounds-numbers-2 c =
    let k = (goal.at.bounds-numbers-2 c).Then-accepted_numbers in
    let e = reads k in omega arith

pub returns-then-accepted_numbers : goal.returns-then-accepted_numbers
returns-then-accepted_numbers c =
    let told = sym c.accepted_numbers.ensures ∙ c.if-accepted_numbers.true in
    let a = c.args in
    subst (λ (q : Result Leaf Refusal). Spots a.table.now q c.look_accepted.result) (accepted_looked_up a.numbers.now a.table.now a.request told)
    c.look_accepted.ensures

pub returns : goal.returns
returns c =
    let told = sym c.accepted_numbers.ensures ∙ c.if-accepted_numbers.false in
    ap (λ (n : ℕ). Err (refusal n 0)) c.refused_with.ensures ∙ others_refused _ _ _ told
