-- The row that the byte past the limit gives: what is read back before an entry tells, and elsewhere it is 3.
use borrow.Enum.Refused.{opened}
use mathlib.Core.Path.{◌∙◌}
use native.Mathlib.Omega.{arith}
use Rattle.segment.specs.Constants.{limit}
use Rattle.machine.specs.Faults.{refusal}
use Rattle.state.specs.Calls.{flow_of}
use Rattle.stage.proofs.Entries.{entry_within}
use Rattle.byte.proofs.Laws.{elsewhere_over, altered_over, stands_over}
use Rattle.byte.proofs.limit_row.Goals as goal

pub returns-in_default : goal.returns-in_default
returns-in_default c =
    let a = c.args in
    λ leaves last table. c.over_limit.ensures ∙ elsewhere_over a.s (flow_of leaves a.at last a.work.now table) (refusal 3 limit) (opened c.in_default.in_default-own.keys2)

pub read_back-requires : goal.read_back-requires
read_back-requires c =
    let inside = entry_within c.args.s c.args.at _ _ c.in-Entry.is c.requires.1 in
    (c.requires.0, inside.0, inside.1, inside.2, omega arith)

pub returns-in-None : goal.returns-in-None
returns-in-None c =
    let a = c.args in
    λ leaves last table. altered_over a.s _ _ (flow_of leaves a.at last a.work.now table) (refusal 3 limit) _ c.in-Entry.is c.read_back.ensures c.in-None.is

pub returns-in-Some : goal.returns-in-Some
returns-in-Some c =
    let a = c.args in
    λ leaves last table. c.over_limit-in-Some.ensures
    ∙ stands_over a.s _ _ (flow_of leaves a.at last a.work.now table) (refusal 3 limit) _ c.in-Entry.is c.read_back.ensures _ _ c.in-Some.is
