-- `cases_whole::whole_alike` meets its contract, by those of `whole_end`, `same_end`, `same_bytes` and `same_numbers`.
use Rattle.std.proofs.Common.{◌≡◌, true, ◌↔◌, ℕ, ◌≤◌, List, length, refl, ◌∙◌, subst, arith}
use mathlib.Core.Logic.Iff
use Rattle.state.specs.Calls.{whole_of}
use Rattle.cases_data.specs.Lent.{msdh, lent_work, lent_table}
use Rattle.cases_data.specs.Parts.{SameNumbers}
use Rattle.cases_data.proofs.Alike.{both_taken, both_left, alike_full}
use Rattle.cases_trial.specs.declared.alike.End.{End}
use Rattle.cases_whole.specs.Reading.{end_in}
use Rattle.cases_whole.proofs.whole_alike.Goals as goal
use Rattle.cases_whole.proofs.whole_alike.Goals.{then-ends, else-ends}

pub returns-then-both : goal.returns-then-both
returns-then-both c =
    let s = c.args in
    let own = whole_of msdh s.done.segment.now lent_work lent_table in
    let told = c.whole_end-own.ensures in
    let ends = subst (λ (e : End). (c.same_end-ends.result ≡ true) ↔ (e ≡ s.done.end)) told.ends c.same_end-ends.ensures in
    let works = subst (λ (w : List ℕ). (c.same_bytes-works.result ≡ true) ↔ (w ≡ s.done.work.now)) told.works c.same_bytes-works.ensures in
    let two : (c.if-ends.both ≡ true) ↔ ((end_in own ≡ s.done.end) × (own.work ≡ s.done.work.now)) =
    elim c.if-ends.branch [
      | then-ends w ↦ both_taken _ _ _ ends works w.if-ends.true w.both-is
      | else-ends w ↦ both_left _ _ ends w.if-ends.false (w.both-is ∙ w.if-ends.false)
    ] in
    let long : length own.table ≤ 1536 = subst (λ (w : List ℕ). length w ≤ 1536) told.tables (omega arith) in
    let same = subst (λ (w : List ℕ). (c.same_numbers.result ≡ true) ↔ SameNumbers w s.done.table.now 1536) told.tables c.same_numbers.ensures in
    let last = Iff.trans same (alike_full own.table s.done.table.now 1536 long) in
    both_taken _ _ _ two last c.if-both.true refl

pub returns-else-both : goal.returns-else-both
returns-else-both c =
    let s = c.args in
    let own = whole_of msdh s.done.segment.now lent_work lent_table in
    let told = c.whole_end-own.ensures in
    let ends = subst (λ (e : End). (c.same_end-ends.result ≡ true) ↔ (e ≡ s.done.end)) told.ends c.same_end-ends.ensures in
    let works = subst (λ (w : List ℕ). (c.same_bytes-works.result ≡ true) ↔ (w ≡ s.done.work.now)) told.works c.same_bytes-works.ensures in
    let two : (c.if-ends.both ≡ true) ↔ ((end_in own ≡ s.done.end) × (own.work ≡ s.done.work.now)) =
    elim c.if-ends.branch [
      | then-ends w ↦ both_taken _ _ _ ends works w.if-ends.true w.both-is
      | else-ends w ↦ both_left _ _ ends w.if-ends.false (w.both-is ∙ w.if-ends.false)
    ] in
    both_left _ _ two c.if-both.false c.if-both.false
