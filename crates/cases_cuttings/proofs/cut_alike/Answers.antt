-- `cases_cuttings::cut_alike` meets its contract, by those of `reads_alike`, `same_levels` and `same_numbers`.
use Rattle.std.proofs.Common.{◌≡◌, ℕ, true, ◌↔◌, List, length, refl, ◌∙◌, subst}
use Rattle.cases_data.specs.Parts.{SameLevels, SameNumbers}
use Rattle.cases_data.proofs.Alike.{both_taken, both_left}
use Rattle.cases_cuttings.specs.Readings.{Alike, cut_at, cut_fed}
use Rattle.cases_cuttings.proofs.cut_alike.Goals as goal
use Rattle.cases_cuttings.proofs.cut_alike.Goals.{then-ends, else-ends}

pub returns-then-both : goal.returns-then-both
returns-then-both c =
    let s = c.args in
    let n = length s.done.segment.now in
    let cut = cut_at s.done.segment.now s.at in
    let own = cut_fed s.done.segment.now cut s.own_work.now s.own_table.now in
    let told = c.reads_alike-ends.ensures in
    let works = subst (λ (w : List ℕ). (c.same_levels-works.result ≡ true) ↔ SameLevels w s.done.work.now n) told.works c.same_levels-works.ensures in
    let two : (c.if-ends.both ≡ true) ↔ (Alike s.done.end s.done.segment.now cut s.own_work.now s.own_table.now × SameLevels own.work s.done.work.now n) =
    elim c.if-ends.branch [
      | then-ends w ↦ both_taken _ _ _ told.alike works w.if-ends.true w.both-is
      | else-ends w ↦ both_left _ _ told.alike w.if-ends.false (w.both-is ∙ w.if-ends.false)
    ] in
    let last = subst (λ (w : List ℕ). (c.same_numbers-tables.result ≡ true) ↔ SameNumbers w s.done.table.now n) told.tables c.same_numbers-tables.ensures in
    both_taken _ _ _ two last c.if-both.true refl

pub returns-else-both : goal.returns-else-both
returns-else-both c =
    let s = c.args in
    let n = length s.done.segment.now in
    let cut = cut_at s.done.segment.now s.at in
    let own = cut_fed s.done.segment.now cut s.own_work.now s.own_table.now in
    let told = c.reads_alike-ends.ensures in
    let works = subst (λ (w : List ℕ). (c.same_levels-works.result ≡ true) ↔ SameLevels w s.done.work.now n) told.works c.same_levels-works.ensures in
    let two : (c.if-ends.both ≡ true) ↔ (Alike s.done.end s.done.segment.now cut s.own_work.now s.own_table.now × SameLevels own.work s.done.work.now n) =
    elim c.if-ends.branch [
      | then-ends w ↦ both_taken _ _ _ told.alike works w.if-ends.true w.both-is
      | else-ends w ↦ both_left _ _ told.alike w.if-ends.false (w.both-is ∙ w.if-ends.false)
    ] in
    both_left _ _ two c.if-both.false c.if-both.false
