-- `cases_cuttings::pieces_alike` meets its contract, by those of `reads_alike`, `same_bytes` and `same_numbers`.
use Rattle.std.proofs.Common.{◌≡◌, ℕ, true, ◌↔◌, List, refl, ◌∙◌, subst}
use Rattle.cases_data.proofs.Alike.{both_taken, both_left}
use Rattle.cases_cuttings.proofs.Pieces.{same_cut}
use Rattle.cases_data.specs.Lent.{lent_work, lent_table}
use Rattle.cases_data.specs.Parts.{SameNumbers}
use Rattle.cases_cuttings.specs.Readings.{Alike, in_pieces, cut_fed}
use Rattle.cases_cuttings.proofs.pieces_alike.Goals as goal
use Rattle.cases_cuttings.proofs.pieces_alike.Goals.{then-ends, else-ends}

pub returns-then-both : goal.returns-then-both
returns-then-both c =
    let s = c.args in
    let cut = in_pieces s.done.segment.now s.length in
    let told = same_cut _ _ _ _ _ _ _ _ _ _ _ c.least.ensures c.reads_alike-ends.ensures in
    let works = subst (λ (w : List ℕ). (c.same_bytes-works.result ≡ true) ↔ (w ≡ s.done.work.now)) told.works c.same_bytes-works.ensures in
    let two : (c.if-ends.both ≡ true) ↔ (Alike s.done.end s.done.segment.now cut lent_work lent_table × ((cut_fed s.done.segment.now cut lent_work lent_table).work ≡ s.done.work.now)) =
    elim c.if-ends.branch [
      | then-ends w ↦ both_taken _ _ _ told.alike works w.if-ends.true w.both-is
      | else-ends w ↦ both_left _ _ told.alike w.if-ends.false (w.both-is ∙ w.if-ends.false)
    ] in
    let last = subst (λ (w : List ℕ). (c.same_numbers.result ≡ true) ↔ SameNumbers w s.done.table.now 1536) told.tables c.same_numbers.ensures in
    both_taken _ _ _ two last c.if-both.true refl

pub returns-else-both : goal.returns-else-both
returns-else-both c =
    let s = c.args in
    let cut = in_pieces s.done.segment.now s.length in
    let told = same_cut _ _ _ _ _ _ _ _ _ _ _ c.least.ensures c.reads_alike-ends.ensures in
    let works = subst (λ (w : List ℕ). (c.same_bytes-works.result ≡ true) ↔ (w ≡ s.done.work.now)) told.works c.same_bytes-works.ensures in
    let two : (c.if-ends.both ≡ true) ↔ (Alike s.done.end s.done.segment.now cut lent_work lent_table × ((cut_fed s.done.segment.now cut lent_work lent_table).work ≡ s.done.work.now)) =
    elim c.if-ends.branch [
      | then-ends w ↦ both_taken _ _ _ told.alike works w.if-ends.true w.both-is
      | else-ends w ↦ both_left _ _ told.alike w.if-ends.false (w.both-is ∙ w.if-ends.false)
    ] in
    both_left _ _ two c.if-both.false c.if-both.false
