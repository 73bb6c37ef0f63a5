-- `cases_data::buffers::same_levels` meets its contract, by that of `same_level` at each of the four.
use Rattle.std.proofs.Common.{◌≡◌, ℕ, refl, rules, tests}
use Rattle.std.proofs.lemmas.Iterator.{cases_from_all, YieldsList-from_range}
use Rattle.cases_data.proofs.Lists.{each_level}
use Rattle.cases_data.specs.Parts.{level_part, SameLevels}
use Rattle.cases_data.proofs.buffers.same_levels.Goals as goal

pub returns : goal.returns
unfolding SameLevels
returns c =
    let s = c.args in
    let P = λ (level : ℕ). level_part s.a.now level s.n ≡ level_part s.b.now level s.n in
    each_level P _ (cases_from_all _ _ c.all.result P (λ level. P level → ⊥) c.all.ensures.ran (YieldsList-from_range 0 4 4 refl refl)
    (λ x q k. search (rules, tests)) (λ x q k. search (rules, tests)))
