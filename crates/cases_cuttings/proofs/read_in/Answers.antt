-- `cases_cuttings::read_in` meets its contract: what is held and answered so far, with the rest of the pieces, is that of all of them.
use Rattle.std.proofs.Common.{◌≡◌, ℕ, ◌-◌, true, ◌↔◌, List, sym, refl, ap, ◌∙◌, subst, arith, rules}
use mathlib.Core.Logic.Iff
use Rattle.state.specs.Calls.{Finished, feed_of}
use Rattle.state.specs.declared.State.{State}
use Rattle.cases_trial.specs.Ends.{end_of}
use Rattle.state.specs.Cutting.{Held, held}
use Rattle.cases_cuttings.specs.Readings.{fed_pieces, Answer, cut_fed, end_in}
use Rattle.cases_cuttings.proofs.Pieces.{first_held, first_answered, rest_held, rest_answered, none_held, none_answered}
use Rattle.cases_cuttings.proofs.read_in.Goals as goal

pub loop-init : goal.loop-init
loop-init c =
    let s = c.args in
    (refl, refl, omega arith, first_held s.cut.pieces _ _ _ _ _, first_answered s.want s.cut.pieces _ _ _ _ _)

pub loop-preserved : goal.loop-preserved
loop-preserved c =
    let l = c.loop in
    let s = c.args in
    let h = held l.s l.work l.table in
    let fed = c.feed-fed.ensures.fed ∙ ap (λ (p : List ℕ). feed_of l.s p l.work l.table) c.part.ensures in
    let on = c.piece_end-to.ensures in
    let lt = c.loop-test.true in
    let told = c.answers_at.ensures in (
      search rules,
      search rules,
      omega (arith, lt),
      rest_held s.segment.now s.cut.other l.from l.to _ h _ fed on s.cut.pieces l.counter lt ∙ l.invariant.3,
      Iff.trans
          (rest_answered s.segment.now s.cut.other l.from l.to _ h _ fed on s.want l.answered _ _ told c.both-answered.ensures s.cut.pieces l.counter lt)
          l.invariant.4,
    )

pub returns : goal.returns
returns c =
    let s = c.args in
    let l = c.loop in
    let segment = s.segment.now in
    let none : s.cut.pieces - l.counter ≡ 0 = omega (arith, c.loop-test.false) in
    let began = c.start-s.ensures in
    let h : held l.s l.work l.table ≡ cut_fed segment s.cut s.work.now s.table.now =
    sym (none_held (s.cut.pieces - l.counter) segment s.cut.other l.from l.to (held l.s l.work l.table) none)
    ∙ l.invariant.3
    ∙ ap (λ (q : State). fed_pieces s.cut.pieces segment s.cut.other 0 s.cut.first (held q s.work.now s.table.now)) began in
    record {
      ends = c.end_of.ensures ∙ ap (λ (f : Finished). end_of f.answer f.state) c.finish-finished.ensures ∙ ap end_in h;
      answers =
          subst
          (λ (q : State). (l.answered ≡ true) ↔ Answer s.want s.cut.pieces segment s.cut.other 0 s.cut.first (held q s.work.now s.table.now))
          began (
            λ t. l.invariant.4.0 (t, none_answered s.want (s.cut.pieces - l.counter) segment s.cut.other l.from l.to (held l.s l.work l.table) none),
            λ a. (l.invariant.4.1 a).0,
          );
      works = ap (λ (q : Held). q.work) h;
      tables = ap (λ (q : Held). q.table) h;
    }
