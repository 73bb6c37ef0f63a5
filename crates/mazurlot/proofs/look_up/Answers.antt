-- `mazurlot::look_up` meets its contract, by those of `look` and `say_found`, and by the law `spot_told`.
use Rattle.std.specs.Prelude.{Result}
use Rattle.machine.specs.declared.Refusal.{Refusal}
use mathlib.Core.Path.{◌≡◌, refl, ap, ◌∙◌}
use borrow.Author.Tests.{lt-ltb, le-ltb}
use Rattle.basics.specs.Choose.{pick}
use Rattle.mazurlot.specs.Answers.{of_lookup}
use Rattle.numbered.specs.Unpacked.{unpack_of}
use Rattle.lookup.specs.Spots.{OnRecord, answer_at}
use Rattle.mazurlot.specs.Calls.{saying, look_from, lookup_call}
use Rattle.mazurlot.proofs.Laws.{same_call, spot_told}
use mathlib.Core.List.{[]}
use Rattle.mazurlot.proofs.look_up.Goals.{After-look-spot}
use Rattle.mazurlot.proofs.look_up.Goals as goal
use Rattle.covering.specs.declared.Leaf.{Leaf}

-- the spot that was looked for, as what it stands for
found : (c : After-look-spot) → let args = c.args in
    OnRecord args.table.now c.look-spot.result × (answer_at args.table.now c.look-spot.result ≡ look_from (unpack_of args.state.now) args.table.now args.request)
found c =
    let args = c.args in
    spot_told args.table.now (look_from (unpack_of args.state.now) args.table.now args.request) c.look-spot.result c.look-spot.ensures

pub returns-then-answer-lt-LOOKUP_VALUES : goal.returns-then-answer-lt-LOOKUP_VALUES
unfolding lookup_call pick
returns-then-answer-lt-LOOKUP_VALUES c = rw (lt-ltb _ _ c.if-answer-lt-LOOKUP_VALUES.true)

pub say_found-requires : goal.say_found-requires
say_found-requires c =
    let k = (goal.at.say_found-requires c).After-look-spot in
    (c.if-answer-lt-LOOKUP_VALUES.false, (found k).0)

pub returns : goal.returns
unfolding lookup_call pick
returns c =
    let k = (goal.at.returns c).After-look-spot in
    let slot = c.args.answer.now in
    rw (le-ltb _ _ c.if-answer-lt-LOOKUP_VALUES.false)
    (same_call c.say_found.ensures.0 c.say_found.ensures.1 refl ∙ ap (λ (a : Result Leaf Refusal). saying (of_lookup a) slot [] [] []) (found k).1)
