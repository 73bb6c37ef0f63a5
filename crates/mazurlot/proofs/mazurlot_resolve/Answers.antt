-- `mazurlot::mazurlot_resolve` meets its contract, by those of `look`, `say_found` and `say_page`, and by the laws `page_said`, `spot_told` and `mark_looked_up`.
use Rattle.std.specs.Prelude.{Result}
use Rattle.machine.specs.declared.Refusal.{Refusal}
use mathlib.Core.Path.{◌≡◌, refl, sym, ap, ◌∙◌}
use mathlib.Core.List.{[]}
use native.Mathlib.Omega.{arith}
use borrow.Author.Tests.{lt-ltb, le-ltb}
use Rattle.basics.specs.Choose.{pick}
use Rattle.numbered.specs.Unpacked.{unpack_of}
use Rattle.mazurlot.specs.Answers.{Said, of_mark}
use Rattle.moment.specs.declared.Request.TheVariants as request
use Rattle.lookup.specs.Spots.{OnRecord, answer_at}
use Rattle.mazurlot.specs.Calls.{Call, saying, look_from, resolve_call}
use Rattle.mazurlot.proofs.Laws.{same_call, page_said, spot_told, mark_looked_up}
use Rattle.mazurlot.proofs.mazurlot_resolve.Goals.{After-look-spot}
use Rattle.mazurlot.proofs.mazurlot_resolve.Goals as goal
use Rattle.covering.specs.declared.Leaf.{Leaf}

-- the spot that was looked for, as what it stands for
found : (c : After-look-spot) → let args = c.args in
    OnRecord args.table.now c.look-spot.result × (answer_at args.table.now c.look-spot.result ≡ look_from (unpack_of args.state.now) args.table.now (request.Seconds args.seconds))
found c =
    let args = c.args in
    spot_told args.table.now (look_from (unpack_of args.state.now) args.table.now (request.Seconds args.seconds)) c.look-spot.result c.look-spot.ensures

pub returns-then-answer-lt-MARK_VALUES : goal.returns-then-answer-lt-MARK_VALUES
unfolding resolve_call pick
returns-then-answer-lt-MARK_VALUES c = rw (lt-ltb _ _ c.if-answer-lt-MARK_VALUES.true)

pub say_found-number-requires : goal.say_found-number-requires
say_found-number-requires c =
    let k = (goal.at.say_found-number-requires c).After-look-spot in
    (omega (arith, c.if-answer-lt-MARK_VALUES.false), (found k).0)

pub returns : goal.returns
unfolding resolve_call pick
returns c =
    let k = (goal.at.returns c).After-look-spot in
    let args = c.args in
    let slot = args.answer.now in
    let marked : Result Leaf Refusal → Call = λ a. saying (of_mark (record { page = args.page; answer = a })) slot [] [] [] in
    rw (le-ltb _ _ c.if-answer-lt-MARK_VALUES.false)
    (same_call (c.say_page.ensures.0 ∙ c.say_found-number.ensures.0) (page_said slot _ _ c.say_found-number.ensures c.say_page.ensures.1) refl
    ∙ ap marked (found k).1
    ∙ ap (λ (s : Said). saying s slot [] [] []) (sym (mark_looked_up (unpack_of args.state.now) args.table.now (record { page = args.page; seconds = args.seconds }))))
