-- The contracts of the functions that other crates call, as the check reads them: two outcomes that one allows coincide, and one that asks nothing says so.
-- They hold of each type that a list is of, with the copies and the ghost members that come with it. That lifetimes which stand in such a type last over the
-- call is asked of every caller, by no clause.
use mathlib.Core.Path.{refl, sym, ◌∙◌}
use mathlib.Core.List.{[]}
use denote.RattleType.{RattleType}
use denote.Param.Laws.{Laws, IsCopy}
use mir.Syntax.{Dict}
use Rattle.std.specs.declared.clone.Clone.{Ghosts}
use Rattle.lists.specs.declared.BoxList as BoxList
use Rattle.lists.specs.declared.BodyList as BodyList
use Rattle.basics.proofs.Outcomes.{left_inverse_equal}
use contract.Lifetimes.{Lfts}
use contract.BorrowLft.{◌⊑◌}
use Rattle.basics.specs.Outcome.{Coincide, OneOutcome}
use Rattle.state.specs.Calls.{flow_of}
use Rattle.state.proofs.Views.{answer_of, answer_viewed}
use Rattle.lists.proofs.skip_to.Kinds as skip-kinds
use Rattle.lists.proofs.skip_to.Reads as skip-stated
use Rattle.lists.proofs.beside.Kinds as beside-kinds
use Rattle.lists.proofs.beside.Reads as beside-stated
use Rattle.lists.proofs.after_box.Kinds as after-kinds
use Rattle.lists.proofs.after_box.Reads as after-stated
use Rattle.lists.proofs.next_box.Kinds as next-kinds
use Rattle.lists.proofs.next_box.Reads as next-stated
use Rattle.lists.proofs.after_body.Kinds as body-kinds
use Rattle.lists.proofs.after_body.Reads as body-stated
use Rattle.lists.proofs.after_head.Kinds as head-kinds
use Rattle.lists.proofs.after_head.Reads as head-stated
use Rattle.lists.proofs.list_byte.Kinds as byte-kinds
use Rattle.lists.proofs.list_byte.Reads as byte-stated

-- of one list, what it lacks, refusal and count of bytes: one refusal
pub beside_once : OneOutcome 0 beside-kinds.ps beside-kinds.r beside-stated.Pre beside-stated.Post
beside_once = record { asks_nothing = λ κs given. tt; outcomes_coincide = λ κs given r r' left left' p q. (p ∙ sym q, refl) }

module _ (T U : RattleType) (tl : Laws T) (ul : Laws U) (tc : IsCopy T) (uc : IsCopy U) (tg : Ghosts T.Denot) (td : Dict) (ug : Ghosts U.Denot) (ud : Dict) where
  -- what stands in the types lasts
  abbrev Last : Lfts 2 → Type 0
  Last κs = (κs.0 ⊑ T.lives) × (κs.1.0 ⊑ U.lives)

  -- of one end, count of bytes, body and what it gives: one step
  pub skip_to_once : OneOutcome 2 (skip-kinds.ps T U tl ul tc uc) (skip-kinds.r T U tl ul tc uc)
      (λ κs given. Last κs → skip-stated.Pre T U tl ul tc uc tg td ug ud κs given) (skip-stated.Post T U tl ul tc uc tg td ug ud)
  skip_to_once = record { asks_nothing = λ κs given last. last; outcomes_coincide = λ κs given r r' left left' p q. (p ∙ sym q, refl) }

  -- of one list, what it lacks, what is known and given, and count of bytes: one answer
  pub after_box_once : OneOutcome 2 (after-kinds.ps T U tl ul tc uc) (after-kinds.r T U tl ul tc uc)
      (λ κs given. Last κs → after-stated.Pre T U tl ul tc uc tg td ug ud κs given) (after-stated.Post T U tl ul tc uc tg td ug ud)
  after_box_once = record { asks_nothing = λ κs given last. last; outcomes_coincide = λ κs given r r' left left' p q. (p ∙ sym q, refl) }

-- of one answer after a box: one answer
module _ (T U V : RattleType) (tl : Laws T) (ul : Laws U) (vl : Laws V) (tc : IsCopy T) (uc : IsCopy U) (vc : IsCopy V)
    (tg : Ghosts T.Denot) (td : Dict) (ug : Ghosts U.Denot) (ud : Dict) (vg : Ghosts V.Denot) (vd : Dict) where
  pub next_box_once : OneOutcome 3 (next-kinds.ps T U V tl ul vl tc uc vc) (next-kinds.r T U V tl ul vl tc uc vc)
      (λ κs given. (κs.0 ⊑ T.lives) × ((κs.1.0 ⊑ U.lives) × (κs.1.1.0 ⊑ V.lives)) → next-stated.Pre T U V tl ul vl tc uc vc tg td ug ud vg vd κs given)
      (next-stated.Post T U V tl ul vl tc uc vc tg td ug ud vg vd)
  next_box_once = record {
    asks_nothing = λ κs given last. last;
    outcomes_coincide = λ κs given r r' left left' p q.
        let f = flow_of 0 0 0 [] [] in
        (left_inverse_equal answer_of (answer_viewed f r) (answer_viewed f r') (p f ∙ sym (q f)), refl);
  }

-- of one list, what is known of it, what a body or a header answers and count of bytes, and of its boxes so far, count of bytes and byte: one answer,
-- where anything may flow beside the list
module _ (T A B G W : RattleType) (tl : Laws T) (al : Laws A) (bl : Laws B) (gl : Laws G) (wl : Laws W) (ac : IsCopy A) (bc : IsCopy B) (gc : IsCopy G) (wc : IsCopy W)
    (l : BoxList.Ghosts T.Denot A.Denot B.Denot G.Denot W.Denot) (ld : Dict) (ag : Ghosts A.Denot) (ad : Dict) (bg : Ghosts B.Denot) (bd : Dict)
    (gg : Ghosts G.Denot) (gd : Dict) (wg : Ghosts W.Denot) (wd : Dict) (flows : (x : T.Denot) → l.Flows x (l.flow x)) where
  -- what stands in the types lasts
  abbrev Lasting : Lfts 6 → Type 0
  Lasting κs = (κs.1.0 ⊑ T.lives) × ((κs.1.1.0 ⊑ A.lives) × ((κs.1.1.1.0 ⊑ B.lives) × ((κs.1.1.1.1.0 ⊑ G.lives) × (κs.1.1.1.1.1.0 ⊑ W.lives))))

  pub after_body_once : OneOutcome 6 (body-kinds.ps T A B G W tl al bl gl wl ac bc gc wc) (body-kinds.r T A B G W tl al bl gl wl ac bc gc wc)
      (λ κs given. Lasting κs → body-stated.Pre T A B G W tl al bl gl wl ac bc gc wc l ld ag ad bg bd gg gd wg wd κs given)
      (body-stated.Post T A B G W tl al bl gl wl ac bc gc wc l ld ag ad bg bd gg gd wg wd)
  after_body_once = record {
    asks_nothing = λ κs given last. last;
    outcomes_coincide = λ κs given r r' left left' p q.
        (left_inverse_equal answer_of (answer_viewed _ r) (answer_viewed _ r') (p _ (flows _) ∙ sym (q _ (flows _))), refl);
  }

  pub after_head_once : OneOutcome 6 (head-kinds.ps T A B G W tl al bl gl wl ac bc gc wc) (head-kinds.r T A B G W tl al bl gl wl ac bc gc wc)
      (λ κs given. Lasting κs → head-stated.Pre T A B G W tl al bl gl wl ac bc gc wc l ld ag ad bg bd gg gd wg wd κs given)
      (head-stated.Post T A B G W tl al bl gl wl ac bc gc wc l ld ag ad bg bd gg gd wg wd)
  after_head_once = record {
    asks_nothing = λ κs given last. last;
    outcomes_coincide = λ κs given r r' left left' p q.
        (left_inverse_equal answer_of (answer_viewed _ r) (answer_viewed _ r') (p _ (flows _) ∙ sym (q _ (flows _))), refl);
  }

  module _ (o : BodyList.Ghosts T.Denot A.Denot B.Denot G.Denot W.Denot) (od : Dict) where
    pub list_byte_once : Coincide 6 (byte-kinds.ps T A B G W tl al bl gl wl ac bc gc wc) (byte-kinds.r T A B G W tl al bl gl wl ac bc gc wc)
        (byte-stated.Post T A B G W tl al bl gl wl ac bc gc wc o od l ld ag ad bg bd gg gd wg wd)
    list_byte_once = λ κs given r r' left left' p q.
        (left_inverse_equal answer_of (answer_viewed _ r) (answer_viewed _ r') (p _ (flows _) ∙ sym (q _ (flows _))), refl)
