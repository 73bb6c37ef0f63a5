-- The contracts of the library's functions themselves, as the check reads them: each asks nothing, and two outcomes that it allows coincide.
use mathlib.Core.Path.{sym, ap, ◌∙◌}
use Rattle.basics.specs.Outcome.{OneOutcome, after_call}
use Rattle.mazurlot.specs.Calls.{Call}
use Rattle.mazurlot.proofs.mazurlot_start.Kinds as start-kinds
use Rattle.mazurlot.proofs.mazurlot_start.Reads as start-stated
use Rattle.mazurlot.proofs.mazurlot_feed.Kinds as feed-kinds
use Rattle.mazurlot.proofs.mazurlot_feed.Reads as feed-stated
use Rattle.mazurlot.proofs.mazurlot_finish.Kinds as finish-kinds
use Rattle.mazurlot.proofs.mazurlot_finish.Reads as finish-stated
use Rattle.mazurlot.proofs.mazurlot_whole.Kinds as whole_Kinds
use Rattle.mazurlot.proofs.mazurlot_whole.Reads as whole-stated
use Rattle.mazurlot.proofs.mazurlot_lookup_ticks.Kinds as ticks-kinds
use Rattle.mazurlot.proofs.mazurlot_lookup_ticks.Reads as ticks-stated
use Rattle.mazurlot.proofs.mazurlot_lookup_seconds.Kinds as seconds-kinds
use Rattle.mazurlot.proofs.mazurlot_lookup_seconds.Reads as seconds-stated
use Rattle.mazurlot.proofs.mazurlot_resolve.Kinds as resolve-kinds
use Rattle.mazurlot.proofs.mazurlot_resolve.Reads as resolve-stated

-- of one brand and state slice: one number, and one state slice after the call
pub start_once : OneOutcome 1 start-kinds.ps start-kinds.r start-stated.Pre start-stated.Post
start_once = record {
  asks_nothing = λ κs given. tt;
  outcomes_coincide = λ κs given r r' left left' p q.
      let same = p ∙ sym q in
      (ap (λ (o : Call). o.number) same, ap (λ (o : Call). after_call 1 start-kinds.ps start-kinds.r κs given (tt, (o.state, tt))) same);
}

-- of one piece, state slice, work area, table and slot: one number, and one content of each after the call; the piece stays as it was
pub feed_once : OneOutcome 5 feed-kinds.ps feed-kinds.r feed-stated.Pre feed-stated.Post
feed_once = record {
  asks_nothing = λ κs given. tt;
  outcomes_coincide = λ κs given r r' left left' p q.
      let same = p ∙ sym q in (
        ap (λ (o : Call). o.number) same,
        ap (λ (o : Call). after_call 5 feed-kinds.ps feed-kinds.r κs given (tt, (o.state, (o.work, (o.table, (o.slot, tt)))))) same,
      );
}

-- of one state slice and slot: one number, and one content of each after the call
pub finish_once : OneOutcome 2 finish-kinds.ps finish-kinds.r finish-stated.Pre finish-stated.Post
finish_once = record {
  asks_nothing = λ κs given. tt;
  outcomes_coincide = λ κs given r r' left left' p q.
      let same = p ∙ sym q in
      (ap (λ (o : Call). o.number) same, ap (λ (o : Call). after_call 2 finish-kinds.ps finish-kinds.r κs given (o.state, (o.slot, tt))) same);
}

-- of one brand, segment, state slice, work area, table and slot: the same; the segment stays as it was
pub whole_once : OneOutcome 5 whole_Kinds.ps whole_Kinds.r whole-stated.Pre whole-stated.Post
whole_once = record {
  asks_nothing = λ κs given. tt;
  outcomes_coincide = λ κs given r r' left left' p q.
      let same = p ∙ sym q in (
        ap (λ (o : Call). o.number) same,
        ap (λ (o : Call). after_call 5 whole_Kinds.ps whole_Kinds.r κs given (tt, (tt, (o.state, (o.work, (o.table, (o.slot, tt))))))) same,
      );
}

-- of one time, state slice, table and slot: one number, and one slot after the call; state and table stay as they were
pub lookup_ticks_once : OneOutcome 3 ticks-kinds.ps ticks-kinds.r ticks-stated.Pre ticks-stated.Post
lookup_ticks_once = record {
  asks_nothing = λ κs given. tt;
  outcomes_coincide = λ κs given r r' left left' p q.
      let same = p ∙ sym q in
      (ap (λ (o : Call). o.number) same, ap (λ (o : Call). after_call 3 ticks-kinds.ps ticks-kinds.r κs given (tt, (tt, (tt, (o.slot, tt))))) same);
}

pub lookup_seconds_once : OneOutcome 3 seconds-kinds.ps seconds-kinds.r seconds-stated.Pre seconds-stated.Post
lookup_seconds_once = record {
  asks_nothing = λ κs given. tt;
  outcomes_coincide = λ κs given r r' left left' p q.
      let same = p ∙ sym q in
      (ap (λ (o : Call). o.number) same, ap (λ (o : Call). after_call 3 seconds-kinds.ps seconds-kinds.r κs given (tt, (tt, (tt, (o.slot, tt))))) same);
}

-- of one mark, state slice, table and slot: the same
pub resolve_once : OneOutcome 3 resolve-kinds.ps resolve-kinds.r resolve-stated.Pre resolve-stated.Post
resolve_once = record {
  asks_nothing = λ κs given. tt;
  outcomes_coincide = λ κs given r r' left left' p q.
      let same = p ∙ sym q in
      (ap (λ (o : Call). o.number) same, ap (λ (o : Call). after_call 3 resolve-kinds.ps resolve-kinds.r κs given (tt, (tt, (tt, (tt, (o.slot, tt)))))) same);
}
