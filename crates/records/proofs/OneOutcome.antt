-- The contracts of the functions that other crates call, as the check reads them: two outcomes that each allows coincide, and those that
-- require nothing ask nothing.
use Prim.Native.Nat.{ℕ}
use mathlib.Core.Path.{refl, sym, ap, ◌∙◌}
use mathlib.Core.List.{List}
use lib.ListN.{replicate, length-replicate}
use Rattle.basics.specs.Outcome.{OneOutcome, Coincide, after_call}
use Rattle.records.proofs.no_room.Kinds as no-room-kinds
use Rattle.records.proofs.no_room.Reads as no-room-stated
use Rattle.records.proofs.numbers_of.Kinds as numbers-of-kinds
use Rattle.records.proofs.numbers_of.Reads as numbers-of-stated
use Rattle.records.proofs.put_record.Kinds as put-record-kinds
use Rattle.records.proofs.put_record.Reads as put-record-stated
use Rattle.records.proofs.record_at.Kinds as record-at-kinds
use Rattle.records.proofs.record_at.Reads as record-at-stated

-- of one count of leaves and one length of the table: one answer, since a table of that length can be had
pub no_room_once : OneOutcome 0 no-room-kinds.ps no-room-kinds.r no-room-stated.Pre no-room-stated.Post
no_room_once = record {
  asks_nothing = λ κs given. tt;
  outcomes_coincide = λ κs given r r' left left' p q.
      let table : List ℕ = replicate given.1.0 0 in
      let long = length-replicate {A = ℕ} given.1.0 0 in
      (p table long ∙ sym (q table long), refl);
}

-- of one record: its numbers
pub numbers_of_once : OneOutcome 0 numbers-of-kinds.ps numbers-of-kinds.r numbers-of-stated.Pre numbers-of-stated.Post
numbers_of_once = record {
  asks_nothing = λ κs given. tt;
  outcomes_coincide = λ κs given r r' left left' p q. (p ∙ sym q, refl);
}

-- of one table, count of leaves and record: one table after the call, number by number
pub put_record_once : Coincide 1 put-record-kinds.ps put-record-kinds.r put-record-stated.Post
put_record_once κs given r r' left left' p q =
    (refl, ap (λ (t : List ℕ). after_call 1 put-record-kinds.ps put-record-kinds.r κs given (t, (tt, (tt, tt)))) (p ∙ sym q))

-- of one table and place: one record
pub record_at_once : Coincide 1 record-at-kinds.ps record-at-kinds.r record-at-stated.Post
record_at_once κs given r r' left left' p q = (p ∙ sym q, refl)
