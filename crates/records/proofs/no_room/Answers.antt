-- `records::no_room` meets its contract, by the laws `room_over` and `room_by`.
use borrow.Author.Tests.{le-leb}
use Rattle.records.proofs.Laws.{room_over, room_by}
use Rattle.records.proofs.no_room.Goals as goal

pub returns-then-leaves-ge-MOST_RECORDS : goal.returns-then-leaves-ge-MOST_RECORDS
returns-then-leaves-ge-MOST_RECORDS c = λ table e. rw (room_over table _ c.if-leaves-ge-MOST_RECORDS.true) (le-leb _ _ c.if-leaves-ge-MOST_RECORDS.true)

pub returns-else-leaves-ge-MOST_RECORDS : goal.returns-else-leaves-ge-MOST_RECORDS
returns-else-leaves-ge-MOST_RECORDS c = λ table e. rw (← e) (room_by table _ c.if-leaves-ge-MOST_RECORDS.false)
