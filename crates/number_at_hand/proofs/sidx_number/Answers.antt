-- `number_at_hand::sidx_number` meets its contract, by those of `unstored` and `byte_place`, and by the laws `entry_summed` and `entry_more`.
use Rattle.index.proofs.Numbers.{entry_summed, entry_more}
use Rattle.number_at_hand.proofs.sidx_number.Goals as goal

pub byte_place-requires : goal.byte_place-requires
byte_place-requires c = let pre = c.requires in let e = c.in-Entry.is in (pre.0, entry_summed e pre.1, entry_more e pre.1)
