-- `levels::took_entry` meets its contract, by that of `took`, by the law `next_of`, and by the definitions of `inmost` and `took_entry`.
use Rattle.levels.proofs.Places.{next_of}
use Rattle.state.specs.Levels.{inmost, took_entry}
use Rattle.levels.proofs.took_entry.Goals as goal

pub took-requires : goal.took-requires
unfolding inmost took_entry
took-requires c = next_of _ _ c.in-One.is c.requires

pub took-requires-in-Two : goal.took-requires-in-Two
unfolding inmost took_entry
took-requires-in-Two c = next_of _ _ c.in-Two.is c.requires

pub took-requires-in-Three : goal.took-requires-in-Three
unfolding inmost took_entry
took-requires-in-Three c = next_of _ _ c.in-Three.is c.requires

pub took-requires-in-Four : goal.took-requires-in-Four
unfolding inmost took_entry
took-requires-in-Four c = next_of _ _ c.in-Four.is c.requires

pub returns-in-One : goal.returns-in-One
unfolding inmost took_entry
returns-in-One c = rw (c.in-One.is, c.took.ensures)

pub returns-in-Two : goal.returns-in-Two
unfolding inmost took_entry
returns-in-Two c = rw (c.in-Two.is, c.took-in-Two.ensures)

pub returns-in-Three : goal.returns-in-Three
unfolding inmost took_entry
returns-in-Three c = rw (c.in-Three.is, c.took-in-Three.ensures)

pub returns-in-Four : goal.returns-in-Four
unfolding inmost took_entry
returns-in-Four c = rw (c.in-Four.is, c.took-in-Four.ensures)
