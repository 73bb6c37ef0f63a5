-- `listing::heading` meets its contract, by those of `listed_line` and `refused_line`.
use Rattle.listing.proofs.heading.Goals as goal

pub returns-in-Ok : goal.returns-in-Ok
returns-in-Ok c = rw c.in-Ok.is c.listed_line.ensures

pub returns-in-Err : goal.returns-in-Err
returns-in-Err c = rw c.in-Err.is c.refused_line.ensures
