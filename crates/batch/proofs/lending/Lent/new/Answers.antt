-- `batch::lending::Lent::new` meets its contract: the first of so many alike are as many of them.
use Rattle.std.proofs.Common.{ap}
use Rattle.std.proofs.lemmas.List.{take-replicate}
use Rattle.batch.proofs.lending.Lent.new.Goals as goal

pub returns : goal.returns
returns g c = ap (λ xs. (xs, xs)) (take-replicate c.args.count g.row.N c.args.each c.requires)
