-- `index::Here::entry_end` meets its contract, by those of `size_end`, `entry` and `sap_end`; an SAP word may be any.
use Rattle.index.proofs.Here.entry_end.Goals as goal

pub returns-in-Sap : goal.returns-in-Sap
returns-in-Sap c = λ leaves last work table. rw c.in-Sap.is (c.sap_end.ensures leaves last work table _)
