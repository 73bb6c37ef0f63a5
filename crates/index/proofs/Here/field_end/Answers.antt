-- `index::Here::field_end` meets its contract, by those of the functions that it calls; what was read before a version may be any.
use Rattle.state.specs.Calls.{flow_of}
use Rattle.index.proofs.Here.field_end.Goals as goal

pub returns-in-Version : goal.returns-in-Version
returns-in-Version c = λ leaves last work table. rw c.in-Version.is (c.version_end.ensures _ (flow_of leaves c.args.self.at last work table))
