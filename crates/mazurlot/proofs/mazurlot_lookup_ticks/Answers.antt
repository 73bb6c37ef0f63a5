-- `mazurlot::mazurlot_lookup_ticks` meets its contract, by that of `look_up`.
use Rattle.mazurlot.proofs.mazurlot_lookup_ticks.Goals as goal

pub returns : goal.returns
returns c = c.look_up.ensures
