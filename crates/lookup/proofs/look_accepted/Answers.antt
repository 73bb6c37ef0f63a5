-- `lookup::look_accepted` meets its contract, by those of `accepted_in_range` and `look_among`, by the law `accepted_fits`, and by the definitions
-- of `lookup_of` and `lookup_state`.
use Rattle.std.specs.Prelude.{Result}
use mathlib.Core.Path.{sym, ◌∙◌, subst}
use Rattle.basics.proofs.Picks.{pick_yes, pick_no}
use Rattle.machine.specs.declared.Refusal.{Refusal}
use Rattle.state.specs.declared.State.TheVariants as state
use Rattle.state.specs.Ranges.{in_range}
use Rattle.covering.specs.Lookup.{lookup_state, lookup_of}
use Rattle.lookup.specs.Spots.{Spots}
use Rattle.lookup.proofs.Exactly.{accepted_fits}
use Rattle.lookup.proofs.look_accepted.Goals as goal
use Rattle.covering.specs.declared.Leaf.{Leaf}

pub look_among-requires : goal.look_among-requires
look_among-requires c =
    let a = c.args in
    let fits = accepted_fits a.count a.leaves a.top (sym c.accepted_in_range.ensures ∙ c.if-accepted_in_range.true) in
    record { list_fits = fits.0; scaled = fits.1; scale_fits = fits.2 }

pub returns-then-accepted_in_range : goal.returns-then-accepted_in_range
unfolding lookup_of lookup_state
returns-then-accepted_in_range c =
    let a = c.args in
    let inside = sym c.accepted_in_range.ensures ∙ c.if-accepted_in_range.true in
    subst (λ (q : Result Leaf Refusal). Spots a.table.now q c.look_among.result)
    (sym (pick_yes (in_range (state.Accepted a.count a.leaves a.top)) _ _ inside))
    c.look_among.ensures

pub returns : goal.returns
unfolding lookup_of
returns c =
    let a = c.args in
    sym (pick_no (in_range (state.Accepted a.count a.leaves a.top)) _ _ (sym c.accepted_in_range.ensures ∙ c.if-accepted_in_range.false))
