-- `walk_leaf::time_box` meets its contract, by those of `is_reference`, `stop_at` and `seen_at`, and by the laws `time_other`, `time_falls` and `time_climbs`.
use mathlib.Core.Path.{refl, sym, ◌∙◌}
use native.Mathlib.Omega.{arith}
use Rattle.walk_leaf.specs.Views.{walked_d}
use Rattle.fields.specs.Onward.{halted}
use Rattle.walk_leaf.proofs.Tracks.{time_other, time_falls, time_climbs}
use Rattle.walk_leaf.proofs.time_box.Goals as goal

pub returns-else-is_reference : goal.returns-else-is_reference
unfolding walked_d
returns-else-is_reference c =
    let a = c.args in
    record {
      right = λ base s f. time_other a.so base s f a.at a.end a.v (sym c.is_reference.ensures ∙ c.if-is_reference.false);
      fixed = λ s there. there;
    }

pub returns-then-v-seen : goal.returns-then-v-seen
unfolding walked_d halted
returns-then-v-seen c =
    let a = c.args in
    let le = c.requires in
    rw c.stop_at.ensures (record {
      right = λ base s f. time_falls a.so base s f a.at a.end a.v (sym c.is_reference.ensures ∙ c.if-is_reference.true) c.if-v-seen.true;
      fixed = λ s there. record { none = refl; low = omega arith; place = le; count = omega arith };
    })

pub returns-else-v-seen : goal.returns-else-v-seen
unfolding walked_d
returns-else-v-seen c =
    let a = c.args in
    rw c.seen_at-seen.ensures (record {
      right = λ base s f. time_climbs a.so base s f a.at a.end a.v (sym c.is_reference.ensures ∙ c.if-is_reference.true) c.if-v-seen.false;
      fixed = λ s there. there;
    })
