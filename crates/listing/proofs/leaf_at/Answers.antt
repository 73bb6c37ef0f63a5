-- `listing::leaf_at` meets its contract, by those of `record_at` and `leaf_line`.
use mathlib.Core.Path.{ap, ◌∙◌}
use Prim.Native.Nat.{◌+◌}
use Rattle.table.specs.declared.Record.{Record}
use Rattle.listing.specs.Text.{leaf_text, line_of}
use Rattle.listing.proofs.leaf_at.Goals as goal

pub returns : goal.returns
returns c = c.leaf_line.ensures ∙ ap (λ (r : Record). line_of (leaf_text (c.args.i + 1) r)) c.record_at-leaf.ensures
