-- A mark resolved: "its page number" with what a lookup of "its seconds" gives.
use Rattle.std.specs.Prelude.{ℕ, List}
use Rattle.moment.specs.declared.Request.TheVariants as request
use Rattle.state.specs.declared.State.{State}
use Rattle.covering.specs.Lookup.{lookup_of}
use Rattle.marks.specs.declared.Mark.{Mark}
use Rattle.marks.specs.declared.Resolved.{Resolved}

abbrev pub resolve_of : State → List ℕ → Mark → Resolved
resolve_of s table m = record { page = m.page; answer = lookup_of s table (request.Seconds m.seconds) }
