-- The contracts of the functions that other crates call, as the check reads them: two outcomes that one allows coincide, and those that ask nothing say so.
use mathlib.Core.Path.{refl, sym, ◌∙◌}
use Rattle.basics.specs.Outcome.{OneOutcome}
use Rattle.flaws.proofs.size_flaw.Kinds as size-kinds
use Rattle.flaws.proofs.size_flaw.Reads as size-stated
use Rattle.flaws.proofs.top_flaw.Kinds as top-kinds
use Rattle.flaws.proofs.top_flaw.Reads as top-stated
use Rattle.flaws.proofs.header_flaw.Kinds as header-kinds
use Rattle.flaws.proofs.header_flaw.Reads as header-stated
use Rattle.flaws.proofs.box_span.Kinds as span-kinds
use Rattle.flaws.proofs.box_span.Reads as span-stated
use Rattle.flaws.proofs.opening_kind_flaw.Kinds as opening-kinds
use Rattle.flaws.proofs.opening_kind_flaw.Reads as opening-stated
use Rattle.flaws.proofs.gap_kind_flaw.Kinds as gap_kinds
use Rattle.flaws.proofs.gap_kind_flaw.Reads as gap-stated
use Rattle.flaws.proofs.leaf_kind_flaw.Kinds as leaf-kinds
use Rattle.flaws.proofs.leaf_kind_flaw.Reads as leaf-stated
use Rattle.flaws.proofs.inner_kind_flaw.Kinds as inner-kinds
use Rattle.flaws.proofs.inner_kind_flaw.Reads as inner-stated
use Rattle.flaws.proofs.traf_flaw.Kinds as traf-kinds
use Rattle.flaws.proofs.traf_flaw.Reads as traf-stated

-- of one container's end and header: one number
pub size_flaw_once : OneOutcome 0 size-kinds.ps size-kinds.r size-stated.Pre size-stated.Post
size_flaw_once = record { asks_nothing = λ κs given. tt; outcomes_coincide = λ κs given r r' left left' p q. (p ∙ sym q, refl) }

-- of one header and other number: one number
pub top_flaw_once : OneOutcome 0 top-kinds.ps top-kinds.r top-stated.Pre top-stated.Post
top_flaw_once = record { asks_nothing = λ κs given. tt; outcomes_coincide = λ κs given r r' left left' p q. (p ∙ sym q, refl) }

-- of one container's end, header and other number: one number
pub header_flaw_once : OneOutcome 0 header-kinds.ps header-kinds.r header-stated.Pre header-stated.Post
header_flaw_once = record { asks_nothing = λ κs given. tt; outcomes_coincide = λ κs given r r' left left' p q. (p ∙ sym q, refl) }

-- of one container's end, header and other number: one box, or one refusal
pub box_span_once : OneOutcome 0 span-kinds.ps span-kinds.r span-stated.Pre span-stated.Post
box_span_once = record { asks_nothing = λ κs given. tt; outcomes_coincide = λ κs given r r' left left' p q. (p ∙ sym q, refl) }

-- of one word on the brands and type: one number
pub opening_kind_flaw_once : OneOutcome 0 opening-kinds.ps opening-kinds.r opening-stated.Pre opening-stated.Post
opening_kind_flaw_once = record { asks_nothing = λ κs given. tt; outcomes_coincide = λ κs given r r' left left' p q. (p ∙ sym q, refl) }

-- of one type: one number
pub gap_kind_flaw_once : OneOutcome 0 gap_kinds.ps gap_kinds.r gap-stated.Pre gap-stated.Post
gap_kind_flaw_once = record { asks_nothing = λ κs given. tt; outcomes_coincide = λ κs given r r' left left' p q. (p ∙ sym q, refl) }

-- of one word on the `moof` and type: one number
pub leaf_kind_flaw_once : OneOutcome 0 leaf-kinds.ps leaf-kinds.r leaf-stated.Pre leaf-stated.Post
leaf_kind_flaw_once = record { asks_nothing = λ κs given. tt; outcomes_coincide = λ κs given r r' left left' p q. (p ∙ sym q, refl) }

-- of one count of open indexes and type: one number
pub inner_kind_flaw_once : OneOutcome 0 inner-kinds.ps inner-kinds.r inner-stated.Pre inner-stated.Post
inner_kind_flaw_once = record { asks_nothing = λ κs given. tt; outcomes_coincide = λ κs given r r' left left' p q. (p ∙ sym q, refl) }

-- of how far a `traf` has come and a header: one number
pub traf_flaw_once : OneOutcome 0 traf-kinds.ps traf-kinds.r traf-stated.Pre traf-stated.Post
traf_flaw_once = record { asks_nothing = λ κs given. tt; outcomes_coincide = λ κs given r r' left left' p q. (p ∙ sym q, refl) }
