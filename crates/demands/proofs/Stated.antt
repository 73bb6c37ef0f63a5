-- What the state of an accepted reading has: the number of bytes, by what a reading by structure consumes; and what the tree's top index
-- states, by the law of the boxes up to it.
use Prim.Native.Nat.{ℕ, ◌≤◌}
use mathlib.Core.Path.{◌≡◌, ap, sym, ◌∙◌}
use mathlib.Core.List.{List, []}
use mathlib.Core.Option.{Option, some, some-injective}
use native.Mathlib.Omega.{arith}
use lib.ListN.{length, drop_of_length-le}
use lib.Seq.{take_all}
use Rattle.basics.proofs.Options.{then_inv, pick_some}
use Rattle.segment.specs.Constants.{limit}
use Rattle.segment.specs.Tree.{Opened, top_index}
use Rattle.machine.specs.Faults.{refusal}
use Rattle.machine.specs.Run.{Res, okay, after}
use Rattle.machine.proofs.Limits.{beyond_none}
use Rattle.machine.proofs.Runs.{consumed_run}
use Rattle.state.specs.declared.Top.{Top}
use Rattle.state.specs.declared.IndexRead.{IndexRead}
use Rattle.state.specs.Flow.{Flow, Left, left, with_now}
use Rattle.state.specs.Stages.{top_of, top_level, step_stage}
use Rattle.state.specs.Step.{stage0, flow0}
use Rattle.descent.specs.Opening.{opening_d}
use Rattle.descent.specs.Whole.{gap_d, under_d, material_d, segment_d, read_d}
use Rattle.law_d.proofs.SegmentRun.{segment_run}
use Rattle.demands.specs.Told.{upon, index_from}
use Rattle.demands.specs.Demands.{stated}
use Rattle.demands.proofs.Upons.{upon_after, upon_some}
use Rattle.demands.proofs.OpeningTree.{at_top, opening_tree}

-- what a reading gives at its end
abbrev given : Top → Flow → ℕ → List ℕ → Option Top
given top f n bs = some top

-- what follows the top index gives what that index states
material_top : (x : IndexRead) (f : Flow) (n : ℕ) (bs : List ℕ) (top : Top) → upon (material_d x f n bs) given ≡ some top → top ≡ top_of x
unfolding material_d upon
material_top x f n bs top e =
    let gap : Res (Unit {0}) Flow Left = gap_d x.offset (with_now f x.time) n bs in
    let last : Unit {0} → Flow → ℕ → List ℕ → Res Top Flow Left = λ v h k ds. okay (top_of x) h k ds in
    let (u, g, m, cs, there, e1) = upon_some gap _ top (sym (upon_after gap (λ u g m cs. after (under_d 4 (top_of x) 1 (top_level x n) g m cs) last) given) ∙ e) in
    let under : Res (Unit {0}) Flow Left = under_d 4 (top_of x) 1 (top_level x n) g m cs in
    let (v, h, k, ds, there', e2) = upon_some under _ top (sym (upon_after under last given) ∙ e1) in
    sym (some-injective _ _ e2)

-- a whole reading gives what the tree's top index states
segment_top : (brand : ℕ) (f : Flow) (bs : List ℕ) (top : Top) → length bs ≤ limit → upon (segment_d brand f 0 bs) given ≡ some top →
    (o : Opened) × (top_index brand bs ≡ some o) × (top ≡ stated o.index)
unfolding segment_d
segment_top brand f bs top small e =
    let k : IndexRead → Flow → ℕ → List ℕ → Option Top = λ x g m cs. upon (material_d x g m cs) given in
    let found : upon (opening_d brand f 0 bs) k ≡ some top = sym (upon_after (opening_d brand f 0 bs) material_d given) ∙ e in
    let (o, opened, e1) = then_inv (top_index brand bs) (at_top f k (length bs)) top (sym (opening_tree brand f k bs small) ∙ found) in
    let (fine, e2) = pick_some _ _ top e1 in
    (o, opened, material_top (index_from o.index) _ _ _ top e2)

-- An accepted reading of a list within the limit: so many bytes were read, and the top index is the tree's.
pub read_stated : (brand : ℕ) (bytes work table : List ℕ) (top : Top) (f : Flow) (n : ℕ) → length bytes ≤ limit → read_d brand bytes work table ≡ okay top f n [] →
    (n ≡ length bytes) × (o : Opened) × (top_index brand bytes ≡ some o) × (top ≡ stated o.index)
unfolding upon
read_stated brand bytes work table top f n small e =
    let all : read_d brand bytes work table ≡ segment_d brand (flow0 work table) 0 bytes =
    rw (drop_of_length-le bytes {i = limit} small, take_all limit bytes small) (beyond_none (refusal 3 limit) (segment_d brand (flow0 work table) 0 bytes)) in
    let read : segment_d brand (flow0 work table) 0 bytes ≡ okay top f n [] = sym all ∙ e in
    let counted = consumed_run left step_stage (stage0 brand) (flow0 work table) 0 bytes top f n [] (sym (segment_run brand (flow0 work table) 0 bytes) ∙ read) in
    let (o, opened, says) = segment_top brand (flow0 work table) bytes top small (ap (λ (r : Res Top Flow Left). upon r given) read) in
    (omega arith, o, opened, says)
