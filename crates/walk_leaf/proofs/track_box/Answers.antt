-- `walk_leaf::track_box` meets its contract, by those of `tfhd_box`, `tfdt_box` and `skip_to`, and by the laws `body_eight`, `other_passed` and `other_cut`.
use mathlib.Core.Path.{sym, ◌∙◌}
use mathlib.Core.Logic.{inl, inr}
use Prim.Native.Nat.{◌+◌}
use Rattle.fields.proofs.Answers.{handed}
use Rattle.reader.proofs.Skips.{skip_here, skip_gone}
use Rattle.walk_leaf.proofs.Tracks.{body_eight, other_passed, other_cut}
use Rattle.walk_leaf.proofs.track_box.Goals as goal

pub tfhd_box-requires : goal.tfhd_box-requires
tfhd_box-requires c =
    let a = c.args in
    let (head, none) = c.requires in
    (head, c.if-h-eq-TFHD.true, body_eight a.so.track a.h (inl c.if-h-eq-TFHD.true) head.holds none)

pub tfdt_box-requires : goal.tfdt_box-requires
tfdt_box-requires c =
    let a = c.args in
    let (head, none) = c.requires in
    (head, c.if-h-eq-TFDT.true, body_eight a.so.track a.h (inr c.if-h-eq-TFDT.true) head.holds none)

pub returns-then-h-eq-TFDT : goal.returns-then-h-eq-TFDT
returns-then-h-eq-TFDT c = c.tfdt_box.ensures c.args.id

pub returns-in_err-skip_to : goal.returns-in_err-skip_to
returns-in_err-skip_to c =
    let a = c.args in
    let gone = skip_gone a.bytes.now (a.at + a.h.size) (sym c.skip_to.ensures ∙ c.in_err-skip_to.was) in
    rw (handed c.from_residual.ensures.1, gone.0)
    (other_cut a.id a.so a.bytes.now a.at a.h c.requires.0 c.if-h-eq-TFHD.false c.if-h-eq-TFDT.false gone.1)

pub returns : goal.returns
returns c =
    let a = c.args in
    let there = skip_here a.bytes.now (a.at + a.h.size) (sym c.skip_to.ensures ∙ c.in_ok-skip_to.was) in
    other_passed a.id a.so a.bytes.now a.at a.h c.requires.0 c.if-h-eq-TFHD.false c.if-h-eq-TFDT.false there
