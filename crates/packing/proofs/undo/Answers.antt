-- `undo` lays the undone bytes over zeros.
use Rattle.std.proofs.Common.{rules, ◌≡◌, ◌<◌, length, arith, refl}
use lib.ListN.{length-take}
use lib.Seq.{get_or-take}
use Rattle.base.proofs.Arrays.{lay_turn}
use Rattle.packing.specs.Packing.{xors}
use Rattle.packing.specs.Pad.{zeros}
use Rattle.packing.proofs.Pads.{zeros-length, laid_over}
use Rattle.packing.proofs.Laws.{xors-length, xors_at}
use Rattle.packing.proofs.undo.Goals as goal

pub loop-i-init : goal.loop-i-init
unfolding zeros
loop-i-init c = refl

pub loop-i-preserved : goal.loop-i-preserved
loop-i-preserved c =
    let l = c.loop-i in
    let a = c.args in
    let m = c.min-n in
    let t = length-take m.result a.part.now in
    let x = xors-length a.part.now a.reference.now in
    let r : length a.reference.now ≡ 64 = search rules in
    let in_part : l.i < length a.part.now = omega (arith, m.ensures) in
    let in_reference : l.i < length a.reference.now = omega (arith, m.ensures) in
    rw (
      get_or-take m.result a.part.now l.i 0 (omega (arith, m.ensures)),
      ← xors_at a.part.now a.reference.now l.i in_part in_reference,
      l.invariant,
      lay_turn (xors a.part.now a.reference.now) zeros l.i 0 (omega arith) (omega (arith, zeros-length)),
    )

pub returns : goal.returns
returns c =
    let x = xors-length c.args.part.now c.args.reference.now in
    let t = length-take c.min-n.result c.args.part.now in
    let r : length c.args.reference.now ≡ 64 = search rules in
    laid_over _ _ c.loop-i.i (omega (arith, c.min-n.ensures)) c.loop-i.invariant
