-- `pack_all` knows that all inputs fit, and lays one frame after the other.
use Rattle.std.proofs.Common.{rules, ◌≡◌, ◌*◌, min, refl, [], sym, ◌∙◌, length, arith}
use lib.ListN.{drop_of_length-le}
use Rattle.base.proofs.Lay.{laid_none}
use Rattle.packing.specs.Packing.{pack}
use Rattle.packing.proofs.Laid.{laid_not, laid_all}
use Rattle.pending.specs.Pending.{waiting, payload}
use Rattle.pending.proofs.PackAll.{left, turned}
use Rattle.pending.proofs.Pending.pack_all.Goals as goal

pub returns-then-out-at : goal.returns-then-out-at
returns-then-out-at c =
    let wide : length c.args.reference.now.bytes ≡ 64 = search rules in
    let n = c.payload_size-size.ensures.packed c.args.reference.now wide in
    laid_not c.args.out.now c.args.at (payload c.args.width c.args.reference.now (waiting c.args.self.now)) (omega arith)

pub loop-x-init : goal.loop-x-init
unfolding payload
loop-x-init c =
    let wide : length c.args.reference.now.bytes ≡ 64 = search rules in
    let n = c.payload_size-size.ensures.packed c.args.reference.now wide in
    record { room = omega arith; laid = refl }

pub loop-x-preserved : goal.loop-x-preserved
unfolding payload waiting
loop-x-preserved c =
    let a = c.args in
    let l = c.loop-x in
    let r = a.reference.now.bytes in
    let size = c.payload_size-size.ensures in
    let all = waiting a.self.now in
    let wide : length r ≡ 64 = search rules in
    let whole : length (left r a.width 0 all) ≡ length all * min a.width 64 = size.packed a.reference.now wide ∙ size.counted in
    let here = c.as_slice-x-items.ensures.value in
    let t = turned r a.width all l.x-index _ (rw here at c.loop-x-test.true) wide whole l.out l.place c.pack_frame.new.out c.pack_frame.result l.invariant.room (rw here at c.pack_frame.ensures) in
    record {
      room = omega (arith, t.room, t.long, c.frame_width-w.ensures);
      laid = rw c.frame_width-w.ensures (t.laid ∙ l.invariant.laid);
    }

pub returns : goal.returns
unfolding payload pack waiting
returns c =
    let a = c.args in
    let l = c.loop-x in
    let r = a.reference.now.bytes in
    let wide : length r ≡ 64 = search rules in
    let n = c.payload_size-size.ensures.packed a.reference.now wide in
    let here = c.as_slice-x-items.ensures.value in
    let none : left r a.width l.x-index (waiting a.self.now) ≡ [] = rw (drop_of_length-le (waiting a.self.now) {i = l.x-index} (rw here at c.loop-x-test.false)) in
    laid_all a.out.now a.at (payload a.width a.reference.now (waiting a.self.now)) l.out (omega arith)
    (sym (laid_none l.out l.place) ∙ rw none at l.invariant.laid)
