-- `retain` passes them once, and writes those that stay from the front.
use Rattle.std.proofs.Common.{rules, ◌≡◌, ◌<◌, length, length-set, length-take, sym, ◌∙◌, arith}
use Rattle.base.proofs.Arrays.{unmap}
use Rattle.base.proofs.InPlace.{keeping_start, keeping_took, keeping_left, keeping_end}
use Rattle.fixed_vec.specs.FixedVec.{held}
use Rattle.fixed_vec.proofs.FixedVec.retain.Goals.{then-passes, else-passes}
use Rattle.fixed_vec.proofs.FixedVec.retain.Goals as goal

pub loop-k-init : goal.loop-k-init
unfolding held
loop-k-init g c =
    let long : length c.args.self.now.list ≡ g.row.N = search (unmap, rules) in
    record {
      reached = omega arith;
      most = c.len-count.ensures.fits;
      counted = c.len-count.ensures.value;
      long = long;
      stays = keeping_start _ _ _;
    }

pub loop-k-preserved : goal.loop-k-preserved
unfolding held
loop-k-preserved g c =
    let l = c.loop-k in
    let i = l.invariant in
    let here : l.k < length (held c.args.self.now) = omega (arith, i.counted) in
    let fits : l.at < length l.self.list = omega (arith, i.long, i.most) in
    let told = sym c.passes.ensures in
    elim c.if-passes.branch [
      | then-passes w ↦
          rw (w.self-is, w.at-is) (record {
            reached = omega (arith, i.reached);
            most = i.most;
            counted = i.counted;
            long = length-set _ _ _ ∙ i.long;
            stays = keeping_took _ _ _ l.self.list l.at l.k i.stays c.index-self-k.result here i.reached fits (told ∙ w.if-passes.true);
          })
      | else-passes w ↦
          rw (w.self-is, w.at-is) (record {
            reached = omega (arith, i.reached);
            most = i.most;
            counted = i.counted;
            long = i.long;
            stays = keeping_left _ _ _ l.self.list l.at l.k i.stays c.index-self-k.result here (told ∙ w.if-passes.false);
          })
    ]

pub returns-clause-value : goal.returns-clause-value
unfolding held
returns-clause-value g c = keeping_end _ _ _ c.loop-k.self.list c.loop-k.at c.loop-k.k c.loop-k.invariant.stays (omega (arith, c.loop-k.invariant.counted))

pub returns-clause-fits : goal.returns-clause-fits
unfolding held
returns-clause-fits g c =
    let t = length-take c.loop-k.at c.loop-k.self.list in
    let i = c.loop-k.invariant in
    let l = c.len-count.ensures in
    omega (arith, i.long)
