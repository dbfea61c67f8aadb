-- A turn merges one more place.
use Rattle.std.proofs.Common.{◌≡◌, sym, ◌∙◌, take}
use Rattle.base.proofs.Arrays.{take_count}
use Rattle.status.specs.Statuses.{held_statuses}
use Rattle.status.proofs.MergeAll.{merge_turn}
use Rattle.status.proofs.list.Statuses.merge.Goals as goal

pub loop-i-preserved : goal.loop-i-preserved
unfolding held_statuses
loop-i-preserved c =
    let l = c.loop-i in
    let m = c.merge_at-next.ensures in
    let o = c.args.other in
    let whole : take c.count.result o.list ≡ held_statuses o = rw c.count.ensures (sym (take_count o.count o.list)) in
    (m.0 ∙ merge_turn (held_statuses c.args.self) (held_statuses o) _ l.i _ _ whole c.loop-i-test.true l.invariant.0, m.1 ∙ l.invariant.1)
