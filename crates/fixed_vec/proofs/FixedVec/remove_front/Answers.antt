-- What is held is moved to the front, and the count is less by as many.
use Rattle.fixed_vec.specs.FixedVec.{held}
use Rattle.fixed_vec.proofs.Laws.{front_gone}
use Rattle.fixed_vec.proofs.FixedVec.remove_front.Goals as goal

pub returns : goal.returns
unfolding held
returns g c = rw c.copy_within.ensures.after (front_gone _ _ c.args.n c.len-count.result c.min-gone.result c.len-count.ensures.value c.min-gone.ensures)
