-- `sorted` has the sorted handles' list and count, and all else of the setup.
use Rattle.setup.specs.Setup.{terms_with}
use Rattle.setup.proofs.Setup.sorted.Goals as goal

pub returns : goal.returns
unfolding terms_with
returns c = (rw c.sort.ensures.0, c.sort.ensures.1)
