-- `new` makes four defaults and counts as many of them as there are players.
use Rattle.std.proofs.Common.{min, arith}
use Rattle.base.proofs.Orders.{take-replicate}
use Rattle.status.specs.Status.{default_status}
use Rattle.status.specs.Statuses.{held_statuses, default_statuses}
use Rattle.status.proofs.list.Statuses.new.Goals as goal

pub returns : goal.returns
unfolding held_statuses default_statuses
returns c = (rw (c.default.ensures, c.min.ensures) (take-replicate (min c.args.players 4) 4 default_status (omega arith)), c.min.ensures)
