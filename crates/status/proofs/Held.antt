-- What a store of statuses holds is no longer than its array.
use Prim.Native.Nat.{◌≤◌}
use lib.ListN.{length}
use Rattle.base.proofs.Arrays.{view_le}
use Rattle.status.specs.declared.list.Statuses.{Statuses}
use Rattle.status.specs.Statuses.{held_statuses}

pub held_le : (s : Statuses) → length (held_statuses s) ≤ length s.list
unfolding held_statuses
held_le s = view_le s.count s.list
