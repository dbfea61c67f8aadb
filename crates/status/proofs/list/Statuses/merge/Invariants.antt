-- The first i are merged, all else is as it was.
use Rattle.std.proofs.Common.{take}
use Rattle.status.specs.Statuses.{held_statuses, HeldAs, merged_all}
use Rattle.status.proofs.list.Statuses.merge.Given as goal

abbrev pub invariant-loop-i : goal.invariant-loop-i
invariant-loop-i l = HeldAs (merged_all (held_statuses l.initial.next) (take l.i (held_statuses l.fn.other))) l.initial.next.count l.next
