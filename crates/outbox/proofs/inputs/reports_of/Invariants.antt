-- After so many turns as many of the array are the reports of the statuses.
use mathlib.Core.List.{map}
use Rattle.std.proofs.Common.{◌≡◌, ◌≤◌, length, take}
use Rattle.status.specs.Statuses.{held_statuses}
use Rattle.outbox.specs.Outbox.{report_of}
use Rattle.outbox.proofs.inputs.reports_of.Given as goal

abbrev pub invariant-loop-i : goal.invariant-loop-i
invariant-loop-i l =
    (length (held_statuses l.statuses) ≤ 4) × (length l.reports.list ≡ 4)
    × (take l.i l.reports.list ≡ take l.i (map report_of (held_statuses l.statuses)))
