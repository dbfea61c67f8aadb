-- What is held is what was held, merged with the first i reports, and as many.
use Rattle.std.proofs.Common.{◌≡◌, take}
use Rattle.status.specs.Statuses.{held_statuses, merged_all}
use Rattle.codec.specs.Message.{report_list}
use Rattle.endpoint.specs.Inside.Informing.{statuses_of}
use Rattle.endpoint.proofs.message.informing.merge_reports.Given as goal

abbrev pub invariant-loop-i : goal.invariant-loop-i
invariant-loop-i l = (held_statuses l.next ≡ merged_all (held_statuses l.initial.next) (take l.i (statuses_of (report_list l.fn.reports)))) × (l.next.count ≡ l.initial.next.count)
