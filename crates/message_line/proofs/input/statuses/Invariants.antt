-- `statuses` puts one report after another. The invariant: those before the index are put.
use Rattle.std.proofs.Common.{◌*◌, take}
use Rattle.text.specs.Draft.{Adds}
use Rattle.message_line.specs.Line.{reports_text}
use Rattle.message_line.proofs.input.statuses.Given as goal

abbrev pub invariant-loop-report : goal.invariant-loop-report
invariant-loop-report l = Adds l.initial.next (reports_text (take l.report-index l.reports)) (25 * l.report-index) l.next
