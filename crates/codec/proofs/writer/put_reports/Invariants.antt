-- `put_reports` puts one report a turn: after so many turns as many reports stand in the buffer.
use Rattle.std.proofs.Common.{◌≡◌, ◌+◌, ◌*◌, length, take}
use Rattle.codec.specs.Message.{FitsReports}
use Rattle.codec.specs.Bytes.{reports_bytes}
use Rattle.codec.specs.Put.{PutAs}
use Rattle.codec.proofs.writer.put_reports.Given as goal

abbrev pub invariant-loop-report : goal.invariant-loop-report
invariant-loop-report l =
    (l.next ≡ l.at + 5 * l.report-index) × (length l.out ≡ length l.initial.out)
    × PutAs l.initial.out l.at (reports_bytes (take l.report-index l.fn.reports.list)) l.next l.out × FitsReports (take l.report-index l.fn.reports.list)
