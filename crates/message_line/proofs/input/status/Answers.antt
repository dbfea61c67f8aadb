-- The frame under the name that the flag determines.
use Rattle.std.proofs.Common.{arith}
use Rattle.text.specs.Ascii.{ascii}
use Rattle.text.proofs.PieceLaws.{wider}
use Rattle.message_line.specs.Line.{report_text, field}
use Rattle.message_line.proofs.input.status.Goals as goal

pub returns-then-report : goal.returns-then-report
unfolding report_text field ascii
returns-then-report c = rw c.if-report.true c.signed.ensures

pub returns-else-report : goal.returns-else-report
unfolding report_text field ascii
returns-else-report c = rw c.if-report.false (wider _ _ _ _ c.signed-else-report.ensures (omega arith))
