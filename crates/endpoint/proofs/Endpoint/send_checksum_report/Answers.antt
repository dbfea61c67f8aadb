-- `send_checksum_report` passes on the queue's refusal, or notes when it sent.
use mathlib.Core.Path.{sym, ◌∙◌}
use Rattle.endpoint.proofs.Laws.Lengths.{entries_long, no_event_fits}
use Rattle.endpoint.proofs.Laws.Reports.{send_checksum_full, send_checksum_done}
use Rattle.endpoint.proofs.Endpoint.send_checksum_report.Goals as goal

pub returns-in-Ok : goal.returns-in-Ok
returns-in-Ok c =
    let a = c.args in
    send_checksum_done a.self a.out.now a.frame a.checksum a.now (sym c.is_bad.ensures ∙ c.if-is_bad.false) _ _ (rw c.in-Ok.is at c.body_only.ensures) c.sent-self.result
    (no_event_fits a.self (entries_long a.self _ c.well_formed.0)) c.sent-self.ensures

pub returns-in-Err : goal.returns-in-Err
returns-in-Err c =
    let a = c.args in
    send_checksum_full a.self a.out.now a.frame a.checksum a.now (sym c.is_bad.ensures ∙ c.if-is_bad.false) _ _ (rw c.in-Err.is at c.body_only.ensures)
