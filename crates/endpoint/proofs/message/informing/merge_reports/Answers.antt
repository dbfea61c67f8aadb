-- `merge_reports` merges one report after another, to the last.
use Rattle.std.proofs.Common.{◌≡◌, sym, ◌∙◌, ap, length, arith}
use Rattle.codec.specs.Message.{report_list}
use Rattle.status.specs.Statuses.{held_statuses}
use Rattle.endpoint.proofs.Laws.Message.Informing.{reports_held, reports_turn, reports_end}
use Rattle.endpoint.proofs.message.informing.merge_reports.Goals as goal

pub loop-i-preserved : goal.loop-i-preserved
loop-i-preserved c =
    let a = c.args in
    let l = c.loop-i in
    let same : c.as_slice-report-items.result.now ≡ report_list a.reports = c.as_slice-report-items.ensures.value ∙ reports_held a.reports in (
      c.merge_report-next.ensures.0 ∙ rw (same, l.invariant.0) (sym (reports_turn (held_statuses a.statuses) (report_list a.reports) l.i _ (rw same at c.loop-i-test.true))),
      c.merge_report-next.ensures.1 ∙ l.invariant.1,
    )

pub returns : goal.returns
returns c =
    let a = c.args in
    let l = c.loop-i in
    let many : length c.as_slice-report-items.result.now ≡ length (report_list a.reports) = ap length (c.as_slice-report-items.ensures.value ∙ reports_held a.reports) in
    (l.invariant.0 ∙ reports_end (held_statuses a.statuses) (report_list a.reports) l.i (omega (arith, many, c.loop-i-test.false, l.auto.i-end)), l.invariant.1)
