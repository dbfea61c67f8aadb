-- One report a turn.
use Rattle.std.proofs.Common.{◌≡◌, ◌+◌, length, take, length-take, arith, rules}
use Rattle.base.proofs.Arrays.{view_at}
use Rattle.codec.proofs.Lengths.{report-length, reports-length}
use Rattle.codec.proofs.Reports.{reports_turn}
use Rattle.codec.proofs.writer.put_reports.Goals as goal

pub put_report-next-requires : goal.put_report-next-requires
put_report-next-requires c =
    let list = c.args.reports.list in
    let rs = take c.args.reports.count list in
    omega (arith, report-length, reports-length rs, length-take c.args.reports.count list)

pub loop-report-preserved : goal.loop-report-preserved
loop-report-preserved c =
    let a = c.args in
    let l = c.loop-report in
    let p = c.put_report-next in
    let long : length a.reports.list ≡ 4 = search rules in
    let i = l.report-index in
    let list = a.reports.list in
    let t =
    reports_turn list i _ a.out.now a.at l.next l.out p.result p.new.out (omega arith) l.invariant.2 l.invariant.3
    (rw (view_at a.reports.count list i _ (omega (arith, length-take a.reports.count list))) at p.ensures) (omega (arith, reports-length (take a.reports.count list), length-take a.reports.count list)) in
    (omega (arith, t.0.next, reports-length (take (i + 1) list), length-take (i + 1) list), omega arith, t.0, t.1)
