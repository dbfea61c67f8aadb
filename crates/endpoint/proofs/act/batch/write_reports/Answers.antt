-- `write_reports` writes twice, the second time where the first message ends.
use Rattle.endpoint.specs.Inside.Batch.{due_reports}
use Rattle.endpoint.proofs.Laws.Act.Batch.{written_then}
use Rattle.endpoint.proofs.act.batch.write_reports.Goals as goal

pub returns : goal.returns
unfolding due_reports
returns c =
    let a = c.args in
    let first = c.body_only_if-reported in
    let second = c.body_only_if in
    written_then a.out.now a.at _ _ first.result second.result _ _ (rw c.clamped-frame_advantage.ensures at first.ensures) second.ensures
