-- The count and then the reports.
use Rattle.std.proofs.Common.{◌≡◌, length, take, length-take, arith, rules}
use Rattle.codec.specs.Bytes.{statuses_bytes}
use Rattle.codec.proofs.Put.{put_both}
use Rattle.codec.proofs.writer.put_statuses.Goals as goal

pub returns : goal.returns
unfolding statuses_bytes
returns c =
    let r = c.args.reports in
    let long : length r.list ≡ 4 = search rules in
    let e : length (take r.count r.list) ≡ r.count = omega (arith, length-take r.count r.list) in
    record {
      put = put_both _ _ _ _ c.requires.room _ _ (rw (← e) at c.put_u64-next.ensures) _ _ c.put_reports.ensures.put;
      frames = c.put_reports.ensures.frames;
      count = e;
    }
