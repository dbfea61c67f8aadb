-- The flag and then the frame.
use Rattle.std.proofs.Common.{rules}
use Rattle.codec.specs.Bytes.{report_bytes}
use Rattle.codec.proofs.Put.{put_both}
use Rattle.codec.proofs.writer.put_report.Goals as goal

pub returns : goal.returns
unfolding report_bytes
returns c = record { put = put_both _ _ _ _ c.requires _ _ c.put_flag-next.ensures _ _ c.put_frame.ensures; frame = search rules }
