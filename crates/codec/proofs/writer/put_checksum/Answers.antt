-- The checksum and then the frame.
use Rattle.codec.proofs.Put.{put_both}
use Rattle.codec.proofs.writer.put_checksum.Goals as goal

pub returns : goal.returns
returns c = put_both _ _ _ _ c.requires _ _ c.put_wide-next.ensures _ _ c.put_frame.ensures
