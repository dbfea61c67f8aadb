-- The low half and then the high half.
use Rattle.codec.specs.Bytes.{wide_bytes}
use Rattle.codec.proofs.Put.{put_both}
use Rattle.codec.proofs.writer.put_wide.Goals as goal

pub returns : goal.returns
unfolding wide_bytes
returns c = put_both _ _ _ _ c.requires _ _ c.put_u64-next.ensures _ _ c.put_u64.ensures
