-- The advantage's bits and then the ping.
use Rattle.codec.specs.Bytes.{advantage_bytes}
use Rattle.codec.proofs.Put.{put_both}
use Rattle.codec.proofs.writer.put_quality.Goals as goal

pub returns : goal.returns
unfolding advantage_bytes
returns c = put_both _ _ _ _ c.requires _ _ (rw c.advantage_bits_of.ensures at c.put_u16-next.ensures) _ _ c.put_wide.ensures
