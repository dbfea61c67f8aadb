-- Four fields one after another.
use Rattle.codec.specs.Bytes.{input_bytes}
use Rattle.codec.proofs.Put.{put_both, room_first}
use Rattle.codec.proofs.writer.put_input.Goals as goal

pub returns : goal.returns
unfolding input_bytes
returns c =
    let three = room_first _ _ _ _ c.requires in
    let two = room_first _ _ _ _ three in
    put_both _ _ _ _ c.requires _ _
    (put_both _ _ _ _ three _ _ (put_both _ _ _ _ two _ _ c.put_flag-next.ensures _ _ c.put_frame-next.ensures) _ _ c.put_frame-next-2.ensures) _ _ c.put_u64.ensures
