-- The magic, the kind and the body.
use Rattle.std.proofs.Common.{◌<◌, ◌^◌, rules}
use Rattle.codec.specs.Message.{meant}
use Rattle.codec.specs.Bytes.{head}
use Rattle.codec.proofs.Put.{put_both, room_first}
use Rattle.codec.proofs.writer.put_head.Goals as goal

pub returns : goal.returns
unfolding meant head
returns c =
    let magic : c.args.message.magic < 2 ^ 16 = search rules in
    let last = c.put_body in
    let room = c.requires.room in
    let two = put_both _ _ _ _ (room_first _ _ _ _ room) _ _ c.put_u16-next.ensures _ _ (rw c.kind_of.ensures at c.put_u32-next.ensures) in
    record { put = put_both _ _ _ _ room _ _ two _ _ last.ensures.put; magic = magic; fits = last.ensures.fits; frames = last.ensures.frames }
