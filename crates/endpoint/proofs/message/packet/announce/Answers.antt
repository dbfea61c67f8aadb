-- `announce` leaves the events alone where there is nothing to announce.
use Rattle.std.proofs.Common.{◌≡◌, arith}
use Rattle.std.proofs.lemmas.Bool.{not-true}
use Rattle.endpoint.proofs.Laws.Message.Packet.{nothing_announced}
use Rattle.endpoint.proofs.message.packet.announce.Goals as goal

pub returns-then-frames-eq0 : goal.returns-then-frames-eq0
returns-then-frames-eq0 c =
    let a = c.args in
    nothing_announced a.events.now c.requires a.notices.resumed a.notices.disconnected (not-true _ c.if-not-notices.true) (not-true _ c.if-not-notices-2.true) a.frames.first a.frames.count a.size a.frames.width
    (omega arith) (omega arith) a.handles.now a.reference.now a.payload.now
