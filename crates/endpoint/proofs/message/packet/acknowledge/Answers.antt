-- `acknowledge` leaves the pending inputs alone where none is acknowledged.
use Rattle.std.proofs.Common.{◌≡◌, sym, ◌∙◌}
use Rattle.pending.specs.Pending.{waiting}
use Rattle.pending.proofs.Laws.{dropped_same, last_same}
use Rattle.endpoint.proofs.message.packet.acknowledge.Goals as goal

pub returns : goal.returns
returns c =
    let a = c.args in
    let none = sym c.drops.ensures ∙ c.if-drops.false in
    record { last = sym (last_same a.ack_frame a.acked (waiting a.pending.now) none); view = sym (dropped_same a.ack_frame (waiting a.pending.now) none) }
