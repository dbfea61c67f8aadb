-- `datagram` does what the message does that was read of it, or passes on the reader's refusal.
use Rattle.endpoint.proofs.Laws.Lengths.{entries_long}
use Rattle.endpoint.proofs.Laws.Message.Arrival.{datagram_read, datagram_refused}
use Rattle.endpoint.proofs.Endpoint.datagram.Goals as goal

pub handle_message-answer-requires : goal.handle_message-answer-requires
handle_message-answer-requires c = entries_long c.args.self _ c.well_formed.0

pub returns-in-Ok : goal.returns-in-Ok
returns-in-Ok c =
    let a = c.args in
    datagram_read a.self a.from a.datagram.now a.now a.epoch a.nonce a.out.now _ (rw c.in-Ok.is at c.read.ensures) _ c.payload_of-payload.ensures.payload _ _ c.handle_message-answer.ensures

pub returns-in-Err : goal.returns-in-Err
returns-in-Err c =
    let a = c.args in
    datagram_refused a.self a.from a.datagram.now a.now a.epoch a.nonce a.out.now _ (rw c.in-Err.is at c.read.ensures)
