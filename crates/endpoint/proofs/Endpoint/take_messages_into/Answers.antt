-- `take_messages_into` copies the filled part to the front of the other buffer, and empties the queue.
use mathlib.Core.Path.{sym, ◌∙◌}
use native.Mathlib.Omega.{arith}
use lib.Seq.{length-take-le, take-length}
use Rattle.endpoint.proofs.Laws.Taking.{into_short, into_done, into_fits}
use Rattle.endpoint.proofs.Endpoint.take_messages_into.Goals as goal

pub returns-then-is_short : goal.returns-then-is_short
returns-then-is_short c =
    let a = c.args in
    into_short a.self a.out.now a.into.now (rw c.min-room.ensures at (sym c.is_short.ensures ∙ c.if-is_short.true))

pub returns : goal.returns
returns c =
    let a = c.args in
    into_done a.self a.out.now a.into.now (rw c.min-room.ensures at (sym c.is_short.ensures ∙ c.if-is_short.false)) c.filled-count.result
    (rw c.min-room.ensures at c.filled-count.ensures) _
    (rw (c.copy_from_slice.ensures.after, take-length, length-take-le c.filled-count.result a.out.now (omega (arith, into_fits a.self a.out.now a.into.now c.filled-count.result (rw c.min-room.ensures at c.filled-count.ensures)))))
