-- Taking the messages is refused, or all events are handled.
use Rattle.std.proofs.Common.{ap}
use Rattle.std.proofs.lemmas.Result.{err_from_is_err_and}
use Rattle.answer.specs.Number.{number_of}
use Rattle.spectator.proofs.Laws.Polling.{take_in_refused, take_in_done}
use Rattle.spectator.proofs.SpectatorSession.take_in.Goals as goal

pub returns-in_err-taken : goal.returns-in_err-taken
returns-in_err-taken c =
    let a = c.args in
    let e = c.take_events-new in
    let t = c.take_messages-taken in
    let p = err_from_is_err_and c.from_residual.result c.from_residual.ensures.1 in
    rw (p.1, p.2) (take_in_refused a.self.now a.old.now a.acted a.out.now e.result e.ensures t.result t.ensures c.in_err-taken.field-0.0 c.in_err-taken.was)

pub returns : goal.returns
returns c =
    let a = c.args in
    let e = c.take_events-new in
    let t = c.take_messages-taken in
    let r = c.settle.ensures in
    take_in_done a.self.now a.old.now a.acted a.out.now e.result e.ensures t.result t.ensures _ c.messages-filled.ensures (ap number_of c.in_ok-taken.was)
    c.settle.new.self c.handle_all.new.self c.handle_all-2.new.self r.0 r.1 r.2 c.handle_all.ensures c.handle_all-2.ensures
