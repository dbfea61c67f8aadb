-- The host's refusal is the session's; else its messages and its events are taken in.
use Rattle.std.proofs.Common.{ap}
use Rattle.std.proofs.lemmas.Result.{err_from_is_err_and}
use Rattle.answer.specs.Number.{number_of}
use Rattle.spectator.proofs.Laws.Polling.{act_refuses, act_done_polls}
use Rattle.spectator.proofs.SpectatorSession.poll.Goals as goal

pub returns-in_err-acted : goal.returns-in_err-acted
returns-in_err-acted c =
    let a = c.args in
    let o = c.take_events-old in
    let t = c.lent in
    let e = c.act-acted in
    let p = err_from_is_err_and c.from_residual.result c.from_residual.ensures.1 in
    rw (p.1, p.2) (act_refuses a.self.now a.now a.epoch a.nonce a.out.now _ o.result o.ensures t.result t.ensures e.result e.ensures c.in_err-acted.field-0.0 c.in_err-acted.was)

pub returns : goal.returns
returns c =
    let a = c.args in
    let o = c.take_events-old in
    let t = c.lent in
    let e = c.act-acted in
    act_done_polls a.self.now a.now a.epoch a.nonce a.out.now _ o.result o.ensures t.result t.ensures e.result e.ensures (ap number_of c.in_ok-acted.was) e.auto.out _ c.take_in.ensures
