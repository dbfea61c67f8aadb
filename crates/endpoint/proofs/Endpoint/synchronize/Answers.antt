-- `synchronize` passes on the request's refusal, or begins.
use mathlib.Core.Path.{ap}
use Rattle.endpoint_rules.specs.Seen.{is_initializing}
use Rattle.endpoint.proofs.Laws.Lengths.{entries_long, no_event_fits}
use Rattle.endpoint.proofs.Laws.Handshake.{good_clocks, synchronize_full, synchronize_done}
use Rattle.endpoint.proofs.Endpoint.synchronize.Goals as goal

pub returns : goal.returns
returns c =
    let a = c.args in
    synchronize_done a.self a.out.now a.now a.epoch a.nonce (good_clocks a.now a.epoch _ _ c.is_bad.ensures c.if-is_bad.false c.is_bad-else-is_bad.ensures c.if-is_bad-2.false) (ap is_initializing c.in-Initializing.is)
    _ _ (rw c.in_default-request.is at c.request.ensures) (no_event_fits a.self (entries_long a.self _ c.well_formed.0)) c.issue.new.self c.issue.ensures c.started-self.result c.started-self.ensures

pub returns-in-Err : goal.returns-in-Err
returns-in-Err c =
    let a = c.args in
    synchronize_full a.self a.out.now a.now a.epoch a.nonce (good_clocks a.now a.epoch _ _ c.is_bad.ensures c.if-is_bad.false c.is_bad-else-is_bad.ensures c.if-is_bad-2.false) (ap is_initializing c.in-Initializing.is)
    _ _ _ (rw c.in-Err.is at c.request.ensures)
