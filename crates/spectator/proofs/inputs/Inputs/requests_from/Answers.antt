-- One more frame, with its count.
use Rattle.std.proofs.Common.{◌≡◌, [], ◌∷◌, ◌++◌, ◌<◌, length, arith}
use borrow.Author.Tests.{lt-ltb}
use Rattle.fixed_vec.specs.FixedVec.{held}
use Rattle.status.specs.Statuses.{held_statuses}
use Rattle.spectator.specs.Stores.{inputs_of}
use Rattle.spectator.proofs.Laws.Requests.{frames_many, request_turn, count_turn}
use Rattle.spectator.proofs.inputs.Inputs.requests_from.Goals as goal

pub loop-k-preserved : goal.loop-k-preserved
loop-k-preserved c =
    let a = c.args in
    let l = c.loop-k in
    let r = c.request_at in
    let i = inputs_of a.self.now in
    let s = held_statuses a.statuses.now in
    let f = held l.requests.frames in
    let room : length f < 63 = omega (arith, frames_many a.slots a.players a.frame l.k i s f r.result l.invariant.0) in
    let more : held c.push.new.self ≡ f ++ r.result ∷ [] = rw (lt-ltb _ _ room) at c.push.ensures.1 in (
      rw more (request_turn a.slots a.players a.frame l.k i s f r.result l.invariant.0 r.ensures.0),
      rw more (count_turn a.slots a.players a.frame l.k i s f r.result l.invariant.1 r.ensures.1),
    )
