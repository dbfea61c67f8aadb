-- What is held there, or the blank.
use Rattle.std.proofs.lemmas.Option.{unwrap_or-slice_get}
use Rattle.fixed_vec.specs.FixedVec.{held}
use Rattle.spectator.specs.Stores.{blank_synced}
use Rattle.spectator.specs.Stores.{request_of}
use Rattle.spectator.proofs.requests.Request.input.Goals as goal

pub returns : goal.returns
unfolding request_of blank_synced
returns c =
    let a = c.args in
    rw (c.unwrap_or.ensures, c.get.ensures) (unwrap_or-slice_get (held a.self.now.inputs) a.player blank_synced)
