-- What is made is the session of its setup.
use Rattle.spectator.proofs.Laws.Creation.{makes}
use Rattle.spectator.proofs.SpectatorSession.new.Goals as goal

pub returns : goal.returns
returns c =
    let a = c.args in
    let e = c.new-made in
    makes a.setup a.now e.result (rw c.host_setup.ensures at e.ensures) c.refusal.result c.refusal.ensures
    c.new.result c.new.ensures c.new-2.result c.new-2.ensures c.new-3.result c.new-3.ensures
