-- The Input is stored, and the host's advantage and statuses are taken over.
use Rattle.spectator.proofs.Laws.Handling.{store_changes}
use Rattle.spectator.proofs.SpectatorSession.store.Goals as goal

pub returns : goal.returns
returns c =
    let a = c.args in
    store_changes a.self.now a.newest a.frame a.player a.input c.requires c.store.new.self c.store.ensures c.quality_after-self.result c.quality_after-self.ensures
    c.lent-self.result c.lent-self.ensures
