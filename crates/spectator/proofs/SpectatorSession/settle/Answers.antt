-- Each count is the number of what its store holds.
use Rattle.spectator.proofs.Laws.Polling.{settles}
use Rattle.spectator.proofs.SpectatorSession.settle.Goals as goal

pub returns : goal.returns
returns c = settles c.args.self.now c.count-self.result c.count-self.ensures c.lent-self.result c.lent-self.ensures c.count-self-2.result c.count-self-2.ensures
