-- The event goes behind those that wait.
use Rattle.spectator.proofs.Laws.Handling.{announce_changes}
use Rattle.spectator.proofs.SpectatorSession.announce.Goals as goal

pub returns : goal.returns
returns c = announce_changes c.args.self.now c.args.event c.announce.new.self c.announce.ensures
