-- The events held, with their number.
use Rattle.spectator.proofs.Laws.Getters.{takes_events}
use Rattle.spectator.proofs.SpectatorSession.take_events.Goals as goal

pub returns : goal.returns
returns c = takes_events c.args.self c.count.result c.count.ensures
