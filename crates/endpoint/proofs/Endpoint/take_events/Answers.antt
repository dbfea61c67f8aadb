-- `take_events` hands back those held, with their count.
use Rattle.events.specs.Events.{held_events}
use Rattle.events.proofs.Laws.{held_none}
use Rattle.endpoint.proofs.Laws.Taking.{takes_events}
use Rattle.endpoint.proofs.Endpoint.take_events.Goals as goal

pub returns : goal.returns
unfolding held_events
returns c =
    takes_events c.args.self c.count.result c.count.ensures (record { entries = record { list = c.args.self.events.entries.list; count = 0 } }) (held_none c.args.self.events.entries.list)
