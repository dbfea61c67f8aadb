-- What the host answers and becomes, the session answers, with that host.
use Rattle.endpoint_rules.specs.Step.{step as host_step}
use Rattle.spectator_rules.specs.Step.{step}
use Rattle.spectator.specs.Session.{seen}
use Rattle.spectator.proofs.Laws.Hosting.{host_did}
use Rattle.spectator.proofs.SpectatorSession.datagram.Goals as goal

pub returns : goal.returns
unfolding step host_step seen
returns c = host_did c.args.self _ c.datagram-ended.result c.by_host.result c.by_host.ensures _ _ c.datagram-ended.ensures
