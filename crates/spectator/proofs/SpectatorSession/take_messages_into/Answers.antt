-- What the host hands back, the session hands back.
use Rattle.std.proofs.Common.{refl}
use Rattle.endpoint.specs.Taken.{answer_in}
use Rattle.endpoint_rules.specs.Step.{step as host_step}
use Rattle.spectator_rules.specs.Step.{step}
use Rattle.spectator.specs.Session.{seen}
use Rattle.spectator.proofs.Laws.Hosting.{host_done}
use Rattle.spectator.proofs.SpectatorSession.take_messages_into.Goals as goal

pub returns : goal.returns
unfolding step host_step seen
returns c =
    let t = c.take_messages_into-taken in
    record {
      taken = host_done c.args.self _ (record { endpoint = t.result.endpoint; answer = answer_in t.result.answer }) _ (refl, refl) t.ensures.taken;
      count = t.ensures.count;
      lent = t.ensures.lent;
    }
