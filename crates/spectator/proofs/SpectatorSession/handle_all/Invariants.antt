-- The invariant: handling what is left gives what handling all gives, right counts stay right, and the host's terms and newest frame stay.
use Rattle.std.proofs.Common.{◌≡◌, drop}
use Rattle.events.specs.Events.{held_events}
use Rattle.endpoint.specs.Endpoint.{SameTerms}
use Rattle.endpoint_rules.specs.Sending.{newest}
use Rattle.spectator_rules.specs.Handling.{handled_all}
use Rattle.spectator.specs.Session.{seen, Counted}
use Rattle.spectator.proofs.SpectatorSession.handle_all.Given as goal

abbrev pub invariant-loop-i : goal.invariant-loop-i
invariant-loop-i l =
    (handled_all (drop l.i (held_events l.events)) (seen l.self) ≡ handled_all (held_events l.events) (seen l.initial.self))
    × (Counted l.initial.self → Counted l.self)
    × SameTerms l.initial.self.host l.self.host
    × (newest (seen l.self).host ≡ newest (seen l.initial.self).host)
