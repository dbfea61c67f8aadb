-- What handling an event, or all events, does to a session.
use Rattle.std.specs.Prelude.{not, ◌&&◌, ◌≡◌, ℕ, eqb}
use Rattle.base.specs.Pick.{pick}
use Rattle.quality.specs.declared.Quality.{Quality}
use Rattle.quality.specs.Quality.{local_set}
use Rattle.quality.specs.Advantage.{advantage_of, advantage_overflows}
use Rattle.frame.specs.Bias.{null_frame}
use Rattle.endpoint.specs.Endpoint.{SameTerms}
use Rattle.endpoint_rules.specs.Sending.{newest}
use Rattle.spectator_rules.specs.Watch.{Watch}
use Rattle.spectator.specs.declared.SpectatorSession.{SpectatorSession}
use Rattle.spectator.specs.Session.{seen, Counted}

-- the local advantage with the frame of an Input; as it was where it leaves its range, and while nothing is received
unfoldable pub quality_after : (newest fps frame : ℕ) → Quality → Quality
quality_after newest fps frame q =
    pick (not (eqb frame null_frame) && not (eqb newest null_frame))
    (pick (advantage_overflows newest q.round_trip_time fps frame) q (local_set (advantage_of newest q.round_trip_time fps frame) q))
    q

-- a change of a session: it leaves right counts right, and of the host its setup, the count of its statuses and its newest frame
pub record ChangedAs (f : Watch → Watch) (s r : SpectatorSession) : Type 0 where
  pub after : seen r ≡ f (seen s)
  pub counted : Counted s → Counted r
  pub terms : SameTerms s.host r.host
  pub newest : newest (seen r).host ≡ newest (seen s).host
