-- What is seen of a session, and what its calls answer: one equation over `step` for each.
use Rattle.std.specs.Prelude.{List, ◌≡◌, ℕ}
use Rattle.base.specs.Lay.{laid_at}
use Rattle.answer.specs.Number.{number_of}
use Rattle.codec.specs.Bytes.{queue_of}
use Rattle.status.specs.Statuses.{held_statuses}
use Rattle.endpoint.specs.Endpoint.{seen as seen_host, SameTerms}
use Rattle.endpoint.specs.declared.Endpoint.{Endpoint}
use Rattle.spectator_rules.specs.Watch.{Watch}
use Rattle.spectator_rules.specs.Step.{Did}
use Rattle.spectator.specs.declared.SpectatorSession.{SpectatorSession}
use Rattle.spectator.specs.declared.Ended.{Ended}
use Rattle.spectator.specs.declared.session_events.SessionEvents.{SessionEvents}
use Rattle.spectator.specs.Stores.{inputs_of, events_of, StoresCounted}

-- what is seen of its host, the lists that its stores hold, and its plain fields
unfoldable pub seen : SpectatorSession → Watch
seen s =
    record {
      host = seen_host s.host;
      limits = s.limits;
      state = s.state;
      inputs = inputs_of s.inputs;
      statuses = held_statuses s.statuses;
      events = events_of s.events;
      current = s.current_frame;
      newest = s.last_recv_frame;
    }

-- the count of each of its stores is the number of what the store holds
abbrev pub Counted : SpectatorSession → Type 0
Counted s = StoresCounted s.inputs s.statuses s.events

-- ---- one part set, all else the very same, counts included

-- the session with another host
abbrev pub hosted : SpectatorSession → Endpoint → SpectatorSession
hosted s e =
    record {
      host = e;
      limits = s.limits;
      state = s.state;
      inputs = s.inputs;
      statuses = s.statuses;
      events = s.events;
      current_frame = s.current_frame;
      last_recv_frame = s.last_recv_frame;
    }

-- the session with another frame advanced last
abbrev pub advanced_to : SpectatorSession → ℕ → SpectatorSession
advanced_to s frame =
    record {
      host = s.host;
      limits = s.limits;
      state = s.state;
      inputs = s.inputs;
      statuses = s.statuses;
      events = s.events;
      current_frame = frame;
      last_recv_frame = s.last_recv_frame;
    }

-- the session with other events
abbrev pub keeping : SpectatorSession → SessionEvents → SpectatorSession
keeping s events =
    record {
      host = s.host;
      limits = s.limits;
      state = s.state;
      inputs = s.inputs;
      statuses = s.statuses;
      events = events;
      current_frame = s.current_frame;
      last_recv_frame = s.last_recv_frame;
    }

-- ---- the calls that are the host's alone

-- one that may queue messages: its number, the state after it, and the lent buffer, in which what it queues stands behind what was queued.
-- Of the session only the host changes, and the host's setup and the count of its statuses stay. A refusal gives the very session back
pub record DidAs (s : SpectatorSession) (d : Did) (buffer : List ℕ) (r : Ended) (buffer' : List ℕ) : Type 0 where
  pub answer : number_of r.answer ≡ d.answer
  pub after : seen r.session ≡ d.after
  pub lent : buffer' ≡ laid_at buffer s.host.queued (queue_of d.out)
  pub own : r.session ≡ hosted s r.session.host
  pub terms : SameTerms s.host r.session.host
  pub same : (d.answer ≡ 0 → ⊥) → r.session ≡ s

-- one that has no buffer
pub record DoneAs (s : SpectatorSession) (d : Did) (r : Ended) : Type 0 where
  pub answer : number_of r.answer ≡ d.answer
  pub after : seen r.session ≡ d.after
  pub own : r.session ≡ hosted s r.session.host
  pub terms : SameTerms s.host r.session.host
  pub same : (d.answer ≡ 0 → ⊥) → r.session ≡ s
