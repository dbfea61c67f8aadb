-- What is seen of an endpoint, and what its calls answer: one equation over `step` for each.
use Rattle.std.specs.Prelude.{List, ◌≡◌, ℕ}
use Rattle.base.specs.Lay.{laid_at}
use Rattle.answer.specs.Number.{number_of}
use Rattle.codec.specs.Bytes.{queue_of}
use Rattle.pending.specs.Pending.{waiting}
use Rattle.history.specs.History.{received}
use Rattle.nonces.specs.Nonces.{outstanding}
use Rattle.status.specs.Statuses.{held_statuses}
use Rattle.checksums.specs.Checksums.{stored}
use Rattle.events.specs.Events.{held_events}
use Rattle.setup.specs.Setup.{terms_of}
use Rattle.endpoint_rules.specs.Seen.{Seen}
use Rattle.endpoint_rules.specs.Did.{Did}
use Rattle.endpoint.specs.declared.Endpoint.{Endpoint}
use Rattle.endpoint.specs.declared.Ended.{Ended}

-- the lists that its stores hold, and its plain fields
unfoldable pub seen : Endpoint → Seen
seen e =
    record {
      setup = terms_of e.setup;
      carried = record {
        sender = record { pending = waiting e.pending; acked = e.acked };
        receiver = record { history = received e.history };
      };
      phase = e.sync.phase;
      sync = record { remaining = e.sync.remaining; nonces = outstanding e.nonces; remote_magic = e.sync.remote_magic };
      clocks = e.clocks;
      flags = e.flags;
      quality = e.quality;
      statuses = held_statuses e.statuses;
      checksums = stored e.checksums;
      events = held_events e.events;
      queued = e.queued;
    }

-- what no call changes: the setup, as it stands, and the count of the statuses, which a refusal (3) may read as it is
pub record SameTerms (e r : Endpoint) : Type 0 where
  pub setup : r.setup ≡ e.setup
  pub count : r.statuses.count ≡ e.statuses.count

-- a call that may queue messages: its number, the state after it, and the lent buffer, in which what it queues stands behind what was queued.
-- A refusal gives the very endpoint back
pub record DidAs (e : Endpoint) (d : Did) (buffer : List ℕ) (r : Ended) (buffer' : List ℕ) : Type 0 where
  pub answer : number_of r.answer ≡ d.answer
  pub after : seen r.endpoint ≡ d.after
  pub terms : SameTerms e r.endpoint
  pub lent : buffer' ≡ laid_at buffer e.queued (queue_of d.out)
  pub same : (d.answer ≡ 0 → ⊥) → r.endpoint ≡ e

-- one that has no buffer
pub record DoneAs (e : Endpoint) (d : Did) (r : Ended) : Type 0 where
  pub answer : number_of r.answer ≡ d.answer
  pub after : seen r.endpoint ≡ d.after
  pub terms : SameTerms e r.endpoint
  pub same : (d.answer ≡ 0 → ⊥) → r.endpoint ≡ e
