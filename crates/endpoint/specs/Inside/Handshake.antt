-- What a sync request comes to, and what is announced of a reply that counts.
use Rattle.std.specs.Prelude.{List, ◌≡◌, ℕ, ◌-◌, ltb, Ok, Err}
use Rattle.answer.specs.Number.{Answered}
use Rattle.base.specs.Pick.{pick}
use Rattle.timers.specs.Timers.{sent_at, request_at}
use Rattle.codec.specs.Message.{Wire}
use Rattle.codec.specs.Read.{body_only}
use Rattle.codec.specs.declared.MessageBody.TheVariants.{SyncRequest}
use Rattle.events.specs.declared.Event.{Event}
use Rattle.events.specs.declared.Event.TheVariants.{Synchronizing, Synchronized}
use Rattle.outbox.specs.Outbox.{QueuedAs}
use Rattle.endpoint.specs.declared.Endpoint.{Endpoint}

abbrev pub request_wire : (magic nonce : ℕ) → Wire
request_wire magic nonce = body_only magic (SyncRequest nonce)

-- an endpoint that has queued one, up to there
abbrev pub requested : Endpoint → (now stop : ℕ) → Endpoint
requested e now stop =
    record {
      setup = e.setup;
      pending = e.pending;
      acked = e.acked;
      history = e.history;
      sync = e.sync;
      nonces = e.nonces;
      clocks = sent_at now (request_at now e.clocks);
      flags = e.flags;
      quality = e.quality;
      statuses = e.statuses;
      checksums = e.checksums;
      events = e.events;
      queued = stop;
    }

-- it is done where its bytes fit; else nothing is
abbrev pub RequestedAs : Endpoint → (now nonce : ℕ) → (buffer : List ℕ) → Answered → Endpoint → (buffer' : List ℕ) → Type 0
RequestedAs e now nonce buffer (Ok u) e' buffer' =
    (e' ≡ requested e now e'.queued) × QueuedAs buffer e.queued (request_wire e.setup.magic nonce) (Ok e'.queued) buffer'
RequestedAs e now nonce buffer (Err r) e' buffer' =
    (e' ≡ e) × QueuedAs buffer e.queued (request_wire e.setup.magic nonce) (Err r) buffer'

-- what is announced of a reply, with so many to come
abbrev pub progress_of : (remaining : ℕ) → Event
progress_of remaining = pick (ltb 0 remaining) (Synchronizing 5 (5 - remaining)) Synchronized
