-- The real handshake, five requests and five replies, leaves what `synchronized` gives: once its messages and events are taken, the only other
-- change is the time from which statistics count.
use mathlib.Core.List.{List, [], ◌∷◌}
use mathlib.Core.Path.{◌≡◌, refl}
use Prim.Native.Nat.{ℕ}
use Rattle.base.specs.Keyed.{kept, has, without}
use Rattle.base.specs.Last.{last_of}
use Rattle.nonces.specs.Nonces.{issued}
use Rattle.status.specs.Statuses.{default_statuses}
use Rattle.events.specs.Events.{has_room}
use Rattle.setup.specs.Setup.{inserted, sorted, terms_with}
use Rattle.quality.specs.Quality.{started_at}
use Rattle.codec.specs.Read.{body_only}
use Rattle.codec.specs.declared.MessageBody.TheVariants.{SyncReply}
use Rattle.outbox.specs.Outbox.{queue_size}
use Rattle.endpoint_rules.specs.Seen.{Seen, made, with_quality}
use Rattle.endpoint_rules.specs.Did.{refused, tested, queue_wire, done}
use Rattle.endpoint_rules.specs.Room.{buffer_full, is_full}
use Rattle.endpoint_rules.specs.Handshake.{nonce_issued, request, started, synchronized, counted, running, replied, on_sync_reply}
use Rattle.endpoint_rules.specs.Call.{Call}
use Rattle.endpoint_rules.specs.Step.{synchronize_step, ignored, resumed, heard, on_body, reacted, message_step, take_step, step}
use Rattle.endpoint_rules.proofs.Bouts.{after}
use Rattle.demo_ends.specs.Running.{two_players, synchronized_with}

-- an endpoint of peer 3, made at clock 1000
abbrev new : (magic player : ℕ) → Seen
new magic player = made (two_players magic 3 player) 1000

-- a reply under the other end's magic, and the nonce for the next request
abbrev reply : (remote nonce next : ℕ) → Call
reply remote nonce next = Call.message 3 0 (body_only remote (SyncReply nonce)) 1000 71000 next 65536

abbrev handshake : (remote : ℕ) → List Call
handshake remote =
    Call.synchronize 1000 71000 1 65536
    ∷ reply remote 1 2
    ∷ reply remote 2 3
    ∷ reply remote 3 4
    ∷ reply remote 4 5
    ∷ reply remote 5 6
    ∷ Call.take_messages 65536
    ∷ Call.take_events
    ∷ []

pub shaken : (magic player remote : ℕ) → after (handshake remote) (new magic player)
    ≡ with_quality (started_at 71000 (new magic player).quality) (synchronized_with remote (new magic player))
unfolding kept has without issued last_of default_statuses has_room inserted sorted terms_with queue_size made refused tested queue_wire done buffer_full is_full nonce_issued request started synchronized counted running replied on_sync_reply synchronize_step ignored resumed heard on_body reacted message_step take_step step two_players synchronized_with
shaken magic player remote = refl
