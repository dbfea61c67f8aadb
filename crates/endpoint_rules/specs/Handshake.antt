-- The handshake: requests, and replies that count by their nonce; and what every message call is made of.
use Rattle.std.specs.Prelude.{Bool, true, false, ◌&&◌, List, ℕ, ◌-◌, ltb}
use Rattle.nonces.specs.Nonces.{is_outstanding, spent, issued}
use Rattle.quality.specs.Quality.{started_at}
use Rattle.codec.specs.declared.MessageBody.TheVariants.{SyncRequest, SyncReply}
use Rattle.events.specs.declared.Event.TheVariants as Event
use Rattle.endpoint_rules.specs.declared.Phase.TheVariants.{Synchronizing, Running}
use Rattle.endpoint_rules.specs.Seen.{Seen, Sync, is_synchronizing, with_phase, with_sync, with_quality, request_at}
use Rattle.endpoint_rules.specs.Did.{Effect, change, queue, announce_event}

-- what a message would do: the tests for 12 and 6, that the checksums have no room, and the effect if none of these holds
pub record Reaction : Type 0 where
  pub too_long : Bool
  pub overflows : Bool
  pub store_full : Bool
  pub effect : Effect

abbrev pub plainly : Effect → Reaction
plainly e = record { too_long = false; overflows = false; store_full = false; effect = e }

abbrev pub with_nonces : List ℕ → Sync → Sync
with_nonces x y = record { remaining = y.remaining; nonces = x; remote_magic = y.remote_magic }

unfoldable pub nonce_issued : ℕ → Seen → Seen
nonce_issued nonce s = with_sync (with_nonces (issued nonce s.sync.nonces) s.sync) s

-- a request: its time is noted, its nonce is outstanding (E-4), whatever is forgotten for it (E-70)
unfoldable pub request : (now nonce : ℕ) → Effect → Effect
request now nonce e = queue now (SyncRequest nonce) (change (λ s. nonce_issued nonce (request_at now s)) e)

-- five replies are to come, the epoch clock's start is noted (E-3)
unfoldable pub started : ℕ → Seen → Seen
started epoch s =
    with_phase Synchronizing
    (with_sync (record { remaining = 5; nonces = s.sync.nonces; remote_magic = s.sync.remote_magic })
    (with_quality (started_at epoch s.quality) s))

unfoldable pub synchronized : (now epoch nonce : ℕ) → Effect → Effect
synchronized now epoch nonce e = request now nonce (change (started epoch) e)

-- a SyncRequest is answered with its nonce (E-6)
unfoldable pub on_sync_request : (now asked : ℕ) → Effect → Reaction
on_sync_request now asked e = plainly (queue now (SyncReply asked) e)

-- which SyncReply counts (E-7)
abbrev pub counts : ℕ → Seen → Bool
counts reply s = is_synchronizing s.phase && is_outstanding reply s.sync.nonces

-- after one that counts: its nonce is spent, and one reply fewer is to come (E-7)
unfoldable pub counted : ℕ → Seen → Seen
counted reply s = with_sync (record { remaining = s.sync.remaining - 1; nonces = spent reply s.sync.nonces; remote_magic = s.sync.remote_magic }) s

-- after the fifth: Running, and the filter's magic is that of its header (E-9)
unfoldable pub running : ℕ → Seen → Seen
running magic s = with_phase Running (with_sync (record { remaining = s.sync.remaining; nonces = s.sync.nonces; remote_magic = magic }) s)

-- whether it counts, and whether more are to come: the first four are announced and followed by a request (E-8), the fifth ends the handshake (E-9)
unfoldable pub replied : (now nonce magic reply : ℕ) → (counts_it more : Bool) → Effect → Reaction
replied now nonce magic reply false more e = plainly e
replied now nonce magic reply true true e =
    plainly (request now nonce (announce_event (Event.Synchronizing 5 (5 - (e.state.sync.remaining - 1))) (change (counted reply) e)))
replied now nonce magic reply true false e = plainly (announce_event Event.Synchronized (change (λ s. running magic (counted reply s)) e))

unfoldable pub on_sync_reply : (now nonce magic reply : ℕ) → Effect → Reaction
on_sync_reply now nonce magic reply e = replied now nonce magic reply (counts reply e.state) (ltb 1 e.state.sync.remaining) e
