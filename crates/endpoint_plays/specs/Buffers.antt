-- The usual owner: it lends one buffer to every call, cuts what `messages` hands back into datagrams, and gives these to the other end.
use mathlib.Core.List.{List, Memᴰ as Mem}
use Rattle.std.specs.Prelude.{◌≡◌, ℕ, take}
use Rattle.codec.specs.Calls.{cut}
use Rattle.endpoint.specs.declared.Endpoint.{Endpoint}
use Rattle.endpoint_delivery.specs.Runs.{Allowed}
use Rattle.endpoint_version.specs.Values.{IsSlice}
use Rattle.endpoint_version.specs.Version.{Version, Asked, call_of, buffer_after}
use Rattle.endpoint_plays.specs.Sides.{Side}

-- a buffer that still has, at its front, the bytes that wait to be taken
abbrev pub Holds : List ℕ → Side → Type 0
Holds buffer x = take x.endpoint.queued buffer ≡ x.waiting

-- of such a buffer, each datagram that is cut out of what `messages` hands back may be handed to the other end
abbrev pub CutAllowed : Version → Side → Type 0
CutAllowed v x =
    (out : List ℕ) → IsSlice out → Holds out x → (d : List ℕ) → Mem d (cut (v.messages x.endpoint out))
    → (peer now epoch nonce : ℕ) (lent : List ℕ) → Allowed (call_of (Asked.datagram peer d now epoch nonce lent)) x.queued

-- a call is lent this buffer, if it is lent one to queue in
abbrev pub Lends : List ℕ → Asked → Type 0
Lends buffer (Asked.synchronize now epoch nonce out) = out ≡ buffer
Lends buffer (Asked.message from m payload now epoch nonce out) = out ≡ buffer
Lends buffer (Asked.datagram from d now epoch nonce out) = out ≡ buffer
Lends buffer (Asked.act statuses now epoch nonce out) = out ≡ buffer
Lends buffer (Asked.send_input frame bytes statuses now out) = out ≡ buffer
Lends buffer (Asked.disconnect now) = Unit {0}
Lends buffer (Asked.send_checksum_report frame checksum now out) = out ≡ buffer
Lends buffer (Asked.update_local_frame_advantage local) = Unit {0}
Lends buffer (Asked.take_messages out) = Unit {0}
Lends buffer (Asked.network_stats epoch) = Unit {0}
Lends buffer (Asked.peer_connect_status handle) = Unit {0}
Lends buffer (Asked.take_messages_into out into) = Unit {0}

-- the buffer after it
abbrev pub lent_after : Version → Endpoint → Asked → List ℕ → List ℕ
lent_after v e (Asked.synchronize now epoch nonce out) buffer = buffer_after v e (Asked.synchronize now epoch nonce out)
lent_after v e (Asked.message from m payload now epoch nonce out) buffer = buffer_after v e (Asked.message from m payload now epoch nonce out)
lent_after v e (Asked.datagram from d now epoch nonce out) buffer = buffer_after v e (Asked.datagram from d now epoch nonce out)
lent_after v e (Asked.act statuses now epoch nonce out) buffer = buffer_after v e (Asked.act statuses now epoch nonce out)
lent_after v e (Asked.send_input frame bytes statuses now out) buffer = buffer_after v e (Asked.send_input frame bytes statuses now out)
lent_after v e (Asked.disconnect now) buffer = buffer
lent_after v e (Asked.send_checksum_report frame checksum now out) buffer = buffer_after v e (Asked.send_checksum_report frame checksum now out)
lent_after v e (Asked.update_local_frame_advantage local) buffer = buffer
lent_after v e (Asked.take_messages out) buffer = buffer
lent_after v e (Asked.network_stats epoch) buffer = buffer
lent_after v e (Asked.peer_connect_status handle) buffer = buffer
lent_after v e (Asked.take_messages_into out into) buffer = buffer
