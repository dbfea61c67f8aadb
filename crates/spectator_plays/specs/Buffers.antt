-- The usual owner of a session: it lends one buffer to every call, cuts what a poll (or `messages`) hands back into datagrams, and gives these to the other end.
use Rattle.std.specs.Prelude.{List, ◌≡◌, ℕ, take}
use Rattle.spectator.specs.declared.SpectatorSession.{SpectatorSession}
use Rattle.spectator_version.specs.Version.{Version, Asked, buffer_after}
use Rattle.spectator_plays.specs.Screens.{Screen}
use Rattle.endpoint.specs.Taken.{count_in}

-- a buffer that still has, at its front, the bytes that wait
abbrev pub Holds : List ℕ → Screen → Type 0
Holds buffer x = take x.session.host.queued buffer ≡ x.waiting

-- the bytes that a poll hands back: the front of the buffer after it, as many as it says
abbrev pub polled_bytes : Version → SpectatorSession → (now epoch nonce : ℕ) → (out : List ℕ) → List ℕ
polled_bytes u s now epoch nonce out = take (count_in (u.poll_remote_clients s now epoch nonce out).0.answer) (u.poll_remote_clients s now epoch nonce out).1

-- a call is lent this buffer, if it is lent one to queue in
abbrev pub Lends : List ℕ → Asked → Type 0
Lends buffer (Asked.synchronize now epoch nonce out) = out ≡ buffer
Lends buffer (Asked.message from m payload now epoch nonce out) = out ≡ buffer
Lends buffer (Asked.datagram from d now epoch nonce out) = out ≡ buffer
Lends buffer (Asked.take_messages out) = Unit {0}
Lends buffer (Asked.take_messages_into out into) = Unit {0}
Lends buffer (Asked.poll_remote_clients now epoch nonce out) = out ≡ buffer
Lends buffer Asked.advance_frame = Unit {0}
Lends buffer Asked.take_events = Unit {0}

-- the buffer after it
abbrev pub lent_after : Version → SpectatorSession → Asked → List ℕ → List ℕ
lent_after u s (Asked.synchronize now epoch nonce out) buffer = buffer_after u s (Asked.synchronize now epoch nonce out)
lent_after u s (Asked.message from m payload now epoch nonce out) buffer = buffer_after u s (Asked.message from m payload now epoch nonce out)
lent_after u s (Asked.datagram from d now epoch nonce out) buffer = buffer_after u s (Asked.datagram from d now epoch nonce out)
lent_after u s (Asked.take_messages out) buffer = buffer
lent_after u s (Asked.take_messages_into out into) buffer = buffer
lent_after u s (Asked.poll_remote_clients now epoch nonce out) buffer = buffer_after u s (Asked.poll_remote_clients now epoch nonce out)
lent_after u s Asked.advance_frame buffer = buffer
lent_after u s Asked.take_events buffer = buffer
