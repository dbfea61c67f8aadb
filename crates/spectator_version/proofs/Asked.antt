-- What a version is asked with values of the code's types is a call with arguments of those types, as the rules' runs take it.
use native.Mathlib.Omega.{arith}
use Rattle.spectator_invariant.specs.Typed.{Typed}
use Rattle.endpoint_version.proofs.Asked.{message_typed}
use Rattle.spectator_version.specs.Version.{Asked, IsAsked, call_of}

pub asked_typed : (c : Asked) → IsAsked c → Typed (call_of c)
asked_typed (Asked.synchronize now epoch nonce out) h = (h.0, h.1, h.2, h.3.1)
asked_typed (Asked.message from m payload now epoch nonce out) h = (h.0, h.1.count, message_typed m payload h.1 h.2.0, (h.3, h.4, h.5, h.6.1))
asked_typed (Asked.datagram from d now epoch nonce out) h = (h.0, h.1.0, (h.2, h.3, h.4, h.5.1))
asked_typed (Asked.take_messages out) h = h.1
asked_typed (Asked.take_messages_into out into) h = omega arith
asked_typed (Asked.poll_remote_clients now epoch nonce out) h = (h.0, h.1, h.2, h.3.1)
asked_typed Asked.advance_frame h = tt
asked_typed Asked.take_events h = tt
