-- What a version is asked with values of the code's types is a call with arguments of those types, as the rules' runs take it; and it hands out no events.
use mathlib.Core.List.{List, []}
use mathlib.Core.Path.{◌≡◌, refl}
use native.Mathlib.Omega.{arith}
use Prim.Native.Nat.{ℕ}
use Rattle.base.specs.Little.{Bytes}
use Rattle.status.specs.Statuses.{held_statuses}
use Rattle.status.specs.declared.list.Statuses.{Statuses}
use Rattle.codec.specs.Message.{meant}
use Rattle.codec.specs.declared.Message.{Message}
use Rattle.endpoint_rules.specs.Seen.{Seen}
use Rattle.endpoint_invariant.specs.Runs.{handed}
use Rattle.endpoint_invariant.specs.Typed.{TypedStatuses, TypedWire, Typed}
use Rattle.endpoint_invariant.proofs.Typed as Typed
use Rattle.endpoint_version.specs.Values.{IsStatuses, IsMessage}
use Rattle.endpoint_version.specs.Version.{Asked, IsAsked, call_of}
use Rattle.endpoint_version.proofs.Typed.{statuses_means, message_means}

pub statuses_typed : (x : Statuses) → IsStatuses x → TypedStatuses x.count (held_statuses x)
statuses_typed x h = Typed.statuses_typed x _ (statuses_means x h).1

pub message_typed : (m : Message) (payload : List ℕ) → IsMessage m → Bytes payload → TypedWire (meant m payload)
message_typed m payload h b = Typed.wire_typed m _ (message_means m h).1 payload b

pub asked_typed : (c : Asked) → IsAsked c → Typed (call_of c)
asked_typed (Asked.synchronize now epoch nonce out) h = (h.0, h.1, h.2, h.3.1)
asked_typed (Asked.message from m payload now epoch nonce out) h =
    (h.0, h.1.count, message_typed m payload h.1 h.2.0, (h.3, h.4, h.5, h.6.1))
asked_typed (Asked.datagram from d now epoch nonce out) h = (h.0, h.1.0, (h.2, h.3, h.4, h.5.1))
asked_typed (Asked.act statuses now epoch nonce out) h = (h.0.count, statuses_typed statuses h.0, (h.1, h.2, h.3, h.4.1))
asked_typed (Asked.send_input frame bytes statuses now out) h = (h.0, h.1.0, h.2.count, statuses_typed statuses h.2, h.3, h.4.1)
asked_typed (Asked.disconnect now) h = h
asked_typed (Asked.send_checksum_report frame checksum now out) h = (h.0, h.1, h.2, h.3.1)
asked_typed (Asked.update_local_frame_advantage local) h = h
asked_typed (Asked.take_messages out) h = h.1
asked_typed (Asked.network_stats epoch) h = h
asked_typed (Asked.peer_connect_status handle) h = h
asked_typed (Asked.take_messages_into out into) h = omega arith

-- no call but that of events hands any out
pub none_handed : (c : Asked) (s : Seen) → handed (call_of c) s ≡ []
none_handed (Asked.synchronize now epoch nonce out) s = refl
none_handed (Asked.message from m payload now epoch nonce out) s = refl
none_handed (Asked.datagram from d now epoch nonce out) s = refl
none_handed (Asked.act statuses now epoch nonce out) s = refl
none_handed (Asked.send_input frame bytes statuses now out) s = refl
none_handed (Asked.disconnect now) s = refl
none_handed (Asked.send_checksum_report frame checksum now out) s = refl
none_handed (Asked.update_local_frame_advantage local) s = refl
none_handed (Asked.take_messages out) s = refl
none_handed (Asked.network_stats epoch) s = refl
none_handed (Asked.peer_connect_status handle) s = refl
none_handed (Asked.take_messages_into out into) s = refl
