-- A call's arguments, and a session's setup, are values of the code's types, as those of an endpoint's. No ceiling (C-1 to C-20) is among them.
use Rattle.base.specs.Little.{Bytes}
use Rattle.endpoint_invariant.specs.Typed.{IsU32, IsU64, TypedPlace, TypedWire, TypedSetup}
use Rattle.spectator_rules.specs.declared.SessionSetup.{SessionSetup}
use Rattle.spectator_rules.specs.Setup.{host_setup}
use Rattle.spectator_rules.specs.Call.{Call}

abbrev pub Typed : Call → Type 0
Typed (Call.synchronize now epoch nonce buffer) = TypedPlace now epoch nonce buffer
Typed (Call.message from count w now epoch nonce buffer) = IsU32 from × IsU64 count × TypedWire w × TypedPlace now epoch nonce buffer
Typed (Call.datagram from bytes now epoch nonce buffer) = IsU32 from × Bytes bytes × TypedPlace now epoch nonce buffer
Typed (Call.poll_remote_clients now epoch nonce buffer) = TypedPlace now epoch nonce buffer
Typed Call.advance_frame = Unit {0}
Typed (Call.take_messages buffer) = IsU64 buffer
Typed Call.take_events = Unit {0}
Typed (Call.network_stats epoch) = IsU64 epoch
Typed Call.frames_behind_host = Unit {0}
Typed Call.current_state = Unit {0}
Typed Call.current_frame = Unit {0}
Typed Call.num_players = Unit {0}

-- the host's setup has all its numbers but the limits, of which the ceilings alone are asked
abbrev pub TypedSession : SessionSetup → Type 0
TypedSession g = TypedSetup (host_setup g)
