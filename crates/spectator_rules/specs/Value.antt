-- What a call hands back beside its number, where the number is 0: read off the state before it.
use Rattle.std.specs.Prelude.{List, ℕ}
use Rattle.quality.specs.declared.NetworkStats.{NetworkStats}
use Rattle.endpoint_rules.specs.Reports.{stats_of}
use Rattle.endpoint_rules.specs.Value.{filled_part}
use Rattle.spectator_rules.specs.declared.SessionEntry.{SessionEntry}
use Rattle.spectator_rules.specs.declared.SessionState.{SessionState}
use Rattle.spectator_rules.specs.declared.SyncedInput.{SyncedInput}
use Rattle.spectator_rules.specs.Watch.{Watch}
use Rattle.spectator_rules.specs.Advance.{behind, requests_of}
use Rattle.spectator_rules.specs.Call.{Call}
use Rattle.spectator_rules.specs.Step.{host_acts}

pub data Value : Type 0 where
  nothing : Value
  -- the filled part of the send buffer, from its start: how many bytes
  part : ℕ → Value
  -- the frames advanced, in each one input per player
  requests : List (List SyncedInput) → Value
  events : List SessionEntry → Value
  stats : NetworkStats → Value
  count : ℕ → Value
  state : SessionState → Value
  frame : ℕ → Value

unfoldable pub value_of : Call → Watch → Value
value_of (Call.synchronize now epoch nonce buffer) w = Value.nothing
value_of (Call.message from n m now epoch nonce buffer) w = Value.nothing
value_of (Call.datagram from bytes now epoch nonce buffer) w = Value.nothing
value_of (Call.poll_remote_clients now epoch nonce buffer) w = Value.part (filled_part (host_acts now epoch nonce buffer w).after)
value_of Call.advance_frame w = Value.requests (requests_of w)
value_of (Call.take_messages buffer) w = Value.part (filled_part w.host)
value_of Call.take_events w = Value.events w.events
value_of (Call.network_stats epoch) w = Value.stats (stats_of w.host)
value_of Call.frames_behind_host w = Value.count (behind w)
value_of Call.current_state w = Value.state w.state
value_of Call.current_frame w = Value.frame w.current
value_of Call.num_players w = Value.count w.host.setup.players
