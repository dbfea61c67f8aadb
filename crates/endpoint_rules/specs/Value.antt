-- What a call hands back beside its number, where the number is 0: read off the state before it.
use Rattle.std.specs.Prelude.{Bool, ◌||◌, List, ℕ, eqb, get_or}
use Rattle.base.specs.Pick.{pick}
use Rattle.status.specs.Status.{default_status}
use Rattle.status.specs.declared.ConnectionStatus.{ConnectionStatus}
use Rattle.checksums.specs.declared.Checksum.{Checksum}
use Rattle.events.specs.declared.Entry.{Entry}
use Rattle.endpoint_rules.specs.declared.Phase.{Phase}
use Rattle.quality.specs.declared.NetworkStats.{NetworkStats}
use Rattle.endpoint_rules.specs.Seen.{Seen, is_running, is_disconnected, is_shutdown}
use Rattle.endpoint_rules.specs.Sending.{newest}
use Rattle.endpoint_rules.specs.Reports.{stats_of}
use Rattle.endpoint_rules.specs.Call.{Call, Question}
use Rattle.endpoint_rules.specs.Step.{step}

pub data Value : Type 0 where
  nothing : Value
  stats : NetworkStats → Value
  status : ConnectionStatus → Value
  events : List Entry → Value
  -- the filled part of the send buffer, from its start: how many bytes
  part : ℕ → Value
  numbers : List ℕ → Value
  flag : Bool → Value
  frame : ℕ → Value
  phase : Phase → Value
  checksums : List Checksum → Value

-- Running, Disconnected or Shutdown
abbrev pub synchronized_in : Phase → Bool
synchronized_in p = is_running p || is_disconnected p || is_shutdown p

-- how many bytes are handed back (E-66), none in Shutdown (E-67)
unfoldable pub filled_part : Seen → ℕ
filled_part s = pick (is_shutdown s.phase) 0 s.queued

abbrev pub answer_to : Question → Seen → Value
answer_to Question.handles s = Value.numbers s.setup.handles
answer_to Question.is_synchronized s = Value.flag (synchronized_in s.phase)
answer_to Question.is_running s = Value.flag (is_running s.phase)
answer_to (Question.is_handling_message from) s = Value.flag (eqb from s.setup.peer)
answer_to Question.newest_frame s = Value.frame (newest s)
answer_to Question.state s = Value.phase s.phase
answer_to Question.checksums s = Value.checksums s.checksums

unfoldable pub value_of : Call → Seen → Value
value_of (Call.synchronize now epoch nonce buffer) s = Value.nothing
value_of (Call.message from count w now epoch nonce buffer) s = Value.nothing
value_of (Call.datagram from bytes now epoch nonce buffer) s = Value.nothing
value_of (Call.act count statuses now epoch nonce buffer) s = Value.nothing
value_of (Call.send_input at bytes count statuses now buffer) s = Value.nothing
value_of (Call.disconnect now) s = Value.nothing
value_of (Call.send_checksum_report at checksum now buffer) s = Value.nothing
value_of (Call.update_local_frame_advantage local_frame) s = Value.nothing
value_of (Call.network_stats epoch) s = Value.stats (stats_of s)
value_of (Call.peer_connect_status handle) s = Value.status (get_or s.statuses handle default_status)
value_of Call.take_events s = Value.events s.events
value_of (Call.take_messages buffer) s = Value.part (filled_part s)
value_of (Call.ask question) s = answer_to question s

-- the bytes of a buffer, from its start, that taking messages hands back: the filled part, none where it is refused
unfoldable pub handed_back : (buffer : ℕ) → Seen → ℕ
handed_back buffer s = pick (eqb (step (Call.take_messages buffer) s).answer 0) (filled_part s) 0
