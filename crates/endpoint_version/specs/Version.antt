-- A version of the endpoint's public functions, and its calls: what each is given, which rule it is a call of, and what it hands back.
use Rattle.std.specs.Prelude.{Bool, List, [], ℕ, ◌-◌, length, take, drop, Result}
use Rattle.ceilings.specs.Ceilings.{most_players}
use Rattle.fixed_vec.specs.declared.FixedVec.{FixedVec}
use Rattle.answer.specs.Number.{number_of}
use Rattle.answer.specs.declared.Refusal.{Refusal}
use Rattle.codec.specs.Message.{meant, FitsWide}
use Rattle.codec.specs.declared.Wide.{Wide}
use Rattle.codec.specs.declared.Message.{Message}
use Rattle.status.specs.Statuses.{held_statuses}
use Rattle.status.specs.declared.ConnectionStatus.{ConnectionStatus}
use Rattle.status.specs.declared.list.Statuses.{Statuses}
use Rattle.quality.specs.declared.NetworkStats.{NetworkStats}
use Rattle.checksums.specs.declared.Checksums.{Checksums}
use Rattle.setup.specs.declared.Setup.{Setup}
use Rattle.endpoint_rules.specs.declared.Phase.{Phase}
use Rattle.endpoint_rules.specs.Call.{Call}
use Rattle.endpoint_invariant.specs.Typed.{IsU32, IsU64}
use Rattle.endpoint.specs.declared.Endpoint.{Endpoint}
use Rattle.endpoint.specs.declared.Ended.{Ended}
use Rattle.endpoint.specs.declared.taking.TakenEvents.{TakenEvents}
use Rattle.endpoint.specs.declared.taking.TakenMessages.{TakenMessages}
use Rattle.endpoint.specs.Taken.{shorter, answer_in}
use Rattle.endpoint.specs.Shown.{shown_status, shown_stats}
use Rattle.endpoint_version.specs.Values.{IsSlice, IsStatuses, IsMessage}

-- one function for each public function of the endpoint, with its arguments and its answer. Of a buffer that is lent to be written, `out` or `into`, the bytes that it
-- has before the call are an argument, and those that it has after it stand beside the answer
pub record Version : Type 0 where
  pub new : Setup → (now : ℕ) → Ended
  pub synchronize : Endpoint → (now epoch nonce : ℕ) → (out : List ℕ) → Ended × List ℕ
  pub message : Endpoint → (from : ℕ) → Message → (payload : List ℕ) → (now epoch nonce : ℕ) → (out : List ℕ) → Ended × List ℕ
  pub datagram : Endpoint → (from : ℕ) → (datagram : List ℕ) → (now epoch nonce : ℕ) → (out : List ℕ) → Ended × List ℕ
  pub act : Endpoint → Statuses → (now epoch nonce : ℕ) → (out : List ℕ) → Ended × List ℕ
  pub send_input : Endpoint → (frame : ℕ) → (bytes : List ℕ) → Statuses → (now : ℕ) → (out : List ℕ) → Ended × List ℕ
  pub disconnect : Endpoint → (now : ℕ) → Ended
  pub send_checksum_report : Endpoint → (frame : ℕ) → Wide → (now : ℕ) → (out : List ℕ) → Ended × List ℕ
  pub update_local_frame_advantage : Endpoint → (local_frame : ℕ) → Ended
  pub take_events : Endpoint → TakenEvents
  pub take_messages : Endpoint → (out : List ℕ) → Ended
  pub messages : Endpoint → (out : List ℕ) → List ℕ
  pub take_messages_into : Endpoint → (out into : List ℕ) → TakenMessages × List ℕ
  pub network_stats : Endpoint → (epoch : ℕ) → Result NetworkStats Refusal
  pub peer_connect_status : Endpoint → (handle : ℕ) → Result ConnectionStatus Refusal
  pub handles : Endpoint → FixedVec ℕ most_players
  pub is_synchronized : Endpoint → Bool
  pub is_running : Endpoint → Bool
  pub is_handling_message : Endpoint → (from : ℕ) → Bool
  pub last_recv_frame : Endpoint → ℕ
  pub state : Endpoint → Phase
  pub checksums : Endpoint → Checksums

-- ---- calls that answer with a number

pub data Asked : Type 0 where
  synchronize : (now epoch nonce : ℕ) → (out : List ℕ) → Asked
  message : (from : ℕ) → (message : Message) → (payload : List ℕ) → (now epoch nonce : ℕ) → (out : List ℕ) → Asked
  datagram : (from : ℕ) → (datagram : List ℕ) → (now epoch nonce : ℕ) → (out : List ℕ) → Asked
  act : (statuses : Statuses) → (now epoch nonce : ℕ) → (out : List ℕ) → Asked
  send_input : (frame : ℕ) → (bytes : List ℕ) → (statuses : Statuses) → (now : ℕ) → (out : List ℕ) → Asked
  disconnect : (now : ℕ) → Asked
  send_checksum_report : (frame : ℕ) → (checksum : Wide) → (now : ℕ) → (out : List ℕ) → Asked
  update_local_frame_advantage : (local : ℕ) → Asked
  take_messages : (out : List ℕ) → Asked
  network_stats : (epoch : ℕ) → Asked
  peer_connect_status : (handle : ℕ) → Asked
  take_messages_into : (out into : List ℕ) → Asked

-- its arguments are values of the code's types
abbrev pub IsAsked : Asked → Type 0
IsAsked (Asked.synchronize now epoch nonce out) = IsU64 now × IsU64 epoch × IsU32 nonce × IsSlice out
IsAsked (Asked.message from m payload now epoch nonce out) = IsU32 from × IsMessage m × IsSlice payload × IsU64 now × IsU64 epoch × IsU32 nonce × IsSlice out
IsAsked (Asked.datagram from d now epoch nonce out) = IsU32 from × IsSlice d × IsU64 now × IsU64 epoch × IsU32 nonce × IsSlice out
IsAsked (Asked.act statuses now epoch nonce out) = IsStatuses statuses × IsU64 now × IsU64 epoch × IsU32 nonce × IsSlice out
IsAsked (Asked.send_input frame bytes statuses now out) = IsU32 frame × IsSlice bytes × IsStatuses statuses × IsU64 now × IsSlice out
IsAsked (Asked.disconnect now) = IsU64 now
IsAsked (Asked.send_checksum_report frame checksum now out) = IsU32 frame × FitsWide checksum × IsU64 now × IsSlice out
IsAsked (Asked.update_local_frame_advantage local) = IsU32 local
IsAsked (Asked.take_messages out) = IsSlice out
IsAsked (Asked.network_stats epoch) = IsU64 epoch
IsAsked (Asked.peer_connect_status handle) = IsU64 handle
IsAsked (Asked.take_messages_into out into) = IsSlice out × IsSlice into

-- which function is called, by a number: 0 to 2 are those of a handshake, which it begins or which bring a message
abbrev pub function_of : Asked → ℕ
function_of (Asked.synchronize now epoch nonce out) = 0
function_of (Asked.message from m payload now epoch nonce out) = 1
function_of (Asked.datagram from d now epoch nonce out) = 2
function_of (Asked.act statuses now epoch nonce out) = 3
function_of (Asked.send_input frame bytes statuses now out) = 4
function_of (Asked.disconnect now) = 5
function_of (Asked.send_checksum_report frame checksum now out) = 6
function_of (Asked.update_local_frame_advantage local) = 7
function_of (Asked.take_messages out) = 8
function_of (Asked.network_stats epoch) = 9
function_of (Asked.peer_connect_status handle) = 10
function_of (Asked.take_messages_into out into) = 11

-- as a call of the rules
abbrev pub call_of : Asked → Call
call_of (Asked.synchronize now epoch nonce out) = Call.synchronize now epoch nonce (length out)
call_of (Asked.message from m payload now epoch nonce out) = Call.message from m.reports.count (meant m payload) now epoch nonce (length out)
call_of (Asked.datagram from d now epoch nonce out) = Call.datagram from d now epoch nonce (length out)
call_of (Asked.act statuses now epoch nonce out) = Call.act statuses.count (held_statuses statuses) now epoch nonce (length out)
call_of (Asked.send_input frame bytes statuses now out) = Call.send_input frame bytes statuses.count (held_statuses statuses) now (length out)
call_of (Asked.disconnect now) = Call.disconnect now
call_of (Asked.send_checksum_report frame checksum now out) = Call.send_checksum_report frame checksum now (length out)
call_of (Asked.update_local_frame_advantage local) = Call.update_local_frame_advantage local
call_of (Asked.take_messages out) = Call.take_messages (length out)
call_of (Asked.network_stats epoch) = Call.network_stats epoch
call_of (Asked.peer_connect_status handle) = Call.peer_connect_status handle
call_of (Asked.take_messages_into out into) = Call.take_messages (shorter out into)

-- a version's number for it, called on an endpoint, and the endpoint after it; two of the functions hand none back
abbrev pub number_from : Version → Endpoint → Asked → ℕ
number_from v e (Asked.synchronize now epoch nonce out) = number_of (v.synchronize e now epoch nonce out).0.answer
number_from v e (Asked.message from m payload now epoch nonce out) = number_of (v.message e from m payload now epoch nonce out).0.answer
number_from v e (Asked.datagram from d now epoch nonce out) = number_of (v.datagram e from d now epoch nonce out).0.answer
number_from v e (Asked.act statuses now epoch nonce out) = number_of (v.act e statuses now epoch nonce out).0.answer
number_from v e (Asked.send_input frame bytes statuses now out) = number_of (v.send_input e frame bytes statuses now out).0.answer
number_from v e (Asked.disconnect now) = number_of (v.disconnect e now).answer
number_from v e (Asked.send_checksum_report frame checksum now out) = number_of (v.send_checksum_report e frame checksum now out).0.answer
number_from v e (Asked.update_local_frame_advantage local) = number_of (v.update_local_frame_advantage e local).answer
number_from v e (Asked.take_messages out) = number_of (v.take_messages e out).answer
number_from v e (Asked.network_stats epoch) = (shown_stats (v.network_stats e epoch)).0
number_from v e (Asked.peer_connect_status handle) = (shown_status (v.peer_connect_status e handle)).0
number_from v e (Asked.take_messages_into out into) = number_of (answer_in (v.take_messages_into e out into).0.answer)

abbrev pub endpoint_after : Version → Endpoint → Asked → Endpoint
endpoint_after v e (Asked.synchronize now epoch nonce out) = (v.synchronize e now epoch nonce out).0.endpoint
endpoint_after v e (Asked.message from m payload now epoch nonce out) = (v.message e from m payload now epoch nonce out).0.endpoint
endpoint_after v e (Asked.datagram from d now epoch nonce out) = (v.datagram e from d now epoch nonce out).0.endpoint
endpoint_after v e (Asked.act statuses now epoch nonce out) = (v.act e statuses now epoch nonce out).0.endpoint
endpoint_after v e (Asked.send_input frame bytes statuses now out) = (v.send_input e frame bytes statuses now out).0.endpoint
endpoint_after v e (Asked.disconnect now) = (v.disconnect e now).endpoint
endpoint_after v e (Asked.send_checksum_report frame checksum now out) = (v.send_checksum_report e frame checksum now out).0.endpoint
endpoint_after v e (Asked.update_local_frame_advantage local) = (v.update_local_frame_advantage e local).endpoint
endpoint_after v e (Asked.take_messages out) = (v.take_messages e out).endpoint
endpoint_after v e (Asked.network_stats epoch) = e
endpoint_after v e (Asked.peer_connect_status handle) = e
endpoint_after v e (Asked.take_messages_into out into) = (v.take_messages_into e out into).0.endpoint

-- the bytes of the buffer that is lent to be queued in, after the call; none where no such buffer is lent
abbrev pub buffer_after : Version → Endpoint → Asked → List ℕ
buffer_after v e (Asked.synchronize now epoch nonce out) = (v.synchronize e now epoch nonce out).1
buffer_after v e (Asked.message from m payload now epoch nonce out) = (v.message e from m payload now epoch nonce out).1
buffer_after v e (Asked.datagram from d now epoch nonce out) = (v.datagram e from d now epoch nonce out).1
buffer_after v e (Asked.act statuses now epoch nonce out) = (v.act e statuses now epoch nonce out).1
buffer_after v e (Asked.send_input frame bytes statuses now out) = (v.send_input e frame bytes statuses now out).1
buffer_after v e (Asked.disconnect now) = []
buffer_after v e (Asked.send_checksum_report frame checksum now out) = (v.send_checksum_report e frame checksum now out).1
buffer_after v e (Asked.update_local_frame_advantage local) = []
buffer_after v e (Asked.take_messages out) = []
buffer_after v e (Asked.network_stats epoch) = []
buffer_after v e (Asked.peer_connect_status handle) = []
buffer_after v e (Asked.take_messages_into out into) = []

-- the bytes that the call queued in it: those behind what was queued before, up to what is queued after it
abbrev pub queued_by : Version → Endpoint → Asked → List ℕ
queued_by v e c = take ((endpoint_after v e c).queued - e.queued) (drop e.queued (buffer_after v e c))
