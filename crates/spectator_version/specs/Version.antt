-- A version of the session's public functions, and its calls: what each is given, which rule it is a call of, and what it hands back.
use Rattle.std.specs.Prelude.{List, [], ℕ, ◌-◌, length, take, drop, Result}
use Rattle.answer.specs.declared.Refusal.{Refusal}
use Rattle.codec.specs.Message.{meant}
use Rattle.codec.specs.declared.Message.{Message}
use Rattle.endpoint_invariant.specs.Typed.{IsU32, IsU64}
use Rattle.quality.specs.declared.NetworkStats.{NetworkStats}
use Rattle.endpoint.specs.Taken.{shorter, count_in}
use Rattle.endpoint_version.specs.Values.{IsSlice, IsMessage}
use Rattle.spectator_rules.specs.declared.SessionSetup.{SessionSetup}
use Rattle.spectator_rules.specs.declared.SessionState.{SessionState}
use Rattle.spectator_rules.specs.Call.{Call}
use Rattle.spectator.specs.declared.SpectatorSession.{SpectatorSession}
use Rattle.spectator.specs.declared.Ended.{Ended}
use Rattle.spectator.specs.declared.advancing.Advanced.{Advanced}
use Rattle.spectator.specs.declared.getters.TakenEvents.{TakenEvents}
use Rattle.spectator.specs.declared.hosting.TakenMessages.{TakenMessages}
use Rattle.spectator.specs.declared.polling.Polled.{Polled}

-- one function for each public function of the session, with its arguments and its answer. Of a buffer that is lent to be written, `out` or `into`, the bytes that it
-- has before the call are an argument, and those that it has after it stand beside the answer
pub record Version : Type 0 where
  pub new : SessionSetup → (now : ℕ) → Ended
  pub synchronize : SpectatorSession → (now epoch nonce : ℕ) → (out : List ℕ) → Ended × List ℕ
  pub message : SpectatorSession → (from : ℕ) → Message → (payload : List ℕ) → (now epoch nonce : ℕ) → (out : List ℕ) → Ended × List ℕ
  pub datagram : SpectatorSession → (from : ℕ) → (datagram : List ℕ) → (now epoch nonce : ℕ) → (out : List ℕ) → Ended × List ℕ
  pub take_messages : SpectatorSession → (out : List ℕ) → Ended
  pub messages : SpectatorSession → (out : List ℕ) → List ℕ
  pub take_messages_into : SpectatorSession → (out into : List ℕ) → TakenMessages × List ℕ
  pub network_stats : SpectatorSession → (epoch : ℕ) → Result NetworkStats Refusal
  pub poll_remote_clients : SpectatorSession → (now epoch nonce : ℕ) → (out : List ℕ) → Polled × List ℕ
  pub advance_frame : SpectatorSession → Advanced
  pub take_events : SpectatorSession → TakenEvents
  pub frames_behind_host : SpectatorSession → Result ℕ Refusal
  pub current_state : SpectatorSession → SessionState
  pub current_frame : SpectatorSession → ℕ
  pub num_players : SpectatorSession → ℕ

-- ---- calls that hand a session back

pub data Asked : Type 0 where
  synchronize : (now epoch nonce : ℕ) → (out : List ℕ) → Asked
  message : (from : ℕ) → (message : Message) → (payload : List ℕ) → (now epoch nonce : ℕ) → (out : List ℕ) → Asked
  datagram : (from : ℕ) → (datagram : List ℕ) → (now epoch nonce : ℕ) → (out : List ℕ) → Asked
  take_messages : (out : List ℕ) → Asked
  take_messages_into : (out into : List ℕ) → Asked
  poll_remote_clients : (now epoch nonce : ℕ) → (out : List ℕ) → Asked
  advance_frame : Asked
  take_events : Asked

-- its arguments are values of the code's types
abbrev pub IsAsked : Asked → Type 0
IsAsked (Asked.synchronize now epoch nonce out) = IsU64 now × IsU64 epoch × IsU32 nonce × IsSlice out
IsAsked (Asked.message from m payload now epoch nonce out) = IsU32 from × IsMessage m × IsSlice payload × IsU64 now × IsU64 epoch × IsU32 nonce × IsSlice out
IsAsked (Asked.datagram from d now epoch nonce out) = IsU32 from × IsSlice d × IsU64 now × IsU64 epoch × IsU32 nonce × IsSlice out
IsAsked (Asked.take_messages out) = IsSlice out
IsAsked (Asked.take_messages_into out into) = IsSlice out × IsSlice into
IsAsked (Asked.poll_remote_clients now epoch nonce out) = IsU64 now × IsU64 epoch × IsU32 nonce × IsSlice out
IsAsked Asked.advance_frame = Unit {0}
IsAsked Asked.take_events = Unit {0}

-- as a call of the rules
abbrev pub call_of : Asked → Call
call_of (Asked.synchronize now epoch nonce out) = Call.synchronize now epoch nonce (length out)
call_of (Asked.message from m payload now epoch nonce out) = Call.message from m.reports.count (meant m payload) now epoch nonce (length out)
call_of (Asked.datagram from d now epoch nonce out) = Call.datagram from d now epoch nonce (length out)
call_of (Asked.take_messages out) = Call.take_messages (length out)
call_of (Asked.take_messages_into out into) = Call.take_messages (shorter out into)
call_of (Asked.poll_remote_clients now epoch nonce out) = Call.poll_remote_clients now epoch nonce (length out)
call_of Asked.advance_frame = Call.advance_frame
call_of Asked.take_events = Call.take_events

-- the session after it
abbrev pub session_after : Version → SpectatorSession → Asked → SpectatorSession
session_after v s (Asked.synchronize now epoch nonce out) = (v.synchronize s now epoch nonce out).0.session
session_after v s (Asked.message from m payload now epoch nonce out) = (v.message s from m payload now epoch nonce out).0.session
session_after v s (Asked.datagram from d now epoch nonce out) = (v.datagram s from d now epoch nonce out).0.session
session_after v s (Asked.take_messages out) = (v.take_messages s out).session
session_after v s (Asked.take_messages_into out into) = (v.take_messages_into s out into).0.session
session_after v s (Asked.poll_remote_clients now epoch nonce out) = (v.poll_remote_clients s now epoch nonce out).0.session
session_after v s Asked.advance_frame = (v.advance_frame s).session
session_after v s Asked.take_events = (v.take_events s).session

-- the bytes of the buffer that is lent to be queued in, after the call; none where no such buffer is lent
abbrev pub buffer_after : Version → SpectatorSession → Asked → List ℕ
buffer_after v s (Asked.synchronize now epoch nonce out) = (v.synchronize s now epoch nonce out).1
buffer_after v s (Asked.message from m payload now epoch nonce out) = (v.message s from m payload now epoch nonce out).1
buffer_after v s (Asked.datagram from d now epoch nonce out) = (v.datagram s from d now epoch nonce out).1
buffer_after v s (Asked.take_messages out) = []
buffer_after v s (Asked.take_messages_into out into) = []
buffer_after v s (Asked.poll_remote_clients now epoch nonce out) = (v.poll_remote_clients s now epoch nonce out).1
buffer_after v s Asked.advance_frame = []
buffer_after v s Asked.take_events = []

-- how many bytes stood queued in it when the call had queued its own: a poll hands them all back, and says how many they are
abbrev pub filled_after : Version → SpectatorSession → Asked → ℕ
filled_after v s (Asked.synchronize now epoch nonce out) = (session_after v s (Asked.synchronize now epoch nonce out)).host.queued
filled_after v s (Asked.message from m payload now epoch nonce out) = (session_after v s (Asked.message from m payload now epoch nonce out)).host.queued
filled_after v s (Asked.datagram from d now epoch nonce out) = (session_after v s (Asked.datagram from d now epoch nonce out)).host.queued
filled_after v s (Asked.take_messages out) = 0
filled_after v s (Asked.take_messages_into out into) = 0
filled_after v s (Asked.poll_remote_clients now epoch nonce out) = count_in (v.poll_remote_clients s now epoch nonce out).0.answer
filled_after v s Asked.advance_frame = 0
filled_after v s Asked.take_events = 0

-- the bytes that the call queued: those behind what was queued before
abbrev pub queued_by : Version → SpectatorSession → Asked → List ℕ
queued_by v s c = take (filled_after v s c - s.host.queued) (drop s.host.queued (buffer_after v s c))
