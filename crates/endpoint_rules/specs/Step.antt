-- What each call does: its tests from top to bottom in their order (N-20, N-21), 8, 1, 3, 7, then whether it is ignored, then 2, 4, 12, 6, 5 (and 14 before 15); the first
-- that holds stops the call. At the bottom stands what is done where none holds. Of a lent send buffer the length is given (`buffer`), of a status list its count as
-- given, too (`count`). `e` is what the call would do; a test for room looks at it. How to read a definition: docs/API.md, "For readers of contracts".
use Rattle.std.specs.Prelude.{Bool, false, not, ◌&&◌, ◌||◌, List, [], ◌∷◌, ℕ, ◌+◌, ltb, leb, eqb, length}
use Rattle.base.specs.Pick.{pick}
use Rattle.base.specs.First.{first_of}
use Rattle.status.specs.declared.ConnectionStatus.{ConnectionStatus}
use Rattle.codec.specs.Message.{Wire}
use Rattle.codec.specs.Read.{datagram, number_in, wire_in}
use Rattle.codec.specs.declared.Wide.{Wide}
use Rattle.codec.specs.declared.MessageBody.{MessageBody}
use Rattle.codec.specs.declared.MessageBody.TheVariants.{SyncRequest, SyncReply, Input, InputAck, QualityReport, QualityReply, ChecksumReport, KeepAlive}
use Rattle.events.specs.declared.Event.TheVariants as Event
use Rattle.setup.specs.declared.Setup.{Setup}
use Rattle.endpoint_rules.specs.declared.Phase.{Phase}
use Rattle.endpoint_rules.specs.declared.Phase.TheVariants.{Disconnected}
use Rattle.setup.specs.Setup.{bad_setup}
use Rattle.timers.specs.Timers.{bad_clock, bad_clocks}
use Rattle.endpoint_rules.specs.Seen.{Seen, made, is_initializing, is_running, is_shutdown, with_phase, with_flags, with_events, with_queued, heard_at, shutdown_at}
use Rattle.endpoint_rules.specs.Did.{Did, Effect, tested, decided, begin, change, announce_event, done}
use Rattle.endpoint_rules.specs.Did.Verdict.{refuse, ignore}
use Rattle.endpoint_rules.specs.Room.{is_full}
use Rattle.endpoint_rules.specs.Handshake.{Reaction, plainly, synchronized, on_sync_request, on_sync_reply}
use Rattle.endpoint_rules.specs.Sending.{bad_frame, bad_statuses, bad_bytes, pending_full, input_sent}
use Rattle.endpoint_rules.specs.Receiving.{input_message, on_input, on_input_ack}
use Rattle.endpoint_rules.specs.Act.{acted}
use Rattle.endpoint_rules.specs.Reports.{on_quality_report, on_quality_reply, not_synchronized, not_enough_data}
use Rattle.endpoint_rules.specs.Checksum.{on_checksum_report, checksum_sent}
use Rattle.endpoint_rules.specs.Advantage.{local_overflows, advantage_updated}
use Rattle.endpoint_rules.specs.Call.{Call}

-- new: its number, and the endpoint that is made; beside a refusal it is of no use
unfoldable pub fresh : Setup → (now : ℕ) → ℕ × Seen
fresh g now = (first_of ((bad_clock now, 8) ∷ (bad_setup g, 1) ∷ []), made g now)

-- nothing queued, nothing announced
abbrev pub changed : Seen → Did
changed s = record { answer = 0; after = s; out = []; events = [] }

-- 2 (N-2): a handshake has begun already, or can no more
abbrev pub wrong_state : Seen → Bool
wrong_state s = not (is_initializing s.phase)

unfoldable pub synchronize_step : (now epoch nonce buffer : ℕ) → Seen → Did
synchronize_step now epoch nonce buffer s =
    let e : Effect = synchronized now epoch nonce (begin s) in
    tested ((bad_clocks now epoch, refuse 8)
    ∷ (wrong_state s, refuse 2)
    ∷ (is_full buffer e, refuse 5)
    ∷ []) s (done e)

-- ---- messages

-- the filter (E-10): a wrong magic while it is on; a remote magic of 0 leaves it off
abbrev pub filtered : (remote_magic magic : ℕ) → Bool
filtered remote_magic magic = not (eqb remote_magic 0) && not (eqb magic remote_magic)

-- which message is ignored (E-11)
abbrev pub ignored_by : Phase → (peer remote_magic from magic : ℕ) → Bool
ignored_by phase peer remote_magic from magic = is_shutdown phase || not (eqb from peer) || filtered remote_magic magic

unfoldable pub ignored : (from magic : ℕ) → Seen → Bool
ignored from magic s = ignored_by s.phase s.setup.peer s.sync.remote_magic from magic

-- an announced interruption is over (E-13)
abbrev pub resumes : Seen → Bool
resumes s = is_running s.phase && s.flags.disconnect_notify_sent

unfoldable pub resumed : Effect → Effect
resumed e =
    pick (resumes e.state)
    (announce_event Event.NetworkResumed (change (λ s. with_flags (record { disconnect_notify_sent = false; disconnect_event_sent = s.flags.disconnect_event_sent }) s) e)) e

-- a message that is heard: the receive time is set (E-12)
unfoldable pub heard : (now : ℕ) → Seen → Effect
heard now s = resumed (begin (heard_at now s))

unfoldable pub on_body : MessageBody → (count : ℕ) → Wire → (now epoch nonce : ℕ) → Effect → Reaction
on_body (SyncRequest asked) count w now epoch nonce e = on_sync_request now asked e
on_body (SyncReply reply) count w now epoch nonce e = on_sync_reply now nonce w.magic reply e
on_body (Input disconnect start ack) count w now epoch nonce e = on_input now count (input_message disconnect start ack w.reports w.payload) e
on_body (InputAck ack) count w now epoch nonce e = on_input_ack ack e
on_body (QualityReport advantage ping) count w now epoch nonce e = on_quality_report now advantage ping e
on_body (QualityReply pong) count w now epoch nonce e = on_quality_reply epoch pong e
on_body (ChecksumReport checksum frame) count w now epoch nonce e = on_checksum_report frame checksum e
on_body KeepAlive count w now epoch nonce e = plainly e

-- a message that is heard: what its reaction is refused for, in order, and what it does
unfoldable pub reacted : (buffer : ℕ) → Seen → Reaction → Did
reacted buffer s r =
    tested ((r.too_long, refuse 12)
    ∷ (r.overflows, refuse 6)
    ∷ (r.store_full || is_full buffer r.effect, refuse 5)
    ∷ []) s (done r.effect)

unfoldable pub message_step : (from count : ℕ) → Wire → (now epoch nonce buffer : ℕ) → Seen → Did
message_step from count w now epoch nonce buffer s =
    tested ((bad_clocks now epoch, refuse 8)
    ∷ (ignored from w.magic s, ignore)
    ∷ []) s (reacted buffer s (on_body w.body count w now epoch nonce (heard now s)))

-- a datagram is read first: the reader's refusal comes before all (N-23)
unfoldable pub datagram_step : (from : ℕ) → (bytes : List ℕ) → (now epoch nonce buffer : ℕ) → Seen → Did
datagram_step from bytes now epoch nonce buffer s =
    let w : Wire = wire_in (datagram bytes) in
    decided (number_in (datagram bytes)) s (message_step from (length w.reports) w now epoch nonce buffer s)

-- ---- the other calls

unfoldable pub act_step : (count : ℕ) → List ConnectionStatus → (now epoch nonce buffer : ℕ) → Seen → Did
act_step count statuses now epoch nonce buffer s =
    let e : Effect = acted s.phase now epoch nonce statuses (begin s) in
    tested ((bad_clocks now epoch, refuse 8)
    ∷ (bad_statuses count s, refuse 3)
    ∷ (is_full buffer e, refuse 5)
    ∷ []) s (done e)

-- send_input (E-55 to E-59): outside Running ignored
unfoldable pub send_step : (frame : ℕ) → (bytes : List ℕ) → (count : ℕ) → List ConnectionStatus → (now buffer : ℕ) → Seen → Did
send_step frame bytes count statuses now buffer s =
    let e : Effect = input_sent now frame bytes statuses (begin s) in
    tested ((bad_clock now, refuse 8)
    ∷ (bad_statuses count s || bad_bytes bytes s, refuse 3)
    ∷ (not (is_running s.phase), ignore)
    ∷ (bad_frame frame s.carried.sender, refuse 4)
    ∷ (pending_full s || is_full buffer e, refuse 5)
    ∷ []) s (done e)

-- disconnect (E-60): the wait of 5,000 ms begins anew; in Shutdown ignored
unfoldable pub disconnect_step : (now : ℕ) → Seen → Did
disconnect_step now s =
    tested ((bad_clock now, refuse 8)
    ∷ (is_shutdown s.phase, ignore)
    ∷ []) s (changed (with_phase Disconnected (shutdown_at (now + 5000) s)))

-- in every state
unfoldable pub checksum_step : (frame : ℕ) → Wide → (now buffer : ℕ) → Seen → Did
checksum_step frame checksum now buffer s =
    let e : Effect = checksum_sent now frame checksum (begin s) in
    tested ((bad_clock now, refuse 8) ∷ (is_full buffer e, refuse 5) ∷ []) s (done e)

unfoldable pub advantage_step : (local_frame : ℕ) → Seen → Did
advantage_step local_frame s = tested ((local_overflows local_frame s, refuse 6) ∷ []) s (changed (advantage_updated local_frame s))

unfoldable pub stats_step : (epoch : ℕ) → Seen → Did
stats_step epoch s = tested ((bad_clock epoch, refuse 8) ∷ (not_synchronized s, refuse 14) ∷ (not_enough_data epoch s, refuse 15) ∷ []) s (changed s)

-- 7 (N-7): a handle that no player has
abbrev pub bad_handle : (handle : ℕ) → Seen → Bool
bad_handle handle s = leb s.setup.players handle

unfoldable pub status_step : (handle : ℕ) → Seen → Did
status_step handle s = tested ((bad_handle handle s, refuse 7) ∷ []) s (changed s)

-- 5 (E-68): the queue does not fit the buffer; in Shutdown every buffer will do (E-67)
abbrev pub short_by : Phase → (queued buffer : ℕ) → Bool
short_by phase queued buffer = not (is_shutdown phase) && ltb buffer queued

abbrev pub short_buffer : (buffer : ℕ) → Seen → Bool
short_buffer buffer s = short_by s.phase s.queued buffer

unfoldable pub take_step : (buffer : ℕ) → Seen → Did
take_step buffer s = tested ((short_buffer buffer s, refuse 5) ∷ []) s (changed (with_queued 0 s))

unfoldable pub step : Call → Seen → Did
step (Call.synchronize now epoch nonce buffer) s = synchronize_step now epoch nonce buffer s
step (Call.message from count w now epoch nonce buffer) s = message_step from count w now epoch nonce buffer s
step (Call.datagram from bytes now epoch nonce buffer) s = datagram_step from bytes now epoch nonce buffer s
step (Call.act count statuses now epoch nonce buffer) s = act_step count statuses now epoch nonce buffer s
step (Call.send_input frame bytes count statuses now buffer) s = send_step frame bytes count statuses now buffer s
step (Call.disconnect now) s = disconnect_step now s
step (Call.send_checksum_report frame checksum now buffer) s = checksum_step frame checksum now buffer s
step (Call.update_local_frame_advantage local_frame) s = advantage_step local_frame s
step (Call.network_stats epoch) s = stats_step epoch s
step (Call.peer_connect_status handle) s = status_step handle s
step Call.take_events s = changed (with_events [] s)
step (Call.take_messages buffer) s = take_step buffer s
step (Call.ask question) s = changed s
