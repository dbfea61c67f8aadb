-- Worked examples of a session, computed from `step` on a fresh one: what the source does, with the changes that the rules state (S-1 to S-25).
use mathlib.Core.Bool.{Bool, true, false}
use mathlib.Core.List.{List, [], ◌∷◌}
use mathlib.Core.Path.{◌≡◌, refl, ap, ◌∙◌}
use Prim.Native.Nat.{ℕ, ◌+◌, ◌-◌, ◌^◌}
use lib.ListN.{length, replicate}
use Rattle.base.specs.Keyed.{kept, has, without}
use Rattle.base.specs.Last.{last_of}
use Rattle.frame.specs.Bias.{bias32, null_frame}
use Rattle.packing.specs.Packing.{xors, frames_of, unpack, pack, decodable_length, decodable}
use Rattle.packing.specs.Pad.{zeros, padded}
use Rattle.pending.specs.Pending.{drop_to, last_to, room}
use Rattle.history.specs.History.{blank_frame, highest, newest_of, found_in, reference_frame, at_line, above, numbered, packet_of, taken_in}
use Rattle.nonces.specs.Nonces.{issued, following}
use Rattle.status.specs.Status.{default_status, reported, merged}
use Rattle.status.specs.Statuses.{merged_all, default_statuses}
use Rattle.codec.specs.Message.{Wire}
use Rattle.codec.specs.declared.StatusReport.{StatusReport}
use Rattle.codec.specs.Read.{body_only}
use Rattle.codec.specs.declared.MessageBody.TheVariants.{SyncRequest, SyncReply, Input, QualityReply}
use Rattle.events.specs.declared.Event.{Event}
use Rattle.events.specs.Events.{has_room, input_of, without_input, input_entry, announced, announced_each}
use Rattle.timers.specs.Timers.{made_at}
use Rattle.endpoint_rules.specs.declared.Phase.TheVariants as Phase
use Rattle.setup.specs.declared.DesyncDetection.TheVariants.{Off}
use Rattle.setup.specs.Setup.{choices_with, bad_setup, any_above, any_twice, inserted, sorted, terms_with}
use Rattle.endpoint_rules.specs.Seen.{Seen, made, with_phase, with_sync, with_events as with_host_events, with_quality, with_queued}
use Rattle.outbox.specs.Outbox.{queue_size}
use Rattle.endpoint_rules.specs.Did.{refused as host_refused, tested, queue_wire, done}
use Rattle.endpoint_rules.specs.Room.{buffer_full, is_full}
use Rattle.endpoint_rules.specs.Handshake.{nonce_issued, request, started, synchronized, counted, running, replied, on_sync_reply}
use Rattle.endpoint_rules.specs.Sending.{dropped_to, acknowledged, pending_queued}
use Rattle.endpoint_rules.specs.Receiving.{taken, received_if, receive, discarded, packet_overflows, statuses_merged, informed, inputs_received, input_taken, input_unless, on_input}
use Rattle.endpoint_rules.specs.Act.{resent, report_sent, kept_alive, interrupted, timed_out, acted}
use Rattle.quality.specs.Quality.{clamped, round_trip, trip_noted}
use Rattle.quality.specs.Advantage.{advantage_of, advantage_overflows}
use Rattle.endpoint_rules.specs.Reports.{report_queued, round_trip_noted, on_quality_reply, stats_of}
use Rattle.endpoint_rules.specs.Advantage.{local_advantage, advantage_updated}
use Rattle.endpoint_rules.specs.Value.{filled_part}
use Rattle.endpoint_rules.specs.Step.{synchronize_step, ignored, resumed, heard, on_body, reacted, message_step, act_step, advantage_step, take_step}
use Rattle.endpoint_rules.proofs.Bouts.{fr, wire, none, epoch_at}
use Rattle.spectator_rules.specs.declared.InputStatus.TheVariants.{Confirmed, Disconnected}
use Rattle.spectator_rules.specs.declared.SessionEntry.{SessionEntry}
use Rattle.spectator_rules.specs.declared.SessionEvent.{SessionEvent}
use Rattle.spectator_rules.specs.declared.SessionSetup.{SessionSetup}
use Rattle.spectator_rules.specs.declared.SessionState.TheVariants.{Synchronizing, Running}
use Rattle.spectator_rules.specs.declared.SyncedInput.{SyncedInput}
use Rattle.spectator_rules.specs.Setup.{host_setup, bad_limits, bad_session}
use Rattle.spectator_rules.specs.Watch.{Watch, made_watch, with_host, with_state, with_current, with_newest}
use Rattle.spectator_rules.specs.Inputs.{blank_input, fresh_inputs, input_stored, player_input_at}
use Rattle.spectator_rules.specs.Handling.{event_added, announce, input_handled, handled, handled_all}
use Rattle.spectator_rules.specs.Advance.{frames_to_advance, frames_by, frames_refusal_by, synced_at, frame_inputs_by, requests_by, requests_of, advance_refusal}
use Rattle.spectator_rules.specs.Call.{Call}
use Rattle.spectator_rules.specs.Step.{fresh, refused, decided, by_host, host_acts, host_takes, poll_refusal, polled, poll_step, advance_step, frames_behind_step, step}
use Rattle.spectator_rules.specs.Value.{Value, value_of}

-- ---- the session of the examples

-- two players, one byte each, peer 3; slots, session events, max_frames_behind and catchup_speed as given
abbrev pub setup_with : (slots events behind speed : ℕ) → SessionSetup
setup_with slots events behind speed =
    record {
      num_players = 2;
      input_size = 1;
      max_prediction = 2;
      disconnect_timeout = 100000;
      disconnect_notify_start = 50000;
      fps = 60;
      magic = 7;
      peer_addr = 3;
      choices = choices_with Off;
      limits = record { slots = slots; session_events = events; max_frames_behind = behind; catchup_speed = speed };
    }

-- made at clock 1000
abbrev pub new : (slots events behind speed : ℕ) → Watch
new slots events behind speed = (fresh (setup_with slots events behind speed) 1000).1

-- ---- short words for calls; more are those of the bouts

abbrev pub report : Bool → ℕ → StatusReport
report disconnected frame = record { disconnected = disconnected; last_frame = frame }

-- a message from a peer at a clock, with a new nonce
abbrev pub hand_from : (from : ℕ) → Wire → (now nonce : ℕ) → Call
hand_from from w now nonce = Call.message from (length w.reports) w now (epoch_at now) nonce 65536

abbrev pub reply : (nonce next : ℕ) → Call
reply nonce next = hand_from 3 (wire (SyncReply nonce) [] []) 1000 next

-- an Input at clock 1000, acknowledging nothing: two bytes for each frame
abbrev pub packet : (start : ℕ) → List StatusReport → List ℕ → Call
packet start reports payload = hand_from 3 (wire (Input false start null_frame) reports payload) 1000 0

abbrev pub poll_at : (now buffer : ℕ) → Call
poll_at now buffer = Call.poll_remote_clients now (epoch_at now) 99 buffer

abbrev pub poll : Call
poll = poll_at 1000 65536

-- calls one after the other
abbrev pub after : List Call → Watch → Watch
after [] w = w
after (c ∷ cs) w = after cs (step c w).after

-- a request and five replies
abbrev pub handshake : List Call
handshake = Call.synchronize 1000 (epoch_at 1000) 1 65536 ∷ reply 1 2 ∷ reply 2 3 ∷ reply 3 4 ∷ reply 4 5 ∷ reply 5 6 ∷ []

-- the host in Running since clock 1000, nothing queued
abbrev ready_host : Seen
ready_host =
    record {
      setup = record { players = 2; handles = 0 ∷ 1 ∷ []; local_players = 1; input_size = 1; max_prediction = 2; disconnect_timeout = 100000; notify_start = 50000; fps = 60; magic = 7; peer = 3; choices = choices_with Off };
      carried = record { sender = record { pending = []; acked = blank_frame }; receiver = record { history = blank_frame ∷ [] } };
      phase = Phase.Running;
      sync = record { remaining = 0; nonces = []; remote_magic = 9 };
      clocks = made_at 1000;
      flags = record { disconnect_notify_sent = false; disconnect_event_sent = false };
      quality = record { local_frame_advantage = bias32; remote_frame_advantage = bias32; round_trip_time = 0; stats_start_time = epoch_at 1000 };
      statuses = record { disconnected = false; last_frame = null_frame } ∷ record { disconnected = false; last_frame = null_frame } ∷ [];
      checksums = [];
      events = [];
      queued = 0;
    }

-- a session in Running, its events taken: the handshake comes to it with a poll (`handshakes`)
abbrev pub ready : (slots events behind speed : ℕ) → Watch
ready slots events behind speed =
    record {
      host = ready_host;
      limits = record { slots = slots; session_events = events; max_frames_behind = behind; catchup_speed = speed };
      state = Running;
      inputs = fresh_inputs slots;
      statuses = ready_host.statuses;
      events = [];
      current = null_frame;
      newest = null_frame;
    }

-- the session before that poll: the host holds its events, and five requests are queued
abbrev pub synced : (slots events behind speed : ℕ) → Watch
synced slots events behind speed =
    let w : Watch = ready slots events behind speed in
    with_state Synchronizing (with_host (with_host_events (without_input (Event.Synchronizing 5 1) ∷ without_input (Event.Synchronizing 5 2) ∷ without_input (Event.Synchronizing 5 3) ∷ without_input (Event.Synchronizing 5 4) ∷ without_input Event.Synchronized ∷ []) (with_queued 50 w.host)) w)

-- an event of peer 3
abbrev by3 : SessionEvent → SessionEntry
by3 event = record { addr = 3; event = event }

-- one byte as a player's input
abbrev byte : ℕ → List ℕ
byte b = b ∷ 0 ∷ 0 ∷ 0 ∷ 0 ∷ 0 ∷ 0 ∷ 0 ∷ 0 ∷ 0 ∷ 0 ∷ 0 ∷ 0 ∷ 0 ∷ 0 ∷ 0 ∷ []

abbrev confirmed : ℕ → SyncedInput
confirmed b = record { input = byte b; status = Confirmed }

abbrev gone : ℕ → SyncedInput
gone b = record { input = byte b; status = Disconnected }

abbrev advance : Watch → ℕ × Value
advance w = ((step Call.advance_frame w).answer, value_of Call.advance_frame w)

-- ---- setup

-- within the ceilings at both ends; 8 before 1
setups :
    ((fresh (setup_with 2 1 0 0) 1000).0 ≡ 0)
    × ((fresh (setup_with 64 128 65535 65535) 1000).0 ≡ 0)
    × ((fresh (setup_with 1 1 0 0) 1000).0 ≡ 1)
    × ((fresh (setup_with 65 1 0 0) 1000).0 ≡ 1)
    × ((fresh (setup_with 2 0 0 0) 1000).0 ≡ 1)
    × ((fresh (setup_with 2 129 0 0) 1000).0 ≡ 1)
    × ((fresh (setup_with 2 1 65536 0) 1000).0 ≡ 1)
    × ((fresh (setup_with 2 1 0 65536) 1000).0 ≡ 1)
    × ((fresh (setup_with 1 1 0 0) (2 ^ 62)).0 ≡ 8)
    -- its handles are 0 up to players - 1, and neither side has a frame
    × ((new 2 1 0 0).host.setup.handles ≡ 0 ∷ 1 ∷ [])
    × ((new 2 1 0 0).current ≡ null_frame)
    × ((new 2 1 0 0).newest ≡ null_frame)
unfolding kept has without xors frames_of unpack pack decodable_length decodable zeros padded drop_to last_to room blank_frame highest newest_of found_in at_line above numbered packet_of taken_in issued last_of default_status reported merged merged_all default_statuses has_room input_of input_entry announced bad_setup any_above any_twice inserted sorted terms_with made host_refused tested queue_wire queue_size done buffer_full is_full nonce_issued request started synchronized counted running replied on_sync_reply dropped_to acknowledged pending_queued reference_frame taken received_if receive announced_each discarded packet_overflows statuses_merged informed inputs_received input_taken input_unless on_input resent report_sent kept_alive interrupted timed_out acted clamped report_queued round_trip round_trip_noted on_quality_reply advantage_of advantage_overflows local_advantage advantage_updated synchronize_step ignored resumed heard on_body reacted message_step act_step advantage_step take_step stats_of filled_part host_setup bad_limits bad_session made_watch blank_input fresh_inputs input_stored player_input_at event_added announce input_handled handled handled_all frames_to_advance frames_by frames_refusal_by synced_at frame_inputs_by requests_by requests_of advance_refusal fresh refused decided by_host host_acts host_takes poll_refusal polled poll_step advance_step frames_behind_step step value_of
setups = (refl, refl, refl, refl, refl, refl, refl, refl, refl, refl, refl, refl)

-- ---- handshake

-- the session after the request and two of the replies: each half of the handshake is computed from a state that is written out
abbrev halfway : (slots events behind speed : ℕ) → Watch
halfway slots events behind speed =
    let w : Watch = ready slots events behind speed in
    with_state Synchronizing
    (with_host
    (with_phase Phase.Synchronizing
    (with_sync (record { remaining = 3; nonces = 3 ∷ []; remote_magic = 0 })
    (with_host_events (without_input (Event.Synchronizing 5 1) ∷ without_input (Event.Synchronizing 5 2) ∷ []) (with_queued 30 w.host))))
    w)

half : (slots events behind speed : ℕ) → after (Call.synchronize 1000 (epoch_at 1000) 1 65536 ∷ reply 1 2 ∷ reply 2 3 ∷ []) (new slots events behind speed) ≡ halfway slots events behind speed
unfolding kept has without xors frames_of unpack pack decodable_length decodable zeros padded drop_to last_to room blank_frame highest newest_of found_in at_line above numbered packet_of taken_in issued last_of default_status reported merged merged_all default_statuses has_room input_of input_entry announced bad_setup any_above any_twice inserted sorted terms_with made host_refused tested queue_wire queue_size done buffer_full is_full nonce_issued request started synchronized counted running replied on_sync_reply dropped_to acknowledged pending_queued reference_frame taken received_if receive announced_each discarded packet_overflows statuses_merged informed inputs_received input_taken input_unless on_input resent report_sent kept_alive interrupted timed_out acted clamped report_queued round_trip round_trip_noted on_quality_reply advantage_of advantage_overflows local_advantage advantage_updated synchronize_step ignored resumed heard on_body reacted message_step act_step advantage_step take_step stats_of filled_part host_setup bad_limits bad_session made_watch blank_input fresh_inputs input_stored player_input_at event_added announce input_handled handled handled_all frames_to_advance frames_by frames_refusal_by synced_at frame_inputs_by requests_by requests_of advance_refusal fresh refused decided by_host host_acts host_takes poll_refusal polled poll_step advance_step frames_behind_step step value_of
half slots events behind speed = refl

rest : (slots events behind speed : ℕ) → after (reply 3 4 ∷ reply 4 5 ∷ reply 5 6 ∷ []) (halfway slots events behind speed) ≡ synced slots events behind speed
unfolding kept has without xors frames_of unpack pack decodable_length decodable zeros padded drop_to last_to room blank_frame highest newest_of found_in at_line above numbered packet_of taken_in issued last_of default_status reported merged merged_all default_statuses has_room input_of input_entry announced bad_setup any_above any_twice inserted sorted terms_with made host_refused tested queue_wire queue_size done buffer_full is_full nonce_issued request started synchronized counted running replied on_sync_reply dropped_to acknowledged pending_queued reference_frame taken received_if receive announced_each discarded packet_overflows statuses_merged informed inputs_received input_taken input_unless on_input resent report_sent kept_alive interrupted timed_out acted clamped report_queued round_trip round_trip_noted on_quality_reply advantage_of advantage_overflows local_advantage advantage_updated synchronize_step ignored resumed heard on_body reacted message_step act_step advantage_step take_step stats_of filled_part host_setup bad_limits bad_session made_watch blank_input fresh_inputs input_stored player_input_at event_added announce input_handled handled handled_all frames_to_advance frames_by frames_refusal_by synced_at frame_inputs_by requests_by requests_of advance_refusal fresh refused decided by_host host_acts host_takes poll_refusal polled poll_step advance_step frames_behind_step step value_of
rest slots events behind speed = refl

pub shaken : (slots events behind speed : ℕ) → after handshake (new slots events behind speed) ≡ synced slots events behind speed
shaken slots events behind speed = ap (after (reply 3 4 ∷ reply 4 5 ∷ reply 5 6 ∷ [])) (half slots events behind speed) ∙ rest slots events behind speed

-- Running comes with the poll that handles Synchronized, not with the fifth reply; each event has the host's peer number
handshakes :
    ((step Call.advance_frame (new 4 8 2 1)).answer ≡ 14)
    × (after handshake (new 4 8 2 1) ≡ synced 4 8 2 1)
    -- the host is in Running, the session not yet
    × ((step Call.advance_frame (synced 4 8 2 1)).answer ≡ 14)
    × ((step poll (synced 4 8 2 1)).after.events
    ≡ by3 (SessionEvent.Synchronizing 5 1)
    ∷ by3 (SessionEvent.Synchronizing 5 2)
    ∷ by3 (SessionEvent.Synchronizing 5 3)
    ∷ by3 (SessionEvent.Synchronizing 5 4)
    ∷ by3 SessionEvent.Synchronized
    ∷ [])
    × (after (poll ∷ Call.take_events ∷ []) (synced 4 8 2 1) ≡ ready 4 8 2 1)
    -- beyond M the oldest are dropped
    × ((step poll (synced 4 2 2 1)).after.events ≡ by3 (SessionEvent.Synchronizing 5 4) ∷ by3 SessionEvent.Synchronized ∷ [])
    -- another peer's message is ignored, 0; what the host refuses, the session refuses
    × (step (hand_from 4 (wire (SyncReply 1) [] []) 1000 2) (after (Call.synchronize 1000 (epoch_at 1000) 1 65536 ∷ []) (new 4 8 2 1))
    ≡ record { answer = 0; after = after (Call.synchronize 1000 (epoch_at 1000) 1 65536 ∷ []) (new 4 8 2 1); out = [] })
    × ((step (Call.synchronize 1000 (epoch_at 1000) 1 65536) (ready 4 8 2 1)).answer ≡ 2)
    × (step (Call.synchronize 1000 (epoch_at 1000) 1 9) (new 4 8 2 1) ≡ record { answer = 5; after = new 4 8 2 1; out = [] })
unfolding kept has without xors frames_of unpack pack decodable_length decodable zeros padded drop_to last_to room blank_frame highest newest_of found_in at_line above numbered packet_of taken_in issued last_of default_status reported merged merged_all default_statuses has_room input_of input_entry announced bad_setup any_above any_twice inserted sorted terms_with made host_refused tested queue_wire queue_size done buffer_full is_full nonce_issued request started synchronized counted running replied on_sync_reply dropped_to acknowledged pending_queued reference_frame taken received_if receive announced_each discarded packet_overflows statuses_merged informed inputs_received input_taken input_unless on_input resent report_sent kept_alive interrupted timed_out acted clamped report_queued round_trip round_trip_noted on_quality_reply advantage_of advantage_overflows local_advantage advantage_updated synchronize_step ignored resumed heard on_body reacted message_step act_step advantage_step take_step stats_of filled_part host_setup bad_limits bad_session made_watch blank_input fresh_inputs input_stored player_input_at event_added announce input_handled handled handled_all frames_to_advance frames_by frames_refusal_by synced_at frame_inputs_by requests_by requests_of advance_refusal fresh refused decided by_host host_acts host_takes poll_refusal polled poll_step advance_step frames_behind_step step value_of
handshakes = (refl, shaken 4 8 2 1, refl, refl, refl, refl, refl, refl, refl)

-- ---- a host that answered once and then fell silent

-- 1 to 256 are outstanding, the last request went out at 1000, and the event of a first reply waits for a poll
abbrev silent : Watch
silent =
    let w : Watch = ready 4 8 2 1 in
    let s : Seen = with_host_events (without_input (Event.Synchronizing 5 1) ∷ []) w.host in
    with_state Synchronizing (with_host (with_phase Phase.Synchronizing (with_sync (record { remaining = 4; nonces = following 1 256; remote_magic = 0 }) s)) w)

abbrev ask : (now buffer : ℕ) → Call
ask now buffer = Call.poll_remote_clients now (epoch_at now) 257 buffer

-- at 1200 the event is handled, and nothing is due; at 1201 the request goes out too, and forgets nonce 1; without room for it all is as it was
asks_at_ceiling :
    ((step (ask 1200 10) silent).after.host.sync.nonces ≡ following 1 256)
    × ((step (ask 1200 10) silent).out ≡ [])
    × ((step (ask 1200 10) silent).after.events ≡ by3 (SessionEvent.Synchronizing 5 1) ∷ [])
    × ((step (ask 1201 10) silent).answer ≡ 0)
    × ((step (ask 1201 10) silent).out ≡ body_only 7 (SyncRequest 257) ∷ [])
    × ((step (ask 1201 10) silent).after.host.sync.nonces ≡ following 2 256)
    × ((step (ask 1201 10) silent).after.host.events ≡ [])
    × ((step (ask 1201 10) silent).after.events ≡ by3 (SessionEvent.Synchronizing 5 1) ∷ [])
    × (step (ask 1201 9) silent ≡ record { answer = 5; after = silent; out = [] })
unfolding kept without issued last_of has_room tested host_refused queue_wire queue_size done buffer_full is_full nonce_issued request acted act_step take_step event_added announce handled handled_all refused decided host_acts host_takes poll_refusal polled poll_step step
asks_at_ceiling = (refl, refl, refl, refl, refl, refl, refl, refl, refl)

-- ---- inputs

-- frames 0 and 1 of both players; player 1 is disconnected at frame 0
abbrev two : Call
two = packet (fr 0) (report false (fr 1) ∷ report true (fr 0) ∷ []) (5 ∷ 6 ∷ 7 ∷ 8 ∷ [])

abbrev unpolled : Watch
unpolled = after (two ∷ []) (ready 4 8 2 1)

abbrev stored : Watch
stored = after (poll ∷ []) unpolled

-- a round trip of 100 first: the advantage is 1 + 3 - 1
abbrev paced : Watch
paced = after (hand_from 3 (wire (QualityReply (record { low = 70900; high = 0 })) [] []) 1000 0 ∷ two ∷ poll ∷ []) (ready 4 8 2 1)

-- frame 0 stored; then player 1 is said to be gone since before it, by a packet without frames, and by one with frame 1
abbrev begun : Watch
begun = after (packet (fr 0) none (1 ∷ 1 ∷ []) ∷ poll ∷ []) (ready 4 8 9 1)

abbrev without1 : List ℕ → Call
without1 payload = packet (fr 1) (report false null_frame ∷ report true null_frame ∷ []) payload

watches :
    -- nothing is there: 16
    ((step Call.advance_frame (ready 4 8 2 1)).answer ≡ 16)
    -- a message alone brings no frame: its events wait for the poll
    × (unpolled.newest ≡ null_frame)
    × ((step Call.advance_frame unpolled).answer ≡ 16)
    × (value_of Call.frames_behind_host unpolled ≡ Value.count 0)
    × (stored.newest ≡ fr 1)
    × (stored.statuses ≡ record { disconnected = false; last_frame = fr 1 } ∷ record { disconnected = true; last_frame = fr 0 } ∷ [])
    × (value_of Call.frames_behind_host stored ≡ Value.count 2)
    -- each frame once; the player is gone from the frame after its last
    × (advance stored ≡ (0, Value.requests ((confirmed 5 ∷ confirmed 6 ∷ []) ∷ [])))
    × (advance (after (Call.advance_frame ∷ []) stored) ≡ (0, Value.requests ((confirmed 7 ∷ gone 8 ∷ []) ∷ [])))
    × ((after (Call.advance_frame ∷ Call.advance_frame ∷ []) stored).current ≡ fr 1)
    × ((step Call.advance_frame (after (Call.advance_frame ∷ Call.advance_frame ∷ []) stored)).answer ≡ 16)
    -- the host's advantage is that of the last event's frame: 1 - 1
    × (stored.host.quality.local_frame_advantage ≡ bias32)
    × (paced.host.quality.local_frame_advantage ≡ bias32 + 3)
    -- the statuses are copied with an Input event alone, and a frame is given by the session's copy
    × (advance (after (without1 [] ∷ []) begun) ≡ (0, Value.requests ((confirmed 1 ∷ confirmed 1 ∷ []) ∷ [])))
    × (advance (after (without1 [] ∷ poll ∷ []) begun) ≡ (0, Value.requests ((confirmed 1 ∷ confirmed 1 ∷ []) ∷ [])))
    × (advance (after (without1 (3 ∷ 3 ∷ []) ∷ poll ∷ []) begun) ≡ (0, Value.requests ((confirmed 1 ∷ gone 1 ∷ []) ∷ [])))
    -- the poll hands back what the host had queued for its inputs, and what its act adds
    × (value_of poll unpolled ≡ Value.part 10)
    × (stored.host.queued ≡ 0)
    × (value_of (poll_at 1201 65536) unpolled ≡ Value.part 34)
unfolding kept has without xors frames_of unpack pack decodable_length decodable zeros padded drop_to last_to room blank_frame highest newest_of found_in at_line above numbered packet_of taken_in issued last_of default_status reported merged merged_all default_statuses has_room input_of input_entry announced bad_setup any_above any_twice inserted sorted terms_with made host_refused tested queue_wire queue_size done buffer_full is_full nonce_issued request started synchronized counted running replied on_sync_reply dropped_to acknowledged pending_queued reference_frame taken received_if receive announced_each discarded packet_overflows statuses_merged informed inputs_received input_taken input_unless on_input resent report_sent kept_alive interrupted timed_out acted clamped report_queued round_trip round_trip_noted on_quality_reply advantage_of advantage_overflows local_advantage advantage_updated synchronize_step ignored resumed heard on_body reacted message_step act_step advantage_step take_step stats_of filled_part host_setup bad_limits bad_session made_watch blank_input fresh_inputs input_stored player_input_at event_added announce input_handled handled handled_all frames_to_advance frames_by frames_refusal_by synced_at frame_inputs_by requests_by requests_of advance_refusal fresh refused decided by_host host_acts host_takes poll_refusal polled poll_step advance_step frames_behind_step step value_of
watches = (refl, refl, refl, refl, refl, refl, refl, refl, refl, refl, refl, refl, refl, refl, refl, refl, refl, refl, refl)

-- ---- falling behind

-- frames 0 to 2 in a session of four slots that goes faster from max_frames_behind on
abbrev three : (behind speed : ℕ) → Watch
three behind speed = after (packet (fr 0) none (1 ∷ 1 ∷ 2 ∷ 2 ∷ 3 ∷ 3 ∷ []) ∷ poll ∷ []) (ready 4 8 behind speed)

abbrev pair : ℕ → List SyncedInput
pair b = confirmed b ∷ confirmed b ∷ []

-- frames 0 to 3, and 0 to 4, in sessions that go as fast as they can from two behind on
abbrev four : Watch
four = after (packet (fr 0) none (1 ∷ 1 ∷ 2 ∷ 2 ∷ 3 ∷ 3 ∷ 4 ∷ 4 ∷ []) ∷ poll ∷ []) (ready 4 8 2 100)

abbrev five : (slots behind speed : ℕ) → Watch
five slots behind speed = after (packet (fr 0) none (1 ∷ 1 ∷ 2 ∷ 2 ∷ 3 ∷ 3 ∷ 4 ∷ 4 ∷ 5 ∷ 5 ∷ []) ∷ poll ∷ []) (ready slots 8 behind speed)

-- frames 0 to 2 in a session of eight slots
abbrev roomy : Watch
roomy = after (packet (fr 0) none (1 ∷ 1 ∷ 2 ∷ 2 ∷ 3 ∷ 3 ∷ []) ∷ poll ∷ []) (ready 8 8 2 100)

-- a session whose first frame is 7, and then 8
abbrev seventh : Watch
seventh = after (packet (fr 7) none (1 ∷ 1 ∷ []) ∷ poll ∷ []) (ready 4 8 9 1)

abbrev eighth : Watch
eighth = after (packet (fr 8) none (1 ∷ 1 ∷ []) ∷ poll ∷ []) seventh

catches_up :
    -- three behind is not above three: one frame
    (advance (three 3 2) ≡ (0, Value.requests (pair 1 ∷ [])))
    -- it is above two: as many as the speed says, but no more than there are, and fewer than slots
    × (advance (three 2 2) ≡ (0, Value.requests (pair 1 ∷ pair 2 ∷ [])))
    × ((after (Call.advance_frame ∷ []) (three 2 2)).current ≡ fr 1)
    × (advance (three 2 100) ≡ (0, Value.requests (pair 1 ∷ pair 2 ∷ pair 3 ∷ [])))
    × (advance four ≡ (0, Value.requests (pair 1 ∷ pair 2 ∷ pair 3 ∷ [])))
    × (advance roomy ≡ (0, Value.requests (pair 1 ∷ pair 2 ∷ pair 3 ∷ [])))
    × ((step Call.advance_frame (five 4 2 100)).answer ≡ 17)
    -- a speed of 0 gives an empty list
    × (advance (three 2 0) ≡ (0, Value.requests []))
    × ((after (Call.advance_frame ∷ []) (three 2 0)).current ≡ null_frame)
    -- two slots hold frames 3 and 4: frame 0 is gone
    × (step Call.advance_frame (five 2 9 1) ≡ record { answer = 17; after = five 2 9 1; out = [] })
    -- a first frame other than 0: 16 while slot 0 is blank, then 17
    × ((step Call.advance_frame seventh).answer ≡ 16)
    × ((step Call.advance_frame eighth).answer ≡ 17)
unfolding kept has without xors frames_of unpack pack decodable_length decodable zeros padded drop_to last_to room blank_frame highest newest_of found_in at_line above numbered packet_of taken_in issued last_of default_status reported merged merged_all default_statuses has_room input_of input_entry announced bad_setup any_above any_twice inserted sorted terms_with made host_refused tested queue_wire queue_size done buffer_full is_full nonce_issued request started synchronized counted running replied on_sync_reply dropped_to acknowledged pending_queued reference_frame taken received_if receive announced_each discarded packet_overflows statuses_merged informed inputs_received input_taken input_unless on_input resent report_sent kept_alive interrupted timed_out acted clamped report_queued round_trip round_trip_noted on_quality_reply advantage_of advantage_overflows local_advantage advantage_updated synchronize_step ignored resumed heard on_body reacted message_step act_step advantage_step take_step stats_of filled_part host_setup bad_limits bad_session made_watch blank_input fresh_inputs input_stored player_input_at event_added announce input_handled handled handled_all frames_to_advance frames_by frames_refusal_by synced_at frame_inputs_by requests_by requests_of advance_refusal fresh refused decided by_host host_acts host_takes poll_refusal polled poll_step advance_step frames_behind_step step value_of
catches_up = (refl, refl, refl, refl, refl, refl, refl, refl, refl, refl, refl, refl)

-- ---- overflow

-- frame i32 max received first; and a session that stands there
abbrev farthest : Watch
farthest = after (packet (fr (2 ^ 31 - 1)) none (1 ∷ 1 ∷ []) ∷ poll ∷ []) (ready 4 8 9 1)

abbrev last : Watch
last = with_current (2 ^ 32 - 1) farthest

-- a round trip so long that the product leaves i32
abbrev slow : Watch
slow = let w : Watch = ready 4 8 9 1 in with_host (with_quality (trip_noted 71582790 w.host.quality) w.host) w

abbrev slowly : Watch
slowly = after (two ∷ poll ∷ []) slow

-- and after an advantage of 3
abbrev slowed : Watch → Watch
slowed w = after (packet (fr 2) none (1 ∷ 1 ∷ []) ∷ poll ∷ []) (with_host (with_quality (trip_noted 71582790 w.host.quality) w.host) w)

abbrev slower : Watch
slower = slowed paced

-- `paced` written out, and what is computed from it
abbrev paced_as : Watch
paced_as =
    let h : Seen = stored.host in
    with_host (with_quality (record { local_frame_advantage = bias32 + 3; remote_frame_advantage = bias32; round_trip_time = 100; stats_start_time = epoch_at 1000 }) h) stored

paced_is : paced ≡ paced_as
unfolding kept has without xors frames_of unpack pack decodable_length decodable zeros padded drop_to last_to room blank_frame highest newest_of found_in at_line above numbered packet_of taken_in issued last_of default_status reported merged merged_all default_statuses has_room input_of input_entry announced bad_setup any_above any_twice inserted sorted terms_with made host_refused tested queue_wire queue_size done buffer_full is_full nonce_issued request started synchronized counted running replied on_sync_reply dropped_to acknowledged pending_queued reference_frame taken received_if receive announced_each discarded packet_overflows statuses_merged informed inputs_received input_taken input_unless on_input resent report_sent kept_alive interrupted timed_out acted clamped report_queued round_trip round_trip_noted on_quality_reply advantage_of advantage_overflows local_advantage advantage_updated synchronize_step ignored resumed heard on_body reacted message_step act_step advantage_step take_step stats_of filled_part host_setup bad_limits bad_session made_watch blank_input fresh_inputs input_stored player_input_at event_added announce input_handled handled handled_all frames_to_advance frames_by frames_refusal_by synced_at frame_inputs_by requests_by requests_of advance_refusal fresh refused decided by_host host_acts host_takes poll_refusal polled poll_step advance_step frames_behind_step step value_of
paced_is = refl

slowed_is : ((slowed paced_as).host.quality.local_frame_advantage ≡ bias32 + 3) × ((slowed paced_as).newest ≡ fr 2)
unfolding kept has without xors frames_of unpack pack decodable_length decodable zeros padded drop_to last_to room blank_frame highest newest_of found_in at_line above numbered packet_of taken_in issued last_of default_status reported merged merged_all default_statuses has_room input_of input_entry announced bad_setup any_above any_twice inserted sorted terms_with made host_refused tested queue_wire queue_size done buffer_full is_full nonce_issued request started synchronized counted running replied on_sync_reply dropped_to acknowledged pending_queued reference_frame taken received_if receive announced_each discarded packet_overflows statuses_merged informed inputs_received input_taken input_unless on_input resent report_sent kept_alive interrupted timed_out acted clamped report_queued round_trip round_trip_noted on_quality_reply advantage_of advantage_overflows local_advantage advantage_updated synchronize_step ignored resumed heard on_body reacted message_step act_step advantage_step take_step stats_of filled_part host_setup bad_limits bad_session made_watch blank_input fresh_inputs input_stored player_input_at event_added announce input_handled handled handled_all frames_to_advance frames_by frames_refusal_by synced_at frame_inputs_by requests_by requests_of advance_refusal fresh refused decided by_host host_acts host_takes poll_refusal polled poll_step advance_step frames_behind_step step value_of
slowed_is = (refl, refl)

slower_is : (slower.host.quality.local_frame_advantage ≡ bias32 + 3) × (slower.newest ≡ fr 2)
slower_is = (ap (λ (w : Watch). (slowed w).host.quality.local_frame_advantage) paced_is ∙ slowed_is.0, ap (λ (w : Watch). (slowed w).newest) paced_is ∙ slowed_is.1)

overflows :
    -- i32 max less -1
    ((step Call.frames_behind_host farthest).answer ≡ 6)
    × ((step Call.advance_frame farthest).answer ≡ 6)
    -- current + 1, with newest - current 0
    × ((step Call.frames_behind_host last).answer ≡ 0)
    × ((step Call.advance_frame last).answer ≡ 6)
    -- 14 before 6
    × ((step Call.advance_frame (with_newest (2 ^ 32 - 1) (new 4 8 9 1))).answer ≡ 14)
    -- a refusal 6 of the advantage leaves it as it was, and all else is done
    × (slowly.host.quality.local_frame_advantage ≡ bias32)
    × (slower.host.quality.local_frame_advantage ≡ bias32 + 3)
    × (slower.newest ≡ fr 2)
    × (slowly.newest ≡ fr 1)
    × (slowly.statuses ≡ stored.statuses)
    × (slowly.inputs ≡ stored.inputs)
unfolding kept has without xors frames_of unpack pack decodable_length decodable zeros padded drop_to last_to room blank_frame highest newest_of found_in at_line above numbered packet_of taken_in issued last_of default_status reported merged merged_all default_statuses has_room input_of input_entry announced bad_setup any_above any_twice inserted sorted terms_with made host_refused tested queue_wire queue_size done buffer_full is_full nonce_issued request started synchronized counted running replied on_sync_reply dropped_to acknowledged pending_queued reference_frame taken received_if receive announced_each discarded packet_overflows statuses_merged informed inputs_received input_taken input_unless on_input resent report_sent kept_alive interrupted timed_out acted clamped report_queued round_trip round_trip_noted on_quality_reply advantage_of advantage_overflows local_advantage advantage_updated synchronize_step ignored resumed heard on_body reacted message_step act_step advantage_step take_step stats_of filled_part host_setup bad_limits bad_session made_watch blank_input fresh_inputs input_stored player_input_at event_added announce input_handled handled handled_all frames_to_advance frames_by frames_refusal_by synced_at frame_inputs_by requests_by requests_of advance_refusal fresh refused decided by_host host_acts host_takes poll_refusal polled poll_step advance_step frames_behind_step step value_of
overflows = (refl, refl, refl, refl, refl, refl, slower_is.0, slower_is.1, refl, refl, refl)

-- ---- the poll's refusals

-- 640 events held by the host
abbrev crowded : Watch
crowded = let w : Watch = ready 4 2 9 1 in with_host (with_host_events (replicate 640 (without_input Event.NetworkResumed)) w.host) w

polls :
    -- 8; a buffer shorter than what is queued already and now: 5, and nothing is handled
    (step (poll_at (2 ^ 62) 65536) unpolled ≡ record { answer = 8; after = unpolled; out = [] })
    × (step (poll_at 1000 9) unpolled ≡ record { answer = 5; after = unpolled; out = [] })
    × ((step (poll_at 1000 10) unpolled).answer ≡ 0)
    × (step (poll_at 1201 33) unpolled ≡ record { answer = 5; after = unpolled; out = [] })
    × ((step (poll_at 1201 34) unpolled).answer ≡ 0)
    -- the host's own act has no room for the event of an interruption; the poll handles all, the new one last
    × ((act_step 2 crowded.statuses 60000 130000 99 65536 crowded.host).answer ≡ 5)
    × ((step (poll_at 60000 65536) crowded).answer ≡ 0)
    × ((step (poll_at 60000 65536) crowded).after.host.events ≡ [])
    × ((step (poll_at 60000 65536) crowded).after.events ≡ by3 SessionEvent.NetworkResumed ∷ by3 (SessionEvent.NetworkInterrupted 50000) ∷ [])
unfolding kept has without xors frames_of unpack pack decodable_length decodable zeros padded drop_to last_to room blank_frame highest newest_of found_in at_line above numbered packet_of taken_in issued last_of default_status reported merged merged_all default_statuses has_room input_of input_entry announced bad_setup any_above any_twice inserted sorted terms_with made host_refused tested queue_wire queue_size done buffer_full is_full nonce_issued request started synchronized counted running replied on_sync_reply dropped_to acknowledged pending_queued reference_frame taken received_if receive announced_each discarded packet_overflows statuses_merged informed inputs_received input_taken input_unless on_input resent report_sent kept_alive interrupted timed_out acted clamped report_queued round_trip round_trip_noted on_quality_reply advantage_of advantage_overflows local_advantage advantage_updated synchronize_step ignored resumed heard on_body reacted message_step act_step advantage_step take_step stats_of filled_part host_setup bad_limits bad_session made_watch blank_input fresh_inputs input_stored player_input_at event_added announce input_handled handled handled_all frames_to_advance frames_by frames_refusal_by synced_at frame_inputs_by requests_by requests_of advance_refusal fresh refused decided by_host host_acts host_takes poll_refusal polled poll_step advance_step frames_behind_step step value_of
polls = (refl, refl, refl, refl, refl, refl, refl, refl, refl)
