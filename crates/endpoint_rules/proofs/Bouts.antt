-- The worked bouts P3 to P14 (B-3 to B-14), computed from `step` on a fresh endpoint that calls bring to where the bout begins.
use mathlib.Core.Bool.{true, false}
use mathlib.Core.List.{List, [], ◌∷◌, map}
use mathlib.Core.Path.{◌≡◌, refl}
use Prim.Native.Nat.{ℕ, ◌+◌, ◌-◌}
use lib.ListN.{length}
use Rattle.base.specs.Keyed.{kept, has, without}
use Rattle.base.specs.Last.{last_of}
use Rattle.frame.specs.Bias.{bias32, bias16, null_frame}
use Rattle.packing.specs.Packing.{xors, frames_of, unpack, pack, decodable_length, decodable}
use Rattle.packing.specs.Pad.{zeros, padded}
use Rattle.pending.specs.Pending.{drop_to, last_to, room}
use Rattle.history.specs.History.{blank_frame, highest, newest_of, found_in, reference_frame, at_line, above, numbered, packet_of, taken_in}
use Rattle.nonces.specs.Nonces.{issued}
use Rattle.status.specs.Status.{default_status, reported, merged}
use Rattle.status.specs.Statuses.{merged_all, default_statuses}
use Rattle.codec.specs.Message.{Wire}
use Rattle.codec.specs.declared.StatusReport.{StatusReport}
use Rattle.codec.specs.declared.MessageBody.{MessageBody}
use Rattle.codec.specs.declared.MessageBody.TheVariants.{SyncRequest, SyncReply, Input, InputAck, QualityReport, QualityReply}
use Rattle.events.specs.declared.Entry.{Entry}
use Rattle.events.specs.declared.Event.TheVariants as Event
use Rattle.events.specs.Events.{has_room, input_of, input_entry, announced, announced_each}
use Rattle.timers.specs.declared.Clocks.{Clocks}
use Rattle.setup.specs.declared.Setup.{Setup}
use Rattle.setup.specs.declared.Choices.{Choices}
use Rattle.endpoint_rules.specs.declared.Phase.TheVariants.{Disconnected, Shutdown}
use Rattle.setup.specs.declared.DesyncDetection.TheVariants.{Off}
use Rattle.setup.specs.Setup.{choices_with, bad_setup, any_above, any_twice, inserted, sorted, terms_with}
use Rattle.endpoint_rules.specs.Seen.{Seen, with_clocks, made}
use Rattle.outbox.specs.Outbox.{queue_size}
use Rattle.endpoint_rules.specs.Did.{Did, refused, tested, queue_wire, done}
use Rattle.endpoint_rules.specs.Room.{buffer_full, is_full}
use Rattle.endpoint_rules.specs.Handshake.{nonce_issued, request, started, synchronized, counted, running, replied, on_sync_reply}
use Rattle.endpoint_rules.specs.Sending.{dropped_to, acknowledged, pending_queued}
use Rattle.endpoint_rules.specs.Receiving.{taken, received_if, receive, discarded, packet_overflows, statuses_merged, informed, inputs_received, input_taken, input_unless, on_input}
use Rattle.endpoint_rules.specs.Act.{resent, report_sent, kept_alive, interrupted, timed_out, acted}
use Rattle.quality.specs.Quality.{clamped, round_trip}
use Rattle.quality.specs.Advantage.{advantage_of, advantage_overflows}
use Rattle.endpoint_rules.specs.Reports.{report_queued, round_trip_noted, on_quality_reply}
use Rattle.endpoint_rules.specs.Advantage.{local_advantage, advantage_updated}
use Rattle.endpoint_rules.specs.Call.{Call}
use Rattle.endpoint_rules.specs.Step.{fresh, synchronize_step, ignored, resumed, heard, on_body, reacted, message_step, act_step, disconnect_step, advantage_step, step}

-- ---- the two ends of the bouts

-- two players, fps 60, peer 3
abbrev pub setup_choosing : Choices → (handles : List ℕ) → (count locals size prediction magic : ℕ) → Setup
setup_choosing choices handles count locals size prediction magic =
    record {
      num_players = 2;
      handles = record { list = handles; count = count };
      local_players = locals;
      input_size = size;
      max_prediction = prediction;
      disconnect_timeout = 100000;
      disconnect_notify_start = 50000;
      fps = 60;
      magic = magic;
      peer_addr = 3;
      choices = choices;
    }

-- the crate's rules, no checksums reported
abbrev pub setup_of : (handles : List ℕ) → (count locals size prediction magic : ℕ) → Setup
setup_of = setup_choosing (choices_with Off)

-- handle 1, max_prediction 2
abbrev pub setup_with : (size : ℕ) → Setup
setup_with size = setup_of (1 ∷ 0 ∷ 0 ∷ 0 ∷ []) 1 1 size 2 7

-- made at clock 1000
abbrev pub new : Seen
new = (fresh (setup_with 1) 1000).1

pub setup_taken : (fresh (setup_with 1) 1000).0 ≡ 0
unfolding fresh bad_setup any_above any_twice has
setup_taken = refl

-- ---- short words for calls

-- frame f, biased
abbrev pub fr : ℕ → ℕ
fr f = bias32 + f

abbrev pub wire : MessageBody → List StatusReport → List ℕ → Wire
wire body reports payload = record { magic = 9; body = body; reports = reports; payload = payload }

abbrev pub none : List StatusReport
none = record { disconnected = false; last_frame = null_frame } ∷ record { disconnected = false; last_frame = null_frame } ∷ []

-- the epoch clock stands 70,000 ahead of the monotonic one
abbrev pub epoch_at : ℕ → ℕ
epoch_at now = 70000 + now

-- a message from the peer at a clock, with a new nonce
abbrev pub hand : Wire → (now nonce : ℕ) → Call
hand w now nonce = Call.message 3 (length w.reports) w now (epoch_at now) nonce 65536

-- an Input at clock 2000, acknowledging nothing
abbrev pub packet : (start : ℕ) → List StatusReport → List ℕ → Call
packet start reports payload = hand (wire (Input false start null_frame) reports payload) 2000 0

abbrev pub act_at : ℕ → Call
act_at now = Call.act 2 (default_status ∷ default_status ∷ []) now (epoch_at now) 99 65536

abbrev pub starting : Call
starting = Call.synchronize 1000 (epoch_at 1000) 1 65536

-- calls one after the other
abbrev pub after : List Call → Seen → Seen
after [] s = s
after (c ∷ cs) s = after cs (step c s).after

-- the handshake: a request and five replies
abbrev pub reply : (nonce next : ℕ) → Call
reply nonce next = hand (wire (SyncReply nonce) [] []) 1000 next

abbrev pub handshake : List Call
handshake = starting ∷ reply 1 2 ∷ reply 2 3 ∷ reply 3 4 ∷ reply 4 5 ∷ reply 5 6 ∷ []

-- one byte as the input of an event
abbrev pub byte : ℕ → List ℕ
byte b = b ∷ 0 ∷ 0 ∷ 0 ∷ 0 ∷ 0 ∷ 0 ∷ 0 ∷ 0 ∷ 0 ∷ 0 ∷ 0 ∷ 0 ∷ 0 ∷ 0 ∷ 0 ∷ []

-- an input of player 1 is announced
abbrev pub announced_input : (frame b : ℕ) → Entry
announced_input frame b = record { event = Event.Input frame 1; input = byte b }

-- a message of the endpoint's own: its magic, and neither statuses nor payload
abbrev own : MessageBody → Wire
own body = record { magic = 7; body = body; reports = []; payload = [] }

abbrev pub bodies : Did → List MessageBody
bodies d = map (λ (w : Wire). w.body) d.out

-- ---- the calls of the bouts

abbrev pub P3 : Call
P3 = packet (fr 0) none (5 ∷ 7 ∷ [])

abbrev pub P5 : Call
P5 = packet (fr 2) none (2 ∷ [])

-- with statuses: player 1 disconnected at frame 3
abbrev pub P6 : Call
P6 = packet (fr 4) (record { disconnected = false; last_frame = null_frame } ∷ record { disconnected = true; last_frame = fr 3 } ∷ []) (1 ∷ [])

abbrev pub P8 : Call
P8 = packet (fr 7) none (5 ∷ [])

abbrev pub P9 : Call
P9 = packet (fr 0) none []

-- the clocks of an endpoint made at 1000 that heard something at 2000
abbrev pub heard_clocks : Clocks
heard_clocks =
    record {
      running_last_quality_report = 1000;
      running_last_input_recv = 1000;
      last_send_time = 1000;
      last_sync_request_time = 1000;
      last_recv_time = 2000;
      shutdown_timeout = 1000;
    }

abbrev pub P10 : Did
P10 = step (packet (fr 0) none (1 ∷ 2 ∷ 3 ∷ [])) (fresh (setup_with 2) 1000).1

-- the handshake has begun: the first request is queued at 1000
abbrev pub requested : Seen
requested = after (starting ∷ []) new

-- one frame received, and the advantage then taken for a local frame
abbrev pub advanced : (start local : ℕ) → List Call
advanced start local = packet start none (5 ∷ []) ∷ Call.update_local_frame_advantage local ∷ []

abbrev pub report_after : (start local : ℕ) → List MessageBody
report_after start local = bodies (step (act_at 2000) (after (advanced start local) (after handshake new)))

-- at 1100 a reply to the ping of 1000: a round trip of 100
abbrev pub pong : Call
pong = hand (wire (QualityReply (record { low = 71000; high = 0 })) [] []) 1100 0

pub bouts :
    -- P3: (0, 05), (1, 07), ack 1
    ((step P3 new).events ≡ announced_input (fr 0) 5 ∷ announced_input (fr 1) 7 ∷ [])
    × ((step P3 new).out ≡ own (InputAck (fr 1)) ∷ [])
    -- P4: the packet again: no event, ack 1
    × ((step P3 (after (P3 ∷ []) new)).events ≡ [])
    × (bodies (step P3 (after (P3 ∷ []) new)) ≡ InputAck (fr 1) ∷ [])
    -- P5: (2, 05), ack 2
    × ((step P5 (after (P3 ∷ P3 ∷ []) new)).events ≡ announced_input (fr 2) 5 ∷ [])
    × (bodies (step P5 (after (P3 ∷ P3 ∷ []) new)) ≡ InputAck (fr 2) ∷ [])
    -- P6: no event, no ack; statuses merged
    × ((step P6 (after (P3 ∷ P3 ∷ P5 ∷ []) new)).events ≡ [])
    × (bodies (step P6 (after (P3 ∷ P3 ∷ P5 ∷ []) new)) ≡ [])
    × ((step P6 (after (P3 ∷ P3 ∷ P5 ∷ []) new)).after.statuses
    ≡ record { disconnected = false; last_frame = null_frame } ∷ record { disconnected = true; last_frame = fr 3 } ∷ [])
    -- P7: start -1 is discarded: the receive time is set, and nothing else
    × (step (packet null_frame none (5 ∷ [])) new ≡ record { answer = 0; after = with_clocks heard_clocks new; out = []; events = [] })
    -- P8: (7, 05), ack 7; second time neither
    × ((step P8 new).events ≡ announced_input (fr 7) 5 ∷ [])
    × (bodies (step P8 new) ≡ InputAck (fr 7) ∷ [])
    × ((step P8 (after (P8 ∷ []) new)).answer ≡ 0)
    × ((step P8 (after (P8 ∷ []) new)).events ≡ [])
    × (bodies (step P8 (after (P8 ∷ []) new)) ≡ [])
    -- P9: no payload: no event, ack -1
    × ((step P9 new).events ≡ [])
    × (bodies (step P9 new) ≡ InputAck null_frame ∷ [])
    -- P10: S = 2, 3 payload bytes: input time noted, no ack
    × (P10.after.clocks.running_last_input_recv ≡ 2000)
    × (bodies P10 ≡ [])
    -- P11: last request at 1000, act at 1200: nothing; 1201: a request
    × (step (act_at 1200) requested ≡ record { answer = 0; after = requested; out = []; events = [] })
    × ((step (act_at 1201) requested).events ≡ [])
    × (bodies (step (act_at 1201) requested) ≡ SyncRequest 99 ∷ [])
    -- P12: disconnect at 1000, act at 6000: Disconnected; 6001: Shutdown
    × ((step (act_at 6000) (after (Call.disconnect 1000 ∷ []) new)).answer ≡ 0)
    × ((after (Call.disconnect 1000 ∷ act_at 6000 ∷ []) new).phase ≡ Disconnected)
    × ((after (Call.disconnect 1000 ∷ act_at 6001 ∷ []) new).phase ≡ Shutdown)
    -- P13: advantage 40,000 is reported as 32,767; -40,000 as -32,768
    × (report_after (fr 40000) (fr 0) ≡ QualityReport (bias16 + 32767) (record { low = 72000; high = 0 }) ∷ [])
    × (report_after (fr 0) (fr 40000) ≡ QualityReport (bias16 - 32768) (record { low = 72000; high = 0 }) ∷ [])
    -- P14: rtt 100, fps 60, newest 10, local 12: advantage 1
    × ((after (pong ∷ advanced (fr 10) (fr 12)) new).quality.local_frame_advantage ≡ bias32 + 1)
unfolding kept has without xors frames_of unpack pack decodable_length decodable zeros padded drop_to last_to room blank_frame highest newest_of found_in at_line above numbered packet_of taken_in issued last_of default_status reported merged merged_all default_statuses has_room input_of input_entry announced bad_setup any_above any_twice inserted sorted terms_with made refused tested queue_wire queue_size done buffer_full is_full nonce_issued request started synchronized counted running replied on_sync_reply dropped_to acknowledged pending_queued reference_frame taken received_if receive announced_each discarded packet_overflows statuses_merged informed inputs_received input_taken input_unless on_input resent report_sent kept_alive interrupted timed_out acted clamped report_queued round_trip round_trip_noted on_quality_reply advantage_of advantage_overflows local_advantage advantage_updated fresh synchronize_step ignored resumed heard on_body reacted message_step act_step disconnect_step advantage_step step
bouts = (refl, refl, refl, refl, refl, refl, refl, refl, refl, refl, refl, refl, refl, refl, refl, refl, refl, refl, refl, refl, refl, refl, refl, refl, refl, refl, refl, refl)
