-- Worked examples of what no worked bout shows: the order of refusals, which calls are ignored, the handshake, room.
use mathlib.Core.Bool.{true, false}
use mathlib.Core.List.{List, [], ◌∷◌, map}
use mathlib.Core.Path.{◌≡◌, refl}
use Prim.Native.Nat.{ℕ, zero, suc, ◌^◌}
use lib.ListN.{length, replicate}
use Rattle.base.specs.Keyed.{kept, has, without}
use Rattle.base.specs.Last.{last_of}
use Rattle.frame.specs.Bias.{null_frame}
use Rattle.packing.specs.Packing.{xors, frames_of, unpack, pack, decodable_length, decodable}
use Rattle.packing.specs.Pad.{zeros, padded}
use Rattle.pending.specs.Pending.{drop_to, last_to, first_frame, last_frame, room, payload}
use Rattle.history.specs.History.{blank_frame, highest, newest_of, found_in, reference_frame, at_line, above, numbered, packet_of, taken_in}
use Rattle.nonces.specs.Nonces.{issued}
use Rattle.status.specs.Status.{default_status, reported, merged}
use Rattle.status.specs.Statuses.{merged_all, default_statuses}
use Rattle.codec.specs.declared.MessageBody.TheVariants.{SyncReply, Input, KeepAlive}
use Rattle.events.specs.declared.Entry.{Entry}
use Rattle.events.specs.declared.Event.{Event}
use Rattle.events.specs.Events.{has_room, input_of, input_entry, announced, announced_each}
use Rattle.endpoint_rules.specs.declared.Phase.TheVariants.{Running, Shutdown}
use Rattle.setup.specs.Setup.{bad_setup, any_above, any_twice, inserted, sorted, terms_with}
use Rattle.endpoint_rules.specs.Seen.{Seen, made, with_phase}
use Rattle.outbox.specs.Outbox.{queue_size, report_of, pending_input}
use Rattle.endpoint_rules.specs.Did.{refused, tested, queue_wire, done}
use Rattle.endpoint_rules.specs.Room.{buffer_full, is_full}
use Rattle.endpoint_rules.specs.Handshake.{nonce_issued, request, started, synchronized, counted, running, replied, on_sync_reply}
use Rattle.endpoint_rules.specs.Sending.{dropped_to, acknowledged, bad_frame, pending_queued, accepted, announces_most, input_sent}
use Rattle.endpoint_rules.specs.Receiving.{taken, received_if, receive, discarded, packet_overflows, statuses_merged, informed, inputs_received, input_taken, input_unless, on_input}
use Rattle.endpoint_rules.specs.Checksum.{checksum_sent}
use Rattle.endpoint_rules.specs.Call.{Call}
use Rattle.endpoint_rules.specs.Step.{stats_step, status_step, take_step, checksum_step, fresh, synchronize_step, ignored, resumed, heard, on_body, reacted, message_step, send_step, disconnect_step, step}
use Rattle.endpoint_rules.proofs.Bouts.{P3, setup_with, new, fr, wire, none, hand, after, starting, handshake, reply}

-- a clock above its ceiling
abbrev late : ℕ
late = 2 ^ 62

abbrev send : (frame : ℕ) → List ℕ → (now buffer : ℕ) → Call
send frame bytes now buffer = Call.send_input frame bytes 2 (default_status ∷ default_status ∷ []) now buffer

abbrev kinds : List Entry → List Event
kinds es = map (λ (x : Entry). x.event) es

-- a reply with another magic
abbrev stranger : (nonce next : ℕ) → Call
stranger nonce next = hand (record { magic = 8; body = SyncReply nonce; reports = []; payload = [] }) 1000 next

orders :
    -- 8 before 3, 3 before a call is ignored, ignored before 4
    ((step (send (fr 0) [] late 65536) new).answer ≡ 8)
    × ((step (send (fr 0) [] 2000 65536) new).answer ≡ 3)
    × (step (send null_frame (5 ∷ []) 2000 65536) new ≡ record { answer = 0; after = new; out = []; events = [] })
    -- in Running: 4 before 5, and 5 where one byte is missing
    × ((step (send null_frame (5 ∷ []) 2000 0) (after handshake new)).answer ≡ 4)
    × ((step (send (fr 0) (5 ∷ []) 2000 91) (after handshake new)).answer ≡ 5)
    × ((step (send (fr 0) (5 ∷ []) 2000 92) (after handshake new)).answer ≡ 0)
    -- 2 before 5
    × ((step (Call.synchronize 2000 2000 1 0) (with_phase Shutdown new)).answer ≡ 2)
    × ((step (Call.synchronize 2000 2000 1 0) new).answer ≡ 5)
    -- 12 for 130 frames at W 1, also where nothing fits, but not from another peer, nor discarded
    × ((step (Call.message 3 2 (wire (Input false (fr 0) null_frame) none (replicate 130 0)) 2000 2000 0 0) new).answer ≡ 12)
    × ((step (Call.message 4 2 (wire (Input false (fr 0) null_frame) none (replicate 130 0)) 2000 2000 0 0) new).answer ≡ 0)
    × ((step (hand (wire (Input false null_frame null_frame) none (replicate 130 0)) 2000 0) new).answer ≡ 0)
    -- 6 for the frame past the largest, also where nothing fits
    × ((step (Call.message 3 2 (wire (Input false 0xFFFF_FFFF null_frame) none (1 ∷ 2 ∷ [])) 2000 2000 0 0) new).answer ≡ 6)
    -- but not for a packet that cannot be read: its reference is not held, or it is no whole frames
    × ((step (hand (wire (Input false 0xFFFF_FFFF null_frame) none (1 ∷ 2 ∷ [])) 2000 0) (after (P3 ∷ []) new)).answer ≡ 0)
    × ((step (hand (wire (Input false 0xFFFF_FFFF null_frame) none (1 ∷ 2 ∷ 3 ∷ [])) 2000 0) (fresh (setup_with 2) 1000).1).answer ≡ 0)
    -- synchronize a second time
    × ((step (Call.synchronize 2000 2000 1 65536) (after handshake new)).answer ≡ 2)
    -- the handshake's events; an equal nonce counts once
    × (kinds (after handshake new).events ≡ Event.Synchronizing 5 1 ∷ Event.Synchronizing 5 2 ∷ Event.Synchronizing 5 3 ∷ Event.Synchronizing 5 4 ∷ Event.Synchronized ∷ [])
    × ((after handshake new).phase ≡ Running)
    × ((after (starting ∷ reply 1 1 ∷ reply 1 2 ∷ reply 1 3 ∷ []) new).sync.remaining ≡ 3)
    -- a reply outside Synchronizing does not count, though its nonce is outstanding
    × ((after (starting ∷ Call.disconnect 1000 ∷ reply 1 2 ∷ []) new).sync.remaining ≡ 5)
    -- the magic of the fifth reply is the filter's, whatever the others had
    × ((after (starting ∷ stranger 1 2 ∷ stranger 2 3 ∷ stranger 3 4 ∷ stranger 4 5 ∷ reply 5 6 ∷ []) new).sync.remote_magic ≡ 9)
    -- 14 before 15, and 15 before a whole second has passed; 7 for a player that is not there
    × ((step (Call.network_stats 0) new).answer ≡ 14)
    × ((step (Call.network_stats 71999) (after handshake new)).answer ≡ 15)
    × ((step (Call.network_stats 72000) (after handshake new)).answer ≡ 0)
    × ((step (Call.peer_connect_status 2) new).answer ≡ 7)
    × ((step (Call.peer_connect_status 1) new).answer ≡ 0)
    -- one request is queued: a buffer of 9 bytes is too short to take it, in Shutdown any will do
    × ((step (Call.take_messages 9) (after (starting ∷ []) new)).answer ≡ 5)
    × ((step (Call.take_messages 10) (after (starting ∷ []) new)).after.queued ≡ 0)
    × ((step (Call.take_messages 0) (with_phase Shutdown (after (starting ∷ []) new))).answer ≡ 0)
    -- a checksum report is sent in every state
    × ((step (Call.send_checksum_report (fr 0) (record { low = 1; high = 0 }) 2000 26) new).after.queued ≡ 26)
    -- a packet whose reference is not held: its ack counts
    × ((after (send (fr 0) (5 ∷ []) 2000 65536 ∷ hand (wire (Input false (fr 4) (fr 0)) none (1 ∷ [])) 2000 0 ∷ []) (after (P3 ∷ []) (after handshake new))).carried.sender.pending ≡ [])
    -- Disconnected is announced once
    × (kinds (step (hand (wire (Input true (fr 0) null_frame) [] []) 2000 0) new).events ≡ Event.Disconnected ∷ [])
    × ((step (hand (wire (Input true (fr 0) null_frame) [] []) 2000 0) (after (hand (wire (Input true (fr 0) null_frame) [] []) 2000 0 ∷ []) new)).events ≡ [])
    -- from then on another magic is not heard
    × ((step (Call.message 3 0 (record { magic = 8; body = KeepAlive; reports = []; payload = [] }) 2000 2000 0 0) (after handshake new)).after.clocks.last_recv_time ≡ 1000)
unfolding kept has without xors frames_of unpack pack decodable_length decodable zeros padded drop_to last_to first_frame last_frame room payload blank_frame highest newest_of found_in at_line above numbered packet_of taken_in issued last_of default_status reported merged merged_all default_statuses has_room input_of input_entry announced bad_setup any_above any_twice inserted sorted terms_with made refused tested queue_wire queue_size done buffer_full is_full nonce_issued request started synchronized counted running replied on_sync_reply dropped_to acknowledged bad_frame report_of pending_input pending_queued accepted announces_most input_sent reference_frame taken received_if receive announced_each discarded packet_overflows statuses_merged informed inputs_received input_taken input_unless on_input fresh synchronize_step ignored resumed heard on_body reacted message_step send_step disconnect_step step stats_step status_step take_step checksum_step checksum_sent
orders = (refl, refl, refl, refl, refl, refl, refl, refl, refl, refl, refl, refl, refl, refl, refl, refl, refl, refl, refl, refl, refl, refl, refl, refl, refl, refl, refl, refl, refl, refl, refl, refl, refl)

-- ---- the 129th pending input

-- n frames one after the other, all accepted and none acknowledged
abbrev sends : (frame n : ℕ) → List Call
sends frame zero = []
sends frame (suc n) = send frame (5 ∷ []) 2000 65536 ∷ sends (suc frame) n

abbrev pending_of : Seen → ℕ
pending_of s = length s.carried.sender.pending

abbrev with127 : Seen
with127 = after (sends (fr 0) 127) (after handshake new)

abbrev with128 : Seen
with128 = (step (send (fr 127) (5 ∷ []) 2000 65536) with127).after

abbrev with129 : Seen
with129 = (step (send (fr 128) (5 ∷ []) 2000 65536) with128).after

crowded :
    (pending_of with127 ≡ 127)
    -- the 128th announces nothing
    × ((step (send (fr 127) (5 ∷ []) 2000 65536) with127).answer ≡ 0)
    × ((step (send (fr 127) (5 ∷ []) 2000 65536) with127).events ≡ [])
    × (pending_of with128 ≡ 128)
    -- the 129th pends too, and announces Disconnected; the flag stays as it was (E-59)
    × ((step (send (fr 128) (5 ∷ []) 2000 65536) with128).answer ≡ 0)
    × (kinds (step (send (fr 128) (5 ∷ []) 2000 65536) with128).events ≡ Event.Disconnected ∷ [])
    × (pending_of with129 ≡ 129)
    × (with129.flags.disconnect_event_sent ≡ false)
    -- one more does not fit
    × ((step (send (fr 129) (5 ∷ []) 2000 65536) with129).answer ≡ 5)
unfolding kept has without xors frames_of unpack pack decodable_length decodable zeros padded drop_to last_to first_frame last_frame room payload blank_frame highest newest_of found_in at_line above numbered packet_of taken_in issued last_of default_status reported merged merged_all default_statuses has_room input_of input_entry announced bad_setup any_above any_twice inserted sorted terms_with made refused tested queue_wire queue_size done buffer_full is_full nonce_issued request started synchronized counted running replied on_sync_reply dropped_to acknowledged bad_frame report_of pending_input pending_queued accepted announces_most input_sent fresh synchronize_step ignored resumed heard on_body reacted message_step send_step step
crowded = (refl, refl, refl, refl, refl, refl, refl, refl, refl)
