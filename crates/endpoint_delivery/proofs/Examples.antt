-- Worked: two endpoints, one with a player of two bytes and one with two players of one, and an exchange between them: of seven Inputs two are lost, one comes
-- late and one twice, one comes as bytes; acks arrive in Inputs and by themselves; events are taken on the way. Four frames arrive at the one end, three at the other.
use mathlib.Core.Bool.{Bool, true, false}
use mathlib.Core.List.{List, [], ◌∷◌, ◌++◌}
use mathlib.Core.Logic.{◌⊎◌, inl, inr}
use mathlib.Core.Path.{◌≡◌, refl, sym, ap, ◌∙◌}
use Prim.Native.Nat.{ℕ, zero, suc, ◌+◌, ◌*◌, ◌^◌, ◌≤◌, ◌<◌}
use native.Mathlib.Omega.{arith}
use lib.ListN.{length, drop, length-drop}
use Rattle.base.specs.Little.{Bytes}
use Rattle.base.specs.Keyed.{kept, has, without}
use Rattle.base.specs.Last.{last_of}
use Rattle.frame.specs.Bias.{null_frame}
use Rattle.packing.specs.Packing.{xors, frames_of, unpack, pack, decodable_length, decodable}
use Rattle.packing.specs.Pad.{zeros, padded}
use Rattle.packing.specs.declared.input_bytes.InputBytes.{InputBytes}
use Rattle.pending.specs.Pending.{drop_to, last_to, room, first_frame, last_frame, payload}
use Rattle.history.specs.History.{blank_frame, highest, newest_of, found_in, reference_frame, at_line, above, numbered, packet_of, taken_in}
use Rattle.nonces.specs.Nonces.{issued}
use Rattle.status.specs.Status.{default_status, reported, merged}
use Rattle.status.specs.Statuses.{merged_all, default_statuses}
use Rattle.codec.specs.Message.{Wire, Fits, FitsBody, FitsReports}
use Rattle.codec.specs.Bytes.{bytes}
use Rattle.codec.specs.Read.{body_only}
use Rattle.codec.specs.declared.MessageBody.{MessageBody}
use Rattle.codec.specs.declared.MessageBody.TheVariants.{SyncRequest, SyncReply, Input, InputAck}
use Rattle.codec.proofs.Laws.{read-bytes}
use Rattle.codec.proofs.Octets.{bytes-bytes}
use Rattle.codec.proofs.Meant.{input_is}
use Rattle.events.specs.Events.{has_room, input_of, without_input, input_entry, announced, announced_each}
use Rattle.events.specs.declared.Entry.{Entry}
use Rattle.events.specs.declared.Event.{Event}
use Rattle.quality.specs.Quality.{started_at, fresh_quality}
use Rattle.setup.specs.declared.Setup.{Setup}
use Rattle.setup.specs.Setup.{bad_setup, any_above, any_twice, inserted, sorted, terms_with}
use Rattle.outbox.specs.Outbox.{queue_size, report_of, pending_input}
use Rattle.endpoint_rules.specs.declared.Phase.TheVariants.{Synchronizing, Running}
use Rattle.endpoint_rules.specs.Seen.{Seen, Sender, made, with_carried, with_phase, with_sync, with_quality, with_events, with_queued, sent_at, heard_at, input_at}
use Rattle.endpoint_rules.specs.Did.{refused, tested, queue_wire, done}
use Rattle.endpoint_rules.specs.Room.{buffer_full, is_full}
use Rattle.endpoint_rules.specs.Handshake.{nonce_issued, request, started, synchronized, counted, running, replied, on_sync_reply}
use Rattle.endpoint_rules.specs.Sending.{dropped_to, acknowledged, bad_frame, pending_queued, accepted, announces_most, input_sent}
use Rattle.endpoint_rules.specs.Receiving.{taken, received_if, receive, discarded, packet_overflows, statuses_merged, informed, inputs_received, input_taken, input_unless, on_input, on_input_ack}
use Rattle.endpoint_rules.specs.Call.{Call}
use Rattle.endpoint_rules.specs.Step.{fresh, synchronize_step, ignored, resumed, heard, on_body, reacted, message_step, send_step, step}
use Rattle.endpoint_rules.proofs.Datagrams.{bytes-message}
use Rattle.endpoint_rules.proofs.Bouts.{setup_of, fr, none, epoch_at, hand, starting}
use Rattle.endpoint_invariant.specs.Each.{Each}
use Rattle.endpoint_invariant.specs.Typed.{IsU32, Typed}
use Rattle.endpoint_invariant.proofs.Examples.{small_typed}
use Rattle.endpoint_delivery.specs.Frames.{Frame, Given, Announced, joined, announced_in, last_announced}
use Rattle.endpoint_delivery.specs.Runs.{End, starts, next, announced_by, pending_by, Allowed, Meet, Run, Holds, InOrder, Heard, Heeded, Ready, HandsInput}
use Rattle.endpoint_delivery.specs.Runs.Run.{begin, at_a, at_b}
use Rattle.endpoint_delivery.proofs.Lists.{Mem, here, there}
use Rattle.endpoint_delivery.proofs.InOrder.{in_order}
use Rattle.endpoint_delivery.proofs.Brings.{brings}

-- ---- the two ends: one local player with two bytes against two players with one byte each

-- handle 1, and handles 1 and 0, which are kept as 0 and 1
abbrev pub wide : Setup
wide = setup_of (1 ∷ 0 ∷ 0 ∷ 0 ∷ []) 1 1 2 1 7

abbrev pub narrow : Setup
narrow = setup_of (1 ∷ 0 ∷ 0 ∷ 0 ∷ []) 2 2 1 1 9

abbrev a0 : End
a0 = starts (fresh wide 1000).1

abbrev b0 : End
b0 = starts (fresh narrow 1000).1

-- ---- the calls

abbrev pub reply : (magic nonce : ℕ) → Call
reply magic nonce = hand (body_only magic (SyncReply nonce)) 1000 (nonce + 1)

-- the handshake with the end of a magic
abbrev pub greeting : (magic : ℕ) → List Call
greeting magic = starting ∷ reply magic 1 ∷ reply magic 2 ∷ reply magic 3 ∷ reply magic 4 ∷ reply magic 5 ∷ []

abbrev pub send : (frame x y : ℕ) → Call
send frame x y = Call.send_input (fr frame) (x ∷ y ∷ []) 2 (default_status ∷ default_status ∷ []) 2000 65536

abbrev pub input : (magic start ack : ℕ) → List ℕ → Wire
input magic start ack payload = record { magic = magic; body = Input false (fr start) ack; reports = none; payload = payload }

-- of the first end: frame 0; frames 0 and 1; after their ack frame 2, and frames 2 and 3, each XOR frame 1
abbrev pub I0 : Wire
I0 = input 7 0 null_frame (5 ∷ 7 ∷ [])

abbrev pub I1 : Wire
I1 = input 7 0 null_frame (5 ∷ 7 ∷ 6 ∷ 8 ∷ [])

abbrev I2 : Wire
I2 = input 7 2 (fr 1) (15 ∷ 1 ∷ [])

abbrev pub I3 : Wire
I3 = input 7 2 (fr 1) (15 ∷ 1 ∷ 15 ∷ 2 ∷ [])

-- of the second, acknowledging frame 1, then frame 3: frame 0; frames 0 and 1; frame 2 XOR frame 1
abbrev J0 : Wire
J0 = input 9 0 (fr 1) (1 ∷ 2 ∷ [])

abbrev pub J1 : Wire
J1 = input 9 0 (fr 1) (1 ∷ 2 ∷ 3 ∷ 4 ∷ [])

abbrev pub J2 : Wire
J2 = input 9 2 (fr 3) (2 ∷ 5 ∷ [])

abbrev pub ack : (magic frame : ℕ) → Wire
ack magic frame = body_only magic (InputAck (fr frame))

-- ---- the ends after calls, one after the other

abbrev pub nexts : List Call → End → End
nexts [] x = x
nexts (c ∷ cs) x = nexts cs (next c x)

-- after its handshake
abbrev pub requests : (magic : ℕ) → List Wire → List Wire
requests magic l =
    body_only magic (SyncRequest 1) ∷ body_only magic (SyncRequest 2) ∷ body_only magic (SyncRequest 3) ∷ body_only magic (SyncRequest 4) ∷ body_only magic (SyncRequest 5) ∷ l

abbrev pub synchronizing : List Entry
synchronizing =
    without_input (Event.Synchronizing 5 1) ∷ without_input (Event.Synchronizing 5 2) ∷ without_input (Event.Synchronizing 5 3) ∷ without_input (Event.Synchronizing 5 4) ∷ without_input Event.Synchronized ∷ []

abbrev entry : (frame x y : ℕ) → InputBytes
entry frame x y = record { frame = fr frame; bytes = padded (x ∷ y ∷ []) }

-- an end in Running: what carries inputs, when it last heard and took an Input, its events and the bytes in its queue
abbrev pub playing : Setup → (other : ℕ) → Sender → List InputBytes → (input_time heard_time send_time : ℕ) → List Entry → (bytes : ℕ) → Seen
playing g other sender history input_time heard_time send_time events bytes =
    with_phase Running
    (with_sync (record { remaining = 0; nonces = []; remote_magic = other })
    (with_quality (started_at 71000 fresh_quality)
    (with_carried (record { sender = sender; receiver = record { history = history } })
    (input_at input_time (heard_at heard_time (sent_at send_time (with_events events (with_queued bytes (fresh g 1000).1))))))))

abbrev pub ready : Setup → (magic other : ℕ) → End
ready g magic other =
    record {
      state = playing g other (record { pending = []; acked = blank_frame }) (blank_frame ∷ []) 1000 1000 1000 synchronizing 50;
      queued = requests magic [];
      taken = [];
      accepted = [];
    }

-- the handshake by halves, each computed from a state that is written out: after the request and two of the replies
abbrev pub first_half : (magic : ℕ) → List Call
first_half magic = starting ∷ reply magic 1 ∷ reply magic 2 ∷ []

abbrev pub second_half : (magic : ℕ) → List Call
second_half magic = reply magic 3 ∷ reply magic 4 ∷ reply magic 5 ∷ []

abbrev pub halfway : Setup → (magic : ℕ) → End
halfway g magic =
    record {
      state =
          with_phase Synchronizing
          (with_sync (record { remaining = 3; nonces = 3 ∷ []; remote_magic = 0 })
          (with_quality (started_at 71000 fresh_quality)
          (with_events (without_input (Event.Synchronizing 5 1) ∷ without_input (Event.Synchronizing 5 2) ∷ []) (with_queued 30 (fresh g 1000).1))));
      queued = body_only magic (SyncRequest 1) ∷ body_only magic (SyncRequest 2) ∷ body_only magic (SyncRequest 3) ∷ [];
      taken = [];
      accepted = [];
    }

a_half : nexts (first_half 9) a0 ≡ halfway wide 7
unfolding kept has without xors frames_of unpack pack decodable_length decodable zeros padded drop_to last_to room first_frame last_frame payload blank_frame highest newest_of found_in at_line above numbered packet_of taken_in issued last_of default_status reported merged merged_all default_statuses has_room input_of input_entry announced bad_setup any_above any_twice inserted sorted terms_with made refused tested queue_wire queue_size report_of pending_input done buffer_full is_full nonce_issued request started synchronized counted running replied on_sync_reply dropped_to acknowledged bad_frame pending_queued accepted announces_most input_sent reference_frame taken received_if receive announced_each discarded packet_overflows statuses_merged informed inputs_received input_taken input_unless on_input on_input_ack fresh synchronize_step ignored resumed heard on_body reacted message_step send_step step joined announced_in
a_half = refl

a_rest : nexts (second_half 9) (halfway wide 7) ≡ ready wide 7 9
unfolding kept has without xors frames_of unpack pack decodable_length decodable zeros padded drop_to last_to room first_frame last_frame payload blank_frame highest newest_of found_in at_line above numbered packet_of taken_in issued last_of default_status reported merged merged_all default_statuses has_room input_of input_entry announced bad_setup any_above any_twice inserted sorted terms_with made refused tested queue_wire queue_size report_of pending_input done buffer_full is_full nonce_issued request started synchronized counted running replied on_sync_reply dropped_to acknowledged bad_frame pending_queued accepted announces_most input_sent reference_frame taken received_if receive announced_each discarded packet_overflows statuses_merged informed inputs_received input_taken input_unless on_input on_input_ack fresh synchronize_step ignored resumed heard on_body reacted message_step send_step step joined announced_in
a_rest = refl

pub a_ready : nexts (greeting 9) a0 ≡ ready wide 7 9
a_ready = ap (nexts (second_half 9)) a_half ∙ a_rest

b_half : nexts (first_half 7) b0 ≡ halfway narrow 9
unfolding kept has without xors frames_of unpack pack decodable_length decodable zeros padded drop_to last_to room first_frame last_frame payload blank_frame highest newest_of found_in at_line above numbered packet_of taken_in issued last_of default_status reported merged merged_all default_statuses has_room input_of input_entry announced bad_setup any_above any_twice inserted sorted terms_with made refused tested queue_wire queue_size report_of pending_input done buffer_full is_full nonce_issued request started synchronized counted running replied on_sync_reply dropped_to acknowledged bad_frame pending_queued accepted announces_most input_sent reference_frame taken received_if receive announced_each discarded packet_overflows statuses_merged informed inputs_received input_taken input_unless on_input on_input_ack fresh synchronize_step ignored resumed heard on_body reacted message_step send_step step joined announced_in
b_half = refl

b_rest : nexts (second_half 7) (halfway narrow 9) ≡ ready narrow 9 7
unfolding kept has without xors frames_of unpack pack decodable_length decodable zeros padded drop_to last_to room first_frame last_frame payload blank_frame highest newest_of found_in at_line above numbered packet_of taken_in issued last_of default_status reported merged merged_all default_statuses has_room input_of input_entry announced bad_setup any_above any_twice inserted sorted terms_with made refused tested queue_wire queue_size report_of pending_input done buffer_full is_full nonce_issued request started synchronized counted running replied on_sync_reply dropped_to acknowledged bad_frame pending_queued accepted announces_most input_sent reference_frame taken received_if receive announced_each discarded packet_overflows statuses_merged informed inputs_received input_taken input_unless on_input on_input_ack fresh synchronize_step ignored resumed heard on_body reacted message_step send_step step joined announced_in
b_rest = refl

pub b_ready : nexts (greeting 7) b0 ≡ ready narrow 9 7
b_ready = ap (nexts (second_half 7)) b_half ∙ b_rest

-- ---- the exchange, with the ends as they stand midway

abbrev pub given : (player : ℕ) → List ℕ → Given
given player bytes = record { player = player; bytes = bytes }

abbrev pub frame_with : (frame : ℕ) → List Given → Announced
frame_with frame inputs = record { number = fr frame; inputs = inputs }

abbrev pub frame : (number x y : ℕ) → Frame
frame number x y = record { number = fr number; bytes = x ∷ y ∷ [] }

-- the first end sends two frames; their Inputs arrive in the wrong order, and one of them again
abbrev pub a1 : End
a1 = nexts (send 0 5 7 ∷ send 1 6 8 ∷ []) (ready wide 7 9)

abbrev b1 : End
b1 = nexts (hand I1 2000 0 ∷ hand I0 2001 0 ∷ hand I1 2002 0 ∷ []) (ready narrow 9 7)

-- the second end sends two; the first Input is lost, the second acknowledges both frames of the first end
abbrev pub b2 : End
b2 =
    record {
      state =
          playing narrow 7 (record { pending = entry 0 1 2 ∷ entry 1 3 4 ∷ []; acked = blank_frame }) (blank_frame ∷ entry 0 5 7 ∷ entry 1 6 8 ∷ []) 2002 2002 2000
          (synchronizing ++ input_entry (fr 0) 0 (5 ∷ []) ∷ input_entry (fr 0) 1 (7 ∷ []) ∷ input_entry (fr 1) 0 (6 ∷ []) ∷ input_entry (fr 1) 1 (8 ∷ []) ∷ []) 168;
      queued = requests 9 (ack 9 1 ∷ ack 9 1 ∷ ack 9 1 ∷ J0 ∷ J1 ∷ []);
      taken = [];
      accepted = frame 0 1 2 ∷ frame 1 3 4 ∷ [];
    }

-- what it sends from, written out
abbrev b1_as : End
b1_as =
    record {
      state =
          playing narrow 7 (record { pending = []; acked = blank_frame }) (blank_frame ∷ entry 0 5 7 ∷ entry 1 6 8 ∷ []) 2002 2002 2002
          (synchronizing ++ input_entry (fr 0) 0 (5 ∷ []) ∷ input_entry (fr 0) 1 (7 ∷ []) ∷ input_entry (fr 1) 0 (6 ∷ []) ∷ input_entry (fr 1) 1 (8 ∷ []) ∷ []) 80;
      queued = requests 9 (ack 9 1 ∷ ack 9 1 ∷ ack 9 1 ∷ []);
      taken = [];
      accepted = [];
    }

b1_is : b1 ≡ b1_as
unfolding kept has without xors frames_of unpack pack decodable_length decodable zeros padded drop_to last_to room first_frame last_frame payload blank_frame highest newest_of found_in at_line above numbered packet_of taken_in issued last_of default_status reported merged merged_all default_statuses has_room input_of input_entry announced bad_setup any_above any_twice inserted sorted terms_with made refused tested queue_wire queue_size report_of pending_input done buffer_full is_full nonce_issued request started synchronized counted running replied on_sync_reply dropped_to acknowledged bad_frame pending_queued accepted announces_most input_sent reference_frame taken received_if receive announced_each discarded packet_overflows statuses_merged informed inputs_received input_taken input_unless on_input on_input_ack fresh synchronize_step ignored resumed heard on_body reacted message_step send_step step joined announced_in
b1_is = refl

b2_from : nexts (send 0 1 2 ∷ send 1 3 4 ∷ []) b1_as ≡ b2
unfolding kept has without xors frames_of unpack pack decodable_length decodable zeros padded drop_to last_to room first_frame last_frame payload blank_frame highest newest_of found_in at_line above numbered packet_of taken_in issued last_of default_status reported merged merged_all default_statuses has_room input_of input_entry announced bad_setup any_above any_twice inserted sorted terms_with made refused tested queue_wire queue_size report_of pending_input done buffer_full is_full nonce_issued request started synchronized counted running replied on_sync_reply dropped_to acknowledged bad_frame pending_queued accepted announces_most input_sent reference_frame taken received_if receive announced_each discarded packet_overflows statuses_merged informed inputs_received input_taken input_unless on_input on_input_ack fresh synchronize_step ignored resumed heard on_body reacted message_step send_step step joined announced_in
b2_from = refl

pub b2_is : nexts (send 0 1 2 ∷ send 1 3 4 ∷ []) b1 ≡ b2
b2_is = ap (nexts (send 0 1 2 ∷ send 1 3 4 ∷ [])) b1_is ∙ b2_from

abbrev a2 : End
a2 = next (hand J1 2003 0) a1

-- the first end sends two more; again the first Input is lost, and the other arrives
abbrev pub a3 : End
a3 =
    record {
      state =
          playing wide 9 (record { pending = entry 2 9 9 ∷ entry 3 9 10 ∷ []; acked = entry 1 6 8 }) (blank_frame ∷ entry 0 1 2 ∷ entry 1 3 4 ∷ []) 2003 2003 2000
          (synchronizing ++ input_entry (fr 0) 1 (1 ∷ 2 ∷ []) ∷ input_entry (fr 1) 1 (3 ∷ 4 ∷ []) ∷ []) 236;
      queued = requests 7 (I0 ∷ I1 ∷ ack 7 1 ∷ I2 ∷ I3 ∷ []);
      taken = [];
      accepted = frame 0 5 7 ∷ frame 1 6 8 ∷ frame 2 9 9 ∷ frame 3 9 10 ∷ [];
    }

pub a3_is : nexts (send 2 9 9 ∷ send 3 9 10 ∷ []) a2 ≡ a3
unfolding kept has without xors frames_of unpack pack decodable_length decodable zeros padded drop_to last_to room first_frame last_frame payload blank_frame highest newest_of found_in at_line above numbered packet_of taken_in issued last_of default_status reported merged merged_all default_statuses has_room input_of input_entry announced bad_setup any_above any_twice inserted sorted terms_with made refused tested queue_wire queue_size report_of pending_input done buffer_full is_full nonce_issued request started synchronized counted running replied on_sync_reply dropped_to acknowledged bad_frame pending_queued accepted announces_most input_sent reference_frame taken received_if receive announced_each discarded packet_overflows statuses_merged informed inputs_received input_taken input_unless on_input on_input_ack fresh synchronize_step ignored resumed heard on_body reacted message_step send_step step joined announced_in
a3_is = refl

abbrev pub b3 : End
b3 = next (hand I3 2004 0) b2

-- the second end's events are taken, and it sends a third frame; its ack arrives, then its Input
abbrev pub b4 : End
b4 = nexts (Call.take_events ∷ send 2 1 1 ∷ []) b3

abbrev pub a4 : End
a4 = nexts (hand (ack 9 3) 2005 0 ∷ hand J2 2006 0 ∷ []) a3

-- ---- what then stands at both

-- the messages queued, so that those handed over are among them
pub first_queue : a1.queued ≡ requests 7 (I0 ∷ I1 ∷ [])
unfolding kept has without xors frames_of unpack pack decodable_length decodable zeros padded drop_to last_to room first_frame last_frame payload blank_frame highest newest_of found_in at_line above numbered packet_of taken_in issued last_of default_status reported merged merged_all default_statuses has_room input_of input_entry announced bad_setup any_above any_twice inserted sorted terms_with made refused tested queue_wire queue_size report_of pending_input done buffer_full is_full nonce_issued request started synchronized counted running replied on_sync_reply dropped_to acknowledged bad_frame pending_queued accepted announces_most input_sent reference_frame taken received_if receive announced_each discarded packet_overflows statuses_merged informed inputs_received input_taken input_unless on_input on_input_ack fresh synchronize_step ignored resumed heard on_body reacted message_step send_step step joined announced_in
first_queue = refl

pub last_queue : b4.queued ≡ requests 9 (ack 9 1 ∷ ack 9 1 ∷ ack 9 1 ∷ J0 ∷ J1 ∷ ack 9 3 ∷ J2 ∷ [])
unfolding kept has without xors frames_of unpack pack decodable_length decodable zeros padded drop_to last_to room first_frame last_frame payload blank_frame highest newest_of found_in at_line above numbered packet_of taken_in issued last_of default_status reported merged merged_all default_statuses has_room input_of input_entry announced bad_setup any_above any_twice inserted sorted terms_with made refused tested queue_wire queue_size report_of pending_input done buffer_full is_full nonce_issued request started synchronized counted running replied on_sync_reply dropped_to acknowledged bad_frame pending_queued accepted announces_most input_sent reference_frame taken received_if receive announced_each discarded packet_overflows statuses_merged informed inputs_received input_taken input_unless on_input on_input_ack fresh synchronize_step ignored resumed heard on_body reacted message_step send_step step joined announced_in
last_queue = refl

-- what each accepted, and what the other announced of it: each frame once, for each player with its bytes
pub sample_facts : (a4.accepted ≡ frame 0 5 7 ∷ frame 1 6 8 ∷ frame 2 9 9 ∷ frame 3 9 10 ∷ [])
    × (announced_by b4
    ≡ frame_with 0 (given 0 (5 ∷ []) ∷ given 1 (7 ∷ []) ∷ [])
    ∷ frame_with 1 (given 0 (6 ∷ []) ∷ given 1 (8 ∷ []) ∷ [])
    ∷ frame_with 2 (given 0 (9 ∷ []) ∷ given 1 (9 ∷ []) ∷ [])
    ∷ frame_with 3 (given 0 (9 ∷ []) ∷ given 1 (10 ∷ []) ∷ [])
    ∷ [])
    × (b4.accepted ≡ frame 0 1 2 ∷ frame 1 3 4 ∷ frame 2 1 1 ∷ [])
    × (announced_by a4 ≡ frame_with 0 (given 1 (1 ∷ 2 ∷ []) ∷ []) ∷ frame_with 1 (given 1 (3 ∷ 4 ∷ []) ∷ []) ∷ frame_with 2 (given 1 (1 ∷ 1 ∷ []) ∷ []) ∷ [])
    -- everything that the first end sent is acknowledged; of the second end's frames one is still pending
    × (pending_by a4 ≡ [])
    × (pending_by b4 ≡ frame 2 1 1 ∷ [])
unfolding kept has without xors frames_of unpack pack decodable_length decodable zeros padded drop_to last_to room first_frame last_frame payload blank_frame highest newest_of found_in at_line above numbered packet_of taken_in issued last_of default_status reported merged merged_all default_statuses has_room input_of input_entry announced bad_setup any_above any_twice inserted sorted terms_with made refused tested queue_wire queue_size report_of pending_input done buffer_full is_full nonce_issued request started synchronized counted running replied on_sync_reply dropped_to acknowledged bad_frame pending_queued accepted announces_most input_sent reference_frame taken received_if receive announced_each discarded packet_overflows statuses_merged informed inputs_received input_taken input_unless on_input on_input_ack fresh synchronize_step ignored resumed heard on_body reacted message_step send_step step joined announced_in
sample_facts = (refl, refl, refl, refl, refl, refl)

-- ---- so they are the ends of a run

met : Meet a0.state b0.state
unfolding fresh made terms_with inserted sorted
met = record { there = refl; back = refl }

pub wide-taken : (fresh wide 1000).0 ≡ 0
unfolding fresh bad_setup any_above any_twice has
wide-taken = refl

pub narrow_taken : (fresh narrow 1000).0 ≡ 0
unfolding fresh bad_setup any_above any_twice has
narrow_taken = refl

begun : Run a0 b0
unfolding Each
begun =
    let h : Each IsU32 (1 ∷ 0 ∷ 0 ∷ 0 ∷ []) = (omega arith, (omega arith, (omega arith, (omega arith, tt)))) in
    begin wide narrow 1000 1000 (small_typed _ 1 1 2 1 7 refl h (omega arith, (omega arith, (omega arith, (omega arith, (omega arith, tt))))))
    (small_typed _ 2 2 1 1 9 refl h (omega arith, (omega arith, (omega arith, (omega arith, (omega arith, tt)))))) wide-taken narrow_taken met

-- calls on one end, one after the other
at_a_all : {a b : End} → Run a b → (cs : List Call) → Each Typed cs → Each (λ c. Allowed c b.queued) cs → Run (nexts cs a) b
unfolding Each
at_a_all r [] t q = r
at_a_all {a = a} r (c ∷ cs) t q = at_a_all {a = next c a} (at_a r c t.0 q.0) cs t.1 q.1

at_b_all : {a b : End} → Run a b → (cs : List Call) → Each Typed cs → Each (λ c. Allowed c a.queued) cs → Run a (nexts cs b)
unfolding Each
at_b_all r [] t q = r
at_b_all {b = b} r (c ∷ cs) t q = at_b_all {b = next c b} (at_b r c t.0 q.0) cs t.1 q.1

-- ---- the calls are of the code's types

pub bytes_typed : (l : List ℕ) → Each (λ n. n < 256) l → Bytes l
unfolding Each
bytes_typed [] h i = omega arith
bytes_typed (x ∷ l) h zero = h.0
bytes_typed (x ∷ l) h (suc i) = bytes_typed l h.1 i

send_typed : (number x y : ℕ) → number < 100 → x < 256 → y < 256 → Typed (send number x y)
unfolding Each default_status
send_typed number x y f h k =
    (omega arith, bytes_typed (x ∷ y ∷ []) (h, (k, tt)), omega arith, record { few = refl; frames = (omega arith, (omega arith, tt)) }, omega arith, omega arith)

none_typed : FitsReports none
none_typed zero d h = omega arith
none_typed (suc zero) d h = omega arith
none_typed (suc (suc i)) d h = absurd (omega arith)

input_typed : (magic start at : ℕ) (payload : List ℕ) (now : ℕ) → magic < 100 → start < 100 → at < 2 ^ 32 → Each (λ n. n < 256) payload → now < 10000 → Typed (hand (input magic start at payload) now 0)
input_typed magic start at payload now m s k h n =
    (omega arith, omega arith, record { magic = omega arith; body = (omega arith, omega arith); frames = none_typed; bytes = bytes_typed payload h }, (omega arith, omega arith, omega arith, omega arith))

pub body_only_typed : (magic : ℕ) (b : MessageBody) (now nonce : ℕ) → magic < 100 → FitsBody b → now < 10000 → nonce < 100 → Typed (hand (body_only magic b) now nonce)
body_only_typed magic b now nonce m f n k =
    (omega arith, omega arith, record { magic = omega arith; body = f; frames = λ i d h. absurd (omega arith); bytes = λ i. omega arith }, (omega arith, omega arith, omega arith, omega arith))

pub greeting_typed : (magic : ℕ) → magic < 100 → Each Typed (greeting magic)
unfolding Each
greeting_typed magic m =
    ((omega arith, omega arith, omega arith, omega arith), (of 1 (omega arith), (of 2 (omega arith), (of 3 (omega arith), (of 4 (omega arith), (of 5 (omega arith), tt))))))
  where
    of : (nonce : ℕ) → nonce < 10 → Typed (reply magic nonce)
    of nonce h = body_only_typed magic (SyncReply nonce) 1000 (nonce + 1) m (omega arith) (omega arith) (omega arith)

-- and a handshake carries no inputs
pub greeting_free : (magic : ℕ) (l : List Wire) → Each (λ c. Allowed c l) (greeting magic)
unfolding Each
greeting_free magic l = (tt, (no, (no, (no, (no, (no, tt))))))
  where
    no : {w : Wire} → false ≡ true → Mem w l
    no e = absurd (let n : ◌≡◌ {A = ℕ} 0 1 = cc in omega arith)

-- ---- the run

-- behind the five requests
pub after_requests : {w : Wire} {l : List Wire} (magic : ℕ) → Mem w l → Mem w (requests magic l)
after_requests magic m = there (there (there (there (there m))))

both_ready : Run (ready wide 7 9) (ready narrow 9 7)
both_ready =
    let r = at_a_all begun (greeting 9) (greeting_typed 9 (omega arith)) (greeting_free 9 []) in
    rw (a_ready, b_ready) at (at_b_all r (greeting 7) (greeting_typed 7 (omega arith)) (greeting_free 7 _))

I1_typed : (now : ℕ) → now < 10000 → Typed (hand I1 now 0)
unfolding Each
I1_typed now n = input_typed 7 0 null_frame (5 ∷ 7 ∷ 6 ∷ 8 ∷ []) now (omega arith) (omega arith) (omega arith) (omega arith, (omega arith, (omega arith, (omega arith, tt)))) n

I1_queued : Mem I1 a1.queued
I1_queued = rw first_queue (after_requests 7 (there (here refl)))

first : Run a1 (ready narrow 9 7)
unfolding Each
first =
    at_a_all both_ready (send 0 5 7 ∷ send 1 6 8 ∷ [])
    (send_typed 0 5 7 (omega arith) (omega arith) (omega arith), (send_typed 1 6 8 (omega arith) (omega arith) (omega arith), tt)) (tt, (tt, tt))

second : Run a1 b2
unfolding Each
second =
    rw b2_is at (at_b_all
    (at_b_all first (hand I1 2000 0 ∷ hand I0 2001 0 ∷ hand I1 2002 0 ∷ []) (
      I1_typed 2000 (omega arith),
      (input_typed 7 0 null_frame (5 ∷ 7 ∷ []) 2001 (omega arith) (omega arith) (omega arith) (omega arith, (omega arith, tt)) (omega arith), (I1_typed 2002 (omega arith), tt)),
    )
    (λ _. I1_queued, (λ _. rw first_queue (after_requests 7 (here refl)), (λ _. I1_queued, tt))))
    (send 0 1 2 ∷ send 1 3 4 ∷ [])
    (send_typed 0 1 2 (omega arith) (omega arith) (omega arith), (send_typed 1 3 4 (omega arith) (omega arith) (omega arith), tt)) (tt, (tt, tt)))

I3_queued : Mem I3 a3.queued
I3_queued = after_requests 7 (there (there (there (there (here refl)))))

third : Run a3 b2
unfolding Each
third =
    rw a3_is at (at_a_all
    (at_a second (hand J1 2003 0)
    (input_typed 9 0 (fr 1) (1 ∷ 2 ∷ 3 ∷ 4 ∷ []) 2003 (omega arith) (omega arith) (omega arith) (omega arith, (omega arith, (omega arith, (omega arith, tt)))) (omega arith))
    (λ _. after_requests 9 (there (there (there (there (here refl)))))))
    (send 2 9 9 ∷ send 3 9 10 ∷ [])
    (send_typed 2 9 9 (omega arith) (omega arith) (omega arith), (send_typed 3 9 10 (omega arith) (omega arith) (omega arith), tt)) (tt, (tt, tt)))

-- bytes that are handed over do what their message does
pub as_bytes : (w : Wire) (now : ℕ) (x : End) → Fits w → next (Call.datagram 3 (bytes w) now (epoch_at now) 0 65536) x ≡ next (hand w now 0) x
as_bytes w now x f = rw (bytes-message 3 w now (epoch_at now) 0 65536 x.state f)

pub I3_fits : Fits I3
unfolding Each
I3_fits =
    record {
      magic = omega arith;
      body = (omega arith, omega arith);
      frames = none_typed;
      statuses = omega arith;
      length = omega arith;
      bytes = bytes_typed (15 ∷ 1 ∷ 15 ∷ 2 ∷ []) (omega arith, (omega arith, (omega arith, (omega arith, tt))));
      none = λ e. absurd (let n : ◌≡◌ {A = ℕ} 0 1 = (let z = input_is false (fr 2) (fr 1) in cc) in omega arith);
    }

fourth : Run a3 b4
unfolding Each
fourth =
    at_b_all
    (rw (as_bytes I3 2004 b2 I3_fits) at
    (at_b third (Call.datagram 3 (bytes I3) 2004 (epoch_at 2004) 0 65536) (omega arith, bytes-bytes I3 I3_fits, (omega arith, omega arith, omega arith, omega arith))
    (rw (read-bytes I3 I3_fits) (λ _. λ _. I3_queued))))
    (Call.take_events ∷ send 2 1 1 ∷ []) (tt, (send_typed 2 1 1 (omega arith) (omega arith) (omega arith), tt)) (tt, (tt, tt))

pub sample : Run a4 b4
unfolding Each
sample =
    at_a_all fourth (hand (ack 9 3) 2005 0 ∷ hand J2 2006 0 ∷ []) (
      body_only_typed 9 (InputAck (fr 3)) 2005 0 (omega arith) (omega arith) (omega arith) (omega arith),
      (input_typed 9 2 (fr 3) (2 ∷ 5 ∷ []) 2006 (omega arith) (omega arith) (omega arith) (omega arith, (omega arith, tt)) (omega arith), tt),
    ) (
      λ _. rw last_queue (after_requests 9 (there (there (there (there (there (here refl))))))),
      (λ _. rw last_queue (after_requests 9 (there (there (there (there (there (there (here refl)))))))), tt),
    )

-- ---- what the theorems say of it

pub sample_ordered : InOrder a4 b4 × InOrder b4 a4
sample_ordered = in_order sample

-- of the frames that the first end accepted it dropped all four, which are announced; of the second end's three it dropped two, and the third still pends
pub sample_dropped : (sample_ordered.0.dropped ≡ 4) × (sample_ordered.1.dropped ≡ 2)
sample_dropped =
    let a = sample_ordered.0 in
    let b = sample_ordered.1 in
    let four : length a4.accepted ≡ 4 = ap length sample_facts.0 in
    let three : length b4.accepted ≡ 3 = ap length sample_facts.2 in
    let left : length (drop a.dropped a4.accepted) ≡ 0 = ap length (sym a.pending ∙ sample_facts.4) in
    let one : length (drop b.dropped b4.accepted) ≡ 1 = ap length (sym b.pending ∙ sample_facts.5) in
    (omega (arith, length-drop a.dropped a4.accepted, a.arrived, a.most), omega (arith, length-drop b.dropped b4.accepted, b.arrived, b.most))

-- at max_prediction 1 the keep line is two frames below the newest, frame 3: the second end holds frame 1, and is ready for an Input from frame 2 on. Frame 0 lies below
line : b4.state.setup.max_prediction ≡ 1
unfolding kept has without xors frames_of unpack pack decodable_length decodable zeros padded drop_to last_to room first_frame last_frame payload blank_frame highest newest_of found_in at_line above numbered packet_of taken_in issued last_of default_status reported merged merged_all default_statuses has_room input_of input_entry announced bad_setup any_above any_twice inserted sorted terms_with made refused tested queue_wire queue_size report_of pending_input done buffer_full is_full nonce_issued request started synchronized counted running replied on_sync_reply dropped_to acknowledged bad_frame pending_queued accepted announces_most input_sent reference_frame taken received_if receive announced_each discarded packet_overflows statuses_merged informed inputs_received input_taken input_unless on_input on_input_ack fresh synchronize_step ignored resumed heard on_body reacted message_step send_step step joined announced_in
line = refl

pub sample_ready : Ready (fr 2) b4
unfolding last_announced
sample_ready =
    let said = sample_facts.1 in
    let h : Holds (fr 1) b4 = sample_ordered.0.holds (fr 1) (inr (frame_with 1 (given 0 (6 ∷ []) ∷ given 1 (8 ∷ []) ∷ []), rw said (there (here refl)), refl), rw (said, line) (omega arith)) in
    inr (h.0, h.1, ap suc h.2)

-- an Input that is heard and heeded, with the number that it is answered
abbrev Passes : (w : Wire) → (start now : ℕ) → End → Type 0
Passes w start now x = ((step (hand w now 0) x.state).answer ≡ 0) × Heard 3 w.magic x.state × Heeded false 2 (fr start) x.state

-- the frames that the second end holds at last: the blank one is gone, and so is frame 0
abbrev last_history : List InputBytes
last_history = record { frame = fr 1; bytes = padded (6 ∷ 8 ∷ []) } ∷ record { frame = fr 2; bytes = padded (9 ∷ 9 ∷ []) } ∷ record { frame = fr 3; bytes = padded (9 ∷ 10 ∷ []) } ∷ []

pub passing : Passes I1 0 2000 (ready narrow 9 7) × Passes I3 2 2004 b2 × Passes I1 0 2007 b4 × (b4.state.carried.receiver.history ≡ last_history)
unfolding kept has without xors frames_of unpack pack decodable_length decodable zeros padded drop_to last_to room first_frame last_frame payload blank_frame highest newest_of found_in at_line above numbered packet_of taken_in issued last_of default_status reported merged merged_all default_statuses has_room input_of input_entry announced bad_setup any_above any_twice inserted sorted terms_with made refused tested queue_wire queue_size report_of pending_input done buffer_full is_full nonce_issued request started synchronized counted running replied on_sync_reply dropped_to acknowledged bad_frame pending_queued accepted announces_most input_sent reference_frame taken received_if receive announced_each discarded packet_overflows statuses_merged informed inputs_received input_taken input_unless on_input on_input_ack fresh synchronize_step ignored resumed heard on_body reacted message_step send_step step joined announced_in
passing = (
  (refl, record { alive = refl; known = refl; passes = inr refl }, record { from = omega arith; complete = inr refl }),
  (refl, record { alive = refl; known = refl; passes = inr refl }, record { from = omega arith; complete = inr refl }),
  (refl, record { alive = refl; known = refl; passes = inr refl }, record { from = omega arith; complete = inr refl }),
  refl,
)

-- frames 0 and 1 are brought to an end that has no frame yet
pub sample_brought : fr 0 + 2 ≤ suc (last_announced null_frame (announced_by (next (hand I1 2000 0) (ready narrow 9 7))))
unfolding kept has without xors frames_of unpack pack decodable_length decodable zeros padded drop_to last_to room first_frame last_frame payload blank_frame highest newest_of found_in at_line above numbered packet_of taken_in issued last_of default_status reported merged merged_all default_statuses has_room input_of input_entry announced bad_setup any_above any_twice inserted sorted terms_with made refused tested queue_wire queue_size report_of pending_input done buffer_full is_full nonce_issued request started synchronized counted running replied on_sync_reply dropped_to acknowledged bad_frame pending_queued accepted announces_most input_sent reference_frame taken received_if receive announced_each discarded packet_overflows statuses_merged informed inputs_received input_taken input_unless on_input on_input_ack fresh synchronize_step ignored resumed heard on_body reacted message_step send_step step joined announced_in
sample_brought =
    let p = passing.0 in
    ((brings first).1.message 3 2 I1 2000 (epoch_at 2000) 0 65536 I1_queued false (fr 0) null_frame refl p.0 p.1 p.2).reaches (inl refl)

-- frames 2 and 3 to an end that holds frame 1
pub sample_held : fr 2 + 2 ≤ suc (last_announced null_frame (announced_by b3))
unfolding kept has without xors frames_of unpack pack decodable_length decodable zeros padded drop_to last_to room first_frame last_frame payload blank_frame highest newest_of found_in at_line above numbered packet_of taken_in issued last_of default_status reported merged merged_all default_statuses has_room input_of input_entry announced bad_setup any_above any_twice inserted sorted terms_with made refused tested queue_wire queue_size report_of pending_input done buffer_full is_full nonce_issued request started synchronized counted running replied on_sync_reply dropped_to acknowledged bad_frame pending_queued accepted announces_most input_sent reference_frame taken received_if receive announced_each discarded packet_overflows statuses_merged informed inputs_received input_taken input_unless on_input on_input_ack fresh synchronize_step ignored resumed heard on_body reacted message_step send_step step joined announced_in
sample_held =
    let p = passing.1 in
    ((brings third).1.message 3 2 I3 2004 (epoch_at 2004) 0 65536 I3_queued false (fr 2) (fr 1) refl p.0 p.1 p.2).reaches
    (inr (record { frame = fr 1; bytes = padded (6 ∷ 8 ∷ []) }, there (there (here refl)), refl))

-- an old Input whose reference, the blank frame, lies below the keep line announces nothing
pub not_ready : ¬ Ready (fr 0) b4
unfolding last_announced
not_ready (inl e) = absurd (let n : ◌≡◌ {A = ℕ} 4 0 = ap length (sym sample_facts.1 ∙ e) in omega arith)
not_ready (inr x) =
    let low : fr 3 ≤ x.0.frame + 2 * 1 = rw (sample_facts.1, line) at (sample_ordered.0.only x.0.frame (x.0, x.1, refl)).1 in
    absurd (omega (arith, x.2))

pub sample_gone : announced_by (next (hand I1 2007 0) b4) ≡ announced_by b4
sample_gone =
    let p = passing.2 in
    ((brings fourth).1.message 3 2 I1 2007 (epoch_at 2007) 0 65536 (after_requests 7 (there (here refl))) false (fr 0) null_frame refl p.0 p.1 p.2).nothing not_ready

-- the Input that would bring frames 0 and 1 to an end that has none: with a status too few it is discarded, from another peer ignored, at a clock above its
-- ceiling refused
abbrev handed_as : (peer count now : ℕ) → Call
handed_as peer count now = Call.message peer count I1 now (epoch_at 2000) 0 65536

not_handed : (¬ HandsInput (handed_as 3 1 2000) (ready narrow 9 7).state) × (¬ HandsInput (handed_as 4 2 2000) (ready narrow 9 7).state) × (¬ HandsInput (handed_as 3 2 (2 ^ 62)) (ready narrow 9 7).state)
unfolding kept has without xors frames_of unpack pack decodable_length decodable zeros padded drop_to last_to room first_frame last_frame payload blank_frame highest newest_of found_in at_line above numbered packet_of taken_in issued last_of default_status reported merged merged_all default_statuses has_room input_of input_entry announced bad_setup any_above any_twice inserted sorted terms_with made refused tested queue_wire queue_size report_of pending_input done buffer_full is_full nonce_issued request started synchronized counted running replied on_sync_reply dropped_to acknowledged bad_frame pending_queued accepted announces_most input_sent reference_frame taken received_if receive announced_each discarded packet_overflows statuses_merged informed inputs_received input_taken input_unless on_input on_input_ack fresh synchronize_step ignored resumed heard on_body reacted message_step send_step step joined announced_in
not_handed = (
  λ p. few p.disconnect p.body p.heeded.complete,
  λ p. let n : ◌≡◌ {A = ℕ} 4 3 = p.heard.known in omega arith,
  λ p. let n : ◌≡◌ {A = ℕ} 8 0 = p.done in omega arith,
)
  where
    few : {start ack : ℕ} (d : Bool) → I1.body ≡ Input d start ack → (d ≡ true) ⊎ (1 ≡ (ready narrow 9 7).state.setup.players) → ⊥
    few d b (inl e) = let n : ◌≡◌ {A = ℕ} 0 1 = cc in omega arith
    few d b (inr e) = let n : ◌≡◌ {A = ℕ} 1 2 = e in omega arith

none_yet : announced_by (ready narrow 9 7) ≡ []
unfolding announced_in fresh
none_yet = refl

-- so it announces no frame
pub sample_silent : (announced_by (next (handed_as 3 1 2000) (ready narrow 9 7)) ≡ [])
    × (announced_by (next (handed_as 4 2 2000) (ready narrow 9 7)) ≡ [])
    × (announced_by (next (handed_as 3 2 (2 ^ 62)) (ready narrow 9 7)) ≡ [])
sample_silent =
    let quiet = (brings first).1.silent in
    (quiet _ not_handed.0 ∙ none_yet, quiet _ not_handed.1 ∙ none_yet, quiet _ not_handed.2 ∙ none_yet)
