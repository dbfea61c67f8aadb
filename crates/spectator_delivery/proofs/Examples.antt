-- Worked: an endpoint that sends three frames of two players, and a box that shows them. Of three Inputs two are lost and the last arrives; the first comes late.
-- The second player leaves after frame 0, and is marked so from frame 1 on.
use mathlib.Core.Bool.{true, false}
use mathlib.Core.List.{List, [], ◌∷◌, ◌++◌, map}
use mathlib.Core.Path.{◌≡◌, refl, ap, ◌∙◌}
use Prim.Native.Nat.{ℕ, zero, suc, ◌<◌}
use native.Mathlib.Omega.{arith}
use lib.ListN.{length, take}
use Rattle.base.specs.Keyed.{kept, has, without}
use Rattle.base.specs.Last.{last_of}
use Rattle.frame.specs.Bias.{null_frame}
use Rattle.packing.specs.Packing.{xors, frames_of, unpack, pack, decodable_length, decodable}
use Rattle.packing.specs.Pad.{zeros, padded}
use Rattle.pending.specs.Pending.{drop_to, last_to, room, first_frame, last_frame, payload}
use Rattle.history.specs.History.{blank_frame, highest, newest_of, found_in, reference_frame, at_line, above, numbered, packet_of, taken_in}
use Rattle.nonces.specs.Nonces.{issued}
use Rattle.status.specs.Status.{default_status, reported, merged}
use Rattle.status.specs.Statuses.{merged_all, default_statuses}
use Rattle.status.specs.declared.ConnectionStatus.{ConnectionStatus}
use Rattle.codec.specs.Message.{Wire, FitsReports}
use Rattle.codec.specs.declared.MessageBody.TheVariants.{Input}
use Rattle.events.specs.declared.Entry.{Entry}
use Rattle.events.specs.declared.Event.TheVariants as Event
use Rattle.events.specs.Events.{has_room, input_of, without_input, input_entry, announced, announced_each}
use Rattle.setup.specs.declared.Setup.{Setup}
use Rattle.setup.specs.Setup.{bad_setup, any_above, any_twice, inserted, sorted, terms_with}
use Rattle.quality.specs.Advantage.{advantage_of, advantage_overflows}
use Rattle.outbox.specs.Outbox.{queue_size, report_of, pending_input}
use Rattle.endpoint_rules.specs.declared.Phase.TheVariants as Phase
use Rattle.endpoint_rules.specs.Seen.{made, with_phase, with_sync, with_events as with_host_events, with_queued}
use Rattle.endpoint_rules.specs.Did.{refused as host_refused, tested, queue_wire, done}
use Rattle.endpoint_rules.specs.Room.{buffer_full, is_full}
use Rattle.endpoint_rules.specs.Handshake.{nonce_issued, request, started, synchronized, counted, running, replied, on_sync_reply}
use Rattle.endpoint_rules.specs.Sending.{dropped_to, acknowledged, bad_frame, pending_queued, accepted, announces_most, input_sent}
use Rattle.endpoint_rules.specs.Receiving.{taken, received_if, receive, discarded, packet_overflows, statuses_merged, informed, inputs_received, input_taken, input_unless, on_input}
use Rattle.endpoint_rules.specs.Act.{resent, report_sent, kept_alive, interrupted, timed_out, acted}
use Rattle.endpoint_rules.specs.Advantage.{local_advantage, advantage_updated}
use Rattle.endpoint_rules.specs.Call as Host
use Rattle.endpoint_rules.specs.Step.{fresh as host_fresh, step as host_step, synchronize_step, ignored, resumed, heard, on_body, reacted, message_step, send_step, act_step, advantage_step, take_step}
use Rattle.endpoint_rules.proofs.Bouts.{setup_of, fr}
use Rattle.endpoint_invariant.specs.Each.{Each}
use Rattle.endpoint_invariant.specs.Typed.{Typed as HostTyped, TypedPlace}
use Rattle.endpoint_invariant.proofs.Choices.{never}
use Rattle.endpoint_invariant.proofs.Examples.{small_typed, reply_typed}
use Rattle.endpoint_delivery.specs.Frames.{Frame, announced_to}
use Rattle.endpoint_delivery.specs.Runs.{End, starts, next, Allowed, Meet}
use Rattle.endpoint_delivery.proofs.Lists.{Mem, here, there}
use Rattle.endpoint_delivery.proofs.Examples.{nexts, greeting, first_half, second_half, halfway, ready, requests, synchronizing, bytes_typed, greeting_typed, greeting_free, after_requests}
use Rattle.spectator_rules.specs.declared.InputStatus.TheVariants.{Disconnected}
use Rattle.spectator_rules.specs.declared.SyncedInput.{SyncedInput}
use Rattle.spectator_rules.specs.declared.SessionState.TheVariants as SessionState
use Rattle.spectator_rules.specs.Setup.{host_setup}
use Rattle.spectator_rules.specs.Watch.{Watch, made_watch, with_host, with_state}
use Rattle.spectator_rules.specs.Inputs.{blank_input, fresh_inputs, input_stored, player_input_at}
use Rattle.spectator_rules.specs.Handling.{event_added, announce, input_handled, handled, handled_all}
use Rattle.spectator_rules.specs.Advance.{frames_to_advance, frames_by, frames_refusal_by, synced_at, frame_inputs_by, requests_by, requests_of, advance_refusal}
use Rattle.spectator_rules.specs.Call.{Call}
use Rattle.spectator_rules.specs.Step.{fresh, decided, by_host, host_acts, host_takes, poll_refusal, polled, poll_step, advance_step, step}
use Rattle.spectator_rules.proofs.Examples.{synced, ready as ready_watch, hand_from, poll, handshake, reply}
use Rattle.spectator_invariant.specs.Typed.{Typed}
use Rattle.spectator_invariant.specs.Handled.{input_event}
use Rattle.spectator_invariant.proofs.Examples.{setup, session_typed, session_taken, byte, confirmed}
use Rattle.spectator_delivery.specs.Viewing.{Shown, Box, opens, numbered_from, input_count, next_box, AllowedBox, Viewing}
use Rattle.spectator_delivery.specs.Viewed.{read_off, Viewed}
use Rattle.spectator_delivery.proofs.Viewed.{viewed}

-- ---- the endpoint that sends: two players with a byte each; its one handle is no player's

abbrev pub sender : Setup
sender = setup_of (2 ∷ 0 ∷ 0 ∷ 0 ∷ []) 1 2 1 2 9

abbrev sender0 : End
sender0 = starts (host_fresh sender 1000).1

sender_half : nexts (first_half 7) sender0 ≡ halfway sender 9
unfolding kept has without xors frames_of unpack pack decodable_length decodable zeros padded drop_to last_to room first_frame last_frame payload blank_frame highest newest_of found_in at_line above numbered packet_of taken_in issued last_of default_status reported merged merged_all default_statuses has_room input_of input_entry announced inserted sorted terms_with made host_refused tested queue_wire queue_size report_of pending_input done buffer_full is_full nonce_issued request started synchronized counted running replied on_sync_reply bad_frame pending_queued accepted announces_most input_sent host_fresh synchronize_step ignored resumed heard on_body reacted message_step send_step host_step
sender_half = refl

sender_rest : nexts (second_half 7) (halfway sender 9) ≡ ready sender 9 7
unfolding kept has without xors frames_of unpack pack decodable_length decodable zeros padded drop_to last_to room first_frame last_frame payload blank_frame highest newest_of found_in at_line above numbered packet_of taken_in issued last_of default_status reported merged merged_all default_statuses has_room input_of input_entry announced inserted sorted terms_with made host_refused tested queue_wire queue_size report_of pending_input done buffer_full is_full nonce_issued request started synchronized counted running replied on_sync_reply bad_frame pending_queued accepted announces_most input_sent host_fresh synchronize_step ignored resumed heard on_body reacted message_step send_step host_step
sender_rest = refl

pub sender_ready : nexts (greeting 7) sender0 ≡ ready sender 9 7
sender_ready = ap (nexts (second_half 7)) sender_half ∙ sender_rest

-- the second player has left after frame 0
abbrev pub statuses : List ConnectionStatus
statuses = record { disconnected = false; last_frame = fr 0 } ∷ record { disconnected = true; last_frame = fr 0 } ∷ []

abbrev pub send : (frame x y : ℕ) → Host.Call
send frame x y = Host.Call.send_input (fr frame) (x ∷ y ∷ []) 2 statuses 1000 65536

abbrev sends : List Host.Call
sends = send 0 1 2 ∷ send 1 3 4 ∷ send 2 5 6 ∷ []

abbrev pub sender1 : End
sender1 = nexts sends (ready sender 9 7)

-- the Inputs that it queues: each has all frames that are not acknowledged
abbrev pub input : List ℕ → Wire
input bytes =
    record {
      magic = 9;
      body = Input false (fr 0) null_frame;
      reports = record { disconnected = false; last_frame = fr 0 } ∷ record { disconnected = true; last_frame = fr 0 } ∷ [];
      payload = bytes;
    }

abbrev pub I0 : Wire
I0 = input (1 ∷ 2 ∷ [])

abbrev pub I2 : Wire
I2 = input (1 ∷ 2 ∷ 3 ∷ 4 ∷ 5 ∷ 6 ∷ [])

abbrev pub frame : (number x y : ℕ) → Frame
frame number x y = record { number = fr number; bytes = x ∷ y ∷ [] }

pub sender_facts : (sender1.queued ≡ requests 9 (I0 ∷ input (1 ∷ 2 ∷ 3 ∷ 4 ∷ []) ∷ I2 ∷ [])) × (sender1.accepted ≡ frame 0 1 2 ∷ frame 1 3 4 ∷ frame 2 5 6 ∷ [])
unfolding kept has without xors frames_of unpack pack decodable_length decodable zeros padded drop_to last_to room first_frame last_frame payload blank_frame highest newest_of found_in at_line above numbered packet_of taken_in issued last_of default_status reported merged merged_all default_statuses has_room input_of input_entry announced inserted sorted terms_with made host_refused tested queue_wire queue_size report_of pending_input done buffer_full is_full nonce_issued request started synchronized counted running replied on_sync_reply bad_frame pending_queued accepted announces_most input_sent host_fresh synchronize_step ignored resumed heard on_body reacted message_step send_step host_step
sender_facts = (refl, refl)

-- ---- the box: four slots; more than two frames behind it goes on by two

abbrev pub next_boxes : List Call → Box → Box
next_boxes [] x = x
next_boxes (c ∷ cs) x = next_boxes cs (next_box c x)

-- a box that has shown nothing
abbrev dark : Watch → List Wire → List Entry → Box
dark w queued handled = record { watch = w; queued = queued; announced = handled ++ w.host.events; handled = handled; copied = default_status ∷ default_status ∷ []; shown = [] }

-- the handshake by halves, each computed from a state that is written out
abbrev box_halfway : Box
box_halfway =
    let w : Watch = ready_watch 4 8 2 2 in
    dark (with_state SessionState.Synchronizing
    (with_host
    (with_phase Phase.Synchronizing
    (with_sync (record { remaining = 3; nonces = 3 ∷ []; remote_magic = 0 })
    (with_host_events (without_input (Event.Synchronizing 5 1) ∷ without_input (Event.Synchronizing 5 2) ∷ []) (with_queued 30 w.host))))
    w)) (halfway sender 7).queued []

box_half : next_boxes (Call.synchronize 1000 71000 1 65536 ∷ reply 1 2 ∷ reply 2 3 ∷ []) (opens setup 1000) ≡ box_halfway
unfolding kept has without xors frames_of unpack decodable_length decodable zeros padded drop_to last_to blank_frame highest newest_of found_in at_line above numbered packet_of taken_in issued last_of default_status reported merged merged_all default_statuses has_room input_of input_entry announced inserted sorted terms_with made host_refused tested queue_wire queue_size done buffer_full is_full nonce_issued request started synchronized counted running replied on_sync_reply dropped_to acknowledged pending_queued reference_frame taken received_if receive announced_each discarded packet_overflows statuses_merged informed inputs_received input_taken input_unless on_input resent report_sent kept_alive interrupted timed_out acted advantage_of advantage_overflows local_advantage advantage_updated synchronize_step ignored resumed heard on_body reacted message_step act_step advantage_step take_step host_step host_setup made_watch blank_input fresh_inputs input_stored player_input_at event_added announce input_handled handled handled_all frames_to_advance frames_by frames_refusal_by synced_at frame_inputs_by requests_by requests_of advance_refusal fresh decided by_host host_acts host_takes poll_refusal polled poll_step advance_step step numbered_from input_count
box_half = refl

box_rest : next_boxes (reply 3 4 ∷ reply 4 5 ∷ reply 5 6 ∷ []) box_halfway ≡ dark (synced 4 8 2 2) (requests 7 []) []
unfolding kept has without xors frames_of unpack decodable_length decodable zeros padded drop_to last_to blank_frame highest newest_of found_in at_line above numbered packet_of taken_in issued last_of default_status reported merged merged_all default_statuses has_room input_of input_entry announced inserted sorted terms_with made host_refused tested queue_wire queue_size done buffer_full is_full nonce_issued request started synchronized counted running replied on_sync_reply dropped_to acknowledged pending_queued reference_frame taken received_if receive announced_each discarded packet_overflows statuses_merged informed inputs_received input_taken input_unless on_input resent report_sent kept_alive interrupted timed_out acted advantage_of advantage_overflows local_advantage advantage_updated synchronize_step ignored resumed heard on_body reacted message_step act_step advantage_step take_step host_step host_setup made_watch blank_input fresh_inputs input_stored player_input_at event_added announce input_handled handled handled_all frames_to_advance frames_by frames_refusal_by synced_at frame_inputs_by requests_by requests_of advance_refusal fresh decided by_host host_acts host_takes poll_refusal polled poll_step advance_step step numbered_from input_count
box_rest = refl

box_running : next_boxes (poll ∷ Call.take_events ∷ []) (dark (synced 4 8 2 2) (requests 7 []) []) ≡ dark (ready_watch 4 8 2 2) (requests 7 []) synchronizing
unfolding kept has without xors frames_of unpack decodable_length decodable zeros padded drop_to last_to blank_frame highest newest_of found_in at_line above numbered packet_of taken_in issued last_of default_status reported merged merged_all default_statuses has_room input_of input_entry announced inserted sorted terms_with made host_refused tested queue_wire queue_size done buffer_full is_full nonce_issued request started synchronized counted running replied on_sync_reply dropped_to acknowledged pending_queued reference_frame taken received_if receive announced_each discarded packet_overflows statuses_merged informed inputs_received input_taken input_unless on_input resent report_sent kept_alive interrupted timed_out acted advantage_of advantage_overflows local_advantage advantage_updated synchronize_step ignored resumed heard on_body reacted message_step act_step advantage_step take_step host_setup made_watch blank_input fresh_inputs input_stored player_input_at event_added announce input_handled handled handled_all frames_to_advance frames_by frames_refusal_by synced_at frame_inputs_by requests_by requests_of advance_refusal fresh decided by_host host_acts host_takes poll_refusal polled poll_step advance_step step numbered_from input_count
box_running = refl

abbrev pub lit : Box
lit = dark (ready_watch 4 8 2 2) (requests 7 []) synchronizing

-- the handshake, and a poll that handles its events
abbrev pub greets : List Call
greets = handshake ++ poll ∷ Call.take_events ∷ []

pub box_lit : next_boxes greets (opens setup 1000) ≡ lit
box_lit =
    ap (next_boxes (reply 3 4 ∷ reply 4 5 ∷ reply 5 6 ∷ poll ∷ Call.take_events ∷ [])) box_half
    ∙ ap (next_boxes (poll ∷ Call.take_events ∷ [])) box_rest
    ∙ box_running

-- the last Input arrives; two frames are shown; the first Input comes late; the third frame is shown
abbrev watches : List Call
watches = hand_from 3 I2 1000 0 ∷ poll ∷ Call.advance_frame ∷ hand_from 3 I0 1000 0 ∷ poll ∷ Call.advance_frame ∷ []

abbrev pub box1 : Box
box1 = next_boxes watches lit

abbrev pub gone : ℕ → SyncedInput
gone b = record { input = byte b; status = Disconnected }

abbrev pub shown : (number : ℕ) → SyncedInput → SyncedInput → Shown
shown number one two = record { number = fr number; inputs = one ∷ two ∷ []; statuses = statuses }

-- an input of one byte is announced
abbrev pub told : (number player b : ℕ) → Entry
told number player b = input_event player (record { frame = fr number; input = byte b })

pub box_facts : (box1.shown ≡ shown 0 (confirmed 1) (confirmed 2) ∷ shown 1 (confirmed 3) (gone 4) ∷ shown 2 (confirmed 5) (gone 6) ∷ [])
    × (box1.copied ≡ statuses)
    × (box1.announced ≡ synchronizing ++ told 0 0 1 ∷ told 0 1 2 ∷ told 1 0 3 ∷ told 1 1 4 ∷ told 2 0 5 ∷ told 2 1 6 ∷ [])
    × (box1.watch.current ≡ fr 2)
    × (box1.watch.host.setup.input_size ≡ 1)
    × (box1.watch.host.setup.handles ≡ 0 ∷ 1 ∷ [])
unfolding kept has without xors frames_of unpack decodable_length decodable zeros padded drop_to last_to blank_frame highest newest_of found_in at_line above numbered packet_of taken_in issued last_of default_status reported merged merged_all default_statuses has_room input_of input_entry announced inserted sorted terms_with made host_refused tested queue_wire queue_size done buffer_full is_full nonce_issued request started synchronized counted running replied on_sync_reply dropped_to acknowledged pending_queued reference_frame taken received_if receive announced_each discarded packet_overflows statuses_merged informed inputs_received input_taken input_unless on_input resent report_sent kept_alive interrupted timed_out acted advantage_of advantage_overflows local_advantage advantage_updated synchronize_step ignored resumed heard on_body reacted message_step act_step advantage_step take_step host_step host_setup made_watch blank_input fresh_inputs input_stored player_input_at event_added announce input_handled handled handled_all frames_to_advance frames_by frames_refusal_by synced_at frame_inputs_by requests_by requests_of advance_refusal fresh decided by_host host_acts host_takes poll_refusal polled poll_step advance_step step numbered_from input_count
box_facts = (refl, refl, refl, refl, refl, refl)

-- ---- so they are a run

met : Meet sender0.state (opens setup 1000).watch.host
unfolding host_fresh fresh made made_watch host_setup terms_with inserted sorted
met = record { there = refl; back = refl }

pub sender_taken : (host_fresh sender 1000).0 ≡ 0
unfolding host_fresh bad_setup any_above any_twice has
sender_taken = refl

begun : Viewing sender0 (opens setup 1000)
unfolding Each
begun =
    Viewing.begin sender setup 1000 1000
    (small_typed _ 1 2 1 2 9 refl (omega arith, (omega arith, (omega arith, (omega arith, tt)))) (omega arith, (omega arith, (omega arith, (omega arith, (omega arith, tt))))))
    session_typed sender_taken session_taken met

-- calls on the one and on the other, one after the other
at_end_lem : {a : End} {x : Box} → Viewing a x → (cs : List Host.Call) → Each HostTyped cs → Each (λ c. Allowed c x.queued) cs → Viewing (nexts cs a) x
unfolding Each
at_end_lem v [] t q = v
at_end_lem {a = a} v (c ∷ cs) t q = at_end_lem {a = next c a} (Viewing.at_end v c t.0 q.0) cs t.1 q.1

at_box_lem : {a : End} {x : Box} → Viewing a x → (cs : List Call) → Each Typed cs → Each (λ c. AllowedBox c a.queued) cs → Viewing a (next_boxes cs x)
unfolding Each
at_box_lem v [] t q = v
at_box_lem {x = x} v (c ∷ cs) t q = at_box_lem {x = next_box c x} (Viewing.at_box v c t.0 q.0) cs t.1 q.1

-- the calls are of the code's types

send_typed : (number x y : ℕ) → number < 100 → x < 256 → y < 256 → HostTyped (send number x y)
unfolding Each
send_typed number x y f h k =
    (omega arith, bytes_typed (x ∷ y ∷ []) (h, (k, tt)), omega arith, record { few = refl; frames = (omega arith, (omega arith, tt)) }, omega arith, omega arith)

sends_typed : Each HostTyped sends
unfolding Each
sends_typed =
    (send_typed 0 1 2 (omega arith) (omega arith) (omega arith), (send_typed 1 3 4 (omega arith) (omega arith) (omega arith), (send_typed 2 5 6 (omega arith) (omega arith) (omega arith), tt)))

place_typed : TypedPlace 1000 71000 99 65536
place_typed = (omega arith, omega arith, omega arith, omega arith)

greets_typed : Each Typed greets
unfolding Each
greets_typed = (
  (omega arith, omega arith, omega arith, omega arith),
  (reply_typed 1 (omega arith), (reply_typed 2 (omega arith), (reply_typed 3 (omega arith), (reply_typed 4 (omega arith), (reply_typed 5 (omega arith), (place_typed, (tt, tt))))))),
)

pub reports_typed : FitsReports I0.reports
reports_typed zero d h = omega arith
reports_typed (suc zero) d h = omega arith
reports_typed (suc (suc i)) d h = absurd (omega arith)

input_typed : (bytes : List ℕ) → Each (λ n. n < 256) bytes → Typed (hand_from 3 (input bytes) 1000 0)
input_typed bytes h =
    (omega arith, omega arith, record { magic = omega arith; body = (omega arith, omega arith); frames = reports_typed; bytes = bytes_typed bytes h }, (omega arith, omega arith, omega arith, omega arith))

watches_typed : Each Typed watches
unfolding Each
watches_typed = (
  input_typed (1 ∷ 2 ∷ 3 ∷ 4 ∷ 5 ∷ 6 ∷ []) (omega arith, (omega arith, (omega arith, (omega arith, (omega arith, (omega arith, tt)))))),
  (place_typed, (tt, (input_typed (1 ∷ 2 ∷ []) (omega arith, (omega arith, tt)), (place_typed, (tt, tt))))),
)

-- a handshake carries no inputs
pub greets_free : (l : List Wire) → Each (λ c. AllowedBox c l) greets
unfolding Each
greets_free l = (tt, (never, (never, (never, (never, (never, (tt, (tt, tt))))))))

-- ---- the run

sample : Viewing sender1 box1
unfolding Each
sample =
    let v = rw sender_ready at (at_end_lem begun (greeting 7) (greeting_typed 7 (omega arith)) (greeting_free 7 [])) in
    let s = at_end_lem v sends sends_typed (tt, (tt, (tt, tt))) in
    let b = rw box_lit at (at_box_lem s greets greets_typed (greets_free sender1.queued)) in
    let last : Mem I2 sender1.queued = rw sender_facts.0 (after_requests 9 (there (there (here refl)))) in
    let first : Mem I0 sender1.queued = rw sender_facts.0 (after_requests 9 (here refl)) in
    at_box_lem b watches watches_typed (λ _. last, (tt, (tt, (λ _. first, (tt, (tt, tt))))))

sample_viewed : Viewed sender1 box1
sample_viewed = viewed sample

-- what it says there of the three frames
accepted_at : {a : End} {x : Box} (size : ℕ) (handles : List ℕ) (l : List Shown) (m : List Frame) → Viewed a x → x.shown ≡ l → a.accepted ≡ m → x.watch.host.setup.input_size ≡ size
    → x.watch.host.setup.handles ≡ handles → map (read_off size) l ≡ map (announced_to size handles) (take (length l) m)
accepted_at size handles l m v e f g h = rw (e, f, g, h) at v.accepted

sample_accepted : map (read_off 1) (shown 0 (confirmed 1) (confirmed 2) ∷ shown 1 (confirmed 3) (gone 4) ∷ shown 2 (confirmed 5) (gone 6) ∷ [])
    ≡ map (announced_to 1 (0 ∷ 1 ∷ [])) (frame 0 1 2 ∷ frame 1 3 4 ∷ frame 2 5 6 ∷ [])
sample_accepted = accepted_at 1 (0 ∷ 1 ∷ []) _ _ sample_viewed box_facts.0 sender_facts.1 box_facts.4 box_facts.5
