-- Worked: events that rise, and that do not; a session from `new` on to three frames, and an advance of two of them.
use mathlib.Core.List.{List, [], ◌∷◌, ◌++◌, Memᴰ as Mem}
use mathlib.Core.Logic.{inl, inr}
use mathlib.Core.Path.{◌≡◌, refl, sym, ap, subst, ◌∙◌}
use Prim.Native.Nat.{ℕ, ◌+◌, ◌^◌, zero, suc, ◌<◌}
use native.Mathlib.Omega.{arith}
use lib.ListN.{get_or, replicate}
use Rattle.base.specs.Keyed.{kept, has, without}
use Rattle.base.specs.Last.{last_of}
use Rattle.base.specs.Little.{Bytes}
use Rattle.frame.specs.Bias.{null_frame}
use Rattle.packing.specs.Packing.{xors, frames_of, unpack, decodable_length, decodable}
use Rattle.packing.specs.Pad.{zeros, padded}
use Rattle.pending.specs.Pending.{drop_to, last_to}
use Rattle.history.specs.History.{blank_frame, highest, newest_of, found_in, reference_frame, at_line, above, numbered, packet_of, taken_in}
use Rattle.nonces.specs.Nonces.{issued}
use Rattle.status.specs.Status.{default_status, reported, merged}
use Rattle.status.specs.Statuses.{merged_all, default_statuses}
use Rattle.codec.specs.declared.StatusReport.{StatusReport}
use Rattle.events.specs.declared.Entry.{Entry}
use Rattle.events.specs.declared.Event.{Event}
use Rattle.events.specs.Events.{has_room, input_of, without_input, input_entry, announced, announced_each}
use Rattle.setup.specs.Setup.{bad_setup, any_above, any_twice, inserted, sorted, terms_with}
use Rattle.quality.specs.Advantage.{advantage_of, advantage_overflows}
use Rattle.outbox.specs.Outbox.{queue_size}
use Rattle.endpoint_rules.specs.Seen.{made}
use Rattle.endpoint_rules.specs.Did.{refused as host_refused, tested, queue_wire, done}
use Rattle.endpoint_rules.specs.Room.{buffer_full, is_full}
use Rattle.endpoint_rules.specs.Handshake.{nonce_issued, request, started, synchronized, counted, running, replied, on_sync_reply}
use Rattle.endpoint_rules.specs.Sending.{dropped_to, acknowledged, pending_queued}
use Rattle.endpoint_rules.specs.Receiving.{taken, received_if, receive, discarded, packet_overflows, statuses_merged, informed, inputs_received, input_taken, input_unless, on_input}
use Rattle.endpoint_rules.specs.Act.{resent, report_sent, kept_alive, interrupted, timed_out, acted}
use Rattle.endpoint_rules.specs.Advantage.{local_advantage, advantage_updated}
use Rattle.endpoint_rules.specs.Step.{synchronize_step, ignored, resumed, heard, on_body, reacted, message_step, act_step, advantage_step, take_step}
use Rattle.endpoint_rules.proofs.Bouts.{fr, none}
use Rattle.endpoint_invariant.specs.Each.{Each}
use Rattle.endpoint_invariant.proofs.Examples.{small_typed, reply_typed}
use Rattle.spectator_rules.specs.declared.InputStatus.TheVariants.{Confirmed}
use Rattle.spectator_rules.specs.declared.SyncedInput.{SyncedInput}
use Rattle.spectator_rules.specs.declared.SessionSetup.{SessionSetup}
use Rattle.spectator_rules.specs.Setup.{host_setup, bad_limits, bad_session}
use Rattle.spectator_rules.specs.Watch.{Watch, made_watch}
use Rattle.spectator_rules.specs.Inputs.{blank_input, fresh_inputs, input_stored, player_input_at}
use Rattle.spectator_rules.specs.Handling.{event_added, announce, input_handled, handled, handled_all}
use Rattle.spectator_rules.specs.Advance.{frames_to_advance, frames_by, frames_refusal, frames_refusal_by, synced_at, frame_inputs_by, requests_by, requests_of, advance_refusal, held_at, frame_refusal}
use Rattle.spectator_rules.specs.Call.{Call}
use Rattle.spectator_rules.specs.Step.{fresh, decided, by_host, host_acts, host_takes, poll_refusal, polled, poll_step, advance_step, step}
use Rattle.spectator_rules.proofs.Examples.{setup_with, new, ready, synced, shaken, packet, poll, handshake}
use Rattle.spectator_invariant.specs.Typed.{Typed, TypedSession}
use Rattle.spectator_invariant.specs.Seated.{Rising, Seated, ran}
use Rattle.spectator_invariant.specs.Handled.{all_handled, input_event}
use Rattle.spectator_invariant.proofs.Advancing.{advance_gives, advance_first}
use Rattle.spectator_invariant.proofs.Seated.{step_seated, reached_seated}
use Rattle.spectator_invariant.proofs.Handled.{handled_rises, advance_handled}

-- ---- events, of two players

abbrev player_input : (frame player : ℕ) → List ℕ → Entry
player_input frame player input = input_event player (record { frame = fr frame; input = input })

abbrev input : (frame player : ℕ) → Entry
input frame player = player_input frame player (replicate 16 0)

-- frames 7 and 8, another event between
rises : Rising 2 (fr 6) 0 (fr 8) (input 7 0 ∷ input 7 1 ∷ record { event = Event.NetworkResumed; input = [] } ∷ input 8 0 ∷ input 8 1 ∷ [])
unfolding Rising
rises = (((omega arith, inr refl), refl, omega arith, refl), ((refl, refl, omega arith, refl), (tt, (((omega arith, inr refl), refl, omega arith, refl), ((refl, refl, omega arith, refl), (refl, refl))))))

-- after -1 the first frame may be any
starts : Rising 2 null_frame 0 (fr 7) (input 7 0 ∷ input 7 1 ∷ [])
unfolding Rising
starts = (((omega arith, inl refl), refl, omega arith, refl), ((refl, refl, omega arith, refl), (refl, refl)))

falls :
    -- not a frame again
    (Rising 2 (fr 7) 0 (fr 7) (input 7 0 ∷ input 7 1 ∷ []) → ⊥)
    -- nor one that leaves a gap, after the first
    × (Rising 2 null_frame 0 (fr 9) (input 7 0 ∷ input 7 1 ∷ input 9 0 ∷ input 9 1 ∷ []) → ⊥)
    -- nor one without the second player's input
    × (Rising 2 (fr 6) 0 (fr 7) (input 7 0 ∷ []) → ⊥)
    -- nor one for another player than the one due
    × (Rising 2 (fr 6) 0 (fr 7) (input 7 1 ∷ []) → ⊥)
    -- nor one with an input of another length
    × (Rising 2 (fr 6) 0 (fr 7) (input 7 0 ∷ player_input 7 1 (replicate 15 0) ∷ []) → ⊥)
unfolding Rising
falls = (
  λ h. omega (arith, h.0.0.0),
  λ h. elim h.1.1.0.0.1 [ inl k ↦ omega arith | inr k ↦ omega arith ],
  λ h. omega (arith, h.1.0),
  λ h. omega (arith, h.0.1),
  λ h. omega (arith, h.1.0.3),
)

-- ---- a session of two players, with four slots, which goes on by two frames where it is more than two behind

abbrev pub setup : SessionSetup
setup = setup_with 4 8 2 2

pub session_typed : TypedSession setup
unfolding host_setup Each
session_typed =
    small_typed (0 ∷ 1 ∷ 2 ∷ 3 ∷ []) 2 1 1 2 7 refl (omega arith, (omega arith, (omega arith, (omega arith, tt))))
    (omega arith, (omega arith, (omega arith, (omega arith, (omega arith, tt)))))

pub session_taken : (fresh setup 1000).0 ≡ 0
unfolding fresh bad_session host_setup bad_setup bad_limits any_above any_twice has
session_taken = refl

-- ---- its calls

-- frames 0 to 2, a byte of each player
abbrev three : Call
three = packet (fr 0) none (1 ∷ 2 ∷ 3 ∷ 4 ∷ 5 ∷ 6 ∷ [])

six_bytes : Bytes (1 ∷ 2 ∷ 3 ∷ 4 ∷ 5 ∷ 6 ∷ [])
six_bytes zero = omega arith
six_bytes (suc zero) = omega arith
six_bytes (suc (suc zero)) = omega arith
six_bytes (suc (suc (suc zero))) = omega arith
six_bytes (suc (suc (suc (suc zero)))) = omega arith
six_bytes (suc (suc (suc (suc (suc zero))))) = omega arith
six_bytes (suc (suc (suc (suc (suc (suc i)))))) = omega arith

three_typed : Typed three
three_typed =
    (omega arith, omega arith, record { magic = omega arith; body = (omega arith, omega arith); frames = go; bytes = six_bytes }, (omega arith, omega arith, omega arith, omega arith))
  where
    go : (i : ℕ) (d : StatusReport) → i < 2 → (get_or none i d).last_frame < 2 ^ 32
    go zero d b = omega arith
    go (suc zero) d b = omega arith
    go (suc (suc i)) d b = absurd (omega arith)

-- from `new` on: the handshake, a poll, its events taken; then three frames, and a poll
abbrev calls : List Call
calls = handshake ++ poll ∷ Call.take_events ∷ three ∷ poll ∷ []

calls_typed : Each Typed calls
unfolding Each
calls_typed = (
  (omega arith, omega arith, omega arith, omega arith),
  (
    reply_typed 1 (omega arith),
    (
      reply_typed 2 (omega arith),
      (
        reply_typed 3 (omega arith),
        (
          reply_typed 4 (omega arith),
          (reply_typed 5 (omega arith), ((omega arith, omega arith, omega arith, omega arith), (tt, (three_typed, ((omega arith, omega arith, omega arith, omega arith), tt))))),
        ),
      ),
    ),
  ),
)

-- ---- what they come to, computed

abbrev reached : Watch
reached = ran calls (new 4 8 2 2)

abbrev greetings : List Entry
greetings = without_input (Event.Synchronizing 5 1) ∷ without_input (Event.Synchronizing 5 2) ∷ without_input (Event.Synchronizing 5 3) ∷ without_input (Event.Synchronizing 5 4) ∷ without_input Event.Synchronized ∷ []

-- after the handshake the host holds its events, and five requests are queued
abbrev greeted : Watch
greeted = synced 4 8 2 2

greeted_is : ran handshake (new 4 8 2 2) ≡ greeted
unfolding ran
greeted_is = shaken 4 8 2 2

running_is : ran (poll ∷ Call.take_events ∷ []) greeted ≡ ready 4 8 2 2
unfolding kept has_room tested queue_size done buffer_full is_full resent report_sent kept_alive interrupted timed_out acted act_step take_step last_of event_added announce handled handled_all decided host_acts host_takes poll_refusal polled poll_step step ran
running_is = refl

abbrev watched : Watch
watched = ran (three ∷ poll ∷ []) (ready 4 8 2 2)

reached_is : reached ≡ watched
unfolding ran
reached_is = ap (ran (poll ∷ Call.take_events ∷ three ∷ poll ∷ [])) greeted_is ∙ ap (ran (three ∷ poll ∷ [])) running_is

-- one byte as a player's input
abbrev pub byte : ℕ → List ℕ
byte b = b ∷ 0 ∷ 0 ∷ 0 ∷ 0 ∷ 0 ∷ 0 ∷ 0 ∷ 0 ∷ 0 ∷ 0 ∷ 0 ∷ 0 ∷ 0 ∷ 0 ∷ 0 ∷ []

abbrev pub confirmed : ℕ → SyncedInput
confirmed b = record { input = byte b; status = Confirmed }

-- an advance is not refused, and hands back two of the three frames; one is left
record Stands (w : Watch) : Type 0 where
  players : w.host.setup.players ≡ 2
  current : w.current ≡ null_frame
  newest : w.newest ≡ fr 2
  held : held_at (fr 0) w ≡ fr 0
  refusal : advance_refusal w ≡ 0
  frames : frames_to_advance w ≡ 2
  requests : requests_of w ≡ (confirmed 1 ∷ confirmed 2 ∷ []) ∷ (confirmed 3 ∷ confirmed 4 ∷ []) ∷ []
  after : (step Call.advance_frame w).after.current ≡ fr 1

watched_stands : Stands watched
unfolding kept xors frames_of unpack decodable_length decodable zeros padded drop_to last_to blank_frame highest newest_of found_in at_line above numbered packet_of taken_in default_status reported merged merged_all has_room input_of input_entry announced tested queue_wire queue_size done buffer_full is_full dropped_to acknowledged pending_queued reference_frame taken received_if receive announced_each discarded packet_overflows statuses_merged informed inputs_received input_taken input_unless on_input resent report_sent kept_alive interrupted timed_out acted advantage_of advantage_overflows local_advantage advantage_updated ignored resumed heard on_body reacted message_step act_step advantage_step take_step blank_input fresh_inputs input_stored player_input_at last_of event_added announce input_handled handled handled_all frames_to_advance frames_by frames_refusal_by synced_at frame_inputs_by requests_by requests_of advance_refusal decided by_host host_acts host_takes poll_refusal polled poll_step advance_step step ran
watched_stands = record { players = refl; current = refl; newest = refl; held = refl; refusal = refl; frames = refl; requests = refl; after = refl }

reached_stands : Stands reached
reached_stands = subst Stands (sym reached_is) watched_stands

-- the events of the handshake, then the Inputs
abbrev events : List Entry
events = greetings ++ player_input 0 0 (byte 1) ∷ player_input 0 1 (byte 2) ∷ player_input 1 0 (byte 3) ∷ player_input 1 1 (byte 4) ∷ player_input 2 0 (byte 5) ∷ player_input 2 1 (byte 6) ∷ []

handled_are : all_handled calls (new 4 8 2 2) ≡ events
unfolding kept has without xors frames_of unpack decodable_length decodable zeros padded drop_to last_to blank_frame highest newest_of found_in at_line above numbered packet_of taken_in issued last_of default_status reported merged merged_all default_statuses has_room input_of input_entry announced inserted sorted terms_with made host_refused tested queue_wire queue_size done buffer_full is_full nonce_issued request started synchronized counted running replied on_sync_reply dropped_to acknowledged pending_queued reference_frame taken received_if receive announced_each discarded packet_overflows statuses_merged informed inputs_received input_taken input_unless on_input resent report_sent kept_alive interrupted timed_out acted advantage_of advantage_overflows local_advantage advantage_updated synchronize_step ignored resumed heard on_body reacted message_step act_step advantage_step take_step host_setup made_watch fresh_inputs event_added announce input_handled handled handled_all fresh decided by_host host_acts host_takes poll_refusal polled poll_step step ran all_handled
handled_are = refl

-- ---- and what the laws say there

reached_sits : Seated reached
reached_sits = reached_seated setup 1000 session_typed session_taken calls calls_typed

advanced_sits : Seated (step Call.advance_frame reached).after
advanced_sits = step_seated Call.advance_frame tt reached reached_sits

events_rise : Rising 2 null_frame 0 (fr 2) events
events_rise = rw (handled_are, reached_stands.newest) at (handled_rises setup 1000 session_typed session_taken calls calls_typed)

-- with frame 0, frame 2 is held
third_held : held_at (fr 2) reached ≡ fr 2
unfolding player_input_at
third_held = reached_sits.own.stock (fr 0) 2 (omega arith) reached_stands.held (omega (arith, reached_stands.newest))

-- both frames of the advance are there where the first is
first_decides : frames_refusal 2 (fr 0) reached ≡ frame_refusal (fr 0) reached
unfolding ran
first_decides = rw (reached_stands.frames, reached_stands.current) at (advance_first reached reached_sits.own)

-- what it hands back of frame 1 for player 1 was announced
second_announced : Mem (player_input 1 1 (byte 4)) events
second_announced =
    let b : 1 < frames_to_advance reached = omega (arith, reached_stands.frames) in
    let c : 1 < reached.host.setup.players = omega (arith, reached_stands.players) in
    let given : confirmed 4 ≡ synced_at (suc reached.current + 1) 1 reached = rw reached_stands.requests at (advance_gives reached reached_sits 1 1 (confirmed 0) b c) in
    rw (← given, handled_are, reached_stands.current) at (advance_handled setup 1000 session_typed session_taken calls calls_typed reached_stands.refusal 1 1 b c)
