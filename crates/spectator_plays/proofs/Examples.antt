-- Worked: for every version of an endpoint and every version of a session that meet their contracts, a broadcast with the calls of the run that `spectator_delivery` computes
-- (`sample` in its proofs/Examples.antt). Each owner lends one buffer to all its calls. Three frames of two players are sent in three Inputs: one is lost; the last arrives first, as a
-- datagram that is cut out of what the endpoint's `messages` hands back; the first comes late. The session's ack is cut out of what a poll hands back, and given to the endpoint. An
-- advance before the first Input is refused. The second player leaves after frame 0, and is marked so from frame 1 on.
use mathlib.Core.Bool.{false}
use mathlib.Core.List.{List, [], ◌∷◌, ◌++◌, map, Memᴰ as Mem}
use mathlib.Core.Path.{◌≡◌, refl, sym, ap, ◌∙◌}
use native.Mathlib.Omega.{arith}
use Prim.Native.Nat.{ℕ, ◌<◌}
use lib.ListN.{length, replicate, length-replicate}
use Rattle.base.specs.Keyed as Keyed
use Rattle.frame.specs.Bias.{null_frame}
use Rattle.packing.specs.Packing.{xors, frames_of, unpack, pack, decodable_length, decodable}
use Rattle.packing.specs.Pad.{zeros, padded}
use Rattle.pending.specs.Pending.{drop_to, last_to, room, first_frame, last_frame, payload}
use Rattle.history.specs.History.{blank_frame, highest, newest_of, found_in, reference_frame, at_line, above, numbered, packet_of, taken_in}
use Rattle.events.specs.Events.{has_room, input_of, input_entry, announced, announced_each}
use Rattle.answer.specs.Number.{number_of}
use Rattle.status.specs.Status.{default_status, reported, merged}
use Rattle.status.specs.Statuses.{held_statuses, merged_all}
use Rattle.status.specs.declared.list.Statuses.{Statuses}
use Rattle.codec.specs.Message.{Fits}
use Rattle.codec.specs.Bytes.{bytes, queue_of}
use Rattle.codec.specs.Calls.{cut}
use Rattle.codec.specs.declared.StatusReport.{StatusReport}
use Rattle.codec.specs.declared.Message.{Message}
use Rattle.codec.specs.declared.MessageBody.TheVariants.{SyncReply, Input}
use Rattle.codec.proofs.Meant.{input_is, meant_body_only, meant-input}
use Rattle.codec.proofs.Octets.{bytes_none, bytes-bytes}
use Rattle.codec.proofs.Queue.{cut-queue}
use Rattle.outbox.specs.Outbox.{queue_size, report_of, pending_input}
use Rattle.outbox.proofs.Laws.{bytes_size, laid_out_none}
use Rattle.setup.specs.Setup.{inserted, sorted, terms_with}
use Rattle.endpoint_rules.specs.Call as Host
use Rattle.endpoint_rules.specs.Step as Step
use Rattle.endpoint_rules.specs.Seen.{Seen, made}
use Rattle.endpoint_rules.specs.Did.{refused as host_refused, tested, queue_wire, done}
use Rattle.endpoint_rules.specs.Room.{buffer_full, is_full}
use Rattle.endpoint_rules.specs.Sending.{dropped_to, acknowledged, bad_frame, pending_queued, accepted, announces_most, input_sent}
use Rattle.endpoint_rules.specs.Receiving.{taken, received_if, receive, discarded, packet_overflows, statuses_merged, informed, inputs_received, input_taken, input_unless, on_input, on_input_ack}
use Rattle.endpoint_rules.specs.Act.{resent, report_sent, kept_alive, interrupted, timed_out, acted}
use Rattle.endpoint_rules.specs.Value.{filled_part, handed_back}
use Rattle.endpoint_rules.proofs.Bouts.{fr, epoch_at, hand}
use Rattle.endpoint_rules.proofs.Datagrams.{bytes-message}
use Rattle.endpoint_invariant.specs.Each.{Each}
use Rattle.endpoint_invariant.specs.Typed.{TypedSetup}
use Rattle.endpoint_invariant.proofs.Examples.{small_typed}
use Rattle.endpoint_invariant.proofs.Padding.{bytes-zeros}
use Rattle.endpoint_delivery.specs.Frames.{announced_to}
use Rattle.endpoint_delivery.specs.Runs.{End, next, Allowed}
use Rattle.endpoint_delivery.proofs.Lists.{here, there}
use Rattle.endpoint_delivery.proofs.Examples.{bytes_typed, ack, ready, requests, greeting_free, after_requests, as_bytes as host-as-bytes}
use Rattle.endpoint.specs.Endpoint.{seen as seen_host}
use Rattle.endpoint_version.specs.Values.{IsSlice, IsStatuses, IsMessage}
use Rattle.endpoint_version.specs.Version as Endpoint
use Rattle.endpoint_version.specs.Meets.{Meets as EndpointMeets}
use Rattle.endpoint_version.proofs.Right.{right as right_endpoint, right_meets as right-endpoint-meets}
use Rattle.endpoint_plays.specs.Sides.{Side}
use Rattle.endpoint_plays.specs.Plays.{Fitting}
use Rattle.endpoint_plays.proofs.Examples as Sides
use Rattle.endpoint_plays.proofs.Examples.{Owner, small, reports, plain_struct, message_is}
use Rattle.spectator_rules.specs.Setup.{host_setup}
use Rattle.spectator_rules.specs.Watch.{Watch, made_watch}
use Rattle.spectator_rules.specs.Inputs.{blank_input, fresh_inputs, player_input_at}
use Rattle.spectator_rules.specs.Advance.{frames_to_advance, frames_by, frames_refusal_by, advance_refusal}
use Rattle.spectator_rules.specs.Call.{Call}
use Rattle.spectator_rules.specs.Step.{fresh, refused, decided, by_host, host_acts, host_takes, poll_refusal, polled, poll_step, advance_step, step}
use Rattle.spectator_rules.proofs.Examples.{hand_from, poll, reply}
use Rattle.spectator_invariant.proofs.Examples.{setup, session_typed, session_taken, confirmed}
use Rattle.spectator_delivery.specs.Viewing.{Box, next_box, AllowedBox}
use Rattle.spectator_delivery.specs.Viewing as Boxes
use Rattle.spectator_delivery.specs.Viewed.{read_off}
use Rattle.spectator_delivery.proofs.Examples as Sample
use Rattle.spectator_delivery.proofs.Examples.{sender, sender1, I0, I2, frame, next_boxes, lit, box1, gone, shown}
use Rattle.spectator.specs.declared.SpectatorSession.{SpectatorSession}
use Rattle.spectator.specs.Session.{seen}
use Rattle.spectator.specs.Answers.{polled_part}
use Rattle.spectator_version.specs.Values.{IsSessionSetup}
use Rattle.spectator_version.specs.Version.{Version, Asked, IsAsked, call_of}
use Rattle.spectator_version.specs.Meets.{Meets}
use Rattle.spectator_version.proofs.Right.{right, right_meets}
use Rattle.spectator_plays.specs.Screens.{Screen, after, opens}
use Rattle.spectator_plays.specs.Plays.{Watching, Broadcast, box_of, box_in}
use Rattle.spectator_plays.specs.Buffers.{Holds, polled_bytes, Lends, lent_after}
use Rattle.spectator_plays.specs.Viewed.{Behind, Watched, Viewed}
use Rattle.spectator_plays.proofs.Written.{queued_bytes}
use Rattle.spectator_plays.proofs.Behind.{Kept, opens_kept, opens-behind, after_kept, after-behind}
use Rattle.spectator_plays.proofs.Waiting.{holds_after}
use Rattle.spectator_plays.proofs.Lent.{buffer_again}
use Rattle.spectator_plays.proofs.Viewed.{watched, viewed}
use Rattle.spectator_plays.proofs.Allowed.{end_cut_allowed, poll_cut_allowed}
use Rattle.spectator.specs.Answers.{frames_answer}

-- ---- the owner of a session lends one buffer to every call, as that of an endpoint does

pub record Viewer : Type 0 where
  pub screen : Screen
  pub buffer : List ℕ

-- a call that is lent the buffer
abbrev Lending : Type 0
Lending = List ℕ → Asked

abbrev asks : Version → Lending → Viewer → Viewer
asks u c o = record { screen = after u (c o.buffer) o.screen; buffer = lent_after u o.screen.session (c o.buffer) o.buffer }

-- calls one after the other
unfoldable pub plays : Version → List Lending → Viewer → Viewer
plays u [] o = o
plays u (c ∷ cs) o = plays u cs (asks u c o)

-- the session that `new` makes of the sample's setup at clock 1000, and a buffer of zeros
abbrev new : Version → Viewer
new u = record { screen = opens u setup 1000; buffer = replicate 65536 0 }

-- such a call, asked with values and lent 65,536 bytes, is a call of the rules
record Is (c : Lending) (r : Call) : Type 0 where
  asked : (out : List ℕ) → IsSlice out → IsAsked (c out)
  lends : (out : List ℕ) → Lends out (c out)
  call : (out : List ℕ) → length out ≡ 65536 → call_of (c out) ≡ r

-- each of some calls is one of the rules' calls, in their order
data Are : List Lending → List Call → Type 0 where
  none : Are [] []
  more : {c : Lending} {r : Call} {cs : List Lending} {rs : List Call} → Is c r → Are cs rs → Are (c ∷ cs) (r ∷ rs)

-- ---- what holds of an owner after any such calls: its buffer can be lent again and has what waits, and a box of the rules stands behind its screen

record At (u : Version) (m : Meets u) (b : Box) (o : Viewer) : Type 0 where
  kept : Kept u m o.screen
  slice : IsSlice o.buffer
  size : length o.buffer ≡ 65536
  holds : Holds o.buffer o.screen
  setup : o.screen.setup ≡ setup
  behind : Behind o.screen b

module _ (u : Version) (m : Meets u) where
  asks_at : (c : Lending) (r : Call) → Is c r → (b : Box) (o : Viewer) → At u m b o → At u m (next_box r b) (asks u c o)
  asks_at c r i b o a =
      let q : IsAsked (c o.buffer) = i.asked o.buffer a.slice in
      let again = buffer_again u m o.screen a.kept (c o.buffer) q o.buffer (i.lends o.buffer) a.slice in
      record {
        kept = after_kept u m o.screen a.kept (c o.buffer) q;
        slice = again.0;
        size = again.1 ∙ a.size;
        holds = holds_after u m o.screen a.kept (c o.buffer) q o.buffer (i.lends o.buffer) a.holds;
        setup = a.setup;
        behind = rw (i.call o.buffer a.size) at (after-behind u m o.screen a.kept b a.behind (c o.buffer) q);
      }

  plays_at : {cs : List Lending} {rs : List Call} → Are cs rs → {b d : Box} {o : Viewer} → At u m b o → next_boxes rs b ≡ d → At u m d (plays u cs o)
  unfolding plays
  plays_at Are.none a e = rw e at a
  plays_at (Are.more {c} {r} i is) {b} {d} {o} a e = plays_at is (asks_at c r i b o a) e

  -- alone, they are a play of the session, whatever is handed to it
  plays_watching : {cs : List Lending} {rs : List Call} → Are cs rs → {b : Box} (o : Viewer) → At u m b o → Watching u o.screen → Watching u (plays u cs o).screen
  unfolding plays
  plays_watching Are.none o a p = p
  plays_watching (Are.more {c} {r} i is) {b} o a p = plays_watching is (asks u c o) (asks_at c r i b o a) (Watching.more p (c o.buffer) (i.asked o.buffer a.slice))

-- ---- a broadcast, and the box of the rules behind it

pub record Goes (v : Endpoint.Version) (u : Version) (a : Side) (x : Screen) (b : Box) : Type 0 where
  pub play : Broadcast v u a x
  pub box : box_in play ≡ b

-- it goes on with such calls where the rules' calls are allowed; calls on the endpoint leave the box
module _ (v : Endpoint.Version) (l : EndpointMeets v) (u : Version) (m : Meets u) where
  at_end_lem : {cs : List Sides.Lending} {rs : List Host.Call} → Sides.Are cs rs → (o : Owner) → Sides.Able v l o → {x : Screen} {b : Box} → Each (λ r. Allowed r x.queued) rs → Goes v u o.side x b
      → Goes v u (Sides.plays v cs o).side x b
  unfolding Sides.plays Each box_in
  at_end_lem Sides.Are.none o a q p = p
  at_end_lem (Sides.Are.more {c} {r} i is) o a {x} {b} q p =
      at_end_lem is (Sides.asks v c o) (Sides.asks_able v l c r i o a) {x = x} q.1
      (record { play = Broadcast.at_end p.play (c o.buffer) (i.asked o.buffer a.slice) (rw (i.call o.buffer a.size) q.0); box = p.box })

  at_box_lem : {cs : List Lending} {rs : List Call} → Are cs rs → {b d : Box} (o : Viewer) → At u m b o → {a : Side} → Each (λ r. AllowedBox r a.queued) rs → next_boxes rs b ≡ d → Goes v u a o.screen b
      → Goes v u a (plays u cs o).screen d
  unfolding plays Each box_in
  at_box_lem Are.none o t q e p = rw e at p
  at_box_lem (Are.more {c} {r} i is) {b} o t {a} q e p =
      at_box_lem is (asks u c o) (asks_at u m c r i b o t) {a = a} q.1 e
      (record { play = Broadcast.at_box p.play (c o.buffer) (i.asked o.buffer t.slice) (rw (i.call o.buffer t.size) q.0); box = rw (i.call o.buffer t.size, p.box) })

-- ---- the calls on the endpoint that sends

-- the sample's statuses, of which the second player has left after frame 0, in an array of four
abbrev statuses : Statuses
statuses = record { list = Sample.statuses ++ default_status ∷ default_status ∷ []; count = 2 }

abbrev sends : (frame x y : ℕ) → Sides.Lending
sends frame x y out = Endpoint.Asked.send_input (fr frame) (x ∷ y ∷ []) statuses 1000 out

-- after its handshake it sends three frames
abbrev calls_sender : List Sides.Lending
calls_sender = sends 0 1 2 ∷ sends 1 3 4 ∷ sends 2 5 6 ∷ []

-- and it is handed the session's ack, as bytes
abbrev hands_ack : Sides.Lending
hands_ack = Sides.hands_bytes (bytes (ack 7 2)) 1000

-- ---- and on the session

abbrev synchronizes : Lending
synchronizes out = Asked.synchronize 1000 (epoch_at 1000) 1 out

abbrev replies : (nonce next : ℕ) → Lending
replies nonce next out = Asked.message 3 (plain_struct 9 (SyncReply nonce)) [] 1000 (epoch_at 1000) next out

abbrev polls : Lending
polls out = Asked.poll_remote_clients 1000 (epoch_at 1000) 99 out

abbrev advances : Lending
advances out = Asked.advance_frame

abbrev takes : Lending
takes out = Asked.take_events

-- the handshake, a poll that handles its events, and the session's events taken
abbrev calls_greet : List Lending
calls_greet = synchronizes ∷ replies 1 2 ∷ replies 2 3 ∷ replies 3 4 ∷ replies 4 5 ∷ replies 5 6 ∷ polls ∷ takes ∷ []

-- the Inputs: the last one as bytes, the first one as a message
abbrev hands_i2 : Lending
hands_i2 out = Asked.datagram 3 (bytes I2) 1000 (epoch_at 1000) 0 out

abbrev blank : StatusReport
blank = record { disconnected = false; last_frame = null_frame }

abbrev struct_i0 : Message
struct_i0 = record { magic = 9; body = Input false (fr 0) null_frame; reports = record { list = I0.reports ++ blank ∷ blank ∷ []; count = 2 } }

abbrev hands_i0 : Lending
hands_i0 out = Asked.message 3 struct_i0 (1 ∷ 2 ∷ []) 1000 (epoch_at 1000) 0 out

-- after a poll two frames are shown; the first Input comes late; the third frame is shown
abbrev calls_watch : List Lending
calls_watch = advances ∷ hands_i0 ∷ polls ∷ advances ∷ []

-- ---- they are the rules' calls

statuses_are : IsStatuses statuses
unfolding Each default_status
statuses_are = record { size = refl; frames = (omega arith, (omega arith, (omega arith, (omega arith, tt)))); count = omega arith }

sends_is : (frame x y : ℕ) → frame < 100 → x < 256 → y < 256 → Sides.Is (sends frame x y) (Sample.send frame x y)
unfolding Each held_statuses
sends_is frame x y f h k =
    record {
      asked = λ out s. (omega arith, small (x ∷ y ∷ []) (h, (k, tt)) (omega arith), statuses_are, omega arith, s);
      lends = λ out. refl;
      call = λ out n. rw n;
      number = λ v l e i out a. (l.send_input e (fr frame) (x ∷ y ∷ []) statuses 1000 out i a).answer;
      waits = λ v e out l. refl;
    }

sender_are : Sides.Are calls_sender (Sample.send 0 1 2 ∷ Sample.send 1 3 4 ∷ Sample.send 2 5 6 ∷ [])
sender_are =
    Sides.Are.more (sends_is 0 1 2 (omega arith) (omega arith) (omega arith))
    (Sides.Are.more (sends_is 1 3 4 (omega arith) (omega arith) (omega arith)) (Sides.Are.more (sends_is 2 5 6 (omega arith) (omega arith) (omega arith)) Sides.Are.none))

synchronize_is : Is synchronizes (Call.synchronize 1000 (epoch_at 1000) 1 65536)
synchronize_is = record { asked = λ out s. (omega arith, omega arith, omega arith, s); lends = λ out. refl; call = λ out e. rw e }

reply_is : (nonce next : ℕ) → nonce < 100 → next < 100 → Is (replies nonce next) (reply nonce next)
reply_is nonce next n k =
    record {
      asked = λ out s. (omega arith, message_is 9 (SyncReply nonce) 0 (omega arith) (omega arith) (omega arith), (bytes_none, omega arith), omega arith, omega arith, omega arith, s);
      lends = λ out. refl;
      call = λ out e. rw (e, meant_body_only 9 (SyncReply nonce) (reports 0) refl);
    }

poll_is : Is polls poll
poll_is = record { asked = λ out s. (omega arith, omega arith, omega arith, s); lends = λ out. refl; call = λ out e. rw e }

advance_is : Is advances Call.advance_frame
advance_is = record { asked = λ out s. tt; lends = λ out. tt; call = λ out e. refl }

take_is : Is takes Call.take_events
take_is = record { asked = λ out s. tt; lends = λ out. tt; call = λ out e. refl }

greet_are : Are calls_greet Sample.greets
greet_are =
    Are.more synchronize_is
    (Are.more (reply_is 1 2 (omega arith) (omega arith))
    (Are.more (reply_is 2 3 (omega arith) (omega arith))
    (Are.more (reply_is 3 4 (omega arith) (omega arith))
    (Are.more (reply_is 4 5 (omega arith) (omega arith))
    (Are.more (reply_is 5 6 (omega arith) (omega arith)) (Are.more poll_is (Are.more take_is Are.none)))))))

I2_fits : Fits I2
unfolding Each
I2_fits =
    record {
      magic = omega arith;
      body = (omega arith, omega arith);
      frames = Sample.reports_typed;
      statuses = omega arith;
      length = omega arith;
      bytes = bytes_typed (1 ∷ 2 ∷ 3 ∷ 4 ∷ 5 ∷ 6 ∷ []) (omega arith, (omega arith, (omega arith, (omega arith, (omega arith, (omega arith, tt))))));
      none = λ e. absurd (let n : ◌≡◌ {A = ℕ} 0 1 = (let z = input_is false (fr 0) null_frame in cc) in omega arith);
    }

I2_is : Is hands_i2 (Call.datagram 3 (bytes I2) 1000 (epoch_at 1000) 0 65536)
I2_is = record { asked = λ out s. (omega arith, (bytes-bytes I2 I2_fits, omega (arith, bytes_size I2 I2_fits)), omega arith, omega arith, omega arith, s); lends = λ out. refl; call = λ out e. rw e }

I0_is : Is hands_i0 (hand_from 3 I0 1000 0)
unfolding Each
I0_is =
    record {
      asked = λ out s. (omega arith, struct, small (1 ∷ 2 ∷ []) (omega arith, (omega arith, tt)) (omega arith), omega arith, omega arith, omega arith, s);
      lends = λ out. refl;
      call = λ out e. rw (e, meant-input 9 false (fr 0) null_frame struct_i0.reports (1 ∷ 2 ∷ []));
    }
  where
    struct : IsMessage struct_i0
    struct = record { magic = omega arith; body = (omega arith, omega arith); size = refl; frames = (omega arith, (omega arith, (omega arith, (omega arith, tt)))); count = omega arith }

watch_are : Are calls_watch (Call.advance_frame ∷ hand_from 3 I0 1000 0 ∷ poll ∷ Call.advance_frame ∷ [])
watch_are = Are.more advance_is (Are.more I0_is (Are.more poll_is (Are.more advance_is Are.none)))

ack_fits : Fits (ack 7 2)
ack_fits = record { magic = omega arith; body = omega arith; frames = λ i d h. absurd (omega arith); statuses = omega arith; length = omega arith; bytes = bytes_none; none = λ _. (refl, refl) }

ack_is : Sides.Is hands_ack (Host.Call.datagram 3 (bytes (ack 7 2)) 1000 (epoch_at 1000) 0 65536)
ack_is = Sides.bytes_is (bytes (ack 7 2)) 1000 (bytes-bytes (ack 7 2) ack_fits, omega (arith, bytes_size (ack 7 2) ack_fits)) (omega arith)

-- bytes that are handed over do what their message does
step-bytes : (w : Watch) → step (Call.datagram 3 (bytes I2) 1000 (epoch_at 1000) 0 65536) w ≡ step (hand_from 3 I2 1000 0) w
unfolding step by_host Step.step
step-bytes w = rw (bytes-message 3 I2 1000 (epoch_at 1000) 0 65536 w.host I2_fits)

as_bytes : (b : Box) → next_box (Call.datagram 3 (bytes I2) 1000 (epoch_at 1000) 0 65536) b ≡ next_box (hand_from 3 I2 1000 0) b
as_bytes b = rw (step-bytes b.watch, Boxes.events_by, bytes-message 3 I2 1000 (epoch_at 1000) 0 65536 b.watch.host I2_fits)

-- ---- the sender and the session, as they stand on the way and at last

-- the sender after its handshake, after it sent, and after it was handed the ack
abbrev s0 : Endpoint.Version → Owner
s0 v = Sides.plays v (Sides.greets 7) (Sides.new v sender)

abbrev s1 : Endpoint.Version → Owner
s1 v = Sides.plays v calls_sender (s0 v)

abbrev s2 : Endpoint.Version → Owner
s2 v = Sides.plays v (hands_ack ∷ []) (s1 v)

module _ (u : Version) where
  -- after its handshake, and after an advance that is refused
  abbrev x0 : Viewer
  x0 = plays u calls_greet (new u)

  abbrev x1 : Viewer
  x1 = plays u (advances ∷ []) x0

  -- handed the last Input
  abbrev x2 : Viewer
  x2 = plays u (hands_i2 ∷ []) x1

  -- after a poll
  abbrev x3 : Viewer
  x3 = plays u (polls ∷ []) x2

  abbrev x4 : Viewer
  x4 = plays u calls_watch x3

-- what the sender accepted; what the session showed of it, `gone` is marked Disconnected; and the frame that it stands at
abbrev Facts : Endpoint.Version → Version → Type 0
Facts v u =
    ((s2 v).side.accepted ≡ frame 0 1 2 ∷ frame 1 3 4 ∷ frame 2 5 6 ∷ [])
    × ((x4 u).screen.shown ≡ shown 0 (confirmed 1) (confirmed 2) ∷ shown 1 (confirmed 3) (gone 4) ∷ shown 2 (confirmed 5) (gone 6) ∷ [])
    × (u.current_frame (x4 u).screen.session ≡ fr 2)

sender_typed : TypedSetup sender
unfolding Each
sender_typed =
    small_typed (2 ∷ 0 ∷ 0 ∷ 0 ∷ []) 1 2 1 2 9 refl (omega arith, (omega arith, (omega arith, (omega arith, tt)))) (omega arith, (omega arith, (omega arith, (omega arith, (omega arith, tt)))))

setup_is : IsSessionSetup setup
setup_is = record { host = session_typed; limits = record { slots = omega arith; events = omega arith; behind = omega arith; speed = omega arith } }

fitting : Fitting sender (host_setup setup)
unfolding host_setup
fitting = record { there = refl; back = refl }

-- the box once it was handed the last Input, and the sender once it was handed the ack
abbrev handed : Box
handed = next_box (hand_from 3 I2 1000 0) lit

abbrev sender2 : End
sender2 = next (hand (ack 7 2) 1000 0) sender1

-- without an input of the next frame an advance is refused, with 16 (PredictionThreshold), and nothing changes
refused_advance : ((step Call.advance_frame lit.watch).answer ≡ 16) × (next_box Call.advance_frame lit ≡ lit)
unfolding blank_input fresh_inputs player_input_at frames_by frames_to_advance frames_refusal_by advance_refusal refused decided advance_step step Boxes.input_count
refused_advance = (refl, refl)

-- the last Input is answered by one ack; the poll after it hands back all that is queued, and queues nothing
handed_facts : ((step (hand_from 3 I2 1000 0) lit.watch).out ≡ ack 7 2 ∷ [])
    × (polled_part 1000 (epoch_at 1000) 99 65536 handed.watch ≡ handed.watch.host.queued)
    × ((step poll handed.watch).out ≡ [])
unfolding Keyed.kept xors frames_of unpack decodable_length decodable zeros padded drop_to last_to blank_frame highest newest_of found_in reference_frame at_line above numbered packet_of taken_in reported merged merged_all has_room input_of input_entry announced announced_each host_refused tested queue_wire queue_size done buffer_full is_full dropped_to acknowledged pending_queued taken received_if receive discarded packet_overflows statuses_merged informed inputs_received input_taken input_unless on_input resent report_sent kept_alive interrupted timed_out acted Step.ignored Step.resumed Step.heard Step.on_body Step.reacted Step.message_step Step.act_step Step.take_step filled_part decided by_host host_acts host_takes poll_refusal polled poll_step step polled_part
handed_facts = (refl, refl, refl)

-- the ack leaves what the sender queued and accepted; no input is pending any more
sender2_facts : (sender2.queued ≡ requests 9 (I0 ∷ Sample.input (1 ∷ 2 ∷ 3 ∷ 4 ∷ []) ∷ I2 ∷ []))
    × (sender2.accepted ≡ frame 0 1 2 ∷ frame 1 3 4 ∷ frame 2 5 6 ∷ [])
    × (sender2.state.carried.sender.pending ≡ [])
unfolding xors pack zeros padded drop_to last_to room first_frame last_frame payload blank_frame highest newest_of has_room inserted sorted terms_with made host_refused tested queue_wire queue_size report_of pending_input done buffer_full is_full dropped_to acknowledged bad_frame pending_queued accepted announces_most input_sent on_input_ack Step.fresh Step.send_step Step.ignored Step.resumed Step.heard Step.on_body Step.reacted Step.message_step Step.step
sender2_facts = (refl, refl, refl)

module _ (v : Endpoint.Version) (l : EndpointMeets v) where
  s0_at : Sides.At v l sender (ready sender 9 7) (s0 v)
  s0_at = Sides.plays_at v l (Sides.greets_are 7 (omega arith)) (Sides.new_at v l sender sender_typed Sample.sender_taken) Sample.sender_ready

  s1_at : Sides.At v l sender sender1 (s1 v)
  s1_at = Sides.plays_at v l sender_are s0_at refl

  s2_at : Sides.At v l sender sender2 (s2 v)
  s2_at = Sides.plays_at v l (Sides.Are.more ack_is Sides.Are.none) s1_at (host-as-bytes (ack 7 2) 1000 sender1 ack_fits)

module _ (u : Version) (m : Meets u) where
  done_new : number_of (u.new setup 1000).answer ≡ 0
  done_new = (m.new setup 1000 setup_is (omega arith)).answer ∙ session_taken

  new_at : At u m (Boxes.opens setup 1000) (new u)
  unfolding seen seen_host fresh made_watch made
  new_at =
      let n : length {A = ℕ} (replicate 65536 0) ≡ 65536 = length-replicate {A = ℕ} 65536 0 in
      let none : (u.new setup 1000).session.host.queued ≡ 0 = ap (λ (w : Watch). w.host.queued) (m.new setup 1000 setup_is (omega arith)).made in
      record {
        kept = opens_kept u m setup 1000 setup_is (omega arith) done_new;
        slice = (bytes-zeros 65536, omega arith);
        size = n;
        holds = rw none;
        setup = refl;
        behind = opens-behind u m setup 1000 setup_is (omega arith) done_new;
      }

  x0_at : At u m lit (x0 u)
  x0_at = plays_at u m greet_are new_at Sample.box_lit

  x1_at : At u m lit (x1 u)
  x1_at = plays_at u m (Are.more advance_is Are.none) x0_at refused_advance.1

  x2_at : At u m handed (x2 u)
  x2_at = plays_at u m (Are.more I2_is Are.none) x1_at (as_bytes lit)

  x3_at : At u m (next_box poll handed) (x3 u)
  x3_at = plays_at u m (Are.more poll_is Are.none) x2_at refl

  x4_at : At u m box1 (x4 u)
  x4_at = plays_at u m watch_are x3_at refl

  -- the session's calls alone, and what `watched` says of them
  pub sample_watching : Watching u (x4 u).screen
  sample_watching =
      plays_watching u m watch_are (x3 u) x3_at
      (plays_watching u m (Are.more poll_is Are.none) (x2 u) x2_at
      (plays_watching u m (Are.more I2_is Are.none) (x1 u) x1_at
      (plays_watching u m (Are.more advance_is Are.none) (x0 u) x0_at (plays_watching u m greet_are (new u) new_at (Watching.begin setup 1000 setup_is (omega arith) done_new)))))

  pub sample_watched : Watched u (x4 u).screen (box_of sample_watching)
  sample_watched = watched u m sample_watching

  -- an advance before the Inputs is refused with 16 (PredictionThreshold), and shows nothing
  pub sample_refused : (number_of (frames_answer (u.advance_frame (x0 u).screen.session).answer) ≡ 16) × ((x1 u).screen.shown ≡ [])
  sample_refused =
      let a = x0_at in
      ((m.advance_frame (x0 u).screen.session a.kept.good.value).answer ∙ rw (← a.behind.watch) refused_advance.0, sym x1_at.behind.shown)

  -- ---- what the poll hands back

  -- the ack of the last Input waits alone
  ack_waits : (o : Viewer) → At u m lit o → (asks u hands_i2 o).screen.waiting ≡ queue_of (ack 7 2 ∷ [])
  unfolding seen seen_host
  ack_waits o a =
      let s : SpectatorSession = o.screen.session in
      let none : s.host.queued ≡ 0 = sym (ap (λ (w : Watch). w.host.queued) a.behind.watch) in
      let before : o.screen.waiting ≡ [] = sym a.holds ∙ rw none in
      rw (before, queued_bytes u m s a.kept.good (hands_i2 o.buffer) (I2_is.asked o.buffer a.slice), a.size, ← a.behind.watch, step-bytes lit.watch, handed_facts.0)

  -- and is what the poll hands back
  polled_at : (o : Viewer) → At u m handed o → o.screen.waiting ≡ queue_of (ack 7 2 ∷ []) → polled_bytes u o.screen.session 1000 (epoch_at 1000) 99 o.buffer ≡ queue_of (ack 7 2 ∷ [])
  unfolding seen seen_host
  polled_at o a w =
      let s : SpectatorSession = o.screen.session in
      let d = m.poll_remote_clients s 1000 (epoch_at 1000) 99 o.buffer a.kept.good.value (poll_is.asked o.buffer a.slice) in
      let part : polled_part 1000 (epoch_at 1000) 99 (length o.buffer) (seen s) ≡ s.host.queued = rw (a.size, ← a.behind.watch) handed_facts.1 ∙ ap (λ (w : Watch). w.host.queued) a.behind.watch in
      let same : (u.poll_remote_clients s 1000 (epoch_at 1000) 99 o.buffer).1 ≡ o.buffer = d.lent ∙ rw (a.size, ← a.behind.watch, handed_facts.2) (laid_out_none o.buffer s.host.queued) in
      rw (d.filled ∙ part, same) (a.holds ∙ w)

-- the sender's queue, of which `messages` hands back all
whole_queue : handed_back 65536 sender1.state ≡ sender1.state.queued
unfolding xors pack zeros padded room last_frame payload blank_frame has_room terms_with made tested queue_wire queue_size pending_input done buffer_full is_full bad_frame pending_queued accepted announces_most input_sent Step.fresh Step.send_step Step.take_step Step.step filled_part handed_back
whole_queue = refl

module _ (v : Endpoint.Version) (l : EndpointMeets v) (u : Version) (m : Meets u) where
  -- ---- the broadcast

  begun : Goes v u (Sides.new v sender).side (new u).screen (Boxes.opens setup 1000)
  unfolding box_in
  begun =
      let n = (l.new sender 1000 sender_typed (omega arith)).answer ∙ Sample.sender_taken in
      record { play = Broadcast.begin sender setup 1000 1000 sender_typed setup_is (omega arith) (omega arith) n (done_new u m) fitting; box = refl }

  first : Goes v u (s1 v).side (new u).screen (Boxes.opens setup 1000)
  unfolding Each
  first =
      at_end_lem v l u m sender_are (s0 v) (s0_at v l).able (tt, (tt, (tt, tt)))
      (at_end_lem v l u m (Sides.greets_are 7 (omega arith)) (Sides.new v sender) (Sides.new_at v l sender sender_typed Sample.sender_taken).able (greeting_free 7 []) begun)

  second : Goes v u (s1 v).side (x1 u).screen lit
  unfolding Each
  second =
      at_box_lem v l u m (Are.more advance_is Are.none) (x0 u) (x0_at u m) {a = (s1 v).side} (tt, tt) refused_advance.1
      (at_box_lem v l u m greet_are (new u) (new_at u m) {a = (s1 v).side} (Sample.greets_free (s1 v).side.queued) Sample.box_lit first)

  -- what the sender queued: its handshake, and three Inputs, each with all frames so far
  sender_queued : (s1 v).side.queued ≡ requests 9 (I0 ∷ Sample.input (1 ∷ 2 ∷ 3 ∷ 4 ∷ []) ∷ I2 ∷ [])
  sender_queued = Sides.queued_at v l (s1_at v l) ∙ (Sample.sender_facts).0

  handed_back_lem : v.messages (s1 v).side.endpoint (s1 v).buffer ≡ queue_of (s1 v).side.queued
  unfolding seen_host
  handed_back_lem =
      let a = s1_at v l in
      let s : seen_host (s1 v).side.endpoint ≡ sender1.state = Sides.state_at v l a in
      let n : handed_back (length (s1 v).buffer) (seen_host (s1 v).side.endpoint) ≡ (s1 v).side.endpoint.queued = rw (a.able.size, s) whole_queue ∙ sym (ap (λ (s : Seen). s.queued) s) in
      l.messages (s1 v).side.endpoint (s1 v).buffer a.able.kept.good.value a.able.slice ∙ rw n (a.able.holds ∙ a.able.whole)

  -- the bytes of the last Input are among the datagrams that the owner cuts out of what `messages` hands back
  pub cut_out : Mem (bytes I2) (cut (v.messages (s1 v).side.endpoint (s1 v).buffer))
  cut_out =
      rw (handed_back_lem, cut-queue (s1 v).side.queued (s1_at v l).able.fit, sender_queued)
      (there (there (there (there (there (there (there (here refl))))))))

  -- so they may be handed to the session
  pub cut-handed : AllowedBox (call_of (hands_i2 (x1 u).buffer)) (s1 v).side.queued
  cut-handed = end_cut_allowed v l u m second.play (s1 v).buffer (s1_at v l).able.slice (s1_at v l).able.holds (bytes I2) cut_out 3 1000 (epoch_at 1000) 0 (x1 u).buffer

  third : Goes v u (s1 v).side (x2 u).screen handed
  unfolding Each
  third = at_box_lem v l u m (Are.more I2_is Are.none) (x1 u) (x1_at u m) {a = (s1 v).side} (cut-handed, tt) (as_bytes lit) second

  -- the bytes of the ack are among the datagrams that the owner cuts out of what a poll hands back
  pub cut-polled : Mem (bytes (ack 7 2)) (cut (polled_bytes u (x2 u).screen.session 1000 (epoch_at 1000) 99 (x2 u).buffer))
  unfolding plays
  cut-polled = rw (polled_at u m (x2 u) (x2_at u m) (ack_waits u m (x1 u) (x1_at u m)), cut-queue (ack 7 2 ∷ []) (ack_fits, tt)) (here refl)

  -- so they may be handed to the sender
  pub polled-handed : Allowed (Endpoint.call_of (hands_ack (s1 v).buffer)) (x3 u).screen.queued
  unfolding plays
  polled-handed =
      poll_cut_allowed v l u m third.play 1000 (epoch_at 1000) 99 (x2 u).buffer (poll_is.asked (x2 u).buffer (x2_at u m).slice) (x2_at u m).holds (bytes (ack 7 2)) cut-polled
      3 1000 (epoch_at 1000) 0 (s1 v).buffer

  fourth : Goes v u (s2 v).side (x3 u).screen (next_box poll handed)
  unfolding Each
  fourth =
      at_end_lem v l u m (Sides.Are.more ack_is Sides.Are.none) (s1 v) (s1_at v l).able {x = (x3 u).screen} (polled-handed, tt)
      (at_box_lem v l u m (Are.more poll_is Are.none) (x2 u) (x2_at u m) {a = (s1 v).side} (tt, tt) refl third)

  pub sample_broadcast : Goes v u (s2 v).side (x4 u).screen box1
  unfolding Each
  sample_broadcast =
      at_box_lem v l u m watch_are (x3 u) (x3_at u m) {a = (s2 v).side} (tt, (λ _. rw (Sides.queued_at v l (s2_at v l) ∙ sender2_facts.0) (after_requests 9 (here refl)), (tt, (tt, tt)))) refl fourth

  -- ---- what is shown

  pub sample_facts : Facts v u
  sample_facts =
      let e = sym (x4_at u m).behind.shown ∙ (Sample.box_facts).0 in
      let n = (sample_watched u m).current in
      (Sides.accepted_at v l (s2_at v l) ∙ sender2_facts.1, e, omega (arith, rw e at n))

  -- the ack arrived: the sender has no input that is not acknowledged
  pub sample_acked : (seen_host (s2 v).side.endpoint).carried.sender.pending ≡ []
  sample_acked = ap (λ (s : Seen). s.carried.sender.pending) (Sides.state_at v l (s2_at v l)) ∙ sender2_facts.2

  -- ---- what the theorems say of it

  pub sample_viewed : Viewed u (s2 v).side (x4 u).screen box1
  sample_viewed = rw sample_broadcast.box at (viewed v l u m sample_broadcast.play)

  -- so the inputs shown are the players' parts of the frames accepted
  pub sample_accepted : map (read_off 1) (shown 0 (confirmed 1) (confirmed 2) ∷ shown 1 (confirmed 3) (gone 4) ∷ shown 2 (confirmed 5) (gone 6) ∷ [])
      ≡ map (announced_to 1 (0 ∷ 1 ∷ [])) (frame 0 1 2 ∷ frame 1 3 4 ∷ frame 2 5 6 ∷ [])
  unfolding inserted sorted host_setup
  sample_accepted = rw ((x4_at u m).setup, sample_facts.0, sample_facts.1) at sample_viewed.accepted

-- ---- and there are such versions

pub right_facts : Facts right_endpoint right
right_facts = sample_facts right_endpoint right-endpoint-meets right right_meets

pub right_viewed : Viewed right (s2 right_endpoint).side (x4 right).screen box1
right_viewed = sample_viewed right_endpoint right-endpoint-meets right right_meets

pub right_watched : Watched right (x4 right).screen (box_of (sample_watching right right_meets))
right_watched = sample_watched right right_meets
