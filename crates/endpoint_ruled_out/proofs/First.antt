-- A version that does handle the first packet and ignores the rest: what the rules say until a frame was received, and nothing with a message or a datagram from
-- then on.
use borrow.Author.Tests.{eqb-true}
use mathlib.Core.Bool.{Bool, true, false}
use mathlib.Core.List.{List}
use mathlib.Core.Path.{◌≡◌, refl}
use native.Mathlib.Omega.{arith}
use Prim.Native.Nat.{ℕ}
use lib.Dec.{eqb}
use Rattle.base.specs.Pick.{pick}
use Rattle.answer.specs.Number.{done}
use Rattle.frame.specs.Bias.{null_frame}
use Rattle.history.specs.History.{blank_frame, highest, newest_of}
use Rattle.endpoint_rules.specs.Seen.{made}
use Rattle.endpoint_rules.specs.Sending.{newest}
use Rattle.endpoint_rules.specs.Step.{fresh}
use Rattle.endpoint_rules.proofs.Bouts.{setup_with, setup_taken, new}
use Rattle.endpoint.specs.declared.Endpoint.{Endpoint}
use Rattle.endpoint.specs.declared.Ended.{Ended}
use Rattle.endpoint.specs.Endpoint.{seen}
use Rattle.endpoint_version.specs.Version.{Version, endpoint_after}
use Rattle.endpoint_version.specs.Meets.{Reached}
use Rattle.endpoint_version.proofs.Right.{right, right_meets}
use Rattle.endpoint_ruled_out.specs.Unusable.{Received, FirstOnly}
use Rattle.endpoint_ruled_out.proofs.Unusable.{bouts_typed, own, own_seen, p3, p3_asked, first_received}

abbrev until_received : Endpoint → (out : List ℕ) → Ended × List ℕ → Ended × List ℕ
until_received e out r = pick (eqb (newest (seen e)) null_frame) r (record { endpoint = e; answer = done }, out)

abbrev once : Version
once =
    record {
      new = right.new;
      synchronize = right.synchronize;
      message = λ e from m payload now epoch nonce out. until_received e out (right.message e from m payload now epoch nonce out);
      datagram = λ e from d now epoch nonce out. until_received e out (right.datagram e from d now epoch nonce out);
      act = right.act;
      send_input = right.send_input;
      disconnect = right.disconnect;
      send_checksum_report = right.send_checksum_report;
      update_local_frame_advantage = right.update_local_frame_advantage;
      take_events = right.take_events;
      take_messages = right.take_messages;
      messages = right.messages;
      take_messages_into = right.take_messages_into;
      network_stats = right.network_stats;
      peer_connect_status = right.peer_connect_status;
      handles = right.handles;
      is_synchronized = right.is_synchronized;
      is_running = right.is_running;
      is_handling_message = right.is_handling_message;
      last_recv_frame = right.last_recv_frame;
      state = right.state;
      checksums = right.checksums;
    }

keeps : (e : Endpoint) (out : List ℕ) (r : Ended × List ℕ) → Received e → newest (seen (until_received e out r).0.endpoint) ≡ newest (seen e)
keeps e out r h = go (eqb (newest (seen e)) null_frame) refl
  where
    go : (b : Bool) → eqb (newest (seen e)) null_frame ≡ b → newest (seen (pick b r (record { endpoint = e; answer = done }, out)).0.endpoint) ≡ newest (seen e)
    go true k = absurd (h (eqb-true (newest (seen e)) null_frame k))
    go false k = refl

once_messages : FirstOnly once
once_messages = FirstOnly.messages (λ e r h from m payload now epoch nonce out k. keeps e out (right.message e from m payload now epoch nonce out) h)

once_datagrams : FirstOnly once
once_datagrams = FirstOnly.datagrams (λ e r h from d now epoch nonce out k. keeps e out (right.datagram e from d now epoch nonce out) h)

-- ---- it does receive: P3's packet comes to the endpoint that it makes

none_yet : newest new ≡ null_frame
unfolding blank_frame highest newest_of fresh made
none_yet = refl

own_heeds : eqb (newest (seen (own right right_meets))) null_frame ≡ true
own_heeds = rw (own_seen right right_meets, none_yet)

own_reached : Reached once (own right right_meets)
own_reached = Reached.made (setup_with 1) 1000 bouts_typed (omega arith) setup_taken

once_receives : (e : Endpoint) × Reached once e × Received e
once_receives = (endpoint_after once (own right right_meets) p3, Reached.called (own right right_meets) own_reached p3 p3_asked, rw (own_heeds, endpoint_after) (first_received right right_meets))
