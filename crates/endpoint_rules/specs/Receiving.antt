-- Receiving an Input or an InputAck. What becomes of an Input, in this order, each part with its definition:
--   it is discarded, that is, only heard: a negative first frame; or a wrong status count and no disconnect requested    `discarded`
--   12: its payload is above 129 W bytes                                                                                  `payload_too_long`
--   6: its frames can be read, and the last one's number leaves i32                                                       `packet_overflows`
--   the pending inputs up to its ack are dropped, the last of them being the reference from then on                       `acknowledged`
--   its statuses are merged; where it requests a disconnect, that is announced instead                                    `informed`
--   its reference is looked for: the blank frame -1 while nothing is received, else the frame before its first            `reference`
--   with the reference held, the input time is noted                                                                      `noted`
--   and with a decodable payload: every frame above the newest is announced, to each handle in ascending order,           `announced_each`
--     an InputAck is queued, and of the history what is >= newest - 2 max_prediction stays                                `acks_queued`, `taken`
-- `input_taken` is what it does, `on_input` all of it.
use Rattle.std.specs.Prelude.{Bool, true, false, not, ◌&&◌, ◌||◌, List, [], ◌∷◌, map, ℕ, ◌+◌, ◌*◌, ◌^◌, ltb, eqb, length, take}
use Rattle.base.specs.Pick.{pick}
use Rattle.ceilings.specs.Ceilings.{most_pending, most_received}
use Rattle.frame.specs.Bias.{bias32}
use Rattle.packing.specs.Packing.{frame_count, decodable}
use Rattle.packing.specs.declared.input_bytes.InputBytes.{InputBytes}
use Rattle.history.specs.History.{newest_of, Found, found_in, reference_frame, above, packet_of, taken_in}
use Rattle.status.specs.Status.{reported}
use Rattle.status.specs.Statuses.{merged_all}
use Rattle.codec.specs.declared.StatusReport.{StatusReport}
use Rattle.codec.specs.declared.MessageBody.TheVariants.{InputAck}
use Rattle.events.specs.Events.{announced_each}
use Rattle.events.specs.declared.Event.TheVariants as Event
use Rattle.setup.specs.Setup.{Terms, receiving_width}
use Rattle.endpoint_rules.specs.declared.Phase.{Phase}
use Rattle.endpoint_rules.specs.declared.Flags.{Flags}
use Rattle.endpoint_rules.specs.Seen.{Seen, Receiver, is_disconnected, with_carried, with_flags, with_statuses, input_at}
use Rattle.endpoint_rules.specs.Did.{Effect, change, queue, announce, announce_event}
use Rattle.endpoint_rules.specs.Handshake.{Reaction, plainly}
use Rattle.endpoint_rules.specs.Sending.{acknowledged}

-- the fields of an Input
pub record InputMessage : Type 0 where
  pub disconnect_requested : Bool
  pub start : ℕ
  pub ack : ℕ
  pub reports : List StatusReport
  pub payload : List ℕ

abbrev pub input_message : (disconnect_requested : Bool) → (start ack : ℕ) → List StatusReport → (payload : List ℕ) → InputMessage
input_message disconnect_requested start ack reports payload =
    record { disconnect_requested = disconnect_requested; start = start; ack = ack; reports = reports; payload = payload }

-- ---- discarded, 12 and 6

-- which Input is discarded (E-15): the status count counts only where no disconnect is requested; a negative first frame always
abbrev pub discarded_by : (disconnect_requested : Bool) → (count players start : ℕ) → Bool
discarded_by disconnect_requested count players start = not disconnect_requested && not (eqb count players) || ltb start bias32

unfoldable pub discarded : (disconnect_requested : Bool) → (count start : ℕ) → Seen → Bool
discarded disconnect_requested count start s = discarded_by disconnect_requested count s.setup.players start

-- the reference, if it is held
abbrev pub reference : (start : ℕ) → Receiver → Found
reference start r = found_in (reference_frame start r.history) r.history

-- 12 (E-20): more frames than may be pending at the other end
abbrev pub too_long_by : (width length : ℕ) → Bool
too_long_by width length = ltb (most_pending * width) length

abbrev pub payload_too_long : List ℕ → Seen → Bool
payload_too_long payload s = too_long_by (receiving_width s.setup) (length payload)

-- 6 (E-21): start + count - 1 leaves i32
abbrev pub overflows_by : (start count : ℕ) → Bool
overflows_by start count = ltb (2 ^ 32) (start + count)

-- only a packet that can be read is tested: its reference is held, its payload decodable
unfoldable pub packet_overflows : (start : ℕ) → (payload : List ℕ) → Seen → Bool
packet_overflows start payload s =
    (reference start s.carried.receiver).held
    && decodable (receiving_width s.setup) payload
    && overflows_by start (frame_count (receiving_width s.setup) (length payload))

-- ---- statuses are merged, or Disconnected is announced

unfoldable pub statuses_merged : List StatusReport → Seen → Seen
statuses_merged reports s = with_statuses (merged_all s.statuses (map (λ (x : StatusReport). reported x.disconnected x.last_frame) reports)) s

-- a requested disconnect is announced once (E-19), and not by an end that is Disconnected already
abbrev pub announces_by : Phase → Flags → Bool
announces_by phase flags = not (is_disconnected phase) && not flags.disconnect_event_sent

abbrev pub announces : Seen → Bool
announces s = announces_by s.phase s.flags

abbrev pub disconnect_announced : Effect → Effect
disconnect_announced e = announce_event Event.Disconnected (change (λ s. with_flags (record { disconnect_notify_sent = s.flags.disconnect_notify_sent; disconnect_event_sent = true }) s) e)

unfoldable pub informed : (disconnect_requested : Bool) → List StatusReport → Effect → Effect
informed true reports e = pick (announces e.state) (disconnect_announced e) e
informed false reports e = change (statuses_merged reports) e

-- ---- the inputs are received

-- what a packet comes to: whether its reference is held, the frames to announce, the frame to acknowledge (none or one), and the receiver after it
pub record Reception : Type 0 where
  pub held : Bool
  pub new_frames : List InputBytes
  pub acks : List ℕ
  pub receiver : Receiver

-- a packet taken in: each frame above the newest is announced, the newest is acknowledged, frames >= newest - 2 max_prediction are kept.
-- At a max_prediction of at most 16 no more than 33 are (law `taken_fits`); the store's size stands here for the others (not reachable)
unfoldable pub taken : (max_prediction : ℕ) → List InputBytes → Receiver → Reception
taken max_prediction packet r =
    let history : List InputBytes = take most_received (taken_in max_prediction r.history packet) in
    record {
      held = true;
      new_frames = above (newest_of r.history) packet;
      acks = newest_of history ∷ [];
      receiver = record { history = history };
    }

-- if the reference is held, and if the packet is decodable
unfoldable pub received_if : (is_held is_decodable : Bool) → (max_prediction : ℕ) → List InputBytes → Receiver → Reception
received_if false d max_prediction packet r = record { held = false; new_frames = []; acks = []; receiver = r }
received_if true false max_prediction packet r = record { held = true; new_frames = []; acks = []; receiver = r }
received_if true true max_prediction packet r = taken max_prediction packet r

unfoldable pub receive : Terms → (start : ℕ) → (payload : List ℕ) → Receiver → Reception
receive t start payload r =
    let found : Found = reference start r in
    received_if found.held (decodable (receiving_width t) payload) t.max_prediction (packet_of start (receiving_width t) found.input.bytes payload) r

-- note the input time if the reference is held
abbrev pub noted : (now : ℕ) → (is_held : Bool) → Seen → Seen
noted now true s = input_at now s
noted now false s = s

-- queue InputAck
abbrev pub acks_queued : (now : ℕ) → List ℕ → Effect → Effect
acks_queued now [] e = e
acks_queued now (ack ∷ acks) e = acks_queued now acks (queue now (InputAck ack) e)

abbrev pub with_receiver : Receiver → Seen → Seen
with_receiver x s = with_carried (record { sender = s.carried.sender; receiver = x }) s

unfoldable pub inputs_received : (now : ℕ) → Reception → Effect → Effect
inputs_received now x e =
    acks_queued now x.acks
    (announce (announced_each e.state.setup.input_size e.state.setup.handles x.new_frames)
    (change (λ s. with_receiver x.receiver (noted now x.held s)) e))

-- ---- the whole of an Input: it acknowledges, then informs, then brings frames

unfoldable pub input_taken : (now : ℕ) → InputMessage → Effect → Effect
input_taken now m e =
    let after_ack : Effect = change (acknowledged m.ack) e in
    let after_reports : Effect = informed m.disconnect_requested m.reports after_ack in
    inputs_received now (receive e.state.setup m.start m.payload e.state.carried.receiver) after_reports

-- a discarded Input is only heard: it is tested for neither 12 nor 6 (E-16)
unfoldable pub input_unless : (is_discarded : Bool) → (now : ℕ) → InputMessage → Effect → Reaction
input_unless true now m e = plainly e
input_unless false now m e = record {
  too_long = payload_too_long m.payload e.state;
  overflows = packet_overflows m.start m.payload e.state;
  store_full = false;
  effect = input_taken now m e;
}

-- count: its status count as given
unfoldable pub on_input : (now count : ℕ) → InputMessage → Effect → Reaction
on_input now count m e = input_unless (discarded m.disconnect_requested count m.start e.state) now m e

-- ---- the InputAck message

unfoldable pub on_input_ack : (ack : ℕ) → Effect → Reaction
on_input_ack ack e = plainly (change (acknowledged ack) e)
