-- Sending inputs: which frame is taken, what becomes pending, and the one Input of all that is pending.
use Rattle.std.specs.Prelude.{Bool, not, ◌&&◌, ◌||◌, List, [], ◌∷◌, ◌++◌, ℕ, suc, ltb, leb, eqb, length}
use Rattle.base.specs.Pick.{pick}
use Rattle.ceilings.specs.Ceilings.{most_pending}
use Rattle.frame.specs.Bias.{bias32}
use Rattle.packing.specs.Pad.{padded}
use Rattle.packing.specs.declared.input_bytes.InputBytes.{InputBytes}
use Rattle.pending.specs.Pending.{room, drop_to, last_to, last_frame}
use Rattle.history.specs.History.{newest_of}
use Rattle.status.specs.declared.ConnectionStatus.{ConnectionStatus}
use Rattle.codec.specs.Message.{Wire}
use Rattle.outbox.specs.Outbox.{pending_input}
use Rattle.events.specs.declared.Event.TheVariants as Event
use Rattle.setup.specs.Setup.{sending_width}
use Rattle.endpoint_rules.specs.Seen.{Seen, Sender, with_carried}
use Rattle.endpoint_rules.specs.Did.{Effect, change, queue_wire, announce_event}

-- the newest frame received, -1 while there is none
abbrev pub newest : Seen → ℕ
newest s = newest_of s.carried.receiver.history

abbrev pub with_sender : Sender → Seen → Seen
with_sender x s = with_carried (record { sender = x; receiver = s.carried.receiver }) s

-- what an acknowledged frame drops, and the reference after it (E-17)
unfoldable pub dropped_to : ℕ → Sender → Sender
dropped_to ack x = record { pending = drop_to ack x.pending; acked = last_to ack x.acked x.pending }

unfoldable pub acknowledged : ℕ → Seen → Seen
acknowledged ack s = with_sender (dropped_to ack s.carried.sender) s

-- the last accepted frame (N-4): that of the last pending input, else of the last acknowledged; a negative one is none
abbrev pub last_accepted : Sender → ℕ
last_accepted x = last_frame x.acked.frame x.pending

-- 4 (N-4): no frame to send, or not the one that follows the last accepted
abbrev pub bad_after : (last frame : ℕ) → Bool
bad_after last frame = ltb frame bias32 || (leb bias32 last && not (eqb frame (suc last)))

unfoldable pub bad_frame : ℕ → Sender → Bool
bad_frame frame x = bad_after (last_accepted x) frame

-- 3 (N-3) of a status list
abbrev pub bad_statuses : ℕ → Seen → Bool
bad_statuses count s = not (eqb count s.setup.players)

-- 3 (N-3) of an input's bytes
abbrev pub bad_bytes : List ℕ → Seen → Bool
bad_bytes bytes s = not (eqb (length bytes) (sending_width s.setup))

-- 5: 129 inputs pend already (C-12)
abbrev pub pending_full : Seen → Bool
pending_full s = not (room s.carried.sender.pending)

-- the Input of all that is pending
abbrev pub pending_in : List ConnectionStatus → Seen → Wire
pending_in statuses s = pending_input s.setup.magic (newest s) statuses s.carried.sender.pending (sending_width s.setup) s.carried.sender.acked

-- queued where something is pending
unfoldable pub pending_queued : ℕ → List ConnectionStatus → List InputBytes → Effect → Effect
pending_queued now statuses [] e = e
pending_queued now statuses (x ∷ xs) e = queue_wire now (pending_in statuses e.state) e

abbrev pub queue_pending : ℕ → List ConnectionStatus → Effect → Effect
queue_pending now statuses e = pending_queued now statuses e.state.carried.sender.pending e

-- an accepted input is pending
unfoldable pub accepted : InputBytes → Seen → Seen
accepted x s = with_sender (record { pending = s.carried.sender.pending ++ x ∷ []; acked = s.carried.sender.acked }) s

-- the 129th pending input announces Disconnected, and does not mark it as announced (E-59)
unfoldable pub announces_most : Effect → Effect
announces_most e = pick (leb most_pending (length e.state.carried.sender.pending)) (announce_event Event.Disconnected e) e

unfoldable pub input_sent : (now frame : ℕ) → List ℕ → List ConnectionStatus → Effect → Effect
input_sent now frame bytes statuses e =
    let x : InputBytes = record { frame = frame; bytes = padded bytes } in
    queue_pending now statuses (announces_most (change (accepted x) e))
