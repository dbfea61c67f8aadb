-- A send queue with one more message: written whole at its end where it fits, and else nothing. And the Input of all that is pending.
use Rattle.std.specs.Prelude.{true, false, List, [], ◌∷◌, map, ◌≡◌, refl, ℕ, ◌+◌, ◌*◌, ◌≤◌, min, length, Result, Ok, Err}
use Rattle.base.specs.Lay.{no_room, laid_at}
use Rattle.answer.specs.declared.Refusal.{Refusal}
use Rattle.answer.specs.declared.Refusal.TheVariants.{Full}
use Rattle.ceilings.specs.Ceilings.{most_width, most_players, most_payload}
use Rattle.frame.specs.Bias.{null_frame}
use Rattle.status.specs.declared.ConnectionStatus.{ConnectionStatus}
use Rattle.packing.specs.Packing.{xors, pack}
use Rattle.packing.specs.declared.input_bytes.InputBytes.{InputBytes}
use Rattle.pending.specs.Pending.{first_frame, payload}
use Rattle.codec.specs.Sizes.{fixed_size}
use Rattle.codec.specs.Message.{Wire, Fits, Reports, report_list, table_size}
use Rattle.codec.specs.Bytes.{bytes}
use Rattle.codec.specs.Read.{body_only}
use Rattle.codec.specs.declared.StatusReport.{StatusReport}
use Rattle.codec.specs.declared.MessageBody.TheVariants.{Input, InputAck, KeepAlive}

-- a message at the queue's end, and the place after it. What is written fits, as every value of the code's types within the counts does
pub record Queued (buffer : List ℕ) (at : ℕ) (w : Wire) (next : ℕ) (buffer' : List ℕ) : Type 0 where
  pub room : no_room buffer at (table_size w) ≡ false
  pub end : next ≡ at + table_size w
  pub lent : buffer' ≡ laid_at buffer at (bytes w)
  pub fits : Fits w

-- and nothing where it does not fit, which is the only refusal
abbrev pub QueuedAs : (buffer : List ℕ) (at : ℕ) → Wire → Result ℕ Refusal → List ℕ → Type 0
QueuedAs buffer at w (Ok next) buffer' = Queued buffer at w next buffer'
QueuedAs buffer at w (Err refusal) buffer' = (no_room buffer at (table_size w) ≡ true) × (refusal ≡ Full) × (buffer' ≡ buffer)

-- the bytes that messages take by the table of sizes (W-7)
unfoldable pub queue_size : List Wire → ℕ
queue_size [] = 0
queue_size (w ∷ ws) = table_size w + queue_size ws

-- a status as it travels
unfoldable pub report_of : ConnectionStatus → StatusReport
report_of x = record { disconnected = x.disconnected; last_frame = x.last_frame }

-- the Input of all pending inputs, from the first's frame on, packed against the last acknowledged. It requests no disconnect.
unfoldable pub pending_input : (magic ack : ℕ) → List ConnectionStatus → List InputBytes → (width : ℕ) → (acked : InputBytes) → Wire
pending_input magic ack statuses inputs width acked =
    record {
      magic = magic;
      body = Input false (first_frame null_frame inputs) ack;
      reports = map report_of statuses;
      payload = payload width acked inputs;
    }

-- the reports of at most 4 statuses, by the array and its count
pub record StatusReportsAs (statuses : List ConnectionStatus) (r : Reports) : Type 0 where
  pub list : report_list r ≡ map report_of statuses
  pub count : r.count ≡ length statuses

-- the size of that Input: 31 + 5n + b, whatever else it holds, and so at most 8,307
pub record InputSizedAs (statuses : List ConnectionStatus) (inputs : List InputBytes) (width r : ℕ) : Type 0 where
  pub counted : r ≡ fixed_size 2 + 5 * length statuses + length inputs * min width most_width
  pub most : r ≤ fixed_size 2 + 5 * most_players + most_payload
  pub sized : (magic ack : ℕ) (acked : InputBytes) → length acked.bytes ≡ most_width → table_size (pending_input magic ack statuses inputs width acked) ≡ r

-- worked: an InputAck takes 10 bytes, and with a KeepAlive behind it 16
ack_size : table_size (body_only 0x1234 (InputAck null_frame)) ≡ 10
ack_size = refl

two_sizes : queue_size (body_only 0x1234 (InputAck null_frame) ∷ body_only 0x1234 KeepAlive ∷ []) ≡ 16
unfolding queue_size
two_sizes = refl

-- worked: two inputs of one byte, from the first's frame on; with one status the Input takes 31 + 5 + 2 bytes
two_inputs : Wire
two_inputs =
    pending_input 0x1234 9 (record { disconnected = true; last_frame = 8 } ∷ []) (record { frame = 3; bytes = 5 ∷ [] } ∷ record { frame = 4; bytes = 7 ∷ [] } ∷ []) 1
    (record { frame = 2; bytes = 1 ∷ [] })

two_inputs_are : two_inputs
    ≡ record { magic = 0x1234; body = Input false 3 9; reports = record { disconnected = true; last_frame = 8 } ∷ []; payload = 4 ∷ 6 ∷ [] }
unfolding two_inputs pending_input report_of first_frame payload pack xors
two_inputs_are = refl

two_inputs_size : table_size two_inputs ≡ 38
unfolding two_inputs pending_input report_of first_frame payload pack xors
two_inputs_size = refl
