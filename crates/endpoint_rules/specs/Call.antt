-- Every call of an endpoint but `new`, with its arguments: frames biased, bytes as lists, a status list with its count as given, of a lent send
-- buffer its length. `ask` is for the questions.
use Rattle.std.specs.Prelude.{List, ℕ}
use Rattle.status.specs.declared.ConnectionStatus.{ConnectionStatus}
use Rattle.codec.specs.Message.{Wire}
use Rattle.codec.specs.declared.Wide.{Wide}

-- what is never refused and changes nothing
pub data Question : Type 0 where
  handles : Question
  is_synchronized : Question
  is_running : Question
  is_handling_message : (from : ℕ) → Question
  newest_frame : Question
  state : Question
  checksums : Question

pub data Call : Type 0 where
  synchronize : (now epoch nonce buffer : ℕ) → Call
  -- a message from a peer, as a value; `count` is its status count as given, which a list of four does not determine
  message : (from count : ℕ) → (w : Wire) → (now epoch nonce buffer : ℕ) → Call
  -- the same as bytes
  datagram : (from : ℕ) → (bytes : List ℕ) → (now epoch nonce buffer : ℕ) → Call
  act : (count : ℕ) → (statuses : List ConnectionStatus) → (now epoch nonce buffer : ℕ) → Call
  send_input : (frame : ℕ) → (bytes : List ℕ) → (count : ℕ) → (statuses : List ConnectionStatus) → (now buffer : ℕ) → Call
  disconnect : (now : ℕ) → Call
  send_checksum_report : (frame : ℕ) → (checksum : Wide) → (now buffer : ℕ) → Call
  update_local_frame_advantage : (local_frame : ℕ) → Call
  network_stats : (epoch : ℕ) → Call
  peer_connect_status : (handle : ℕ) → Call
  take_events : Call
  take_messages : (buffer : ℕ) → Call
  ask : Question → Call
