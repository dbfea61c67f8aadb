-- Every call of a session but `new`, with its arguments: frames biased, bytes as lists, of a lent send buffer its length.
use Rattle.std.specs.Prelude.{List, ℕ}
use Rattle.codec.specs.Message.{Wire}

pub data Call : Type 0 where
  synchronize : (now epoch nonce buffer : ℕ) → Call
  -- a message from a peer, as a value; `count` is its status count as given, which a list of four cannot show
  message : (from count : ℕ) → (w : Wire) → (now epoch nonce buffer : ℕ) → Call
  -- the same as bytes
  datagram : (from : ℕ) → (bytes : List ℕ) → (now epoch nonce buffer : ℕ) → Call
  poll_remote_clients : (now epoch nonce buffer : ℕ) → Call
  advance_frame : Call
  take_messages : (buffer : ℕ) → Call
  take_events : Call
  network_stats : (epoch : ℕ) → Call
  frames_behind_host : Call
  current_state : Call
  current_frame : Call
  num_players : Call
