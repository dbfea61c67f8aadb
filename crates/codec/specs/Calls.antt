-- What the codec's calls answer, over the definitions of bytes and of reading.
use Rattle.std.specs.Prelude.{◌≡◌, Bool, true, false, List, [], ◌∷◌, ℕ, zero, suc, ◌+◌, ◌-◌, ltb, length, take, drop, Result, Ok, Err}
use Rattle.base.specs.Pick.{pick}
use Rattle.base.specs.First.{first_of}
use Rattle.base.specs.Lay.{no_room, laid_at}
use Rattle.answer.specs.Number.{refusal_number}
use Rattle.answer.specs.declared.Refusal.{Refusal}
use Rattle.ceilings.specs.Ceilings.{most_players, most_payload}
use Rattle.codec.specs.Message.{Wire, Fits, is_input, meant, size_with}
use Rattle.codec.specs.Bytes.{head, bytes}
use Rattle.codec.specs.Read.{message, datagram, number_in, wire_in, left_in}
use Rattle.codec.specs.Read.Reading.{fault}
use Rattle.codec.specs.declared.Message.{Message}

-- 12 (N-12) of what is to be written; only an Input has statuses and a payload (W-13)
unfoldable pub too_long : Message → ℕ → Bool
too_long m n = pick (is_input m.body) (pick (ltb most_players m.reports.count) true (ltb most_payload n)) false

-- the bytes of a message with a payload of n bytes
abbrev pub size_for : Message → ℕ → ℕ
size_for m n = size_with m.body m.reports.count n

-- the number and the value of each case (N-12)
abbrev pub shown_size : Result ℕ Refusal → ℕ × ℕ
shown_size (Ok n) = (0, n)
shown_size (Err refusal) = (refusal_number refusal, 0)

abbrev pub size_as : Message → ℕ → ℕ × ℕ
size_as m n = pick (too_long m n) (12, 0) (0, size_for m n)

-- a writer's refusals, in order
unfoldable pub write_refusal : List ℕ → ℕ → Message → ℕ → ℕ
write_refusal buffer at m n = first_of ((too_long m n, 12) ∷ (no_room buffer at (size_for m n), 5) ∷ [])

-- the piece of a message stands at its place, and the answer is the place after it. What is written fits, as every value of the code's types within the
-- counts does
pub record Laid (buffer : List ℕ) (at refusal : ℕ) (w : Wire) (piece : List ℕ) (next : ℕ) (buffer' : List ℕ) : Type 0 where
  pub done : refusal ≡ 0
  pub end : next ≡ at + length piece
  pub lent : buffer' ≡ laid_at buffer at piece
  pub fits : Fits w

-- on a refusal nothing is written
abbrev pub LaidAs : (buffer : List ℕ) (at refusal : ℕ) (w : Wire) (piece : List ℕ) → Result ℕ Refusal → List ℕ → Type 0
LaidAs buffer at refusal w piece (Ok end) buffer' = Laid buffer at refusal w piece end buffer'
LaidAs buffer at refusal w piece (Err e) buffer' = (refusal ≡ refusal_number e) × (buffer' ≡ buffer)

abbrev pub WrittenAs : List ℕ → ℕ → Message → List ℕ → Result ℕ Refusal → List ℕ → Type 0
WrittenAs buffer at m payload =
    LaidAs buffer at (write_refusal buffer at m (length payload)) (meant m payload) (bytes (meant m payload))

-- an Input's payload of n bytes is left to the caller, who puts it at the end
abbrev pub HeadAs : List ℕ → ℕ → Message → ℕ → Result ℕ Refusal → List ℕ → Type 0
HeadAs buffer at m n = LaidAs buffer at (write_refusal buffer at m n) (meant m []) (head (meant m []) n)

-- the payload of a datagram that reads, empty where it does not or is no Input; it is the last part of the datagram
abbrev pub payload_in : List ℕ → List ℕ
payload_in d = (wire_in (datagram d)).payload

-- a message that was read, less the payload
pub record MessageAs (d : List ℕ) (m : Message) : Type 0 where
  pub reads : number_in (datagram d) ≡ 0
  pub message : meant m (payload_in d) ≡ wire_in (datagram d)
  pub count : m.reports.count ≡ length (wire_in (datagram d)).reports

abbrev pub ReadAs : List ℕ → Result Message Refusal → Type 0
ReadAs d (Ok m) = MessageAs d m
ReadAs d (Err refusal) = datagram d ≡ fault (refusal_number refusal)

pub record PayloadAs (d r : List ℕ) : Type 0 where
  pub part : r ≡ drop (length d - length (payload_in d)) d
  pub payload : r ≡ payload_in d

-- where the message ends that begins at a place of a queue: where what is left after it begins. Nothing is left after bytes that cannot be read, so
-- that they end with the queue
unfoldable pub message_end : List ℕ → ℕ → ℕ
message_end queue at = length queue - length (left_in (message (drop at queue)))

-- a queue cut into datagrams from a place on, as a loop over `message_end` cuts it: at most k of them
unfoldable pub cut_from : ℕ → List ℕ → ℕ → List (List ℕ)
cut_from zero queue at = []
cut_from (suc k) queue at =
    pick (ltb at (length queue)) (take (message_end queue at - at) (drop at queue) ∷ cut_from k queue (message_end queue at)) []

-- all of it: its length is count enough, since a message has a byte at least
abbrev pub cut : List ℕ → List (List ℕ)
cut queue = cut_from (length queue) queue 0
