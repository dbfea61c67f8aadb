-- The worked bouts P1 and P2 (B-1, B-2), for the table that proves them all.
use mathlib.Core.Path.{◌≡◌, refl}
use mathlib.Core.List.{List, [], ◌∷◌, ◌++◌}
use Prim.Native.Nat.{ℕ}
use native.Mathlib.Omega.{arith}
use lib.ListN.{take}
use Rattle.base.specs.Little.{le, unle}
use Rattle.frame.specs.Bias.{bits_of, null_frame}
use Rattle.codec.specs.Message.{Wire, Fits, kind_of, is_input}
use Rattle.codec.specs.Bytes.{frame_bytes, body_bytes, head, bytes}
use Rattle.codec.specs.Read.{part, number, frame, body_only, kinds, message, datagram, number_in}
use Rattle.codec.specs.declared.MessageBody.TheVariants.{InputAck}

-- an InputAck with magic 0x1234 and ack -1
abbrev pub p1_message : Wire
p1_message = body_only 0x1234 (InputAck null_frame)

abbrev pub p1_bytes : List ℕ
p1_bytes = 0x34 ∷ 0x12 ∷ 0x03 ∷ 0x00 ∷ 0x00 ∷ 0x00 ∷ 0xFF ∷ 0xFF ∷ 0xFF ∷ 0xFF ∷ []

pub P1 : bytes p1_message ≡ p1_bytes
unfolding bytes head body_bytes kind_of frame_bytes le bits_of
P1 = refl

-- those bytes less the last, and with one more, whatever it is
pub P2_short : number_in (datagram (take 9 p1_bytes)) ≡ 9
unfolding datagram message kinds frame number part unle
P2_short = refl

pub P2_extra : (b : ℕ) → number_in (datagram (p1_bytes ++ b ∷ [])) ≡ 13
unfolding datagram message kinds frame number part unle bits_of
P2_extra b = refl

-- P1's message is one that its bytes determine
pub p1_fits : Fits p1_message
unfolding is_input
p1_fits =
    record {
      magic = omega arith;
      body = omega arith;
      frames = λ i d h. absurd (omega arith);
      statuses = omega arith;
      length = omega arith;
      bytes = λ i. omega arith;
      none = λ e. (refl, refl);
    }
