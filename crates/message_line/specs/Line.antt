-- The line of a datagram, in ASCII, with no newline at its end: the kind, the magic, then each field's name and its value, one space between two of them.
use Rattle.std.specs.Prelude.{◌≡◌, refl, true, false, List, [], ◌∷◌, ◌++◌, ℕ, ◌+◌, ◌*◌, ◌^◌, eqb, length}
use Prim.Native.String.{String}
use Rattle.base.specs.Pick.{pick}
use Rattle.frame.specs.Bias.{bias32, bias16}
use Rattle.text.specs.Decimal.{decimal_of, signed_of, digits}
use Rattle.text.specs.Hex.{hex_of, hex_digit}
use Rattle.codec.specs.Message.{Wire}
use Rattle.codec.specs.Read.{datagram, number_in, wire_in}
use Rattle.codec.specs.declared.Wide.{Wide}
use Rattle.codec.specs.declared.StatusReport.{StatusReport}
use Rattle.codec.specs.declared.MessageBody.{MessageBody}
use Rattle.codec.specs.declared.MessageBody.TheVariants.{SyncRequest, SyncReply, Input, InputAck, QualityReport, QualityReply, ChecksumReport, KeepAlive}
use Rattle.text.specs.Ascii.{ascii}

-- a field: a space, its name, a space, its value
unfoldable pub field : String → List ℕ → List ℕ
field name value = ascii " " ++ ascii name ++ ascii " " ++ value

-- a frame, and an advantage of the wire: signed, from the biased number
abbrev pub frame_text : ℕ → List ℕ
frame_text f = signed_of bias32 f

abbrev pub advantage_text : ℕ → List ℕ
advantage_text a = signed_of bias16 a

-- a u128 is one number
abbrev pub wide_text : Wide → List ℕ
wide_text x = decimal_of (x.low + 2 ^ 64 * x.high)

-- the statuses, in order
unfoldable pub report_text : StatusReport → List ℕ
report_text r = field (pick r.disconnected "disconnected" "connected") (frame_text r.last_frame)

unfoldable pub reports_text : List StatusReport → List ℕ
reports_text [] = []
reports_text (r ∷ rs) = report_text r ++ reports_text rs

-- the number of a payload's bytes, and the space before them where there are any
unfoldable pub bytes_text : ℕ → List ℕ
bytes_text n = field "bytes" (decimal_of n) ++ pick (eqb n 0) [] (ascii " ")

unfoldable pub kind_name : MessageBody → String
kind_name (SyncRequest nonce) = "SyncRequest"
kind_name (SyncReply nonce) = "SyncReply"
kind_name (Input disconnect start ack) = "Input"
kind_name (InputAck ack) = "InputAck"
kind_name (QualityReport advantage ping) = "QualityReport"
kind_name (QualityReply pong) = "QualityReply"
kind_name (ChecksumReport checksum frame) = "ChecksumReport"
kind_name KeepAlive = "KeepAlive"

-- a body's fields; an Input's payload of n bytes follows
unfoldable pub fields_text : MessageBody → List StatusReport → ℕ → List ℕ
fields_text (SyncRequest nonce) rs n = field "nonce" (decimal_of nonce)
fields_text (SyncReply nonce) rs n = field "nonce" (decimal_of nonce)
fields_text (Input disconnect start ack) rs n =
    field "statuses" (decimal_of (length rs))
    ++ reports_text rs
    ++ field "disconnect" (ascii (pick disconnect "true" "false"))
    ++ field "start" (frame_text start)
    ++ field "ack" (frame_text ack)
    ++ bytes_text n
fields_text (InputAck ack) rs n = field "ack" (frame_text ack)
fields_text (QualityReport advantage ping) rs n = field "advantage" (advantage_text advantage) ++ field "ping" (wide_text ping)
fields_text (QualityReply pong) rs n = field "pong" (wide_text pong)
fields_text (ChecksumReport checksum frame) rs n = field "checksum" (wide_text checksum) ++ field "frame" (frame_text frame)
fields_text KeepAlive rs n = []

-- everything before the payload, of which n bytes follow
unfoldable pub head_text : ℕ → MessageBody → List StatusReport → ℕ → List ℕ
head_text magic body rs n = ascii (kind_name body) ++ field "magic" (decimal_of magic) ++ fields_text body rs n

unfoldable pub wire_line : Wire → List ℕ
wire_line w = head_text w.magic w.body w.reports (length w.payload) ++ hex_of w.payload

unfoldable pub refused_line : ℕ → List ℕ
refused_line n = ascii "refused " ++ decimal_of n

unfoldable pub line_of : List ℕ → List ℕ
line_of d = pick (eqb (number_in (datagram d)) 0) (wire_line (wire_in (datagram d))) (refused_line (number_in (datagram d)))

-- worked: P1 (B-1); an Input with two statuses and a payload, and one with neither; an advantage below 0 and a u128; a message with no field; a refusal
wire : MessageBody → List StatusReport → List ℕ → Wire
wire body rs payload = record { magic = 4660; body = body; reports = rs; payload = payload }

p1 : wire_line (wire (InputAck 0x7FFF_FFFF) [] []) ≡ ascii "InputAck magic 4660 ack -1"
unfolding wire wire_line head_text kind_name fields_text field ascii decimal_of signed_of digits hex_of
p1 = refl

input_example : wire_line (wire (Input false 0x8000_0007 0x7FFF_FFFF)
    (record { disconnected = false; last_frame = 0x8000_0102 } ∷ record { disconnected = true; last_frame = 0x8000_0103 } ∷ [])
    (0 ∷ 1 ∷ 255 ∷ []))
    ≡ ascii "Input magic 4660 statuses 2 connected 258 disconnected 259 disconnect false start 7 ack -1 bytes 3 0001ff"
unfolding wire wire_line head_text kind_name fields_text reports_text report_text bytes_text field ascii decimal_of signed_of digits hex_of hex_digit
input_example = refl

empty_example : wire_line (wire (Input true 0x8000_0000 0) [] []) ≡ ascii "Input magic 4660 statuses 0 disconnect true start 0 ack -2147483648 bytes 0"
unfolding wire wire_line head_text kind_name fields_text reports_text bytes_text field ascii decimal_of signed_of digits hex_of
empty_example = refl

quality_example : wire_line (wire (QualityReport 32765 (record { low = 5; high = 1 })) [] []) ≡ ascii "QualityReport magic 4660 advantage -3 ping 18446744073709551621"
unfolding wire wire_line head_text kind_name fields_text field ascii decimal_of signed_of digits hex_of
quality_example = refl

keep_alive_example : wire_line (wire KeepAlive [] []) ≡ ascii "KeepAlive magic 4660"
unfolding wire wire_line head_text kind_name fields_text field ascii decimal_of digits hex_of
keep_alive_example = refl

refused_example : refused_line 13 ≡ ascii "refused 13"
unfolding refused_line ascii decimal_of digits
refused_example = refl
