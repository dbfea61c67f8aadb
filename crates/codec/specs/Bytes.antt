-- The bytes of a message: bincode 1's layout, fields in declared order.
use Rattle.std.specs.Prelude.{Bool, true, false, ℕ, length}
use mathlib.Core.List.{List, [], ◌∷◌, ◌++◌, map, flatten}
use Rattle.base.specs.Little.{le}
use Rattle.frame.specs.Bias.{bias32, bias16, bits_of}
use Rattle.codec.specs.Message.{Wire, kind_of}
use Rattle.codec.specs.declared.Wide.{Wide}
use Rattle.codec.specs.declared.StatusReport.{StatusReport}
use Rattle.codec.specs.declared.MessageBody.{MessageBody}
use Rattle.codec.specs.declared.MessageBody.TheVariants.{SyncRequest, SyncReply, Input, InputAck, QualityReport, QualityReply, ChecksumReport, KeepAlive}

abbrev pub flag_number : Bool → ℕ
flag_number true = 1
flag_number false = 0

unfoldable pub flag_bytes : Bool → List ℕ
flag_bytes b = flag_number b ∷ []

-- a frame is an i32: of the biased number, the bits
unfoldable pub frame_bytes : ℕ → List ℕ
frame_bytes f = le 4 (bits_of bias32 f)

-- an advantage is an i16
unfoldable pub advantage_bytes : ℕ → List ℕ
advantage_bytes a = le 2 (bits_of bias16 a)

-- a u128: the low half first
unfoldable pub wide_bytes : Wide → List ℕ
wide_bytes x = le 8 x.low ++ le 8 x.high

unfoldable pub report_bytes : StatusReport → List ℕ
report_bytes r = flag_bytes r.disconnected ++ frame_bytes r.last_frame

unfoldable pub reports_bytes : List StatusReport → List ℕ
reports_bytes [] = []
reports_bytes (r ∷ rs) = report_bytes r ++ reports_bytes rs

-- a status list: its count and its reports
unfoldable pub statuses_bytes : List StatusReport → List ℕ
statuses_bytes rs = le 8 (length rs) ++ reports_bytes rs

-- an Input's other fields, up to the count n of its payload
unfoldable pub input_bytes : Bool → ℕ → ℕ → ℕ → List ℕ
input_bytes disconnect start ack n = flag_bytes disconnect ++ frame_bytes start ++ frame_bytes ack ++ le 8 n

-- a body's fields; an Input's payload of n bytes follows
unfoldable pub body_bytes : MessageBody → List StatusReport → ℕ → List ℕ
body_bytes (SyncRequest nonce) rs n = le 4 nonce
body_bytes (SyncReply nonce) rs n = le 4 nonce
body_bytes (Input disconnect start ack) rs n = statuses_bytes rs ++ input_bytes disconnect start ack n
body_bytes (InputAck ack) rs n = frame_bytes ack
body_bytes (QualityReport advantage ping) rs n = advantage_bytes advantage ++ wide_bytes ping
body_bytes (QualityReply pong) rs n = wide_bytes pong
body_bytes (ChecksumReport checksum frame) rs n = wide_bytes checksum ++ frame_bytes frame
body_bytes KeepAlive rs n = []

-- everything before the payload, of which n bytes follow
unfoldable pub head : Wire → ℕ → List ℕ
head w n = le 2 w.magic ++ le 4 (kind_of w.body) ++ body_bytes w.body w.reports n

unfoldable pub bytes : Wire → List ℕ
bytes w = head w (length w.payload) ++ w.payload

-- messages back to back
abbrev pub queue_of : List Wire → List ℕ
queue_of ws = flatten (map bytes ws)
