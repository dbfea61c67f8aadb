-- The bytes of a message are bytes: each is below 256.
use mathlib.Core.Bool.{Bool, true, false}
use mathlib.Core.List.{List, [], ◌∷◌, ◌++◌}
use Prim.Native.Nat.{ℕ, zero, suc, ◌/◌, ◌%◌, ◌<◌}
use native.Mathlib.Omega.{arith}
use lib.ListN.{length}
use Rattle.base.specs.Little.{Bytes, le}
use Rattle.frame.specs.Bias.{bias32, bias16, bits_of}
use Rattle.codec.specs.Message.{Wire, Fits, kind_of}
use Rattle.codec.specs.Bytes.{flag_bytes, frame_bytes, advantage_bytes, wide_bytes, report_bytes, reports_bytes, statuses_bytes, input_bytes, body_bytes, head, bytes}
use Rattle.codec.specs.declared.Wide.{Wide}
use Rattle.codec.specs.declared.StatusReport.{StatusReport}
use Rattle.codec.specs.declared.MessageBody.{MessageBody}
use Rattle.codec.specs.declared.MessageBody.TheVariants.{SyncRequest, SyncReply, Input, InputAck, QualityReport, QualityReply, ChecksumReport, KeepAlive}

pub bytes_none : Bytes []
bytes_none zero = omega arith
bytes_none (suc i) = omega arith

pub bytes-cons : (x : ℕ) (l : List ℕ) → x < 256 → Bytes l → Bytes (x ∷ l)
bytes-cons x l h k zero = h
bytes-cons x l h k (suc i) = k i

pub bytes-append : (l m : List ℕ) → Bytes l → Bytes m → Bytes (l ++ m)
bytes-append [] m h k = k
bytes-append (x ∷ l) m h k = bytes-cons x (l ++ m) (h 0) (bytes-append l m (λ i. h (suc i)) k)

pub of_number : (k n : ℕ) → Bytes (le k n)
unfolding le
of_number zero n = bytes_none
of_number (suc k) n = bytes-cons (n % 256) (le k (n / 256)) (omega arith) (of_number k (n / 256))

of-flag : (b : Bool) → Bytes (flag_bytes b)
unfolding flag_bytes
of-flag true = bytes-cons 1 [] (omega arith) bytes_none
of-flag false = bytes-cons 0 [] (omega arith) bytes_none

of-frame : (f : ℕ) → Bytes (frame_bytes f)
unfolding frame_bytes
of-frame f = of_number 4 (bits_of bias32 f)

of-wide : (x : Wide) → Bytes (wide_bytes x)
unfolding wide_bytes
of-wide x = bytes-append (le 8 x.low) (le 8 x.high) (of_number 8 x.low) (of_number 8 x.high)

of-report : (r : StatusReport) → Bytes (report_bytes r)
unfolding report_bytes
of-report r = bytes-append (flag_bytes r.disconnected) (frame_bytes r.last_frame) (of-flag r.disconnected) (of-frame r.last_frame)

of-reports : (rs : List StatusReport) → Bytes (reports_bytes rs)
unfolding reports_bytes
of-reports [] = bytes_none
of-reports (r ∷ rs) = bytes-append (report_bytes r) (reports_bytes rs) (of-report r) (of-reports rs)

of_statuses : (rs : List StatusReport) → Bytes (statuses_bytes rs)
unfolding statuses_bytes
of_statuses rs = bytes-append (le 8 (length rs)) (reports_bytes rs) (of_number 8 (length rs)) (of-reports rs)

of-input : (d : Bool) (s a n : ℕ) → Bytes (input_bytes d s a n)
unfolding input_bytes
of-input d s a n =
    bytes-append (flag_bytes d ++ frame_bytes s ++ frame_bytes a) (le 8 n)
    (bytes-append (flag_bytes d ++ frame_bytes s) (frame_bytes a) (bytes-append (flag_bytes d) (frame_bytes s) (of-flag d) (of-frame s)) (of-frame a))
    (of_number 8 n)

of_body : (b : MessageBody) (rs : List StatusReport) (n : ℕ) → Bytes (body_bytes b rs n)
unfolding body_bytes advantage_bytes
of_body (SyncRequest nonce) rs n = of_number 4 nonce
of_body (SyncReply nonce) rs n = of_number 4 nonce
of_body (Input d s a) rs n = bytes-append (statuses_bytes rs) (input_bytes d s a n) (of_statuses rs) (of-input d s a n)
of_body (InputAck ack) rs n = of-frame ack
of_body (QualityReport a ping) rs n = bytes-append (le 2 (bits_of bias16 a)) (wide_bytes ping) (of_number 2 (bits_of bias16 a)) (of-wide ping)
of_body (QualityReply pong) rs n = of-wide pong
of_body (ChecksumReport x f) rs n = bytes-append (wide_bytes x) (frame_bytes f) (of-wide x) (of-frame f)
of_body KeepAlive rs n = bytes_none

pub bytes-bytes : (w : Wire) → Fits w → Bytes (bytes w)
unfolding bytes head
bytes-bytes w h =
    let n : ℕ = length w.payload in
    bytes-append (head w n) w.payload
    (bytes-append (le 2 w.magic ++ le 4 (kind_of w.body)) (body_bytes w.body w.reports n)
    (bytes-append (le 2 w.magic) (le 4 (kind_of w.body)) (of_number 2 w.magic) (of_number 4 (kind_of w.body))) (of_body w.body w.reports n))
    h.bytes
