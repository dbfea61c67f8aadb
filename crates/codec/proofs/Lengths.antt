-- The lengths of a message's fields, of its head and of the whole: the table's numbers.
use mathlib.Core.Path.{◌≡◌, refl, ap}
use mathlib.Core.Bool.{Bool}
use mathlib.Core.List.{List, [], ◌∷◌}
use Prim.Native.Nat.{ℕ, suc, ◌+◌, ◌*◌}
use native.Mathlib.Omega.{arith}
use lib.ListN.{length, length-append}
use Rattle.base.proofs.Little.{le-length}
use Rattle.frame.specs.Bias.{bias32, bias16, bits_of}
use Rattle.codec.specs.Message.{Wire, kind_of, is_input}
use Rattle.codec.specs.Bytes.{flag_bytes, frame_bytes, advantage_bytes, wide_bytes, report_bytes, reports_bytes, statuses_bytes, input_bytes, body_bytes, head}
use Rattle.codec.specs.Sizes.{fixed_size}
use Rattle.base.specs.Pick.{pick}
use Rattle.codec.specs.declared.Wide.{Wide}
use Rattle.codec.specs.declared.StatusReport.{StatusReport}
use Rattle.codec.specs.declared.MessageBody.{MessageBody}
use Rattle.codec.specs.declared.MessageBody.TheVariants.{SyncRequest, SyncReply, Input, InputAck, QualityReport, QualityReply, ChecksumReport, KeepAlive}

pub frame-length : (f : ℕ) → length (frame_bytes f) ≡ 4
unfolding frame_bytes
frame-length f = le-length 4 (bits_of bias32 f)

pub advantage-length : (a : ℕ) → length (advantage_bytes a) ≡ 2
unfolding advantage_bytes
advantage-length a = le-length 2 (bits_of bias16 a)

pub wide-length : (x : Wide) → length (wide_bytes x) ≡ 16
unfolding wide_bytes
wide-length x = simp (length-append, le-length)

pub report-length : (r : StatusReport) → length (report_bytes r) ≡ 5
unfolding report_bytes flag_bytes
report-length r = ap suc (frame-length r.last_frame)

pub reports-length : (rs : List StatusReport) → length (reports_bytes rs) ≡ 5 * length rs
unfolding reports_bytes
reports-length [] = refl
reports-length (r ∷ rs) = simp (length-append, report-length) (rw (reports-length rs) (omega arith))

pub statuses_length : (rs : List StatusReport) → length (statuses_bytes rs) ≡ 8 + 5 * length rs
unfolding statuses_bytes
statuses_length rs = simp (length-append, le-length, reports-length)

pub input-length : (d : Bool) (s a n : ℕ) → length (input_bytes d s a n) ≡ 17
unfolding input_bytes flag_bytes
input-length d s a n = simp (length-append, frame-length, le-length)

-- of a body, up to the payload
pub body_length : (body : MessageBody) (rs : List StatusReport) (n : ℕ)
    → 6 + length (body_bytes body rs n) ≡ fixed_size (kind_of body) + pick (is_input body) (5 * length rs) 0
unfolding body_bytes kind_of is_input
body_length (SyncRequest nonce) rs n = rw (le-length 4 nonce)
body_length (SyncReply nonce) rs n = rw (le-length 4 nonce)
body_length (Input d s a) rs n = simp (length-append, statuses_length, input-length) (omega arith)
body_length (InputAck a) rs n = rw (frame-length a)
body_length (QualityReport a p) rs n = simp (length-append, advantage-length, wide-length)
body_length (QualityReply p) rs n = rw (wide-length p)
body_length (ChecksumReport x f) rs n = simp (length-append, wide-length, frame-length)
body_length KeepAlive rs n = refl

pub head-length : (w : Wire) (n : ℕ) → length (head w n) ≡ fixed_size (kind_of w.body) + pick (is_input w.body) (5 * length w.reports) 0
unfolding head
head-length w n = simp (length-append, le-length) (body_length w.body w.reports n)

pub head_parts : (w : Wire) (n : ℕ) → length (head w n) ≡ 6 + length (body_bytes w.body w.reports n)
unfolding head
head_parts w n = simp (length-append, le-length)
