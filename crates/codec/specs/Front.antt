-- Inside the reader: numbers at a place, and what the functions answer that read the first message of a slice.
use Rattle.std.specs.Prelude.{◌≡◌, List, [], ℕ, zero, suc, ◌+◌, ◌*◌, ◌-◌, ◌≤◌, ltb, length, take, drop, Result, Ok, Err}
use Rattle.base.specs.Little.{unle}
use Rattle.frame.specs.Bias.{bias32, bias16, bits_of}
use Rattle.answer.specs.Number.{refusal_number}
use Rattle.answer.specs.declared.Refusal.{Refusal}
use Rattle.codec.specs.Message.{Wire, Reports, report_list, meant}
use Rattle.codec.specs.Read.{Reading, Reads, ◌>>=◌, give, part, number, flag, frame, refuse, reports, wire_in}
use Rattle.codec.specs.Read.Reading.{got, fault}
use Rattle.codec.specs.declared.Wide.{Wide}
use Rattle.codec.specs.declared.StatusReport.{StatusReport}
use Rattle.ceilings.specs.Ceilings.{most_payload}
use Rattle.codec.specs.declared.MessageBody.{MessageBody}
use Rattle.codec.specs.declared.MessageBody.TheVariants.{SyncRequest, SyncReply, Input, InputAck, QualityReport, QualityReply, ChecksumReport, KeepAlive}
use Rattle.codec.specs.declared.reader.Front.{Front}

-- the number of k bytes from a place on
unfoldable pub number_at : ℕ → ℕ → List ℕ → ℕ
number_at k at d = unle (take k (drop at d))

unfoldable pub wide_at : ℕ → List ℕ → Wide
wide_at at d = record { low = number_at 8 at d; high = number_at 8 (at + 8) d }

-- the body of a kind without lists, whose bytes are there (of kind 2 there is none)
abbrev pub body_at : ℕ → List ℕ → MessageBody
body_at zero d = SyncRequest (number_at 4 6 d)
body_at (suc zero) d = SyncReply (number_at 4 6 d)
body_at (suc (suc zero)) d = KeepAlive
body_at (suc (suc (suc zero))) d = InputAck (bits_of bias32 (number_at 4 6 d))
body_at (suc (suc (suc (suc zero)))) d = QualityReport (bits_of bias16 (number_at 2 6 d)) (wide_at 8 d)
body_at (suc (suc (suc (suc (suc zero))))) d = QualityReply (wide_at 6 d)
body_at (suc (suc (suc (suc (suc (suc zero)))))) d = ChecksumReport (wide_at 6 d) (bits_of bias32 (number_at 4 22 d))
body_at (suc (suc (suc (suc (suc (suc (suc n))))))) d = KeepAlive

-- the answer of reading a field of so many bytes at a place: its value, whose bytes are all there, or the fault
abbrev pub FieldAs : {A : Type 0} → Reads A → (at size : ℕ) → List ℕ → Result A Refusal → Type 0
FieldAs p at size d (Ok a) = (at + size ≤ length d) × (p (drop at d) ≡ got a (drop (at + size) d))
FieldAs p at size d (Err refusal) = p (drop at d) ≡ fault (refusal_number refusal)

-- a message that was read; the payload is the last part before the end
pub record FrontIn (d : List ℕ) (reading : Reading Wire) (r : Front) : Type 0 where
  pub message : meant r.message (wire_in reading).payload ≡ wire_in reading
  pub count : r.message.reports.count ≡ length (wire_in reading).reports
  pub within : r.end ≤ length d
  pub start : r.payload + length (wire_in reading).payload ≡ r.end
  pub payload : take (r.end - r.payload) (drop r.payload d) ≡ (wire_in reading).payload
  pub left : reading ≡ got (wire_in reading) (drop r.end d)

-- the answer of one reading of a slice
abbrev pub FrontAs : List ℕ → Reading Wire → Result Front Refusal → Type 0
FrontAs d reading (Ok r) = FrontIn d reading r
FrontAs d reading (Err refusal) = reading ≡ fault (refusal_number refusal)

-- an Input from its disconnect flag on
unfoldable pub after_reports : ℕ → List StatusReport → Reads Wire
after_reports magic rs = do
  disconnect ← flag
  start ← frame
  ack ← frame
  b ← number 8
  _ ← refuse (ltb most_payload b) 12
  payload ← part b
  give (record { magic = magic; body = Input disconnect start ack; reports = rs; payload = payload })

-- the answer of reading n reports from their place in a message on
abbrev pub ReportsAs : List ℕ → ℕ → Result Reports Refusal → Type 0
ReportsAs d n (Ok r) =
    (r.count ≡ n) × (14 + 5 * n ≤ length d) × (reports n [] (drop 14 d) ≡ got (report_list r) (drop (14 + 5 * n) d))
ReportsAs d n (Err refusal) = reports n [] (drop 14 d) ≡ fault (refusal_number refusal)
