-- Each field's bytes read back as the field, whatever stands after them, and so do the bytes of each kind.
use borrow.Author.Tests.{le-ltb}
use mathlib.Core.Path.{◌≡◌, refl}
use mathlib.Core.Bool.{Bool, true, false}
use mathlib.Core.List.{List, [], ◌∷◌, ◌++◌, append_assoc, append-nil}
use Prim.Native.Nat.{ℕ, suc, ◌^◌, ◌<◌, ◌≤◌}
use native.Mathlib.Omega.{arith}
use lib.ListN.{length, length-append}
use lib.Seq.{take_at, drop_at, append_snoc}
use Rattle.base.specs.Little.{le}
use Rattle.base.proofs.Little.{le-length, unle-le}
use Rattle.frame.specs.Bias.{bias32, bias16, bits_of}
use Rattle.frame.proofs.Bits.{bits_below, bits_bits}
use Rattle.ceilings.specs.Ceilings.{most_players, most_payload}
use Rattle.codec.specs.Message.{Wire, kind_of, is_input, FitsWide, FitsBody, FitsReports}
use Rattle.codec.specs.Bytes.{flag_bytes, frame_bytes, advantage_bytes, wide_bytes, report_bytes, reports_bytes, statuses_bytes, input_bytes, body_bytes}
use Rattle.codec.specs.Read.{Reading, part, number, flag, frame, advantage, wide, report, reports, input, kinds}
use Rattle.codec.specs.Read.Reading.{got}
use Rattle.codec.specs.declared.Wide.{Wide}
use Rattle.codec.specs.declared.StatusReport.{StatusReport}
use Rattle.codec.specs.declared.MessageBody.{MessageBody}
use Rattle.codec.specs.declared.MessageBody.TheVariants.{SyncRequest, SyncReply, Input, InputAck, QualityReport, QualityReply, ChecksumReport, KeepAlive}

pub part-append : (k : ℕ) (a rest : List ℕ) → length a ≡ k → part k (a ++ rest) ≡ got a rest
unfolding part
part-append k a rest e = rw (le-ltb (length (a ++ rest)) k (simp length-append (omega arith)), take_at a rest k e, drop_at a rest k e)

pub number-le : (k n : ℕ) → n < 256 ^ k → (rest : List ℕ) → number k (le k n ++ rest) ≡ got n rest
unfolding number
number-le k n h rest = rw (part-append k (le k n) rest (le-length k n), unle-le k n h)

pub flag-bytes : (b : Bool) (rest : List ℕ) → flag (flag_bytes b ++ rest) ≡ got b rest
unfolding flag flag_bytes le
flag-bytes true rest = rw (number-le 1 1 (omega arith) rest)
flag-bytes false rest = rw (number-le 1 0 (omega arith) rest)

pub frame-bytes : (f : ℕ) → f < 2 ^ 32 → (rest : List ℕ) → frame (frame_bytes f ++ rest) ≡ got f rest
unfolding frame frame_bytes
frame-bytes f h rest = rw (number-le 4 (bits_of bias32 f) (bits_below bias32 f (omega arith)), bits_bits bias32 f h)

pub advantage-bytes : (a : ℕ) → a < 2 ^ 16 → (rest : List ℕ) → advantage (advantage_bytes a ++ rest) ≡ got a rest
unfolding advantage advantage_bytes
advantage-bytes a h rest = rw (number-le 2 (bits_of bias16 a) (bits_below bias16 a (omega arith)), bits_bits bias16 a h)

pub wide-bytes : (x : Wide) → FitsWide x → (rest : List ℕ) → wide (wide_bytes x ++ rest) ≡ got x rest
unfolding wide wide_bytes
wide-bytes x h rest = rw (append_assoc, number-le 8 x.low h.0, number-le 8 x.high h.1)

pub report-bytes : (r : StatusReport) → r.last_frame < 2 ^ 32 → (rest : List ℕ) → report (report_bytes r ++ rest) ≡ got r rest
unfolding report report_bytes
report-bytes r h rest = rw (append_assoc, flag-bytes r.disconnected, frame-bytes r.last_frame h)

-- after those read already
pub reports-bytes : (rs acc : List StatusReport) → FitsReports rs → (rest : List ℕ)
    → reports (length rs) acc (reports_bytes rs ++ rest) ≡ got (acc ++ rs) rest
unfolding reports reports_bytes
reports-bytes [] acc h rest = rw append-nil
reports-bytes (r ∷ rs) acc h rest =
    rw (append_assoc, report-bytes r (h 0 r (omega arith)), ← append_snoc acc r rs)
    (reports-bytes rs (acc ++ r ∷ []) (λ i d k. h (suc i) d (omega arith)) rest)

module _ (magic : ℕ) (rs : List StatusReport) (p rest : List ℕ) where
  -- a message of this body, with the rest left
  abbrev pub made : MessageBody → Reading Wire
  made body = got (record { magic = magic; body = body; reports = rs; payload = p }) rest

  input-read : (d : Bool) (s a : ℕ) → s < 2 ^ 32 → a < 2 ^ 32 → FitsReports rs → length rs ≤ most_players → length p ≤ most_payload
      → input magic (statuses_bytes rs ++ input_bytes d s a (length p) ++ (p ++ rest)) ≡ made (Input d s a)
  unfolding input statuses_bytes input_bytes
  input-read d s a hs ha hr four many =
      simp append_assoc
      (rw (
        number-le 8 (length rs) (omega arith),
        le-ltb most_players (length rs) four,
        reports-bytes rs [] hr,
        flag-bytes d,
        frame-bytes s hs,
        frame-bytes a ha,
        number-le 8 (length p) (omega arith),
        le-ltb most_payload (length p) many,
        part-append (length p) p rest refl,
      ))

  pub body_read : (body : MessageBody) → FitsBody body → FitsReports rs → length rs ≤ most_players → length p ≤ most_payload
      → (is_input body ≡ false → (rs ≡ []) × (p ≡ []))
      → kinds (kind_of body) magic (body_bytes body rs (length p) ++ (p ++ rest)) ≡ made body
  unfolding kinds kind_of body_bytes is_input
  body_read (SyncRequest n) h hr four many none = rw ((none refl).0, (none refl).1, number-le 4 n h)
  body_read (SyncReply n) h hr four many none = rw ((none refl).0, (none refl).1, number-le 4 n h)
  body_read (Input d s a) h hr four many none = input-read d s a h.0 h.1 hr four many
  body_read (InputAck a) h hr four many none = rw ((none refl).0, (none refl).1, frame-bytes a h)
  body_read (QualityReport a x) h hr four many none =
      rw ((none refl).0, (none refl).1, append_assoc, advantage-bytes a h.0, wide-bytes x h.1)
  body_read (QualityReply x) h hr four many none = rw ((none refl).0, (none refl).1, wide-bytes x h)
  body_read (ChecksumReport x f) h hr four many none =
      rw ((none refl).0, (none refl).1, append_assoc, wide-bytes x h.0, frame-bytes f h.1)
  body_read KeepAlive h hr four many none = rw ((none refl).0, (none refl).1)
