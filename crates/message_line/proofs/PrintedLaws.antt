-- A line has no newline in it, whatever the datagram.
use borrow.Author.Tests.{leb-true}
use mathlib.Core.Path.{◌≡◌, refl}
use mathlib.Core.Bool.{Bool, true, false}
use mathlib.Core.List.{List, [], ◌∷◌, ◌++◌}
use Prim.Native.Nat.{ℕ, zero, suc, ◌+◌, ◌-◌, ◌/◌, ◌%◌, ◌<◌, ◌≤◌}
use Prim.Native.String.{String}
use native.Mathlib.Omega.{arith}
use lib.Dec.{T, ltb, leb, eqb}
use lib.ListN.{length, get_or}
use Rattle.base.specs.Pick.{pick}
use Rattle.base.proofs.Lines.{each_append}
use Rattle.frame.specs.Bias.{bias32, bias16}
use Rattle.text.specs.Decimal.{decimal_of, signed_of}
use Rattle.text.specs.Hex.{hex_digit, hex_of}
use Rattle.text.proofs.DecimalLaws.{decimal_digits}
use Rattle.codec.specs.Message.{Wire}
use Rattle.codec.specs.Read.{datagram, number_in, wire_in}
use Rattle.codec.specs.declared.StatusReport.{StatusReport}
use Rattle.codec.specs.declared.MessageBody.{MessageBody}
use Rattle.codec.specs.declared.MessageBody.TheVariants.{SyncRequest, SyncReply, Input, InputAck, QualityReport, QualityReply, ChecksumReport, KeepAlive}
use Rattle.text.specs.Ascii.{ascii}
use Rattle.message_line.specs.Printed.{Printed}
use Rattle.message_line.specs.Line.{frame_text, field, report_text, reports_text, bytes_text, kind_name, fields_text, head_text, wire_line, refused_line, line_of}

none : Printed []
none = record { each = λ i h. absurd (omega arith) }

one_more : {b : ℕ} {l : List ℕ} → 32 ≤ b → Printed l → Printed (b ∷ l)
one_more {b} {l} h p = record { each = each }
  where
    each : (i : ℕ) → i < length (b ∷ l) → 32 ≤ get_or (b ∷ l) i 0
    each zero k = h
    each (suc i) k = p.each i (omega arith)

join : {l m : List ℕ} → Printed l → Printed m → Printed (l ++ m)
join {l} {m} p q = record { each = each_append (λ (b : ℕ). 32 ≤ b) 0 l m p.each q.each }

-- of a word, by a test that computes
printedb : List ℕ → Bool
printedb [] = true
printedb (b ∷ l) = pick (leb 32 b) (printedb l) false

both_true : (x y : Bool) → T (pick x y false) → (x ≡ true) × T y
both_true true y t = (refl, t)
both_true false y t = absurd t

tested : (l : List ℕ) → T (printedb l) → Printed l
unfolding printedb
tested [] t = none
tested (b ∷ l) t = let k = both_true (leb 32 b) (printedb l) t in one_more (leb-true 32 b k.0) (tested l k.1)

space : Printed (ascii " ")
unfolding ascii printedb
space = tested (ascii " ") tt

-- of a value
decimal_printed : (n : ℕ) → Printed (decimal_of n)
decimal_printed n = record { each = λ i h. omega (arith, (decimal_digits n i h).0) }

signed_printed : (bias n : ℕ) → Printed (signed_of bias n)
unfolding signed_of
signed_printed bias n =
    elim (leb bias n) as (λ b. Printed (pick b (decimal_of (n - bias)) (45 ∷ decimal_of (bias - n))))
    [ true ↦ decimal_printed (n - bias) | false ↦ one_more (omega arith) (decimal_printed (bias - n)) ]

digit_printed : (n : ℕ) → 32 ≤ hex_digit n
unfolding hex_digit
digit_printed n = elim (ltb n 10) as (λ b. 32 ≤ pick b (48 + n) (87 + n)) [ true ↦ omega arith | false ↦ omega arith ]

hex_printed : (bs : List ℕ) → Printed (hex_of bs)
unfolding hex_of
hex_printed [] = none
hex_printed (b ∷ bs) = one_more (digit_printed (b / 16)) (one_more (digit_printed (b % 16)) (hex_printed bs))

field_printed : {value : List ℕ} (name : String) → T (printedb (ascii name)) → Printed value → Printed (field name value)
unfolding field
field_printed name t p = join (join (join space (tested (ascii name) t)) space) p

-- of the parts of a line
report_printed : (r : StatusReport) → Printed (report_text r)
unfolding report_text ascii printedb
report_printed r =
    elim r.disconnected as (λ b. Printed (field (pick b "disconnected" "connected") (frame_text r.last_frame)))
    [ true ↦ field_printed "disconnected" tt (signed_printed _ _) | false ↦ field_printed "connected" tt (signed_printed _ _) ]

reports_printed : (rs : List StatusReport) → Printed (reports_text rs)
unfolding reports_text
reports_printed [] = none
reports_printed (r ∷ rs) = join (report_printed r) (reports_printed rs)

flag_printed : (b : Bool) → Printed (ascii (pick b "true" "false"))
unfolding ascii printedb
flag_printed true = tested (ascii "true") tt
flag_printed false = tested (ascii "false") tt

bytes_printed : (n : ℕ) → Printed (bytes_text n)
unfolding bytes_text ascii printedb
bytes_printed n =
    join (field_printed "bytes" tt (decimal_printed n)) (elim (eqb n 0) as (λ b. Printed (pick b [] (ascii " "))) [ true ↦ none | false ↦ space ])

name_printed : (body : MessageBody) → Printed (ascii (kind_name body))
unfolding kind_name ascii printedb
name_printed (SyncRequest x) = tested (ascii "SyncRequest") tt
name_printed (SyncReply x) = tested (ascii "SyncReply") tt
name_printed (Input d s a) = tested (ascii "Input") tt
name_printed (InputAck a) = tested (ascii "InputAck") tt
name_printed (QualityReport a p) = tested (ascii "QualityReport") tt
name_printed (QualityReply p) = tested (ascii "QualityReply") tt
name_printed (ChecksumReport x f) = tested (ascii "ChecksumReport") tt
name_printed KeepAlive = tested (ascii "KeepAlive") tt

fields_printed : (body : MessageBody) (rs : List StatusReport) (n : ℕ) → Printed (fields_text body rs n)
unfolding fields_text ascii printedb
fields_printed (SyncRequest x) rs n = field_printed "nonce" tt (decimal_printed x)
fields_printed (SyncReply x) rs n = field_printed "nonce" tt (decimal_printed x)
fields_printed (Input d s a) rs n =
    join
    (join
    (join
    (join (join (field_printed "statuses" tt (decimal_printed (length rs))) (reports_printed rs)) (field_printed "disconnect" tt (flag_printed d)))
    (field_printed "start" tt (signed_printed bias32 s)))
    (field_printed "ack" tt (signed_printed bias32 a)))
    (bytes_printed n)
fields_printed (InputAck a) rs n = field_printed "ack" tt (signed_printed bias32 a)
fields_printed (QualityReport a p) rs n = join (field_printed "advantage" tt (signed_printed bias16 a)) (field_printed "ping" tt (decimal_printed _))
fields_printed (QualityReply p) rs n = field_printed "pong" tt (decimal_printed _)
fields_printed (ChecksumReport x f) rs n = join (field_printed "checksum" tt (decimal_printed _)) (field_printed "frame" tt (signed_printed bias32 f))
fields_printed KeepAlive rs n = none

wire_printed : (w : Wire) → Printed (wire_line w)
unfolding wire_line head_text ascii printedb
wire_printed w =
    join
    (join (join (name_printed w.body) (field_printed "magic" tt (decimal_printed w.magic))) (fields_printed w.body w.reports (length w.payload)))
    (hex_printed w.payload)

refused_printed : (n : ℕ) → Printed (refused_line n)
unfolding refused_line ascii printedb
refused_printed n = join (tested (ascii "refused ") tt) (decimal_printed n)

pub line_printed : (d : List ℕ) → Printed (line_of d)
unfolding line_of
line_printed d =
    elim (eqb (number_in (datagram d)) 0) as (λ b. Printed (pick b (wire_line (wire_in (datagram d))) (refused_line (number_in (datagram d)))))
    [ true ↦ wire_printed (wire_in (datagram d)) | false ↦ refused_printed (number_in (datagram d)) ]
