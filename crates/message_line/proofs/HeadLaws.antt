-- The line of a datagram, up to its payload and with it, from what reading the datagram gives.
use borrow.Author.Tests.{eq-eqb, ne_eqb}
use mathlib.Core.Path.{◌≡◌, refl, ◌∙◌, ap}
use mathlib.Core.Bool.{Bool}
use mathlib.Core.List.{List, ◌++◌, append-nil}
use Prim.Native.Nat.{ℕ}
use lib.Dec.{eqb}
use lib.ListN.{length}
use Rattle.base.specs.Pick.{pick}
use Rattle.answer.specs.Number.{refusal_number}
use Rattle.answer.specs.declared.Refusal.{Refusal}
use Rattle.answer.proofs.Refused.{not_done}
use Rattle.text.specs.Decimal.{decimal_of}
use Rattle.text.specs.Hex.{hex_of}
use Rattle.codec.specs.Message.{Wire, report_list, meant}
use Rattle.codec.specs.Read.{Reading, got, fault, datagram, number_in, wire_in}
use Rattle.codec.specs.Calls.{payload_in, MessageAs}
use Rattle.codec.proofs.Meant.{meant_magic, meant_body, meant-reports}
use Rattle.codec.specs.declared.StatusReport.{StatusReport}
use Rattle.codec.specs.declared.Message.{Message}
use Rattle.codec.specs.declared.MessageBody.{MessageBody}
use Rattle.codec.specs.declared.MessageBody.TheVariants.{SyncRequest, SyncReply, Input, InputAck, QualityReport, QualityReply, ChecksumReport, KeepAlive}
use Rattle.text.specs.Ascii.{ascii}
use Rattle.message_line.specs.Line.{fields_text, head_text, wire_line, refused_line, line_of}
use Rattle.message_line.specs.Head.{head_of}

-- the statuses are looked at in an Input alone
fields_same : (body : MessageBody) (rs qs : List StatusReport) (n : ℕ) → ((d : Bool) (s a : ℕ) → body ≡ Input d s a → rs ≡ qs)
    → fields_text body rs n ≡ fields_text body qs n
unfolding fields_text
fields_same (SyncRequest x) rs qs n h = refl
fields_same (SyncReply x) rs qs n h = refl
fields_same (Input d s a) rs qs n h = rw (h d s a refl)
fields_same (InputAck a) rs qs n h = refl
fields_same (QualityReport a p) rs qs n h = refl
fields_same (QualityReply p) rs qs n h = refl
fields_same (ChecksumReport x f) rs qs n h = refl
fields_same KeepAlive rs qs n h = refl

-- the head of a message struct is that of what it stands for
abbrev head_in : Wire → ℕ → List ℕ
head_in w n = head_text w.magic w.body w.reports n

head-meant : (m : Message) (payload : List ℕ) (n : ℕ) → head_text m.magic m.body (report_list m.reports) n ≡ head_in (meant m payload) n
unfolding head_text
head-meant m payload n =
    rw (
      meant_magic m payload,
      meant_body m payload,
      fields_same m.body (meant m payload).reports (report_list m.reports) n (λ d s a e. meant-reports m payload d s a e),
    )

module _ (d : List ℕ) (n : ℕ) where
  pub refused_head : (r : Refusal) → datagram d ≡ fault (refusal_number r) → ascii "refused " ++ decimal_of (refusal_number r) ≡ head_of d n
  unfolding head_of refused_line
  refused_head r e = rw (e, ne_eqb _ 0 (not_done r))

  pub read_head : (m : Message) → MessageAs d m → head_text m.magic m.body (report_list m.reports) n ≡ head_of d n
  unfolding head_of
  read_head m e = rw (eq-eqb _ 0 e.reads) (head-meant m (payload_in d) n ∙ ap (λ (w : Wire). head_in w n) e.message)

-- what is refused has no payload
whole : (g : Reading Wire)
    → pick (eqb (number_in g) 0) (head_in (wire_in g) (length (wire_in g).payload)) (refused_line (number_in g)) ++ hex_of (wire_in g).payload
    ≡ pick (eqb (number_in g) 0) (wire_line (wire_in g)) (refused_line (number_in g))
unfolding wire_line hex_of
whole (got w left) = refl
whole (fault n) = rw (append-nil (head_in (wire_in (fault n)) 0)) (append-nil _)

pub line_parts : (d : List ℕ) → head_of d (length (payload_in d)) ++ hex_of (payload_in d) ≡ line_of d
unfolding head_of line_of
line_parts d = whole (datagram d)
