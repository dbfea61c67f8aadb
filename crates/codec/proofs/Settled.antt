-- Two answers that a contract allows are equal, by name for each public function. The one exception: what a status array, of a message
-- that was read or an empty one, holds past the count is left open (`read_open`).
use mathlib.Core.Path.{◌≡◌, refl, sym, ◌∙◌, ap}
use mathlib.Core.Bool.{Bool, true, false}
use mathlib.Core.List.{List, [], ◌∷◌}
use Prim.Native.Nat.{ℕ}
use Rattle.base.specs.Little.{unle}
use Rattle.base.specs.Pick.{pick}
use Rattle.std.specs.Prelude.{Result, Ok, Err}
use Rattle.answer.specs.Number.{refusal_number}
use Rattle.answer.specs.declared.Refusal.{Refusal}
use Rattle.answer.proofs.Number.{number_determines}
use Rattle.answer.proofs.Refused.{not_done}
use Rattle.codec.specs.Message.{Wire, Reports, kind_of, is_input, report_list, meant}
use Rattle.codec.specs.Read.{part, number, kinds, message, datagram, number_in, wire_in}
use Rattle.codec.specs.Calls.{shown_size, size_as, LaidAs, WrittenAs, HeadAs, MessageAs, ReadAs, PayloadAs, message_end}
use Rattle.codec.specs.declared.StatusReport.{StatusReport}
use Rattle.codec.specs.declared.Message.{Message}
use Rattle.codec.specs.declared.MessageBody.{MessageBody}
use Rattle.codec.specs.declared.MessageBody.TheVariants.{KeepAlive}

pub kind_of_settled : (body : MessageBody) (r s : ℕ) → r ≡ kind_of body → s ≡ kind_of body → r ≡ s
kind_of_settled body r s e f = e ∙ sym f

-- a refusal's number determines it
refusal_determines : {A : Type 0} (e f : Refusal) → refusal_number e ≡ refusal_number f → ◌≡◌ {A = Result A Refusal} (Err e) (Err f)
refusal_determines e f q = ap (λ (a : Result Unit Refusal). refused e a) (number_determines (Err e) (Err f) q)
  where
    refused : {A : Type 0} → Refusal → Result Unit Refusal → Result A Refusal
    refused d (Ok u) = Err d
    refused d (Err e) = Err e

size_determines : (r s : Result ℕ Refusal) → shown_size r ≡ shown_size s → r ≡ s
size_determines (Ok a) (Ok b) e = ap Ok (ap (λ (p : ℕ × ℕ). p.1) e)
size_determines (Ok a) (Err f) e = absurd (not_done f (sym (ap (λ (p : ℕ × ℕ). p.0) e)))
size_determines (Err e) (Ok b) q = absurd (not_done e (ap (λ (p : ℕ × ℕ). p.0) q))
size_determines (Err e) (Err f) q = refusal_determines e f (ap (λ (p : ℕ × ℕ). p.0) q)

pub size_of_settled : (m : Message) (n : ℕ) (r s : Result ℕ Refusal) → shown_size r ≡ size_as m n → shown_size s ≡ size_as m n → r ≡ s
size_of_settled m n r s e f = size_determines r s (e ∙ sym f)

-- both writers: the answer and the lent buffer
module _ (buffer' buffer'' : List ℕ) where
  laid_settled : (buffer : List ℕ) (at refusal : ℕ) (w : Wire) (piece : List ℕ) (r s : Result ℕ Refusal) → LaidAs buffer at refusal w piece r buffer'
      → LaidAs buffer at refusal w piece s buffer'' → (r ≡ s) × (buffer' ≡ buffer'')
  laid_settled buffer at refusal w piece (Ok a) (Ok b) x y = (ap Ok (x.end ∙ sym y.end), x.lent ∙ sym y.lent)
  laid_settled buffer at refusal w piece (Ok a) (Err f) x y = absurd (not_done f (sym y.0 ∙ x.done))
  laid_settled buffer at refusal w piece (Err e) (Ok b) x y = absurd (not_done e (sym x.0 ∙ y.done))
  laid_settled buffer at refusal w piece (Err e) (Err f) x y = (refusal_determines e f (sym x.0 ∙ y.0), x.1 ∙ sym y.1)

  module _ (r s : Result ℕ Refusal) where
    pub write_settled : (buffer : List ℕ) (at : ℕ) (m : Message) (payload : List ℕ) → WrittenAs buffer at m payload r buffer'
        → WrittenAs buffer at m payload s buffer'' → (r ≡ s) × (buffer' ≡ buffer'')
    write_settled buffer at m payload = laid_settled buffer at _ _ _ r s

    pub write_head_settled : (buffer : List ℕ) (at : ℕ) (m : Message) (n : ℕ) → HeadAs buffer at m n r buffer' → HeadAs buffer at m n s buffer''
        → (r ≡ s) × (buffer' ≡ buffer'')
    write_head_settled buffer at m n = laid_settled buffer at _ _ _ r s

pub no_reports_settled : (r s : Reports) → r.count ≡ 0 → s.count ≡ 0 → (report_list r ≡ report_list s) × (r.count ≡ s.count)
no_reports_settled r s e f = (rw (e, f), e ∙ sym f)

-- the list of a message that was read: what its array holds below the count
read_list : (d : List ℕ) (m : Message) → MessageAs d m → report_list m.reports ≡ (wire_in (datagram d)).reports
unfolding meant
read_list d m x = by_kind (is_input m.body) (ap (λ (w : Wire). w.reports) x.message)
  where
    rs : List StatusReport
    rs = (wire_in (datagram d)).reports

    by_kind : (t : Bool) → pick t (report_list m.reports) [] ≡ rs → report_list m.reports ≡ rs
    by_kind true e = e
    by_kind false e = rw (x.count, ← e)

-- two answers of a reader are the same refusal, or messages with the same fields and the same reports
abbrev pub SameRead : Result Message Refusal → Result Message Refusal → Type 0
SameRead (Ok m) (Ok n) =
    (m.magic ≡ n.magic) × (m.body ≡ n.body) × (report_list m.reports ≡ report_list n.reports) × (m.reports.count ≡ n.reports.count)
SameRead (Ok m) (Err f) = ⊥
SameRead (Err e) (Ok n) = ⊥
SameRead (Err e) (Err f) = e ≡ f

pub read_settled : (d : List ℕ) (r s : Result Message Refusal) → ReadAs d r → ReadAs d s → SameRead r s
unfolding meant
read_settled d (Ok m) (Ok n) x y = (
  ap (λ (w : Wire). w.magic) (x.message ∙ sym y.message),
  ap (λ (w : Wire). w.body) (x.message ∙ sym y.message),
  read_list d m x ∙ sym (read_list d n y),
  x.count ∙ sym y.count,
)
read_settled d (Ok m) (Err f) x y = not_done f (sym (ap number_in y) ∙ x.reads)
read_settled d (Err e) (Ok n) x y = not_done e (sym (ap number_in x) ∙ y.reads)
read_settled d (Err e) (Err f) x y = same (refusal_determines {A = Unit} e f (ap number_in (sym x ∙ y)))
  where
    same : ◌≡◌ {A = Result Unit Refusal} (Err e) (Err f) → e ≡ f
    same q = cc

-- and no more: any list beside a KeepAlive is allowed
pub read_open : (l : List StatusReport)
    → ReadAs (0 ∷ 0 ∷ 7 ∷ 0 ∷ 0 ∷ 0 ∷ []) (Ok (record { magic = 0; body = KeepAlive; reports = record { list = l; count = 0 } }))
unfolding datagram message kinds number part unle meant is_input
read_open l = record { reads = refl; message = refl; count = refl }

pub payload_of_settled : (d r s : List ℕ) → PayloadAs d r → PayloadAs d s → r ≡ s
payload_of_settled d r s x y = x.payload ∙ sym y.payload

pub message_end_settled : (queue : List ℕ) (at r s : ℕ) → r ≡ message_end queue at → s ≡ message_end queue at → r ≡ s
message_end_settled queue at r s e f = e ∙ sym f
