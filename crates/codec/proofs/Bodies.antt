-- A body that is known: the room that its fields have, and what putting them says of the message.
use mathlib.Core.Path.{◌≡◌}
use mathlib.Core.List.{List, []}
use Prim.Native.Nat.{ℕ, ◌+◌, ◌≤◌}
use native.Mathlib.Omega.{arith}
use lib.ListN.{length}
use Rattle.base.specs.Pick.{pick}
use Rattle.codec.specs.Message.{FitsBody, FitsReports, is_input, report_list, meant}
use Rattle.codec.specs.Bytes.{body_bytes}
use Rattle.codec.specs.Put.{PutAs, BodyPut}
use Rattle.codec.specs.declared.StatusReport.{StatusReport}
use Rattle.codec.specs.declared.Message.{Message}
use Rattle.codec.specs.declared.MessageBody.{MessageBody}

pub fits_none : FitsReports []
fits_none i d h = absurd (omega arith)

-- the reports of a message, where its body is known
abbrev pub reports_for : Message → MessageBody → List StatusReport
reports_for m body = pick (is_input body) (report_list m.reports) []

module _ (m : Message) (n : ℕ) (b : List ℕ) (at : ℕ) (body : MessageBody) (e : m.body ≡ body) where
  pub room_as : at + length (body_bytes m.body (meant m []).reports n) ≤ length b → at + length (body_bytes body (reports_for m body) n) ≤ length b
  unfolding meant
  room_as h = rw e at h

  pub body_put : (r : ℕ) (b' : List ℕ) → PutAs b at (body_bytes body (reports_for m body) n) r b' → FitsBody body → FitsReports (reports_for m body)
      → BodyPut m n b at r b'
  unfolding meant
  body_put r b' p f g = record { put = rw e p; fits = rw e f; frames = rw e g }
