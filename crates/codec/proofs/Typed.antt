-- A message of the code's types has every field in its range. `Is` says that a value is what a machine value of its type means; every function knows that of its
-- parameters (`c.type_inv`) and of what a call hands back.
use mathlib.Core.Bool.{Bool, true, false}
use mathlib.Core.List.{List, [], ◌∷◌}
use Prim.Native.Nat.{ℕ, zero, suc, ◌^◌, ◌<◌}
use native.Mathlib.Omega.{arith}
use borrow.Author.Rules.{rules}
use denote.Laws.{Is}
use denote.Shadow.{shadow}
use denote.Array.{each}
use denote.Enum.Declared as Enum
use denote.Struct.Declared as Struct
use mir.Val.{Val}
use Rattle.base.specs.Little.{Bytes}
use Rattle.base.specs.Pick.{pick}
use Rattle.base.proofs.Arrays.{view_at, view_le}
use Rattle.codec.specs.Message.{FitsBody, FitsReports, is_input, report_list, meant}
use Rattle.codec.specs.declared.StatusReport.{StatusReport}
use Rattle.codec.specs.declared.Message.{Message}
use Rattle.codec.specs.declared.MessageBody.{MessageBody}
use Rattle.codec.specs.declared.MessageBody.TheVariants.{SyncRequest, SyncReply, Input, InputAck, QualityReport, QualityReply, ChecksumReport, KeepAlive}
use Rattle.codec.specs.contracts.StatusReport as StatusReport
use Rattle.codec.specs.contracts.MessageBody as MessageBody
use Rattle.codec.specs.contracts.Message as Message
use Rattle.codec.proofs.Octets.{bytes_none}

body_typed : (b : MessageBody) (vs : List Val) → Is (Enum.row MessageBody.the_type) b vs → FitsBody b
body_typed (SyncRequest nonce) vs h = search rules
body_typed (SyncReply nonce) vs h = search rules
body_typed (Input d s a) vs h = search rules
body_typed (InputAck ack) vs h = search rules
body_typed (QualityReport a ping) vs h = search rules
body_typed (QualityReply pong) vs h = search rules
body_typed (ChecksumReport x f) vs h = search rules
body_typed KeepAlive vs h = tt

-- the reports of an array, one by one
reports_typed : (l : List StatusReport) (us : List Val) → shadow (each _ (StatusReport.the_row).own_val l us) → FitsReports l
reports_typed [] us h i d k = absurd (omega arith)
reports_typed (x ∷ l) [] h i d k = absurd h
reports_typed (x ∷ l) (u ∷ us) h zero d k = search rules
reports_typed (x ∷ l) (u ∷ us) h (suc i) d k = reports_typed l us h.1 i d (omega arith)

module _ (m : Message) (vs : List Val) (h : Is (Struct.row Message.the_type) m vs) where
  listed_typed : FitsReports (report_list m.reports)
  listed_typed i d k =
      let l = m.reports.list in
      rw (view_at m.reports.count l i d k) (reports_typed l _ h.1.1.1.1.0.1.1.0.1.1 i d (omega (arith, view_le m.reports.count l)))

  -- what it stands for, whatever its counts are; the payload beside it is bytes
  pub message_typed : (payload : List ℕ) → Bytes payload
      → ((meant m payload).magic < 2 ^ 16) × FitsBody (meant m payload).body × FitsReports (meant m payload).reports × Bytes (meant m payload).payload
  unfolding meant
  message_typed payload q =
      (search rules, body_typed m.body _ h.1.1.1.0, chosen (is_input m.body) (report_list m.reports) listed_typed, chosen_bytes (is_input m.body) payload q)
    where
      chosen : (t : Bool) (rs : List StatusReport) → FitsReports rs → FitsReports (pick t rs [])
      chosen true rs f = f
      chosen false rs f = λ i d k. absurd (omega arith)

      chosen_bytes : (t : Bool) (l : List ℕ) → Bytes l → Bytes (pick t l [])
      chosen_bytes true l f = f
      chosen_bytes false l f = bytes_none
