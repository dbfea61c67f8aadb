-- The steps of every call leave the events and the queue to its end; all but a reply's leave the replies still to come, and all but a report's the checksums stored.
use mathlib.Core.Bool.{Bool, true, false}
use mathlib.Core.List.{List, [], ◌∷◌}
use mathlib.Core.Logic.{◌⊎◌, inl, inr}
use mathlib.Core.Path.{◌≡◌, refl, ◌∙◌, ap}
use Prim.Native.Nat.{ℕ}
use lib.Dec.{ltb, leb}
use lib.ListN.{length}
use Rattle.packing.specs.declared.input_bytes.InputBytes.{InputBytes}
use Rattle.status.specs.declared.ConnectionStatus.{ConnectionStatus}
use Rattle.checksums.specs.declared.Checksum.{Checksum}
use Rattle.codec.specs.Message.{Wire}
use Rattle.codec.specs.declared.StatusReport.{StatusReport}
use Rattle.codec.specs.declared.Wide.{Wide}
use Rattle.codec.specs.declared.MessageBody.{MessageBody}
use Rattle.codec.specs.declared.MessageBody.TheVariants.{SyncRequest, SyncReply, Input, InputAck, QualityReport, QualityReply, ChecksumReport, KeepAlive}
use Rattle.events.specs.declared.Entry.{Entry}
use Rattle.endpoint_rules.specs.declared.Phase.{Phase}
use Rattle.endpoint_rules.specs.declared.Phase.TheVariants.{Initializing, Synchronizing, Running, Disconnected, Shutdown}
use Rattle.endpoint_rules.specs.Seen.{Seen}
use Rattle.endpoint_rules.specs.Did.{Effect, begin, queue_wire}
use Rattle.endpoint_rules.specs.Handshake.{request, nonce_issued, counted, running, replied, on_sync_request, on_sync_reply}
use Rattle.endpoint_rules.specs.Sending.{acknowledged, accepted, announces_most, pending_queued, input_sent}
use Rattle.endpoint_rules.specs.Receiving.{input_message, Reception, announces, noted, acks_queued, statuses_merged, informed, inputs_received, input_taken, input_unless, on_input, on_input_ack}
use Rattle.endpoint_rules.specs.Act.{request_due, resend_due, report_due, keep_alive_due, interruption_due, disconnect_due, resent, report_sent, kept_alive, interrupted, timed_out, acted}
use Rattle.endpoint_rules.specs.Reports.{report_queued, remote_advantage, round_trip_noted, on_quality_report, on_quality_reply}
use Rattle.endpoint_rules.specs.Checksum.{on_checksum_report}
use Rattle.endpoint_rules.specs.Step.{resumes, resumed, heard, on_body}

abbrev pub left : Seen → List Entry × ℕ × ℕ × List Checksum
left s = (s.events, s.queued, s.sync.remaining, s.checksums)

abbrev pub Leaves : Effect → Effect → Type 0
Leaves e f = left f.state ≡ left e.state

-- the events and the queue are booked at the end of a call
abbrev pub booked : Seen → List Entry × ℕ
booked s = (s.events, s.queued)

module _ {p q : List Entry × ℕ × ℕ × List Checksum} (h : p ≡ q) where
  pub books : ◌≡◌ {A = List Entry × ℕ} (p.0, p.1) (q.0, q.1)
  books = ap (λ (x : List Entry × ℕ × ℕ × List Checksum). (x.0, x.1)) h

  pub counts : p.2 ≡ q.2
  counts = ap (λ (x : List Entry × ℕ × ℕ × List Checksum). x.2) h

  pub stores : p.3 ≡ q.3
  stores = ap (λ (x : List Entry × ℕ × ℕ × List Checksum). x.3) h

pub by_cases : (b : Bool) (P : Type 0) → (b ≡ true → P) → (b ≡ false → P) → P
by_cases true P f g = f refl
by_cases false P f g = g refl

-- ---- act
module _ (now : ℕ) where
  pending_leaves : (statuses : List ConnectionStatus) (l : List InputBytes) (e : Effect) → Leaves e (pending_queued now statuses l e)
  unfolding pending_queued queue_wire
  pending_leaves statuses [] e = refl
  pending_leaves statuses (x ∷ xs) e = refl

  resent_leaves : (statuses : List ConnectionStatus) (e : Effect) → Leaves e (resent now statuses e)
  unfolding resent
  resent_leaves statuses e = by_cases (resend_due now e.state) (Leaves e (resent now statuses e)) (λ h. rw h (pending_leaves statuses e.state.carried.sender.pending e)) (λ h. rw h)

  reported_leaves : (epoch : ℕ) (e : Effect) → Leaves e (report_sent now epoch e)
  unfolding report_sent report_queued queue_wire
  reported_leaves epoch e = by_cases (report_due now e.state) (Leaves e (report_sent now epoch e)) (λ h. rw h) (λ h. rw h)

  alive_leaves : (e : Effect) → Leaves e (kept_alive now e)
  unfolding kept_alive queue_wire
  alive_leaves e = by_cases (keep_alive_due now e.state) (Leaves e (kept_alive now e)) (λ h. rw h) (λ h. rw h)

  interrupted_leaves : (e : Effect) → Leaves e (interrupted now e)
  unfolding interrupted
  interrupted_leaves e = by_cases (interruption_due now e.state) (Leaves e (interrupted now e)) (λ h. rw h) (λ h. rw h)

  timed_leaves : (e : Effect) → Leaves e (timed_out now e)
  unfolding timed_out
  timed_leaves e = by_cases (disconnect_due now e.state) (Leaves e (timed_out now e)) (λ h. rw h) (λ h. rw h)

  pub request_leaves : (nonce : ℕ) (e : Effect) → Leaves e (request now nonce e)
  unfolding request nonce_issued queue_wire
  request_leaves nonce e = refl

  pub acted_leaves : (p : Phase) (epoch nonce : ℕ) (statuses : List ConnectionStatus) (e : Effect) → Leaves e (acted p now epoch nonce statuses e)
  unfolding acted
  acted_leaves Initializing epoch nonce statuses e = refl
  acted_leaves Synchronizing epoch nonce statuses e = by_cases (request_due now e.state) (Leaves e (acted Synchronizing now epoch nonce statuses e)) (λ h. rw h (request_leaves nonce e)) (λ h. rw h)
  acted_leaves Running epoch nonce statuses e =
      let r = resent now statuses e in
      let p = report_sent now epoch r in
      let k = kept_alive now p in
      timed_leaves (interrupted now k) ∙ interrupted_leaves k ∙ alive_leaves p ∙ reported_leaves epoch r ∙ resent_leaves statuses e
  acted_leaves Disconnected epoch nonce statuses e = by_cases (ltb e.state.clocks.shutdown_timeout now) (Leaves e (acted Disconnected now epoch nonce statuses e)) (λ h. rw h) (λ h. rw h)
  acted_leaves Shutdown epoch nonce statuses e = refl

-- ---- sending
many_leaves : (e : Effect) → Leaves e (announces_most e)
unfolding announces_most
many_leaves e = by_cases (leb 129 (length e.state.carried.sender.pending)) (Leaves e (announces_most e)) (λ h. rw h) (λ h. rw h)

pub sent_leaves : (now frame : ℕ) (bytes : List ℕ) (statuses : List ConnectionStatus) (e : Effect) → Leaves e (input_sent now frame bytes statuses e)
unfolding input_sent accepted
sent_leaves now frame bytes statuses e = pending_leaves now statuses _ _ ∙ many_leaves _

-- ---- messages
pub heard_leaves : (now : ℕ) (s : Seen) → Leaves (begin s) (heard now s)
unfolding heard resumed
heard_leaves now s = by_cases (resumes s) (Leaves (begin s) (heard now s)) (λ h. rw h) (λ h. rw h)

replied_leaves : (now nonce magic reply : ℕ) (c m : Bool) (e : Effect)
    → let s = (replied now nonce magic reply c m e).effect.state in (booked s ≡ booked e.state) × (s.checksums ≡ e.state.checksums)
unfolding replied request nonce_issued queue_wire counted running
replied_leaves now nonce magic reply false m e = (refl, refl)
replied_leaves now nonce magic reply true true e = (refl, refl)
replied_leaves now nonce magic reply true false e = (refl, refl)

informed_leaves : (d : Bool) (reports : List StatusReport) (e : Effect) → Leaves e (informed d reports e)
unfolding informed statuses_merged
informed_leaves true reports e = by_cases (announces e.state) (Leaves e (informed true reports e)) (λ h. rw h) (λ h. rw h)
informed_leaves false reports e = refl

acks_leave : (now : ℕ) (acks : List ℕ) (e : Effect) → Leaves e (acks_queued now acks e)
unfolding queue_wire
acks_leave now [] e = refl
acks_leave now (a ∷ as') e = acks_leave now as' _

noted_leaves : (now : ℕ) (b : Bool) (s : Seen) → left (noted now b s) ≡ left s
noted_leaves now true s = refl
noted_leaves now false s = refl

received_leaves : (now : ℕ) (g : Reception) (e : Effect) → Leaves e (inputs_received now g e)
unfolding inputs_received
received_leaves now g e = acks_leave now g.acks _ ∙ noted_leaves now g.held e.state

input_leaves : (b : Bool) (now : ℕ) (d : Bool) (start ack : ℕ) (reports : List StatusReport) (payload : List ℕ) (e : Effect)
    → Leaves e (input_unless b now (input_message d start ack reports payload) e).effect
unfolding input_unless input_taken acknowledged
input_leaves true now d start ack reports payload e = refl
input_leaves false now d start ack reports payload e = received_leaves now _ _ ∙ informed_leaves d reports _

abbrev pub Reply : MessageBody → Type 0
Reply body = (reply : ℕ) × (body ≡ SyncReply reply)

abbrev pub Report : MessageBody → Type 0
Report body = (checksum : Wide) × (frame : ℕ) × (body ≡ ChecksumReport checksum frame)

-- a report leaves all but the checksums
pub report_leaves : (frame : ℕ) (checksum : Wide) (e : Effect)
    → let s = (on_checksum_report frame checksum e).effect.state in (booked s ≡ booked e.state) × (s.sync.remaining ≡ e.state.sync.remaining)
unfolding on_checksum_report
report_leaves frame checksum e = (refl, refl)

pub body_leaves : (body : MessageBody) (count : ℕ) (w : Wire) (now epoch nonce : ℕ) (e : Effect)
    → Reply body ⊎ (Report body ⊎ Leaves e (on_body body count w now epoch nonce e).effect)
unfolding on_body on_sync_request on_input on_input_ack acknowledged on_quality_report remote_advantage on_quality_reply round_trip_noted queue_wire
body_leaves (SyncRequest asked) count w now epoch nonce e = inr (inr refl)
body_leaves (SyncReply reply) count w now epoch nonce e = inl (reply, refl)
body_leaves (Input d start ack) count w now epoch nonce e = inr (inr (input_leaves _ now d start ack w.reports w.payload e))
body_leaves (InputAck ack) count w now epoch nonce e = inr (inr refl)
body_leaves (QualityReport a p) count w now epoch nonce e = inr (inr refl)
body_leaves (QualityReply p) count w now epoch nonce e = inr (inr refl)
body_leaves (ChecksumReport x f) count w now epoch nonce e = inr (inl (x, f, refl))
body_leaves KeepAlive count w now epoch nonce e = inr (inr refl)

-- every other leaves the checksums
pub body_stores : (body : MessageBody) (count : ℕ) (w : Wire) (now epoch nonce : ℕ) (e : Effect) → Report body ⊎ ((on_body body count w now epoch nonce e).effect.state.checksums ≡ e.state.checksums)
unfolding on_body on_sync_reply
body_stores body count w now epoch nonce e = go (body_leaves body count w now epoch nonce e)
  where
    go : Reply body ⊎ (Report body ⊎ Leaves e (on_body body count w now epoch nonce e).effect) → Report body ⊎ ((on_body body count w now epoch nonce e).effect.state.checksums ≡ e.state.checksums)
    go (inl r) = inr (rw r.1 (replied_leaves now nonce w.magic r.0 _ _ e).1)
    go (inr (inl r)) = inl r
    go (inr (inr l)) = inr (stores l)

pub message_books : (count : ℕ) (w : Wire) (now epoch nonce : ℕ) (s : Seen) → booked (on_body w.body count w now epoch nonce (heard now s)).effect.state ≡ booked s
unfolding on_body on_sync_reply
message_books count w now epoch nonce s = go (body_leaves w.body count w now epoch nonce (heard now s)) ∙ books (heard_leaves now s)
  where
    go : Reply w.body ⊎ (Report w.body ⊎ Leaves (heard now s) (on_body w.body count w now epoch nonce (heard now s)).effect)
        → booked (on_body w.body count w now epoch nonce (heard now s)).effect.state ≡ booked (heard now s).state
    go (inl r) = rw r.1 (replied_leaves now nonce w.magic r.0 _ _ (heard now s)).0
    go (inr (inl r)) = rw r.2 (report_leaves r.1 r.0 (heard now s)).0
    go (inr (inr l)) = books l
