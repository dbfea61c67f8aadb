-- What the events that a call announces tell of the handshake: a reply that counts and is not the last tells five and how many have come, and nothing else tells a count.
use mathlib.Core.Bool.{Bool, true, false}
use mathlib.Core.List.{List, [], ◌∷◌, ◌++◌, append-nil, append_assoc}
use mathlib.Core.Logic.{◌⊎◌, inl, inr}
use mathlib.Core.Path.{◌≡◌, refl, sym, ◌∙◌, ap}
use Prim.Native.Nat.{ℕ, ◌-◌}
use lib.Dec.{ltb, leb}
use lib.ListN.{length}
use Rattle.packing.specs.declared.input_bytes.InputBytes.{InputBytes}
use Rattle.status.specs.Statuses.{held_statuses}
use Rattle.status.specs.declared.ConnectionStatus.{ConnectionStatus}
use Rattle.codec.specs.Message.{Wire}
use Rattle.codec.specs.declared.StatusReport.{StatusReport}
use Rattle.codec.specs.declared.MessageBody.{MessageBody}
use Rattle.codec.specs.declared.MessageBody.TheVariants.{SyncRequest, SyncReply, Input, InputAck, QualityReport, QualityReply, ChecksumReport, KeepAlive}
use Rattle.events.specs.Events.{without_input, input_entry, announced, announced_each}
use Rattle.events.specs.declared.Entry.{Entry}
use Rattle.events.specs.declared.Event.{Event}
use Rattle.endpoint_rules.specs.declared.Phase.{Phase}
use Rattle.endpoint_rules.specs.declared.Phase.TheVariants.{Initializing, Synchronizing, Running, Disconnected, Shutdown}
use Rattle.endpoint_rules.specs.Seen.{Seen}
use Rattle.endpoint_rules.specs.Did.{Did, Effect, refused, begin, queue_wire, done}
use Rattle.endpoint_rules.specs.Handshake.{nonce_issued, request, synchronized, counted, running, replied, on_sync_request, on_sync_reply}
use Rattle.endpoint_rules.specs.Sending.{announces_most, pending_queued, input_sent}
use Rattle.endpoint_rules.specs.Receiving.{input_message, Reception, announces, acks_queued, informed, inputs_received, input_taken, input_unless, on_input, on_input_ack}
use Rattle.endpoint_rules.specs.Act.{request_due, resend_due, report_due, keep_alive_due, interruption_due, disconnect_due, resent, report_sent, kept_alive, interrupted, timed_out, acted}
use Rattle.endpoint_rules.specs.Reports.{report_queued, on_quality_report, on_quality_reply}
use Rattle.endpoint_rules.specs.Checksum.{checksum_sent, on_checksum_report}
use Rattle.endpoint_rules.specs.Step.{resumes, resumed, heard, on_body, synchronize_step, message_step, datagram_step, act_step, send_step, disconnect_step, checksum_step, advantage_step, take_step, stats_step, status_step, step, reacted}
use Rattle.endpoint_rules.proofs.Tested.{tested-both, decided-both}
use Rattle.endpoint_invariant.specs.Each.{Each}
use Rattle.endpoint_invariant.proofs.Leaves.{by_cases, Reply}
use Rattle.endpoint_version.specs.Version.{Asked, call_of}
use Rattle.endpoint_ruled_out.specs.Unusable.{count_in, counts_in, TellsCount}

-- ---- steps that tell no count

abbrev told : Effect → List (ℕ × ℕ)
told e = counts_in e.events

counts-append : (l m : List Entry) → counts_in (l ++ m) ≡ counts_in l ++ counts_in m
unfolding counts_in
counts-append [] m = refl
counts-append (x ∷ l) m = ap (λ (r : List (ℕ × ℕ)). count_in x.event ++ r) (counts-append l m) ∙ sym (append_assoc (count_in x.event) (counts_in l) (counts_in m))

-- entries that tell none
more : (l m : List Entry) → counts_in m ≡ [] → counts_in (l ++ m) ≡ counts_in l
more l m h = counts-append l m ∙ rw (h, append-nil (counts_in l))

-- an event that tells none
other : (l : List Entry) (event : Event) → count_in event ≡ [] → counts_in (l ++ without_input event ∷ []) ≡ counts_in l
unfolding counts_in
other l event h = more l (without_input event ∷ []) (rw h)

-- inputs
frame_tells : (frame size : ℕ) (bytes handles : List ℕ) → counts_in (announced frame size bytes handles) ≡ []
unfolding counts_in announced input_entry
frame_tells frame size bytes [] = refl
frame_tells frame size bytes (h ∷ hs) = frame_tells frame size _ hs

frames_tell : (size : ℕ) (handles : List ℕ) (xs : List InputBytes) → counts_in (announced_each size handles xs) ≡ []
unfolding counts_in announced_each
frames_tell size handles [] = refl
frames_tell size handles (x ∷ xs) = counts-append (announced x.frame size x.bytes handles) _ ∙ rw (frame_tells x.frame size x.bytes handles, frames_tell size handles xs)

-- ---- act
module _ (now : ℕ) where
  pending_tells : (statuses : List ConnectionStatus) (l : List InputBytes) (e : Effect) → told (pending_queued now statuses l e) ≡ told e
  unfolding pending_queued queue_wire
  pending_tells statuses [] e = refl
  pending_tells statuses (x ∷ xs) e = refl

  resent_tells : (statuses : List ConnectionStatus) (e : Effect) → told (resent now statuses e) ≡ told e
  unfolding resent
  resent_tells statuses e = by_cases (resend_due now e.state) _ (λ h. rw h (pending_tells statuses e.state.carried.sender.pending e)) (λ h. rw h)

  reported_tells : (epoch : ℕ) (e : Effect) → told (report_sent now epoch e) ≡ told e
  unfolding report_sent report_queued queue_wire
  reported_tells epoch e = by_cases (report_due now e.state) _ (λ h. rw h) (λ h. rw h)

  alive_tells : (e : Effect) → told (kept_alive now e) ≡ told e
  unfolding kept_alive queue_wire
  alive_tells e = by_cases (keep_alive_due now e.state) _ (λ h. rw h) (λ h. rw h)

  interrupted_tells : (e : Effect) → told (interrupted now e) ≡ told e
  unfolding interrupted
  interrupted_tells e = by_cases (interruption_due now e.state) _ (λ h. rw h (other e.events _ refl)) (λ h. rw h)

  timed_tells : (e : Effect) → told (timed_out now e) ≡ told e
  unfolding timed_out
  timed_tells e = by_cases (disconnect_due now e.state) _ (λ h. rw h (other e.events _ refl)) (λ h. rw h)

  request_tells : (nonce : ℕ) (e : Effect) → told (request now nonce e) ≡ told e
  unfolding request queue_wire
  request_tells nonce e = refl

  acted_tells : (p : Phase) (epoch nonce : ℕ) (statuses : List ConnectionStatus) (e : Effect) → told (acted p now epoch nonce statuses e) ≡ told e
  unfolding acted
  acted_tells Initializing epoch nonce statuses e = refl
  acted_tells Synchronizing epoch nonce statuses e = by_cases (request_due now e.state) _ (λ h. rw h (request_tells nonce e)) (λ h. rw h)
  acted_tells Running epoch nonce statuses e =
      let r = resent now statuses e in
      let p = report_sent now epoch r in
      let k = kept_alive now p in
      timed_tells (interrupted now k) ∙ interrupted_tells k ∙ alive_tells p ∙ reported_tells epoch r ∙ resent_tells statuses e
  acted_tells Disconnected epoch nonce statuses e = by_cases (ltb e.state.clocks.shutdown_timeout now) _ (λ h. rw h) (λ h. rw h)
  acted_tells Shutdown epoch nonce statuses e = refl

-- ---- sending
many_tells : (e : Effect) → told (announces_most e) ≡ told e
unfolding announces_most
many_tells e = by_cases (leb 129 (length e.state.carried.sender.pending)) _ (λ h. rw h (other e.events _ refl)) (λ h. rw h)

sent_tells : (now frame : ℕ) (bytes : List ℕ) (statuses : List ConnectionStatus) (e : Effect) → told (input_sent now frame bytes statuses e) ≡ told e
unfolding input_sent
sent_tells now frame bytes statuses e = pending_tells now statuses _ _ ∙ many_tells _

-- ---- messages
heard_tells : (now : ℕ) (s : Seen) → told (heard now s) ≡ []
unfolding heard resumed counts_in
heard_tells now s = by_cases (resumes s) _ (λ h. rw h) (λ h. rw h)

informed_tells : (d : Bool) (reports : List StatusReport) (e : Effect) → told (informed d reports e) ≡ told e
unfolding informed
informed_tells true reports e = by_cases (announces e.state) _ (λ h. rw h (other e.events _ refl)) (λ h. rw h)
informed_tells false reports e = refl

acks_tell : (now : ℕ) (acks : List ℕ) (e : Effect) → told (acks_queued now acks e) ≡ told e
unfolding queue_wire
acks_tell now [] e = refl
acks_tell now (a ∷ as') e = acks_tell now as' _

received_tells : (now : ℕ) (g : Reception) (e : Effect) → told (inputs_received now g e) ≡ told e
unfolding inputs_received
received_tells now g e = acks_tell now g.acks _ ∙ more e.events _ (frames_tell e.state.setup.input_size e.state.setup.handles g.new_frames)

input_tells : (b : Bool) (now : ℕ) (d : Bool) (start ack : ℕ) (reports : List StatusReport) (payload : List ℕ) (e : Effect)
    → told (input_unless b now (input_message d start ack reports payload) e).effect ≡ told e
unfolding input_unless input_taken
input_tells true now d start ack reports payload e = refl
input_tells false now d start ack reports payload e = received_tells now _ _ ∙ informed_tells d reports _

body_tells : (body : MessageBody) (count : ℕ) (w : Wire) (now epoch nonce : ℕ) (e : Effect) → Reply body ⊎ (told (on_body body count w now epoch nonce e).effect ≡ told e)
unfolding on_body on_sync_request on_input on_input_ack on_quality_report on_quality_reply on_checksum_report queue_wire
body_tells (SyncRequest asked) count w now epoch nonce e = inr refl
body_tells (SyncReply reply) count w now epoch nonce e = inl (reply, refl)
body_tells (Input d start ack) count w now epoch nonce e = inr (input_tells _ now d start ack w.reports w.payload e)
body_tells (InputAck ack) count w now epoch nonce e = inr refl
body_tells (QualityReport a p) count w now epoch nonce e = inr refl
body_tells (QualityReply p) count w now epoch nonce e = inr refl
body_tells (ChecksumReport x f) count w now epoch nonce e = inr refl
body_tells KeepAlive count w now epoch nonce e = inr refl

-- ---- calls

-- what a call tells is right for the replies that are to come after it
abbrev pub Truthful : Did → Type 0
Truthful d = Each (TellsCount d.after.sync.remaining) (counts_in d.events)

quiet : (d : Did) → counts_in d.events ≡ [] → Truthful d
unfolding Each
quiet d h = rw h tt

refused_truthful : (s : Seen) (k : ℕ) → Truthful (refused k s)
unfolding refused counts_in
refused_truthful s k = quiet (refused k s) refl

done_quiet : (e : Effect) → told e ≡ [] → Truthful (done e)
unfolding done
done_quiet e h = quiet (done e) h

-- a reply that counts tells five and how many have come, where more are to come
replied_truthful : (now nonce magic reply : ℕ) (c more : Bool) (e : Effect) → told e ≡ [] → Truthful (done (replied now nonce magic reply c more e).effect)
unfolding replied request nonce_issued queue_wire counted running done Each counts_in
replied_truthful now nonce magic reply false more e h = done_quiet e h
replied_truthful now nonce magic reply true true e h = rw (counts-append e.events (without_input (Event.Synchronizing 5 (5 - (e.state.sync.remaining - 1))) ∷ []), h) ((refl, refl), tt)
replied_truthful now nonce magic reply true false e h = done_quiet (replied now nonce magic reply true false e).effect (other e.events Event.Synchronized refl ∙ h)

message_truthful : (from count : ℕ) (w : Wire) (now epoch nonce buffer : ℕ) (s : Seen) → Truthful (message_step from count w now epoch nonce buffer s)
unfolding message_step reacted on_body on_sync_reply
message_truthful from count w now epoch nonce buffer s =
    tested-both _ s _ Truthful (refused_truthful s) (λ _.
    tested-both _ s _ Truthful (refused_truthful s) (λ _. go (body_tells w.body count w now epoch nonce (heard now s))))
  where
    go : Reply w.body ⊎ (told (on_body w.body count w now epoch nonce (heard now s)).effect ≡ told (heard now s))
        → Truthful (done (on_body w.body count w now epoch nonce (heard now s)).effect)
    go (inl r) = rw r.1 (replied_truthful now nonce w.magic r.0 _ _ (heard now s) (heard_tells now s))
    go (inr h) = done_quiet _ (h ∙ heard_tells now s)

pub call_truthful : (c : Asked) (s : Seen) → Truthful (step (call_of c) s)
unfolding step synchronize_step synchronized datagram_step act_step send_step disconnect_step checksum_step checksum_sent queue_wire advantage_step take_step stats_step status_step counts_in Each
call_truthful (Asked.synchronize now epoch nonce out) s = tested-both _ s _ Truthful (refused_truthful s) (λ _. done_quiet _ (request_tells now nonce _))
call_truthful (Asked.message from m payload now epoch nonce out) s = message_truthful from _ _ now epoch nonce (length out) s
call_truthful (Asked.datagram from d now epoch nonce out) s = decided-both _ s _ Truthful (refused_truthful s) (λ _. message_truthful from _ _ now epoch nonce (length out) s)
call_truthful (Asked.act statuses now epoch nonce out) s =
    tested-both _ s _ Truthful (refused_truthful s) (λ _. done_quiet _ (acted_tells now s.phase epoch nonce (held_statuses statuses) (begin s)))
call_truthful (Asked.send_input frame bytes statuses now out) s =
    tested-both _ s _ Truthful (refused_truthful s) (λ _. done_quiet _ (sent_tells now frame bytes (held_statuses statuses) (begin s)))
call_truthful (Asked.disconnect now) s = tested-both _ s _ Truthful (refused_truthful s) (λ _. tt)
call_truthful (Asked.send_checksum_report frame checksum now out) s = tested-both _ s _ Truthful (refused_truthful s) (λ _. done_quiet (checksum_sent now frame checksum (begin s)) refl)
call_truthful (Asked.update_local_frame_advantage local) s = tested-both _ s _ Truthful (refused_truthful s) (λ _. tt)
call_truthful (Asked.take_messages out) s = tested-both _ s _ Truthful (refused_truthful s) (λ _. tt)
call_truthful (Asked.network_stats epoch) s = tested-both _ s _ Truthful (refused_truthful s) (λ _. tt)
call_truthful (Asked.peer_connect_status handle) s = tested-both _ s _ Truthful (refused_truthful s) (λ _. tt)
call_truthful (Asked.take_messages_into out into) s = tested-both _ s _ Truthful (refused_truthful s) (λ _. tt)
