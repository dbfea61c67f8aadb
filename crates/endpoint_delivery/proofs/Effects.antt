-- What each step of a call does to what carries inputs: which setup and carried part it leaves, which messages it queues, which Input events it announces.
use mathlib.Core.Bool.{Bool, true, false}
use mathlib.Core.List.{List, [], ◌∷◌, ◌++◌, append-nil}
use mathlib.Core.Path.{◌≡◌, refl, ap, ◌∙◌}
use Prim.Native.Nat.{ℕ}
use native.Mathlib.Omega.{arith}
use lib.Dec.{ltb, leb}
use lib.ListN.{length, drop}
use Rattle.base.specs.Keyed.{kept}
use Rattle.base.proofs.Kept.{kept_append}
use Rattle.packing.specs.Pad.{padded}
use Rattle.packing.specs.declared.input_bytes.InputBytes.{InputBytes}
use Rattle.status.specs.declared.ConnectionStatus.{ConnectionStatus}
use Rattle.codec.specs.Message.{Wire}
use Rattle.codec.specs.Read.{body_only}
use Rattle.codec.specs.declared.Wide.{Wide}
use Rattle.codec.specs.declared.StatusReport.{StatusReport}
use Rattle.codec.specs.declared.MessageBody.{MessageBody}
use Rattle.codec.specs.declared.MessageBody.TheVariants.{SyncRequest, SyncReply, Input, InputAck, QualityReport, QualityReply, ChecksumReport, KeepAlive}
use Rattle.events.specs.declared.Entry.{Entry}
use Rattle.events.specs.declared.Event.{Event}
use Rattle.events.specs.Events.{without_input, announced, input_entry, announced_each}
use Rattle.endpoint_rules.specs.declared.Phase.{Phase}
use Rattle.endpoint_rules.specs.declared.Phase.TheVariants.{Initializing, Synchronizing, Running, Disconnected, Shutdown}
use Rattle.endpoint_rules.specs.Seen.{Seen, Carried, with_carried}
use Rattle.endpoint_rules.specs.Did.{Effect, begin, change, queue_wire, queue, announce_event}
use Rattle.endpoint_rules.specs.Handshake.{request, nonce_issued, started, synchronized, counted, running, replied, on_sync_request, on_sync_reply}
use Rattle.endpoint_rules.specs.Sending.{dropped_to, acknowledged, accepted, announces_most, pending_in, pending_queued, queue_pending, input_sent}
use Rattle.endpoint_rules.specs.Receiving.{input_message, Reception, receive, announces, noted, acks_queued, statuses_merged, informed, inputs_received, input_taken, on_input_ack}
use Rattle.endpoint_rules.specs.Act.{request_due, resend_due, report_due, keep_alive_due, interruption_due, disconnect_due, resent, report_sent, kept_alive, interrupted, timed_out, acted}
use Rattle.endpoint_rules.specs.Reports.{report_queued, remote_advantage, round_trip_noted, on_quality_report, on_quality_reply}
use Rattle.endpoint_rules.specs.Checksum.{on_checksum_report, checksum_sent}
use Rattle.endpoint_rules.specs.Step.{resumes, resumed, heard, on_body}
use Rattle.endpoint_invariant.specs.Each.{Each}
use Rattle.endpoint_invariant.proofs.Choices.{by_pick}
use Rattle.endpoint_invariant.proofs.Eaches.{each_append}
use Rattle.endpoint_delivery.specs.Runs.{carries}
use Rattle.endpoint_delivery.proofs.Moves.{is_input, inputs_in}

-- of a call that began in state s: the carried part after it, the Input events that it announces, what holds of the messages that it queues
pub record Does (s : Seen) (c : Carried) (news : List Entry) (P : Wire → Type 0) (after : Seen) (wires : List Wire) (entries : List Entry) : Type 0 where
  pub setup : after.setup ≡ s.setup
  pub carried : after.carried ≡ c
  pub out : Each P wires
  pub events : inputs_in entries ≡ news

-- frames are announced by Input events
announced_inputs : (frame size : ℕ) (bytes hs : List ℕ) → inputs_in (announced frame size bytes hs) ≡ announced frame size bytes hs
unfolding announced kept input_entry
announced_inputs frame size bytes [] = refl
announced_inputs frame size bytes (h ∷ hs) = rw (announced_inputs frame size (drop size bytes) hs)

pub each_inputs : (size : ℕ) (hs : List ℕ) (l : List InputBytes) → inputs_in (announced_each size hs l) ≡ announced_each size hs l
unfolding announced_each kept
each_inputs size hs [] = refl
each_inputs size hs (x ∷ l) = kept_append is_input (announced x.frame size x.bytes hs) (announced_each size hs l) ∙ rw (announced_inputs x.frame size x.bytes hs, each_inputs size hs l)

module _ (P : Wire → Type 0) (quiet : (magic : ℕ) (b : MessageBody) → carries b ≡ false → P (body_only magic b)) (s : Seen) where
  abbrev pub Doing : Carried → List Entry → Effect → Type 0
  Doing c news e = Does s c news P e.state e.out e.events

  pub begun : Doing s.carried [] (begin s)
  unfolding Each kept
  begun = record { setup = refl; carried = refl; out = tt; events = refl }

  module _ (c : Carried) (news : List Entry) where
    -- another state, with the same setup and the same carried part
    moved : (t : Seen) (e : Effect) → t.setup ≡ e.state.setup → t.carried ≡ e.state.carried → Doing c news e → Doing c news (change (λ _. t) e)
    moved t e p q h = record { setup = p ∙ h.setup; carried = q ∙ h.carried; out = h.out; events = h.events }

    pub queued : (now : ℕ) (w : Wire) → P w → (e : Effect) → Doing c news e → Doing c news (queue_wire now w e)
    unfolding queue_wire Each
    queued now w p e h = record { setup = h.setup; carried = h.carried; out = each_append P e.out (w ∷ []) h.out (p, tt); events = h.events }

    said : (now : ℕ) (b : MessageBody) → carries b ≡ false → (e : Effect) → Doing c news e → Doing c news (queue now b e)
    said now b q e h = queued now (body_only e.state.setup.magic b) (quiet e.state.setup.magic b q) e h

    -- another event, and such a state
    announcing : (event : Event) → is_input (without_input event) ≡ false → (t : Seen) (e : Effect) → t.setup ≡ e.state.setup
        → t.carried ≡ e.state.carried → Doing c news e → Doing c news (announce_event event (change (λ _. t) e))
    unfolding kept
    announcing event q t e p r h =
        record { setup = p ∙ h.setup; carried = r ∙ h.carried; out = h.out; events = kept_append is_input e.events _ ∙ rw (q, append-nil (inputs_in e.events)) h.events }

    -- ---- act

    pub asked : (now nonce : ℕ) (e : Effect) → Doing c news e → Doing c news (request now nonce e)
    unfolding request nonce_issued
    asked now nonce e h = said now (SyncRequest nonce) refl _ (moved _ e refl refl h)

    reports : (now epoch : ℕ) (e : Effect) → Doing c news e → Doing c news (report_sent now epoch e)
    unfolding report_sent report_queued
    reports now epoch e h =
        by_pick (Doing c news) (report_due now e.state) _ e (λ _. said now (QualityReport _ _) refl _ (moved _ e refl refl h)) (λ _. h)

    alive : (now : ℕ) (e : Effect) → Doing c news e → Doing c news (kept_alive now e)
    unfolding kept_alive
    alive now e h = by_pick (Doing c news) (keep_alive_due now e.state) _ e (λ _. said now KeepAlive refl e h) (λ _. h)

    interrupts : (now : ℕ) (e : Effect) → Doing c news e → Doing c news (interrupted now e)
    unfolding interrupted
    interrupts now e h =
        by_pick (Doing c news) (interruption_due now e.state) _ e (λ _. announcing (Event.NetworkInterrupted _) refl _ e refl refl h) (λ _. h)

    times : (now : ℕ) (e : Effect) → Doing c news e → Doing c news (timed_out now e)
    unfolding timed_out
    times now e h =
        by_pick (Doing c news) (disconnect_due now e.state) _ e (λ _. announcing Event.Disconnected refl _ e refl refl h) (λ _. h)

    -- ---- what is pending is queued

    pends : (now : ℕ) (statuses : List ConnectionStatus) (l : List InputBytes) (e : Effect)
        → ((x : InputBytes) (xs : List InputBytes) → l ≡ x ∷ xs → P (pending_in statuses e.state)) → Doing c news e → Doing c news (pending_queued now statuses l e)
    unfolding pending_queued
    pends now statuses [] e p h = h
    pends now statuses (x ∷ xs) e p h = queued now (pending_in statuses e.state) (p x xs refl) e h

  -- the Input of all that is pending
  module _ (statuses : List ConnectionStatus) (p : (x : InputBytes) (xs : List InputBytes) → s.carried.sender.pending ≡ x ∷ xs → P (pending_in statuses s)) where
    pub acts : (phase : Phase) (now epoch nonce : ℕ) → Doing s.carried [] (acted phase now epoch nonce statuses (begin s))
    unfolding acted resent
    acts Initializing now epoch nonce = begun
    acts Synchronizing now epoch nonce = by_pick (Doing s.carried []) (request_due now s) _ (begin s) (λ _. asked s.carried [] now nonce (begin s) begun) (λ _. begun)
    acts Running now epoch nonce =
        let q = pends s.carried [] now statuses s.carried.sender.pending (begin s) p begun in
        let r : Doing s.carried [] (resent now statuses (begin s)) =
        by_pick (Doing s.carried []) (resend_due now s) _ (begin s) (λ _. moved s.carried [] _ (queue_pending now statuses (begin s)) refl refl q) (λ _. begun) in
        times s.carried [] now _ (interrupts s.carried [] now _ (alive s.carried [] now _ (reports s.carried [] now epoch _ r)))
    acts Disconnected now epoch nonce =
        by_pick (Doing s.carried []) (ltb s.clocks.shutdown_timeout now) _ (begin s) (λ _. moved s.carried [] _ (begin s) refl refl begun) (λ _. begun)
    acts Shutdown now epoch nonce = begun

  pub starting : (now epoch nonce : ℕ) → Doing s.carried [] (synchronized now epoch nonce (begin s))
  unfolding synchronized started
  starting now epoch nonce = asked s.carried [] now nonce _ (moved s.carried [] _ (begin s) refl refl begun)

  pub checking : (now frame : ℕ) (checksum : Wide) → Doing s.carried [] (checksum_sent now frame checksum (begin s))
  unfolding checksum_sent
  checking now frame checksum = said s.carried [] now (ChecksumReport checksum frame) refl (begin s) begun

  -- ---- messages

  pub hearing : (now : ℕ) → Doing s.carried [] (heard now s)
  unfolding heard resumed
  hearing now =
      by_pick (Doing s.carried []) (resumes s) _ _
      (λ _. announcing s.carried [] Event.NetworkResumed refl _ (begin s) refl refl begun)
      (λ _. moved s.carried [] _ (begin s) refl refl begun)

  replies : (now nonce magic reply : ℕ) (c m : Bool) (e : Effect) → Doing s.carried [] e → Doing s.carried [] (replied now nonce magic reply c m e).effect
  unfolding replied counted running
  replies now nonce magic reply false m e h = h
  replies now nonce magic reply true true e h =
      asked s.carried [] now nonce (announce_event (Event.Synchronizing 5 _) (change (counted reply) e)) (announcing s.carried [] (Event.Synchronizing 5 _) refl _ e refl refl h)
  replies now nonce magic reply true false e h = announcing s.carried [] Event.Synchronized refl _ e refl refl h

  -- a message that is neither an Input nor an InputAck
  pub others : (b : MessageBody) → carries b ≡ false → (count : ℕ) (w : Wire) (now epoch nonce : ℕ) → Doing s.carried [] (on_body b count w now epoch nonce (heard now s)).effect
  unfolding on_body on_sync_request on_sync_reply on_quality_report remote_advantage on_quality_reply round_trip_noted on_checksum_report
  others (SyncRequest asked) q count w now epoch nonce = said s.carried [] now (SyncReply asked) refl (heard now s) (hearing now)
  others (SyncReply reply) q count w now epoch nonce = replies now nonce w.magic reply _ _ (heard now s) (hearing now)
  others (Input d start ack) q count w now epoch nonce = absurd (let n : ◌≡◌ {A = ℕ} 0 1 = cc in omega arith)
  others (InputAck ack) q count w now epoch nonce = absurd (let n : ◌≡◌ {A = ℕ} 0 1 = cc in omega arith)
  others (QualityReport advantage ping) q count w now epoch nonce =
      said s.carried [] now (QualityReply ping) refl (change (remote_advantage advantage) (heard now s)) (moved s.carried [] _ (heard now s) refl refl (hearing now))
  others (QualityReply pong) q count w now epoch nonce = moved s.carried [] _ (heard now s) refl refl (hearing now)
  others (ChecksumReport checksum frame) q count w now epoch nonce = moved s.carried [] _ (heard now s) refl refl (hearing now)
  others KeepAlive q count w now epoch nonce = hearing now

  -- ---- Input and InputAck

  -- acknowledged up to a frame
  abbrev pub dropped_in : ℕ → Carried
  dropped_in ack = record { sender = dropped_to ack s.carried.sender; receiver = s.carried.receiver }

  drops : (ack : ℕ) (e : Effect) → Doing s.carried [] e → Doing (dropped_in ack) [] (change (acknowledged ack) e)
  unfolding acknowledged
  drops ack e h = record { setup = h.setup; carried = ap (λ (c : Carried). record { sender = dropped_to ack c.sender; receiver = c.receiver }) h.carried; out = h.out; events = h.events }

  pub acked : (ack now : ℕ) → Doing (dropped_in ack) [] (on_input_ack ack (heard now s)).effect
  unfolding on_input_ack
  acked ack now = drops ack (heard now s) (hearing now)

  informs : (c : Carried) (d : Bool) (reports : List StatusReport) (e : Effect) → Doing c [] e → Doing c [] (informed d reports e)
  unfolding informed statuses_merged
  informs c true reports e h = by_pick (Doing c []) (announces e.state) _ e (λ _. announcing c [] Event.Disconnected refl _ e refl refl h) (λ _. h)
  informs c false reports e h = moved c [] _ e refl refl h

  acks_out : (c : Carried) (news : List Entry) (now : ℕ) (acks : List ℕ) → Each (λ a. (magic : ℕ) → P (body_only magic (InputAck a))) acks → (e : Effect) → Doing c news e
      → Doing c news (acks_queued now acks e)
  unfolding Each
  acks_out c news now [] p e h = h
  acks_out c news now (a ∷ acks) p e h = acks_out c news now acks p.1 _ (queued c news now _ (p.0 e.state.setup.magic) e h)

  -- an Input that is not discarded
  module _ (start : ℕ) (payload : List ℕ) where
    abbrev pub got_in : Reception
    got_in = receive s.setup start payload s.carried.receiver

    abbrev pub taken_in : ℕ → Carried
    taken_in ack = record { sender = dropped_to ack s.carried.sender; receiver = got_in.receiver }

    held : (now : ℕ) (b : Bool) (t : Seen) → (noted now b t).setup ≡ t.setup
    held now true t = refl
    held now false t = refl

    holds : (now : ℕ) (b : Bool) (t : Seen) → (noted now b t).carried ≡ t.carried
    holds now true t = refl
    holds now false t = refl

    got_does : (now ack : ℕ) (e : Effect) → Each (λ a. (magic : ℕ) → P (body_only magic (InputAck a))) got_in.acks → Doing (dropped_in ack) [] e
        → Doing (taken_in ack) (announced_each s.setup.input_size s.setup.handles got_in.new_frames) (inputs_received now got_in e)
    unfolding inputs_received
    got_does now ack e p h =
        acks_out (taken_in ack) _ now got_in.acks p _ (record {
          setup = held now got_in.held e.state ∙ h.setup;
          carried = ap (λ (c : Carried). record { sender = c.sender; receiver = got_in.receiver }) (holds now got_in.held e.state ∙ h.carried);
          out = h.out;
          events = rw h.setup (kept_append is_input e.events _ ∙ rw (h.events, each_inputs s.setup.input_size s.setup.handles got_in.new_frames));
        })

    pub taking : (now ack : ℕ) (d : Bool) (reports : List StatusReport) → Each (λ a. (magic : ℕ) → P (body_only magic (InputAck a))) got_in.acks
        → Doing (taken_in ack) (announced_each s.setup.input_size s.setup.handles got_in.new_frames) (input_taken now (input_message d start ack reports payload) (heard now s))
    unfolding input_taken
    taking now ack d reports p =
        let h = hearing now in
        rw (h.setup, h.carried) (got_does now ack _ p (informs (dropped_in ack) d reports _ (drops ack (heard now s) h)))

  -- an input accepted
  abbrev pub accepted_in : InputBytes → Carried
  accepted_in x = record { sender = record { pending = s.carried.sender.pending ++ x ∷ []; acked = s.carried.sender.acked }; receiver = s.carried.receiver }

  abbrev pub after_send : InputBytes → Seen
  after_send x = with_carried (accepted_in x) s

  abbrev pub input_of : ℕ → List ℕ → InputBytes
  input_of frame bytes = record { frame = frame; bytes = padded bytes }

  pub sending : (now frame : ℕ) (bytes : List ℕ) (statuses : List ConnectionStatus) → P (pending_in statuses (after_send (input_of frame bytes)))
      → Doing (accepted_in (input_of frame bytes)) [] (input_sent now frame bytes statuses (begin s))
  unfolding input_sent accepted announces_most
  sending now frame bytes statuses p =
      let x : InputBytes = input_of frame bytes in
      let c : Carried = accepted_in x in
      let e : Effect = change (accepted x) (begin s) in
      let b : Doing c [] e = let h = begun in record { setup = refl; carried = refl; out = h.out; events = h.events } in
      by_pick (λ (f : Effect). Doing c [] (queue_pending now statuses f)) (leb 129 (length e.state.carried.sender.pending)) (announce_event Event.Disconnected e) e
      (λ _. pends c [] now statuses _ (announce_event Event.Disconnected e) (λ x xs q. p) (announcing c [] Event.Disconnected refl _ e refl refl b))
      (λ _. pends c [] now statuses _ e (λ x xs q. p) b)
