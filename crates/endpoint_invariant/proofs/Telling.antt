-- Every call leaves the setup and the number of statuses as they were; and what holds of every event that it can announce holds of all that it announces.
use borrow.Author.Tests.{ltb-true, ltb-false}
use mathlib.Core.Bool.{Bool, true, false, not, ◌&&◌}
use mathlib.Core.List.{List, [], ◌∷◌, ◌++◌}
use mathlib.Core.Path.{◌≡◌, refl, ◌∙◌}
use Prim.Native.Nat.{ℕ, ◌-◌, ◌≤◌, ◌<◌}
use lib.Dec.{ltb, leb, eqb}
use lib.ListN.{length}
use Rattle.base.proofs.Bools.{neither}
use Rattle.frame.specs.Bias.{bias32}
use Rattle.packing.specs.Pad.{padded}
use Rattle.packing.specs.declared.input_bytes.InputBytes.{InputBytes}
use Rattle.status.specs.declared.ConnectionStatus.{ConnectionStatus}
use Rattle.status.proofs.MergeAll.{all_length}
use Rattle.codec.specs.Message.{Wire}
use Rattle.codec.specs.Read.{datagram, wire_in}
use Rattle.codec.specs.declared.StatusReport.{StatusReport}
use Rattle.codec.specs.declared.MessageBody.{MessageBody}
use Rattle.codec.specs.declared.MessageBody.TheVariants.{SyncRequest, SyncReply, Input, InputAck, QualityReport, QualityReply, ChecksumReport, KeepAlive}
use Rattle.events.specs.declared.Entry.{Entry}
use Rattle.events.specs.declared.Event.{Event}
use Rattle.events.specs.Events.{without_input, announced_each}
use Rattle.endpoint_rules.specs.declared.Phase.{Phase}
use Rattle.endpoint_rules.specs.declared.Phase.TheVariants.{Initializing, Synchronizing, Running, Disconnected, Shutdown}
use Rattle.endpoint_rules.specs.Seen.{Seen}
use Rattle.endpoint_rules.specs.Did.{Did, Effect, refused, begin, change, queue_wire, announce_event, done}
use Rattle.endpoint_rules.specs.Handshake.{request, nonce_issued, started, synchronized, counted, running, replied, on_sync_request, on_sync_reply}
use Rattle.endpoint_rules.specs.Sending.{acknowledged, accepted, announces_most, pending_queued, input_sent}
use Rattle.endpoint_rules.specs.Receiving.{input_message, Reception, receive, discarded, announces, noted, acks_queued, statuses_merged, informed, inputs_received, input_taken, input_unless, on_input, on_input_ack}
use Rattle.endpoint_rules.specs.Act.{request_due, resend_due, report_due, keep_alive_due, interruption_due, disconnect_due, resent, report_sent, kept_alive, interrupted, timed_out, acted}
use Rattle.endpoint_rules.specs.Reports.{report_queued, remote_advantage, round_trip_noted, on_quality_report, on_quality_reply}
use Rattle.endpoint_rules.specs.Checksum.{on_checksum_report, checksum_sent}
use Rattle.endpoint_rules.specs.Advantage.{both_known, local_advantage, advantage_updated}
use Rattle.endpoint_rules.specs.Call.{Call}
use Rattle.endpoint_rules.specs.Step.{changed, resumes, resumed, heard, on_body, reacted, synchronize_step, message_step, datagram_step, act_step, send_step, disconnect_step, checksum_step, advantage_step, stats_step, status_step, take_step, step}
use Rattle.endpoint_rules.proofs.Tested.{tested-both, decided-both}
use Rattle.endpoint_invariant.specs.Each.{Each}
use Rattle.endpoint_invariant.specs.Typed.{Typed, TypedWire}
use Rattle.endpoint_invariant.proofs.Choices.{by_pick}
use Rattle.endpoint_invariant.proofs.Eaches.{each_append}
use Rattle.endpoint_invariant.proofs.Leaves.{by_cases, counts, heard_leaves}
use Rattle.endpoint_invariant.proofs.Typed.{datagram_typed}

-- every event that an endpoint in a state can announce, but Inputs
pub record Others (P : Entry → Type 0) (s : Seen) : Type 0 where
  pub synchronizing : 1 < s.sync.remaining → P (without_input (Event.Synchronizing 5 (5 - (s.sync.remaining - 1))))
  pub synchronized : P (without_input Event.Synchronized)
  pub disconnected : P (without_input Event.Disconnected)
  pub interrupted : P (without_input (Event.NetworkInterrupted (s.setup.disconnect_timeout - s.setup.notify_start)))
  pub resumed : P (without_input Event.NetworkResumed)

-- of what began in a state: the state after it, and the events announced
pub record Tells (P : Entry → Type 0) (s after : Seen) (entries : List Entry) : Type 0 where
  pub setup : after.setup ≡ s.setup
  pub players : length after.statuses ≡ length s.statuses
  pub events : Each P entries

heard_carried : (now : ℕ) (s : Seen) → (heard now s).state.carried ≡ s.carried
unfolding heard resumed
heard_carried now s = by_cases (resumes s) ((heard now s).state.carried ≡ s.carried) (λ h. rw h) (λ h. rw h)

noted_leaves : (now : ℕ) (held : Bool) (s : Seen) → ((noted now held s).setup ≡ s.setup) × ((noted now held s).statuses ≡ s.statuses)
noted_leaves now true s = (refl, refl)
noted_leaves now false s = (refl, refl)

module _ (P : Entry → Type 0) (s : Seen) (others : Others P s) where
  abbrev Telling : Effect → Type 0
  Telling e = Tells P s e.state e.events

  begun : Telling (begin s)
  unfolding Each
  begun = record { setup = refl; players = refl; events = tt }

  -- the next state, and the next event
  module _ {t : Seen} {entries : List Entry} (h : Tells P s t entries) where
    moved : (next : Seen) → next.setup ≡ t.setup → length next.statuses ≡ length t.statuses → Tells P s next entries
    moved next p q = record { setup = p ∙ h.setup; players = q ∙ h.players; events = h.events }

    telling : (event : Event) → P (without_input event) → Tells P s t (entries ++ without_input event ∷ [])
    unfolding Each
    telling event p = record { setup = h.setup; players = h.players; events = each_append P entries (without_input event ∷ []) h.events (p, tt) }

  -- ---- act and send_input

  asked : (now nonce : ℕ) (e : Effect) → Telling e → Telling (request now nonce e)
  unfolding request nonce_issued queue_wire
  asked now nonce e h = moved h _ refl refl

  pends : (now : ℕ) (statuses : List ConnectionStatus) (l : List InputBytes) (e : Effect) → Telling e → Telling (pending_queued now statuses l e)
  unfolding pending_queued queue_wire
  pends now statuses [] e h = h
  pends now statuses (x ∷ l) e h = moved h _ refl refl

  module _ (now : ℕ) where
    resends : (statuses : List ConnectionStatus) (e : Effect) → Telling e → Telling (resent now statuses e)
    unfolding resent
    resends statuses e h = by_pick Telling (resend_due now e.state) _ e (λ _. moved (pends now statuses e.state.carried.sender.pending e h) _ refl refl) (λ _. h)

    reports : (epoch : ℕ) (e : Effect) → Telling e → Telling (report_sent now epoch e)
    unfolding report_sent report_queued queue_wire
    reports epoch e h = by_pick Telling (report_due now e.state) _ e (λ _. moved h _ refl refl) (λ _. h)

    alive : (e : Effect) → Telling e → Telling (kept_alive now e)
    unfolding kept_alive queue_wire
    alive e h = by_pick Telling (keep_alive_due now e.state) _ e (λ _. moved h _ refl refl) (λ _. h)

    interrupts : (e : Effect) → Telling e → Telling (interrupted now e)
    unfolding interrupted
    interrupts e h = by_pick Telling (interruption_due now e.state) _ e (λ _. telling (moved h _ refl refl) _ (rw h.setup others.interrupted)) (λ _. h)

    times : (e : Effect) → Telling e → Telling (timed_out now e)
    unfolding timed_out
    times e h = by_pick Telling (disconnect_due now e.state) _ e (λ _. telling (moved h _ refl refl) Event.Disconnected others.disconnected) (λ _. h)

    acts : (phase : Phase) (epoch nonce : ℕ) (statuses : List ConnectionStatus) → Telling (acted phase now epoch nonce statuses (begin s))
    unfolding acted
    acts Initializing epoch nonce statuses = begun
    acts Synchronizing epoch nonce statuses = by_pick Telling (request_due now s) _ (begin s) (λ _. asked now nonce (begin s) begun) (λ _. begun)
    acts Running epoch nonce statuses = times _ (interrupts _ (alive _ (reports epoch _ (resends statuses (begin s) begun))))
    acts Disconnected epoch nonce statuses = by_pick Telling (ltb s.clocks.shutdown_timeout now) _ (begin s) (λ _. moved begun _ refl refl) (λ _. begun)
    acts Shutdown epoch nonce statuses = begun

    sends : (frame : ℕ) (bytes : List ℕ) (statuses : List ConnectionStatus) → Telling (input_sent now frame bytes statuses (begin s))
    unfolding input_sent accepted announces_most
    sends frame bytes statuses =
        let e : Effect = change (accepted (record { frame = frame; bytes = padded bytes })) (begin s) in
        let h : Telling e = moved begun _ refl refl in
        pends now statuses _ _
        (by_pick Telling (leb 129 (length e.state.carried.sender.pending)) (announce_event Event.Disconnected e) e (λ _. telling h Event.Disconnected others.disconnected) (λ _. h))

  -- ---- messages

  hears : (now : ℕ) → Telling (heard now s)
  unfolding heard resumed
  hears now = by_pick Telling (resumes s) _ _ (λ _. telling (moved begun _ refl refl) Event.NetworkResumed others.resumed) (λ _. moved begun _ refl refl)

  replies : (now nonce magic reply : ℕ) (counts_it more : Bool) (e : Effect) → e.state.sync.remaining ≡ s.sync.remaining → ltb 1 e.state.sync.remaining ≡ more → Telling e
      → Telling (replied now nonce magic reply counts_it more e).effect
  unfolding replied counted running
  replies now nonce magic reply false more e r m h = h
  replies now nonce magic reply true true e r m h =
      asked now nonce _ (telling (moved h _ refl refl) _ (rw r (others.synchronizing (ltb-true 1 s.sync.remaining (rw r at m)))))
  replies now nonce magic reply true false e r m h = telling (moved h _ refl refl) Event.Synchronized others.synchronized

  informs : (disconnect : Bool) (reports : List StatusReport) (e : Effect) → Telling e → Telling (informed disconnect reports e)
  unfolding informed statuses_merged
  informs true reports e h = by_pick Telling (announces e.state) _ e (λ _. telling (moved h _ refl refl) Event.Disconnected others.disconnected) (λ _. h)
  informs false reports e h = moved h _ refl (all_length e.state.statuses _)

  acks : (now : ℕ) (l : List ℕ) (e : Effect) → Telling e → Telling (acks_queued now l e)
  unfolding queue_wire
  acks now [] e h = h
  acks now (a ∷ l) e h = acks now l _ (moved h _ refl refl)

  receives : (now : ℕ) (x : Reception) (e : Effect) → Each P (announced_each s.setup.input_size s.setup.handles x.new_frames) → Telling e → Telling (inputs_received now x e)
  unfolding inputs_received
  receives now x e p h =
      let l = noted_leaves now x.held e.state in
      acks now x.acks _ (record { setup = l.0 ∙ h.setup; players = rw l.1 h.players; events = rw h.setup (each_append P e.events _ h.events p) })

  -- what holds of the frames that a message brings, if it is an Input
  abbrev Brings : Wire → Type 0
  Brings w =
      (disconnect : Bool) (start ack : ℕ) → w.body ≡ Input disconnect start ack → bias32 ≤ start
      → Each P (announced_each s.setup.input_size s.setup.handles (receive s.setup start w.payload s.carried.receiver).new_frames)

  module _ (now count : ℕ) (w : Wire) (news : Brings w) where
    inputs : (disconnect : Bool) (start ack : ℕ) → w.body ≡ Input disconnect start ack
        → Telling (on_input now count (input_message disconnect start ack w.reports w.payload) (heard now s)).effect
    unfolding on_input input_unless input_taken acknowledged discarded
    inputs disconnect start ack q = go (discarded disconnect count start (heard now s).state) refl
      where
        go : (x : Bool) → discarded disconnect count start (heard now s).state ≡ x
            → Telling (input_unless x now (input_message disconnect start ack w.reports w.payload) (heard now s)).effect
        go true m = hears now
        go false m =
            let h = hears now in
            let from = ltb-false start bias32 (neither (not disconnect && not (eqb count (heard now s).state.setup.players)) _ m).1 in
            receives now _ _ (rw (h.setup, heard_carried now s) (news disconnect start ack q from)) (informs disconnect w.reports _ (moved h _ refl refl))

    bodies : (epoch nonce : ℕ) (b : MessageBody) → w.body ≡ b → Telling (on_body b count w now epoch nonce (heard now s)).effect
    unfolding on_body on_sync_request on_sync_reply on_input_ack acknowledged on_quality_report remote_advantage on_quality_reply round_trip_noted on_checksum_report queue_wire
    bodies epoch nonce (SyncRequest n) q = moved (hears now) _ refl refl
    bodies epoch nonce (SyncReply reply) q = replies now nonce w.magic reply _ _ (heard now s) (counts (heard_leaves now s)) refl (hears now)
    bodies epoch nonce (Input disconnect start ack) q = inputs disconnect start ack q
    bodies epoch nonce (InputAck ack) q = moved (hears now) _ refl refl
    bodies epoch nonce (QualityReport advantage ping) q = moved (hears now) _ refl refl
    bodies epoch nonce (QualityReply pong) q = moved (hears now) _ refl refl
    bodies epoch nonce (ChecksumReport checksum frame) q = moved (hears now) _ refl refl
    bodies epoch nonce KeepAlive q = hears now

  -- ---- calls

  abbrev Told : Did → Type 0
  Told d = Tells P s d.after d.events

  refuses : (k : ℕ) → Told (refused k s)
  unfolding refused
  refuses k = begun

  ends : (e : Effect) → Telling e → Told (done e)
  unfolding done
  ends e h = record { setup = h.setup; players = h.players; events = h.events }

  messages : (from count : ℕ) (w : Wire) (now epoch nonce buffer : ℕ) → Brings w → Told (message_step from count w now epoch nonce buffer s)
  unfolding message_step reacted
  messages from count w now epoch nonce buffer news =
      tested-both _ s _ Told refuses (λ _. tested-both _ s _ Told refuses (λ _. ends _ (bodies now count w news epoch nonce w.body refl)))

  advances : (local_frame : ℕ) → Told (changed (advantage_updated local_frame s))
  unfolding advantage_updated local_advantage
  advances local_frame = by_pick (λ t. Told (changed t)) (both_known local_frame s) _ s (λ _. moved begun _ refl refl) (λ _. begun)

  -- the frames of a message are asked for only where the call is given one, and of its types if the call is
  pub step_tells : (c : Call) → ((w : Wire) → (Typed c → TypedWire w) → Brings w) → Told (step c s)
  unfolding step synchronize_step synchronized started datagram_step act_step send_step disconnect_step checksum_step checksum_sent queue_wire advantage_step stats_step status_step take_step
  step_tells (Call.synchronize now epoch nonce buffer) news = tested-both _ s _ Told refuses (λ _. ends _ (asked now nonce _ (moved begun _ refl refl)))
  step_tells (Call.message from count w now epoch nonce buffer) news = messages from count w now epoch nonce buffer (news w (λ t. t.2))
  step_tells (Call.datagram from bytes now epoch nonce buffer) news =
      decided-both _ s _ Told refuses (λ z. messages from _ (wire_in (datagram bytes)) now epoch nonce buffer (news _ (λ t. datagram_typed bytes t.1 z)))
  step_tells (Call.act count statuses now epoch nonce buffer) news = tested-both _ s _ Told refuses (λ _. ends _ (acts now s.phase epoch nonce statuses))
  step_tells (Call.send_input frame bytes count statuses now buffer) news = tested-both _ s _ Told refuses (λ _. ends _ (sends now frame bytes statuses))
  step_tells (Call.disconnect now) news = tested-both _ s _ Told refuses (λ _. moved begun _ refl refl)
  step_tells (Call.send_checksum_report frame checksum now buffer) news = tested-both _ s _ Told refuses (λ _. ends _ (moved begun _ refl refl))
  step_tells (Call.update_local_frame_advantage local_frame) news = tested-both _ s _ Told refuses (λ _. advances local_frame)
  step_tells (Call.network_stats epoch) news = tested-both _ s _ Told refuses (λ _. begun)
  step_tells (Call.peer_connect_status handle) news = tested-both _ s _ Told refuses (λ _. begun)
  step_tells Call.take_events news = moved begun _ refl refl
  step_tells (Call.take_messages buffer) news = tested-both _ s _ Told refuses (λ _. moved begun _ refl refl)
  step_tells (Call.ask question) news = begun
