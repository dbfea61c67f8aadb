-- Every message keeps what holds.
use borrow.Author.Tests.{ltb-false}
use mathlib.Core.Bool.{Bool, true, false, not, ◌&&◌}
use mathlib.Core.List.{List, [], ◌∷◌}
use mathlib.Core.Path.{◌≡◌, refl, ◌∙◌}
use Prim.Native.Nat.{ℕ, ◌^◌, ◌≤◌, ◌<◌}
use lib.Dec.{eqb}
use Rattle.base.specs.Little.{Bytes}
use Rattle.base.proofs.Bools.{neither}
use Rattle.frame.specs.Bias.{bias32}
use Rattle.status.proofs.MergeAll.{all_length}
use Rattle.checksums.proofs.Laws.{report_distinct, report_bound}
use Rattle.codec.specs.Message.{Wire, FitsBody, FitsReports, FitsWide}
use Rattle.codec.specs.declared.Wide.{Wide}
use Rattle.codec.specs.declared.StatusReport.{StatusReport}
use Rattle.codec.specs.declared.MessageBody.{MessageBody}
use Rattle.codec.specs.declared.MessageBody.TheVariants.{SyncRequest, SyncReply, Input, InputAck, QualityReport, QualityReply, ChecksumReport, KeepAlive}
use Rattle.events.specs.declared.Event.TheVariants as Event
use Rattle.setup.specs.Setup.{receiving_width}
use Rattle.endpoint_rules.specs.Seen.{Seen, Receiver, heard_at}
use Rattle.endpoint_rules.specs.Did.{Effect, begin, change}
use Rattle.endpoint_rules.specs.Sending.{acknowledged}
use Rattle.endpoint_rules.specs.Receiving.{input_message, Reception, receive, with_receiver, discarded, statuses_merged, announces, disconnect_announced, informed, noted, acks_queued, inputs_received, input_taken, input_unless, on_input, on_input_ack}
use Rattle.endpoint_rules.specs.Reports.{remote_advantage, round_trip_noted, on_quality_report, on_quality_reply}
use Rattle.endpoint_rules.specs.Checksum.{interval_in, firm_in, checksum_of, on_checksum_report}
use Rattle.endpoint_rules.specs.Step.{resumes, resumed, heard, on_body}
use Rattle.endpoint_invariant.specs.Each.{Each}
use Rattle.endpoint_invariant.specs.Typed.{TypedWire}
use Rattle.endpoint_invariant.specs.Sound.{Sound, SoundReceiver}
use Rattle.endpoint_invariant.proofs.Choices.{by_pick}
use Rattle.endpoint_invariant.proofs.Parts.{sender_part, receiver_part, clocks_part, flags_part, quality_part, statuses_part, checksums_part}
use Rattle.endpoint_invariant.proofs.Fields.{heard_clock, input_clock, remote_quality, trip_quality, merged_statuses, reported_checksums, reported_firm}
use Rattle.endpoint_invariant.proofs.Senders.{dropped_sender}
use Rattle.endpoint_invariant.proofs.Receivers.{SoundGot, received_sound}
use Rattle.endpoint_invariant.proofs.Effects.{Good, begun, changed_good, announced_good, event_good, body_only_good}
use Rattle.endpoint_invariant.proofs.Requests.{reply_good, asked_good}

-- the receive time, and the end of an interruption
pub heard_good : (now : ℕ) (s : Seen) → now < 2 ^ 62 → Sound s → Good (heard now s)
unfolding heard resumed
heard_good now s small h =
    let e : Effect = begin (heard_at now s) in
    let g : Good e = begun (heard_at now s) (clocks_part s h _ (heard_clock s.clocks h.clocks now small)) in
    by_pick Good (resumes s) _ e (λ _. event_good _ (changed_good e g _ (flags_part (heard_at now s) g.state _ (λ _. refl))) Event.NetworkResumed) (λ _. g)

-- ---- Input and InputAck

acknowledged_good : (ack : ℕ) (e : Effect) → Good e → Good (change (acknowledged ack) e)
unfolding acknowledged
acknowledged_good ack e g =
    changed_good e g _ (sender_part e.state g.state _ (dropped_sender _ ack e.state.carried.sender.pending e.state.carried.sender.acked g.state.sender))

module _ (now : ℕ) (small : now < 2 ^ 62) where
  acks_good : (acks : List ℕ) → Each (λ n. n < 2 ^ 32) acks → (e : Effect) → Good e → Good (acks_queued now acks e)
  unfolding Each
  acks_good [] h e g = g
  acks_good (ack ∷ acks) h e g = acks_good acks h.1 _ (body_only_good e g now small (InputAck ack) h.0)

  noted_sound : (held : Bool) (x : Receiver) (s : Seen) → Sound s → SoundReceiver (receiving_width s.setup) s.setup.max_prediction x
      → Sound (with_receiver x (noted now held s))
  noted_sound true x s h k = receiver_part _ (clocks_part s h _ (input_clock s.clocks h.clocks now small)) x k
  noted_sound false x s h k = receiver_part s h x k

  got_good : (g : Reception) (e : Effect) → SoundGot (receiving_width e.state.setup) e.state.setup.max_prediction g → Good e → Good (inputs_received now g e)
  unfolding inputs_received
  got_good g e k h =
      acks_good g.acks k.acks _ (announced_good _ (changed_good e h _ (noted_sound g.held g.receiver e.state h.state k.receiver)) _)

  module _ (start ack : ℕ) (reports : List StatusReport) (payload : List ℕ) (number : start < 2 ^ 32) (frames : FitsReports reports) (are : Bytes payload) where
    module _ (e : Effect) (g : Good e) (from : bias32 ≤ start) where
      abbrev acked : Effect
      acked = change (acknowledged ack) e

      acked_good : Good acked
      acked_good = acknowledged_good ack e g

      abbrev got : Reception
      got = receive e.state.setup start payload e.state.carried.receiver

      got_sound : SoundGot (receiving_width e.state.setup) e.state.setup.max_prediction got
      got_sound = received_sound e.state.setup g.state.setup start payload from number are e.state.carried.receiver.history g.state.receiver

      taken_good : (disconnect : Bool) → Good (input_taken now (input_message disconnect start ack reports payload) e)
      unfolding input_taken informed statuses_merged acknowledged
      taken_good true =
          by_pick (λ x. Good (inputs_received now got x)) (announces acked.state) (disconnect_announced acked) acked
          (λ _. got_good got (disconnect_announced acked) got_sound (event_good _ (changed_good acked acked_good _ (flags_part acked.state acked_good.state _ acked_good.state.notify)) Event.Disconnected))
          (λ _. got_good got acked got_sound acked_good)
      taken_good false =
          got_good got (change (statuses_merged reports) acked) got_sound
          (changed_good acked acked_good _
          (statuses_part acked.state acked_good.state _ (all_length e.state.statuses _ ∙ g.state.players) (merged_statuses e.state.statuses reports g.state.statuses frames)))

    unless_good : (is_discarded disconnect : Bool) (e : Effect) → (is_discarded ≡ false → bias32 ≤ start) → Good e
        → Good (input_unless is_discarded now (input_message disconnect start ack reports payload) e).effect
    unfolding input_unless
    unless_good true disconnect e from g = g
    unless_good false disconnect e from g = taken_good e g (from refl) disconnect

    input_good : (count : ℕ) (disconnect : Bool) (e : Effect) → Good e → Good (on_input now count (input_message disconnect start ack reports payload) e).effect
    unfolding on_input discarded
    input_good count disconnect e g =
        unless_good (discarded disconnect count start e.state) disconnect e (λ q. ltb-false start bias32 (neither (not disconnect && not (eqb count e.state.setup.players)) _ q).1) g

-- ---- the others

module _ (now : ℕ) (small : now < 2 ^ 62) (e : Effect) (g : Good e) where
  report_good : (advantage : ℕ) (ping : Wide) → advantage < 2 ^ 16 → FitsWide ping → Good (on_quality_report now advantage ping e).effect
  unfolding on_quality_report remote_advantage
  report_good advantage ping a p =
      body_only_good _ (changed_good e g _ (quality_part e.state g.state _ (remote_quality e.state.quality g.state.quality advantage a))) now small (QualityReply ping) p

  trip_good : (epoch : ℕ) (pong : Wide) → epoch < 2 ^ 62 → Good (on_quality_reply epoch pong e).effect
  unfolding on_quality_reply round_trip_noted
  trip_good epoch pong late =
      changed_good e g _ (quality_part e.state g.state _ (trip_quality e.state.quality g.state.quality epoch pong.low pong.high late))

  checksum_good : (frame : ℕ) (checksum : Wide) → frame < 2 ^ 32 → FitsWide checksum → Good (on_checksum_report frame checksum e).effect
  unfolding on_checksum_report
  checksum_good frame checksum f c =
      let x = checksum_of frame checksum in
      let l = e.state.checksums in
      let firm = firm_in e.state in
      let i = interval_in e.state in
      changed_good e g _
      (checksums_part e.state g.state _ (report_distinct firm x i l g.state.frames) (report_bound firm x i l g.state.checksums.0)
      (reported_checksums firm x i l (f, c.0, c.1) g.state.checksums.1) (reported_firm firm x i l g.state.firm))

  pub body_good : (epoch nonce : ℕ) → epoch < 2 ^ 62 → nonce < 2 ^ 32 → (count : ℕ) (w : Wire) → TypedWire w → (b : MessageBody) → FitsBody b
      → (on_body b count w now epoch nonce e).store_full ≡ false → Good (on_body b count w now epoch nonce e).effect
  unfolding on_body on_input_ack
  body_good epoch nonce late named count w t (SyncRequest asked) b f = asked_good now nonce small named asked b e g
  body_good epoch nonce late named count w t (SyncReply reply) b f = reply_good now nonce small named w.magic reply t.magic e g
  body_good epoch nonce late named count w t (Input disconnect start ack) b f = input_good now small start ack w.reports w.payload b.0 t.frames t.bytes count disconnect e g
  body_good epoch nonce late named count w t (InputAck ack) b f = acknowledged_good ack e g
  body_good epoch nonce late named count w t (QualityReport advantage ping) b f = report_good advantage ping b.0 b.1
  body_good epoch nonce late named count w t (QualityReply pong) b f = trip_good epoch pong late
  body_good epoch nonce late named count w t (ChecksumReport checksum frame) b f = checksum_good frame checksum b.1 b.0
  body_good epoch nonce late named count w t KeepAlive b f = g
