-- Act and sending an input keep what holds.
use borrow.Author.Tests.{eqb-true, not-false}
use mathlib.Core.Bool.{false}
use mathlib.Core.List.{List, [], ◌∷◌}
use mathlib.Core.Path.{◌≡◌, refl, sym, ◌∙◌}
use Prim.Native.Nat.{ℕ, ◌^◌, ◌≤◌, ◌<◌}
use native.Mathlib.Omega.{arith}
use lib.Dec.{ltb, leb}
use lib.ListN.{length}
use Rattle.base.specs.Little.{Bytes}
use Rattle.packing.specs.Pad.{padded}
use Rattle.packing.specs.declared.input_bytes.InputBytes.{InputBytes}
use Rattle.quality.specs.Quality.{clamped}
use Rattle.quality.proofs.Laws.{clamped_below}
use Rattle.status.specs.declared.ConnectionStatus.{ConnectionStatus}
use Rattle.codec.specs.declared.MessageBody.TheVariants.{QualityReport, KeepAlive}
use Rattle.events.specs.declared.Event.TheVariants as Event
use Rattle.setup.specs.Setup.{sending_width}
use Rattle.setup.proofs.Laws.{sending_within}
use Rattle.endpoint_rules.specs.declared.Phase.{Phase}
use Rattle.endpoint_rules.specs.declared.Phase.TheVariants.{Initializing, Synchronizing, Running, Disconnected, Shutdown}
use Rattle.endpoint_rules.specs.Seen.{Seen, is_initializing, is_synchronizing, is_running, with_phase, input_at}
use Rattle.endpoint_rules.specs.Did.{Effect, begin, change, queue_wire}
use Rattle.endpoint_rules.specs.Sending.{bad_frame, bad_bytes, pending_full, pending_queued, queue_pending, accepted, announces_most, input_sent}
use Rattle.endpoint_rules.specs.Act.{request_due, resend_due, report_due, keep_alive_due, interruption_due, disconnect_due, resent, report_sent, kept_alive, interrupted, timed_out, acted}
use Rattle.endpoint_rules.specs.Reports.{ping_of, report_queued}
use Rattle.endpoint_invariant.specs.Each.{Each}
use Rattle.endpoint_invariant.specs.Sound.{Sound, SoundStatus}
use Rattle.endpoint_invariant.proofs.Choices.{never, by_pick}
use Rattle.endpoint_invariant.proofs.Parts.{sender_part, phase_part, clocks_part, flags_part}
use Rattle.endpoint_invariant.proofs.Fields.{quality_clock, input_clock}
use Rattle.endpoint_invariant.proofs.Syncs.{closed_sync}
use Rattle.endpoint_invariant.proofs.Senders.{accepted_sender}
use Rattle.endpoint_invariant.proofs.Effects.{Good, begun, changed_good, event_good, body_only_good}
use Rattle.endpoint_invariant.proofs.Outputs.{pending_good}
use Rattle.endpoint_invariant.proofs.Requests.{request_good}

-- ---- closing

pub closed_phase : (s : Seen) → Sound s → (p : Phase) → is_initializing p ≡ false → is_synchronizing p ≡ false → is_running p ≡ false → Sound (with_phase p s)
closed_phase s h p i k r = phase_part s h p s.sync (closed_sync s.phase s.sync h.sync p i k r) (λ e. never (sym (rw (i, k)) ∙ e))

-- ---- act

module _ (now : ℕ) (statuses : List ConnectionStatus) (small : now < 2 ^ 62) (few : length statuses ≤ 4) (frames : Each SoundStatus statuses) where
  -- in Running, all along
  abbrev Runs : Effect → Type 0
  Runs e = Good e × (e.state.phase ≡ Running)

  pending_phase : (l : List InputBytes) (e : Effect) → (pending_queued now statuses l e).state.phase ≡ e.state.phase
  unfolding pending_queued queue_wire
  pending_phase [] e = refl
  pending_phase (x ∷ l) e = refl

  resent_runs : (e : Effect) → Runs e → Runs (resent now statuses e)
  unfolding resent
  resent_runs e h =
      let x : Effect = queue_pending now statuses e in
      let g : Good x = pending_good statuses few frames now small e.state.carried.sender.pending e h.0 in
      by_pick Runs (resend_due now e.state) (change (input_at now) x) e
      (λ _. (changed_good x g _ (clocks_part x.state g.state _ (input_clock x.state.clocks g.state.clocks now small)), pending_phase e.state.carried.sender.pending e ∙ h.1))
      (λ _. h)

  reported_runs : (epoch : ℕ) → epoch < 2 ^ 62 → (e : Effect) → Runs e → Runs (report_sent now epoch e)
  unfolding report_sent report_queued queue_wire
  reported_runs epoch late e h =
      by_pick Runs (report_due now e.state) (report_queued now epoch e) e
      (λ _. (
        body_only_good _ (changed_good e h.0 _ (clocks_part e.state h.0.state _ (quality_clock e.state.clocks h.0.state.clocks now small))) now small
            (QualityReport (clamped e.state.quality.local_frame_advantage) (ping_of epoch)) (clamped_below e.state.quality.local_frame_advantage, (omega arith, omega arith)),
        h.1,
      ))
      (λ _. h)

  alive_runs : (e : Effect) → Runs e → Runs (kept_alive now e)
  unfolding kept_alive queue_wire
  alive_runs e h = by_pick Runs (keep_alive_due now e.state) _ e (λ _. (body_only_good e h.0 now small KeepAlive tt, h.1)) (λ _. h)

  -- an interruption is announced in Running alone
  interrupted_runs : (e : Effect) → Runs e → Runs (interrupted now e)
  unfolding interrupted
  interrupted_runs e h =
      by_pick Runs (interruption_due now e.state) _ e
      (λ _. (event_good _ (changed_good e h.0 _ (flags_part e.state h.0.state _ (λ q. never (rw h.1 at q)))) _, h.1))
      (λ _. h)

  timed_good : (e : Effect) → Good e → Good (timed_out now e)
  unfolding timed_out
  timed_good e g =
      by_pick Good (disconnect_due now e.state) _ e (λ _. event_good _ (changed_good e g _ (flags_part e.state g.state _ g.state.notify)) Event.Disconnected) (λ _. g)

  module _ (epoch nonce : ℕ) (late : epoch < 2 ^ 62) (named : nonce < 2 ^ 32) (s : Seen) (h : Sound s) where
    pub acted_good : (p : Phase) → s.phase ≡ p → Good (acted p now epoch nonce statuses (begin s))
    unfolding acted
    acted_good Initializing e = begun s h
    acted_good Synchronizing e =
        by_pick Good (request_due now s) _ (begin s) (λ _. request_good now nonce small named (begin s) (begun s h) (rw e)) (λ _. begun s h)
    acted_good Running e = timed_good _ (interrupted_runs _ (alive_runs _ (reported_runs epoch late _ (resent_runs (begin s) (begun s h, e))))).0
    acted_good Disconnected e =
        by_pick Good (ltb s.clocks.shutdown_timeout now) (change (with_phase Shutdown) (begin s)) (begin s)
        (λ _. changed_good (begin s) (begun s h) _ (closed_phase s h Shutdown refl refl refl)) (λ _. begun s h)
    acted_good Shutdown e = begun s h

  -- ---- send_input

  many_good : (e : Effect) → Good e → Good (announces_most e)
  unfolding announces_most
  many_good e g = by_pick Good (leb 129 (length e.state.carried.sender.pending)) _ e (λ _. event_good e g Event.Disconnected) (λ _. g)

  pub sent_good : (frame : ℕ) (bytes : List ℕ) (s : Seen) → frame < 2 ^ 32 → Bytes bytes → Sound s → bad_bytes bytes s ≡ false → bad_frame frame s.carried.sender ≡ false → pending_full s ≡ false
      → Good (input_sent now frame bytes statuses (begin s))
  unfolding input_sent accepted
  sent_good frame bytes s number are h b f r =
      let x : InputBytes = record { frame = frame; bytes = padded bytes } in
      let wide = sending_within s.setup h.setup in
      let long : length bytes ≡ sending_width s.setup = eqb-true _ _ (not-false _ b) in
      let a : Good (change (accepted x) (begin s))
      = changed_good (begin s) (begun s h) _
      (sender_part s h _ (accepted_sender (sending_width s.setup) frame bytes number are long wide.1 s.carried.sender.pending s.carried.sender.acked (not-false _ r) f h.sender)) in
      pending_good statuses few frames now small _ _ (many_good _ a)
