-- The ways out of `send_checksum_report` and of `update_local_frame_advantage`.
use borrow.Author.Tests.{eq-eqb, ne_eqb}
use mathlib.Core.Bool.{Bool, true, false, and-false}
use mathlib.Core.Path.{◌≡◌, refl, ap}
use native.Mathlib.Omega.{arith}
use Prim.Native.Nat.{ℕ}
use mathlib.Core.List.{List, append-nil}
use lib.ListN.{length}
use Rattle.base.specs.Pick.{pick}
use Rattle.answer.specs.Number.{Answered}
use Rattle.frame.specs.Bias.{null_frame}
use Rattle.setup.specs.Setup.{terms_with}
use Rattle.history.specs.History.{received, newest_of}
use Rattle.quality.specs.declared.Quality.{Quality}
use Rattle.answer.proofs.Number.{number_determines}
use Rattle.answer.proofs.Refused.{not_done}
use Rattle.quality.specs.Quality.{local_set}
use Rattle.quality.specs.Advantage.{advantage_of, advantage_overflows, shown_advantage}
use Rattle.endpoint_rules.specs.Did.{Did, refused, tested, Effect, begin, queue_wire}
use Rattle.endpoint_rules.specs.Advantage.{both_known, local_advantage, advantage_updated}
use Rattle.endpoint_rules.specs.Call.{Call}
use Rattle.endpoint_rules.specs.Step.{step, advantage_step, checksum_step}
use Rattle.endpoint.specs.declared.Endpoint.{Endpoint}
use Rattle.endpoint.specs.declared.Ended.{Ended}
use Rattle.endpoint.specs.Endpoint.{seen, SameTerms, DoneAs, DidAs}
use Rattle.endpoint.proofs.Laws.Ends.{remade, refused-done, refused_did, queued_did}
use Rattle.endpoint.proofs.Laws.Settled.{done_settled, did_settled}
use Rattle.codec.specs.Read.{body_only}
use Rattle.codec.specs.declared.Wide.{Wide}
use Rattle.codec.specs.declared.MessageBody.TheVariants.{ChecksumReport}
use Rattle.timers.specs.declared.Clocks.{Clocks}
use Rattle.timers.specs.Timers.{bad_clock, sent_at}
use Rattle.events.specs.Events.{held_events, has_room}
use Rattle.answer.specs.declared.Refusal.{Refusal}
use Rattle.std.specs.Prelude.{Ok, Err}
use Rattle.outbox.specs.Outbox.{QueuedAs}
use Rattle.endpoint_rules.specs.Checksum.{checksum_sent}
use Rattle.endpoint.proofs.Laws.Room.{full_buffer, room_one}

-- ---- send_checksum_report

module _ (e : Endpoint) (buffer : List ℕ) (frame : ℕ) (checksum : Wide) (now : ℕ) where
  abbrev Sent : Did
  Sent = step (Call.send_checksum_report frame checksum now (length buffer)) (seen e)

  abbrev Sends : Endpoint → Answered → List ℕ → Type 0
  Sends n a b' = DidAs e Sent buffer (record { answer = a; endpoint = n }) b'

  abbrev Sending : Effect
  Sending = checksum_sent now frame checksum (begin (seen e))

  pub send_checksum_clock : bad_clock now ≡ true → Sends e (Err Refusal.BadClock) buffer
  unfolding step checksum_step tested
  send_checksum_clock h = refused_did e (Err Refusal.BadClock) (checksum_step frame checksum now (length buffer) (seen e)) (rw h) buffer

  module _ (good : bad_clock now ≡ false) (b' : List ℕ) where
    pub send_checksum_full : (r : Refusal) → QueuedAs buffer e.queued (body_only e.setup.magic (ChecksumReport checksum frame)) (Err r) b' → Sends e (Err r) b'
    unfolding step checksum_step tested checksum_sent queue_wire seen terms_with
    send_checksum_full r eq =
        let x = eq in
        rw (x.1, x.2)
        (refused_did e (Err Refusal.Full) (checksum_step frame checksum now (length buffer) (seen e)) (rw (good, full_buffer buffer Sending _ (omega arith) refl x.0)) buffer)

    pub send_checksum_done : (q : ℕ) → QueuedAs buffer e.queued (body_only e.setup.magic (ChecksumReport checksum frame)) (Ok q) b' → (c : Clocks) → has_room (held_events e.events) 0 ≡ true → c ≡ sent_at now e.clocks
        → Sends (remade e e.pending e.acked e.history e.sync e.nonces c e.flags e.quality e.statuses e.checksums e.events q) (Ok tt) b'
    unfolding step checksum_step tested checksum_sent queue_wire seen terms_with
    send_checksum_done q eq c room ec =
        queued_did e _ (record { setup = refl; count = refl }) Sending (checksum_step frame checksum now (length buffer) (seen e))
        (rw (good, room_one buffer Sending _ (omega arith) refl room eq.room))
        _ refl buffer b' q eq refl (rw (ec, append-nil))

  pub send_checksum_report_settled : (r s : Ended) (b c : List ℕ) → DidAs e Sent buffer r b → DidAs e Sent buffer s c
      → (r.answer ≡ s.answer) × (seen r.endpoint ≡ seen s.endpoint) × SameTerms r.endpoint s.endpoint × (b ≡ c)
  send_checksum_report_settled = did_settled e Sent buffer

-- ---- update_local_frame_advantage

-- what an advantage that is shown says of the tests
abbrev Shown : Bool → ℕ → ℕ × ℕ
Shown overflows n = pick overflows (6, 0) (0, n)

shown_overflow : (b : Bool) (n : ℕ) (r : Refusal) → shown_advantage (Err r) ≡ Shown b n → (b ≡ true) × (r ≡ Refusal.Overflow)
shown_overflow true n r e = (refl, let same = number_determines (Err r) (Err Refusal.Overflow) (ap (λ (x : ℕ × ℕ). x.0) e) in cc)
shown_overflow false n r e = absurd (not_done r (ap (λ (x : ℕ × ℕ). x.0) e))

shown_frames : (b : Bool) (n m : ℕ) → (0, m) ≡ Shown b n → (b ≡ false) × (m ≡ n)
shown_frames true n m e = absurd (omega (arith, ap (λ (x : ℕ × ℕ). x.0) e))
shown_frames false n m e = (refl, ap (λ (x : ℕ × ℕ). x.1) e)

module _ (e : Endpoint) (frame : ℕ) where
  abbrev Advanced : Did
  Advanced = step (Call.update_local_frame_advantage frame) (seen e)

  abbrev Advances : Endpoint → Answered → Type 0
  Advances n a = DoneAs e Advanced (record { answer = a; endpoint = n })

  pub update_local_frame_advantage_settled : (r s : Ended) → DoneAs e Advanced r → DoneAs e Advanced s
      → (r.answer ≡ s.answer) × (seen r.endpoint ≡ seen s.endpoint) × SameTerms r.endpoint s.endpoint
  update_local_frame_advantage_settled = done_settled e Advanced

  unknown : both_known frame (seen e) ≡ false → Advances e (Ok tt)
  unfolding step advantage_step advantage_updated tested refused
  unknown h = refused-done e (Ok tt) (advantage_step frame (seen e)) (rw h)

  pub local_unknown : frame ≡ null_frame → Advances e (Ok tt)
  local_unknown h = unknown (rw (eq-eqb frame null_frame h))

  module _ (newest : ℕ) (en : newest ≡ newest_of (received e.history)) where
    pub newest_unknown : newest ≡ null_frame → Advances e (Ok tt)
    unfolding seen
    newest_unknown h = unknown (rw (← en, eq-eqb newest null_frame h, and-false))

    module _ (known : frame ≡ null_frame → ⊥) (some : newest ≡ null_frame → ⊥) where
      abbrev Overflows : Bool
      Overflows = advantage_overflows newest e.quality.round_trip_time e.setup.fps frame

      abbrev Behind : ℕ
      Behind = advantage_of newest e.quality.round_trip_time e.setup.fps frame

      pub advantage-overflows : (r : Refusal) → shown_advantage (Err r) ≡ Shown Overflows Behind → Advances e (Err r)
      unfolding step advantage_step tested seen terms_with
      advantage-overflows r h =
          let x = shown_overflow Overflows Behind r h in
          rw x.1 (refused-done e (Err Refusal.Overflow) (advantage_step frame (seen e)) (rw (← en, ne_eqb frame null_frame known, ne_eqb newest null_frame some, x.0)))

      pub advantage-shown : (m : ℕ) (y : Quality) → shown_advantage (Ok m) ≡ Shown Overflows Behind → y ≡ local_set m e.quality
          → Advances (remade e e.pending e.acked e.history e.sync e.nonces e.clocks e.flags y e.statuses e.checksums e.events e.queued) (Ok tt)
      unfolding step advantage_step advantage_updated local_advantage tested seen terms_with
      advantage-shown m y h ey =
          rw (← en, ne_eqb frame null_frame known, ne_eqb newest null_frame some, (shown_frames Overflows Behind m h).0, ey, (shown_frames Overflows Behind m h).1)
          (record { answer = refl; after = refl; terms = record { setup = refl; count = refl }; same = λ n. absurd (n refl) })
