-- The ways out of a quality report and of its reply.
use Rattle.std.specs.Prelude.{Ok, Err}
use mathlib.Core.Bool.{true, false}
use mathlib.Core.List.{List}
use mathlib.Core.Path.{◌≡◌, refl}
use native.Mathlib.Omega.{arith}
use Prim.Native.Nat.{ℕ}
use lib.ListN.{length}
use Rattle.codec.specs.Read.{body_only}
use Rattle.codec.specs.declared.Wide.{Wide}
use Rattle.codec.specs.declared.MessageBody.TheVariants.{QualityReply}
use Rattle.answer.specs.Number.{Answered}
use Rattle.answer.specs.declared.Refusal.TheVariants.{Full}
use Rattle.timers.specs.declared.Clocks.{Clocks}
use Rattle.timers.specs.Timers.{sent_at}
use Rattle.quality.specs.declared.Quality.{Quality}
use Rattle.quality.specs.Quality.{round_trip, remote_set, trip_noted}
use Rattle.answer.specs.declared.Refusal.{Refusal}
use Rattle.outbox.specs.Outbox.{QueuedAs}
use Rattle.endpoint_rules.specs.Reports.{remote_advantage, on_quality_report, round_trip_noted, on_quality_reply}
use Rattle.endpoint_rules.specs.Step.{heard, reacted}
use Rattle.endpoint.specs.declared.Endpoint.{Endpoint}
use Rattle.endpoint.specs.Endpoint.{seen, DidAs, DoneAs}
use Rattle.endpoint.proofs.Laws.Message.Hearing.{Ears, HeardAs}
use Rattle.endpoint.proofs.Laws.Ends.{remade}
use Rattle.endpoint.proofs.Laws.Message.Changed.{changes_full, changes_done}
use Rattle.endpoint.proofs.Laws.Message.Answered.{Aside, reply_unannounced, reply_full, reply_done}

module _ (e : Endpoint) (now : ℕ) where
  module _ (buffer : List ℕ) (advantage : ℕ) (ping : Wide) where
    abbrev Reported : Endpoint → Answered → List ℕ → Type 0
    Reported n a b' = DidAs e (reacted (length buffer) (seen e) (on_quality_report now advantage ping (heard now (seen e)))) buffer (record { answer = a; endpoint = n }) b'

    aside : Aside (remote_advantage advantage)
    unfolding remote_advantage
    aside = record { setup = λ s. refl; events = λ s. refl; queued = λ s. refl }

    pub report_full : (r : Refusal) (b' : List ℕ) → QueuedAs buffer e.queued (body_only e.setup.magic (QualityReply ping)) (Err r) b' → Reported e (Err r) b'
    unfolding on_quality_report
    report_full r b' eq = reply_full e buffer now (QualityReply ping) (remote_advantage advantage) aside r b' eq (omega arith)

  module _ (x : Ears) (ex : HeardAs e (heard now (seen e)) x) where
    -- how both leave it when they are done
    abbrev Noted : Clocks → Quality → (queued : ℕ) → Endpoint
    Noted c y queued = remade e e.pending e.acked e.history e.sync e.nonces c x.flags y e.statuses e.checksums x.events queued

    module _ (buffer : List ℕ) (advantage : ℕ) (ping : Wide) where
      pub report_unannounced : x.ok ≡ false → Reported buffer advantage ping e (Err Full) buffer
      unfolding on_quality_report
      report_unannounced k = reply_unannounced e buffer now (QualityReply ping) (remote_advantage advantage) (aside buffer advantage ping) x k ex

      pub report-done : (q : ℕ) (b' : List ℕ) → QueuedAs buffer e.queued (body_only e.setup.magic (QualityReply ping)) (Ok q) b' → (c : Clocks) (y : Quality) → x.ok ≡ true → c ≡ sent_at now x.clocks → y ≡ remote_set advantage e.quality → Reported buffer advantage ping (Noted c y q) (Ok tt) b'
      unfolding on_quality_report remote_advantage seen
      report-done q b' eq c y k ec ey =
          reply_done e buffer now (QualityReply ping) (remote_advantage advantage) (aside buffer advantage ping) x q b' eq (omega arith) _ (record { setup = refl; count = refl }) k
          (λ f t h. rw (ec, ey, h.clocks, h.flags, h.events, k)) ex

    module _ (epoch : ℕ) (pong : Wide) where
      abbrev Replied : Endpoint → Answered → Type 0
      Replied n a = DoneAs e (reacted 0 (seen e) (on_quality_reply epoch pong (heard now (seen e)))) (record { answer = a; endpoint = n })

      pub pong_full : x.ok ≡ false → Replied e (Err Full)
      unfolding on_quality_reply round_trip_noted
      pong_full k = changes_full e now x (round_trip_noted (round_trip epoch pong.low pong.high)) (λ s. refl) k ex

      pub pong_done : (y : Quality) → x.ok ≡ true → y ≡ trip_noted (round_trip epoch pong.low pong.high) e.quality → Replied (Noted x.clocks y e.queued) (Ok tt)
      unfolding on_quality_reply round_trip_noted seen
      pong_done y k ey =
          changes_done e now x (round_trip_noted (round_trip epoch pong.low pong.high)) (λ s. refl) _ (record { setup = refl; count = refl }) k
          (λ f t h. rw (ey, h.clocks, h.flags, h.events, k)) ex
