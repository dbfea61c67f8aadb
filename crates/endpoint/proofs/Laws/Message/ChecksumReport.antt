-- The ways out of a ChecksumReport.
use Rattle.std.specs.Prelude.{Ok, Err}
use mathlib.Core.Bool.{Bool, true, false}
use mathlib.Core.List.{List, []}
use mathlib.Core.Path.{◌≡◌, refl, sym, ◌∙◌}
use Prim.Native.Nat.{ℕ}
use Rattle.answer.specs.Number.{Answered}
use Rattle.answer.specs.declared.Refusal.TheVariants.{Full, Overflow}
use Rattle.codec.specs.declared.Wide.{Wide}
use Rattle.setup.specs.Setup.{terms_with, interval_of}
use Rattle.checksums.specs.declared.Checksums.{Checksums}
use Rattle.checksums.specs.Checksums.{stored}
use Rattle.checksums.specs.Report.{overflows_by, full_by, ReportedAs}
use Rattle.events.specs.declared.Entry.{Entry}
use Rattle.endpoint_rules.specs.declared.Flags.{Flags}
use Rattle.endpoint_rules.specs.Seen.{Seen}
use Rattle.endpoint_rules.specs.Did.{Effect, refused, tested}
use Rattle.endpoint_rules.specs.Handshake.{Reaction}
use Rattle.endpoint_rules.specs.Checksum.{checksum_of, on_checksum_report}
use Rattle.endpoint_rules.specs.Step.{heard, reacted}
use Rattle.endpoint_rules.proofs.Laws.{hearing, by_hearing}
use Rattle.endpoint.specs.declared.Endpoint.{Endpoint}
use Rattle.endpoint.specs.Endpoint.{seen, DoneAs}
use Rattle.endpoint.proofs.Laws.Message.Hearing.{Ears, HeardAs}
use Rattle.endpoint.proofs.Laws.Ends.{remade, refused-done, done-done}
use Rattle.endpoint.proofs.Laws.Room.{full_events, room_none, reacted_choked, reacted_full, reacted-done}

reacted-overflows : (n : ℕ) (s : Seen) (r : Reaction) → r.too_long ≡ false → r.overflows ≡ true → reacted n s r ≡ refused 6 s
unfolding reacted tested
reacted-overflows n s r short h = rw (short, h)

-- i: the interval; v: the store with the report
module _ (e : Endpoint) (checksum : Wide) (frame now i : ℕ) (ei : i ≡ interval_of e.setup.choices.desync_detection) (r : Answered) (v : Checksums) (er : ReportedAs e.checksums (checksum_of frame checksum) i e.setup.choices.firm_checksums r v) where
  abbrev pub Overflows : Bool
  Overflows = overflows_by e.setup.choices.firm_checksums frame i (stored e.checksums)

  abbrev pub Fills : Bool
  Fills = full_by e.setup.choices.firm_checksums frame i (stored e.checksums)

  abbrev Summed : Endpoint → Answered → Effect → Type 0
  Summed n a h = DoneAs e (reacted 0 (seen e) (on_checksum_report frame checksum h)) (record { answer = a; endpoint = n })

  abbrev Summing : Flags → List Entry → Effect
  Summing f t = (on_checksum_report frame checksum (hearing now (seen e) f t)).effect

  pub checksum_overflows : Overflows ≡ true → Summed e (Err Overflow) (heard now (seen e))
  unfolding on_checksum_report seen terms_with
  checksum_overflows o = by_hearing now (seen e) (Summed e (Err Overflow)) (λ f t. refused-done e (Err Overflow) _ (reacted-overflows 0 (seen e) _ refl (rw (← ei) o)))

  module _ (within : Overflows ≡ false) where
    pub checksum_choked : Fills ≡ true → Summed e (Err Full) (heard now (seen e))
    unfolding on_checksum_report seen terms_with
    checksum_choked c =
        by_hearing now (seen e) (Summed e (Err Full)) (λ f t. refused-done e (Err Full) _ (reacted_choked 0 (seen e) _ refl (rw (← ei) within) (rw (← ei) c)))

    module _ (x : Ears) (ex : HeardAs e (heard now (seen e)) x) where
      pub checksum_unannounced : x.ok ≡ false → Summed e (Err Full) (heard now (seen e))
      unfolding on_checksum_report seen terms_with
      checksum_unannounced k =
          by_hearing now (seen e) (λ h. HeardAs e h x → Summed e (Err Full) h) (λ f t h.
          refused-done e (Err Full) _ (reacted_full 0 (seen e) _ refl (rw (← ei) within) (full_events [] (Summing f t) (sym h.ok ∙ k)))) ex

      abbrev Stored : Endpoint
      Stored = remade e e.pending e.acked e.history e.sync e.nonces x.clocks x.flags e.quality e.statuses v x.events e.queued

      pub checksum_done : Fills ≡ false → x.ok ≡ true → Summed Stored (Ok tt) (heard now (seen e))
      unfolding on_checksum_report seen terms_with
      checksum_done c k =
          by_hearing now (seen e) (λ h. HeardAs e h x → Summed Stored (Ok tt) h) (λ f t h.
          done-done e Stored (record { setup = refl; count = refl }) (Summing f t) _
          (reacted-done 0 (seen e) _ refl (rw (← ei) within) (rw (← ei) c) (room_none [] (Summing f t) refl (sym h.ok ∙ k)))
          refl (rw (h.clocks, h.flags, h.events, k, er.view, ei))) ex
