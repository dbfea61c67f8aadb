-- The ways out of `message`: what a body does to an endpoint that has heard it is what the message does.
use Rattle.std.specs.Prelude.{Ok, Err}
use mathlib.Core.Bool.{Bool, true, false, ◌||◌}
use mathlib.Core.List.{List, []}
use mathlib.Core.Path.{◌≡◌, refl, sym, ◌∙◌, subst}
use Prim.Native.Nat.{ℕ}
use lib.ListN.{length}
use Rattle.answer.specs.declared.Refusal.TheVariants.{BadClock}
use Rattle.codec.specs.Message.{report_list, meant}
use Rattle.codec.specs.declared.Wide.{Wide}
use Rattle.codec.specs.declared.Message.{Message}
use Rattle.codec.specs.declared.MessageBody.{MessageBody}
use Rattle.codec.specs.declared.MessageBody.TheVariants.{SyncRequest, SyncReply, Input, InputAck, QualityReport, QualityReply, ChecksumReport, KeepAlive}
use Rattle.codec.proofs.Meant.{meant_magic, meant_body, meant-reports, meant-payload}
use Rattle.setup.specs.Setup.{terms_with}
use Rattle.timers.specs.Timers.{bad_clock}
use Rattle.endpoint_rules.specs.Did.{Did, Effect}
use Rattle.endpoint_rules.specs.Handshake.{Reaction, plainly, on_sync_request, on_sync_reply}
use Rattle.endpoint_rules.specs.Receiving.{input_message, on_input, on_input_ack}
use Rattle.endpoint_rules.specs.Reports.{on_quality_report, on_quality_reply}
use Rattle.endpoint_rules.specs.Checksum.{on_checksum_report}
use Rattle.endpoint_rules.specs.Call.{Call}
use Rattle.endpoint_rules.specs.Step.{ignored_by, ignored, heard, on_body, reacted, step}
use Rattle.endpoint_rules.proofs.Laws.{message_clocks, message-ignored as ignored-step, message_reacts, by_hearing}
use Rattle.endpoint.specs.declared.Endpoint.{Endpoint}
use Rattle.endpoint.specs.declared.Ended.{Ended}
use Rattle.endpoint.specs.Endpoint.{seen, SameTerms, DidAs, DoneAs}
use Rattle.endpoint.proofs.Laws.Ends.{refused_did}
use Rattle.endpoint.proofs.Laws.Settled.{did_settled}
use Rattle.endpoint.proofs.Laws.Message.Unqueued.{unqueued}

module _ (e : Endpoint) (from : ℕ) (m : Message) (p : List ℕ) (now epoch nonce : ℕ) (buffer : List ℕ) where
  abbrev pub Does : Did
  Does = step (Call.message from m.reports.count (meant m p) now epoch nonce (length buffer)) (seen e)

  abbrev Reacts : Reaction → Ended → List ℕ → Type 0
  Reacts r x b' = DidAs e (reacted (length buffer) (seen e) r) buffer x b'

  abbrev Hears : Effect
  Hears = heard now (seen e)

  pub message_late : bad_clock now || bad_clock epoch ≡ true → DidAs e Does buffer (record { answer = Err BadClock; endpoint = e }) buffer
  unfolding step
  message_late h = refused_did e (Err BadClock) Does (message_clocks from m.reports.count (meant m p) now epoch nonce (length buffer) (seen e) h) buffer

  module _ (good : bad_clock now || bad_clock epoch ≡ false) where
    filters : ignored from (meant m p).magic (seen e) ≡ ignored_by e.sync.phase e.setup.peer_addr e.sync.remote_magic from m.magic
    unfolding ignored seen terms_with
    filters = rw (meant_magic m p)

    pub message-ignored : ignored_by e.sync.phase e.setup.peer_addr e.sync.remote_magic from m.magic ≡ true
        → DidAs e Does buffer (record { answer = Ok tt; endpoint = e }) buffer
    unfolding step
    message-ignored h = refused_did e (Ok tt) Does (ignored-step from m.reports.count (meant m p) now epoch nonce (length buffer) (seen e) good (filters ∙ h)) buffer

    module _ (heeded : ignored_by e.sync.phase e.setup.peer_addr e.sync.remote_magic from m.magic ≡ false) (x : Ended) where
      reacts : (b : MessageBody) (b' : List ℕ) → m.body ≡ b → Reacts (on_body b m.reports.count (meant m p) now epoch nonce Hears) x b' → DidAs e Does buffer x b'
      unfolding step
      reacts b b' h d =
          rw (message_reacts from m.reports.count (meant m p) now epoch nonce (length buffer) (seen e) good (filters ∙ heeded))
          (subst (λ (y : MessageBody). Reacts (on_body y m.reports.count (meant m p) now epoch nonce Hears) x b') (sym (meant_body m p ∙ h)) d)

      pub sync_requested : (asked : ℕ) (b' : List ℕ) → m.body ≡ SyncRequest asked → Reacts (on_sync_request now asked Hears) x b' → DidAs e Does buffer x b'
      unfolding on_body
      sync_requested asked = reacts (SyncRequest asked)

      pub sync_replied : (reply : ℕ) (b' : List ℕ) → m.body ≡ SyncReply reply → Reacts (on_sync_reply now nonce m.magic reply Hears) x b' → DidAs e Does buffer x b'
      unfolding on_body
      sync_replied reply b' h d = reacts (SyncReply reply) b' h (rw (meant_magic m p) d)

      pub input_came : (disconnect : Bool) (start ack : ℕ) (b' : List ℕ) → m.body ≡ Input disconnect start ack
          → Reacts (on_input now m.reports.count (input_message disconnect start ack (report_list m.reports) p) Hears) x b' → DidAs e Does buffer x b'
      unfolding on_body
      input_came disconnect start ack b' h d = reacts (Input disconnect start ack) b' h (rw (meant-reports m p disconnect start ack h, meant-payload m p disconnect start ack h) d)

      pub acknowledged : (ack : ℕ) → m.body ≡ InputAck ack → DoneAs e (reacted 0 (seen e) (on_input_ack ack Hears)) x → DidAs e Does buffer x buffer
      unfolding on_body on_input_ack
      acknowledged ack h d = reacts (InputAck ack) buffer h (unqueued e _ (by_hearing now (seen e) (λ f. (on_input_ack ack f).effect.out ≡ []) (λ f t. refl)) buffer x d)

      pub quality_reported : (advantage : ℕ) (ping : Wide) (b' : List ℕ) → m.body ≡ QualityReport advantage ping
          → Reacts (on_quality_report now advantage ping Hears) x b' → DidAs e Does buffer x b'
      unfolding on_body
      quality_reported advantage ping = reacts (QualityReport advantage ping)

      pub quality_replied : (pong : Wide) → m.body ≡ QualityReply pong → DoneAs e (reacted 0 (seen e) (on_quality_reply epoch pong Hears)) x → DidAs e Does buffer x buffer
      unfolding on_body on_quality_reply
      quality_replied pong h d = reacts (QualityReply pong) buffer h (unqueued e _ (by_hearing now (seen e) (λ f. (on_quality_reply epoch pong f).effect.out ≡ []) (λ f t. refl)) buffer x d)

      pub checksum_reported : (checksum : Wide) (frame : ℕ) → m.body ≡ ChecksumReport checksum frame
          → DoneAs e (reacted 0 (seen e) (on_checksum_report frame checksum Hears)) x → DidAs e Does buffer x buffer
      unfolding on_body on_checksum_report
      checksum_reported checksum frame h d =
          reacts (ChecksumReport checksum frame) buffer h (unqueued e _ (by_hearing now (seen e) (λ f. (on_checksum_report frame checksum f).effect.out ≡ []) (λ f t. refl)) buffer x d)

      pub kept_alive_lem : m.body ≡ KeepAlive → DoneAs e (reacted 0 (seen e) (plainly Hears)) x → DidAs e Does buffer x buffer
      unfolding on_body
      kept_alive_lem h d = reacts KeepAlive buffer h (unqueued e _ (by_hearing now (seen e) (λ f. f.out ≡ []) (λ f t. refl)) buffer x d)

  pub message_settled : (r s : Ended) (b c : List ℕ) → DidAs e Does buffer r b → DidAs e Does buffer s c
      → (r.answer ≡ s.answer) × (seen r.endpoint ≡ seen s.endpoint) × SameTerms r.endpoint s.endpoint × (b ≡ c)
  message_settled = did_settled e Does buffer
